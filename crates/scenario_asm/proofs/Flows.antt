-- A `flow` from the three parts of its words.
use Rattle.std.proofs.Common.{◌≡◌, ℕ, true, false, nat_le, length, List, [], ◌++◌, None, Result, Ok, Err, refl, ap, sym, ◌∙◌}
use Rattle.sim_time.specs.declared.variant.Variant.{Variant}
use Rattle.scenario_image.specs.declared.limits.TheConstants.{MOST_FLOWS}
use Rattle.scenario_asm.specs.declared.fault.Fault.{Fault}
use Rattle.scenario_asm.specs.declared.fault.Fault.TheVariants.{E9}
use Rattle.scenario_asm.specs.declared.statement.StatementFault.{StatementFault}
use Rattle.scenario_asm.specs.declared.statement.Statement.{Statement}
use Rattle.scenario_asm.specs.declared.statement.Statement.TheVariants.{Flow}
use Rattle.scenario_asm.specs.declared.statement.flow.FlowNumbers.{FlowNumbers}
use Rattle.scenario_asm.specs.WordParts.{IsReadFrom, flow_end_verdicts, flow_ends_said, flow_number_verdicts, flow_numbers_said, variant_verdicts, variant_said}
use Rattle.scenario_asm.specs.Lines.{Word}
use Rattle.scenario_asm.specs.Names.{Known}
use Rattle.scenario_asm.specs.Places.{judged_word, flow_word}
use Rattle.scenario_asm.specs.Refusals.{fault_in, word_in}
use Rattle.scenario_asm.specs.Statements.{has_flow_length, flow_verdicts, flow_said, nth, flow_at}
use Rattle.scenario_asm.specs.Verdicts.{first_fault}
use Rattle.scenario_asm.proofs.Verdicts.{no_faulty, judged_full, judged_ok}
use Rattle.scenario_asm.proofs.Parts.{fault_behind, refused, refused_last}

-- a `flow` is refused as its name and ends, its numbers or its sender's words are
pub ends_refused : (known : Known) (words : List Word) (refusal : StatementFault) → has_flow_length words ≡ true → IsReadFrom 1 (flow_end_verdicts known words) (flow_ends_said known words) (Err refusal) → (Err (fault_in refusal) ≡ flow_at known words) × (word_in refusal ≡ flow_word known words)
ends_refused known words refusal counted read = refused (flow_verdicts known words) [] (flow_end_verdicts known words) (flow_number_verdicts words ++ variant_verdicts words) (has_flow_length words) (nat_le MOST_FLOWS (length known.flows)) (Flow (nth words 1) (flow_said known words)) (flow_ends_said known words) refusal counted refl refl read

pub numbers_refused : (known : Known) (words : List Word) (refusal : StatementFault) → has_flow_length words ≡ true → first_fault (flow_end_verdicts known words) ≡ None → IsReadFrom 4 (flow_number_verdicts words) (flow_numbers_said words) (Err refusal)
    → (Err (fault_in refusal) ≡ flow_at known words) × (word_in refusal ≡ flow_word known words)
numbers_refused known words refusal counted ends read =
    refused (flow_verdicts known words) (flow_end_verdicts known words) (flow_number_verdicts words) (variant_verdicts words) (has_flow_length words) (nat_le MOST_FLOWS (length known.flows)) (Flow (nth words 1) (flow_said known words)) (flow_numbers_said words) refusal counted refl ends read

pub variant_refused : (known : Known) (words : List Word) (refusal : StatementFault) → has_flow_length words ≡ true → first_fault (flow_end_verdicts known words) ≡ None → first_fault (flow_number_verdicts words) ≡ None → IsReadFrom 9 (variant_verdicts words) (variant_said words) (Err refusal)
    → (Err (fault_in refusal) ≡ flow_at known words) × (word_in refusal ≡ flow_word known words)
variant_refused known words refusal counted ends numbers read =
    refused_last (flow_verdicts known words) (flow_end_verdicts known words ++ flow_number_verdicts words) (variant_verdicts words) (has_flow_length words) (nat_le MOST_FLOWS (length known.flows)) (Flow (nth words 1) (flow_said known words)) (variant_said words) refusal counted refl
    (fault_behind (flow_end_verdicts known words) (flow_number_verdicts words) ends ∙ numbers) read

-- no verdict on a `flow` is a fault where its three parts are read
pub all_right : (known : Known) (words : List Word) → first_fault (flow_end_verdicts known words) ≡ None → first_fault (flow_number_verdicts words) ≡ None → first_fault (variant_verdicts words) ≡ None → first_fault (flow_verdicts known words) ≡ None
all_right known words ends numbers variant =
    fault_behind (flow_end_verdicts known words) (flow_number_verdicts words ++ variant_verdicts words) ends ∙ (fault_behind (flow_number_verdicts words) (variant_verdicts words) numbers ∙ variant)

-- one flow too many
pub flow_full : (known : Known) (words : List Word) → has_flow_length words ≡ true → first_fault (flow_verdicts known words) ≡ None → nat_le MOST_FLOWS (length known.flows) ≡ true → Err E9 ≡ flow_at known words
flow_full known words counted right full = sym (judged_full _ (flow_verdicts known words) _ _ counted right full)

pub flow_without_word : (known : Known) (words : List Word) → has_flow_length words ≡ true → first_fault (flow_verdicts known words) ≡ None → None ≡ flow_word known words
flow_without_word known words counted right = sym (ap (λ b. judged_word b (flow_verdicts known words)) counted ∙ no_faulty 1 (flow_verdicts known words) right)

-- the flow of the three parts
abbrev flow_of : Word × ℕ × ℕ → FlowNumbers → Variant → Result Statement Fault
flow_of ends numbers variant =
    Ok (Flow ends.0 (record { sender = ends.1; receiver = ends.2; mss = numbers.mss; segments = numbers.segments; start = numbers.start; rwnd = numbers.rwnd; delack = numbers.delack; variant = variant }))

pub flow_ok : (known : Known) (words : List Word) (name : Word) (sender receiver : ℕ) (numbers : FlowNumbers) (variant : Variant) → has_flow_length words ≡ true → first_fault (flow_verdicts known words) ≡ None → nat_le MOST_FLOWS (length known.flows) ≡ false
    → IsReadFrom 1 (flow_end_verdicts known words) (flow_ends_said known words) (Ok (name, sender, receiver)) → IsReadFrom 4 (flow_number_verdicts words) (flow_numbers_said words) (Ok numbers) → IsReadFrom 9 (variant_verdicts words) (variant_said words) (Ok variant)
    → flow_of (name, sender, receiver) numbers variant ≡ flow_at known words
flow_ok known words name sender receiver numbers variant counted right room ends_read numbers_read variant_read =
    ap (λ e. flow_of e numbers variant) ends_read.1
    ∙ ap (λ n. flow_of (flow_ends_said known words) n variant) numbers_read.1
    ∙ ap (λ v. flow_of (flow_ends_said known words) (flow_numbers_said words) v) variant_read.1
    ∙ sym (judged_ok _ (flow_verdicts known words) _ _ counted right room)
