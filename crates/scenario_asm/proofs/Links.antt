-- A `link` from the three parts of its words.
use Rattle.std.proofs.Common.{◌≡◌, ℕ, ◌||◌, Bool, true, false, if◌then◌else◌, nat_le, length, List, [], ◌∷◌, ◌++◌, None, Result, Ok, Err, refl, ap, sym, ◌∙◌}
use Rattle.std.specs.Option.{option_or}
use Rattle.sim_time.specs.declared.queue_kind.QueueKind.{QueueKind}
use Rattle.scenario_image.specs.declared.limits.TheConstants.{MOST_LINKS}
use Rattle.scenario_asm.specs.declared.fault.Fault.{Fault}
use Rattle.scenario_asm.specs.declared.fault.Fault.TheVariants.{E9}
use Rattle.scenario_asm.specs.declared.statement.StatementFault.{StatementFault}
use Rattle.scenario_asm.specs.declared.statement.Statement.{Statement}
use Rattle.scenario_asm.specs.declared.statement.Statement.TheVariants.{Link}
use Rattle.scenario_asm.specs.WordParts.{IsReadFrom, link_end_verdicts, link_ends_said, link_number_verdicts, link_numbers_said}
use Rattle.scenario_asm.specs.Lines.{Word}
use Rattle.scenario_asm.specs.Names.{Known, number_of, is_full_router}
use Rattle.scenario_asm.specs.Places.{judged_word, link_word}
use Rattle.scenario_asm.specs.Refusals.{fault_in, word_in}
use Rattle.scenario_asm.specs.Statements.{nth, is_codel, has_link_length, codel_number_verdicts, codel_verdicts, codel_verdict, link_first_verdicts, link_verdicts, queue_said, link_said, link_statement}
use Rattle.scenario_asm.specs.Verdicts.{Verdict, first_fault}
use Rattle.scenario_asm.proofs.Verdicts.{or_none, fault_of_both, no_faulty, judged_full, judged_ok}
use Rattle.scenario_asm.proofs.Parts.{fault_behind, refused, refused_last}

if_faults : (t : Bool) (verdicts : List Verdict) → first_fault (if t then verdicts else []) ≡ (if t then first_fault verdicts else None)
if_faults true verdicts = refl
if_faults false verdicts = refl

-- the verdicts on a `link` have the first fault of those on its words one by one
same_fault : (known : Known) (words : List Word) → first_fault (link_verdicts known words) ≡ first_fault (link_first_verdicts known words ++ codel_verdicts words)
same_fault known words =
    let last : first_fault (codel_verdicts words) ≡ first_fault (codel_verdict words ∷ []) = if_faults (is_codel words) (codel_number_verdicts words) ∙ or_none (codel_verdict words) in
    fault_of_both (link_first_verdicts known words) (codel_verdict words ∷ [])
    ∙ (ap (λ v. option_or (first_fault (link_first_verdicts known words)) v) (sym last) ∙ sym (fault_of_both (link_first_verdicts known words) (codel_verdicts words)))

-- whether there are as many links as there may be, or as many that leave this node
abbrev is_over : Known → ℕ → Bool
is_over known from = nat_le MOST_LINKS (length known.links) || is_full_router known from

-- a `link` is refused as its name and ends, its numbers or its queue's words are
pub ends_refused : (known : Known) (words : List Word) (refusal : StatementFault) → has_link_length words ≡ true → IsReadFrom 1 (link_end_verdicts known words) (link_ends_said known words) (Err refusal) → (Err (fault_in refusal) ≡ link_statement known words) × (word_in refusal ≡ link_word known words)
ends_refused known words refusal counted read =
    refused (link_verdicts known words) [] (link_end_verdicts known words) (link_number_verdicts words ++ codel_verdicts words) (has_link_length words) (is_over known (number_of known (nth words 2))) (Link (nth words 1) (link_said known words)) (link_ends_said known words) refusal counted (same_fault known words) refl read

pub numbers_refused : (known : Known) (words : List Word) (refusal : StatementFault) → has_link_length words ≡ true → first_fault (link_end_verdicts known words) ≡ None → IsReadFrom 4 (link_number_verdicts words) (link_numbers_said words) (Err refusal)
    → (Err (fault_in refusal) ≡ link_statement known words) × (word_in refusal ≡ link_word known words)
numbers_refused known words refusal counted ends read =
    refused (link_verdicts known words) (link_end_verdicts known words) (link_number_verdicts words) (codel_verdicts words) (has_link_length words) (is_over known (number_of known (nth words 2))) (Link (nth words 1) (link_said known words)) (link_numbers_said words) refusal counted (same_fault known words) ends read

pub queue_refused : (known : Known) (words : List Word) (refusal : StatementFault) → has_link_length words ≡ true → first_fault (link_end_verdicts known words) ≡ None → first_fault (link_number_verdicts words) ≡ None → IsReadFrom 8 (codel_verdicts words) (queue_said words) (Err refusal)
    → (Err (fault_in refusal) ≡ link_statement known words) × (word_in refusal ≡ link_word known words)
queue_refused known words refusal counted ends numbers read =
    refused_last (link_verdicts known words) (link_end_verdicts known words ++ link_number_verdicts words) (codel_verdicts words) (has_link_length words) (is_over known (number_of known (nth words 2))) (Link (nth words 1) (link_said known words)) (queue_said words) refusal counted (same_fault known words)
    (fault_behind (link_end_verdicts known words) (link_number_verdicts words) ends ∙ numbers) read

-- no verdict on a `link` is a fault where its three parts are read
pub all_right : (known : Known) (words : List Word) → first_fault (link_end_verdicts known words) ≡ None → first_fault (link_number_verdicts words) ≡ None → first_fault (codel_verdicts words) ≡ None → first_fault (link_first_verdicts known words ++ codel_verdicts words) ≡ None
all_right known words ends numbers queue =
    fault_behind (link_end_verdicts known words) (link_number_verdicts words ++ codel_verdicts words) ends ∙ (fault_behind (link_number_verdicts words) (codel_verdicts words) numbers ∙ queue)

-- one link too many
pub link_full : (known : Known) (words : List Word) (name : Word) (from to : ℕ) → has_link_length words ≡ true → first_fault (link_first_verdicts known words ++ codel_verdicts words) ≡ None → IsReadFrom 1 (link_end_verdicts known words) (link_ends_said known words) (Ok (name, from, to)) → is_over known from ≡ true → Err E9 ≡ link_statement known words
link_full known words name from to counted right ends_read full =
    sym (judged_full _ (link_verdicts known words) _ _ counted (same_fault known words ∙ right) (ap (λ (e : Word × ℕ × ℕ). is_over known e.1) (sym ends_read.1) ∙ full))

pub link_without_word : (known : Known) (words : List Word) → has_link_length words ≡ true → first_fault (link_first_verdicts known words ++ codel_verdicts words) ≡ None → None ≡ link_word known words
link_without_word known words counted right =
    sym (ap (λ b. judged_word b (link_first_verdicts known words ++ codel_verdicts words)) counted ∙ no_faulty 1 (link_first_verdicts known words ++ codel_verdicts words) right)

-- the link of the three parts
abbrev link_of : Word × ℕ × ℕ → ℕ × ℕ × ℕ → QueueKind → Result Statement Fault
link_of ends numbers queue = Ok (Link ends.0 (record { from = ends.1; to = ends.2; rate = numbers.0; delay = numbers.1; queue = queue; capacity = numbers.2 }))

pub link_ok : (known : Known) (words : List Word) (name : Word) (from to rate delay capacity : ℕ) (queue : QueueKind) → has_link_length words ≡ true → first_fault (link_first_verdicts known words ++ codel_verdicts words) ≡ None → is_over known from ≡ false
    → IsReadFrom 1 (link_end_verdicts known words) (link_ends_said known words) (Ok (name, from, to)) → IsReadFrom 4 (link_number_verdicts words) (link_numbers_said words) (Ok (rate, delay, capacity)) → IsReadFrom 8 (codel_verdicts words) (queue_said words) (Ok queue)
    → link_of (name, from, to) (rate, delay, capacity) queue ≡ link_statement known words
link_ok known words name from to rate delay capacity queue counted right room ends_read numbers_read queue_read =
    ap (λ e. link_of e (rate, delay, capacity) queue) ends_read.1
    ∙ ap (λ n. link_of (link_ends_said known words) n queue) numbers_read.1
    ∙ ap (λ q. link_of (link_ends_said known words) (link_numbers_said words) q) queue_read.1
    ∙ sym (judged_ok _ (link_verdicts known words) _ _ counted (same_fault known words ∙ right) (ap (λ (e : Word × ℕ × ℕ). is_over known e.1) (sym ends_read.1) ∙ room))
