-- The words of a `flow` and of a `link` in three parts: the name and ends, the numbers, and which sender or queue it has.
use Rattle.std.specs.Prelude.{◌≡◌, ℕ, ◌-◌, ◌||◌, List, [], ◌∷◌, Some, None, Result, Ok, Err}
use Rattle.sim_time.specs.declared.variant.Variant.{Variant}
use Rattle.scenario_asm.specs.Bounds.{LEAST_RATE, GREATEST_RATE, LONGEST_DELAY, LATEST_END, GREATEST_MSS, MOST_SEGMENTS, GREATEST_RWND, LONGEST_DELACK}
use Rattle.scenario_asm.specs.declared.fault.Fault.TheVariants.{E4}
use Rattle.scenario_asm.specs.declared.statement.StatementFault.{StatementFault}
use Rattle.scenario_asm.specs.declared.statement.flow.FlowNumbers.{FlowNumbers}
use Rattle.scenario_asm.specs.Lines.{Word}
use Rattle.scenario_asm.specs.Numbers.{number, number_verdict}
use Rattle.scenario_asm.specs.Names.{Known, number_of, new_name_verdict, node_verdict, other_node_verdict, sender_verdict, receiver_verdict}
use Rattle.scenario_asm.specs.Places.{first_faulty}
use Rattle.scenario_asm.specs.Refusals.{fault_in, word_in}
use Rattle.scenario_asm.specs.Statements.{nth, is_drop_tail, is_codel, tcp_verdict, tcp_said, iw_verdict, iw_said}
use Rattle.scenario_asm.specs.Verdicts.{Verdict, first_fault, faulty_unless}

-- words from a place on are read: as a value where no verdict on them is a fault, and else they are refused for the first, at its word
abbrev pub IsReadFrom : {A : Type 0} → ℕ → List Verdict → A → Result A StatementFault → Type 0
IsReadFrom place verdicts value (Ok read) = (first_fault verdicts ≡ None) × (read ≡ value)
IsReadFrom place verdicts value (Err refusal) = (first_fault verdicts ≡ Some (fault_in refusal)) × (word_in refusal ≡ first_faulty place verdicts)

-- the name and the ends of a flow
abbrev pub flow_end_verdicts : Known → List Word → List Verdict
flow_end_verdicts known words = new_name_verdict known (nth words 1) ∷ sender_verdict known (nth words 2) ∷ receiver_verdict known (nth words 3) ∷ []

abbrev pub flow_ends_said : Known → List Word → Word × ℕ × ℕ
flow_ends_said known words = (nth words 1, number_of known (nth words 2), number_of known (nth words 3))

-- its numbers
abbrev pub flow_number_verdicts : List Word → List Verdict
flow_number_verdicts words =
    number_verdict 1 GREATEST_MSS (nth words 4)
    ∷ number_verdict 1 MOST_SEGMENTS (nth words 5)
    ∷ number_verdict 0 (LATEST_END - 1) (nth words 6)
    ∷ number_verdict (number (nth words 4)) GREATEST_RWND (nth words 7)
    ∷ number_verdict 0 LONGEST_DELACK (nth words 8)
    ∷ []

abbrev pub flow_numbers_said : List Word → FlowNumbers
flow_numbers_said words = record { mss = number (nth words 4); segments = number (nth words 5); start = number (nth words 6); rwnd = number (nth words 7); delack = number (nth words 8) }

-- which sender it has
abbrev pub variant_verdicts : List Word → List Verdict
variant_verdicts words = tcp_verdict words ∷ iw_verdict words ∷ []

abbrev pub variant_said : List Word → Variant
variant_said words = record (tcp_said words) { iw = iw_said words }

-- the name and the ends of a link
abbrev pub link_end_verdicts : Known → List Word → List Verdict
link_end_verdicts known words = new_name_verdict known (nth words 1) ∷ node_verdict known (nth words 2) ∷ other_node_verdict known (number_of known (nth words 2)) (nth words 3) ∷ []

abbrev pub link_ends_said : Known → List Word → Word × ℕ × ℕ
link_ends_said known words = (nth words 1, number_of known (nth words 2), number_of known (nth words 3))

-- its rate, its delay, whether it says how its queue drops, and its capacity
abbrev pub link_number_verdicts : List Word → List Verdict
link_number_verdicts words =
    number_verdict LEAST_RATE GREATEST_RATE (nth words 4)
    ∷ number_verdict 1 LONGEST_DELAY (nth words 5)
    ∷ faulty_unless (is_drop_tail words || is_codel words) E4
    ∷ number_verdict 1 65535 (nth words 7)
    ∷ []

abbrev pub link_numbers_said : List Word → ℕ × ℕ × ℕ
link_numbers_said words = (number (nth words 4), number (nth words 5), number (nth words 7))
