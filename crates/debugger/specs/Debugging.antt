-- What a debugger shows, and what a move changes.
use Rattle.std.specs.Prelude.{◌≡◌, ℕ, List, [], Option, None, Some, refl}
use Rattle.std.specs.Coded.{Coded, code_by, coded×, coded_ℕ, coded_list, coded_option}
use Rattle.table_run.specs.State.{State}
use Rattle.net_machine.specs.Run.{Reached}
use Rattle.net_machine.specs.Codes.{state_code, reached_code}
use Rattle.breakpoints.specs.contracts.breaks.Break as break_contract
use Rattle.breakpoints.specs.declared.breaks.Break.{Break}
use Rattle.debugger.specs.Moves.{Passes}

-- the state that the run starts from, the state shown with its position, the one that the last move left, the breakpoints, and how many workers run windows
pub record Debugging : Type 0 where
  pub start : State
  pub shown : Reached
  pub left : Option Reached
  pub breaks : List Break
  pub workers : ℕ

-- no move made yet, and no breakpoint set
abbrev pub debugging_opened : State → ℕ → Debugging
debugging_opened start workers = record { start = start; shown = record { state = start; position = 0 }; left = None; breaks = []; workers = workers }

-- another state of the same run is shown; the one shown before can be gone back to, and the breakpoints stay
pub record HasMoved (old new : Debugging) (p : ℕ) : Type 0 where
  pub after : new ≡ record old { shown = new.shown; left = Some old.shown }
  pub at : new.shown.position ≡ p
  pub on_run : Passes new.start new.shown

abbrev pub debugging_code : Coded Debugging
debugging_code =
    code_by (State × (Reached × (Option Reached × (List Break × ℕ)))) (coded× state_code (coded× reached_code (coded× (coded_option reached_code) (coded× (coded_list break_contract.the_row.coded) coded_ℕ))))
    (λ d. (d.start, (d.shown, (d.left, (d.breaks, d.workers))))) (λ t. record { start = t.0; shown = t.1.0; left = t.1.1.0; breaks = t.1.1.1.0; workers = t.1.1.1.1 }) (λ _. refl)
