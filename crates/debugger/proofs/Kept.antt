-- A move, and a look back, leave the initial state as it was: a debugger is what it was before.
use Rattle.std.proofs.Common.{◌≡◌, ◌∙◌, ◌⊎◌, ⊎_elim, Some, sym, subst, length}
use Rattle.table_run.specs.State.{State}
use Rattle.net_machine.specs.Run.{Reached}
use Rattle.debugger.specs.declared.moves.Debugger.TheInside.{Inside}
use Rattle.debugger.specs.Moves.{Passes}
use Rattle.debugger.specs.Debugging.{Debugging}
use Rattle.debugger.specs.DebuggerOf.{debugging_of, IsDebugger, IsDebuggerInside}

-- a debugger with an initial state
abbrev from : Inside → State → Debugging
from d s = record { start = s; shown = d.net; left = d.left; breaks = d.breaks; workers = d.window_settings.workers }

module _ (d : Inside) (s : State) (same : s ≡ d.checkpoints) where
  pub value_kept : (now : Debugging) → debugging_of d ≡ now → from d s ≡ now
  value_kept now is = (λ i. from d (same i)) ∙ is

  pub moves_kept : IsDebuggerInside d → IsDebugger (from d s)
  moves_kept inside = subst (λ (t : State). IsDebugger (from d t)) (sym same) inside.moves

  pub nodes_kept : IsDebuggerInside d → length d.window_settings.partition ≡ length s.parts
  nodes_kept inside = subst (λ (t : State). length d.window_settings.partition ≡ length t.parts) (sym same) inside.nodes

-- the nearer of the state shown and of that before the last move is one of the run
pub near_passes : (d : Inside) (near : Reached) → IsDebuggerInside d → (near ≡ d.net) ⊎ (d.left ≡ Some near) → Passes d.checkpoints near
near_passes d near inside = ⊎_elim (λ (e : near ≡ d.net). subst (Passes d.checkpoints) (sym e) inside.moves.shown) (λ (e : d.left ≡ Some near). inside.moves.left near e)
