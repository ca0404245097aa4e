-- A run by windows, as it goes on from edge to edge: what the engine's calls commit.
use Rattle.std.specs.Prelude.{ℕ, ◌+◌, ◌<◌, ◌≡◌, ◌≢◌, min, Bool, List, length, Option, None, Some, option_map, Result, Err, OnOk}
use Rattle.std.specs.Io.KnownBytes.{Appends}
use Rattle.sim_time.specs.declared.key.Key.{Key}
use Rattle.tournament.specs.Keyed.{next_key}
use Rattle.node_core.specs.TraceLine.{TraceLine}
use Rattle.table_run.specs.State.{State, due, run}
use Rattle.net_machine.specs.Run.{Reached}
use Rattle.window_core.specs.Batches.{BatchValue}
use Rattle.window_core.specs.Windows.{AreBelow, sum_of, at_most}
use Rattle.window_engine.specs.declared.fault.EngineFault.{EngineFault}
use Rattle.window_engine.specs.declared.fault.EngineFault.TheVariants.{Sink}
use Rattle.window_engine.specs.declared.fault.Stop.{Stop}
use Rattle.window_engine.specs.declared.fault.Stop.TheVariants.{End, Until}
use Rattle.window_text.specs.Failures.{counted}
use Rattle.window_text.specs.Puts.{TakesFirst}
use Rattle.window_text.specs.Text.{text_from}

-- the group of each node; the least delay of a link between two groups, where there is one; the net at the edge of the last window, with the number of events that were committed; whether a call had a fault
pub record EngineValue : Type 0 where
  pub entries : List ℕ
  pub ahead : Option ℕ
  pub net : Reached
  pub failed : Bool

-- the net that ends by another moment
abbrev pub net_up_to : ℕ → State → State
net_up_to moment s = record { parts = s.parts; pending = s.pending; end = moment }

-- no event below the moment is pending
abbrev pub NoneBelow : ℕ → State → Type 0
NoneBelow moment s = due (net_up_to moment s) ≡ None

-- when the least pending event is
abbrev pub next_time : State → Option ℕ
next_time s = option_map (λ (k : Key). k.time) (next_key s.pending)

-- the least pending event is at this moment, below another and the run's end
pub record IsNext (until : ℕ) (s : State) (time : ℕ) : Type 0 where
  pub least : next_time s ≡ Some time
  pub within : time < s.end
  pub below : time < until

-- where the next window ends: the least of the least pending moment and the lookahead together, where both are there, the run's end and a bound
abbrev pub window_end_by : EngineValue → ℕ → ℕ
window_end_by e until = min (at_most (sum_of (next_time e.net.state) e.ahead) e.net.state.end) until

-- these lines are a run's events below a moment, all of them and no others
pub record AreAllBelow (moment : ℕ) (lines : List TraceLine) (state : State) : Type 0 where
  pub early : AreBelow moment lines
  pub none_left : NoneBelow moment state

-- these lines are those of whole windows: a window may end at any moment
abbrev pub AreWhole : List TraceLine → State → Type 0
AreWhole lines state = (moment : ℕ) × AreAllBelow moment lines state

-- the batch has the next lines of the run from one net, and the number of the first; the other net is the one after them, and the lines are a whole window's
pub record GoesOn (old : Reached) (batch : BatchValue) (new : Reached) : Type 0 where
  pub first : batch.first ≡ old.position + 1
  pub is_run : run old.state (length batch.lines) ≡ Some (batch.lines, new.state)
  pub position : new.position ≡ old.position + length batch.lines
  pub whole : AreWhole batch.lines new.state

-- what a sink took of a text in a call: all of it, or its first bytes, where the call ended since the sink failed
abbrev pub SinkTakes : {T : Type 0} → Result T EngineFault → List ℕ → Option (List ℕ) → Option (List ℕ) → Type 0
SinkTakes (Err (Sink written)) text old new = TakesFirst written text old new
SinkTakes _ text old new = Appends old new text

-- the next lines of the run from a net were committed, those of whole windows and each of an event below a moment, and a sink took their text; where the call had no fault, the other net is the one after them
pub record Commits {T : Type 0} (until : ℕ) (old : Reached) (r : Result T EngineFault) (new : Reached) (before after : Option (List ℕ)) : Type 0 where
  pub lines : List TraceLine
  pub state : State
  pub is_run : run old.state (length lines) ≡ Some (lines, state)
  pub whole : AreWhole lines state
  pub early : AreBelow until lines
  pub position_is : new.position ≡ old.position + length lines
  pub state_is : OnOk r (new.state ≡ state)
  pub takes : SinkTakes r (text_from (old.position + 1) lines) before after

-- where windows ended: at the run's end, or with no event left below a moment, and later ones left
abbrev pub IsStop : ℕ → State → Stop → Type 0
IsStop until s End = due s ≡ None
IsStop until s Until = (due s ≢ None) × NoneBelow until s

-- a sink's count of failures after a call
abbrev pub sink_failures : {T : Type 0} → Result T EngineFault → ℕ → ℕ
sink_failures (Err (Sink written)) n = counted n
sink_failures _ n = n
