-- The net on its way: what it is between windows, and what a window that was written leaves.
use Rattle.std.specs.Prelude.{◌≡◌, ◌≤◌, ◌<◌, ◌+◌, ◌*◌, ◌^◌, ℕ, min, List, length, Option, Some, None, Result, Err, OnOk, IfOk, IfErr}
use Rattle.std.specs.Io.KnownBytes.{Appends}
use Rattle.sim_time.specs.declared.limits.TheConstants.{MOST_EVENTS}
use Rattle.scenario_image.specs.declared.parts.ScenarioParts.{ScenarioParts}
use Rattle.scenario_image.specs.Scenario.{IsScenario}
use Rattle.node_core.specs.TraceLine.{TraceLine}
use Rattle.table_run.specs.State.{State, run}
use Rattle.table_run.specs.Laws.{ComesTo}
use Rattle.net_machine.specs.Run.{Reached}
use Rattle.window_core.specs.Batches.{BatchValue}
use Rattle.window_core.specs.Full.{HasTooMany}
use Rattle.window_core.specs.Lookahead.{lookahead}
use Rattle.window_core.specs.Partition.{group_in, groups_of}
use Rattle.window_core.specs.Sheaves.{merged}
use Rattle.window_core.specs.Window.{WindowValue}
use Rattle.window_core.specs.Windows.{AreBelow}
use Rattle.window_engine.specs.declared.run_state.RunState.{RunState}
use Rattle.window_engine.specs.declared.run_state.WriteFault.{WriteFault}
use Rattle.window_engine.specs.declared.run_state.WriteFault.TheVariants.{Workers, Sink}
use Rattle.window_engine.specs.declared.fault.EngineFault.{EngineFault}
use Rattle.window_engine.specs.declared.fault.EngineFault.TheVariants.{Sink as SinkFailed}
use Rattle.window_engine.specs.declared.fault.Stop.{Stop}
use Rattle.window_text.specs.declared.pending_text.PendingText.{PendingText}
use Rattle.window_engine.specs.declared.pipeline.Stage.{Stage}
use Rattle.window_engine.specs.declared.pipeline.Stage.TheVariants.{ToShare, Ended}
use Rattle.window_workers.specs.Edges.{IsAtEdge, edge_of, reached_in}
use Rattle.window_engine.specs.Engines.{AreWhole, Commits, GoesOn, IsNext, IsStop, NoneBelow, sink_failures}
use Rattle.window_text.specs.Failures.{counted}
use Rattle.window_engine.specs.Outcomes.{IsOfWorkers, IsRunFault, as_engine_fault}
use Rattle.window_text.specs.PendingText.{text_pending}
use Rattle.window_text.specs.Parts.{IsReady}
use Rattle.window_text.specs.Puts.{TakesFirst}
use Rattle.window_text.specs.Text.{text_from}

-- the window is at its edge, and all its events are committed
pub record AtRest (c : RunState) : Type 0 where
  pub edge : IsAtEdge c.window
  pub committed : c.position ≡ c.window.position
  pub few : c.position ≤ MOST_EVENTS
  pub end : c.end ≡ c.window.end
  pub groups : groups_of c.window.entries ≤ 64

-- the net is one that a scenario's run comes to, whose nodes these groups have; the least delay of a link between two of the groups is this
pub record RunsIn (groups : List ℕ) (ahead : Option ℕ) (net : Reached) : Type 0 where
  pub scenario : ScenarioParts
  pub before : List TraceLine
  pub is_scenario : IsScenario scenario
  pub comes : ComesTo scenario net.position before net.state
  pub nodes : length groups ≡ length scenario.nodes
  pub ahead_is : ahead ≡ lookahead (group_in groups) scenario.links

-- the window's nodes are in these groups
abbrev pub IsApart : List ℕ → Option ℕ → WindowValue → Type 0
IsApart groups ahead w = (w.entries ≡ groups) × (w.ahead ≡ ahead)

-- a window has opened on a net whose nodes are in these groups
pub record Opens (net : Reached) (groups : List ℕ) (w : WindowValue) : Type 0 where
  pub edge : IsAtEdge w
  pub net_is : reached_in w ≡ net
  pub end : w.end ≡ net.state.end
  pub entries : w.entries ≡ groups
  pub ahead : (p : ScenarioParts) (before : List TraceLine) → IsScenario p → ComesTo p net.position before net.state → w.ahead ≡ lookahead (group_in groups) p.links
  pub run : RunsIn groups w.ahead (reached_in w)

-- the nodes are in the groups that were asked for
pub record HasGroups (c : RunState) : Type 0 where
  pub run : RunsIn c.groups c.ahead (reached_in c.window)
  pub apart : IsApart c.groups c.ahead c.window

-- the window is at its edge, and the sheaf has the lines that lead there from a net: the events up to that net are committed, and no others
pub record IsBehind (net : Reached) (c : RunState) : Type 0 where
  pub edge : IsAtEdge c.window
  pub gone : GoesOn net (merged c.sheaf) (reached_in c.window)
  pub committed : c.position ≡ net.position
  pub few : c.window.position ≤ MOST_EVENTS
  pub end : c.end ≡ c.window.end
  pub groups : groups_of c.window.entries ≤ 64

-- a window was run up to its end or a bound, and turned: its lines are the run's next ones, and where an event was there, it has one
pub record IsTurnedBy (until : ℕ) (old : WindowValue) (batch : BatchValue) (new : WindowValue) : Type 0 where
  pub edge : IsAtEdge new
  pub gone : GoesOn (reached_in old) batch (reached_in new)
  pub none_left : NoneBelow (min old.until until) (edge_of new)
  pub early : AreBelow (min old.until until) batch.lines
  pub some : (time : ℕ) → IsNext until (edge_of old) time → 0 < length batch.lines

-- lines of whole windows were committed, each of an event below a moment, and the sink took all their text, so many bytes
pub record Wrote (until : ℕ) (old new : Reached) (count : ℕ) (before after : Option (List ℕ)) : Type 0 where
  pub lines : List TraceLine
  pub early : AreBelow until lines
  pub is_run : run old.state (length lines) ≡ Some (lines, new.state)
  pub whole : AreWhole lines new.state
  pub position_is : new.position ≡ old.position + length lines
  pub takes : Appends before after (text_from (old.position + 1) lines)
  pub count_is : count ≡ length (text_from (old.position + 1) lines)
  pub short : count ≤ length lines * 2 ^ 71

-- the same, and the sink took the first bytes of their text, so many
pub record WroteFirst (until : ℕ) (old : Reached) (position count : ℕ) (before after : Option (List ℕ)) : Type 0 where
  pub lines : List TraceLine
  pub early : AreBelow until lines
  pub state : State
  pub is_run : run old.state (length lines) ≡ Some (lines, state)
  pub whole : AreWhole lines state
  pub position_is : position ≡ old.position + length lines
  pub takes : TakesFirst count (text_from (old.position + 1) lines) before after
  pub few : count < 2 ^ 71

-- such lines were committed, up to a position, and the sink took all their text
pub record WroteTo (until : ℕ) (old : Reached) (position : ℕ) (before after : Option (List ℕ)) : Type 0 where
  pub new : Reached
  pub count : ℕ
  pub wrote : Wrote until old new count before after
  pub position_is : position ≡ new.position

-- what a fault of so many workers leaves, or one of the sink: where workers failed, all lines that were committed were written
abbrev pub Broke : ℕ → ℕ → Reached → ℕ → Option (List ℕ) → Option (List ℕ) → WriteFault → Type 0
Broke workers until old position before after (Workers fault) = WroteTo until old position before after × IsOfWorkers workers (as_engine_fault fault)
Broke workers until old position before after (Sink count) = WroteFirst until old position count before after

-- the sink's count of failures after a window
abbrev pub fails_after : {T : Type 0} → Result T WriteFault → ℕ → ℕ
fails_after (Err (Sink count)) n = counted n
fails_after _ n = n

-- the bytes can be counted that went out in a call, so many of them by earlier windows
abbrev pub CanTell : ℕ → WriteFault → Type 0
CanTell written (Workers fault) = Unit {0}
CanTell written (Sink count) = written + count < 2 ^ 128

-- the fault of a call in which earlier windows wrote so many bytes
abbrev pub reported_as : ℕ → WriteFault → EngineFault
reported_as written (Workers fault) = as_engine_fault fault
reported_as written (Sink count) = SinkFailed (written + count)

-- a call's windows so far, from a run state on: all but the last are written, so many bytes of a text, and the sheaf has the lines of the last, whose events are not committed
pub record IsWriting (until : ℕ) (began c : RunState) (written : ℕ) (known now : Option (List ℕ)) : Type 0 where
  pub net : Reached
  pub behind : IsBehind net c
  pub wrote : Wrote until (reached_in began.window) net written known now
  pub early : AreBelow until (merged c.sheaf).lines
  pub has : HasGroups c
  pub groups : c.groups ≡ began.groups
  pub ahead : c.ahead ≡ began.ahead

-- a text of so many lines is made of the window before the last of a call, and is to be written: all windows before that are written, and the events of the two are not committed
pub record IsOwing (until : ℕ) (began c : RunState) (text : List ℕ) (lines written : ℕ) (known now : Option (List ℕ)) : Type 0 where
  pub was : RunState
  pub writing : IsWriting until began was written known now
  pub text_is : text ≡ text_from was.sheaf.first (merged was.sheaf).lines
  pub lines_are : lines ≡ length (merged was.sheaf).lines
  pub behind : IsBehind (reached_in was.window) (record c { position = c.position + lines })
  pub committed : c.position ≡ was.position
  pub early : AreBelow until (merged c.sheaf).lines
  pub has : HasGroups c
  pub groups : c.groups ≡ was.groups
  pub ahead : c.ahead ≡ was.ahead

-- all windows of a call so far are written, and the events that were run one after another between them
pub record WindowsRest (until : ℕ) (began c : RunState) (written : ℕ) (known now : Option (List ℕ)) : Type 0 where
  pub rest : AtRest c
  pub has : HasGroups c
  pub wrote : Wrote until (reached_in began.window) (reached_in c.window) written known now
  pub groups : c.groups ≡ began.groups
  pub ahead : c.ahead ≡ began.ahead

-- a text is owed, and nothing of it was written; the sink has not failed
pub record AwaitsSink (until : ℕ) (began c : RunState) (pending_text : PendingText) (written : ℕ) (known now : Option (List ℕ)) (failures failed : ℕ) : Type 0 where
  pub owing : IsOwing until began c (text_pending pending_text) pending_text.lines written known now
  pub ready : IsReady pending_text.text
  pub waits : pending_text.put ≡ None
  pub failures_are : failed ≡ failures

-- a call of windows by so many workers has ended
pub record HasEnded (workers until : ℕ) (began new : RunState) (r : Result Stop EngineFault) (known now : Option (List ℕ)) (failures failed : ℕ) : Type 0 where
  pub rest : OnOk r (AtRest new)
  pub has : OnOk r (HasGroups new)
  pub commits : Commits until (reached_in began.window) r (record { state = edge_of new.window; position = new.position }) known now
  pub stop : IfOk r (IsStop until (edge_of new.window))
  pub fault : IfErr r (IsRunFault workers (HasTooMany (reached_in began.window)))
  pub failures_are : failed ≡ sink_failures r failures
  pub groups : new.groups ≡ began.groups
  pub ahead : new.ahead ≡ began.ahead

-- a call of windows by so many workers has come so far, or ended
abbrev pub StandsAt : ℕ → ℕ → RunState → RunState → PendingText → ℕ → Option (List ℕ) → Option (List ℕ) → ℕ → ℕ → Stage → Type 0
StandsAt workers until began c pending_text written known now failures failed ToShare = AwaitsSink until began c pending_text written known now failures failed
StandsAt workers until began c pending_text written known now failures failed (Ended r) = HasEnded workers until began c r known now failures failed
