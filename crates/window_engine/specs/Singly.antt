-- Events that are run one after another.
use Rattle.std.specs.Prelude.{◌≡◌, ◌≤◌, ◌<◌, ◌+◌, ◌⊎◌, ℕ, Bool, true, false, List, [], length, Option, Some, refl}
use Rattle.std.specs.Option.{option_map}
use Rattle.std.proofs.Common.{arith}
use Rattle.sim_time.specs.declared.key.Key.{Key}
use Rattle.sim_time.specs.declared.limits.TheConstants.{MOST_EVENTS}
use Rattle.node_core.specs.declared.event.Event.{Event}
use Rattle.node_core.specs.TraceLine.{TraceLine}
use Rattle.table_run.specs.State.{State, due, run}
use Rattle.net_machine.specs.Run.{Reached}
use Rattle.window_core.specs.Windows.{AreBelow}
use Rattle.window_engine.specs.declared.run_state.RunState.{RunState}
use Rattle.window_engine.specs.Engines.{AreWhole, NoneBelow}
use Rattle.window_engine.specs.RunStates.{Wrote}
use Rattle.window_text.specs.Text.{text_from}
use Rattle.window_workers.specs.Edges.{reached_in}

abbrev pub key_of : Option (Key × Event) → Option Key
key_of o = option_map (λ (entry : Key × Event). entry.0) o

-- what is due is due before a moment
abbrev pub IsBefore : ℕ → State → Type 0
IsBefore until s = (key : Key) → key_of (due s) ≡ Some key → key.time < until

-- nothing is left below some moment, which is no sooner than this one, or later than that of the last event
pub record CanStop (until last : ℕ) (s : State) : Type 0 where
  pub moment : ℕ
  pub none_left : NoneBelow moment s
  pub after : (until ≤ moment) ⊎ (last < moment)

-- a net went on by events below a moment, none later than the last one, and this is their text
pub record IsGoing (until last : ℕ) (old new : Reached) (text : List ℕ) : Type 0 where
  pub lines : List TraceLine
  pub is_run : run old.state (length lines) ≡ Some (lines, new.state)
  pub position : new.position ≡ old.position + length lines
  pub early : AreBelow until lines
  pub upto : AreBelow (last + 1) lines
  pub text_is : text ≡ text_from (old.position + 1) lines

-- none was run yet
pub going_none : (until last : ℕ) (net : Reached) (text : List ℕ) → text ≡ [] → IsGoing until last net net text
going_none until last net text none = record { lines = []; is_run = refl; position = omega arith; early = tt; upto = tt; text_is = none }

-- what who puts the text of events has, where the run goes on; else memory was refused for that of the last one
abbrev pub IsPaged : Bool → ℕ → ℕ → Reached → Reached → List ℕ → Bool → Type 0
IsPaged true until last old new text refused = (refused ≡ false) × IsGoing until last old new text
IsPaged false until last old new text refused = refused ≡ true

-- a net went on by events below a moment, all that there were below some moment, and this is their text
pub record HasGone (until : ℕ) (old new : Reached) (text : List ℕ) : Type 0 where
  pub lines : List TraceLine
  pub is_run : run old.state (length lines) ≡ Some (lines, new.state)
  pub position : new.position ≡ old.position + length lines
  pub early : AreBelow until lines
  pub whole : AreWhole lines new.state
  pub text_is : text ≡ text_from (old.position + 1) lines

-- a run state whose events are run one after another by a net, which has gone on to here: they are committed and written
pub record IsOn (until : ℕ) (old new : RunState) (net : Reached) (written now : ℕ) (a b : Option (List ℕ)) : Type 0 where
  pub rest : new ≡ record old { position = net.position; granularity = new.granularity }
  pub count : ℕ
  pub written_is : now ≡ written + count
  pub wrote : Wrote until (reached_in old.window) net count a b
  pub few : net.position ≤ MOST_EVENTS
