-- What running an event leaves of a node's role, links, event queue and outbox.
use Rattle.std.specs.Prelude.{◌≡◌, ◌≢◌, ◌⊎◌, ℕ, List}
use Rattle.std.specs.FinMap as map
use Rattle.sim_time.specs.declared.key.Key.{Key}
use Rattle.packet_chain.specs.Stamped.{Stamped}
use Rattle.tournament.specs.Keyed.{apply}
use Rattle.node_core.specs.declared.role.Role.{Role}
use Rattle.node_core.specs.Part.{LinkState, PartState}
use Rattle.node_core.specs.EventQueueState.{EventQueueState, IsTimer}
use Rattle.node_core.specs.Node.{put_out}
use Rattle.node_core.specs.Row.{Effect, home_changes}
use Rattle.node_core.specs.InStep.{IsInStep}

abbrev pub part : Role → List LinkState → PartState
part role links = record { role = role; links = links }

-- the event of a key is an arrival, the flow's start, or the timer of a number
abbrev pub IsTimed : EventQueueState → Key → ℕ → Type 0
IsTimed event_queue key number = (key.source ≢ 0) ⊎ (IsTimer event_queue key 0 ⊎ IsTimer event_queue key number)

-- the event of a key has left, and its effect is done
pub record HasRun (key : Key) (effect : Effect) (role : Role) (links : List LinkState) (before after : EventQueueState) (chains filled : List (List Stamped)) : Type 0 where
  pub part_is : part role links ≡ effect.part
  pub pending : after.pending ≡ apply (home_changes before.owner.node effect) (map.remove before.pending key)
  pub incoming : after.incoming ≡ before.incoming
  pub owner : after.owner ≡ before.owner
  pub in_step : IsInStep role links after
  pub out : filled ≡ put_out effect.leaving chains

-- nothing has changed
pub record IsAsBefore (role new_role : Role) (links new_links : List LinkState) (before after : EventQueueState) (chains filled : List (List Stamped)) : Type 0 where
  pub role_is : new_role ≡ role
  pub links_are : new_links ≡ links
  pub event_queue_is : after ≡ before
  pub out_is : filled ≡ chains
