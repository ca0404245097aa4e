-- How what is pending at a node is stored.
use Rattle.std.specs.Prelude.{ℕ, List, Option, refl}
use Rattle.std.specs.Coded.{Coded, code_by, coded×, coded_ℕ, coded_list, coded_option}
use Rattle.std.specs.FinMap as map
use Rattle.sim_time.specs.Keys.{key_code}
use Rattle.node_core.specs.contracts.event.Event as event
use Rattle.node_core.specs.Pending.{Events}
use Rattle.node_core.specs.EventQueueState.{Incoming, Owner, EventQueueState}

abbrev pub events_code : Coded Events
events_code = map.code key_code event.the_row.coded

abbrev pub incoming_code : Coded Incoming
incoming_code = code_by (ℕ × ℕ) (coded× coded_ℕ coded_ℕ) (λ x. (x.link, x.came)) (λ t. record { link = t.0; came = t.1 }) (λ _. refl)

abbrev pub owner_code : Coded Owner
owner_code = code_by (ℕ × (ℕ × List ℕ)) (coded× coded_ℕ (coded× coded_ℕ (coded_list coded_ℕ))) (λ o. (o.node, (o.flow, o.exits))) (λ t. record { node = t.0; flow = t.1.0; exits = t.1.1 }) (λ _. refl)

abbrev pub event_queue_code : Coded EventQueueState
event_queue_code =
    code_by (Owner × (List (Option ℕ) × (List Incoming × Events))) (coded× owner_code (coded× (coded_list (coded_option coded_ℕ)) (coded× (coded_list incoming_code) events_code))) (λ a. (a.owner, (a.timers, (a.incoming, a.pending))))
    (λ t. record { owner = t.0; timers = t.1.0; incoming = t.1.1.0; pending = t.1.1.1 }) (λ _. refl)
