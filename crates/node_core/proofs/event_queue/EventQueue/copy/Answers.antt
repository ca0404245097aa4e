use Rattle.std.proofs.Common.{◌≡◌, ℕ, List, Option, sym, subst, ◌∙◌, rules}
use Rattle.std.proofs.lemmas.List.Elements.{same_from_all_zip}
use Rattle.node_core.specs.WireState.{WireState}
use Rattle.node_core.specs.EventQueueState.{event_queue_state, IsEventQueue}
use Rattle.node_core.proofs.event_queue.EventQueue.copy.Goals as goal

exits_are : (c : goal.After-result-2-1) → c.in_ok-clone.field-0.items ≡ c.self.inside.exits.items
exits_are c = same_from_all_zip (λ (x y : ℕ). y ≡ x) c.self.inside.exits.items c.in_ok-clone.field-0.items c.in_ok-clone.ensures.cases.0 (λ x y e. e)

timers_are : (c : goal.After-result-2-1) → c.in_ok-clone-2.field-0.items ≡ c.self.inside.timers.items
timers_are c = same_from_all_zip _ c.self.inside.timers.items c.in_ok-clone-2.field-0.items c.in_ok-clone-2.ensures.cases.0 (λ x y e. search rules)

wires_are : (c : goal.After-result-2-1) → c.in_ok-copies_of.field-0.items ≡ c.self.inside.wires.items
wires_are c = c.in_ok-copies_of.ensures ∙ c.deref.ensures.value

-- an event queue of the same parts
copied : (node flow : ℕ) {exits exits' : List ℕ} {timers timers' : List (Option ℕ)} {wires wires' : List WireState} {times times' : List (Option ℕ)} → exits' ≡ exits → timers' ≡ timers → wires' ≡ wires → times' ≡ times
    → IsEventQueue (record { node = node; flow = flow; exits = exits }) timers wires times → IsEventQueue (record { node = node; flow = flow; exits = exits' }) timers' wires' times'
copied node flow {exits} {exits'} {timers} {timers'} {wires} {wires'} {times} {times'} e f g h is =
    subst (λ (x : List ℕ). IsEventQueue (record { node = node; flow = flow; exits = x }) timers' wires' times') (sym e)
    (subst (λ (x : List (Option ℕ)). IsEventQueue (record { node = node; flow = flow; exits = exits }) x wires' times') (sym f)
    (subst (λ (x : List WireState). IsEventQueue (record { node = node; flow = flow; exits = exits }) timers x times') (sym g)
    (subst (IsEventQueue (record { node = node; flow = flow; exits = exits }) timers wires) (sym h) is)))

same_state : (node flow : ℕ) {exits exits' : List ℕ} {timers timers' : List (Option ℕ)} {wires wires' : List WireState} → exits' ≡ exits → timers' ≡ timers → wires' ≡ wires
    → event_queue_state (record { node = node; flow = flow; exits = exits' }) timers' wires' ≡ event_queue_state (record { node = node; flow = flow; exits = exits }) timers wires
same_state node flow e f g i = event_queue_state (record { node = node; flow = flow; exits = e i }) (f i) (g i)

pub invariant_of-result : goal.invariant_of-result
invariant_of-result c = copied c.self.inside.node c.self.inside.flow (exits_are c) (timers_are c) (wires_are c) c.in_ok-copy.ensures c.self.invariant

pub returns : goal.returns
returns c = same_state c.self.inside.node c.self.inside.flow (exits_are c) (timers_are c) (wires_are c) ∙ c.self.view_is
