use Rattle.std.proofs.Common.{◌≡◌, ◌+◌, ℕ, List, Option, None, length, replicate, sym, ap, subst, ◌∙◌, arith}
use Rattle.node_core.specs.WireState.{WireState}
use Rattle.node_core.specs.EventQueueState.{Owner, event_queue_state, IsEventQueue}
use Rattle.node_core.proofs.Fresh.{fresh_state, fresh_is}
use Rattle.node_core.proofs.event_queue.EventQueue.new.Goals as goal

abbrev owner : goal.In_ok-new → Owner
owner c = record { node = c.args.node; flow = c.args.flow; exits = c.args.exits.items }

exits_are : (c : goal.In_ok-new) → c.len-timers.result ≡ length c.args.exits.items
exits_are c = omega (arith, c.len-timers.ensures, c.args.exits.ok.0)

timers_are : (c : goal.In_ok-new) → c.in_ok-none_set.field-0.items ≡ replicate (3 + length c.args.exits.items) None
timers_are c = c.in_ok-none_set.ensures ∙ ap (λ n. replicate {A = Option ℕ} (3 + n) None) (exits_are c)

times_are : (c : goal.In_ok-new) → c.in_ok-new.field-0 ≡ replicate ((3 + length c.args.exits.items) + length c.args.links.now) None
times_are c = c.in_ok-new.ensures ∙ ap (λ n. replicate {A = Option ℕ} ((3 + n) + length c.args.links.now) None) (exits_are c)

pub invariant_of-result : goal.invariant_of-result
invariant_of-result c =
    subst (IsEventQueue (owner c) c.in_ok-none_set.field-0.items c.in_ok-wires_of.field-0.items) (sym (times_are c))
    (subst (λ (a : List (Option ℕ)). IsEventQueue (owner c) a c.in_ok-wires_of.field-0.items (replicate ((3 + length c.args.exits.items) + length c.args.links.now) None)) (sym (timers_are c))
    (subst (λ (w : List WireState). IsEventQueue (owner c) (replicate (3 + length c.args.exits.items) None) w (replicate ((3 + length c.args.exits.items) + length c.args.links.now) None)) (sym c.in_ok-wires_of.ensures)
    (fresh_is (owner c) c.args.links.now c.requires.rising)))

pub returns : goal.returns
returns c =
    ap (λ (a : List (Option ℕ)). event_queue_state (owner c) a c.in_ok-wires_of.field-0.items) (timers_are c)
    ∙ ap (event_queue_state (owner c) (replicate (3 + length c.args.exits.items) None)) c.in_ok-wires_of.ensures
    ∙ fresh_state (owner c) c.args.links.now
