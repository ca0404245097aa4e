use Rattle.std.proofs.Common.{◌≡◌, ℕ, List, ◌∷◌, [], ◌++◌, get_or, map, take, sym, ap, ◌∙◌, Option}
use Rattle.std.proofs.lemmas.List.{map_more}
use Rattle.sim_time.specs.declared.variant.TheConstants.{RENO}
use Rattle.scenario_image.specs.declared.parts.FlowPart.{FlowPart}
use Rattle.std.specs.Prelude.{◌==◌}
use Rattle.std.specs.List.{position}
use Rattle.std.specs.Option.{option_and_then}
use Rattle.scenario_image.specs.Paths.{route_link}
use Rattle.node_core.specs.Initial.{exit_to, exits_of}
use Rattle.node_core.specs.declared.routes.FlowExits.{FlowExits}
use Rattle.node_core.proofs.AtFirst.{exit_is}
use Rattle.node_core.proofs.initial.initial_exits.Goals as goal

abbrev no_flow : FlowPart
no_flow = record { sender = 0; receiver = 0; mss = 0; segments = 0; start = 0; rwnd = 0; delack = 0; variant = RENO }

-- the exit of an end of a flow, by the router's routes
exit : (c : goal.In_ok-push) (destination : ℕ) (found : Option ℕ)
    → found ≡ option_and_then (λ number. position (λ n. n == number) c.args.leaving.now) (route_link c.args.parts.now.routes c.args.node destination) → found ≡ exit_to c.args.parts.now c.args.node destination
exit c destination found is = is ∙ exit_is c.args.parts.now c.args.node destination c.args.leaving.now c.requires.leave_it

same_exits : {d d' a a' : Option ℕ} → d ≡ d' → a ≡ a' → ◌≡◌ {A = FlowExits} (record { for_data = d; for_acks = a }) (record { for_data = d'; for_acks = a' })
same_exits e f i = record { for_data = e i; for_acks = f i }

pub loop-flow-preserved : goal.loop-flow-preserved
loop-flow-preserved c =
    let flows = c.as_slice-flow-items.result.now in
    let i = c.loop-flow.flow-index in
    let flow = get_or flows i no_flow in
    let made : FlowExits = record { for_data = c.initial_exit.result; for_acks = c.initial_exit-in-loop-flow.result } in
    c.in_ok-push.ensures.items
    ∙ ap (λ (es : List FlowExits). es ++ made ∷ []) c.loop-flow.invariant
    ∙ ap (λ (e : FlowExits). map (exits_of c.args.parts.now c.args.node) (take i flows) ++ e ∷ []) (same_exits (exit c flow.receiver _ c.initial_exit.ensures) (exit c flow.sender _ c.initial_exit-in-loop-flow.ensures))
    ∙ sym (map_more (exits_of c.args.parts.now c.args.node) flows i no_flow c.loop-flow-test.true)
