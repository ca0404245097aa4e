use Rattle.std.proofs.Common.{sym, ap, length, subst, ◌∙◌, arith, List, IsSome}
use Rattle.scenario_image.specs.declared.parts.NodeKind.TheVariants.{Sender, Receiver, Router}
use Rattle.scenario_image.specs.declared.parts.FlowPart.{FlowPart}
use Rattle.reno_sender.specs.Laws.{IsFlow}
use Rattle.reno_sender.specs.Table.{initial_fields}
use Rattle.reno_sender.specs.declared.fields.SenderFields.{SenderFields}
use Rattle.reno_receiver.specs.Received.{ReceiverState, initial_receiver}
use Rattle.node_core.specs.declared.routes.FlowExits.{FlowExits}
use Rattle.node_core.specs.declared.role.Role.TheVariants.{Sends, Receives, Routes}
use Rattle.node_core.specs.Initial.{initial_role}
use Rattle.node_core.specs.InitialEventQueue.{flow_sent, flow_received}
use Rattle.node_core.proofs.OneFlow.{IsFlowOf, sender_finds, receiver_finds, sent_is, received_is, sender_limits, kind_read}
use Rattle.node_core.proofs.AtFirst.{sender_role, receiver_role}
use Rattle.node_core.proofs.initial.initial_role.Goals as goal

pub bounds : goal.bounds
bounds c = omega (arith, c.from.ensures, ap length c.as_slice.ensures.value, c.requires.within)

pub initial_exits-requires : goal.initial_exits-requires
initial_exits-requires c = record { scenario = c.requires.scenario; within = c.requires.within; few = c.requires.few; leave_it = c.requires.leaving }

pub unwrap-number-requires : goal.unwrap-number-requires
unwrap-number-requires c =
    let p = c.args.parts.now in
    let kind = kind_read p c.args.node c.from.result c.as_slice.result.now Sender Sender c.as_slice.ensures.value c.from.ensures c.requires.within c.in-Sender.is in
    let found = c.flow_from.ensures ∙ ap (λ (flows : List FlowPart). flow_sent flows c.args.node) c.as_slice-flows.ensures.value in
    subst IsSome (sym found) (sender_finds p c.requires.scenario c.args.node c.requires.within kind)

pub new-requires : goal.new-requires
new-requires c =
    let p = c.args.parts.now in
    let found = sym c.unwrap-number.ensures ∙ c.flow_from.ensures ∙ ap (λ (flows : List FlowPart). flow_sent flows c.args.node) c.as_slice-flows.ensures.value in
    let flow = c.unwrap-number.result in
    let is = sent_is p c.requires.scenario c.args.node c.requires.within flow.0 flow.1 (sym found) in
    subst IsFlow (sym c.sender_settings.ensures) (sender_limits _ _ flow.1 is.limits)

pub unwrap-number-requires-in-Receiver : goal.unwrap-number-requires-in-Receiver
unwrap-number-requires-in-Receiver c =
    let p = c.args.parts.now in
    let kind = kind_read p c.args.node c.from.result c.as_slice.result.now Sender Receiver c.as_slice.ensures.value c.from.ensures c.requires.within c.in-Receiver.is in
    let found = c.flow_to.ensures ∙ ap (λ (flows : List FlowPart). flow_received flows c.args.node) c.as_slice-flows.ensures.value in
    subst IsSome (sym found) (receiver_finds p c.requires.scenario c.args.node c.requires.within kind)

-- the flow that a receiver has is within its limits
received : (c : goal.After-from-in-Receiver-2) → IsFlowOf c.args.parts.now c.args.node Receiver c.unwrap-number-in-Receiver.result.1
received c =
    let found = sym c.unwrap-number-in-Receiver.ensures ∙ c.flow_to.ensures ∙ ap (λ (flows : List FlowPart). flow_received flows c.args.node) c.as_slice-flows.ensures.value in
    let flow = c.unwrap-number-in-Receiver.result in
    received_is c.args.parts.now c.requires.scenario c.args.node c.requires.within flow.0 flow.1 (sym found)

pub new-receiver-requires-clause-mss_least : goal.new-receiver-requires-clause-mss_least
new-receiver-requires-clause-mss_least c = omega (arith, (received c).limits.mss_range.0, c.from-in-Receiver.ensures)

pub new-receiver-requires-clause-mss_greatest : goal.new-receiver-requires-clause-mss_greatest
new-receiver-requires-clause-mss_greatest c = omega (arith, (received c).limits.mss_range.1, c.from-in-Receiver.ensures)

pub new-receiver-requires-clause-delack_greatest : goal.new-receiver-requires-clause-delack_greatest
new-receiver-requires-clause-delack_greatest c = omega (arith, (received c).limits.delack_range, c.from-in-Receiver-2.ensures)

pub returns-in-Sender : goal.returns-in-Sender
returns-in-Sender c =
    let p = c.args.parts.now in
    let kind = kind_read p c.args.node c.from.result c.as_slice.result.now Sender Sender c.as_slice.ensures.value c.from.ensures c.requires.within c.in-Sender.is in
    let found = sym c.unwrap-number.ensures ∙ c.flow_from.ensures ∙ ap (λ (flows : List FlowPart). flow_sent flows c.args.node) c.as_slice-flows.ensures.value in
    let flow = c.unwrap-number.result in
    ap (λ (fields : SenderFields). Sends flow.0 fields) (c.new.ensures ∙ ap initial_fields c.sender_settings.ensures) ∙ sender_role p c.args.node flow.0 flow.1 kind (sym found)

pub returns-in-Receiver : goal.returns-in-Receiver
returns-in-Receiver c =
    let p = c.args.parts.now in
    let kind = kind_read p c.args.node c.from.result c.as_slice.result.now Sender Receiver c.as_slice.ensures.value c.from.ensures c.requires.within c.in-Receiver.is in
    let found = sym c.unwrap-number-in-Receiver.ensures ∙ c.flow_to.ensures ∙ ap (λ (flows : List FlowPart). flow_received flows c.args.node) c.as_slice-flows.ensures.value in
    let flow = c.unwrap-number-in-Receiver.result in
    ap (λ (state : ReceiverState). Receives flow.0 state)
    (c.new-receiver.ensures ∙ ap (λ mss. initial_receiver mss c.from-in-Receiver-2.result) c.from-in-Receiver.ensures ∙ ap (initial_receiver flow.1.mss) c.from-in-Receiver-2.ensures)
    ∙ receiver_role p c.args.node flow.0 flow.1 kind (sym found)

pub returns-in_ok-initial_exits-in-Router : goal.returns-in_ok-initial_exits-in-Router
returns-in_ok-initial_exits-in-Router c =
    let p = c.args.parts.now in
    let kind = kind_read p c.args.node c.from.result c.as_slice.result.now Sender Router c.as_slice.ensures.value c.from.ensures c.requires.within c.in-Router.is in
    ap (λ (table : List FlowExits). Routes table) c.in_ok-initial_exits-in-Router.ensures ∙ ap (initial_role p c.args.node) (sym kind)
