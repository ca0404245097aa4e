-- A packet that comes to a router, which drops none, goes on, and no flow becomes stalled.
use Rattle.std.proofs.Common.{◌≡◌, ℕ, ◌+◌, ◌<◌, ◌==◌, ◌&&◌, Bool, true, false, cond, not, List, [], ◌∷◌, length, refl, sym, ap, subst, ◌∙◌, Option, Some, None, is_none, ⊎_elim, true≢false, eq-eqb}
use Rattle.std.proofs.lemmas.List.{get_or-set_same, length-set}
use Rattle.std.specs.List.{list_any}
use Rattle.std.specs.FinMap as map
use Rattle.sim_time.specs.declared.key.Key.{Key}
use Rattle.packet_chain.specs.declared.packet.Packet.{Packet}
use Rattle.packet_chain.specs.declared.packet.Kind.{Kind}
use Rattle.packet_chain.specs.declared.packet.Kind.TheVariants.{Data, Ack}
use Rattle.aqm.specs.Queue.{refuses, waiting_in}
use Rattle.aqm.proofs.Stays.{enters_last}
use Rattle.port.specs.declared.acts.Act.{Act}
use Rattle.port.specs.declared.acts.Act.TheVariants.{Tx, Dropped}
use Rattle.port.specs.Losses.{is_lost}
use Rattle.port.specs.Port.{PortState, PortStep, only, with_packet, offered_one}
use Rattle.node_core.specs.declared.event.Event.{Event}
use Rattle.node_core.specs.declared.event.Event.TheVariants.{Start, Rto, DelAck, Free, Arrive}
use Rattle.node_core.specs.declared.role.Role.{Role}
use Rattle.node_core.specs.declared.role.Role.TheVariants.{Sends, Receives, Routes}
use Rattle.node_core.specs.Part.{LinkState, PartState, link_at, no_link}
use Rattle.node_core.specs.RouteTable.{exit_for}
use Rattle.reno_sender.specs.declared.fields.SenderFields.{SenderFields}
use Rattle.reno_receiver.specs.Received.{ReceiverState}
use Rattle.node_core.specs.Row.{Effect, after_of, leaving_over, with_step, arrival_row, at_sender, at_receiver, passed_on}
use Rattle.node_core.specs.TraceLine.{TraceLine}
use Rattle.table_run.specs.State.{State, part_at, no_part, effect_of, stepped}
use Rattle.table_run.specs.Laws.{HasRoute}
use Rattle.table_run.proofs.Due.{is_due}
use Rattle.table_run.proofs.Ready.{node_within}
use Rattle.table_run.proofs.Runs.{of_step}
use Rattle.table_run.proofs.RunLaws.{routers_have_routes}
use Rattle.net_machine.specs.Run.{Reached, IsRun, Stepped}
use Rattle.trace_text.specs.DumpParts.{has_waiting}
use Rattle.flow_waits.specs.Stalled.{sender_of, is_some_unfinished, waits_at, is_waiting, is_stalled, becomes_stalled, is_drop_of, some_stalls, is_stalled_by_drop}
use Rattle.flow_waits.proofs.Any.{or_cases, or_first, any_at, any_right}
use Rattle.flow_waits.proofs.Waiting.{is_of, Holds, Departs, AfterTake, waits, leaves, dropped, take_keeps}
use Rattle.flow_waits.proofs.Pending.{leaving_pends}
use Rattle.flow_waits.proofs.Found.{moving, some_found}
use Rattle.std.specs.Prelude.{IfSome, IsNone}
use Rattle.breakpoints.specs.declared.breaks.StallOf.{StallOf}
use Rattle.breakpoints.specs.declared.breaks.StallOf.TheVariants.{Any as AnyFlow, Flow as OneFlow}
use Rattle.breakpoints.specs.Breaks.{is_drop, Stalls}
use Rattle.debugger.specs.UnderWay.{AreUnderWay, is_known, is_at_router, is_passed_on, leaves_moving}
use Rattle.debugger.proofs.UnderWay.{known_moves}

not_true : (b : Bool) → not b ≡ true → b ≡ false
not_true true e = absurd (true≢false (sym e))
not_true false e = refl

both_parts : (a b : Bool) → (a && b) ≡ true → (a ≡ true) × (b ≡ true)
both_parts true b e = (refl, e)
both_parts false b e = absurd (true≢false (sym e))

-- a drop of a flow is a drop
some_drop : (flow : ℕ) (acts : List Act) → list_any (is_drop_of flow) acts ≡ true → list_any is_drop acts ≡ true
some_drop flow [] e = absurd (true≢false (sym e))
some_drop flow (Tx link x ∷ acts) e = some_drop flow acts e
some_drop flow (Dropped link reason x ∷ acts) e = refl

-- where a packet was offered and none is dropped, it waits or departs
module _ (flow now : ℕ) where
  pub data Offered (step : PortStep) : Type 0 where
    stays : Holds flow step.port.queue → Offered step
    departs : Departs flow step.departure → Offered step

  abbrev GoesOn : PortStep → Type 0
  GoesOn step = list_any is_drop step.acts ≡ false → Offered step

  either : (b : Bool) (x y : PortStep) → GoesOn x → (b ≡ false → GoesOn y) → GoesOn (cond b x y)
  either true x y p q = p
  either false x y p q = q refl

  offer_goes_on : (port : PortState) (x : Packet) → (x.flow == flow) ≡ true → GoesOn (offered_one now port x)
  offer_goes_on port x its =
      let counted : PortState = record port { offered = port.offered + 1 } in
      let refused : (link : ℕ) (reason : _) (rest : PortState) → GoesOn (only rest (Dropped link reason x ∷ [])) = λ link reason rest none. absurd (true≢false none) in
      either (is_lost port.lose counted.offered) _ _ (refused _ _ _) (λ _.
      either (refuses port.queue) _ _ (refused _ _ _) (λ room.
      let holds : Holds flow (with_packet now counted x).queue =
      ap (list_any (is_of flow)) (enters_last port.queue (x, now) now room) ∙ any_right (is_of flow) (waiting_in port.queue) ((x, now) ∷ []) (or_first (x.flow == flow) false its) in
      either (is_none port.next_free) _ _ (λ none. after_take none (take_keeps flow now (with_packet now counted x) holds)) (λ _ none. stays holds)))
    where
      after_take : {step : PortStep} → list_any is_drop step.acts ≡ false → AfterTake flow now step → Offered step
      after_take none (waits holds) = stays holds
      after_take none (leaves on) = departs on
      after_take {step} none (dropped out) = absurd (true≢false (sym (some_drop flow step.acts out) ∙ none))

-- a flow of which a packet waits is not stalled
waiting_moves : (flow : ℕ) (s : State) (node index : ℕ) → node < length s.parts → index < length (part_at s node).links → Holds flow (link_at (part_at s node).links index).port.queue → is_stalled flow s ≡ false
waiting_moves flow s node index there within holds =
    one_waits (is_some_unfinished (sender_of flow s.parts)) (is_waiting flow s.parts) _ (any_at (waits_at flow) s.parts no_part node there (any_at (has_waiting flow) (part_at s node).links no_link index within holds))
  where
    one_waits : (u w rest : Bool) → w ≡ true → ((u && not w) && rest) ≡ false
    one_waits true w rest e = ap (λ x. not x && rest) e
    one_waits false w rest e = refl

-- a packet offered to a link of a node
module _ (flow : ℕ) (s : State) (k : Key) (there : k.node < length s.parts) (role : Role) (index : ℕ) (step : PortStep) (within : index < length (part_at s k.node).links) where
  abbrev part : PartState
  part = part_at s k.node

  abbrev effect : Effect
  effect = with_step (part_at s k.node) role [] index step

  after_offer : Offered flow k.time step → is_stalled flow (stepped s k effect) ≡ false
  after_offer (stays holds) =
      let here : part_at (stepped s k effect) k.node ≡ effect.part = get_or-set_same s.parts k.node effect.part no_part there in
      let link : (link_at effect.part.links index).port.queue ≡ step.port.queue = ap (λ (l : LinkState). l.port.queue) (get_or-set_same part.links index (record (link_at part.links index) { port = step.port }) no_link within) in
      waiting_moves flow (stepped s k effect) k.node index
      (subst (λ n. k.node < n) (sym (length-set s.parts k.node effect.part)) there)
      (subst (λ (x : PartState). index < length x.links) (sym here) (subst (λ n. index < n) (sym (length-set part.links index (record (link_at part.links index) { port = step.port }))) within))
      (subst (λ (x : PartState). Holds flow (link_at x.links index).port.queue) (sym here) (subst (Holds flow) (sym link) holds))
  after_offer (departs (d, is, its)) =
      let pends = leaving_pends s k effect (record { index = index; departure = d }) (ap (leaving_over index) is) in
      moving flow (stepped s k effect) pends.0 d.packet pends.1 its

module _ (s : State) (k : Key) (x : Packet) (there : k.node < length s.parts) (route : (table : _) → (part_at s k.node).role ≡ Routes table → HasRoute s k.node table x) where
  abbrev StaysMoving : Effect → Type 0
  StaysMoving effect = is_passed_on effect.after effect.acts ≡ true → is_stalled x.flow (stepped s k effect) ≡ false

  elsewhere : (effect : Effect) → is_at_router effect.after ≡ false → StaysMoving effect
  elsewhere effect other e = absurd (true≢false (sym (both_parts (is_at_router effect.after) (not (list_any is_drop effect.acts)) e).0 ∙ other))

  router : (o : Option ℕ) (index : ℕ) → o ≡ Some index → index < length (part_at s k.node).links → StaysMoving (passed_on (part_at s k.node) k x o)
  router o index is within =
      subst (λ p. StaysMoving (passed_on (part_at s k.node) k x p)) (sym is) (λ e.
      let step = offered_one k.time (link_at (part_at s k.node).links index).port x in
      after_offer x.flow s k there (part_at s k.node).role index step within
      (offer_goes_on x.flow k.time (link_at (part_at s k.node).links index).port x (eq-eqb x.flow x.flow refl) (not_true (list_any is_drop step.acts) (both_parts (is_at_router (passed_on (part_at s k.node) k x (Some index)).after) (not (list_any is_drop step.acts)) e).1)))

  sender : (n : ℕ) (f : SenderFields) (c : Kind) → (part_at s k.node).role ≡ Sends n f → StaysMoving (at_sender (part_at s k.node) k n f c x.number)
  sender n f Data is = elsewhere (at_sender (part_at s k.node) k n f Data x.number) (ap (λ ρ. is_at_router (after_of ρ)) is)
  sender n f Ack is = elsewhere (at_sender (part_at s k.node) k n f Ack x.number) refl

  receiver : (n : ℕ) (b : ReceiverState) (c : Kind) → (part_at s k.node).role ≡ Receives n b → StaysMoving (at_receiver (part_at s k.node) k n b c x.number)
  receiver n b Data is = elsewhere (at_receiver (part_at s k.node) k n b Data x.number) refl
  receiver n b Ack is = elsewhere (at_receiver (part_at s k.node) k n b Ack x.number) (ap (λ ρ. is_at_router (after_of ρ)) is)

  arrival : (ρ : Role) → (part_at s k.node).role ≡ ρ → StaysMoving (arrival_row (part_at s k.node) ρ k x)
  arrival (Sends n f) is = sender n f x.kind is
  arrival (Receives n b) is = receiver n b x.kind is
  arrival (Routes table) is = let h = route table is in router (exit_for table x) h.index h.exit h.within

module _ (before after : Reached) (line : TraceLine) (is : IsRun before) (stepped_to : Stepped before (Some line) after) where
  passed_moves : (x : Packet) → line.event ≡ Arrive x → is_passed_on line.after line.acts ≡ true → is_stalled x.flow after.state ≡ false
  passed_moves x event passed =
      let s = before.state in
      of_step s line after.state stepped_to.0 (λ k v due_is new_is line_is.
      let v_is : v ≡ Arrive x = sym (ap (λ (l : TraceLine). l.event) line_is) ∙ event in
      let pending : map.get s.pending k ≡ Some (Arrive x) = (is_due s k v due_is).pending ∙ ap Some v_is in
      let there = node_within is.scenario before.position is.lines s is.is_scenario is.is k v due_is in
      let on = arrival s k x there (λ table role. routers_have_routes is.scenario before.position is.lines s is.is_scenario is.is k x pending table role) (part_at s k.node).role refl in
      let effect_is : effect_of s (k, v) ≡ effect_of s (k, Arrive x) = ap (λ (w : Event). effect_of s (k, w)) v_is in
      ap (is_stalled x.flow) new_is
      ∙ ap (λ (e : Effect). is_stalled x.flow (stepped s k e)) effect_is
      ∙ on (ap (λ (e : Effect). is_passed_on e.after e.acts) (sym effect_is) ∙ ap (λ (l : TraceLine). is_passed_on l.after l.acts) (sym line_is) ∙ passed))

  none_by_drop : (acts : List Act) → list_any is_drop acts ≡ false → list_any (is_stalled_by_drop after.state) acts ≡ false
  none_by_drop [] e = refl
  none_by_drop (Tx link x ∷ acts) e = none_by_drop acts e
  none_by_drop (Dropped link reason x ∷ acts) e = absurd (true≢false e)

  none_found : (counts : List ℕ) → AreUnderWay counts after.state → leaves_moving counts line.after line.acts line.event ≡ true → some_stalls line.event line.acts after.state ≡ false
  none_found counts all = by line.event refl
    where
      by : (v : Event) → line.event ≡ v → leaves_moving counts line.after line.acts v ≡ true → some_stalls v line.acts after.state ≡ false
      by (Start own) event e = known_moves counts after.state own all e
      by (Rto own) event e = refl
      by (DelAck own) event e = refl
      by (Free link) event e = none_by_drop line.acts (not_true (list_any is_drop line.acts) e)
      by (Arrive x) event e =
          ⊎_elim (λ (known : is_known counts x.flow ≡ true). known_moves counts after.state x.flow all known)
          (λ (passed : is_passed_on line.after line.acts ≡ true). passed_moves x event passed)
          (or_cases (is_known counts x.flow) (is_passed_on line.after line.acts) e)

  -- so no flow becomes stalled
  pub none_becomes_stalled : (counts : List ℕ) → AreUnderWay counts after.state → leaves_moving counts line.after line.acts line.event ≡ true → (flow : ℕ) → becomes_stalled flow before.state after.state ≡ true → ⊥
  none_becomes_stalled counts all moves flow stalls = true≢false (sym ((some_found before after line is stepped_to).1 (flow, stalls)) ∙ none_found counts all moves)

-- and no breakpoint that asks for a stall matches
pub asks_none : (before after : State) (o : Option StallOf) → ((flow : ℕ) → becomes_stalled flow before after ≡ true → ⊥) → IfSome o (λ asked. Stalls asked before after) → IsNone o
asks_none before after None none stalls = refl
asks_none before after (Some AnyFlow) none stalls = absurd (none stalls.0 stalls.1)
asks_none before after (Some (OneFlow flow)) none stalls = absurd (none flow stalls)
