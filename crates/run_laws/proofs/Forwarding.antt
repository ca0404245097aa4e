-- What each node offers to its links.
use Rattle.std.proofs.Common.{◌≡◌, ◌≢◌, ℕ, ◌+◌, ◌<◌, ◌≤◌, Bool, true, false, cond, List, [], ◌∷◌, length, map, refl, sym, ap, subst, ◌∙◌, Some, None, arith, ⊎_elim, true≢false}
use Rattle.std.specs.Prelude.{IfSome, nat_le}
use Rattle.std.specs.Cmp.{unsigned_tied}
use Rattle.std.specs.List.{list_any, list_all}
use Rattle.std.specs.Ordering.{eq_by_cmp, nat_cmp}
use Rattle.std.specs.FinMap as finmap
use Rattle.std.proofs.lemmas.Bool.{and_parts, or_cases, eqb-true, leb-true}
use Rattle.std.proofs.lemmas.List.{get_or-set_same}
use Rattle.sim_time.specs.declared.key.Key.{Key}
use Rattle.packet_chain.specs.declared.packet.Packet.{Packet}
use Rattle.packet_chain.specs.declared.packet.Kind.{Kind}
use Rattle.packet_chain.specs.declared.packet.Kind.TheVariants.{Data, Ack}
use Rattle.scenario_image.specs.Paths.{data_path, ack_path}
use Rattle.scenario_image.proofs.Arrivals.{paths_begin}
use Rattle.reno_sender.specs.declared.fields.SenderFields.{SenderFields}
use Rattle.reno_sender.specs.Sending.{Planned}
use Rattle.reno_sender.specs.Table.{started, acknowledged, timed_out}
use Rattle.reno_receiver.specs.declared.reply.Reply.TheVariants.{AckNow, Wait}
use Rattle.reno_receiver.specs.Received.{ReceiverState, Answered, next_of, may_wait, gaining, data_came, timer_came}
use Rattle.reno_receiver.proofs.Laws.{members_of_gaining}
use Rattle.port.specs.Port.{PortState, offered_one, offered_all}
use Rattle.node_core.specs.declared.timer.Timer.TheVariants.{DelayedAcknowledgement}
use Rattle.node_core.specs.Timers.{timer_key}
use Rattle.node_core.specs.declared.event.Event.{Event}
use Rattle.node_core.specs.declared.event.Event.TheVariants.{Start, Rto, DelAck, Free, Arrive}
use Rattle.node_core.specs.declared.role.Role.TheVariants.{Sends, Receives}
use Rattle.node_core.specs.Part.{PartState, LinkState, link_at, no_link}
use Rattle.node_core.specs.Row.{Effect, data_packet, ack_of, sender_row, receiver_row, start_row, rto_row, delack_row, arrival_row, at_sender, at_receiver, passed_on, row}
use Rattle.tournament.proofs.Maps.{not_some, same_some}
use Rattle.table_run.specs.State.{part_at, effect_of, stepped}
use Rattle.table_run.specs.Flow.{timer_of}
use Rattle.table_run.proofs.Due.{is_due}
use Rattle.table_run.proofs.RowLinks.{flow_limits, first_link}
use Rattle.table_run.proofs.RunLaws.{sound_run, kept_by, routers_have_routes}
use Rattle.run_laws.specs.Links.{port_of_link, IsOffered}
use Rattle.run_laws.specs.Senders.{for_packet, row_of}
use Rattle.run_laws.specs.Forwarding.{segment_of, SendersOfferSegments, RoutersForward, AnswersSegment, AnswersDelay, ReceiversAcknowledge, DelayedAnswersAreDue}
use Rattle.run_laws.proofs.Events.{here}
use Rattle.run_laws.proofs.Ports.{to_none}
use Rattle.run_laws.proofs.Senders.{new_segments_fit}
use Rattle.run_laws.proofs.Offers.{one_offered, all_offered, none_offered}

-- what an effect offers to a link of a node
abbrev At : List Packet → PartState → ℕ → Effect → Type 0
At packets part index e = IsOffered packets (link_at part.links index).port e.acts (link_at e.part.links index).port

-- packets that pass a link of a node
through : (packets : List Packet) (part : PartState) (index : ℕ) (e : Effect) (port : PortState) → index < length part.links → (link_at e.part.links index).port ≡ port → IsOffered packets (link_at part.links index).port e.acts port → At packets part index e
through packets part index e port within is offered = subst (IsOffered packets (link_at part.links index).port e.acts) (sym is) offered

module _ (part : PartState) (key : Key) (number : ℕ) (within : 0 < length part.links) where
  by_sender : (f : SenderFields) (planned : Planned) → At (map (data_packet number planned.fields.mss) planned.sent) part 0 (sender_row part key number f planned)
  by_sender f planned =
      let packets = map (data_packet number planned.fields.mss) planned.sent in
      let step = offered_all key.time (link_at part.links 0).port packets in
      through packets part 0 (sender_row part key number f planned) step.port within (ap (λ (l : LinkState). l.port) (get_or-set_same part.links 0 (record (link_at part.links 0) { port = step.port }) no_link within)) (all_offered key.time (link_at part.links 0).port packets)

  by_receiver : (r : ReceiverState) (answered : Answered) → At (ack_of number answered.reply) part 0 (receiver_row part key number r answered)
  by_receiver r answered =
      let packets = ack_of number answered.reply in
      let step = offered_all key.time (link_at part.links 0).port packets in
      through packets part 0 (receiver_row part key number r answered) step.port within (ap (λ (l : LinkState). l.port) (get_or-set_same part.links 0 (record (link_at part.links 0) { port = step.port }) no_link within)) (all_offered key.time (link_at part.links 0).port packets)

by_router : (part : PartState) (key : Key) (x : Packet) (index : ℕ) → index < length part.links → At (x ∷ []) part index (passed_on part key x (Some index))
by_router part key x index within =
    let step = offered_one key.time (link_at part.links index).port x in
    through (x ∷ []) part index (passed_on part key x (Some index)) step.port within (ap (λ (l : LinkState). l.port) (get_or-set_same part.links index (record (link_at part.links index) { port = step.port }) no_link within)) (one_offered key.time (link_at part.links index).port x)

-- routers
pub routers_forward : RoutersForward
routers_forward p n lines s is_scenario e k v is x v_is table role =
    let sound = sound_run p n lines s is_scenario e in
    let part = part_at s k.node in
    let there = (is_due s k v is).pending ∙ ap (λ (w : Event). Some w) v_is in
    let route = routers_have_routes p n lines s is_scenario e k x there table role in
    let effect : effect_of s (k, v) ≡ passed_on part k x (Some route.index) = ap (λ w. effect_of s (k, w)) v_is ∙ ap (λ ρ. arrival_row part ρ k x) role ∙ ap (passed_on part k x) route.exit in
    record {
      index = route.index;
      its_exit = route.exit;
      offered =
          subst (λ (q : PartState). IsOffered (x ∷ []) (port_of_link s k.node route.index) (effect_of s (k, v)).acts (link_at q.links route.index).port) (sym (here p is_scenario lines s k v sound is))
          (subst (At (x ∷ []) part route.index) (sym effect) (by_router part k x route.index route.within));
    }

-- senders
same_sender : (a b : ℕ) (f g : SenderFields) → Sends a f ≡ Sends b g → f ≡ g
same_sender a b f g e = cc

module _ (part : PartState) (key : Key) (number : ℕ) (f : SenderFields) (is : part.role ≡ Sends number f) (within : 0 < length part.links) where
  abbrev Sent : ℕ → Planned → Effect → Type 0
  Sent mss planned effect = At (map (data_packet number mss) planned.sent) part 0 effect

  sent_by_kind : (x : Packet) (kind : Kind) → Sent (for_packet f kind x.number key.time).fields.mss (for_packet f kind x.number key.time) (at_sender part key number f kind x.number)
  sent_by_kind x Data = none_offered (link_at part.links 0).port
  sent_by_kind x Ack = by_sender part key number within f (acknowledged f x.number key.time)

  sent_by_row : (v : Event) → ((link : ℕ) → v ≢ Free link) → Sent (row_of f v key.time).fields.mss (row_of f v key.time) (row part key v)
  sent_by_row (Start flow) not = subst (Sent _ (started f key.time)) (sym (ap (λ ρ. start_row part ρ key) is)) (by_sender part key number within f (started f key.time))
  sent_by_row (Rto flow) not = subst (Sent _ (timed_out f key.time)) (sym (ap (λ ρ. rto_row part ρ key) is)) (by_sender part key number within f (timed_out f key.time))
  sent_by_row (DelAck flow) not = subst (At [] part 0) (sym (ap (λ ρ. delack_row part ρ key) is)) (none_offered (link_at part.links 0).port)
  sent_by_row (Free link) not = absurd (not link refl)
  sent_by_row (Arrive x) not = subst (Sent _ (for_packet f x.kind x.number key.time)) (sym (ap (λ ρ. arrival_row part ρ key x) is)) (sent_by_kind x x.kind)

pub senders_offer_segments : SendersOfferSegments
senders_offer_segments p n lines s is_scenario e k v is number flow its at f role not =
    let sound = sound_run p n lines s is_scenario e in
    let first = first_link p lines sound.moment s sound.sound (data_path flow) (flow_limits p is_scenario number flow its).sender_node (paths_begin p is_scenario number flow its).0 in
    let within = subst (λ n. 0 < length (part_at s n).links) at first.within in
    let after = (kept_by p lines s k v is_scenario sound is).sound.each_flow number flow its in
    let row_role = (new_segments_fit p n lines s is_scenario e k v is number flow its at f (ap (λ n. (part_at s n).role) at ∙ role)).0 in
    let mss : (row_of f v k.time).fields.mss ≡ flow.mss = ap (λ (g : SenderFields). g.mss) (same_sender number number (row_of f v k.time).fields after.fields (sym row_role ∙ after.sender_role)) ∙ after.its_mss in
    subst (λ (q : PartState). IsOffered (map (segment_of number flow) (row_of f v k.time).sent) (port_of_link s k.node 0) (effect_of s (k, v)).acts (link_at q.links 0).port) (sym (here p is_scenario lines s k v sound is))
    (subst (λ m. At (map (data_packet number m) (row_of f v k.time).sent) (part_at s k.node) 0 (effect_of s (k, v))) mss (sent_by_row (part_at s k.node) k number f role within v not))

-- what has come is no greater than a number that all keys are upto
upto_all : (xs : List ℕ) (seq high : ℕ) → list_any (eq_by_cmp nat_cmp seq) xs ≡ true → list_all (λ x. nat_le x high) xs ≡ true → seq ≤ high
upto_all [] seq high any all = absurd (true≢false (sym any))
upto_all (x ∷ xs) seq high any all =
    let parts = and_parts (nat_le x high) (list_all (λ y. nat_le y high) xs) all in
    ⊎_elim (λ (same : eq_by_cmp nat_cmp seq x ≡ true). let is = eqb-true seq x (sym (unsigned_tied seq x) ∙ same) in let low = leb-true x high parts.0 in omega (arith, is, low))
    (λ (later : list_any (eq_by_cmp nat_cmp seq) xs ≡ true). upto_all xs seq high later parts.1) (or_cases (eq_by_cmp nat_cmp seq x) (list_any (eq_by_cmp nat_cmp seq) xs) any)

-- receivers
same_receiver : (a b : ℕ) (q r : ReceiverState) → Receives a q ≡ Receives b r → q ≡ r
same_receiver a b q r e = cc

module _ (number now : ℕ) (x : Packet) (r : ReceiverState) (offered : List Packet → Type 0) (does : offered (ack_of number (data_came r x.number now).reply)) where
  abbrev came : Bool → Answered
  came b = record { state = record (gaining r x.number) { timer = cond b (Some (now + r.delack)) None }; reply = cond b (Wait (now + r.delack)) (AckNow (next_of (gaining r x.number))) }

  segment_answered : AnswersSegment number now x r (data_came r x.number now).state offered
  segment_answered = by (may_wait r x.number) refl does
    where
      by : (b : Bool) → may_wait r x.number ≡ b → offered (ack_of number (came b).reply) → AnswersSegment number now x r (came b).state offered
      by true may did = record {
        gains = λ seq. members_of_gaining r x.number seq;
        at_once = λ none. absurd (not_some (sym none));
        waits = λ t is. (
            let parts = and_parts _ _ may in
            let inner = and_parts _ _ parts.1 in
            let last = and_parts _ _ inner.1 in
            (did, sym (same_some (now + r.delack) t is), to_none r.timer last.1, eqb-true x.number (next_of r) parts.0, λ seq there. upto_all (finmap.keys r.received) seq x.number (sym (finmap.contains_key-keys r.received seq) ∙ there) inner.0));
      }
      by false may did = record {
        gains = λ seq. members_of_gaining r x.number seq;
        at_once = λ _. did;
        waits = λ t is. absurd (not_some is);
      }

pub receivers_acknowledge : ReceiversAcknowledge
receivers_acknowledge p n lines s is_scenario e k v is number flow its at r role =
    let sound = sound_run p n lines s is_scenario e in
    let part = part_at s k.node in
    let t = stepped s k (effect_of s (k, v)) in
    let there = here p is_scenario lines s k v sound is in
    let first = first_link p lines sound.moment s sound.sound (ack_path flow) (flow_limits p is_scenario number flow its).receiver_node (paths_begin p is_scenario number flow its).1 in
    let within = subst (λ n. 0 < length (part_at s n).links) at first.within in
    let offered : List Packet → Type 0 = λ packets. IsOffered packets (port_of_link s k.node 0) (effect_of s (k, v)).acts (port_of_link t k.node 0) in
    let by_effect : (answered : Answered) → effect_of s (k, v) ≡ receiver_row part k number r answered → offered (ack_of number answered.reply) =
    λ answered effect. subst (λ (q : PartState). IsOffered (ack_of number answered.reply) (port_of_link s k.node 0) (effect_of s (k, v)).acts (link_at q.links 0).port) (sym there)
    (subst (At (ack_of number answered.reply) part 0) (sym effect) (by_receiver part k number within r answered)) in
    let state_is : (answered : Answered) → effect_of s (k, v) ≡ receiver_row part k number r answered → (a : ReceiverState) → (part_at t k.node).role ≡ Receives number a → answered.state ≡ a =
    λ answered effect a after. same_receiver number number answered.state a (sym (ap (λ (q : Effect). q.part.role) effect) ∙ sym (ap (λ (q : PartState). q.role) there) ∙ after) in (
      (λ x v_is kind_is a after.
          let effect : effect_of s (k, v) ≡ receiver_row part k number r (data_came r x.number k.time) = ap (λ w. effect_of s (k, w)) v_is ∙ ap (λ ρ. arrival_row part ρ k x) role ∙ ap (λ c. at_receiver part k number r c x.number) kind_is in
          subst (λ b. AnswersSegment number k.time x r b offered) (state_is (data_came r x.number k.time) effect a after) (segment_answered number k.time x r offered (by_effect (data_came r x.number k.time) effect))),
      (λ m v_is a after.
          let effect : effect_of s (k, v) ≡ receiver_row part k number r (timer_came r) = ap (λ w. effect_of s (k, w)) v_is ∙ ap (λ ρ. delack_row part ρ k) role in
          subst (λ b. AnswersDelay number r b offered) (state_is (timer_came r) effect a after) (record { answer = by_effect (timer_came r) effect; same_next = refl; none_waits = refl })),
    )

pub delayed_answers_are_due : DelayedAnswersAreDue
delayed_answers_are_due p n lines s is_scenario e number flow its =
    let sound = (sound_run p n lines s is_scenario e).sound in
    let F = sound.each_flow number flow its in
    record {
      sender = F.fields;
      receiver = F.received;
      sends = F.sender_role;
      receives = F.receiver_role;
      holds = record {
        delay = F.its_delack;
        due = subst (λ o. IfSome o (λ t. finmap.get s.pending (timer_key flow.receiver DelayedAcknowledgement t) ≡ Some (DelAck number))) (ap timer_of F.receiver_role) (sound.timers.delayed number flow its);
      };
    }
