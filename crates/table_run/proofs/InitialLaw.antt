-- The initial state of every scenario is sound: its flows, its links and what is pending.
use Rattle.std.proofs.Common.{◌≡◌, ℕ, ◌+◌, ◌<◌, ◌==◌, Bool, true, false, [], length, map, get_or, refl, sym, ap, subst, ◌∙◌, Option, Some, None, IsTrue, arith, eq-eqb, eqb-true}
use Rattle.std.specs.Prelude.{◌||◌}
use Rattle.std.proofs.lemmas.List.{length-map}
use Rattle.std.proofs.lemmas.List.FromFn.{length-enumerate_from}
use Rattle.std.proofs.lemmas.Option.{slice_get-get_or}
use Rattle.std.specs.List.{slice_get, enumerate_from, AllByRecursion}
use Rattle.std.specs.Option.{unwrap_or}
use Rattle.std.specs.FinMap as finmap
use Rattle.sim_time.specs.declared.key.Key.{Key}
use Rattle.packet_chain.specs.declared.packet.Packet.{Packet}
use Rattle.reno_sender.specs.Table.{initial_fields}
use Rattle.reno_sender.proofs.Laws.{initial_sound}
use Rattle.reno_receiver.specs.Received.{initial_receiver}
use Rattle.reno_receiver.proofs.Laws.{initial_holds}
use Rattle.scenario_image.specs.declared.parts.NodeKind.TheVariants.{Sender, Receiver, Router}
use Rattle.scenario_image.specs.declared.parts.FlowPart.{FlowPart}
use Rattle.scenario_image.specs.declared.parts.ScenarioParts.{ScenarioParts}
use Rattle.scenario_image.specs.Kinds.{HasFlowItsKinds}
use Rattle.scenario_image.specs.Scenario.{IsScenario}
use Rattle.scenario_image.specs.Settings.{sender_settings}
use Rattle.scenario_image.proofs.Courses.{all_at}
use Rattle.scenario_image.proofs.Arrivals.{ends_have_one_flow}
use Rattle.node_core.specs.declared.timer.Timer.TheVariants.{Retransmission, DelayedAcknowledgement, Free as BecomesFree}
use Rattle.node_core.specs.declared.event.Event.{Event}
use Rattle.node_core.specs.declared.event.Event.TheVariants.{Start, Rto, DelAck, Free, Arrive}
use Rattle.node_core.specs.declared.role.Role.TheVariants.{Sends, Receives}
use Rattle.node_core.specs.Timers.{timer_key}
use Rattle.node_core.specs.Initial.{leaving_links, no_flow, flow_from, flow_to, sends, receives, initial_part, start_of}
use Rattle.node_core.specs.Part.{LinkState, PartState, link_at, no_link}
use Rattle.node_core.specs.Pending.{Events}
use Rattle.node_core.proofs.OneFlow.{sender_limits}
use Rattle.tournament.proofs.Maps.{each_empty}
use Rattle.table_run.specs.State.{State, initial, part_at}
use Rattle.table_run.specs.Flow.{high_of, deadline_of, timer_of, IsSoundFlow}
use Rattle.table_run.specs.Sound.{EachEvent, Belongs, IsSoundNode, IsPendingWhereSet, IsLinkOf, IsSoundAt, afresh, IsSoundLink}
use Rattle.table_run.proofs.Lists.{all_here}
use Rattle.table_run.proofs.Moved.{node_there}
use Rattle.table_run.proofs.RowLinks.{flow_limits}
use Rattle.table_run.proofs.Initial.{find_only, opened_part, afresh_all, all_opened, all_idle, IsInitial, each_applied, all_starts, start_pending}

named_first : (a b : ℕ) (other : ℕ) → (a == b) ≡ true → IsTrue ((a == b) || (other == b))
named_first a b other is = ap (λ x. x || (other == b)) is

named_second : (x y : Bool) → y ≡ true → IsTrue (x || y)
named_second true y is = refl
named_second false y is = is

is_set_none : (events : Events) (key_at : ℕ → Key) (event : Event) (o : Option ℕ) → o ≡ None → IsPendingWhereSet events key_at event o
is_set_none events key_at event o is = subst (IsPendingWhereSet events key_at event) (sym is) tt

module _ (p : ScenarioParts) (is_scenario : IsScenario p) where
  abbrev s : State
  s = initial p

  kinds : (number : ℕ) (flow : FlowPart) → slice_get p.flows number ≡ Some flow → HasFlowItsKinds p flow
  kinds number flow its = all_at (HasFlowItsKinds p) p.flows number flow is_scenario.kinds.each_flow its

  one_sender : (number : ℕ) (flow : FlowPart) → slice_get p.flows number ≡ Some flow → (j : ℕ) (y : FlowPart) → slice_get p.flows j ≡ Some y → y.sender ≡ flow.sender → j ≡ number
  one_sender number flow its j y found same =
      ends_have_one_flow p flow.sender j number Sender y flow is_scenario (kinds number flow its).sender not_router found
      (named_first y.sender flow.sender y.receiver (eq-eqb y.sender flow.sender same)) its (named_first flow.sender flow.sender flow.receiver (eq-eqb flow.sender flow.sender refl))
    where
      not_router : Sender ≡ Router → ⊥
      not_router e = cc

  one_receiver : (number : ℕ) (flow : FlowPart) → slice_get p.flows number ≡ Some flow → (j : ℕ) (y : FlowPart) → slice_get p.flows j ≡ Some y → y.receiver ≡ flow.receiver → j ≡ number
  one_receiver number flow its j y found same =
      ends_have_one_flow p flow.receiver j number Receiver y flow is_scenario (kinds number flow its).receiver not_router found
      (named_second (y.sender == flow.receiver) (y.receiver == flow.receiver) (eq-eqb y.receiver flow.receiver same)) its (named_second (flow.sender == flow.receiver) (flow.receiver == flow.receiver) (eq-eqb flow.receiver flow.receiver refl))
    where
      not_router : Receiver ≡ Router → ⊥
      not_router e = cc

  flow_from_is : (number : ℕ) (flow : FlowPart) → slice_get p.flows number ≡ Some flow → flow_from p.flows flow.sender ≡ (number, flow)
  flow_from_is number flow its =
      let zero_plus : 0 + number ≡ number = omega arith in
      ap (λ o. unwrap_or o no_flow)
      (find_only (λ (x : ℕ × FlowPart). x.1.sender == flow.sender) 0 p.flows number flow its (eq-eqb flow.sender flow.sender refl) (λ j y found passes. one_sender number flow its j y found (eqb-true y.sender flow.sender passes)))
      ∙ ap (λ n. (n, flow)) zero_plus

  flow_to_is : (number : ℕ) (flow : FlowPart) → slice_get p.flows number ≡ Some flow → flow_to p.flows flow.receiver ≡ (number, flow)
  flow_to_is number flow its =
      let zero_plus : 0 + number ≡ number = omega arith in
      ap (λ o. unwrap_or o no_flow)
      (find_only (λ (x : ℕ × FlowPart). x.1.receiver == flow.receiver) 0 p.flows number flow its (eq-eqb flow.receiver flow.receiver refl) (λ j y found passes. one_receiver number flow its j y found (eqb-true y.receiver flow.receiver passes)))
      ∙ ap (λ n. (n, flow)) zero_plus

  sender_opens : (number : ℕ) (flow : FlowPart) → slice_get p.flows number ≡ Some flow → (part_at s flow.sender).role ≡ Sends number (initial_fields (sender_settings flow))
  sender_opens number flow its = ap (λ (x : PartState). x.role) (opened_part p flow.sender Sender (kinds number flow its).sender) ∙ ap sends (flow_from_is number flow its)

  receiver_opens : (number : ℕ) (flow : FlowPart) → slice_get p.flows number ≡ Some flow → (part_at s flow.receiver).role ≡ Receives number (initial_receiver flow.mss flow.delack)
  receiver_opens number flow its = ap (λ (x : PartState). x.role) (opened_part p flow.receiver Receiver (kinds number flow its).receiver) ∙ ap receives (flow_to_is number flow its)

  flow_opens : (number : ℕ) (flow : FlowPart) → slice_get p.flows number ≡ Some flow → IsSoundFlow s 0 number flow
  flow_opens number flow its =
      let limits = flow_limits p is_scenario number flow its in
      let opened = initial_holds flow.mss flow.delack limits.mss_range.0 limits.mss_range.1 limits.delack_range in
      record {
        fields = initial_fields (sender_settings flow);
        received = initial_receiver flow.mss flow.delack;
        sender_role = sender_opens number flow its;
        receiver_role = receiver_opens number flow its;
        sound = initial_sound (sender_settings flow) (sender_limits _ _ flow limits);
        its_mss = refl;
        its_segments = refl;
        its_rwnd = refl;
        its_variant = refl;
        timed_before = tt;
        deadline_soon = tt;
        well_formed = opened.well_formed;
        same_mss = refl;
        its_delack = refl;
        received_sent = λ seq got. absurd (opened.empty seq got);
        next_sent = (let none = opened.next_is in omega (arith, none));
        answer_waits = tt;
      }

  node_opens : (node : ℕ) → node < length p.nodes → IsSoundNode p s 0 node
  node_opens node within =
      let kind = get_or p.nodes node Router in
      let links : (part_at s node).links ≡ (initial_part p (node, kind)).links = ap (λ (x : PartState). x.links) (opened_part p node kind (slice_get-get_or p.nodes node Router within)) in
      record {
        its_links = ap (map afresh) links ∙ afresh_all (leaving_links p.links node);
        each_link = subst (AllByRecursion (λ (l : LinkState). IsSoundLink p s 0 l.port)) (sym links) (all_opened p s (leaving_links p.links node));
      }

  nodes_are : length s.parts ≡ length p.nodes
  nodes_are = length-map (enumerate_from 0 p.nodes) (initial_part p) ∙ length-enumerate_from 0 p.nodes

  idle : (node index number : ℕ) → IsLinkOf s node index number → (link_at (part_at s node).links index).port.next_free ≡ None
  idle node index number is =
      let within : node < length p.nodes = subst (λ n. node < n) nodes_are (node_there s node index is.within) in
      let kind = get_or p.nodes node Router in
      let links : (part_at s node).links ≡ (initial_part p (node, kind)).links = ap (λ (x : PartState). x.links) (opened_part p node kind (slice_get-get_or p.nodes node Router within)) in
      all_here (λ (l : LinkState). l.port.next_free ≡ None) (part_at s node).links index no_link is.within (subst (AllByRecursion (λ (l : LinkState). l.port.next_free ≡ None)) (sym links) (all_idle (leaving_links p.links node)))

  all_initial : EachEvent (IsInitial p) s.pending
  all_initial = each_applied (IsInitial p) (map start_of (enumerate_from 0 p.flows)) finmap.empty
      (all_starts p 0 p.flows (λ j f e. let same : j ≡ 0 + j = omega arith in ap (slice_get p.flows) (sym same) ∙ e))
      (λ q w e. absurd (each_empty (λ _. ⊥) q w e))

  belongs : EachEvent (Belongs p s 0) s.pending
  belongs q w e = let i = all_initial q w e in subst (Belongs p s 0 q) (sym i.is_start) i.start

  pub initial_is_sound : IsSoundAt p [] 0 s
  initial_is_sound = record {
    end_is = refl;
    nodes_are = nodes_are;
    each_flow = flow_opens;
    each_router = λ node is. ap (λ (x : PartState). x.role) (opened_part p node Router is);
    each_node = node_opens;
    belongs = belongs;
    timers = record {
      rto_timers = λ number flow its. is_set_none s.pending (timer_key flow.sender Retransmission) (Rto number) (deadline_of (part_at s flow.sender).role) (ap deadline_of (sender_opens number flow its));
      delayed = λ number flow its. is_set_none s.pending (timer_key flow.receiver DelayedAcknowledgement) (DelAck number) (timer_of (part_at s flow.receiver).role) (ap timer_of (receiver_opens number flow its));
      busy = λ node index number is. is_set_none s.pending (timer_key node (BecomesFree index)) (Free number) (link_at (part_at s node).links index).port.next_free (idle node index number is);
    };
    starts = record {
      waits = λ number flow its _. let zero_plus : 0 + number ≡ number = omega arith in start_pending 0 p.flows finmap.empty number flow its (one_sender number flow its) ∙ ap (λ n. Some (Start n)) zero_plus;
      run_once = λ number flow its ran. absurd (no_index ran.0 ran.1);
    };
    unstarted = λ number flow its _. ap high_of (sender_opens number flow its);
    in_order = λ a b x y at_a _ _ _. let i = all_initial a (Arrive x) at_a in absurd (not_start x i.number i.is_start);
    not_past = λ q w _. omega arith;
  }
    where
      no_index : (i : ℕ) → i < 0 → ⊥
      no_index i within = omega (arith, within)

      not_start : (x : Packet) (number : ℕ) → Arrive x ≡ Start number → ⊥
      not_start x number e = cc
