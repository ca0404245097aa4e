-- What each run begins with, and what of its scenario stays.
use Rattle.std.proofs.Common.{◌≡◌, ℕ, zero, ◌+◌, ◌<◌, ◌==◌, Bool, true, false, List, [], ◌∷◌, length, map, get_or, refl, sym, ap, subst, ◌∙◌, Some, None, IsTrue, arith, eq-eqb, eqb-true}
use Rattle.std.specs.Prelude.{◌||◌}
use Rattle.std.specs.List.{slice_get, AllByRecursion}
use Rattle.std.specs.Option.{option_map, unwrap_or}
use Rattle.std.proofs.lemmas.Option.{slice_get-map, slice_get_within, slice_get-get_or, get_or_from_slice_get}
use Rattle.sim_time.specs.declared.queue_kind.QueueKind.{QueueKind}
use Rattle.sim_time.specs.declared.queue_kind.QueueKind.TheVariants.{DropTail as DropTailKind, Codel as CodelKind}
use Rattle.packet_chain.specs.declared.packet.Kind.{Kind}
use Rattle.packet_chain.specs.declared.packet.Kind.TheVariants.{Data, Ack}
use Rattle.sim_time.specs.declared.variant.Iw.{Iw}
use Rattle.sim_time.specs.declared.variant.Iw.TheVariants.{Iw3, Iw10}
use Rattle.sim_time.specs.InitialWindow.{initial_window_of}
use Rattle.scenario_image.specs.declared.parts.FlowPart.{FlowPart}
use Rattle.scenario_image.specs.declared.parts.LinkPart.{LinkPart}
use Rattle.scenario_image.specs.declared.parts.NodeKind.TheVariants.{Sender, Receiver, Router}
use Rattle.scenario_image.specs.declared.parts.ScenarioParts.{ScenarioParts}
use Rattle.scenario_image.specs.Kinds.{HasFlowItsKinds}
use Rattle.scenario_image.specs.Paths.{route_link}
use Rattle.scenario_image.specs.Scenario.{IsScenario}
use Rattle.scenario_image.specs.Settings.{sender_settings}
use Rattle.scenario_image.proofs.Arrivals.{ends_have_one_flow}
use Rattle.scenario_image.proofs.Courses.{all_at, mapped_some}
use Rattle.reno_sender.specs.Table.{initial_fields}
use Rattle.reno_receiver.specs.Received.{initial_receiver}
use Rattle.reno_receiver.proofs.Laws.{initial_holds}
use Rattle.aqm.specs.declared.queue.Queue.{Queue}
use Rattle.aqm.specs.declared.queue.Queue.TheVariants.{DropTail, Codel}
use Rattle.aqm.specs.Codel.{CodelState}
use Rattle.aqm.specs.Queue.{fifo_of, waiting_in, initial_queue, emptied}
use Rattle.node_core.specs.declared.role.Role.TheVariants.{Sends, Receives}
use Rattle.node_core.specs.Initial.{leaving_links, initial_link, initial_links, initial_part, no_flow, sends, receives, exits_of}
use Rattle.node_core.specs.Part.{LinkState, PartState, link_at, no_link}
use Rattle.table_run.specs.State.{initial, part_at}
use Rattle.table_run.specs.Flow.{path_of}
use Rattle.table_run.specs.Sound.{afresh}
use Rattle.table_run.proofs.Initial.{find_only, opened_part}
use Rattle.table_run.proofs.Lists.{IsAt, all_here, all_numbered}
use Rattle.table_run.proofs.Exits.{exit_by_table}
use Rattle.table_run.proofs.Links.{exit_is}
use Rattle.table_run.proofs.Moved.{node_there}
use Rattle.table_run.proofs.RowLinks.{flow_limits}
use Rattle.table_run.proofs.RunLaws.{sound_run}
use Rattle.run_laws.specs.Setup.{first_window, FlowsBeginAfresh, FlowsStayAsStated, BeginsIdle, LinksBeginIdle, IsOfKind, IsLinkAsStated, LinksStayAsStated, end_of, RoutersStayAsStated}

pub flows_stay_as_stated : FlowsStayAsStated
flows_stay_as_stated p n lines s is_scenario e number flow its =
    let F = (sound_run p n lines s is_scenario e).sound.each_flow number flow its in
    record {
      sender = F.fields;
      receiver = F.received;
      sends = F.sender_role;
      receives = F.receiver_role;
      holds = record { mss = F.its_mss; segments = F.its_segments; rwnd = F.its_rwnd; variant = F.its_variant; received_mss = F.same_mss };
    }

window_is : (mss : ℕ) (iw : Iw) → initial_window_of mss iw ≡ first_window mss iw
window_is mss Iw3 = refl
window_is mss Iw10 = refl

named_first : (a b other : ℕ) → (a == b) ≡ true → IsTrue ((a == b) || (other == b))
named_first a b other is = ap (λ x. x || (other == b)) is

named_second : (x y : Bool) → y ≡ true → IsTrue (x || y)
named_second true y is = refl
named_second false y is = is

module _ (p : ScenarioParts) (is_scenario : IsScenario p) (number : ℕ) (flow : FlowPart) (its : slice_get p.flows number ≡ Some flow) where
  kinds : HasFlowItsKinds p flow
  kinds = all_at (HasFlowItsKinds p) p.flows number flow is_scenario.kinds.each_flow its

  one_sender : (j : ℕ) (y : FlowPart) → slice_get p.flows j ≡ Some y → y.sender ≡ flow.sender → j ≡ number
  one_sender j y found same =
      ends_have_one_flow p flow.sender j number Sender y flow is_scenario kinds.sender not_router found (named_first y.sender flow.sender y.receiver (eq-eqb y.sender flow.sender same)) its
      (named_first flow.sender flow.sender flow.receiver (eq-eqb flow.sender flow.sender refl))
    where
      not_router : Sender ≡ Router → ⊥
      not_router e = cc

  one_receiver : (j : ℕ) (y : FlowPart) → slice_get p.flows j ≡ Some y → y.receiver ≡ flow.receiver → j ≡ number
  one_receiver j y found same =
      ends_have_one_flow p flow.receiver j number Receiver y flow is_scenario kinds.receiver not_router found (named_second (y.sender == flow.receiver) (y.receiver == flow.receiver) (eq-eqb y.receiver flow.receiver same)) its
      (named_second (flow.sender == flow.receiver) (flow.receiver == flow.receiver) (eq-eqb flow.receiver flow.receiver refl))
    where
      not_router : Receiver ≡ Router → ⊥
      not_router e = cc

  zero_plus : 0 + number ≡ number
  zero_plus = omega arith

  sender_opens : (part_at (initial p) flow.sender).role ≡ Sends number (initial_fields (sender_settings flow))
  sender_opens =
      ap (λ (x : PartState). x.role) (opened_part p flow.sender Sender kinds.sender)
      ∙ ap (λ o. sends (unwrap_or o no_flow)) (find_only (λ (x : ℕ × FlowPart). x.1.sender == flow.sender) 0 p.flows number flow its (eq-eqb flow.sender flow.sender refl) (λ j y found passes. one_sender j y found (eqb-true y.sender flow.sender passes)))
      ∙ ap (λ n. sends (n, flow)) zero_plus

  receiver_opens : (part_at (initial p) flow.receiver).role ≡ Receives number (initial_receiver flow.mss flow.delack)
  receiver_opens =
      ap (λ (x : PartState). x.role) (opened_part p flow.receiver Receiver kinds.receiver)
      ∙ ap (λ o. receives (unwrap_or o no_flow))
      (find_only (λ (x : ℕ × FlowPart). x.1.receiver == flow.receiver) 0 p.flows number flow its (eq-eqb flow.receiver flow.receiver refl) (λ j y found passes. one_receiver j y found (eqb-true y.receiver flow.receiver passes)))
      ∙ ap (λ n. receives (n, flow)) zero_plus

pub flows_begin_afresh : FlowsBeginAfresh
flows_begin_afresh p is_scenario number flow its =
    let limits = flow_limits p is_scenario number flow its in
    record {
      sender = initial_fields (sender_settings flow);
      receiver = initial_receiver flow.mss flow.delack;
      sends = sender_opens p is_scenario number flow its;
      receives = receiver_opens p is_scenario number flow its;
      holds = record {
        una = refl;
        nxt = refl;
        high = refl;
        cwnd = window_is flow.mss flow.variant.iw;
        ssthresh = refl;
        dups = refl;
        lt = refl;
        recovery = refl;
        recover = refl;
        timing = refl;
        srtt = refl;
        rto = refl;
        deadline = refl;
        resent = refl;
        none_received = λ seq got. (initial_holds flow.mss flow.delack limits.mss_range.0 limits.mss_range.1 limits.delack_range).empty seq got;
        none_waits = refl;
      };
    }

-- links
codel_afresh : (kind : QueueKind) (capacity : ℕ) (s : CodelState) → initial_queue kind capacity ≡ Codel s → (s.first_above ≡ None) × (s.dropping ≡ false) × (s.count ≡ 0) × (s.lastcount ≡ 0) × (s.drop_next ≡ 0)
codel_afresh DropTailKind capacity s e = absurd (other e)
  where
    other : initial_queue DropTailKind capacity ≡ Codel s → ⊥
    other e = cc
codel_afresh (CodelKind c) capacity s e = (sym (ap (λ (x : CodelState). x.first_above) same), sym (ap (λ (x : CodelState). x.dropping) same), sym (ap (λ (x : CodelState). x.count) same), sym (ap (λ (x : CodelState). x.lastcount) same), sym (ap (λ (x : CodelState). x.drop_next) same))
  where
    codel_in : Queue → CodelState → CodelState
    codel_in (DropTail d) other = other
    codel_in (Codel x) other = x

    same : codel_in (initial_queue (CodelKind c) capacity) s ≡ s
    same = ap (λ q. codel_in q s) e

none_waits : (kind : QueueKind) (capacity : ℕ) → waiting_in (initial_queue kind capacity) ≡ []
none_waits DropTailKind capacity = refl
none_waits (CodelKind c) capacity = refl

all_idle : (xs : List (ℕ × LinkPart)) → AllByRecursion (λ (l : LinkState). BeginsIdle l.port) (map initial_link xs)
all_idle [] = tt
all_idle (x ∷ xs) = (record { offered = refl; sent = refl; idle = refl; empty = none_waits x.1.queue x.1.capacity; codel = λ s e. codel_afresh x.1.queue x.1.capacity s e }, all_idle xs)

pub links_begin_idle : LinksBeginIdle
links_begin_idle p is_scenario node index within =
    let sound = (sound_run p zero [] (initial p) is_scenario refl).sound in
    let nodes : node < length p.nodes = subst (λ n. node < n) sound.nodes_are (node_there (initial p) node index within) in
    let kind = get_or p.nodes node Router in
    let links : (part_at (initial p) node).links ≡ (initial_part p (node, kind)).links = ap (λ (x : PartState). x.links) (opened_part p node kind (slice_get-get_or p.nodes node Router nodes)) in
    all_here (λ (l : LinkState). BeginsIdle l.port) (part_at (initial p) node).links index no_link within (subst (AllByRecursion (λ (l : LinkState). BeginsIdle l.port)) (sym links) (all_idle (leaving_links p.links node)))

kind_is : (kind : QueueKind) (capacity : ℕ) (q : Queue) → initial_queue kind capacity ≡ emptied q → IsOfKind kind q
kind_is DropTailKind capacity (DropTail s) e = tt
kind_is DropTailKind capacity (Codel s) e = cc
kind_is (CodelKind c) capacity (DropTail s) e = cc
kind_is (CodelKind c) capacity (Codel s) e = (ap (λ q. (codel_in q).target) (sym e), ap (λ q. (codel_in q).interval) (sym e), ap (λ q. (codel_in q).maxpacket) (sym e))
  where
    codel_in : Queue → CodelState
    codel_in (DropTail d) = s
    codel_in (Codel x) = x

room_is : (kind : QueueKind) (capacity : ℕ) (q : Queue) → initial_queue kind capacity ≡ emptied q → (fifo_of q).capacity ≡ capacity
room_is kind capacity q e = left q ∙ ap (λ r. (fifo_of r).capacity) (sym e) ∙ right kind
  where
    left : (r : Queue) → (fifo_of r).capacity ≡ (fifo_of (emptied r)).capacity
    left (DropTail s) = refl
    left (Codel s) = refl

    right : (k : QueueKind) → (fifo_of (initial_queue k capacity)).capacity ≡ capacity
    right DropTailKind = refl
    right (CodelKind c) = refl

module _ (p : ScenarioParts) (node : ℕ) (links : List LinkState) (its_links : map afresh links ≡ initial_links p.links node) (index : ℕ) (within : index < length links) where
  link_stated : IsLinkAsStated p node (link_at links index)
  link_stated =
      let link = link_at links index in
      let (x, there, is) = mapped_some initial_link (slice_get (leaving_links p.links node) index) (afresh link)
      (sym (slice_get-map initial_link (leaving_links p.links node) index) ∙ ap (λ ls. slice_get ls index) (sym its_links) ∙ slice_get-map afresh links index ∙ ap (option_map afresh) (slice_get-get_or links index no_link within)) in
      let all = all_numbered (λ (y : ℕ × LinkPart). y.1.from == node) 0 p.links in
      let here = all_here (λ (y : ℕ × LinkPart). IsAt p.links 0 y × ((y.1.from == node) ≡ true)) (leaving_links p.links node) index x (slice_get_within (leaving_links p.links node) index x there) all in
      let known = subst (λ (y : ℕ × LinkPart). IsAt p.links 0 y × ((y.1.from == node) ≡ true)) (get_or_from_slice_get (leaving_links p.links node) index x x there) here in
      let number : known.0.place ≡ link.port.link = (let a = known.0.number_is in let b = ap (λ (l : LinkState). l.port.link) is in omega (arith, a, b)) in
      let queue : initial_queue x.1.queue x.1.capacity ≡ emptied link.port.queue = ap (λ (l : LinkState). l.port.queue) is in
      record {
        part = x.1;
        its_part = ap (slice_get p.links) (sym number) ∙ known.0.there;
        from = eqb-true _ _ known.1;
        to = sym (ap (λ (l : LinkState). l.to) is);
        rate = sym (ap (λ (l : LinkState). l.port.rate) is);
        delay = sym (ap (λ (l : LinkState). l.port.delay) is);
        lose = sym (ap (λ (l : LinkState). l.port.lose) is);
        capacity = room_is x.1.queue x.1.capacity link.port.queue queue;
        kind = kind_is x.1.queue x.1.capacity link.port.queue queue;
      }

pub links_stay_as_stated : LinksStayAsStated
links_stay_as_stated p n lines s is_scenario e node index within =
    let sound = (sound_run p n lines s is_scenario e).sound in
    let nodes : node < length p.nodes = subst (λ m. node < m) sound.nodes_are (node_there s node index within) in
    link_stated p node (part_at s node).links (sound.each_node node nodes).its_links index within

-- routes
same_end : (kind : Kind) (flow : FlowPart) → end_of kind flow ≡ (path_of kind flow).end
same_end Data flow = refl
same_end Ack flow = refl

pub routers_stay_as_stated : RoutersStayAsStated
routers_stay_as_stated p n lines s is_scenario e node next flow x router its route leaves =
    let sound = (sound_run p n lines s is_scenario e).sound in
    let nodes = slice_get_within p.nodes node Router router in
    let (index, exit, within, number) = exit_is p node (part_at s node).links (sound.each_node node nodes).its_links (path_of x.kind flow).end next (ap (route_link p.routes node) (sym (same_end x.kind flow)) ∙ route) leaves in
    record { table = map (exits_of p node) p.flows; role = sound.each_router node router; index = index; exit = exit_by_table p node x flow its ∙ exit; within = within; link = number }
