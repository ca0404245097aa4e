-- A statement that is spelt by numbers says itself again.
use Rattle.std.proofs.Common.{◌≡◌, ◌<◌, ◌≤◌, ℕ, ◌-◌, ◌^◌, ◌==◌, ◌||◌, nat_le, Bool, true, false, List, [], ◌∷◌, length, Option, Some, None, is_some, Result, Ok, ap, sym, ◌∙◌, refl, arith}
use Rattle.std.specs.Prelude.{codes, decimal, unwrap_or}
use Rattle.std.specs.List.{slice_get}
use Rattle.std.proofs.lemmas.Bool.{and_from, or_from, ne_eqb, lt-leb, not_from_false}
use Rattle.sim_time.specs.declared.rate.TheConstants.{LEAST_RATE, GREATEST_RATE}
use Rattle.sim_time.specs.declared.variant.Iw.{Iw}
use Rattle.sim_time.specs.declared.variant.Iw.TheVariants.{Iw3, Iw10}
use Rattle.sim_time.specs.declared.variant.TheConstants.{RENO}
use Rattle.sim_time.specs.declared.limits.TheConstants.{LATEST_END}
use Rattle.scenario_image.specs.declared.limits.TheConstants.{LONGEST_DELAY, GREATEST_MSS, MOST_SEGMENTS, GREATEST_RWND, LONGEST_DELACK, MOST_LOSE, MOST_NODES, MOST_LINKS, MOST_FLOWS}
use Rattle.sim_time.specs.QueueLimits.{IsCodelInLimits, IsQueueInLimits}
use Rattle.scenario_image.specs.LinkLimits.{IsLinkInLimits}
use Rattle.scenario_image.specs.FlowLimits.{IsFlowInLimits}
use Rattle.scenario_image.specs.declared.parts.NodeKind.{NodeKind}
use Rattle.scenario_image.specs.declared.parts.NodeKind.TheVariants.{Sender, Receiver, Router}
use Rattle.sim_time.specs.declared.queue_kind.QueueKind.{QueueKind}
use Rattle.sim_time.specs.declared.queue_kind.QueueKind.TheVariants.{DropTail, Codel}
use Rattle.scenario_image.specs.declared.parts.LinkPart.{LinkPart}
use Rattle.scenario_image.specs.declared.parts.FlowPart.{FlowPart}
use Rattle.scenario_image.specs.declared.parts.RoutePart.{RoutePart}
use Rattle.scenario_asm.specs.declared.fault.Fault.{Fault}
use Rattle.scenario_asm.specs.declared.fault.Fault.TheVariants.{E4, E6}
use Rattle.scenario_asm.specs.declared.table.Item.{Item}
use Rattle.scenario_asm.specs.declared.statement.LinkLine.{LinkLine}
use Rattle.scenario_asm.specs.declared.statement.LoseLine.{LoseLine}
use Rattle.scenario_asm.specs.declared.statement.Statement.{Statement}
use Rattle.scenario_asm.specs.declared.statement.Statement.TheVariants.{Sim, Node, Link, Flow, Route, Lose}
use Rattle.scenario_asm.specs.Lines.{Word}
use Rattle.scenario_asm.specs.Numbers.{is_name, number, number_verdict}
use Rattle.scenario_asm.specs.Names.{Known, number_of, kind_of_word, link_of_word, is_sender, is_receiver, is_router, is_end, is_from, is_routed, is_full_router, lost_of, lose_list, last_of, least_above, used_verdict, new_name_verdict, node_verdict, other_node_verdict, destination_verdict}
use Rattle.scenario_asm.specs.Statements.{statement_at, iw_named, node_verdicts, link_verdicts, link_said, flow_verdicts, route_verdicts, lose_verdicts}
use Rattle.scenario_asm.specs.Spelling.{node_label, link_label, flow_label, iw_word, spelling}
use Rattle.scenario_asm.specs.TcpWords.{tcp_named, tcp_word}
use Rattle.scenario_asm.specs.CanonicalText.{line_of_link}
use Rattle.scenario_asm.specs.Verdicts.{Verdict, first_fault, faulty_if, faulty_unless}
use Rattle.scenario_asm.proofs.Right.{AreNone}
use Rattle.scenario_asm.proofs.TcpWords.{tcp_again, tcp_none}
use Rattle.scenario_asm.proofs.Verdicts.{judged_ok}
use Rattle.scenario_asm.proofs.Decimals.{number_decimal, decimal_right, label_name}
use Rattle.scenario_asm.proofs.Numbered.{IsNumbered, node_number, node_kind_is, link_number, link_is, is_there}

-- verdicts that are all none have no fault
no_fault : (verdicts : List Verdict) → AreNone verdicts → first_fault verdicts ≡ None
no_fault [] none = refl
no_fault (verdict ∷ verdicts) none = rw (none.0) (no_fault verdicts none.1)

used_none : (word : Word) (item : Option Item) (right : Bool) → is_name word ≡ true → is_some item ≡ true → right ≡ true → used_verdict word item right ≡ None
used_none word item right name some is = rw (name, some, is) refl

new_none : (known : Known) (word : Word) → is_name word ≡ true → known.item word ≡ None → new_name_verdict known word ≡ None
new_none known word name free = rw (name, free) refl

-- `sim`
pub sim_says : (known : Known) (end : ℕ) → 1 ≤ end → end ≤ LATEST_END → statement_at known (spelling (Sim end)) ≡ Ok (Sim end)
sim_says known end low high =
    let small : end < 2 ^ 64 = omega arith in
    let said : ℕ → Result Statement Fault = λ n. Ok (Sim n) in
    judged_ok true (number_verdict 1 LATEST_END (decimal end) ∷ []) false (Sim (number (decimal end))) refl (no_fault (number_verdict 1 LATEST_END (decimal end) ∷ []) (decimal_right 1 LATEST_END end small low high, tt)) refl
    ∙ ap said (number_decimal end small)

-- `node`
node_at_says : (known : Known) (n : ℕ) (kind : NodeKind) → new_name_verdict known (node_label n) ≡ None → nat_le MOST_NODES (length known.kinds) ≡ false → statement_at known (spelling (Node (node_label n) kind)) ≡ Ok (Node (node_label n) kind)
node_at_says known n Sender new room =
    judged_ok true (node_verdicts known (spelling (Node (node_label n) Sender))) _ (Node (node_label n) Sender) refl (no_fault (node_verdicts known (spelling (Node (node_label n) Sender))) (new, (refl, tt))) room
node_at_says known n Receiver new room =
    judged_ok true (node_verdicts known (spelling (Node (node_label n) Receiver))) _ (Node (node_label n) Receiver) refl (no_fault (node_verdicts known (spelling (Node (node_label n) Receiver))) (new, (refl, tt))) room
node_at_says known n Router new room =
    judged_ok true (node_verdicts known (spelling (Node (node_label n) Router))) _ (Node (node_label n) Router) refl (no_fault (node_verdicts known (spelling (Node (node_label n) Router))) (new, (refl, tt))) room

pub node_says : (known : Known) (kinds : List NodeKind) (links : List LinkPart) (flows : List FlowPart) (routes : List RoutePart) (kind : NodeKind) → IsNumbered known kinds links flows routes → length kinds < 256 → statement_at known (spelling (Node (node_label (length kinds)) kind)) ≡ Ok (Node (node_label (length kinds)) kind)
node_says known kinds links flows routes kind at few =
    node_at_says known (length kinds) kind
    (new_none known (node_label (length kinds)) (label_name 110 (length kinds) refl (omega arith)) (at.no_node (length kinds) (omega arith) (omega arith)))
    (ap (λ l. nat_le MOST_NODES (length l)) at.kinds_are ∙ lt-leb MOST_NODES (length kinds) few)

-- where a node is named
node_named : (known : Known) (kinds : List NodeKind) (links : List LinkPart) (flows : List FlowPart) (routes : List RoutePart) → IsNumbered known kinds links flows routes → (n : ℕ) → n < length kinds → length kinds ≤ 256 → (right : Bool) → right ≡ true → used_verdict (node_label n) (known.item (node_label n)) right ≡ None
node_named known kinds links flows routes at n lt few right is =
    used_none (node_label n) (known.item (node_label n)) right (label_name 110 n refl (omega arith)) (ap is_some (at.node n lt)) is

link_named : (known : Known) (kinds : List NodeKind) (links : List LinkPart) (flows : List FlowPart) (routes : List RoutePart) → IsNumbered known kinds links flows routes → (n : ℕ) → n < length links → length links ≤ 1024 → (right : Bool) → right ≡ true → used_verdict (link_label n) (known.item (link_label n)) right ≡ None
link_named known kinds links flows routes at n lt few right is =
    used_none (link_label n) (known.item (link_label n)) right (label_name 108 n refl (omega arith)) (ap is_some (at.link n lt)) is

node_none : (known : Known) (kinds : List NodeKind) (links : List LinkPart) (flows : List FlowPart) (routes : List RoutePart) → IsNumbered known kinds links flows routes → (n : ℕ) → n < length kinds → length kinds ≤ 256 → node_verdict known (node_label n) ≡ None
node_none known kinds links flows routes at n lt few =
    node_named known kinds links flows routes at n lt few _ (ap is_some (node_kind_is known kinds links flows routes at n lt) ∙ is_there kinds n lt)

other_none : (known : Known) (kinds : List NodeKind) (links : List LinkPart) (flows : List FlowPart) (routes : List RoutePart) → IsNumbered known kinds links flows routes → (m n : ℕ) → m < length kinds → n < length kinds → length kinds ≤ 256 → (m ≡ n → ⊥) → other_node_verdict known (number_of known (node_label m)) (node_label n) ≡ None
other_none known kinds links flows routes at m n here there few apart =
    let differ : (number_of known (node_label n) == number_of known (node_label m)) ≡ false =
    ne_eqb _ _ (λ same. apart (sym (node_number known kinds links flows routes at m here) ∙ (sym same ∙ node_number known kinds links flows routes at n there)))
    in
    node_named known kinds links flows routes at n there few _ (and_from _ _ (ap is_some (node_kind_is known kinds links flows routes at n there) ∙ is_there kinds n there) (not_from_false _ differ))

-- `link`
record IsLineFine (known : Known) (name : Word) (from to rate delay capacity : ℕ) : Type 0 where
  new : new_name_verdict known name ≡ None
  from_fine : node_verdict known (node_label from) ≡ None
  to_fine : other_node_verdict known (number_of known (node_label from)) (node_label to) ≡ None
  from_is : number_of known (node_label from) ≡ from
  to_is : number_of known (node_label to) ≡ to
  rate_fine : number_verdict LEAST_RATE GREATEST_RATE (decimal rate) ≡ None
  rate_is : number (decimal rate) ≡ rate
  delay_fine : number_verdict 1 LONGEST_DELAY (decimal delay) ≡ None
  delay_is : number (decimal delay) ≡ delay
  capacity_fine : number_verdict 1 65535 (decimal capacity) ≡ None
  capacity_is : number (decimal capacity) ≡ capacity
  room : (nat_le MOST_LINKS (length known.links) || is_full_router known (number_of known (node_label from))) ≡ false

drop_tail_says : (known : Known) (name : Word) (from to rate delay capacity : ℕ) → IsLineFine known name from to rate delay capacity → (let line : LinkLine = record { from = from; to = to; rate = rate; delay = delay; queue = DropTail; capacity = capacity } in statement_at known (spelling (Link name line)) ≡ Ok (Link name line))
drop_tail_says known name from to rate delay capacity fine =
    let words : List Word = codes "link" ∷ name ∷ node_label from ∷ node_label to ∷ decimal rate ∷ decimal delay ∷ codes "droptail" ∷ decimal capacity ∷ [] in
    judged_ok true (link_verdicts known words) _ (Link name (link_said known words)) refl
    (no_fault (link_verdicts known words) (fine.new, (fine.from_fine, (fine.to_fine, (fine.rate_fine, (fine.delay_fine, (refl, (fine.capacity_fine, (refl, tt)))))))))
    fine.room
    ∙ rw (fine.from_is, fine.to_is, fine.rate_is, fine.delay_is, fine.capacity_is) refl

-- the numbers of CoDel
record IsCodelFine (target interval maxpacket : ℕ) : Type 0 where
  target_fine : number_verdict 1 LONGEST_DELAY (decimal target) ≡ None
  target_is : number (decimal target) ≡ target
  interval_fine : number_verdict 1 LONGEST_DELAY (decimal interval) ≡ None
  interval_is : number (decimal interval) ≡ interval
  maxpacket_fine : number_verdict 1 65535 (decimal maxpacket) ≡ None
  maxpacket_is : number (decimal maxpacket) ≡ maxpacket

codel_says : (known : Known) (name : Word) (from to rate delay capacity target interval maxpacket : ℕ) → IsLineFine known name from to rate delay capacity → IsCodelFine target interval maxpacket → (let line : LinkLine = record { from = from; to = to; rate = rate; delay = delay; queue = Codel (record { target = target; interval = interval; maxpacket = maxpacket }); capacity = capacity } in statement_at known (spelling (Link name line)) ≡ Ok (Link name line))
codel_says known name from to rate delay capacity target interval maxpacket fine codel =
    let words : List Word = codes "link" ∷ name ∷ node_label from ∷ node_label to ∷ decimal rate ∷ decimal delay ∷ codes "codel" ∷ decimal capacity ∷ decimal target ∷ decimal interval ∷ decimal maxpacket ∷ [] in
    let numbers : List Verdict = number_verdict 1 LONGEST_DELAY (decimal target) ∷ number_verdict 1 LONGEST_DELAY (decimal interval) ∷ number_verdict 1 65535 (decimal maxpacket) ∷ [] in
    judged_ok true (link_verdicts known words) _ (Link name (link_said known words)) refl
    (no_fault (link_verdicts known words) (fine.new, (fine.from_fine, (fine.to_fine, (fine.rate_fine, (fine.delay_fine, (refl, (fine.capacity_fine, (no_fault numbers (codel.target_fine, (codel.interval_fine, (codel.maxpacket_fine, tt))), tt)))))))))
    fine.room
    ∙ rw (fine.from_is, fine.to_is, fine.rate_is, fine.delay_is, fine.capacity_is, codel.target_is, codel.interval_is, codel.maxpacket_is) refl

line_fine : (known : Known) (kinds : List NodeKind) (links : List LinkPart) (flows : List FlowPart) (routes : List RoutePart) (link : LinkPart) → IsNumbered known kinds links flows routes → IsLinkInLimits (length kinds) link → length kinds ≤ 256 → length links < 1024 → (link.from ≡ link.to → ⊥) → is_full_router known link.from ≡ false → IsLineFine known (link_label (length links)) link.from link.to link.rate link.delay link.capacity
line_fine known kinds links flows routes link at limits few less apart room =
    let rate : link.rate < 2 ^ 64 = omega (arith, limits.rate_range.1) in
    let delay : link.delay < 2 ^ 64 = omega (arith, limits.delay_range.1) in
    let capacity : link.capacity < 2 ^ 64 = omega (arith, limits.capacity_range.1) in
    record {
      new = new_none known (link_label (length links)) (label_name 108 (length links) refl (omega arith)) (at.no_link (length links) (omega arith) (omega arith));
      from_fine = node_none known kinds links flows routes at link.from limits.from_node few;
      to_fine = other_none known kinds links flows routes at link.from link.to limits.from_node limits.to_node few apart;
      from_is = node_number known kinds links flows routes at link.from limits.from_node;
      to_is = node_number known kinds links flows routes at link.to limits.to_node;
      rate_fine = decimal_right LEAST_RATE GREATEST_RATE link.rate rate limits.rate_range.0 limits.rate_range.1;
      rate_is = number_decimal link.rate rate;
      delay_fine = decimal_right 1 LONGEST_DELAY link.delay delay limits.delay_range.0 limits.delay_range.1;
      delay_is = number_decimal link.delay delay;
      capacity_fine = decimal_right 1 65535 link.capacity capacity limits.capacity_range.0 limits.capacity_range.1;
      capacity_is = number_decimal link.capacity capacity;
      room = or_from _ _ (ap (λ l. nat_le MOST_LINKS (length l)) at.links_are ∙ lt-leb MOST_LINKS (length links) less) (ap (is_full_router known) (node_number known kinds links flows routes at link.from limits.from_node) ∙ room);
    }

codel_fine : (target interval maxpacket : ℕ) → IsCodelInLimits (record { target = target; interval = interval; maxpacket = maxpacket }) → IsCodelFine target interval maxpacket
codel_fine target interval maxpacket limits =
    let first : target < 2 ^ 64 = omega (arith, limits.target_range.1) in
    let second : interval < 2 ^ 64 = omega (arith, limits.interval_range.1) in
    let third : maxpacket < 2 ^ 64 = omega (arith, limits.maxpacket_range.1) in
    record {
      target_fine = decimal_right 1 LONGEST_DELAY target first limits.target_range.0 limits.target_range.1;
      target_is = number_decimal target first;
      interval_fine = decimal_right 1 LONGEST_DELAY interval second limits.interval_range.0 limits.interval_range.1;
      interval_is = number_decimal interval second;
      maxpacket_fine = decimal_right 1 65535 maxpacket third limits.maxpacket_range.0 limits.maxpacket_range.1;
      maxpacket_is = number_decimal maxpacket third;
    }

queue_says : (known : Known) (name : Word) (from to rate delay capacity : ℕ) (queue : QueueKind) → IsLineFine known name from to rate delay capacity → IsQueueInLimits queue → (let line : LinkLine = record { from = from; to = to; rate = rate; delay = delay; queue = queue; capacity = capacity } in statement_at known (spelling (Link name line)) ≡ Ok (Link name line))
queue_says known name from to rate delay capacity DropTail fine limits = drop_tail_says known name from to rate delay capacity fine
queue_says known name from to rate delay capacity (Codel codel) fine limits =
    codel_says known name from to rate delay capacity codel.target codel.interval codel.maxpacket fine (codel_fine codel.target codel.interval codel.maxpacket limits)

pub link_says : (known : Known) (kinds : List NodeKind) (links : List LinkPart) (flows : List FlowPart) (routes : List RoutePart) (link : LinkPart) → IsNumbered known kinds links flows routes → IsLinkInLimits (length kinds) link → length kinds ≤ 256 → length links < 1024 → (link.from ≡ link.to → ⊥) → is_full_router known link.from ≡ false → statement_at known (spelling (Link (link_label (length links)) (line_of_link link))) ≡ Ok (Link (link_label (length links)) (line_of_link link))
link_says known kinds links flows routes link at limits few less apart room =
    queue_says known (link_label (length links)) link.from link.to link.rate link.delay link.capacity link.queue (line_fine known kinds links flows routes link at limits few less apart room) limits.queue_range

-- `flow`
iw_again : (iw : Iw) → iw_named (iw_word iw) ≡ Some iw
iw_again Iw3 = refl
iw_again Iw10 = refl

iw_none : (iw : Iw) → faulty_unless (is_some (iw_named (iw_word iw))) E4 ≡ None
iw_none iw = ap (λ read. faulty_unless (is_some read) E4) (iw_again iw)

flow_verdicts_none : (known : Known) (kinds : List NodeKind) (links : List LinkPart) (flows : List FlowPart) (routes : List RoutePart) (end : ℕ) (flow : FlowPart) → IsNumbered known kinds links flows routes → IsFlowInLimits (length kinds) end flow → end ≤ LATEST_END → length kinds ≤ 256 → length flows < 128 → slice_get kinds flow.sender ≡ Some Sender → slice_get kinds flow.receiver ≡ Some Receiver → AreNone (flow_verdicts known (spelling (Flow (flow_label (length flows)) flow)))
flow_verdicts_none known kinds links flows routes end flow at limits soon few less sender receiver = (
  new_none known (flow_label (length flows)) (label_name 102 (length flows) refl (omega arith)) (at.no_flow (length flows) (omega arith) (omega arith)),
  (
    node_named known kinds links flows routes at flow.sender limits.sender_node few _ (ap is_sender (node_kind_is known kinds links flows routes at flow.sender limits.sender_node ∙ sender)),
    (
      node_named known kinds links flows routes at flow.receiver limits.receiver_node few _ (ap is_receiver (node_kind_is known kinds links flows routes at flow.receiver limits.receiver_node ∙ receiver)),
      (
        decimal_right 1 GREATEST_MSS flow.mss (omega (arith, limits.mss_range.1)) limits.mss_range.0 limits.mss_range.1,
        (
          decimal_right 1 MOST_SEGMENTS flow.segments (omega (arith, limits.segments_range.1)) limits.segments_range.0 limits.segments_range.1,
          (
            decimal_right 0 (LATEST_END - 1) flow.start (omega (arith, limits.start_range)) (omega arith) (omega (arith, limits.start_range)),
            (
              decimal_right (number (decimal flow.mss)) GREATEST_RWND flow.rwnd (omega (arith, limits.rwnd_range.1)) (omega (arith, limits.rwnd_range.0, number_decimal flow.mss (omega (arith, limits.mss_range.1)))) limits.rwnd_range.1,
              (decimal_right 0 LONGEST_DELACK flow.delack (omega (arith, limits.delack_range)) (omega arith) limits.delack_range, (tcp_none flow.variant, (iw_none flow.variant.iw, tt))),
            ),
          ),
        ),
      ),
    ),
  ),
)

flow_same : (known : Known) (kinds : List NodeKind) (links : List LinkPart) (flows : List FlowPart) (routes : List RoutePart) (end : ℕ) (flow : FlowPart) → IsNumbered known kinds links flows routes → IsFlowInLimits (length kinds) end flow → end ≤ LATEST_END → ◌≡◌ {A = FlowPart} (record { sender = number_of known (node_label flow.sender); receiver = number_of known (node_label flow.receiver); mss = number (decimal flow.mss); segments = number (decimal flow.segments); start = number (decimal flow.start); rwnd = number (decimal flow.rwnd); delack = number (decimal flow.delack); variant = record (unwrap_or (tcp_named (tcp_word flow.variant)) RENO) { iw = unwrap_or (iw_named (iw_word flow.variant.iw)) Iw3 } }) flow
flow_same known kinds links flows routes end flow at limits soon =
    let sender = node_number known kinds links flows routes at flow.sender limits.sender_node in
    let receiver = node_number known kinds links flows routes at flow.receiver limits.receiver_node in
    let mss = number_decimal flow.mss (omega (arith, limits.mss_range.1)) in
    let segments = number_decimal flow.segments (omega (arith, limits.segments_range.1)) in
    let start = number_decimal flow.start (omega (arith, limits.start_range)) in
    let rwnd = number_decimal flow.rwnd (omega (arith, limits.rwnd_range.1)) in
    let delack = number_decimal flow.delack (omega (arith, limits.delack_range)) in
    rw (sender, receiver, mss, segments, start, rwnd, delack, tcp_again flow.variant, iw_again flow.variant.iw) refl

pub flow_says : (known : Known) (kinds : List NodeKind) (links : List LinkPart) (flows : List FlowPart) (routes : List RoutePart) (end : ℕ) (flow : FlowPart) → IsNumbered known kinds links flows routes → IsFlowInLimits (length kinds) end flow → end ≤ LATEST_END → length kinds ≤ 256 → length flows < 128 → slice_get kinds flow.sender ≡ Some Sender → slice_get kinds flow.receiver ≡ Some Receiver → statement_at known (spelling (Flow (flow_label (length flows)) flow)) ≡ Ok (Flow (flow_label (length flows)) flow)
flow_says known kinds links flows routes end flow at limits soon few less sender receiver =
    let words : List Word = spelling (Flow (flow_label (length flows)) flow) in
    let said : FlowPart → Result Statement Fault = λ part. Ok (Flow (flow_label (length flows)) part) in
    judged_ok true (flow_verdicts known words) _ _ refl
    (no_fault (flow_verdicts known words) (flow_verdicts_none known kinds links flows routes end flow at limits soon few less sender receiver))
    (ap (λ l. nat_le MOST_FLOWS (length l)) at.flows_are ∙ lt-leb MOST_FLOWS (length flows) less)
    ∙ ap said (flow_same known kinds links flows routes end flow at limits soon)

-- `route`
destination_none : (known : Known) (kinds : List NodeKind) (links : List LinkPart) (flows : List FlowPart) (routes : List RoutePart) (router destination : ℕ) → IsNumbered known kinds links flows routes → destination < length kinds → length kinds ≤ 256 → is_end (slice_get kinds destination) ≡ true → is_routed routes router destination ≡ false → (r : ℕ) → r ≡ router → destination_verdict known r (node_label destination) ≡ None
destination_none known kinds links flows routes router destination at lt few ends first r is =
    let used = node_named known kinds links flows routes at destination lt few _ (ap is_end (node_kind_is known kinds links flows routes at destination lt) ∙ ends) in
    let routed : is_routed known.routes r (number_of known (node_label destination)) ≡ false = rw (at.routes_are, is, node_number known kinds links flows routes at destination lt) first in
    no_fault (used_verdict (node_label destination) (known.item (node_label destination)) (is_end (kind_of_word known (node_label destination))) ∷ faulty_if (is_routed known.routes r (number_of known (node_label destination))) E6 ∷ []) (used, (rw routed refl, tt))

pub route_says : (known : Known) (kinds : List NodeKind) (links : List LinkPart) (flows : List FlowPart) (routes : List RoutePart) (route : RoutePart) → IsNumbered known kinds links flows routes → length kinds ≤ 256 → length links ≤ 1024 → route.router < length kinds → route.destination < length kinds → route.link < length links → slice_get kinds route.router ≡ Some Router → is_end (slice_get kinds route.destination) ≡ true → is_routed routes route.router route.destination ≡ false → is_from route.router (slice_get links route.link) ≡ true → statement_at known (spelling (Route route)) ≡ Ok (Route route)
route_says known kinds links flows routes route at few less router_lt destination_lt link_lt router ends first leaves =
    let words : List Word = spelling (Route route) in
    let said : RoutePart → Result Statement Fault = λ part. Ok (Route part) in
    let router_is = node_number known kinds links flows routes at route.router router_lt in
    let router_fine = node_named known kinds links flows routes at route.router router_lt few _ (ap is_router (node_kind_is known kinds links flows routes at route.router router_lt ∙ router)) in
    let destination_fine = destination_none known kinds links flows routes route.router route.destination at destination_lt few ends first (number_of known (node_label route.router)) router_is in
    let from : is_from (number_of known (node_label route.router)) (link_of_word known (link_label route.link)) ≡ true = rw (router_is, link_is known kinds links flows routes at route.link link_lt) leaves in
    let link_fine = link_named known kinds links flows routes at route.link link_lt less _ from in
    judged_ok true (route_verdicts known words) false _ refl (no_fault (route_verdicts known words) (router_fine, (destination_fine, (link_fine, tt)))) refl
    ∙ ap said (rw (router_is, node_number known kinds links flows routes at route.destination destination_lt, link_number known kinds links flows routes at route.link link_lt) refl)

-- `lose`
pub lose_says : (known : Known) (kinds : List NodeKind) (links : List LinkPart) (flows : List FlowPart) (routes : List RoutePart) (link number_lost : ℕ) → IsNumbered known kinds links flows routes → length links ≤ 1024 → link < length links → least_above (last_of (lose_list (slice_get links link))) ≤ number_lost → number_lost ≤ 1000000000 → length (lose_list (slice_get links link)) < 64 → (let lose : LoseLine = record { link = link; number = number_lost } in statement_at known (spelling (Lose lose)) ≡ Ok (Lose lose))
lose_says known kinds links flows routes link number_lost at less lt above most room =
    let lose : LoseLine = record { link = link; number = number_lost } in
    let words : List Word = spelling (Lose lose) in
    let said : LoseLine → Result Statement Fault = λ l. Ok (Lose l) in
    let lost : lost_of known (number_of known (link_label link)) ≡ lose_list (slice_get links link) = ap (lost_of known) (link_number known kinds links flows routes at link lt) ∙ ap (λ l. lose_list (slice_get l link)) at.links_are in
    let link_fine = link_named known kinds links flows routes at link lt less _ (ap is_some (link_is known kinds links flows routes at link lt) ∙ is_there links link lt) in
    let number_fine : number_verdict (least_above (last_of (lost_of known (number_of known (link_label link))))) MOST_SEGMENTS (decimal number_lost) ≡ None = rw lost (decimal_right (least_above (last_of (lose_list (slice_get links link)))) MOST_SEGMENTS number_lost (omega arith) above most) in
    judged_ok true (lose_verdicts known words) _ _ refl (no_fault (lose_verdicts known words) (link_fine, (number_fine, tt)))
    (ap (λ l. nat_le MOST_LOSE (length l)) lost ∙ lt-leb MOST_LOSE (length (lose_list (slice_get links link))) room)
    ∙ ap said (rw (link_number known kinds links flows routes at link lt, number_decimal number_lost (omega arith)) refl)
