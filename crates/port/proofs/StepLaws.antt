-- What one call, and several in turn, keep at a port.
use Rattle.std.proofs.Common.{◌≡◌, ◌≤◌, ℕ, ◌+◌, Bool, true, false, cond, List, [], ◌∷◌, ◌++◌, map, length, Option, Some, None, refl, sym, ap, subst, ◌∙◌, arith, length-append}
use Rattle.std.proofs.lemmas.List.{length-map}
use Rattle.std.specs.Prelude.{is_none, option_to_list}
use Rattle.std.specs.List.{filter_map}
use Rattle.std.specs.Option.{option_or}
use Rattle.std.proofs.lemmas.List.Elements.{filter_map-append}
use Rattle.packet_chain.specs.declared.packet.Packet.{Packet}
use Rattle.packet_chain.specs.Stamped.{Stamped}
use Rattle.aqm.specs.declared.drop_reason.TakeDrop.{TakeDrop}
use Rattle.aqm.specs.Queue.{waiting_in, refuses, take_reason, taken_from}
use Rattle.aqm.specs.Laws.{listed}
use Rattle.aqm.proofs.Front.{takes_the_front, gives_what_waits}
use Rattle.aqm.proofs.Stays.{refused_stays}
use Rattle.port.specs.Port.{PortState, PortStep, Departure, begun, dropped_for, taken, with_packet, offered_one, offered_all}
use Rattle.port.specs.Room.{drops_at_offer}
use Rattle.port.specs.History.{Offer, Free, history, offered_in}
use Rattle.port.proofs.Cases.{counted_one, after_tests, offered_by_case, queue_stays}
use Rattle.port.specs.Laws.{sent_by, BusyLinkBeginsNothing, OneDepartsAtMost, NothingWaitsWhereIdle, IdleLinksKeepNothing, IsCounted, EveryPacketIsCounted}

pub busy_is : (port : PortState) (t : ℕ) → port.next_free ≡ Some t → is_none port.next_free ≡ false
busy_is port t busy = ap is_none busy

-- nothing departs, the link stays busy as long, and nothing was sent
pub record IsBusyStill (t sent : ℕ) (step : PortStep) : Type 0 where
  pub none_departs : step.departure ≡ None
  pub busy : step.port.next_free ≡ Some t
  pub same : step.port.sent ≡ sent

busy_case : (now t : ℕ) (port : PortState) (packet : Packet) (lost full : Bool) → port.next_free ≡ Some t → IsBusyStill t port.sent (after_tests now (counted_one port) packet lost full false)
busy_case now t port packet true full busy = record { none_departs = refl; busy = busy; same = refl }
busy_case now t port packet false true busy = record { none_departs = refl; busy = busy; same = refl }
busy_case now t port packet false false busy = record { none_departs = refl; busy = busy; same = refl }

pub busy_one : (now t : ℕ) (port : PortState) (packet : Packet) → port.next_free ≡ Some t → IsBusyStill t port.sent (offered_one now port packet)
busy_one now t port packet busy = offered_by_case (IsBusyStill t port.sent) now port packet (λ idle is lost full _. subst (λ b. IsBusyStill t port.sent (after_tests now (counted_one port) packet lost full b)) (sym (busy_is port t busy) ∙ is) (busy_case now t port packet lost full busy))

busy_all : (now t : ℕ) (port : PortState) (packets : List Packet) → port.next_free ≡ Some t → IsBusyStill t port.sent (offered_all now port packets)
busy_all now t port [] busy = record { none_departs = refl; busy = busy; same = refl }
busy_all now t port (packet ∷ packets) busy =
    let first = busy_one now t port packet busy in
    let others = busy_all now t (offered_one now port packet).port packets first.busy in
    record { none_departs = ap (λ d. option_or d (offered_all now (offered_one now port packet).port packets).departure) first.none_departs ∙ others.none_departs; busy = others.busy; same = others.same ∙ first.same }

pub busy_link_begins_nothing : BusyLinkBeginsNothing
busy_link_begins_nothing now t port packets busy = let s = busy_all now t port packets busy in (s.none_departs, s.busy, s.same)

abbrev pub packets_in : Option Departure → List Packet
packets_in d = map (λ (departure : Departure). departure.packet) (option_to_list d)

-- what a step sends is what departs, and then the link is busy
pub record SendsWhatDeparts (step : PortStep) : Type 0 where
  pub sends : filter_map sent_by step.acts ≡ packets_in step.departure
  pub busy_then : (d : Departure) → step.departure ≡ Some d → step.port.next_free ≡ Some d.free

taking_sends : (now : ℕ) (port : PortState) (reason : TakeDrop) (dropped : List Stamped) (given : Option Stamped) → let sending = begun now port given in SendsWhatDeparts (record sending { acts = map (dropped_for port.link reason) dropped ++ sending.acts })
taking_sends now port reason [] None = record { sends = refl; busy_then = λ d e. cc }
taking_sends now port reason [] (Some cell) = record { sends = refl; busy_then = λ d e. let same : (begun now port (Some cell)).departure ≡ Some d = e in cc }
taking_sends now port reason (c ∷ dropped) given = let rest = taking_sends now port reason dropped given in record { sends = rest.sends; busy_then = rest.busy_then }

pub taken_sends : (now : ℕ) (port : PortState) → SendsWhatDeparts (taken now port)
taken_sends now port = let take = taken_from port.queue now in taking_sends now (record port { queue = take.queue }) (take_reason port.queue) take.dropped take.given

offered_sends : (now : ℕ) (port : PortState) (packet : Packet) (lost full idle : Bool) → SendsWhatDeparts (after_tests now port packet lost full idle)
offered_sends now port packet true full idle = record { sends = refl; busy_then = λ d e. cc }
offered_sends now port packet false true idle = record { sends = refl; busy_then = λ d e. cc }
offered_sends now port packet false false true = taken_sends now (with_packet now port packet)
offered_sends now port packet false false false = record { sends = refl; busy_then = λ d e. cc }

pub one_sends : (now : ℕ) (port : PortState) (packet : Packet) → SendsWhatDeparts (offered_one now port packet)
one_sends now port packet = offered_by_case SendsWhatDeparts now port packet (λ idle is lost full _. offered_sends now (counted_one port) packet lost full idle)

pub one_departs_at_most : OneDepartsAtMost
one_departs_at_most now port [] = refl
one_departs_at_most now port (packet ∷ packets) =
    let first = offered_one now port packet in
    let others = offered_all now first.port packets in
    let s = one_sends now port packet in
    filter_map-append sent_by first.acts others.acts
    ∙ ap (λ ps. ps ++ filter_map sent_by others.acts) s.sends
    ∙ ap (λ ps. packets_in first.departure ++ ps) (one_departs_at_most now first.port packets)
    ∙ joined first.departure others.departure (λ d e. (busy_all now d.free first.port packets (s.busy_then d e)).none_departs)
  where
    joined : (d e : Option Departure) → ((x : Departure) → d ≡ Some x → e ≡ None) → packets_in d ++ packets_in e ≡ packets_in (option_or d e)
    joined None e none = refl
    joined (Some x) e none = ap (λ f. x.packet ∷ packets_in f) (none x refl)

-- counts
abbrev pub one_if : Option Departure → ℕ
one_if d = length (option_to_list d)

taking_counts : (now : ℕ) (old port : PortState) (given : Option Stamped) → IsCounted old port 0 0 → IsCounted old (begun now port given).port 0 (one_if (begun now port given).departure)
taking_counts now old port None c = record { link = c.link; rate = c.rate; delay = c.delay; lose = c.lose; offered = c.offered; sent = c.sent }
taking_counts now old port (Some cell) c = record { link = c.link; rate = c.rate; delay = c.delay; lose = c.lose; offered = c.offered; sent = omega (arith, c.sent) }

same_counts : (port : PortState) → IsCounted port port 0 0
same_counts port = record { link = refl; rate = refl; delay = refl; lose = refl; offered = omega arith; sent = omega arith }

pub taken_counts : (now : ℕ) (port : PortState) → IsCounted port (taken now port).port 0 (one_if (taken now port).departure)
taken_counts now port =
    let take = taken_from port.queue now in
    let same = same_counts port in
    taking_counts now port (record port { queue = take.queue }) take.given (record { link = refl; rate = refl; delay = refl; lose = refl; offered = same.offered; sent = same.sent })

offered_counts : (now : ℕ) (port : PortState) (packet : Packet) (lost full idle : Bool) → let step = after_tests now (counted_one port) packet lost full idle in IsCounted port step.port 1 (one_if step.departure)
offered_counts now port packet true full idle = record { link = refl; rate = refl; delay = refl; lose = refl; offered = refl; sent = omega arith }
offered_counts now port packet false true idle = record { link = refl; rate = refl; delay = refl; lose = refl; offered = refl; sent = omega arith }
offered_counts now port packet false false true =
    let c = taken_counts now (with_packet now (counted_one port) packet) in
    record { link = c.link; rate = c.rate; delay = c.delay; lose = c.lose; offered = omega (arith, c.offered); sent = c.sent }
offered_counts now port packet false false false = record { link = refl; rate = refl; delay = refl; lose = refl; offered = refl; sent = omega arith }

pub one_counts : (now : ℕ) (port : PortState) (packet : Packet) → IsCounted port (offered_one now port packet).port 1 (one_if (offered_one now port packet).departure)
one_counts now port packet = offered_by_case (λ step. IsCounted port step.port 1 (one_if step.departure)) now port packet (λ idle is lost full _. offered_counts now port packet lost full idle)

both_counts : (a b c : PortState) (m n i j : ℕ) → IsCounted a b m i → IsCounted b c n j → IsCounted a c (m + n) (i + j)
both_counts a b c m n i j first second = record {
  link = second.link ∙ first.link;
  rate = second.rate ∙ first.rate;
  delay = second.delay ∙ first.delay;
  lose = second.lose ∙ first.lose;
  offered = omega (arith, first.offered, second.offered);
  sent = omega (arith, first.sent, second.sent);
}

pub every_packet_is_counted : EveryPacketIsCounted
every_packet_is_counted port [] = same_counts port
every_packet_is_counted port (Offer now packet ∷ calls) =
    let step = offered_one now port packet in
    let later = history step.port calls in
    let both = both_counts port step.port later.port 1 (length (offered_in calls)) (one_if step.departure) (length later.departures) (one_counts now port packet) (every_packet_is_counted step.port calls) in
    record {
      link = both.link;
      rate = both.rate;
      delay = both.delay;
      lose = both.lose;
      offered = omega (arith, both.offered);
      sent = omega (arith, both.sent, length-append (option_to_list step.departure) later.departures);
    }
every_packet_is_counted port (Free now ∷ calls) =
    let step = taken now port in
    let later = history step.port calls in
    let both = both_counts port step.port later.port 0 (length (offered_in calls)) (one_if step.departure) (length later.departures) (taken_counts now port) (every_packet_is_counted step.port calls) in
    record {
      link = both.link;
      rate = both.rate;
      delay = both.delay;
      lose = both.lose;
      offered = omega (arith, both.offered);
      sent = omega (arith, both.sent, length-append (option_to_list step.departure) later.departures);
    }

-- an idle link
given_is_busy : (now : ℕ) (port : PortState) (given : Option Stamped) → (begun now port given).port.next_free ≡ None → given ≡ None
given_is_busy now port None idle = refl
given_is_busy now port (Some cell) idle = cc

no_more : (dropped rest : List Stamped) → dropped ++ [] ++ rest ≡ [] → rest ≡ []
no_more [] rest e = e
no_more (c ∷ dropped) rest e = cc

pub taken_keeps_nothing : (now : ℕ) (port : PortState) → NothingWaitsWhereIdle (taken now port).port
taken_keeps_nothing now port idle =
    let take = taken_from port.queue now in
    let none : take.given ≡ None = given_is_busy now (record port { queue = take.queue }) take.given idle in
    let empty : waiting_in port.queue ≡ [] = (gives_what_waits port.queue now).0 none in
    let all = takes_the_front port.queue now ∙ empty in
    ap waiting_in (queue_stays now (record port { queue = take.queue }) take.given)
    ∙ no_more take.dropped (waiting_in take.queue) (subst (λ o. take.dropped ++ listed o ++ waiting_in take.queue ≡ []) none all)

offered_keeps_nothing : (now : ℕ) (port : PortState) (packet : Packet) (lost full idle : Bool) → refuses port.queue ≡ full → is_none port.next_free ≡ idle → NothingWaitsWhereIdle port → NothingWaitsWhereIdle (after_tests now (counted_one port) packet lost full idle).port
offered_keeps_nothing now port packet true full idle at is nothing = nothing
offered_keeps_nothing now port packet false true idle at is nothing = λ none. refused_stays port.queue (packet, now) now at ∙ nothing none
offered_keeps_nothing now port packet false false true at is nothing = taken_keeps_nothing now (with_packet now (counted_one port) packet)
offered_keeps_nothing now port packet false false false at is nothing = λ idle. let yes : is_none port.next_free ≡ true = ap is_none idle in absurd (cc)

pub one_keeps_nothing : (now : ℕ) (port : PortState) (packet : Packet) → NothingWaitsWhereIdle port → NothingWaitsWhereIdle (offered_one now port packet).port
one_keeps_nothing now port packet nothing = offered_by_case (λ step. NothingWaitsWhereIdle step.port) now port packet (λ idle is lost full at. offered_keeps_nothing now port packet lost full idle at is nothing)

pub idle_links_keep_nothing : IdleLinksKeepNothing
idle_links_keep_nothing port [] nothing = nothing
idle_links_keep_nothing port (Offer now packet ∷ calls) nothing = idle_links_keep_nothing (offered_one now port packet).port calls (one_keeps_nothing now port packet nothing)
idle_links_keep_nothing port (Free now ∷ calls) nothing = idle_links_keep_nothing (taken now port).port calls (taken_keeps_nothing now port)

-- where a link is idle after an offering it was so before, and nothing was sent
pub record IsIdleStill (port : PortState) (step : PortStep) : Type 0 where
  pub idle : port.next_free ≡ None
  pub same : step.port.sent ≡ port.sent
  pub none_departs : step.departure ≡ None

idle_is : (o : Option ℕ) → is_none o ≡ true → o ≡ None
idle_is None is = refl
idle_is (Some t) is = cc

pub one_leaves_idle : (now : ℕ) (port : PortState) (packet : Packet) → (offered_one now port packet).port.next_free ≡ None → IsIdleStill port (offered_one now port packet)
one_leaves_idle now port packet = offered_by_case (λ step. step.port.next_free ≡ None → IsIdleStill port step) now port packet (λ idle is lost full _. go idle is lost full)
  where
    begun_idle : (at : PortState) (given : Option Stamped) → port.next_free ≡ None → at.sent ≡ port.sent → (begun now at given).port.next_free ≡ None → ((begun now at given).port.sent ≡ port.sent) × ((begun now at given).departure ≡ None)
    begun_idle at None was sent idle = (sent, refl)
    begun_idle at (Some cell) was sent idle = cc

    go : (idle : Bool) → is_none port.next_free ≡ idle → (lost full : Bool) → let step = after_tests now (counted_one port) packet lost full idle in step.port.next_free ≡ None → IsIdleStill port step
    go idle is true full now_idle = record { idle = now_idle; same = refl; none_departs = refl }
    go idle is false true now_idle = record { idle = now_idle; same = refl; none_departs = refl }
    go false is false false now_idle = record { idle = now_idle; same = refl; none_departs = refl }
    go true is false false now_idle =
        let was = idle_is port.next_free is in
        let with = with_packet now (counted_one port) packet in
        let take = taken_from with.queue now in
        let still = begun_idle (record with { queue = take.queue }) take.given was refl now_idle in
        record { idle = was; same = still.0; none_departs = still.1 }

-- an offering does one thing, and one for each packet that its queue drops
begun_few : (now : ℕ) (port : PortState) (given : Option Stamped) → length (begun now port given).acts ≤ 1
begun_few now port None = omega arith
begun_few now port (Some cell) = omega arith

pub one_does_few : (now : ℕ) (port : PortState) (packet : Packet) → length (offered_one now port packet).acts ≤ drops_at_offer now port packet + 1
one_does_few now port packet = offered_by_case (λ step. length step.acts ≤ drops_at_offer now port packet + 1) now port packet (λ idle is lost full _. go idle is lost full)
  where
    go : (idle : Bool) → is_none port.next_free ≡ idle → (lost full : Bool) → length (after_tests now (counted_one port) packet lost full idle).acts ≤ drops_at_offer now port packet + 1
    go idle is true full = omega arith
    go idle is false true = omega arith
    go false is false false = omega arith
    go true is false false =
        let with = with_packet now (counted_one port) packet in
        let take = taken_from with.queue now in
        let sending = begun now (record with { queue = take.queue }) take.given in
        let dropped = map (dropped_for with.link (take_reason with.queue)) take.dropped in
        let most : length (dropped ++ sending.acts) ≤ length take.dropped + 1 = omega (arith, length-append dropped sending.acts, length-map take.dropped (dropped_for with.link (take_reason with.queue)), begun_few now (record with { queue = take.queue }) take.given) in
        subst (λ b. length (dropped ++ sending.acts) ≤ cond b (length take.dropped) 0 + 1) (sym is) most
