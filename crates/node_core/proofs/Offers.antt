-- Packets that are offered to a link one after another.
use Rattle.std.proofs.Common.{◌≡◌, ℕ, ◌+◌, ◌<◌, ◌≤◌, Bool, true, false, cond, List, [], ◌∷◌, ◌++◌, map, length, Option, Some, None, refl, sym, ap, subst, ◌∙◌, arith, append_assoc, length-append}
use Rattle.std.specs.Prelude.{is_none}
use Rattle.std.proofs.lemmas.List.{length-map}
use Rattle.sim_time.specs.declared.limits.TheConstants.{MOST_EVENTS}
use Rattle.packet_chain.specs.declared.packet.Packet.{Packet}
use Rattle.packet_chain.specs.Stamped.{Stamped}
use Rattle.aqm.specs.Queue.{take_reason, taken_from}
use Rattle.port.specs.declared.acts.Act.{Act}
use Rattle.port.specs.Port.{PortState, Departure, begun, with_packet, dropped_for, offered_one, offered_all, departed}
use Rattle.port.specs.Room.{drops_at}
use Rattle.port.specs.Laws.{NothingWaitsWhereIdle}
use Rattle.port.specs.History.{Offer}
use Rattle.port.proofs.Cases.{counted_one, after_tests, offered_by_case}
use Rattle.port.proofs.CodelLaws.{offerings_drop_nothing}
use Rattle.port.proofs.StepLaws.{one_if, one_sends, one_counts, busy_one, busy_link_begins_nothing, idle_links_keep_nothing}

-- what is left to be offered leads to these
pub record IsLeft (now : ℕ) (port : PortState) (out : List Stamped) (acts : List Act) (packets : List Packet) (last : PortState) (all_out : List Stamped) (all_acts : List Act) : Type 0 where
  pub port_is : (offered_all now port packets).port ≡ last
  pub out_is : out ++ departed (offered_all now port packets).departure ≡ all_out
  pub acts_are : acts ++ (offered_all now port packets).acts ≡ all_acts

joined : (out : List Stamped) (d e : Option Departure) → ((x : Departure) → d ≡ Some x → e ≡ None) → (out ++ departed d) ++ departed e ≡ out ++ departed (Rattle.std.specs.Option.option_or d e)
joined out None e none = append_assoc out [] (departed e)
joined out (Some x) e none = ap (λ f. (out ++ departed (Some x)) ++ departed f) (none x refl) ∙ append_assoc out (departed (Some x)) []

pub left_one : (now : ℕ) (port : PortState) (out : List Stamped) (acts : List Act) (packet : Packet) (packets : List Packet) (last : PortState) (all_out : List Stamped) (all_acts : List Act)
    → IsLeft now port out acts (packet ∷ packets) last all_out all_acts → let step = offered_one now port packet in IsLeft now step.port (out ++ departed step.departure) (acts ++ step.acts) packets last all_out all_acts
left_one now port out acts packet packets last all_out all_acts is =
    let first = offered_one now port packet in
    let others = offered_all now first.port packets in
    record {
      port_is = is.port_is;
      out_is = joined out first.departure others.departure (λ d e. (busy_link_begins_nothing now d.free first.port packets ((one_sends now port packet).busy_then d e)).0) ∙ is.out_is;
      acts_are = append_assoc acts first.acts others.acts ∙ is.acts_are;
    }

-- numbers fit, and one more does where the link is idle
pub record Fits (port : PortState) (out : ℕ) : Type 0 where
  pub sent_most : port.sent ≤ MOST_EVENTS
  pub sent_idle : port.next_free ≡ None → port.sent < MOST_EVENTS
  pub out_most : out ≤ MOST_EVENTS
  pub out_idle : port.next_free ≡ None → out < MOST_EVENTS

still_fits : (now : ℕ) (port : PortState) (packet : Packet) (out : ℕ) → Fits port out → (free : Option ℕ) → port.next_free ≡ free → (d : Option Departure) → (offered_one now port packet).departure ≡ d
    → Fits (offered_one now port packet).port (out + length (departed d))
still_fits now port packet out fits (Some t) was d is =
    let still = busy_one now t port packet was in
    let none : d ≡ None = sym is ∙ still.none_departs in
    let nothing : length (departed d) ≡ 0 = ap (λ o. length (departed o)) none in
    let same : (offered_one now port packet).port.sent ≡ port.sent = still.same in
    let most : port.sent ≤ MOST_EVENTS = fits.sent_most in
    let out_most : out ≤ MOST_EVENTS = fits.out_most in
    record {
      sent_most = omega (arith, same, most);
      sent_idle = λ idle. absurd (some_none t (sym still.busy ∙ idle));
      out_most = omega (arith, nothing, out_most);
      out_idle = λ idle. absurd (some_none t (sym still.busy ∙ idle));
    }
  where
    some_none : (t : ℕ) → Some t ≡ None → ⊥
    some_none t e = cc
still_fits now port packet out fits None was None is =
    let count = (one_counts now port packet).sent in
    let nothing : (offered_one now port packet).port.sent ≡ port.sent + 0 = count ∙ ap (λ o. port.sent + one_if o) is in
    let less : port.sent < MOST_EVENTS = fits.sent_idle was in
    let out_less : out < MOST_EVENTS = fits.out_idle was in
    record { sent_most = omega (arith, nothing, less); sent_idle = λ idle. omega (arith, nothing, less); out_most = omega (arith, out_less); out_idle = λ idle. omega (arith, out_less) }
still_fits now port packet out fits None was (Some d) is =
    let count = (one_counts now port packet).sent in
    let one : (offered_one now port packet).port.sent ≡ port.sent + 1 = count ∙ ap (λ o. port.sent + one_if o) is in
    let less : port.sent < MOST_EVENTS = fits.sent_idle was in
    let out_less : out < MOST_EVENTS = fits.out_idle was in
    let busy : (offered_one now port packet).port.next_free ≡ Some d.free = (one_sends now port packet).busy_then d is in
    record {
      sent_most = omega (arith, one, less);
      sent_idle = λ idle. absurd (some_none d.free (sym busy ∙ idle));
      out_most = omega (arith, out_less);
      out_idle = λ idle. absurd (some_none d.free (sym busy ∙ idle));
    }
  where
    some_none : (t : ℕ) → Some t ≡ None → ⊥
    some_none t e = cc

pub fits_one : (now : ℕ) (port : PortState) (packet : Packet) (out : List Stamped) → Fits port (length out) → Fits (offered_one now port packet).port (length (out ++ departed (offered_one now port packet).departure))
fits_one now port packet out fits =
    subst (Fits (offered_one now port packet).port) (sym (length-append out (departed (offered_one now port packet).departure)))
    (still_fits now port packet (length out) fits port.next_free refl (offered_one now port packet).departure refl)

begun_acts : (now : ℕ) (port : PortState) (given : Option Stamped) → length (begun now port given).acts ≤ 1
begun_acts now port None = omega arith
begun_acts now port (Some cell) = omega arith

-- where nothing waits at an idle link, an offering does one thing at most
pub few_acts : (now : ℕ) (port : PortState) (packet : Packet) → NothingWaitsWhereIdle port → length (offered_one now port packet).acts ≤ 1
few_acts now port packet nothing = offered_by_case (λ step. length step.acts ≤ 1) now port packet (λ idle is lost full _. go idle is lost full)
  where
    go : (idle : Bool) → is_none port.next_free ≡ idle → (lost full : Bool) → length (after_tests now (counted_one port) packet lost full idle).acts ≤ 1
    go idle is true full = omega arith
    go idle is false true = omega arith
    go false is false false = omega arith
    go true is false false =
        let none : drops_at now (with_packet now port packet) ≡ 0 = ap (λ b. cond b (drops_at now (with_packet now port packet)) 0) (sym is) ∙ offerings_drop_nothing now port packet nothing in
        let with = with_packet now (counted_one port) packet in
        let take = taken_from with.queue now in
        let sending = begun now (record with { queue = take.queue }) take.given in
        omega (arith, none, length-append (map (dropped_for with.link (take_reason with.queue)) take.dropped) sending.acts, length-map take.dropped (dropped_for with.link (take_reason with.queue)), begun_acts now (record with { queue = take.queue }) take.given)

-- so it stays
pub still_nothing : (now : ℕ) (port : PortState) (packet : Packet) → NothingWaitsWhereIdle port → NothingWaitsWhereIdle (offered_one now port packet).port
still_nothing now port packet nothing = idle_links_keep_nothing port (Offer now packet ∷ []) nothing

pub offered_counts_one : (now : ℕ) (port : PortState) (packet : Packet) → (offered_one now port packet).port.offered ≡ port.offered + 1
offered_counts_one now port packet = (one_counts now port packet).offered
