-- A link sends no faster than its rate.
use Rattle.std.proofs.Common.{◌≡◌, ℕ, ◌+◌, ◌*◌, ◌≤◌, List, [], ◌∷◌, ◌++◌, refl, sym, ap, subst, Option, Some, None, arith, ◌∙◌}
use Rattle.std.specs.Prelude.{is_none}
use Rattle.std.specs.List.{sum_by}
use Rattle.std.specs.Option.{unwrap_or}
use Rattle.std.proofs.lemmas.Grind.{div_ceil_times}
use Rattle.std.proofs.lemmas.List.Sums.{sum_by-append, sum_by-cons}
use Rattle.std.proofs.lemmas.Nat.{mul-le}
use Rattle.std.proofs.Math.Nat.{add-mul}
use Rattle.sim_time.specs.Serial.{IsRate, serial}
use Rattle.packet_chain.specs.declared.packet.Packet.{Packet}
use Rattle.packet_chain.specs.Stamped.{Stamped}
use Rattle.aqm.specs.declared.drop_reason.TakeDrop.{TakeDrop}
use Rattle.aqm.specs.declared.queue.Queue.{Queue}
use Rattle.aqm.specs.Queue.{refuses, taken_from, take_reason}
use Rattle.port.specs.Losses as losses
use Rattle.port.specs.declared.acts.Act.{Act}
use Rattle.port.specs.Port.{PortState, PortStep, dropped_for, taken, with_packet, offered_one, offered_all}
use Rattle.port.proofs.StepLaws.{one_counts}
use Rattle.table_run.proofs.PortMoves.{IsLink}
use Rattle.run_laws.specs.Links.{port_of_link, acts_at, bytes_by, IsWithinRate, RatesHold}
use Rattle.run_laws.proofs.Along.{LinkFact, IsKeptBy, in_every_state}
use Rattle.run_laws.proofs.Ports.{counted, by_test, to_none, took}
use Rattle.run_laws.proofs.Touched.{Touches, by_offers, by_offer, by_take}

abbrev sent_bytes : List Act → ℕ
sent_bytes acts = sum_by bytes_by acts

-- what is done sends no more than the link has time for, from a moment to when it is free
record Fits (now from : ℕ) (old : PortState) (step : PortStep) : Type 0 where
  pub same_rate : step.port.rate ≡ old.rate
  pub within : sent_bytes step.acts * 8000000000 + from * old.rate ≤ unwrap_or step.port.next_free now * old.rate

cell_fits : (now bytes rate : ℕ) → IsRate rate → bytes * 8000000000 + now * rate ≤ (now + serial bytes rate) * rate
cell_fits now bytes rate range =
    let enough = (div_ceil_times (bytes * 8000000000) rate (let least = range.0 in omega (arith, least))).0 in
    let both = add-mul now (serial bytes rate) rate in
    omega (arith, enough, both)

module _ (now : ℕ) (old : PortState) (queue : Queue) (reason : TakeDrop) (link : IsLink old) where
  took_fits : (dropped : List Stamped) (given : Option Stamped) → Fits now now old (took now old queue reason dropped given)
  took_fits [] None = record { same_rate = refl; within = omega arith }
  took_fits [] (Some cell) = record { same_rate = refl; within = (let fits = cell_fits now cell.0.bytes old.rate link.rate_range in omega (arith, fits)) }
  took_fits (x ∷ dropped) given =
      let rest = took_fits dropped given in
      let same = sum_by-cons bytes_by (dropped_for old.link reason x) (took now old queue reason dropped given).acts in
      record { same_rate = rest.same_rate; within = (let a = rest.within in omega (arith, a, same)) }

taken_fits : (now : ℕ) (old : PortState) → IsLink old → Fits now now old (taken now old)
taken_fits now old link = let take = taken_from old.queue now in took_fits now old take.queue (take_reason old.queue) link take.dropped take.given

abbrev since : ℕ → PortState → ℕ
since now port = unwrap_or port.next_free now

one_fits : (now : ℕ) (old : PortState) (packet : Packet) → IsLink old → Fits now (since now old) old (offered_one now old packet)
one_fits now old packet link =
    by_test (Fits now (since now old) old) (losses.is_lost old.lose (old.offered + 1)) _ _ (λ _. record { same_rate = refl; within = omega arith })
    (λ _. by_test (Fits now (since now old) old) (refuses old.queue) _ _ (λ _. record { same_rate = refl; within = omega arith })
    (λ _. by_test (Fits now (since now old) old) (is_none old.next_free) _ _
    (λ free.
    let waits = with_packet now (counted old) packet in
    let fits = taken_fits now waits (record { rate_range = link.rate_range; delay_least = link.delay_least; delay_most = link.delay_most }) in
    let from : since now old ≡ now = ap (λ o. unwrap_or o now) (to_none old.next_free free) in
    record { same_rate = fits.same_rate; within = subst (λ m. sent_bytes (taken now waits).acts * 8000000000 + m * old.rate ≤ unwrap_or (taken now waits).port.next_free now * old.rate) (sym from) fits.within })
    (λ _. record { same_rate = refl; within = omega arith })))

same_link : (old new : PortState) → new.rate ≡ old.rate → new.delay ≡ old.delay → IsLink old → IsLink new
same_link old new rate delay link = record { rate_range = subst IsRate (sym rate) link.rate_range; delay_least = subst (λ d. 1 ≤ d) (sym delay) link.delay_least; delay_most = subst (λ d. d ≤ 10000000000) (sym delay) link.delay_most }

all_fit : (now : ℕ) (old : PortState) (packets : List Packet) → IsLink old → Fits now (since now old) old (offered_all now old packets)
all_fit now old [] link = record { same_rate = refl; within = omega arith }
all_fit now old (x ∷ packets) link =
    let first = offered_one now old x in
    let others = offered_all now first.port packets in
    let a = one_fits now old x link in
    let b = all_fit now first.port packets (same_link old first.port a.same_rate (one_counts now old x).delay link) in
    let whole = sum_by-append bytes_by first.acts others.acts in
    record {
      same_rate = b.same_rate ∙ a.same_rate;
      within =
          (let c = a.within in
          let d = subst (λ r. sent_bytes others.acts * 8000000000 + since now first.port * r ≤ since now others.port * r) a.same_rate b.within in
          omega (arith, c, d, whole));
    }

goes_on : (now from : ℕ) (acts : List Act) (old : PortState) (step : PortStep) → Fits now from old step → sent_bytes acts * 8000000000 ≤ from * old.rate → IsWithinRate now (acts ++ step.acts) step.port
goes_on now from acts old step fits was =
    let whole = sum_by-append bytes_by acts step.acts in
    subst (λ r. sent_bytes (acts ++ step.acts) * 8000000000 ≤ unwrap_or step.port.next_free now * r) (sym fits.same_rate) (let a = fits.within in omega (arith, whole, a, was))

abbrev Fact : LinkFact
Fact now acts port = IsWithinRate now acts port

done : (now : ℕ) (acts : List Act) (old : PortState) (step : PortStep) → IsLink old → Touches now old step → IsWithinRate now acts old → IsWithinRate now (acts ++ step.acts) step.port
done now acts old step link (by_offers packets is) was = subst (λ (x : PortStep). IsWithinRate now (acts ++ x.acts) x.port) (sym is) (goes_on now (since now old) acts old _ (all_fit now old packets link) was)
done now acts old step link (by_offer packet is) was = subst (λ (x : PortStep). IsWithinRate now (acts ++ x.acts) x.port) (sym is) (goes_on now (since now old) acts old _ (one_fits now old packet link) was)
done now acts old step link (by_take free is) was =
    let from : since now old ≡ now = ap (λ o. unwrap_or o now) free in
    subst (λ (x : PortStep). IsWithinRate now (acts ++ x.acts) x.port) (sym is) (goes_on now now acts old _ (taken_fits now old link) (subst (λ m. sent_bytes acts * 8000000000 ≤ m * old.rate) from was))

later : (now then : ℕ) (acts : List Act) (port : PortState) → now ≤ then → IsWithinRate now acts port → IsWithinRate then acts port
later now then acts port upto was =
    let more : since now port * port.rate ≤ since then port * port.rate = mul-le (since now port) port.rate (since then port) port.rate (by port.next_free) (omega arith) in
    omega (arith, was, more)
  where
    by : (o : Option ℕ) → unwrap_or o now ≤ unwrap_or o then
    by None = upto
    by (Some t) = omega arith

kept : IsKeptBy Fact
kept = record { first = λ x. omega arith; later = later; done = done }

pub rates_hold : RatesHold
rates_hold p n lines s is_scenario e now all node index within =
    let h = in_every_state Fact kept p n lines s is_scenario e in
    later h.moment now (acts_at (port_of_link s node index).link lines) (port_of_link s node index) (h.upto now all) (h.holds node index within)
