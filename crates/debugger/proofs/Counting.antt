-- Each packet whose arrival is pending is counted once.
use Rattle.std.proofs.Common.{◌≡◌, ◌≢◌, ℕ, ◌+◌, ◌≤◌, min, cond, T, List, [], ◌∷◌, length, get_or, refl, sym, ap, subst, ◌∙◌, Some, arith, ⊎_elim, true≢false, eq-eqb}
use Rattle.std.proofs.lemmas.Bool.{cases_eq}
use Rattle.std.proofs.lemmas.List.{get_or-set_other}
use Rattle.std.specs.List.{AllByRecursion}
use Rattle.std.specs.Ordering.{is_eq}
use Rattle.std.specs.FinMap as map
use Rattle.std.specs.FinMap.{get-entries, entries_sorted, find}
use Rattle.std.specs.FinMap.Entries.{below_all}
use Rattle.sim_time.specs.declared.key.Key.{Key}
use Rattle.sim_time.specs.Keys.{key_cmp}
use Rattle.node_core.specs.declared.event.Event.{Event}
use Rattle.node_core.specs.declared.event.Event.TheVariants.{Start, Rto, DelAck, Free, Arrive}
use Rattle.tournament.specs.Keyed.{IsInOrder}
use Rattle.tournament.proofs.Maps.{is_less, both_of, untied, tied}
use Rattle.table_run.specs.State.{State}
use Rattle.table_run.proofs.Lists.{all_map}
use Rattle.debugger.specs.UnderWay.{ArrivesUnder, KeysAreApart, AreUnderWay, one_more_packet, after_sending, arriving_flow, all_counted}
use Rattle.debugger.proofs.UnderWay.{set_here}

abbrev pub Entry : Type 0
Entry = Key × Event

-- a key that is below others is none of them
apart_from : (x : Key) (es : List Entry) → T (below_all key_cmp x es) → AllByRecursion (λ (e : Entry). x ≢ e.0) es
apart_from x [] h = tt
apart_from x (e ∷ es) h = (
  λ same. true≢false (sym (tied x) ∙ ap (λ (q : Key). is_eq (key_cmp x q)) same ∙ ap is_eq (is_less (key_cmp x e.0) (both_of _ _ h).0)),
  apart_from x es (both_of _ _ h).1,
)

-- each entry is found
each_found : (es : List Entry) → IsInOrder es → AllByRecursion (λ (e : Entry). find key_cmp e.0 es ≡ Some e.1) es
each_found [] h = tt
each_found (x ∷ es) h = (
  ap (λ b. cond b (Some x.1) (find key_cmp x.0 es)) (tied x.0),
  behind es (each_found es (both_of _ _ h).1) (apart_from x.0 es (both_of _ _ h).0),
)
  where
    behind : (later : List Entry) → AllByRecursion (λ (e : Entry). find key_cmp e.0 es ≡ Some e.1) later → AllByRecursion (λ (e : Entry). x.0 ≢ e.0) later → AllByRecursion (λ (e : Entry). find key_cmp e.0 (x ∷ es) ≡ Some e.1) later
    behind [] there apart = tt
    behind (e ∷ later) there apart = (ap (λ b. cond b (Some x.1) (find key_cmp e.0 es)) (untied e.0 x.0 (λ same. apart.0 (sym same))) ∙ there.0, behind later there.1 apart.1)

module _ (s : State) where
  -- what is pending
  abbrev IsThere : Entry → Type 0
  IsThere e = map.get s.pending e.0 ≡ Some e.1

  -- packets of a flow that were counted, none of those that are still to be
  record Seen (flow count : ℕ) (rest : List Entry) : Type 0 where
    keys : List Key
    enough : count ≤ length keys
    apart : KeysAreApart keys
    each : AllByRecursion (λ q. ArrivesUnder flow s q × AllByRecursion (λ (e : Entry). q ≢ e.0) rest) keys

  AllSeen : List ℕ → List Entry → Type 0
  AllSeen counts rest = (flow : ℕ) → Seen flow (get_or counts flow 0) rest

  module _ (e : Entry) (rest : List Entry) (is_there : IsThere e) (others : AllByRecursion (λ (f : Entry). e.0 ≢ f.0) rest) where
    passed_by : (flow count : ℕ) → Seen flow count (e ∷ rest) → Seen flow count rest
    passed_by flow count h = record {
      keys = h.keys;
      enough = h.enough;
      apart = h.apart;
      each = all_map (λ q. ArrivesUnder flow s q × AllByRecursion (λ (f : Entry). q ≢ f.0) (e ∷ rest)) (λ q. ArrivesUnder flow s q × AllByRecursion (λ (f : Entry). q ≢ f.0) rest) (λ q its. (its.0, its.1.1)) h.keys h.each;
    }

    taken : (flow few many : ℕ) → few ≤ many + 1 → ArrivesUnder flow s e.0 → Seen flow many (e ∷ rest) → Seen flow few rest
    unfolding passed_by
    taken flow few many le arrives h =
        let on = passed_by flow many h in
        record {
          keys = e.0 ∷ h.keys;
          enough = (let enough = h.enough in omega (arith, enough, le));
          apart = (all_map (λ q. ArrivesUnder flow s q × AllByRecursion (λ (f : Entry). q ≢ f.0) (e ∷ rest)) (λ q. e.0 ≢ q) (λ q its same. its.1.0 (sym same)) h.keys h.each, h.apart);
          each = ((arrives, others), on.each);
        }

    one_seen : (counts : List ℕ) → AllSeen counts (e ∷ rest) → AllSeen (after_sending counts (arriving_flow e.1)) rest
    unfolding AllSeen
    one_seen counts all = by e.1 refl
      where
        by : (v : Event) → e.1 ≡ v → (flow : ℕ) → Seen flow (get_or (after_sending counts (arriving_flow v)) flow 0) rest
        by (Start own) its flow = passed_by flow (get_or counts flow 0) (all flow)
        by (Rto own) its flow = passed_by flow (get_or counts flow 0) (all flow)
        by (DelAck own) its flow = passed_by flow (get_or counts flow 0) (all flow)
        by (Free link) its flow = passed_by flow (get_or counts flow 0) (all flow)
        by (Arrive x) its flow =
            ⊎_elim
            (λ (same : flow ≡ x.flow).
            taken flow (get_or (one_more_packet counts x.flow) flow 0) (get_or counts flow 0)
            (subst (λ n. get_or (one_more_packet counts x.flow) n 0 ≤ get_or counts n 0 + 1) (sym same) (upto x.flow))
            (x, is_there ∙ ap Some its, eq-eqb x.flow flow (sym same)) (all flow))
            (λ (other : flow ≢ x.flow).
            subst (λ n. Seen flow n rest) (sym (get_or-set_other counts x.flow flow (min (get_or counts x.flow 0 + 1) 18446744073709551615) 0 other)) (passed_by flow (get_or counts flow 0) (all flow)))
            (cases_eq flow x.flow)
          where
            least : (a b : ℕ) → min a b ≤ a
            least a b = omega arith

            upto : (own : ℕ) → get_or (one_more_packet counts own) own 0 ≤ get_or counts own 0 + 1
            upto own = let here = set_here counts own (min (get_or counts own 0 + 1) 18446744073709551615) in let most = least (get_or counts own 0 + 1) 18446744073709551615 in omega (arith, here, most)

  all_seen : (es : List Entry) → IsInOrder es → AllByRecursion IsThere es → (counts : List ℕ) → AllSeen counts es → AreUnderWay (all_counted counts es) s
  unfolding AllSeen
  all_seen [] h there counts all = λ flow. let seen = all flow in record { keys = seen.keys; enough = seen.enough; apart = seen.apart; each = all_map (λ q. ArrivesUnder flow s q × AllByRecursion (λ (e : Entry). q ≢ e.0) []) (ArrivesUnder flow s) (λ q its. its.0) seen.keys seen.each }
  all_seen (e ∷ es) h there counts all = all_seen es (both_of _ _ h).1 there.1 (after_sending counts (arriving_flow e.1)) (one_seen e es there.0 (apart_from e.0 es (both_of _ _ h).0) counts all)

  -- of each flow as many as are counted are under way
  pub pending_counted : (zeros : List ℕ) → ((flow : ℕ) → get_or zeros flow 0 ≡ 0) → AreUnderWay (all_counted zeros (map.entries s.pending)) s
  unfolding AllSeen
  pending_counted zeros none =
      let es = map.entries s.pending in
      let order = entries_sorted s.pending in
      let there : AllByRecursion IsThere es = all_map (λ (e : Entry). find key_cmp e.0 es ≡ Some e.1) IsThere (λ e found. get-entries s.pending e.0 ∙ found) es (each_found es order) in
      all_seen es order there zeros (λ flow. record { keys = []; enough = (let zero = none flow in omega (arith, zero)); apart = tt; each = tt })
