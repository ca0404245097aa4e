-- What is counted of packets under way over a run, and where it tells that no flow becomes stalled.
use Rattle.std.proofs.Common.{◌≡◌, ◌≢◌, ℕ, zero, suc, ◌+◌, ◌-◌, ◌<◌, ◌≤◌, ◌==◌, ◌||◌, min, true, false, List, [], ◌∷◌, ◌++◌, length, get_or, set, refl, sym, ap, subst, ◌∙◌, Option, Some, None, arith, inl, inr, ◌⊎◌, ⊎_elim, true≢false, eqb-true, eq-eqb}
use Rattle.std.proofs.lemmas.Bool.{cases_eq, cases_lt}
use Rattle.std.proofs.lemmas.List.{get_or-set_same, get_or-set_other, length-set}
use Rattle.std.proofs.Math.ListN.{get_or-eq_default}
use Rattle.std.specs.Prelude.{nat_lt}
use Rattle.std.specs.List.{list_any, AllByRecursion}
use Rattle.std.specs.Ordering.{eq_by_cmp}
use Rattle.std.specs.FinMap as map
use Rattle.sim_time.specs.declared.key.Key.{Key}
use Rattle.sim_time.specs.Keys.{key_cmp}
use Rattle.sim_time.proofs.Order.{exact_keys}
use Rattle.port.specs.declared.acts.Act.{Act}
use Rattle.port.specs.declared.acts.Act.TheVariants.{Tx, Dropped}
use Rattle.node_core.specs.declared.event.Event.{Event}
use Rattle.node_core.specs.declared.event.Event.TheVariants.{Start, Rto, DelAck, Free, Arrive}
use Rattle.node_core.specs.Pending.{Events}
use Rattle.node_core.specs.Row.{Effect, Leaving, home_changes, sent_away, arrives}
use Rattle.node_core.specs.TraceLine.{TraceLine}
use Rattle.tournament.specs.Keyed.{apply}
use Rattle.tournament.proofs.Maps.{not_some, same_some, is_equal, tied, get_here}
use Rattle.table_run.specs.State.{State, part_at, effect_of, stepped}
use Rattle.table_run.proofs.Changes.{apply-append}
use Rattle.table_run.proofs.Due.{is_due}
use Rattle.table_run.proofs.Lists.{all_map}
use Rattle.table_run.proofs.Ready.{delivery}
use Rattle.table_run.proofs.Runs.{of_step}
use Rattle.net_machine.specs.Run.{Reached, IsRun, Stepped}
use Rattle.flow_waits.specs.Stalled.{is_arrival_of, is_stalled}
use Rattle.flow_waits.proofs.Found.{arrival_on, moving}
use Rattle.breakpoints.specs.Breaks.{is_sent_of}
use Rattle.debugger.specs.UnderWay.{ArrivesUnder, KeysAreApart, HasUnderWay, AreUnderWay, one_less, one_more_packet, after_event, sent_flow, after_sending, counts_after, is_known}
use Rattle.breakpoints.proofs.Sent.{row_leaves}

-- a key is another or the same
key_cases : (q k : Key) → (q ≡ k) ⊎ (q ≢ k)
key_cases q k =
    elim (eq_by_cmp key_cmp q k) as (λ b. eq_by_cmp key_cmp q k ≡ b → (q ≡ k) ⊎ (q ≢ k)) [
      | true ↦ λ e. inl (exact_keys q k (is_equal _ e))
      | false ↦ λ e. inr (λ same. true≢false (sym (tied k) ∙ ap (λ (r : Key). eq_by_cmp key_cmp r k) (sym same) ∙ e))
    ] refl

pair_up : (P Q : Key → Type 0) (qs : List Key) → AllByRecursion P qs → AllByRecursion Q qs → AllByRecursion (λ r. P r × Q r) qs
pair_up P Q [] a b = tt
pair_up P Q (q ∷ qs) a b = ((a.0, b.0), pair_up P Q qs a.1 b.1)

-- keys without one of them
record Without (P : Key → Type 0) (k : Key) (qs : List Key) : Type 0 where
  keys : List Key
  enough : length qs ≤ length keys + 1
  apart : KeysAreApart keys
  each : AllByRecursion (λ r. P r × (r ≢ k)) keys

without : (P : Key → Type 0) (k : Key) (qs : List Key) → KeysAreApart qs → AllByRecursion P qs → Without P k qs
without P k [] a e = record { keys = []; enough = omega arith; apart = tt; each = tt }
without P k (q ∷ qs) a e =
    ⊎_elim
    (λ (same : q ≡ k). record {
      keys = qs;
      enough = omega arith;
      apart = a.1;
      each = pair_up P (λ r. r ≢ k) qs e.1 (all_map (λ r. q ≢ r) (λ r. r ≢ k) (λ r other its. other (same ∙ sym its)) qs a.0);
    })
    (λ (other : q ≢ k). beside other (without (λ r. P r × (q ≢ r)) k qs a.1 (pair_up P (λ r. q ≢ r) qs e.1 a.0)))
    (key_cases q k)
  where
    beside : q ≢ k → Without (λ r. P r × (q ≢ r)) k qs → Without P k (q ∷ qs)
    beside other w = record {
      keys = q ∷ w.keys;
      enough = (let few = w.enough in omega (arith, few));
      apart = (all_map (λ r. (P r × (q ≢ r)) × (r ≢ k)) (λ r. q ≢ r) (λ r h. h.0.1) w.keys w.each, w.apart);
      each = ((e.0, other), all_map (λ r. (P r × (q ≢ r)) × (r ≢ k)) (λ r. P r × (r ≢ k)) (λ r h. (h.0.0, h.1)) w.keys w.each);
    }

-- numbers of a list of which one is set
pub set_here : (xs : List ℕ) (i v : ℕ) → get_or (set xs i v) i 0 ≤ v
set_here xs i v =
    ⊎_elim
    (λ (within : i < length xs). let is = get_or-set_same xs i v 0 within in omega (arith, is))
    (λ (past : length xs ≤ i). let size : length (set xs i v) ≤ i = (let same = length-set xs i v in omega (arith, past, same)) in let is = get_or-eq_default (set xs i v) 0 size in omega (arith, is))
    (cases_lt i (length xs))

-- fewer are under way too
fewer : (flow few many : ℕ) (s : State) → few ≤ many → HasUnderWay flow many s → HasUnderWay flow few s
fewer flow few many s le h = record { keys = h.keys; enough = (let enough = h.enough in omega (arith, le, enough)); apart = h.apart; each = h.each }

-- none are where none are counted
pub none_under_way : (counts : List ℕ) (s : State) → ((flow : ℕ) → get_or counts flow 0 ≡ 0) → AreUnderWay counts s
none_under_way counts s zeros flow = record { keys = []; enough = (let none = zeros flow in omega (arith, none)); apart = tt; each = tt }

-- a flow of which a packet is known to be under way is not stalled
pub known_moves : (counts : List ℕ) (s : State) (flow : ℕ) → AreUnderWay counts s → is_known counts flow ≡ true → is_stalled flow s ≡ false
known_moves counts s flow all known = by (all flow).keys (all flow).enough (all flow).each
  where
    some : (n : ℕ) → n ≤ 0 → nat_lt 0 n ≡ true → ⊥
    some zero none e = true≢false (sym e)
    some (suc n) none e = omega (arith, none)

    by : (keys : List Key) → get_or counts flow 0 ≤ length keys → AllByRecursion (ArrivesUnder flow s) keys → is_stalled flow s ≡ false
    by [] few each = absurd (some (get_or counts flow 0) few known)
    by (q ∷ qs) few each = moving flow s q each.0.0 each.0.1 each.0.2

-- the packet that leaves is under way, under the key of its arrival
leaving_there : (s : State) (k : Key) (effect : Effect) (l : Leaving) → effect.leaving ≡ Some l → map.get (stepped s k effect).pending (arrives effect.part.links l).0 ≡ Some (Arrive l.departure.packet)
leaving_there s k effect l is =
    let links = effect.part.links in
    let home = home_changes k.node effect in
    let change = arrives links l in
    let rest = map.remove s.pending k in
    ap (λ (o : Option Leaving). map.get (apply (home ++ sent_away links o) rest) change.0) is
    ∙ ap (λ (m : Events). map.get m change.0) (apply-append home (change ∷ []) rest)
    ∙ get_here (apply home rest) change.0 change.1

-- an act that sends is one of the flow's
sent_of : (flow : ℕ) (acts : List Act) → sent_flow acts ≡ Some flow → list_any (is_sent_of flow) acts ≡ true
sent_of flow [] e = absurd (not_some e)
sent_of flow (Tx link x ∷ acts) e = ap (λ b. b || list_any (is_sent_of flow) acts) (eq-eqb x.flow flow (same_some x.flow flow e))
sent_of flow (Dropped link reason x ∷ acts) e = sent_of flow acts e

-- a packet begins to be sent: its arrival is pending under a key under which nothing was
record Begins (flow : ℕ) (s t : State) : Type 0 where
  key : Key
  fresh : map.get s.pending key ≡ None
  arrives_then : ArrivesUnder flow t key

module _ (before after : Reached) (line : TraceLine) (is : IsRun before) (stepped_to : Stepped before (Some line) after) where
  abbrev pub s : State
  s = before.state

  abbrev pub t : State
  t = after.state

  -- the event was pending
  was_pending : map.get s.pending line.key ≡ Some line.event
  was_pending =
      of_step s line t stepped_to.0 (λ k v due_is new_is line_is.
      subst (λ (l : TraceLine). map.get s.pending l.key ≡ Some l.event) (sym line_is) (is_due s k v due_is).pending)

  begins : (flow : ℕ) → sent_flow line.acts ≡ Some flow → Begins flow s t
  begins flow sent =
      of_step s line t stepped_to.0 (λ k v due_is new_is line_is.
      let effect = effect_of s (k, v) in
      let l = row_leaves flow (part_at s k.node) k v (ap (λ (x : TraceLine). list_any (is_sent_of flow) x.acts) (sym line_is) ∙ sent_of flow line.acts sent) in
      record {
        key = (arrives effect.part.links l.0).0;
        fresh = (delivery is.scenario before.position is.lines s is.is_scenario is.is k v due_is l.0 l.1).fresh;
        arrives_then = (l.0.departure.packet, ap (λ (u : State). map.get u.pending (arrives effect.part.links l.0).0) new_is ∙ leaving_there s k effect l.0 l.1, l.2);
      })

  -- those that were under way and have not arrived
  record Remain (flow count : ℕ) : Type 0 where
    keys : List Key
    enough : count ≤ length keys
    apart : KeysAreApart keys
    each : AllByRecursion (λ q. ArrivesUnder flow s q × (q ≢ line.key)) keys

  on : (flow : ℕ) (q : Key) → ArrivesUnder flow s q × (q ≢ line.key) → ArrivesUnder flow t q
  on flow q h = (h.0.0, arrival_on before after line q h.0.0 is stepped_to h.0.1 h.1, h.0.2)

  -- the event is no arrival of the flow
  all_remain : (flow count : ℕ) → is_arrival_of flow line.event ≡ false → HasUnderWay flow count s → Remain flow count
  all_remain flow count other h = record {
    keys = h.keys;
    enough = h.enough;
    apart = h.apart;
    each = all_map (ArrivesUnder flow s) (λ q. ArrivesUnder flow s q × (q ≢ line.key)) (λ q its. (
      its,
      λ same.
          let event : line.event ≡ Arrive its.0 = same_some line.event (Arrive its.0) (sym was_pending ∙ ap (λ (r : Key). map.get s.pending r) (sym same) ∙ its.1) in
          true≢false (sym its.2 ∙ sym (ap (is_arrival_of flow) event) ∙ other),
    )) h.keys h.each;
  }

  -- it is, and one fewer is under way
  one_arrives : (flow count : ℕ) → HasUnderWay flow count s → Remain flow (count - 1)
  one_arrives flow count h =
      let w = without (ArrivesUnder flow s) line.key h.keys h.apart h.each in
      record { keys = w.keys; enough = (let a = h.enough in let b = w.enough in omega (arith, a, b)); apart = w.apart; each = w.each }

  remain_fewer : (flow few many : ℕ) → few ≤ many → Remain flow many → Remain flow few
  remain_fewer flow few many le h = record { keys = h.keys; enough = (let enough = h.enough in omega (arith, le, enough)); apart = h.apart; each = h.each }

  after_arrival : (counts : List ℕ) → AreUnderWay counts s → (flow : ℕ) → Remain flow (get_or (after_event counts line.event) flow 0)
  after_arrival counts all flow = by line.event refl
    where
      by : (v : Event) → line.event ≡ v → Remain flow (get_or (after_event counts v) flow 0)
      by (Start own) its = all_remain flow _ (ap (is_arrival_of flow) its) (all flow)
      by (Rto own) its = all_remain flow _ (ap (is_arrival_of flow) its) (all flow)
      by (DelAck own) its = all_remain flow _ (ap (is_arrival_of flow) its) (all flow)
      by (Free link) its = all_remain flow _ (ap (is_arrival_of flow) its) (all flow)
      by (Arrive x) its =
          ⊎_elim
          (λ (same : flow ≡ x.flow).
          remain_fewer flow (get_or (one_less counts x.flow) flow 0) (get_or counts flow 0 - 1)
          (subst (λ n. get_or (one_less counts x.flow) n 0 ≤ get_or counts n 0 - 1) (sym same) (set_here counts x.flow (get_or counts x.flow 0 - 1)))
          (one_arrives flow (get_or counts flow 0) (all flow)))
          (λ (other : flow ≢ x.flow).
          subst (Remain flow) (sym (get_or-set_other counts x.flow flow (get_or counts x.flow 0 - 1) 0 other))
          (all_remain flow (get_or counts flow 0) (ap (is_arrival_of flow) its ∙ apart_flows x.flow (λ same. other (sym same))) (all flow)))
          (cases_eq flow x.flow)
        where
          apart_flows : (own : ℕ) → own ≢ flow → (own == flow) ≡ false
          apart_flows own other =
              elim (own == flow) as (λ b. (own == flow) ≡ b → (own == flow) ≡ false) [ true ↦ λ e. absurd (other (eqb-true own flow e)) | false ↦ λ e. e ] refl

  remained : (flow count : ℕ) → Remain flow count → HasUnderWay flow count t
  remained flow count h = record { keys = h.keys; enough = h.enough; apart = h.apart; each = all_map (λ q. ArrivesUnder flow s q × (q ≢ line.key)) (ArrivesUnder flow t) (on flow) h.keys h.each }

  one_begins : (flow count : ℕ) → Remain flow count → Begins flow s t → HasUnderWay flow (count + 1) t
  one_begins flow count h new =
      let others = remained flow count h in
      record {
        keys = new.key ∷ h.keys;
        enough = (let enough = h.enough in omega (arith, enough));
        apart = (all_map (λ q. ArrivesUnder flow s q × (q ≢ line.key)) (λ q. new.key ≢ q) (λ q its same. not_some (sym new.fresh ∙ ap (λ (r : Key). map.get s.pending r) same ∙ its.0.1)) h.keys h.each, h.apart);
        each = (new.arrives_then, all_map (λ q. ArrivesUnder flow s q × (q ≢ line.key)) (ArrivesUnder flow t) (on flow) h.keys h.each);
      }

  after_sent : (counts : List ℕ) → ((flow : ℕ) → Remain flow (get_or counts flow 0)) → (o : Option ℕ) → sent_flow line.acts ≡ o → AreUnderWay (after_sending counts o) t
  after_sent counts all None sent flow = remained flow (get_or counts flow 0) (all flow)
  after_sent counts all (Some own) sent flow =
      ⊎_elim
      (λ (same : flow ≡ own).
      fewer flow (get_or (one_more_packet counts own) flow 0) (get_or counts flow 0 + 1) t
      (subst (λ n. get_or (one_more_packet counts own) n 0 ≤ get_or counts n 0 + 1) (sym same) (upto own))
      (one_begins flow (get_or counts flow 0) (all flow) (begins flow (sent ∙ ap Some (sym same)))))
      (λ (other : flow ≢ own).
      subst (λ n. HasUnderWay flow n t) (sym (get_or-set_other counts own flow (min (get_or counts own 0 + 1) 18446744073709551615) 0 other)) (remained flow (get_or counts flow 0) (all flow)))
      (cases_eq flow own)
    where
      upto : (own : ℕ) → get_or (one_more_packet counts own) own 0 ≤ get_or counts own 0 + 1
      upto own = let here = set_here counts own (min (get_or counts own 0 + 1) 18446744073709551615) in let most = least (get_or counts own 0 + 1) 18446744073709551615 in omega (arith, here, most)
        where
          least : (a b : ℕ) → min a b ≤ a
          least a b = omega arith

  -- what is counted is under way after each line
  pub counted_on : (counts : List ℕ) → AreUnderWay counts s → AreUnderWay (counts_after counts line) t
  counted_on counts all = after_sent (after_event counts line.event) (after_arrival counts all) (sent_flow line.acts) refl

-- the same of what the code has counted
pub counted_next : (old new : Reached) (line : TraceLine) (counts more : List ℕ) → IsRun old → Stepped old (Some line) new → AreUnderWay counts old.state → more ≡ counts_after counts line → AreUnderWay more new.state
counted_next old new line counts more run next all is = subst (λ (xs : List ℕ). AreUnderWay xs new.state) (sym is) (counted_on old new line run next counts all)
