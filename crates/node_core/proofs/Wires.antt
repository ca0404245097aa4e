-- What a wire's packets are as a map of arrivals, and what leaving in front and joining behind does to it.
use Rattle.std.proofs.Common.{◌≡◌, ℕ, zero, suc, ◌+◌, ◌-◌, ◌<◌, ◌≤◌, List, [], ◌∷◌, ◌++◌, length, get_or, refl, sym, ap, subst, ◌∙◌, ⊎_elim, arith, length-append, Option, None, Some, IsSome, ◌^◌}
use Rattle.std.proofs.lemmas.Bool.{cases_lt}
use Rattle.std.proofs.lemmas.List.{get_or_append_left, map-append}
use Rattle.std.proofs.Math.Seq.{get_or-append_right}
use Rattle.std.proofs.lemmas.List.Kept.{AllPairs-from_increasing}
use Rattle.std.specs.Prelude.{All}
use Rattle.std.specs.List.{slice_get, AllByRecursion}
use Rattle.std.specs.List.Sorted.{IsStrictlyIncreasing}
use Rattle.std.specs.Option.{option_map}
use Rattle.std.specs.FinMap as fin
use Rattle.sim_time.specs.declared.key.Key.{Key}
use Rattle.packet_chain.specs.Stamped.{Stamped}
use Rattle.packet_chain.specs.declared.packet.Packet.{Packet}
use Rattle.tournament.specs.Keyed.{least, next_key, apply, entering, EachKey, IsInOrder, map_of_keys}
use Rattle.std.proofs.Common.{true, false, cond}
use Rattle.std.specs.Ordering.{eq_by_cmp}
use Rattle.std.specs.FinMap.{get-from_entries}
use Rattle.sim_time.specs.Keys.{key_cmp}
use Rattle.sim_time.proofs.Order.{keys_total, exact_keys}
use Rattle.node_core.specs.Pending.{EventChange}
use Rattle.tournament.proofs.Maps.{not_some, same_some, is_equal}
use Rattle.tournament.proofs.InOrder.{least_first, first_leaves, each_entry, Follows, joined}
use Rattle.node_core.specs.declared.event.Event.{Event}
use Rattle.node_core.specs.declared.event.Event.TheVariants.{Arrive}
use Rattle.node_core.specs.Timers.{arrival_key}
use Rattle.node_core.specs.WireState.{WireState, stamps_of, arrivals, arrivals_on, pending_on, came_over, IsWire, after_pop, without_first_arrival}

pub increasing_rest : (x : ℕ) (xs : List ℕ) → IsStrictlyIncreasing (x ∷ xs) → IsStrictlyIncreasing xs
increasing_rest x xs h k under = subst (λ n. get_or xs k 0 < get_or (x ∷ xs) n 0) {x = suc k + 1} {y = suc (k + 1)} (omega arith) (h (suc k) (omega (arith, under)))

pub first_below : (x : ℕ) (xs : List ℕ) → IsStrictlyIncreasing (x ∷ xs) → (k : ℕ) → k < length xs → x < get_or xs k 0
first_below x xs h k under = AllPairs-from_increasing (x ∷ xs) h 0 (suc k) 0 (omega arith) (omega (arith, under))

-- numbers that rise, and others that rise past them all
increasing-append : (xs ys : List ℕ) → IsStrictlyIncreasing xs → IsStrictlyIncreasing ys → ((i j : ℕ) → i < length xs → j < length ys → get_or xs i 0 < get_or ys j 0) → IsStrictlyIncreasing (xs ++ ys)
increasing-append xs ys up later past k under =
    ⊎_elim
    (λ (inside : k + 1 < length xs).
    let here : get_or (xs ++ ys) k 0 ≡ get_or xs k 0 = get_or_append_left xs ys 0 k (omega (arith, inside)) in
    let next : get_or (xs ++ ys) (k + 1) 0 ≡ get_or xs (k + 1) 0 = get_or_append_left xs ys 0 (k + 1) inside in
    let less : get_or xs k 0 < get_or xs (k + 1) 0 = up k inside in
    omega (arith, here, next, less))
    (λ (outside : length xs ≤ k + 1).
    let next : get_or (xs ++ ys) (k + 1) 0 ≡ get_or ys (k + 1 - length xs) 0 = get_or-append_right xs ys (k + 1) 0 outside in
    let within : k + 1 - length xs < length ys = omega (arith, under, length-append xs ys, outside) in
    ⊎_elim
    (λ (last : k < length xs).
    let here : get_or (xs ++ ys) k 0 ≡ get_or xs k 0 = get_or_append_left xs ys 0 k last in
    let less : get_or xs k 0 < get_or ys (k + 1 - length xs) 0 = past k (k + 1 - length xs) last within in
    omega (arith, here, next, less))
    (λ (beyond : length xs ≤ k).
    let here : get_or (xs ++ ys) k 0 ≡ get_or ys (k - length xs) 0 = get_or-append_right xs ys k 0 beyond in
    let one : (k - length xs) + 1 ≡ k + 1 - length xs = omega (arith, beyond) in
    let less : get_or ys (k - length xs) 0 < get_or ys (k + 1 - length xs) 0 =
    subst (λ n. get_or ys (k - length xs) 0 < get_or ys n 0) one (later (k - length xs) (omega (arith, one, within))) in
    omega (arith, here, next, less))
    (cases_lt k (length xs)))
    (cases_lt (k + 1) (length xs))

all_push : (P : Key × Event → Type 0) (es : List (Key × Event)) (e : Key × Event) → AllByRecursion P es → P e → AllByRecursion P (es ++ e ∷ [])
all_push P [] e all here = (here, tt)
all_push P (x ∷ es) e all here = (all.0, all_push P es e all.1 here)

-- arrivals that rise, past all entries that there are
follows : (q : List Stamped) (node link before : ℕ) (es : List (Key × Event)) → IsStrictlyIncreasing (stamps_of q)
    → ((k : ℕ) → k < length (stamps_of q) → AllByRecursion (λ (e : Key × Event). e.0.time < get_or (stamps_of q) k 0) es) → Follows es (arrivals node link before q)
follows [] node link before es rising later = tt
follows (a ∷ q) node link before es rising later = (
  later 0 (omega arith),
  follows q node link (before + 1) (es ++ (arrival_key node link a.1 (before + 1), Arrive a.0) ∷ []) (increasing_rest a.1 (stamps_of q) rising) (λ k under.
      all_push (λ (e : Key × Event). e.0.time < get_or (stamps_of q) k 0) es (arrival_key node link a.1 (before + 1), Arrive a.0) (later (suc k) (omega (arith, under))) (first_below a.1 (stamps_of q) rising k under)),
)

arrivals_in_order : (node link before : ℕ) (q : List Stamped) → IsStrictlyIncreasing (stamps_of q) → IsInOrder (arrivals node link before q)
arrivals_in_order node link before q rising = (joined (arrivals node link before q) [] tt (follows q node link before [] rising (λ _ _. tt))).in_order

arrivals-append : (node link before : ℕ) (q r : List Stamped) → arrivals node link before (q ++ r) ≡ arrivals node link before q ++ arrivals node link (before + length q) r
arrivals-append node link before [] r = ap (λ n. arrivals node link n r) {x = before} {y = before + 0} (omega arith)
arrivals-append node link before (a ∷ q) r =
    ap (λ es. (arrival_key node link a.1 (before + 1), Arrive a.0) ∷ es)
    (arrivals-append node link (before + 1) q r ∙ ap (λ n. arrivals node link (before + 1) q ++ arrivals node link n r) {x = (before + 1) + length q} {y = before + suc (length q)} (omega arith))

-- what holds of the time of each arrival holds of each stamp
each_stamp : (P : ℕ → Type 0) (node link before : ℕ) (q : List Stamped) → AllByRecursion (λ (e : Key × Event). P e.0.time) (arrivals node link before q) → (i : ℕ) → i < length (stamps_of q) → P (get_or (stamps_of q) i 0)
each_stamp P node link before [] all i under = absurd (omega (arith, under))
each_stamp P node link before (a ∷ q) all zero under = all.0
each_stamp P node link before (a ∷ q) all (suc i) under = each_stamp P node link (before + 1) q all.1 i (omega (arith, under))

-- the first arrival
pub head_on : (w : WireState) → option_map (λ (a : Stamped). (arrival_key w.node w.link a.1 (w.taken + 1), Arrive a.0)) (slice_get w.under_way 0) ≡ slice_get (arrivals_on w) 0
head_on w = elim w.under_way as (λ q. option_map (λ (a : Stamped). (arrival_key w.node w.link a.1 (w.taken + 1), Arrive a.0)) (slice_get q 0) ≡ slice_get (arrivals w.node w.link w.taken q) 0) [ [] ↦ refl | a ∷ q ↦ refl ]

-- it is the least
pub least_on : (w : WireState) → IsWire w → least (pending_on w) ≡ slice_get (arrivals_on w) 0
least_on w is = least_first (arrivals_on w) (arrivals_in_order w.node w.link w.taken w.under_way is.rising)

pub front_least : (w now : WireState) → w ≡ now → IsWire w → (front : Option Stamped) → front ≡ slice_get w.under_way 0
    → least (pending_on now) ≡ option_map (λ (a : Stamped). (arrival_key w.node w.link a.1 (w.taken + 1), Arrive a.0)) front
front_least w now same is front e =
    ap (λ (s : WireState). least (pending_on s)) (sym same) ∙ least_on w is ∙ sym (head_on w)
    ∙ ap (option_map (λ (a : Stamped). (arrival_key w.node w.link a.1 (w.taken + 1), Arrive a.0))) (sym e)

abbrev pub wire : ℕ → ℕ → ℕ → List Stamped → WireState
wire node link taken under_way = record { node = node; link = link; taken = taken; under_way = under_way }

-- the first packet arrives
pub wire_popped : (node link taken : ℕ) (a : Stamped) (q : List Stamped) → IsWire (wire node link taken (a ∷ q)) → IsWire (wire node link (taken + 1) q)
wire_popped node link taken a q is = record { rising = increasing_rest a.1 (stamps_of q) is.rising; link = is.link; count = omega (arith, is.count) }

pub pending_popped : (node link taken : ℕ) (a : Stamped) (q : List Stamped) → IsWire (wire node link taken (a ∷ q)) → (key : Key) → next_key (pending_on (wire node link taken (a ∷ q))) ≡ Some key
    → pending_on (wire node link (taken + 1) q) ≡ fin.remove (pending_on (wire node link taken (a ∷ q))) key
pending_popped node link taken a q is key next =
    let first : arrival_key node link a.1 (taken + 1) ≡ key = same_some _ key (ap (option_map (λ (entry : Key × Event). entry.0)) (sym (least_on (wire node link taken (a ∷ q)) is)) ∙ next) in
    first_leaves _ (arrivals node link (taken + 1) q) (arrivals_in_order node link taken (a ∷ q) is.rising) ∙ ap (fin.remove (pending_on (wire node link taken (a ∷ q)))) first

-- where nothing is under way nothing is next
pub none_next : (node link taken : ℕ) (key : Key) → next_key (pending_on (wire node link taken [])) ≡ Some key → ⊥
none_next node link taken key next = not_some (ap (option_map (λ (entry : Key × Event). entry.0)) (sym (least_first [] tt)) ∙ next)

-- packets that arrive later than all others join behind
pub record Appended (w : WireState) (sent : List Stamped) : Type 0 where
  pub is_wire : IsWire (record w { under_way = w.under_way ++ sent })
  pub entered : pending_on (record w { under_way = w.under_way ++ sent }) ≡ apply (entering (arrivals w.node w.link (came_over w) sent)) (pending_on w)

pub appended : (w : WireState) (sent : List Stamped) → IsWire w → IsStrictlyIncreasing (stamps_of sent) → All (λ stamp. EachKey (λ k. k.time < stamp) (pending_on w)) (stamps_of sent) → came_over w + length sent ≤ 2 ^ 50 → Appended w sent
appended w sent is rising later few =
    let es = arrivals_on w in
    let past : (j : ℕ) → j < length (stamps_of sent) → AllByRecursion (λ (e : Key × Event). e.0.time < get_or (stamps_of sent) j 0) es =
    λ j under. each_entry (λ k. k.time < get_or (stamps_of sent) j 0) es (later j 0 under) in
    let join = joined (arrivals w.node w.link (came_over w) sent) es (arrivals_in_order w.node w.link w.taken w.under_way is.rising) (follows sent w.node w.link (came_over w) es rising past) in
    record {
      is_wire = record {
        rising = subst IsStrictlyIncreasing (sym (map-append (λ (a : Stamped). a.1) w.under_way sent))
            (increasing-append (stamps_of w.under_way) (stamps_of sent) is.rising rising (λ i j here there. each_stamp (λ t. t < get_or (stamps_of sent) j 0) w.node w.link w.taken w.under_way (past j there) i here));
        link = is.link;
        count = omega (arith, few, length-append w.under_way sent);
      };
      entered = ap map_of_keys (arrivals-append w.node w.link w.taken w.under_way sent) ∙ join.entered;
    }

-- what holds of each entry's key holds of each key of the map
each_due : (P : Key → Type 0) (es : List (Key × Event)) → AllByRecursion (λ (e : Key × Event). P e.0) es → EachKey P (map_of_keys es)
each_due P es all k v there = go es all (sym (get-from_entries keys_total es k) ∙ there)
  where
    go : (es : List (Key × Event)) → AllByRecursion (λ (e : Key × Event). P e.0) es → fin.find key_cmp k es ≡ Some v → P k
    go [] all e = absurd (not_some e)
    go (f ∷ es) all e = elim (eq_by_cmp key_cmp k f.0) as (λ b. eq_by_cmp key_cmp k f.0 ≡ b → P k) [
      | true ↦ λ t. subst P (sym (exact_keys k f.0 (is_equal _ t))) all.0
      | false ↦ λ t. go es all.1 (ap (λ b. cond b (Some f.1) (fin.find key_cmp k es)) (sym t) ∙ e)
    ] refl

all_sources : (node link before : ℕ) (q : List Stamped) → AllByRecursion (λ (e : Key × Event). e.0.source ≡ link + 1) (arrivals node link before q)
all_sources node link before [] = tt
all_sources node link before (a ∷ q) = (refl, all_sources node link (before + 1) q)

-- the keys of what comes over a link have its source
pub each_on : (w : WireState) → EachKey (λ k. k.source ≡ w.link + 1) (pending_on w)
each_on w = each_due (λ k. k.source ≡ w.link + 1) (arrivals_on w) (all_sources w.node w.link w.taken w.under_way)

all_at : (node link before : ℕ) (q : List Stamped) → AllByRecursion (λ (e : Key × Event). e.0.node ≡ node) (arrivals node link before q)
all_at node link before [] = tt
all_at node link before (a ∷ q) = (refl, all_at node link (before + 1) q)

-- and they are of the node at its end
pub each_at : (w : WireState) → EachKey (λ k. k.node ≡ w.node) (pending_on w)
each_at w = each_due (λ k. k.node ≡ w.node) (arrivals_on w) (all_at w.node w.link w.taken w.under_way)

-- all that comes is an arrival
pub all_arrive : (w : WireState) (key : Key) (event : Event) → fin.get (pending_on w) key ≡ Some event → (packet : Packet) × (event ≡ Arrive packet)
all_arrive w key event there = go w.taken w.under_way (sym (get-from_entries keys_total (arrivals_on w) key) ∙ there)
  where
    go : (before : ℕ) (q : List Stamped) → fin.find key_cmp key (arrivals w.node w.link before q) ≡ Some event → (packet : Packet) × (event ≡ Arrive packet)
    go before [] e = absurd (not_some e)
    go before (a ∷ q) e =
        elim (eq_by_cmp key_cmp key (arrival_key w.node w.link a.1 (before + 1))) as (λ b. cond b (Some (Arrive a.0)) (fin.find key_cmp key (arrivals w.node w.link (before + 1) q)) ≡ Some event → (packet : Packet) × (event ≡ Arrive packet)) [
          | true ↦ λ f. (a.0, sym (same_some (Arrive a.0) event f))
          | false ↦ λ f. go (before + 1) q f
        ] e

-- and so have the changes by which further packets come
pub entering_sources : (node link before : ℕ) (q : List Stamped) → AllByRecursion (λ (c : EventChange). c.0.source ≡ link + 1) (entering (arrivals node link before q))
entering_sources node link before [] = tt
entering_sources node link before (a ∷ q) = (refl, entering_sources node link (before + 1) q)

-- the packet of the first arrival is the first under way
pub first_packet : (w : WireState) → IsWire w → (key : Key) (packet : Packet) → least (pending_on w) ≡ Some (key, Arrive packet) → option_map (λ (a : Stamped). a.0) (slice_get w.under_way 0) ≡ Some packet
first_packet w is key packet e = at (slice_get w.under_way 0) (head_on w ∙ sym (least_on w is) ∙ e)
  where
    at : (o : Option Stamped) → option_map {U = Key × Event} (λ (a : Stamped). (arrival_key w.node w.link a.1 (w.taken + 1), Arrive a.0)) o ≡ Some (key, Arrive packet) → option_map (λ (a : Stamped). a.0) o ≡ Some packet
    at None f = absurd (not_some f)
    at (Some a) f = ap (λ x. Some x) (carried a.0 (ap (λ (entry : Key × Event). entry.1) (same_some {A = Key × Event} (arrival_key w.node w.link a.1 (w.taken + 1), Arrive a.0) (key, Arrive packet) f)))
      where
        carried : (x : Packet) → Arrive x ≡ Arrive packet → x ≡ packet
        carried x g = cc

-- what a packet that arrives leaves of its link
pub popped_node : (w : WireState) → (after_pop w).node ≡ w.node
popped_node w = elim w.under_way as (λ q. (without_first_arrival w q).node ≡ w.node) [ [] ↦ refl | a ∷ q ↦ refl ]

pub popped_link : (w : WireState) → (after_pop w).link ≡ w.link
popped_link w = elim w.under_way as (λ q. (without_first_arrival w q).link ≡ w.link) [ [] ↦ refl | a ∷ q ↦ refl ]

pub popped_came : (w : WireState) → came_over (after_pop w) ≡ came_over w
popped_came w = elim w.under_way as (λ q. w.under_way ≡ q → came_over (without_first_arrival w q) ≡ came_over w) [ [] ↦ λ _. refl | a ∷ q ↦ λ e. omega (arith, ap length e) ] refl

-- what joins behind others is not next
pub next_appended : (w : WireState) (sent : List Stamped) → IsWire w → IsWire (record w { under_way = w.under_way ++ sent }) → IsSome (next_key (pending_on w)) → next_key (pending_on (record w { under_way = w.under_way ++ sent })) ≡ next_key (pending_on w)
next_appended w sent is later some = at w.under_way refl
  where
    at : (q : List Stamped) → w.under_way ≡ q → next_key (pending_on (record w { under_way = w.under_way ++ sent })) ≡ next_key (pending_on w)
    at [] e = absurd (none_is_some (next_key (pending_on w)) (ap (λ r. next_key (pending_on (wire w.node w.link w.taken r))) e ∙ ap (option_map (λ (entry : Key × Event). entry.0)) (least_first [] tt)) some)
      where
        none_is_some : (o : Option Key) → o ≡ None → IsSome o → ⊥
        none_is_some None f h = cc
        none_is_some (Some k) f h = absurd (not_some (sym f))
    at (a ∷ q) e =
        ap (λ r. next_key (pending_on (wire w.node w.link w.taken (r ++ sent)))) e
        ∙ ap (option_map (λ (entry : Key × Event). entry.0)) (least_on (wire w.node w.link w.taken (a ∷ (q ++ sent))) (subst (λ r. IsWire (wire w.node w.link w.taken (r ++ sent))) e later))
        ∙ sym (ap (λ r. next_key (pending_on (wire w.node w.link w.taken r))) e ∙ ap (option_map (λ (entry : Key × Event). entry.0)) (least_on (wire w.node w.link w.taken (a ∷ q)) (subst (λ r. IsWire (wire w.node w.link w.taken r)) e is)))

-- on an empty wire nothing is pending
pub nothing_on : (P : Key → Type 0) (w : WireState) → w.under_way ≡ [] → EachKey P (pending_on w)
nothing_on P w e = each_due P (arrivals_on w) (subst (λ q. AllByRecursion (λ (x : Key × Event). P x.0) (arrivals w.node w.link w.taken q)) (sym e) tt)
