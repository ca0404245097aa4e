-- The least pending moment of groups that hold a state is the state's.
use Rattle.std.proofs.Common.{◌≡◌, ◌≢◌, ◌≤◌, ◌<◌, ℕ, zero, suc, min, List, [], ◌∷◌, length, Option, Some, None, option_map, refl, sym, ap, subst, ◌∙◌, ◌⊎◌, inl, inr, ⊎_elim, arith, slice_get, T}
use Rattle.std.proofs.lemmas.Bool.{cases_lt}
use Rattle.std.specs.FinMap.{get, find, is_sorted, entries, get-entries, entries_sorted}
use Rattle.sim_time.specs.declared.key.Key.{Key}
use Rattle.sim_time.specs.Keys.{key_cmp}
use Rattle.tournament.specs.Keyed.{least}
use Rattle.tournament.proofs.Maps.{not_some, same_some, least_is, none_least}
use Rattle.node_core.specs.declared.event.Event.{Event}
use Rattle.node_core.specs.Pending.{Events}
use Rattle.table_run.specs.State.{State}
use Rattle.window_core.specs.Groups.{GroupState, group_at}
use Rattle.window_core.specs.Lookahead.{lesser}
use Rattle.window_core.specs.Standing.{Stands}
use Rattle.window_core.specs.Windows.{first_time, soonest}
use Rattle.window_law.proofs.Due.{at_or_after, key_time, some_not}
use Rattle.window_law.proofs.Turn.{IsBy, by_first, by_second, there, at_own}
use Rattle.window_engine.specs.Engines.{next_time}

abbrev time_of : Option (Key × Event) → Option ℕ
time_of o = option_map (λ (k : Key). k.time) (option_map (λ (entry : Key × Event). entry.0) o)

first_in : (es : List (Key × Event)) (q : Key) → T (is_sorted key_cmp es) → find key_cmp q es ≢ None → IsBy (time_of (slice_get es 0)) q.time
first_in [] q h some = absurd (some refl)
first_in (x ∷ xs) q h some =
    ⊎_elim
    (λ (e : q ≡ x.0). let t : q.time ≡ x.0.time = ap (λ (z : Key). z.time) e in omega (arith, t))
    (λ l. key_time x.0 q l)
    (at_or_after x xs q h some)

-- no pending event is before the least
first_by : (m : Events) (q : Key) (v : Event) → get m q ≡ Some v → IsBy (time_of (least m)) q.time
first_by m q v e = first_in (entries m) q (entries_sorted m) (some_not _ v (sym (get-entries m q) ∙ e))

soonest_by : (groups : List GroupState) (h : ℕ) (q : Key) (v : Event) → h < length groups → get (group_at groups h).pending q ≡ Some v → IsBy (soonest groups) q.time
soonest_by [] h q v l e = absurd (omega (arith, l))
soonest_by (g ∷ groups) zero q v l e = by_first _ _ q.time (first_by g.pending q v e)
soonest_by (g ∷ groups) (suc h) q v l e = by_second (first_time g) _ q.time (soonest_by groups h q v (omega (arith, l)) e)

-- an event of this moment is pending
record IsThere (m : Events) (time : ℕ) : Type 0 where
  key : Key
  event : Event
  pending : get m key ≡ Some event
  time_is : key.time ≡ time

there_at : (m : Events) (o : Option (Key × Event)) (time : ℕ) → least m ≡ o → time_of o ≡ Some time → IsThere m time
there_at m None time is e = absurd (not_some e)
there_at m (Some x) time is e = record { key = x.0; event = x.1; pending = (least_is m x.0 x.1 is).pending; time_is = same_some x.0.time time e }

lesser_is : (a b : Option ℕ) (time : ℕ) → lesser a b ≡ Some time → (a ≡ Some time) ⊎ (b ≡ Some time)
lesser_is None b time e = inr e
lesser_is (Some a) None time e = inl e
lesser_is (Some a) (Some b) time e =
    let least_of : min a b ≡ time = same_some (min a b) time e in
    ⊎_elim
    (λ (l : a < b). let is : a ≡ time = omega (arith, l, least_of) in inl (ap (λ n. Some n) is))
    (λ (l : b ≤ a). let is : b ≡ time = omega (arith, l, least_of) in inr (ap (λ n. Some n) is))
    (cases_lt a b)

soonest_there : (groups : List GroupState) (time : ℕ) → soonest groups ≡ Some time → (h : ℕ) × IsThere (group_at groups h).pending time
soonest_there [] time e = absurd (not_some e)
soonest_there (g ∷ groups) time e =
    ⊎_elim
    (λ (f : first_time g ≡ Some time). (0, there_at g.pending (least g.pending) time refl f))
    (λ (f : soonest groups ≡ Some time). let r = soonest_there groups time f in (suc r.0, r.1))
    (lesser_is (first_time g) (soonest groups) time e)

module _ (group : ℕ → ℕ) (s : State) (groups : List GroupState) (st : Stands group s groups) where
  -- what is pending in a group is pending in the state
  in_state : (h : ℕ) (k : Key) (v : Event) → get (group_at groups h).pending k ≡ Some v → get s.pending k ≡ Some v
  in_state h k v e = there group s groups st k ∙ ap (λ (j : ℕ). get (group_at groups j).pending k) (at_own group s groups st h k v e) ∙ e

  both : (o : Option (Key × Event)) (b : Option ℕ) → least s.pending ≡ o → soonest groups ≡ b → b ≡ time_of o
  both None None none e = refl
  both None (Some time) none e =
      let r = soonest_there groups time e in
      absurd (not_some (sym (none_least s.pending none r.1.key) ∙ in_state r.0 r.1.key r.1.event r.1.pending))
  both (Some x) None is e =
      let pending = (least_is s.pending x.0 x.1 is).pending in
      absurd (subst (λ (o : Option ℕ). IsBy o x.0.time) e (soonest_by groups (group x.0.node) x.0 x.1 (st.few x.0.node) (sym (there group s groups st x.0) ∙ pending)))
  both (Some x) (Some time) is e =
      let pending = (least_is s.pending x.0 x.1 is).pending in
      let upper : time ≤ x.0.time = subst (λ (o : Option ℕ). IsBy o x.0.time) e (soonest_by groups (group x.0.node) x.0 x.1 (st.few x.0.node) (sym (there group s groups st x.0) ∙ pending)) in
      let r = soonest_there groups time e in
      let lower : x.0.time ≤ r.1.key.time = subst (λ (o : Option (Key × Event)). IsBy (time_of o) r.1.key.time) is (first_by s.pending r.1.key r.1.event (in_state r.0 r.1.key r.1.event r.1.pending)) in
      let same : time ≡ x.0.time = omega (arith, upper, lower, r.1.time_is) in
      ap (λ n. Some n) same

  pub soonest_is : soonest groups ≡ next_time s
  soonest_is = both (least s.pending) (soonest groups) refl refl
