-- A turn gives the lines of the run, and the groups hold its state.
use Rattle.std.proofs.Common.{◌≡◌, ◌≢◌, ◌≤◌, ◌<◌, ◌+◌, ℕ, zero, suc, List, [], ◌∷◌, ◌++◌, length, map, filter, Bool, true, false, cond, ◌==◌, T, Option, Some, None, refl, sym, ap, subst, ◌∙◌, ⊎_elim, arith, eq-eqb, ne_eqb, get_or}
use Rattle.std.proofs.lemmas.Bool.{cases_eq, cases_lt}
use Rattle.std.proofs.lemmas.List.{length-map, get_or_past}
use Rattle.std.specs.List.{slice_get, enumerate_from}
use Rattle.std.specs.Option.{option_map, option_or}
use Rattle.std.proofs.Math.ListN.{get_or-map}
use Rattle.std.specs.FinMap.{get, get-empty, find, entries, entries_sorted, get-entries, get-from_entries, from_entries, retain_keys, get-retain_keys, is_sorted}
use Rattle.std.specs.FinMap.Entries.{same_entries, find-where_key, where_key}
use Rattle.sim_time.specs.declared.key.Key.{Key}
use Rattle.sim_time.specs.Keys.{key_cmp}
use Rattle.sim_time.proofs.Order.{keys_total, exact_keys}
use Rattle.node_core.specs.declared.event.Event.{Event}
use Rattle.tournament.specs.Keyed.{apply, entering, EachKey}
use Rattle.tournament.specs.Gathered.{map_at, AtHome}
use Rattle.tournament.proofs.Maps.{each_empty}
use Rattle.tournament.proofs.Gathered.{get-gathered}
use Rattle.node_core.specs.Pending.{Events}
use Rattle.table_run.specs.Sound.{EachEvent}
use Rattle.table_run.specs.State.{State, no_part}
use Rattle.node_core.specs.TraceLine.{TraceLine}
use Rattle.window_law.specs.Groups.{GroupState, no_group, group_at}
use Rattle.window_law.specs.Lookahead.{lesser}
use Rattle.window_law.specs.Windows.{Setting, keyed, in_order, delivered_to, all_held, all_lines, groups_delivered, first_time, soonest, sum_of, at_most, window_end}
use Rattle.window_law.specs.Calls.{IsWithin}
use Rattle.window_law.specs.Standing.{Stands}
use Rattle.window_law.proofs.Changes.{same, get-entering}
use Rattle.window_law.proofs.Due.{at_or_after, key_time, some_not}
use Rattle.window_law.proofs.Matches.{Matches, IsHeld}

-- LINES IN ORDER

pub or_else : Option TraceLine → Option TraceLine → Option TraceLine
or_else None p = p
or_else (Some x) p = Some x

pub find_append : (xs ys : List TraceLine) (q : Key) → find key_cmp q (map keyed (xs ++ ys)) ≡ or_else (find key_cmp q (map keyed xs)) (find key_cmp q (map keyed ys))
unfolding or_else
find_append [] ys q = refl
find_append (x ∷ xs) ys q = elim (same q x.key) as (λ b. cond b (Some x) (find key_cmp q (map keyed (xs ++ ys))) ≡ or_else (cond b (Some x) (find key_cmp q (map keyed xs))) (find key_cmp q (map keyed ys))) [ true ↦ refl | false ↦ find_append xs ys q ]

pub or_none : (o : Option TraceLine) → or_else o None ≡ o
unfolding or_else
or_none None = refl
or_none (Some x) = refl

pub none_or : (o p : Option TraceLine) → o ≡ None → or_else o p ≡ p
unfolding or_else
none_or o p e = ap (λ x. or_else x p) e

-- no group has a line at the key
find_none : (groups : List GroupState) (k : Key) → ((j : ℕ) → find key_cmp k (map keyed (group_at groups j).lines) ≡ None) → find key_cmp k (map keyed (all_lines groups)) ≡ None
find_none [] k off = refl
find_none (g ∷ groups) k off = find_append g.lines (all_lines groups) k ∙ none_or _ _ (off 0) ∙ find_none groups k (λ j. off (suc j))

-- one group alone has
find_one : (groups : List GroupState) (i : ℕ) (k : Key) → i < length groups → ((j : ℕ) → j ≢ i → find key_cmp k (map keyed (group_at groups j).lines) ≡ None)
    → find key_cmp k (map keyed (all_lines groups)) ≡ find key_cmp k (map keyed (group_at groups i).lines)
find_one [] i k l off = absurd (omega (arith, l))
find_one (g ∷ groups) zero k l off =
    find_append g.lines (all_lines groups) k
    ∙ ap (or_else (find key_cmp k (map keyed g.lines))) (find_none groups k (λ j. off (suc j) (λ e. absurd (omega (arith, e)))))
    ∙ or_none _
find_one (g ∷ groups) (suc i) k l off =
    find_append g.lines (all_lines groups) k
    ∙ none_or _ _ (off 0 (λ e. absurd (omega (arith, e))))
    ∙ find_one groups i k (omega (arith, l)) (λ j other. off (suc j) (λ e. other (omega (arith, e))))

pub keyed_filter : (p : Key → Bool) (ls : List TraceLine) → map keyed (filter (λ (l : TraceLine). p l.key) ls) ≡ where_key key_cmp p (map keyed ls)
keyed_filter p [] = refl
keyed_filter p (l ∷ ls) =
    elim (p l.key) as (λ b. map keyed (cond b (l ∷ filter (λ (l : TraceLine). p l.key) ls) (filter (λ (l : TraceLine). p l.key) ls)) ≡ cond b (keyed l ∷ where_key key_cmp p (map keyed ls)) (where_key key_cmp p (map keyed ls))) [
      | true ↦ ap (λ es. keyed l ∷ es) (keyed_filter p ls)
      | false ↦ keyed_filter p ls
    ]

unkeyed : (ls : List TraceLine) → map (λ (e : Key × TraceLine). e.1) (map keyed ls) ≡ ls
unkeyed [] = refl
unkeyed (l ∷ ls) = ap (λ xs. l ∷ xs) (unkeyed ls)

-- lines that rise and are found alike are the lines in order
pub ordered : (ls ms : List TraceLine) → T (is_sorted key_cmp (map keyed ms)) → ((k : Key) → find key_cmp k (map keyed ls) ≡ find key_cmp k (map keyed ms)) → in_order ls ≡ ms
ordered ls ms sorted alike =
    ap (map (λ (e : Key × TraceLine). e.1)) (same_entries key_cmp keys_total exact_keys (entries (from_entries {R = key_cmp} (map keyed ls))) (map keyed ms) (entries_sorted (from_entries (map keyed ls))) sorted (λ q. sym (get-entries (from_entries {R = key_cmp} (map keyed ls)) q) ∙ get-from_entries keys_total (map keyed ls) q ∙ alike q))
    ∙ unkeyed ms

-- THE GROUPS AFTER A TURN

length_numbered : {A : Type 0} (n : ℕ) (xs : List A) → length (enumerate_from n xs) ≡ length xs
length_numbered n [] = refl
length_numbered n (x ∷ xs) = ap suc (length_numbered (n + 1) xs)

pub length_delivered : (group : ℕ → ℕ) (groups : List GroupState) → length (groups_delivered group groups) ≡ length groups
length_delivered group groups = length-map (enumerate_from 0 groups) (delivered_to group (all_held groups)) ∙ length_numbered 0 groups

delivered_from : (group : ℕ → ℕ) (held : Events) (m : ℕ) (groups : List GroupState) (h : ℕ) → h < length groups → group_at (map (delivered_to group held) (enumerate_from m groups)) h ≡ delivered_to group held (m + h, group_at groups h)
delivered_from group held m [] h l = absurd (omega (arith, l))
delivered_from group held m (g ∷ groups) zero l = ap (λ n. delivered_to group held (n, g)) {x = m} {y = m + 0} (omega arith)
delivered_from group held m (g ∷ groups) (suc h) l = delivered_from group held (m + 1) groups h (omega (arith, l)) ∙ ap (λ n. delivered_to group held (n, group_at groups h)) {x = m + 1 + h} {y = m + suc h} (omega arith)

pub delivered_at : (group : ℕ → ℕ) (groups : List GroupState) (h : ℕ) → h < length groups → group_at (groups_delivered group groups) h ≡ delivered_to group (all_held groups) (h, group_at groups h)
delivered_at group groups h l = delivered_from group (all_held groups) 0 groups h l ∙ ap (λ n. delivered_to group (all_held groups) (n, group_at groups h)) {x = 0 + h} {y = h} (omega arith)

past : (group : ℕ → ℕ) (groups : List GroupState) (h : ℕ) → length groups ≤ h → group_at (groups_delivered group groups) h ≡ no_group
past group groups h l = get_or_past (groups_delivered group groups) h no_group (omega (arith, l, length_delivered group groups))

not_there : {A : Type 0} (o : Option A) → ((v : A) → o ≡ Some v → ⊥) → o ≡ None
not_there (Some x) h = absurd (h x refl)
not_there None h = refl

module _ (group : ℕ → ℕ) (maker : Key → ℕ) (ahead : Option ℕ) (until : ℕ) (s : State) (lines : List TraceLine) (groups : List GroupState) (m : Matches group maker ahead until s lines groups) where
  pub lines_of_all : T (is_sorted key_cmp (map keyed lines)) → in_order (all_lines groups) ≡ lines
  lines_of_all sorted = ordered _ lines sorted (λ k.
      find_one groups (group k.node) k (m.few k.node) (λ j off. at j k ∙ ap (λ b. cond b (find key_cmp k (map keyed lines)) None) (ne_eqb _ _ (λ e. off (sym e))))
      ∙ at (group k.node) k
      ∙ ap (λ b. cond b (find key_cmp k (map keyed lines)) None) (eq-eqb _ _ refl))
    where
      at : (h : ℕ) (k : Key) → find key_cmp k (map keyed (group_at groups h).lines) ≡ cond (group k.node == h) (find key_cmp k (map keyed lines)) None
      at h k =
          ap (λ ls. find key_cmp k (map keyed ls)) (m.lines_are h)
          ∙ ap (find key_cmp k) (keyed_filter (λ z. group z.node == h) lines)
          ∙ find-where_key key_cmp (λ z. group z.node == h) k (λ z e. ap (λ (y : Key). group y.node == h) (sym (exact_keys k z e))) (map keyed lines)

  helds : (h : ℕ) → map_at (map (λ (g : GroupState). g.held) groups) h ≡ (group_at groups h).held
  helds h = get_or-map (λ (g : GroupState). g.held) groups h no_group

  -- each held arrival is in the group of its maker
  at_maker : AtHome (λ k. group (maker k)) (map (λ (g : GroupState). g.held) groups)
  at_maker h k v e = (m.held h k v (ap (λ (x : Events). get x k) (sym (helds h)) ∙ e)).by

  held_at : (k : Key) → get (all_held groups) k ≡ get (group_at groups (group (maker k))).held k
  held_at k = get-gathered (λ q. group (maker q)) (map (λ (g : GroupState). g.held) groups) at_maker k ∙ ap (λ (x : Events). get x k) (helds (group (maker k)))

  held_for : (h : ℕ) (k : Key) → get (retain_keys (all_held groups) (λ q. group q.node == h)) k ≡ cond (group k.node == h) (get (group_at groups (group (maker k))).held k) None
  held_for h k = get-retain_keys (all_held groups) (λ q. group q.node == h) k (λ q e. ap (λ (y : Key). group y.node == h) (sym (exact_keys k q e))) ∙ ap (λ o. cond (group k.node == h) o None) (held_at k)

  pub stands_after : Stands group s (groups_delivered group groups)
  stands_after = record {
    few = λ n. omega (arith, m.few n, length_delivered group groups);
    sizes = λ n. ap (λ (g : GroupState). length g.parts) (delivered_at group groups (group n) (m.few n)) ∙ m.sizes n;
    parts = λ n. m.parts n ∙ sym (ap (λ (g : GroupState). get_or g.parts n no_part) (delivered_at group groups (group n) (m.few n)));
    pending = pending_at;
    held = λ h. ⊎_elim (λ (l : h < length groups). ap (λ (g : GroupState). g.held) (delivered_at group groups h l)) (λ (over : length groups ≤ h). ap (λ (g : GroupState). g.held) (past group groups h over)) (cases_lt h (length groups));
    lines = λ h. ⊎_elim (λ (l : h < length groups). ap (λ (g : GroupState). g.lines) (delivered_at group groups h l)) (λ (over : length groups ≤ h). ap (λ (g : GroupState). g.lines) (past group groups h over)) (cases_lt h (length groups));
  }
    where
      there : (h : ℕ) (k : Key) → get (apply (entering (entries (retain_keys (all_held groups) (λ q. group q.node == h)))) (group_at groups h).pending) k ≡ cond (group k.node == h) (get s.pending k) None
      there h k =
          get-entering (retain_keys (all_held groups) (λ q. group q.node == h)) (group_at groups h).pending k
          ∙ ap (λ o. option_or o (get (group_at groups h).pending k)) (held_for h k)
          ∙ ⊎_elim
          (λ (e : group k.node ≡ h).
          ap (λ b. option_or (cond b (get (group_at groups (group (maker k))).held k) None) (get (group_at groups h).pending k)) (eq-eqb _ _ e)
          ∙ ap (λ j. option_or (get (group_at groups (group (maker k))).held k) (get (group_at groups j).pending k)) (sym e)
          ∙ sym (m.pending k)
          ∙ ap (λ b. cond b (get s.pending k) None) (sym (eq-eqb _ _ e)))
          (λ (e : group k.node ≢ h).
          ap (λ b. option_or (cond b (get (group_at groups (group (maker k))).held k) None) (get (group_at groups h).pending k)) (ne_eqb _ _ e)
          ∙ not_there _ (λ v is. e (m.own h k v is))
          ∙ ap (λ b. cond b (get s.pending k) None) (sym (ne_eqb _ _ e)))
          (cases_eq (group k.node) h)

      pending_at : (h : ℕ) (k : Key) → get (group_at (groups_delivered group groups) h).pending k ≡ cond (group k.node == h) (get s.pending k) None
      pending_at h k =
          ⊎_elim
          (λ (l : h < length groups). ap (λ (g : GroupState). get g.pending k) (delivered_at group groups h l) ∙ there h k)
          (λ (over : length groups ≤ h).
          ap (λ (g : GroupState). get g.pending k) (past group groups h over)
          ∙ get-empty key_cmp k
          ∙ ap (λ b. cond b (get s.pending k) None) (sym (ne_eqb (group k.node) h (λ e. let f = m.few k.node in absurd (omega (arith, e, f, over))))))
          (cases_lt h (length groups))

-- THE WINDOW'S END

-- the first moment, where there is one, is at most the other
abbrev pub IsBy : Option ℕ → ℕ → Type 0
IsBy None time = ⊥
IsBy (Some first) time = first ≤ time

pub by_first : (a b : Option ℕ) (time : ℕ) → IsBy a time → IsBy (lesser a b) time
by_first None b time h = absurd h
by_first (Some a) None time h = h
by_first (Some a) (Some b) time h = omega (arith, h)

pub by_second : (a b : Option ℕ) (time : ℕ) → IsBy b time → IsBy (lesser a b) time
by_second None b time h = h
by_second (Some a) None time h = absurd h
by_second (Some a) (Some b) time h = omega (arith, h)

first_in : (es : List (Key × Event)) (q : Key) → T (is_sorted key_cmp es) → find key_cmp q es ≢ None → IsBy (option_map (λ (k : Key). k.time) (option_map (λ (entry : Key × Event). entry.0) (slice_get es 0))) q.time
first_in [] q h some = absurd (some refl)
first_in (x ∷ xs) q h some =
    ⊎_elim
    (λ (e : q ≡ x.0). let t : q.time ≡ x.0.time = ap (λ (z : Key). z.time) e in omega (arith, t))
    (λ l. key_time x.0 q l)
    (at_or_after x xs q h some)

first_by : (g : GroupState) (q : Key) (v : Event) → get g.pending q ≡ Some v → IsBy (first_time g) q.time
first_by g q v e = first_in (entries g.pending) q (entries_sorted g.pending) (some_not _ v (sym (get-entries g.pending q) ∙ e))

soonest_by : (groups : List GroupState) (h : ℕ) (q : Key) (v : Event) → h < length groups → get (group_at groups h).pending q ≡ Some v → IsBy (soonest groups) q.time
soonest_by [] h q v l e = absurd (omega (arith, l))
soonest_by (g ∷ groups) zero q v l e = by_first _ _ q.time (first_by g q v e)
soonest_by (g ∷ groups) (suc h) q v l e = by_second (first_time g) _ q.time (soonest_by groups h q v (omega (arith, l)) e)

end_within : (first ahead : Option ℕ) (end time : ℕ) → IsBy first time → IsWithin ahead (at_most (sum_of first ahead) end) time
end_within None ahead end time h = absurd h
end_within (Some a) None end time h = tt
end_within (Some a) (Some l) end time h = omega (arith, h)

at_most_le : (o : Option ℕ) (end : ℕ) → at_most o end ≤ end
at_most_le None end = omega arith
at_most_le (Some a) end = omega arith

pub end_le : (x : Setting) (groups : List GroupState) → window_end x groups ≤ x.end
end_le x groups = at_most_le (sum_of (soonest groups) x.ahead) x.end

module _ (group : ℕ → ℕ) (s : State) (groups : List GroupState) (st : Stands group s groups) where
  pub there : (k : Key) → get s.pending k ≡ get (group_at groups (group k.node)).pending k
  there k = sym (st.pending (group k.node) k ∙ ap (λ b. cond b (get s.pending k) None) (eq-eqb _ _ refl))

  -- all that is pending is within the lookahead of the window's end
  pub end_soon : (x : Setting) → EachEvent (λ k v. IsWithin x.ahead (window_end x groups) k.time) s.pending
  end_soon x k v e = end_within (soonest groups) x.ahead x.end k.time (soonest_by groups (group k.node) k v (st.few k.node) (sym (there k) ∙ e))

  -- each group has events at its own nodes
  pub at_own : (h : ℕ) (k : Key) (v : Event) → get (group_at groups h).pending k ≡ Some v → group k.node ≡ h
  at_own h k v e =
      ⊎_elim
      (λ (same : group k.node ≡ h). same)
      (λ (off : group k.node ≢ h). absurd (some_not _ v e (st.pending h k ∙ ap (λ b. cond b (get s.pending k) None) (ne_eqb _ _ off))))
      (cases_eq (group k.node) h)

  -- where a window opens, state and groups match, the lines counted from there
  pub matches_from : (maker : Key → ℕ) (ahead : Option ℕ) (until : ℕ) → EachEvent (λ k v. IsWithin ahead until k.time) s.pending → Matches group maker ahead until s [] groups
  matches_from maker ahead until soon = record {
    few = st.few;
    sizes = st.sizes;
    parts = st.parts;
    pending = λ k. there k ∙ sym (ap (λ o. option_or o (get (group_at groups (group k.node)).pending k)) (ap (λ (x : Events). get x k) (st.held (group (maker k))) ∙ get-empty key_cmp k));
    own = λ h k v e. at_own h k v e;
    held = λ h. subst (EachKey (IsHeld group maker until h)) (sym (st.held h)) (each_empty (IsHeld group maker until h));
    soon = soon;
    lines_are = st.lines;
  }
