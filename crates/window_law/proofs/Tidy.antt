-- The lines of a run rise strictly by key, and come before what is pending.
use Rattle.std.proofs.Common.{◌≡◌, ◌≢◌, ℕ, zero, suc, List, [], ◌∷◌, ◌++◌, map, T, Option, Some, None, refl, sym, ap, subst, Ordering, Less, Equal, Greater, ◌∙◌, append_assoc, append-nil}
use Rattle.std.specs.Ordering.{is_lt, ordering_reverse}
use Rattle.std.specs.Option.{IfSome}
use Rattle.std.specs.FinMap.{get, remove, is_sorted}
use Rattle.std.specs.FinMap.Entries.{below_all}
use Rattle.std.specs.List.{AllByRecursion}
use Rattle.sim_time.specs.declared.key.Key.{Key}
use Rattle.sim_time.specs.Keys.{key_cmp}
use Rattle.sim_time.proofs.Order.{keys_total, exact_keys}
use Rattle.node_core.specs.declared.event.Event.{Event}
use Rattle.node_core.specs.Pending.{EventChange}
use Rattle.table_run.specs.Sound.{EachEvent}
use Rattle.table_run.specs.State.{State, due, effect_of, stepped, line_of, step, run}
use Rattle.node_core.specs.TraceLine.{TraceLine}
use Rattle.tournament.proofs.Maps.{same_some, both, both_of}
use Rattle.table_run.specs.Laws.{made_by}
use Rattle.table_run.proofs.Initial.{each_applied}
use Rattle.table_run.proofs.Lists.{all_append, all_map}
use Rattle.window_law.specs.Windows.{keyed}
use Rattle.window_law.proofs.Premises.{FairStep}
use Rattle.window_law.proofs.Changes.{each_left}
use Rattle.window_law.proofs.Due.{IsFirst, due_is, some_not}
use Rattle.table_run.proofs.Runs.{Along, of_step, of_run, along_step, along_here}

pub record Tidy (s : State) (lines : List TraceLine) : Type 0 where
  pub sorted : T (is_sorted key_cmp (map keyed lines))
  pub before : EachEvent (λ q v. AllByRecursion (λ (l : TraceLine). key_cmp l.key q ≡ Less) lines) s.pending

below_push : (x : Key) (ls : List TraceLine) (l : TraceLine) → T (below_all key_cmp x (map keyed ls)) → key_cmp x l.key ≡ Less → T (below_all key_cmp x (map keyed (ls ++ l ∷ [])))
below_push x [] l h e = both _ _ (subst (λ r. T (is_lt r)) (sym e) tt) tt
below_push x (y ∷ ls) l h e = both _ _ (both_of _ _ h).0 (below_push x ls l (both_of _ _ h).1 e)

sorted_push : (ls : List TraceLine) (l : TraceLine) → T (is_sorted key_cmp (map keyed ls)) → AllByRecursion (λ (y : TraceLine). key_cmp y.key l.key ≡ Less) ls → T (is_sorted key_cmp (map keyed (ls ++ l ∷ [])))
sorted_push [] l h a = tt
sorted_push (x ∷ ls) l h a = both _ _ (below_push x.key ls l (both_of _ _ h).0 a.0) (sorted_push ls l (both_of _ _ h).1 a.1)

-- a key that is neither below nor the same is above
above : (k q : Key) (r : Ordering) → key_cmp q k ≡ r → q ≢ k → (key_cmp q k ≡ Less → ⊥) → key_cmp k q ≡ Less
above k q Less e off n = absurd (n e)
above k q Equal e off n = absurd (off (exact_keys q k e))
above k q Greater e off n = keys_total.antisymm k q ∙ ap ordering_reverse e

module _ (group : ℕ → ℕ) (maker : Key → ℕ) (ahead : Option ℕ) where
  keeps : (s : State) (lines : List TraceLine) (k : Key) (v : Event) → due s ≡ Some (k, v) → FairStep group maker ahead s → Tidy s lines → Tidy (stepped s k (effect_of s (k, v))) (lines ++ line_of (k, v) (effect_of s (k, v)) ∷ [])
  keeps s lines k v e fair t =
      let d : IsFirst (get s.pending) s.end k v = due_is s.end s.pending k v e in
      let effect = effect_of s (k, v) in
      let line = line_of (k, v) effect in
      let here = t.before k v d.there in
      record {
        sorted = sorted_push lines line t.sorted here;
        before = each_applied (λ q u. AllByRecursion (λ (l : TraceLine). key_cmp l.key q ≡ Less) (lines ++ line ∷ [])) (made_by s k v) (remove s.pending k)
            (all_map (λ (c : EventChange). IfSome c.1 (λ _. key_cmp k c.0 ≡ Less)) (λ (c : EventChange). IfSome c.1 (λ _. AllByRecursion (λ (l : TraceLine). key_cmp l.key c.0 ≡ Less) (lines ++ line ∷ []))) (λ c h. if_some here c.0 c.1 h) (made_by s k v) (fair k v e).later)
            (each_left (λ q u. key_cmp q k ≡ Less → ⊥) (λ q u. AllByRecursion (λ (l : TraceLine). key_cmp l.key q ≡ Less) (lines ++ line ∷ [])) s.pending k
            (λ q u h other. push here q (above k q (key_cmp q k) refl other h)) (λ q u there. d.least q (some_not _ u there)));
      }
    where
      push : AllByRecursion (λ (l : TraceLine). key_cmp l.key k ≡ Less) lines → (q : Key) → key_cmp k q ≡ Less → AllByRecursion (λ (l : TraceLine). key_cmp l.key q ≡ Less) (lines ++ line_of (k, v) (effect_of s (k, v)) ∷ [])
      push here q kq = all_append _ lines _ (all_map _ _ (λ l lk. keys_total.trans l.key k q lk kq) lines here) (kq, tt)

      if_some : AllByRecursion (λ (l : TraceLine). key_cmp l.key k ≡ Less) lines → (q : Key) (o : Option Event) → IfSome o (λ _. key_cmp k q ≡ Less) → IfSome o (λ _. AllByRecursion (λ (l : TraceLine). key_cmp l.key q ≡ Less) (lines ++ line_of (k, v) (effect_of s (k, v)) ∷ []))
      if_some here q None h = tt
      if_some here q (Some u) h = push here q h

  step_keeps : (s t : State) (lines : List TraceLine) (line : TraceLine) → step s ≡ Some (line, t) → FairStep group maker ahead s → Tidy s lines → Tidy t (lines ++ line ∷ [])
  step_keeps s t lines line e fair tidy =
      of_step s line t e (λ k v is _ _.
      let both_are = same_some (line_of (k, v) (effect_of s (k, v)), stepped s k (effect_of s (k, v))) (line, t) (sym (ap (Rattle.std.specs.Option.option_map {U = TraceLine × State} (Rattle.table_run.specs.State.step_at s)) is) ∙ e) in
      subst (λ (p : TraceLine × State). Tidy p.1 (lines ++ p.0 ∷ [])) both_are (keeps s lines k v is fair tidy))

  pub run_tidy : (n : ℕ) (s t : State) (lines more : List TraceLine) → run s n ≡ Some (more, t) → Along (FairStep group maker ahead) s → Tidy s lines → Tidy t (lines ++ more)
  run_tidy zero s t lines more e fair tidy =
      let both_are = same_some ([], s) (more, t) e in
      subst (λ (p : List TraceLine × State). Tidy p.1 (lines ++ p.0)) both_are (rw append-nil tidy)
  run_tidy (suc n) s t lines more e fair tidy =
      of_run s t n more e (λ line u rest first_is others is.
      subst (Tidy t) (push line rest ∙ ap (λ ls. lines ++ ls) (sym is)) (run_tidy n u t (lines ++ line ∷ []) rest others (along_step (FairStep group maker ahead) s u line first_is fair) (step_keeps s u lines line first_is (along_here (FairStep group maker ahead) s fair) tidy)))
    where
      push : (l : TraceLine) (c : List TraceLine) → (lines ++ l ∷ []) ++ c ≡ lines ++ l ∷ c
      push l c = rw append_assoc refl
