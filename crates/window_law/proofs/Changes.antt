-- What a list of changes does at one key.
use Rattle.std.proofs.Common.{◌≡◌, ◌≢◌, ⊎_elim, List, [], ◌∷◌, filter, Bool, true, false, cond, T, Option, Some, None, refl, sym, ap, subst, ◌∙◌, true≢false}
use Rattle.std.specs.Ordering.{eq_by_cmp, is_eq}
use Rattle.std.specs.declared.cmp.Ordering.TheVariants.{Less}
use Rattle.std.specs.FinMap.{get, remove, entries, entries_sorted, get-entries, find, is_sorted}
use Rattle.std.specs.FinMap.Entries.{below_all}
use Rattle.std.specs.List.{AllByRecursion}
use Rattle.std.specs.Option.{option_or}
use Rattle.sim_time.specs.declared.key.Key.{Key}
use Rattle.sim_time.specs.Keys.{key_cmp}
use Rattle.sim_time.proofs.Order.{exact_keys}
use Rattle.node_core.specs.declared.event.Event.{Event}
use Rattle.tournament.specs.Keyed.{apply, changed, entering}
use Rattle.node_core.specs.Pending.{Events, EventChange}
use Rattle.tournament.proofs.Maps.{not_some, is_equal, is_less, both_of, get-changed, tied}
use Rattle.table_run.specs.Sound.{EachEvent}
use Rattle.table_run.proofs.Changes.{of_changed}

abbrev pub same : Key → Key → Bool
same a b = eq_by_cmp key_cmp a b

-- what is at the key k after the changes, where x was
abbrev pub over : List EventChange → Key → Option Event → Option Event
over [] k x = x
over (c ∷ cs) k x = over cs k (cond (same k c.0) c.1 x)

pub get-apply : (cs : List EventChange) (m : Events) (k : Key) → get (apply cs m) k ≡ over cs k (get m k)
get-apply [] m k = refl
get-apply (c ∷ cs) m k = get-apply cs (changed m c.0 c.1) k ∙ ap (over cs k) (get-changed m c.0 c.1 k)

-- changes that put events in, where a map before others has the key
pub over-or : (cs : List EventChange) (k : Key) (a b : Option Event) → AllByRecursion (λ (c : EventChange). same k c.0 ≡ true → c.1 ≢ None) cs → over cs k (option_or a b) ≡ option_or (over cs k a) b
over-or [] k a b all = refl
over-or (c ∷ cs) k a b all =
    elim (same k c.0) as (λ t. same k c.0 ≡ t → over cs k (cond t c.1 (option_or a b)) ≡ option_or (over cs k (cond t c.1 a)) b) [
      | true ↦ λ t. ap (over cs k) (first_of c.1 (all.0 t)) ∙ over-or cs k c.1 b all.1
      | false ↦ λ t. over-or cs k a b all.1
    ] refl
  where
    first_of : (o : Option Event) → o ≢ None → o ≡ option_or o b
    first_of None off = absurd (off refl)
    first_of (Some v) off = refl

pub same_is : (a b : Key) → same a b ≡ true → a ≡ b
same_is a b e = exact_keys a b (is_equal (key_cmp a b) e)

pub same_itself : (a : Key) → same a a ≡ true
same_itself a = tied a

-- keys that a test tells apart
pub apart : (p : Key → Bool) (a b : Key) → p a ≡ true → p b ≡ false → same a b ≡ false
apart p a b pa pb =
    elim (same a b) as (λ t. same a b ≡ t → t ≡ false) [
      | true ↦ λ t. absurd (true≢false (sym pa ∙ ap p (same_is a b t) ∙ pb))
      | false ↦ λ t. refl
    ] refl

pub over-keep : (p : Key → Bool) (cs : List EventChange) (k : Key) (x : Option Event) → p k ≡ true → over (filter (λ (c : EventChange). p c.0) cs) k x ≡ over cs k x
over-keep p [] k x e = refl
over-keep p (c ∷ cs) k x e =
    elim (p c.0) as (λ b. p c.0 ≡ b → over (cond b (c ∷ filter (λ (c : EventChange). p c.0) cs) (filter (λ (c : EventChange). p c.0) cs)) k x ≡ over (c ∷ cs) k x) [
      | true ↦ λ h. over-keep p cs k (cond (same k c.0) c.1 x) e
      | false ↦ λ h. over-keep p cs k x e ∙ ap (λ b. over cs k (cond b c.1 x)) (sym (apart p k c.0 e h))
    ] refl

-- changes at other keys
pub over-absent : (Q : Key → Type 0) (cs : List EventChange) (k : Key) (x : Option Event) → AllByRecursion (λ (c : EventChange). Q c.0) cs → (Q k → ⊥) → over cs k x ≡ x
over-absent Q [] k x all off = refl
over-absent Q (c ∷ cs) k x all off =
    elim (same k c.0) as (λ b. same k c.0 ≡ b → over cs k (cond b c.1 x) ≡ x) [
      | true ↦ λ h. absurd (off (subst Q (sym (same_is k c.0 h)) all.0))
      | false ↦ λ h. over-absent Q cs k x all.1 off
    ] refl

pub all_filter : {A : Type 0} (P : A → Type 0) (p : A → Bool) (cs : List A) → AllByRecursion P cs → AllByRecursion (λ c. P c × (p c ≡ true)) (filter p cs)
all_filter P p [] all = tt
all_filter P p (c ∷ cs) all =
    elim (p c) as (λ b. p c ≡ b → AllByRecursion (λ c. P c × (p c ≡ true)) (cond b (c ∷ filter p cs) (filter p cs))) [
      | true ↦ λ h. ((all.0, h), all_filter P p cs all.1)
      | false ↦ λ h. all_filter P p cs all.1
    ] refl

pub all_passed : {A : Type 0} (p : A → Bool) (cs : List A) → AllByRecursion (λ c. p c ≡ true) (filter p cs)
all_passed p [] = tt
all_passed p (c ∷ cs) =
    elim (p c) as (λ b. p c ≡ b → AllByRecursion (λ c. p c ≡ true) (cond b (c ∷ filter p cs) (filter p cs))) [
      | true ↦ λ h. (h, all_passed p cs)
      | false ↦ λ h. all_passed p cs
    ] refl

pub all_both : {A : Type 0} (P Q : A → Type 0) (cs : List A) → AllByRecursion P cs → AllByRecursion Q cs → AllByRecursion (λ c. P c × Q c) cs
all_both P Q [] a b = tt
all_both P Q (c ∷ cs) a b = ((a.0, b.0), all_both P Q cs a.1 b.1)

-- what is left once an event is taken out was there, under another key
pub each_left : (P Q : Key → Event → Type 0) (m : Events) (k : Key) → ((q : Key) (u : Event) → P q u → q ≢ k → Q q u) → EachEvent P m → EachEvent Q (remove m k)
each_left P Q m k from all q u e = ⊎_elim (λ (h : (q ≡ k) × (None ≡ Some u)). absurd (not_some h.1)) (λ (h : (q ≢ k) × (get m q ≡ Some u)). from q u (all q u h.1) h.0) (of_changed m k None q u e)

-- a key that stands before all of a rising list is not in it
not_below : (x k : Key) (es : List (Key × Event)) → T (below_all key_cmp x es) → same k x ≡ true → find key_cmp k es ≡ None
not_below x k [] h t = refl
not_below x k (e ∷ es) h t =
    elim (same k e.0) as (λ b. same k e.0 ≡ b → cond b (Some e.1) (find key_cmp k es) ≡ None) [
      | true ↦ λ u. absurd (irreflexive x (ap (key_cmp x) (sym (sym (same_is k e.0 u) ∙ same_is k x t)) ∙ is_less _ (both_of _ _ h).0))
      | false ↦ λ u. not_below x k es (both_of _ _ h).1 t
    ] refl
  where
    irreflexive : (a : Key) → key_cmp a a ≡ Less → ⊥
    irreflexive a l = true≢false (sym (same_itself a) ∙ ap is_eq l)

over-entering : (es : List (Key × Event)) (k : Key) (x : Option Event) → T (is_sorted key_cmp es) → over (entering es) k x ≡ option_or (find key_cmp k es) x
over-entering [] k x h = refl
over-entering (e ∷ es) k x h =
    over-entering es k (cond (same k e.0) (Some e.1) x) (both_of _ _ h).1
    ∙ elim (same k e.0) as (λ b. same k e.0 ≡ b → option_or (find key_cmp k es) (cond b (Some e.1) x) ≡ option_or (cond b (Some e.1) (find key_cmp k es)) x) [
      | true ↦ λ t. ap (λ o. option_or o (Some e.1)) (not_below e.0 k es (both_of _ _ h).0 t)
      | false ↦ λ t. refl
    ] refl

-- a map that enters another goes before it
pub get-entering : (m n : Events) (k : Key) → get (apply (entering (entries m)) n) k ≡ option_or (get m k) (get n k)
get-entering m n k = get-apply (entering (entries m)) n k ∙ over-entering (entries m) k (get n k) (entries_sorted m) ∙ ap (λ o. option_or o (get n k)) (sym (get-entries m k))
