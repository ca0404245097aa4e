-- A merge by the least of the next lines: what is left of the lists, and what one line less leaves in order.
use Rattle.std.proofs.Common.{◌≡◌, ◌≢◌, ◌<◌, ◌+◌, ℕ, zero, suc, List, [], ◌∷◌, ◌++◌, length, map, set, get_or, take, drop, replicate, true, false, cond, T, Option, Some, None, Less, Equal, Greater, refl, sym, ap, subst, ◌∙◌, arith, append_assoc, length-append, drop-cons}
use Rattle.std.proofs.lemmas.List.{map-append, map-set, take_more}
use Rattle.std.proofs.Math.ListN.{get_or-map}
use Rattle.std.specs.List.{AllByRecursion, slice_get}
use Rattle.std.specs.Option.{option_map}
use Rattle.std.specs.declared.cmp.Ordering.{Ordering}
use Rattle.std.specs.FinMap.{find, is_sorted}
use Rattle.std.specs.FinMap.Entries.{below_all}
use Rattle.sim_time.specs.declared.key.Key.{Key}
use Rattle.sim_time.specs.Keys.{key_cmp}
use Rattle.sim_time.proofs.Order.{keys_total, exact_keys}
use Rattle.tournament.specs.Leading.{rank_at, Leads}
use Rattle.tournament.proofs.Maps.{both_of, is_less, same_some, not_some}
use Rattle.node_core.specs.TraceLine.{TraceLine, blank}
use Rattle.table_run.proofs.Lists.{all_append, all_map}
use Rattle.window_law.specs.Windows.{keyed, in_order}
use Rattle.line_merge.specs.Merged.{line_in, lines_of, all_of, first_key, HasKey, AreApart, rests}
use Rattle.window_law.proofs.Changes.{same, same_itself}
use Rattle.window_law.proofs.InOrder.{merge_step, in_order_already}

pub length_rests : (lists : List (List TraceLine)) (nexts : List ℕ) → length (rests lists nexts) ≡ length lists
length_rests [] nexts = refl
length_rests (lines ∷ lists) [] = ap suc (length_rests lists [])
length_rests (lines ∷ lists) (next ∷ nexts) = ap suc (length_rests lists nexts)

nothing : (n : ℕ) → drop {A = TraceLine} n [] ≡ []
nothing zero = refl
nothing (suc n) = refl

pub rest_at : (lists : List (List TraceLine)) (nexts : List ℕ) (i : ℕ) → length nexts ≡ length lists → lines_of (rests lists nexts) i ≡ drop (get_or nexts i 0) (lines_of lists i)
rest_at [] nexts i size = sym (nothing (get_or nexts i 0))
rest_at (lines ∷ lists) [] i size = absurd (omega (arith, size))
rest_at (lines ∷ lists) (next ∷ nexts) zero size = refl
rest_at (lines ∷ lists) (next ∷ nexts) (suc i) size = rest_at lists nexts i (omega (arith, size))

pub rest_set : (lists : List (List TraceLine)) (nexts : List ℕ) (i n : ℕ) → length nexts ≡ length lists → rests lists (set nexts i n) ≡ set (rests lists nexts) i (drop n (lines_of lists i))
rest_set [] nexts i n size = refl
rest_set (lines ∷ lists) [] i n size = absurd (omega (arith, size))
rest_set (lines ∷ lists) (next ∷ nexts) zero n size = refl
rest_set (lines ∷ lists) (next ∷ nexts) (suc i) n size = ap (λ rest. drop next lines ∷ rest) (rest_set lists nexts i n (omega (arith, size)))

pub rests_none : (lists : List (List TraceLine)) → rests lists (replicate (length lists) 0) ≡ lists
rests_none [] = refl
rests_none (lines ∷ lists) = ap (λ rest. lines ∷ rest) (rests_none lists)

-- FEWER LINES

sorted_drop : (n : ℕ) (lines : List TraceLine) → T (is_sorted key_cmp (map keyed lines)) → T (is_sorted key_cmp (map keyed (drop n lines)))
sorted_drop zero lines h = h
sorted_drop (suc n) [] h = tt
sorted_drop (suc n) (l ∷ lines) h = sorted_drop n lines (both_of _ _ h).1

has_more : (l : TraceLine) (lines : List TraceLine) (k : Key) → HasKey lines k → HasKey (l ∷ lines) k
has_more l lines k has = elim (same k l.key) as (λ b. cond b (Some l) (find key_cmp k (map keyed lines)) ≡ None → ⊥) [ true ↦ λ e. not_some (sym e) | false ↦ has ]

has_drop : (n : ℕ) (lines : List TraceLine) (k : Key) → HasKey (drop n lines) k → HasKey lines k
has_drop zero lines k has = has
has_drop (suc n) [] k has = has
has_drop (suc n) (l ∷ lines) k has = has_more l lines k (has_drop n lines k has)

pub apart_rests : (lists : List (List TraceLine)) (nexts : List ℕ) → length nexts ≡ length lists → AreApart lists → AreApart (rests lists nexts)
apart_rests lists nexts size are = record {
  rising = λ i. subst (λ lines. T (is_sorted key_cmp (map keyed lines))) (sym (rest_at lists nexts i size)) (sorted_drop (get_or nexts i 0) (lines_of lists i) (are.rising i));
  apart = λ i j key a b. are.apart i j key (there i key a) (there j key b);
}
  where
    there : (i : ℕ) (key : Key) → HasKey (lines_of (rests lists nexts) i) key → HasKey (lines_of lists i) key
    there i key has = has_drop (get_or nexts i 0) (lines_of lists i) key (subst (λ lines. HasKey lines key) (rest_at lists nexts i size) has)

-- LATER LINES

abbrev pub AllAfter : Key → List TraceLine → Type 0
AllAfter key lines = AllByRecursion (λ (m : TraceLine). key_cmp key m.key ≡ Less) lines

pub below_all_after : (key : Key) (lines : List TraceLine) → T (below_all key_cmp key (map keyed lines)) → AllAfter key lines
below_all_after key [] h = tt
below_all_after key (l ∷ lines) h = (is_less (key_cmp key l.key) (both_of _ _ h).0, below_all_after key lines (both_of _ _ h).1)

all_after : (key : Key) (lines : List TraceLine) → ((k : Key) → first_key lines ≡ Some k → key_cmp key k ≡ Less) → T (is_sorted key_cmp (map keyed lines)) → AllAfter key lines
all_after key [] first h = tt
all_after key (l ∷ lines) first h =
    (first l.key refl, all_map (λ (m : TraceLine). key_cmp l.key m.key ≡ Less) (λ (m : TraceLine). key_cmp key m.key ≡ Less) (λ m less. keys_total.trans key l.key m.key (first l.key refl) less) lines (below_all_after l.key lines (both_of _ _ h).0))

less_of : (a b : Key) → key_cmp a b ≢ Greater → a ≢ b → key_cmp a b ≡ Less
less_of a b not_greater off = cases (key_cmp a b) refl
  where
    cases : (r : Ordering) → key_cmp a b ≡ r → r ≡ Less
    cases Less e = refl
    cases Equal e = absurd (off (exact_keys a b e))
    cases Greater e = absurd (not_greater e)

-- ONE LINE LESS

-- a line between others, all later
record Parted (lists left : List (List TraceLine)) (l : TraceLine) : Type 0 where
  before : List TraceLine
  behind : List TraceLine
  was : all_of lists ≡ before ++ l ∷ behind
  is : all_of left ≡ before ++ behind
  all_before : AllAfter l.key before
  all_behind : AllAfter l.key behind

parted : (lists : List (List TraceLine)) (i : ℕ) (l : TraceLine) (more : List TraceLine) → lines_of lists i ≡ l ∷ more → AllAfter l.key more → ((j : ℕ) → j ≢ i → AllAfter l.key (lines_of lists j)) → Parted lists (set lists i more) l
parted [] i l more e after others = absurd (cc)
parted (lines ∷ lists) zero l more e after others = record {
  before = [];
  behind = more ++ all_of lists;
  was = ap (λ ls. ls ++ all_of lists) e;
  is = refl;
  all_before = tt;
  all_behind = all_append _ more (all_of lists) after (all_others lists (λ j. others (suc j) (λ z. absurd (omega (arith, z)))));
}
  where
    all_others : (lists : List (List TraceLine)) → ((j : ℕ) → AllAfter l.key (lines_of lists j)) → AllAfter l.key (all_of lists)
    all_others [] each = tt
    all_others (ls ∷ lists) each = all_append _ ls (all_of lists) (each 0) (all_others lists (λ j. each (suc j)))
parted (lines ∷ lists) (suc i) l more e after others =
    let p = parted lists i l more e after (λ j off. others (suc j) (λ z. off (omega (arith, z)))) in
    record {
      before = lines ++ p.before;
      behind = p.behind;
      was = ap (λ ls. lines ++ ls) p.was ∙ sym (append_assoc lines p.before (l ∷ p.behind));
      is = ap (λ ls. lines ++ ls) p.is ∙ sym (append_assoc lines p.before p.behind);
      all_before = all_append _ lines p.before (others 0 (λ z. absurd (omega (arith, z)))) p.all_before;
      all_behind = p.all_behind;
    }

-- a line goes first, and one is less
pub record GoesFirst (lists left : List (List TraceLine)) (l : TraceLine) : Type 0 where
  pub order : in_order (all_of lists) ≡ l ∷ in_order (all_of left)
  pub fewer : length (all_of lists) ≡ suc (length (all_of left))

first_of : (lines : List TraceLine) (key : Key) → first_key lines ≡ Some key → (l : TraceLine) × (more : List TraceLine) × (lines ≡ l ∷ more) × (l.key ≡ key)
first_of [] key e = absurd (not_some e)
first_of (l ∷ more) key e = (l, more, refl, same_some l.key key e)

rank_is : (lists : List (List TraceLine)) (i : ℕ) → rank_at (map first_key lists) i ≡ first_key (lines_of lists i)
rank_is lists i = get_or-map first_key lists i []

has_first : (lines : List TraceLine) (key : Key) → first_key lines ≡ Some key → HasKey lines key
has_first [] key e = absurd (not_some e)
has_first (l ∷ more) key e =
    subst (λ k. HasKey (l ∷ more) k) (same_some l.key key e)
    (λ none. not_some (sym none ∙ ap (λ b. cond b (Some l) (find key_cmp l.key (map keyed more))) (same_itself l.key)))

-- the line of the least next key
pub leads_first : (lists : List (List TraceLine)) (i : ℕ) (key : Key) (l : TraceLine) (more : List TraceLine) → AreApart lists → Leads (map first_key lists) i key → lines_of lists i ≡ l ∷ more → GoesFirst lists (set lists i more) l
leads_first lists i key l more are leads e =
    let held : first_key (lines_of lists i) ≡ Some key = sym (rank_is lists i) ∙ leads.held in
    let named : l.key ≡ key = same_some l.key key (ap first_key (sym e) ∙ held) in
    let sorted = subst (λ lines. T (is_sorted key_cmp (map keyed lines))) e (are.rising i) in
    let after : AllAfter l.key more = below_all_after l.key more (both_of _ _ sorted).0 in
    let p = parted lists i l more e after (λ j off. all_after l.key (lines_of lists j)
    (λ k first. subst (λ (z : Key). key_cmp z k ≡ Less) (sym named) (less_of key k (leads.none_less j k (rank_is lists j ∙ first))
    (λ z. off (are.apart j i key (has_first (lines_of lists j) key (first ∙ ap Some (sym z))) (has_first (lines_of lists i) key held)))))
    (are.rising j)) in
    record {
      order = ap in_order p.was ∙ merge_step p.before l p.behind p.all_before p.all_behind ∙ ap (λ ls. l ∷ in_order ls) (sym p.is);
      fewer = ap length p.was ∙ length-append p.before (l ∷ p.behind) ∙ count (length p.before) (length p.behind) ∙ ap suc (sym (length-append p.before p.behind) ∙ ap length (sym p.is));
    }
  where
    count : (a b : ℕ) → a + suc b ≡ suc (a + b)
    count a b = omega arith

-- no next line: none is left
pub none_left : (lists : List (List TraceLine)) → ((i : ℕ) → rank_at (map first_key lists) i ≡ None) → all_of lists ≡ []
none_left [] none = refl
none_left ([] ∷ lists) none = none_left lists (λ i. none (suc i))
none_left ((l ∷ lines) ∷ lists) none = absurd (not_some (sym (none 0)))

pub nothing_in_order : in_order [] ≡ []
nothing_in_order = in_order_already [] tt

-- THE NEXT LINE OF A LIST

-- the lists, and the index of each one's next line
pub record IsTaken (lists : List (List TraceLine)) (nexts : List ℕ) (list : ℕ) : Type 0 where
  pub within : list < length lists
  pub inside : get_or nexts list 0 < length (lines_of lists list)
  pub order : in_order (all_of (rests lists nexts)) ≡ line_in (lines_of lists list) (get_or nexts list 0) ∷ in_order (all_of (rests lists (set nexts list (get_or nexts list 0 + 1))))
  pub fewer : length (all_of (rests lists nexts)) ≡ length (all_of (rests lists (set nexts list (get_or nexts list 0 + 1)))) + 1
  pub ranked : set (map first_key (rests lists nexts)) list (option_map (λ (line : TraceLine). line.key) (slice_get (lines_of lists list) (get_or nexts list 0 + 1))) ≡ map first_key (rests lists (set nexts list (get_or nexts list 0 + 1)))

pub first_drop : (n : ℕ) (lines : List TraceLine) → slice_get (drop n lines) 0 ≡ slice_get lines n
first_drop zero lines = refl
first_drop (suc n) [] = refl
first_drop (suc n) (l ∷ lines) = first_drop n lines

drop_next : (n : ℕ) (lines : List TraceLine) → n < length lines → drop n lines ≡ line_in lines n ∷ drop (n + 1) lines
drop_next n lines under = drop-cons lines n blank under ∙ ap (λ m. line_in lines n ∷ drop m lines) {x = suc n} {y = n + 1} (omega arith)

pub taken_next : (lists : List (List TraceLine)) (nexts : List ℕ) (list : ℕ) (key : Key) → length nexts ≡ length lists → AreApart lists → Leads (map first_key (rests lists nexts)) list key → IsTaken lists nexts list
taken_next lists nexts list key size are leads =
    let next = get_or nexts list 0 in
    let lines = lines_of lists list in
    let held : first_key (drop next lines) ≡ Some key = ap first_key (sym (rest_at lists nexts list size)) ∙ sym (rank_is (rests lists nexts) list) ∙ leads.held in
    let under : next < length lines = is_inside next lines key held in
    let is : lines_of (rests lists nexts) list ≡ line_in lines next ∷ drop (next + 1) lines = rest_at lists nexts list size ∙ drop_next next lines under in
    let left : rests lists (set nexts list (next + 1)) ≡ set (rests lists nexts) list (drop (next + 1) lines) = rest_set lists nexts list (next + 1) size in
    let goes = leads_first (rests lists nexts) list key (line_in lines next) (drop (next + 1) lines) (apart_rests lists nexts size are) leads is in
    let count : length (all_of (rests lists nexts)) ≡ suc (length (all_of (rests lists (set nexts list (next + 1))))) = goes.fewer ∙ ap (λ ls. suc (length (all_of ls))) (sym left) in
    record {
      within = is_within lists list under;
      inside = under;
      order = goes.order ∙ ap (λ ls. line_in lines next ∷ in_order (all_of ls)) (sym left);
      fewer = omega (arith, count);
      ranked = ap (set (map first_key (rests lists nexts)) list) (ap (option_map (λ (line : TraceLine). line.key)) (sym (first_drop (next + 1) lines))) ∙ sym (map-set first_key (rests lists nexts) list (drop (next + 1) lines)) ∙ ap (map first_key) (sym left);
    }
  where
    is_inside : (n : ℕ) (lines : List TraceLine) (k : Key) → first_key (drop n lines) ≡ Some k → n < length lines
    is_inside n [] k e = absurd (not_some (sym (ap first_key (nothing n)) ∙ e))
    is_inside zero (l ∷ lines) k e = omega arith
    is_inside (suc n) (l ∷ lines) k e = let under = is_inside n lines k e in omega (arith, under)

    is_within : (lists : List (List TraceLine)) (i : ℕ) → get_or nexts list 0 < length (lines_of lists i) → i < length lists
    is_within [] i under = absurd (omega (arith, under))
    is_within (ls ∷ lists) zero under = omega arith
    is_within (ls ∷ lists) (suc i) under = let more = is_within lists i under in omega (arith, more)

-- the same of a tournament of the next keys
pub taken_by : (lists : List (List TraceLine)) (nexts : List ℕ) (ranks : List (Option Key)) (list : ℕ) (key : Key) → ranks ≡ map first_key (rests lists nexts) → length nexts ≡ length lists → AreApart lists → Leads ranks list key → IsTaken lists nexts list
taken_by lists nexts ranks list key ranked size are leads = taken_next lists nexts list key size are (subst (λ (r : List (Option Key)). Leads r list key) ranked leads)

pub next_within : (lists : List (List TraceLine)) (nexts : List ℕ) (ranks : List (Option Key)) (list : ℕ) (key : Key) → ranks ≡ map first_key (rests lists nexts) → length nexts ≡ length lists → AreApart lists → Leads ranks list key → list < length nexts
next_within lists nexts ranks list key ranked size are leads = let under = (taken_by lists nexts ranks list key ranked size are leads).within in omega (arith, under, size)

-- the keys of the next lines, one list after another
pub ranked_more : (lists : List (List TraceLine)) (nexts : List ℕ) (old now : List (Option Key)) (i : ℕ) (rank : Option Key) → length nexts ≡ length lists → i < length lists
    → take i old ≡ map first_key (take i (rests lists nexts)) → take (i + 1) now ≡ take i old ++ rank ∷ [] → rank ≡ option_map (λ (line : TraceLine). line.key) (slice_get (lines_of lists i) (get_or nexts i 0))
    → take (i + 1) now ≡ map first_key (take (i + 1) (rests lists nexts))
ranked_more lists nexts old now i rank size under are more is =
    let here : rank ≡ first_key (lines_of (rests lists nexts) i) = is ∙ ap (option_map (λ (line : TraceLine). line.key)) (sym (first_drop (get_or nexts i 0) (lines_of lists i))) ∙ ap first_key (sym (rest_at lists nexts i size)) in
    more
    ∙ (λ j. are j ++ here j ∷ [])
    ∙ sym (map-append first_key (take i (rests lists nexts)) (lines_of (rests lists nexts) i ∷ []))
    ∙ ap (map first_key) (sym (take_more (rests lists nexts) i [] (let all = length_rests lists nexts in omega (arith, all, under))))
