-- A merge may begin at a moment: the lines before it come first in order, and then the others.
use Rattle.std.proofs.Common.{◌≡◌, ◌≤◌, ◌<◌, ◌+◌, ℕ, zero, suc, List, [], ◌∷◌, ◌++◌, length, map, set, get_or, take, drop, true, false, cond, T, Option, Some, None, Less, refl, sym, ap, subst, ◌∙◌, ⊎_elim, arith, length-append}
use Rattle.std.proofs.lemmas.Bool.{cases_lt}
use Rattle.std.proofs.lemmas.List.{length-drop, take-append-drop}
use Rattle.std.proofs.Math.Seq.{drop-append_seam}
use Rattle.std.specs.List.{AllByRecursion}
use Rattle.std.specs.Ordering.{is_lt}
use Rattle.std.specs.FinMap.{find, is_sorted, entries_sorted, from_entries, get-entries, get-from_entries}
use Rattle.std.specs.FinMap.Entries.{below_all}
use Rattle.sim_time.specs.declared.key.Key.{Key}
use Rattle.sim_time.specs.Keys.{key_cmp}
use Rattle.sim_time.proofs.Order.{keys_total, earlier_less}
use Rattle.tournament.proofs.Maps.{both_of}
use Rattle.node_core.specs.TraceLine.{TraceLine}
use Rattle.table_run.proofs.Lists.{all_append}
use Rattle.line_merge.specs.Ahead.{IsAhead}
use Rattle.line_merge.specs.Merged.{line_in, lines_of, all_of, rests, AreApart}
use Rattle.line_merge.specs.Sheaves.{SheafValue, CursorValue, StandsIn, IsCut, IsRising, AreCuts, merged}
use Rattle.window_law.specs.Windows.{keyed, in_order}
use Rattle.window_law.proofs.Changes.{same, same_is}
use Rattle.window_law.proofs.Due.{key_time}
use Rattle.window_law.proofs.InOrder.{all_entries, both, entries_are}
use Rattle.line_merge.proofs.Rests.{apart_rests, below_all_after, length_rests, rest_at, rest_set}
use Rattle.line_merge.proofs.Sheaves.{length_in_order}
use Rattle.window_law.proofs.Turn.{or_else, find_append, or_none, none_or, ordered}

abbrev Before : ℕ → TraceLine → Type 0
Before m l = l.key.time < m

abbrev Behind : ℕ → TraceLine → Type 0
Behind m l = m ≤ l.key.time

-- ONE LIST

all_at : (P : TraceLine → Type 0) (ls : List TraceLine) (i : ℕ) → i < length ls → AllByRecursion P ls → P (line_in ls i)
all_at P [] i under all = absurd (omega (arith, under))
all_at P (l ∷ ls) zero under all = all.0
all_at P (l ∷ ls) (suc i) under all = all_at P ls i (omega (arith, under)) all.1

-- in lines whose keys rise the times don't fall
pub times_rise : (ls : List TraceLine) (i j : ℕ) → IsRising ls → i ≤ j → j < length ls → (line_in ls i).key.time ≤ (line_in ls j).key.time
times_rise [] i j rising upto under = absurd (omega (arith, under))
times_rise (l ∷ ls) zero zero rising upto under = omega arith
times_rise (l ∷ ls) zero (suc j) rising upto under = key_time l.key (line_in ls j).key (all_at (λ (m : TraceLine). key_cmp l.key m.key ≡ Less) ls j (omega (arith, under)) (below_all_after l.key ls (both_of _ _ rising).0))
times_rise (l ∷ ls) (suc i) zero rising upto under = absurd (omega (arith, upto))
times_rise (l ∷ ls) (suc i) (suc j) rising upto under = times_rise ls i j (both_of _ _ rising).1 (omega (arith, upto)) (omega (arith, under))

one_on : (m n : ℕ) (l : TraceLine) (ls : List TraceLine) → IsCut m (suc n) (l ∷ ls) → IsCut m n ls
one_on m n l ls is = record { before = λ i under. is.before (suc i) (omega (arith, under)); behind = λ i upto under. is.behind (suc i) (omega (arith, upto)) (omega (arith, under)) }

none_before : (m : ℕ) (l : TraceLine) (ls : List TraceLine) → IsCut m 0 (l ∷ ls) → IsCut m 0 ls
none_before m l ls is = record { before = λ i under. absurd (omega (arith, under)); behind = λ i upto under. is.behind (suc i) (omega arith) (omega (arith, under)) }

all_before : (m n : ℕ) (ls : List TraceLine) → IsCut m n ls → AllByRecursion (Before m) (take n ls)
all_before m zero ls is = tt
all_before m (suc n) [] is = tt
all_before m (suc n) (l ∷ ls) is = (is.before 0 (omega arith), all_before m n ls (one_on m n l ls is))

all_behind : (m n : ℕ) (ls : List TraceLine) → IsCut m n ls → AllByRecursion (Behind m) (drop n ls)
all_behind m zero [] is = tt
all_behind m zero (l ∷ ls) is = (is.behind 0 (omega arith) (omega arith), all_behind m zero ls (none_before m l ls is))
all_behind m (suc n) [] is = tt
all_behind m (suc n) (l ∷ ls) is = all_behind m n ls (one_on m n l ls is)

-- and the other way
cut_more : (m : ℕ) (l : TraceLine) (n : ℕ) (ls : List TraceLine) → Before m l → IsCut m n ls → IsCut m (suc n) (l ∷ ls)
cut_more m l n ls first more = record { before = before; behind = behind }
  where
    before : (i : ℕ) → i < suc n → (line_in (l ∷ ls) i).key.time < m
    before zero under = first
    before (suc i) under = more.before i (omega (arith, under))

    behind : (i : ℕ) → suc n ≤ i → i < length (l ∷ ls) → m ≤ (line_in (l ∷ ls) i).key.time
    behind zero upto under = absurd (omega (arith, upto))
    behind (suc i) upto under = more.behind i (omega (arith, upto)) (omega (arith, under))

cut_of : (m : ℕ) (xs ys : List TraceLine) → AllByRecursion (Before m) xs → AllByRecursion (Behind m) ys → IsCut m (length xs) (xs ++ ys)
cut_of m [] ys before behind = record { before = λ i under. absurd (omega (arith, under)); behind = λ i upto under. all_at (Behind m) ys i under behind }
cut_of m (a ∷ xs) ys before behind = cut_more m a (length xs) (xs ++ ys) before.0 (cut_of m xs ys before.1 behind)

-- ALL LISTS

-- the first lines of each list
heads : List (List TraceLine) → List ℕ → List TraceLine
heads [] nexts = []
heads (ls ∷ lists) [] = heads lists []
heads (ls ∷ lists) (n ∷ nexts) = take n ls ++ heads lists nexts

-- of each list so many lines are before a moment
abbrev Cuts : ℕ → List (List TraceLine) → List ℕ → Type 0
Cuts m lists nexts = (i : ℕ) → i < length lists → IsCut m (get_or nexts i 0) (lines_of lists i)

heads_before : (m : ℕ) (lists : List (List TraceLine)) (nexts : List ℕ) → length nexts ≡ length lists → Cuts m lists nexts → AllByRecursion (Before m) (heads lists nexts)
unfolding heads
heads_before m [] nexts size cuts = tt
heads_before m (ls ∷ lists) [] size cuts = absurd (omega (arith, size))
heads_before m (ls ∷ lists) (n ∷ nexts) size cuts = all_append (Before m) (take n ls) (heads lists nexts) (all_before m n ls (cuts 0 (omega arith))) (heads_before m lists nexts (omega (arith, size)) (λ i under. cuts (suc i) (omega (arith, under))))

rests_behind : (m : ℕ) (lists : List (List TraceLine)) (nexts : List ℕ) → length nexts ≡ length lists → Cuts m lists nexts → AllByRecursion (Behind m) (all_of (rests lists nexts))
rests_behind m [] nexts size cuts = tt
rests_behind m (ls ∷ lists) [] size cuts = absurd (omega (arith, size))
rests_behind m (ls ∷ lists) (n ∷ nexts) size cuts = all_append (Behind m) (drop n ls) (all_of (rests lists nexts)) (all_behind m n ls (cuts 0 (omega arith))) (rests_behind m lists nexts (omega (arith, size)) (λ i under. cuts (suc i) (omega (arith, under))))

abbrev found : Key → List TraceLine → Option TraceLine
found k ls = find key_cmp k (map keyed ls)

-- lines of which none can have the key
none_found : (P : TraceLine → Type 0) (k : Key) (ls : List TraceLine) → ((l : TraceLine) → P l → l.key ≡ k → ⊥) → AllByRecursion P ls → found k ls ≡ None
none_found P k [] off all = refl
none_found P k (l ∷ ls) off all =
    elim (same k l.key) as (λ b. same k l.key ≡ b → cond b (Some l) (found k ls) ≡ None) [
      | true ↦ λ e. absurd (off l all.0 (sym (same_is k l.key e)))
      | false ↦ λ e. none_found P k ls off all.1
    ] refl

none_early : (m : ℕ) (k : Key) (ls : List TraceLine) → m ≤ k.time → AllByRecursion (Before m) ls → found k ls ≡ None
none_early m k ls late all = none_found (Before m) k ls (λ l before e. (let time : l.key.time ≡ k.time = ap (λ (z : Key). z.time) e in omega (arith, late, before, time))) all

none_late : (m : ℕ) (k : Key) (ls : List TraceLine) → k.time < m → AllByRecursion (Behind m) ls → found k ls ≡ None
none_late m k ls early all = none_found (Behind m) k ls (λ l behind e. (let time : l.key.time ≡ k.time = ap (λ (z : Key). z.time) e in omega (arith, early, behind, time))) all

found_parts : (k : Key) (n : ℕ) (ls : List TraceLine) → found k ls ≡ or_else (found k (take n ls)) (found k (drop n ls))
found_parts k n ls = ap (found k) (sym (take-append-drop n ls)) ∙ find_append (take n ls) (drop n ls) k

-- a line is found among the first ones or among the others
found_early : (m : ℕ) (k : Key) → k.time < m → (lists : List (List TraceLine)) (nexts : List ℕ) → length nexts ≡ length lists → Cuts m lists nexts → found k (all_of lists) ≡ found k (heads lists nexts)
unfolding heads
found_early m k early [] nexts size cuts = refl
found_early m k early (ls ∷ lists) [] size cuts = absurd (omega (arith, size))
found_early m k early (ls ∷ lists) (n ∷ nexts) size cuts =
    let here : found k ls ≡ found k (take n ls) = found_parts k n ls ∙ ap (or_else (found k (take n ls))) (none_late m k (drop n ls) early (all_behind m n ls (cuts 0 (omega arith)))) ∙ or_none _ in
    let more = found_early m k early lists nexts (omega (arith, size)) (λ i under. cuts (suc i) (omega (arith, under))) in
    find_append ls (all_of lists) k ∙ (λ i. or_else (here i) (more i)) ∙ sym (find_append (take n ls) (heads lists nexts) k)

found_late : (m : ℕ) (k : Key) → m ≤ k.time → (lists : List (List TraceLine)) (nexts : List ℕ) → length nexts ≡ length lists → Cuts m lists nexts → found k (all_of lists) ≡ found k (all_of (rests lists nexts))
found_late m k late [] nexts size cuts = refl
found_late m k late (ls ∷ lists) [] size cuts = absurd (omega (arith, size))
found_late m k late (ls ∷ lists) (n ∷ nexts) size cuts =
    let here : found k ls ≡ found k (drop n ls) = found_parts k n ls ∙ none_or _ _ (none_early m k (take n ls) late (all_before m n ls (cuts 0 (omega arith)))) in
    let more = found_late m k late lists nexts (omega (arith, size)) (λ i under. cuts (suc i) (omega (arith, under))) in
    find_append ls (all_of lists) k ∙ (λ i. or_else (here i) (more i)) ∙ sym (find_append (drop n ls) (all_of (rests lists nexts)) k)

-- IN ORDER

all_keyed : (P : TraceLine → Type 0) (ls : List TraceLine) → AllByRecursion P ls → AllByRecursion (λ (e : Key × TraceLine). P e.1) (map keyed ls)
all_keyed P [] all = tt
all_keyed P (l ∷ ls) all = (all.0, all_keyed P ls all.1)

all_values : (P : TraceLine → Type 0) (es : List (Key × TraceLine)) → AllByRecursion (λ (e : Key × TraceLine). P e.1) es → AllByRecursion P (map (λ (e : Key × TraceLine). e.1) es)
all_values P [] all = tt
all_values P (e ∷ es) all = (all.0, all_values P es all.1)

all_in_order : (P : TraceLine → Type 0) (ls : List TraceLine) → AllByRecursion P ls → AllByRecursion P (in_order ls)
all_in_order P ls all = all_values P _ (all_entries (λ (e : Key × TraceLine). P e.1) (map keyed ls) (all_keyed P ls all))

found_in_order : (k : Key) (ls : List TraceLine) → found k (in_order ls) ≡ found k ls
found_in_order k ls = ap (find key_cmp k) (entries_are ls) ∙ sym (get-entries (from_entries {R = key_cmp} (map keyed ls)) k) ∙ get-from_entries keys_total (map keyed ls) k

rising_in_order : (ls : List TraceLine) → IsRising (in_order ls)
rising_in_order ls = subst (λ es. T (is_sorted key_cmp es)) (sym (entries_are ls)) (entries_sorted (from_entries (map keyed ls)))

below_later : (m : ℕ) (k : Key) (ls : List TraceLine) → k.time < m → AllByRecursion (Behind m) ls → T (below_all key_cmp k (map keyed ls))
below_later m k [] early all = tt
below_later m k (l ∷ ls) early all = both _ _ (subst (λ r. T (is_lt r)) (sym (earlier_less k l.key (let behind = all.0 in omega (arith, early, behind)))) tt) (below_later m k ls early all.1)

below_both : (k : Key) (xs ys : List TraceLine) → T (below_all key_cmp k (map keyed xs)) → T (below_all key_cmp k (map keyed ys)) → T (below_all key_cmp k (map keyed (xs ++ ys)))
below_both k [] ys a b = b
below_both k (l ∷ xs) ys a b = both _ _ (both_of _ _ a).0 (below_both k xs ys (both_of _ _ a).1 b)

rising_both : (m : ℕ) (xs ys : List TraceLine) → IsRising xs → IsRising ys → AllByRecursion (Before m) xs → AllByRecursion (Behind m) ys → IsRising (xs ++ ys)
rising_both m [] ys a b before behind = b
rising_both m (l ∷ xs) ys a b before behind =
    both _ _ (below_both l.key xs ys (both_of _ _ a).0 (below_later m l.key ys before.0 behind)) (rising_both m xs ys (both_of _ _ a).1 b before.1 behind)

-- first those before the moment
parted : (m : ℕ) (lists : List (List TraceLine)) (nexts : List ℕ) → length nexts ≡ length lists → Cuts m lists nexts → in_order (all_of lists) ≡ in_order (heads lists nexts) ++ in_order (all_of (rests lists nexts))
parted m lists nexts size cuts =
    let xs = in_order (heads lists nexts) in
    let ys = in_order (all_of (rests lists nexts)) in
    let before = all_in_order (Before m) (heads lists nexts) (heads_before m lists nexts size cuts) in
    let behind = all_in_order (Behind m) (all_of (rests lists nexts)) (rests_behind m lists nexts size cuts) in
    ordered (all_of lists) (xs ++ ys) (rising_both m xs ys (rising_in_order (heads lists nexts)) (rising_in_order (all_of (rests lists nexts))) before behind)
    (λ k. ⊎_elim
    (λ (early : k.time < m). found_early m k early lists nexts size cuts ∙ sym (found_in_order k (heads lists nexts)) ∙ sym (or_none _) ∙ ap (or_else (found k xs)) (sym (none_late m k ys early behind)))
    (λ (late : m ≤ k.time). found_late m k late lists nexts size cuts ∙ sym (found_in_order k (all_of (rests lists nexts))) ∙ sym (none_or _ _ (none_early m k xs late before)))
    (cases_lt k.time m)
    ∙ sym (find_append xs ys k))

-- a cursor that has cut each list stands behind the lines before the moment
pub stands_at_cut : (s : SheafValue) (m : ℕ) (c : CursorValue) → AreApart s.lists → AreCuts m s.lists c.nexts → c.at + length (all_of (rests s.lists c.nexts)) ≡ length (all_of s.lists) → IsAhead s.lists c.nexts c.moments c.ranks
    → StandsIn s c × IsCut m c.at (merged s).lines
stands_at_cut s m c apart are count ahead =
    let xs = in_order (heads s.lists c.nexts) in
    let left = all_of (rests s.lists c.nexts) in
    let ys = in_order left in
    let parts : (merged s).lines ≡ xs ++ ys = parted m s.lists c.nexts are.size are.each_list in
    let whole = length_in_order s.lists apart in
    let rest = length_in_order (rests s.lists c.nexts) (apart_rests s.lists c.nexts are.size apart) in
    let sum = ap length parts ∙ length-append xs ys in
    let at : c.at ≡ length xs = omega (arith, whole, rest, sum, count) in (
      record {
        next = ahead;
        count = count ∙ sym whole;
        left = sym (drop-append_seam xs ys) ∙ (λ i. drop (sym at i) (sym parts i));
      },
      subst (λ n. IsCut m n (merged s).lines) (sym at)
          (subst (IsCut m (length xs)) (sym parts)
          (cut_of m xs ys (all_in_order (Before m) (heads s.lists c.nexts) (heads_before m s.lists c.nexts are.size are.each_list)) (all_in_order (Behind m) left (rests_behind m s.lists c.nexts are.size are.each_list)))),
    )

-- ONE LIST AFTER ANOTHER

length_set : (lists : List (List TraceLine)) (i : ℕ) (ls : List TraceLine) → i < length lists → length (all_of (set lists i ls)) + length (lines_of lists i) ≡ length (all_of lists) + length ls
length_set [] i ls under = absurd (omega (arith, under))
length_set (l ∷ lists) zero ls under = let a = length-append ls (all_of lists) in let b = length-append l (all_of lists) in omega (arith, a, b)
length_set (l ∷ lists) (suc i) ls under =
    let more = length_set lists i ls (omega (arith, under)) in let a = length-append l (all_of (set lists i ls)) in let b = length-append l (all_of lists) in omega (arith, a, b, more)

-- a list that was whole is cut
pub one_cut : (lists : List (List TraceLine)) (nexts : List ℕ) (i n : ℕ) → length nexts ≡ length lists → i < length lists → get_or nexts i 0 ≡ 0 → n ≤ length (lines_of lists i)
    → length (all_of (rests lists nexts)) ≡ length (all_of (rests lists (set nexts i n))) + n
one_cut lists nexts i n size under whole within =
    let lines = lines_of lists i in
    let was : lines_of (rests lists nexts) i ≡ lines = rest_at lists nexts i size ∙ ap (λ m. drop m lines) whole in
    let many = ap length was in
    let less = length-drop n lines in
    let now = ap (λ ls. length (all_of ls)) (rest_set lists nexts i n size) in
    let sum = length_set (rests lists nexts) i (drop n lines) (let all = length_rests lists nexts in omega (arith, all, under)) in
    omega (arith, many, less, now, sum, within)
