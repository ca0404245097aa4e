-- How many lines there are in order; what a merge of a sheaf has left.
use Rattle.std.proofs.Common.{◌≡◌, ◌+◌, ℕ, zero, suc, List, [], ◌∷◌, ◌++◌, length, map, drop, true, false, cond, T, Some, None, is_some, Less, true≢false, refl, sym, ap, subst, ◌∙◌, arith}
use Rattle.std.proofs.lemmas.List.{length-map}
use Rattle.std.specs.FinMap.{find, is_sorted, from_entries, entries, len, len-entries, len-insert, contains_key, get-from_entries}
use Rattle.std.specs.FinMap.Entries.{below_all}
use Rattle.sim_time.specs.declared.key.Key.{Key}
use Rattle.sim_time.specs.Keys.{key_cmp}
use Rattle.sim_time.proofs.Order.{keys_total}
use Rattle.std.specs.Ordering.{is_eq}
use Rattle.tournament.proofs.Maps.{both_of, is_less, not_some}
use Rattle.node_core.specs.TraceLine.{TraceLine}
use Rattle.line_merge.specs.declared.sheaf.Sheaf.TheInside.{Inside}
use Rattle.line_merge.specs.Merged.{line_in, lines_of, all_of, rests, HasKey, AreApart}
use Rattle.line_merge.specs.Ahead.{IsAhead}
use Rattle.line_merge.specs.SheafOf.{sheaf_of, IsSheaf}
use Rattle.line_merge.specs.Sheaves.{SheafValue, CursorValue, StandsIn, merged}
use Rattle.window_law.specs.Windows.{keyed, in_order}
use Rattle.window_law.proofs.Changes.{same, same_is, same_itself}
use Rattle.window_law.proofs.InOrder.{no_entries}
use Rattle.window_law.proofs.Turn.{find_append, none_or}

-- no two lines share a key
abbrev Distinct : List TraceLine → Type 0
Distinct [] = Unit {0}
Distinct (l ∷ ls) = (find key_cmp l.key (map keyed ls) ≡ None) × Distinct ls

count_entries : (ls : List TraceLine) → Distinct ls → len (from_entries {R = key_cmp} (map keyed ls)) ≡ length ls
count_entries [] apart = len-entries (from_entries {R = key_cmp} (map keyed [])) ∙ ap length no_entries
count_entries (l ∷ ls) apart =
    let m = from_entries {R = key_cmp} (map keyed ls) in
    let new : contains_key m l.key ≡ false = ap is_some (get-from_entries keys_total (map keyed ls) l.key ∙ apart.0) in
    let more = len-insert keys_total m l.key l ∙ ap (λ b. cond b (len m) (len m + 1)) new in
    let few = count_entries ls apart.1 in
    omega (arith, more, few)

-- lines of which no two share a key are as many in order
count_in_order : (ls : List TraceLine) → Distinct ls → length (in_order ls) ≡ length ls
count_in_order ls apart = length-map (entries (from_entries {R = key_cmp} (map keyed ls))) (λ (e : Key × TraceLine). e.1) ∙ sym (len-entries (from_entries {R = key_cmp} (map keyed ls))) ∙ count_entries ls apart

-- a key that comes before those of all lines is none of theirs
not_behind : (k : Key) (ls : List TraceLine) → T (below_all key_cmp k (map keyed ls)) → find key_cmp k (map keyed ls) ≡ None
not_behind k [] h = refl
not_behind k (l ∷ ls) h =
    elim (same k l.key) as (λ b. same k l.key ≡ b → cond b (Some l) (find key_cmp k (map keyed ls)) ≡ None) [
      | true ↦ λ e. absurd (never k (subst (λ (z : Key). key_cmp k z ≡ Less) (sym (same_is k l.key e)) (is_less _ (both_of _ _ h).0)))
      | false ↦ λ e. not_behind k ls (both_of _ _ h).1
    ] refl
  where
    never : (a : Key) → key_cmp a a ≡ Less → ⊥
    never a less = true≢false (sym (same_itself a) ∙ ap is_eq less)

in_none : (lists : List (List TraceLine)) (k : Key) → ((i : ℕ) → find key_cmp k (map keyed (lines_of lists i)) ≡ None) → find key_cmp k (map keyed (all_of lists)) ≡ None
in_none [] k off = refl
in_none (lines ∷ lists) k off = find_append lines (all_of lists) k ∙ none_or _ _ (off 0) ∙ in_none lists k (λ i. off (suc i))

all_distinct : (lists : List (List TraceLine)) → AreApart lists → Distinct (all_of lists)
all_distinct [] are = tt
all_distinct (lines ∷ lists) are = go lines (are.rising 0) (λ k has i. elsewhere k has i) (all_distinct lists later)
  where
    later : AreApart lists
    later = record { rising = λ i. are.rising (suc i); apart = λ i j k a b. (let e = are.apart (suc i) (suc j) k a b in omega (arith, e)) }

    elsewhere : (k : Key) → HasKey lines k → (i : ℕ) → find key_cmp k (map keyed (lines_of lists i)) ≡ None
    elsewhere k has i = elim (find key_cmp k (map keyed (lines_of lists i))) as (λ o. find key_cmp k (map keyed (lines_of lists i)) ≡ o → o ≡ None) [
      | None ↦ λ e. refl
      | Some l ↦ λ e. absurd (let same_list = are.apart 0 (suc i) k has (λ none. not_some (sym none ∙ e)) in omega (arith, same_list))
    ] refl

    go : (ls : List TraceLine) → T (is_sorted key_cmp (map keyed ls)) → ((k : Key) → HasKey ls k → (i : ℕ) → find key_cmp k (map keyed (lines_of lists i)) ≡ None) → Distinct (all_of lists) → Distinct (ls ++ all_of lists)
    go [] sorted off others = others
    go (l ∷ ls) sorted off others = (
      find_append ls (all_of lists) l.key ∙ none_or _ _ (not_behind l.key ls (both_of _ _ sorted).0) ∙ in_none lists l.key (off l.key (λ none. not_some (sym none ∙ ap (λ b. cond b (Some l) (find key_cmp l.key (map keyed ls))) (same_itself l.key)))),
      go ls (both_of _ _ sorted).1 (λ k has. off k (λ none. has (gone k none))) others,
    )
      where
        gone : (k : Key) → find key_cmp k (map keyed (l ∷ ls)) ≡ None → find key_cmp k (map keyed ls) ≡ None
        gone k = elim (same k l.key) as (λ b. cond b (Some l) (find key_cmp k (map keyed ls)) ≡ None → find key_cmp k (map keyed ls) ≡ None) [ true ↦ λ e. absurd (not_some (sym e)) | false ↦ λ e. e ]

-- lists whose lines are apart have as many lines in order
pub length_in_order : (lists : List (List TraceLine)) → AreApart lists → length (in_order (all_of lists)) ≡ length (all_of lists)
length_in_order lists are = count_in_order (all_of lists) (all_distinct lists are)

pub counted : (s : Inside) → IsSheaf s → (v : SheafValue) → sheaf_of s ≡ v → s.count ≡ length (merged v).lines
counted s is v view = is.count ∙ sym (length_in_order s.lists.items is.apart) ∙ ap (λ (x : SheafValue). length (merged x).lines) view

dropped : (n : ℕ) (xs : List TraceLine) (y : TraceLine) (ys : List TraceLine) → drop n xs ≡ y ∷ ys → (drop (suc n) xs ≡ ys) × (line_in xs n ≡ y)
dropped zero [] y ys e = absurd (cc)
dropped zero (x ∷ xs) y ys e = (ap (drop 1) e, ap (λ ls. line_in ls 0) e)
dropped (suc n) [] y ys e = absurd (cc)
dropped (suc n) (x ∷ xs) y ys e = dropped n xs y ys e

-- the first line of what is left is the next
pub first_left : (s : SheafValue) (c : CursorValue) (l : TraceLine) (left : List TraceLine) → StandsIn s c → in_order (all_of (rests s.lists c.nexts)) ≡ l ∷ left → line_in (merged s).lines c.at ≡ l
first_left s c l left is order = (dropped c.at (merged s).lines l left (sym is.left ∙ order)).1

-- the cursor is behind its next line
pub one_behind : (s : SheafValue) (c d : CursorValue) (l : TraceLine) → StandsIn s c → d.at ≡ c.at + 1 → IsAhead s.lists d.nexts d.moments d.ranks → in_order (all_of (rests s.lists c.nexts)) ≡ l ∷ in_order (all_of (rests s.lists d.nexts))
    → length (all_of (rests s.lists c.nexts)) ≡ length (all_of (rests s.lists d.nexts)) + 1 → StandsIn s d
one_behind s c d l is at next order fewer = record {
  next = next;
  count = (let was = is.count in omega (arith, was, at, fewer));
  left = sym (dropped c.at (merged s).lines l (in_order (all_of (rests s.lists d.nexts))) (sym is.left ∙ order)).0 ∙ ap (λ n. drop n (merged s).lines) {x = suc c.at} {y = d.at} (omega (arith, at));
}
