-- Each kind of step keeps the rule of the result table, and what is left at its end is right.
use Rattle.std.proofs.Common.{◌≡◌, ◌≢◌, ℕ, zero, suc, ◌+◌, ◌<◌, List, [], ◌∷◌, ◌++◌, length, get_or, set, map, sym, refl, ap, ◌∙◌, subst, ◌⊎◌, inl, inr, ⊎_elim, arith, length-set, get_or-set_other, get_or-set_same, bit_or, replicate, Option, None, Some, IfSome, Bool, true, false, if◌then◌else◌}
use Rattle.std.proofs.lemmas.List.{length-map, length-replicate}
use Rattle.std.proofs.lemmas.List.Elements.{All-push}
use mathlib.Core.Option as opt
use mathlib.Core.Logic.{dite}
use native.Mathlib.Decide.{ℕ_discrete}
use lib.ListN.{get_elem?}
use Rattle.atomic_table.specs.Table.{step, keeps, takes, gives, opening, Allows, Splits, Final}
use Rattle.atomic_table.proofs.Lists.{set_here, set_else}
use Rattle.line_merge.specs.Sheaves.{SheafValue}
use Rattle.window_text.specs.ResultTables.{Places, Passing, LiesRight, IsResultTable, place_taken}
use Rattle.window_text.specs.Parts.{IsRight, AreRight}
use Rattle.window_text.specs.declared.formatter.TextFormatter.{TextFormatter}

-- what may lie at a place
abbrev Home : Type 0
Home = opt.Option (Option TextFormatter)

-- the place is taken, or what lies there is right
abbrev AtPlace : SheafValue → ℕ → opt.Option Home → Type 0
AtPlace sheaf word home = (word ≡ 1) ⊎ LiesRight sheaf home

-- one place changes
changed : (sheaf : SheafValue) (s : Places) (i n : ℕ) (homes : List Home) (views : List Unit) → IsResultTable sheaf s → i < length s.homes → length homes ≡ length s.homes
    → ((j : ℕ) → j ≢ i → get_elem? homes j ≡ get_elem? s.homes j)
    → AtPlace sheaf n (get_elem? homes i)
    → IsResultTable sheaf record { words = set s.words i n; homes = homes; views = views }
changed sheaf s i n homes views o inside long same here = let near : i < length s.words = omega (arith, o.long) in record {
  long = length-set s.words i n ∙ (o.long ∙ sym long);
  right = λ j below. let P : ℕ → Type 0 = λ k. AtPlace sheaf (get_or (set s.words i n) k 0) (get_elem? homes k) in dite (ℕ_discrete j i)
      (λ e. subst P (sym e) (⊎_elim (λ one. inl (get_or-set_same s.words i n 0 near ∙ one)) (λ lies. inr lies) here))
      (λ ne. ⊎_elim (λ one. inl (get_or-set_other s.words i j n 0 ne ∙ one)) (λ lies. inr (lies.0, same j ne ∙ lies.1, lies.2)) (o.right j (omega (arith, long))));
}

-- a place is taken where its word is 0, and else nothing changes but the word
pub takes_place : (sheaf : SheafValue) (slots id i k : ℕ) (m : Passing) (said : opt.Option (Option TextFormatter)) → i < slots → Allows (IsResultTable sheaf) slots id m i (λ n. bit_or n 1) (place_taken (step slots i k 0 said) m)
takes_place sheaf slots id i k m said inside s o wide me _ =
    let near : i < length s.homes = omega (arith, wide) in
    let found : ℕ = get_or s.words i 0 in
    let one : found ≡ 1 → bit_or found 1 ≡ 1 = λ e. ap (λ (x : ℕ). bit_or x 1) e in
    dite (ℕ_discrete found 0)
    (λ z. ⊎_elim (λ e. absurd (omega arith)) (λ (lies : LiesRight sheaf (get_elem? s.homes i)). (
      m.0,
      takes i lies.0,
      lies.1,
      changed sheaf s i (bit_or found 1) (set s.homes i opt.none) _ o near (length-set s.homes i opt.none) (λ j ne. set_else s.homes i j opt.none ne) (inl (ap (λ (x : ℕ). bit_or x 1) z)),
      ((λ _. (lies.0, refl)), λ ne. absurd (ne z)),
    )) (o.right i near))
    (λ ne. (
      m.0,
      keeps,
      tt,
      changed sheaf s i (bit_or found 1) s.homes _ o near refl (λ _ _. refl) (⊎_elim (λ e. inl (one e)) (λ lies. inr lies) (o.right i near)),
      ((λ z. absurd (ne z)), λ _. refl),
    ))

-- what is right may be laid down
pub lays : (sheaf : SheafValue) (slots id i k : ℕ) (m : Passing) (formatter : TextFormatter) (more : List (ℕ × Option TextFormatter)) → i < slots → m.1 ≡ (i, Some formatter) ∷ more → IsRight sheaf formatter
    → Allows (IsResultTable sheaf) slots id m i (λ n. bit_or n k) (λ _ _. Unit)
lays sheaf slots id i k m formatter more inside has right =
    let same : (m.0, (i, Some formatter) ∷ more) ≡ m = ap (λ (l : List (ℕ × Option TextFormatter)). (m.0, l)) (sym has) in
    let P : Passing → Type 0 = λ x. Allows (IsResultTable sheaf) slots id x i (λ n. bit_or n k) (λ _ _. Unit) in
    subst P same (λ s o wide me _. let near : i < length s.homes = omega (arith, wide) in (
      m.0,
      gives,
      tt,
      changed sheaf s i (bit_or (get_or s.words i 0) k) (set s.homes i (opt.some (Some formatter))) _ o near (length-set s.homes i _) (λ j ne. set_else s.homes i j _ ne) (inr (Some formatter, set_here s.homes i (opt.some (Some formatter)) near, right)),
      tt,
    ))

-- the passes say nothing of the places
pub splits : (sheaf : SheafValue) (id : ℕ) (v left right : Unit) → Splits (IsResultTable sheaf) id v left right
splits sheaf id v left right s o me = record { long = o.long; right = o.right }

abbrev nothing : Option TextFormatter
nothing = None

-- nothing lies at any place
vacant_at : (n i : ℕ) → i < n → get_elem? (map opt.some (replicate n nothing)) i ≡ opt.some (opt.some None)
vacant_at zero i h = absurd (omega arith)
vacant_at (suc n) zero h = refl
vacant_at (suc n) (suc i) h = vacant_at n i (omega arith)

pub starts : (sheaf : SheafValue) (words : List ℕ) (n : ℕ) (v : Unit) → length words ≡ n → IsResultTable sheaf (opening words (replicate n None) v)
starts sheaf words n v count = let long : length (map opt.some (replicate n nothing)) ≡ n = length-map _ opt.some ∙ length-replicate n nothing in record {
  long = count ∙ sym long;
  right = λ i below. inr (None, vacant_at n i (omega (arith, long)), tt);
}

word_is : (words : List ℕ) (i w : ℕ) → get_elem? words i ≡ opt.some w → get_or words i 0 ≡ w
word_is [] i w e = absurd (opt.some-ne-none w (sym e))
word_is (x ∷ xs) zero w e = opt.some-injective x w e
word_is (x ∷ xs) (suc i) w e = word_is xs i w e

within : (xs : List (Option TextFormatter)) (i : ℕ) (x : Option TextFormatter) → get_elem? xs i ≡ opt.some x → i < length xs
within [] i x e = absurd (opt.some-ne-none x (sym e))
within (y ∷ ys) zero x e = omega arith
within (y ∷ ys) (suc i) x e = let h = within ys i x e in omega arith

-- what is left at a place is right, unless its word is 1
pub rest_is_right : (sheaf : SheafValue) (words : List ℕ) (xs : List (Option TextFormatter)) (i w : ℕ) (x : Option TextFormatter) → Final (IsResultTable sheaf) words xs
    → get_elem? words i ≡ opt.some w → get_elem? xs i ≡ opt.some x → w ≢ 1 → IfSome x (IsRight sheaf)
rest_is_right sheaf words xs i w x (s, o, is, long, homes) word value ne =
    let here : get_or s.words i 0 ≡ w = ap (λ (l : List ℕ). get_or l i 0) is ∙ word_is words i w word in
    let inside : i < length xs = within xs i x value in
    ⊎_elim (λ one. absurd (ne (sym here ∙ one)))
    (λ (lies : LiesRight sheaf (get_elem? s.homes i)). let P : Option TextFormatter → Type 0 = λ y. IfSome y (IsRight sheaf) in subst P (opt.some-injective lies.0 x (sym (homes i lies.0 lies.1) ∙ value)) lies.2)
    (o.right i (omega (arith, long)))

-- what is right is put behind what is, or given up
pub put_behind : (sheaf : SheafValue) (put : Bool) (old new : List TextFormatter) (x : TextFormatter) → new ≡ (if put then old ++ x ∷ [] else old) → AreRight sheaf old → IsRight sheaf x → AreRight sheaf new
put_behind sheaf true old new x is all one = subst (λ (l : List TextFormatter). AreRight sheaf l) (sym is) (All-push (IsRight sheaf) old x all one)
put_behind sheaf false old new x is all one = subst (λ (l : List TextFormatter). AreRight sheaf l) (sym is) all

off : (fs : List Bool) (i : ℕ) → get_or (set fs i false) i false ≡ false
off [] i = refl
off (x ∷ xs) zero = refl
off (x ∷ xs) (suc i) = off xs i

-- a place that was emptied is empty, and the others are as they were
pub emptied : (fs gs : List Bool) (i : ℕ) → gs ≡ set fs i false → (get_or gs i false ≡ false) × ((k : ℕ) → k ≢ i → get_or gs k false ≡ get_or fs k false)
emptied fs gs i is = let at : (k : ℕ) → get_or gs k false ≡ get_or (set fs i false) k false = λ k. ap (λ (l : List Bool). get_or l k false) is in (
  at i ∙ off fs i,
  λ k ne. at k ∙ get_or-set_other fs i k false false ne,
)

-- where all places below one were empty, all up to it are
pub emptied_up_to : (fs gs : List Bool) (i : ℕ) → gs ≡ set fs i false → ((k : ℕ) → k < i → get_or fs k false ≡ false) → (k : ℕ) → k < i + 1 → get_or gs k false ≡ false
emptied_up_to fs gs i is empty k below = dite (ℕ_discrete k i)
    (λ e. ap (λ (n : ℕ). get_or gs n false) e ∙ (emptied fs gs i is).0)
    (λ ne. (emptied fs gs i is).1 k ne ∙ empty k (omega (arith, below, ne)))
