-- What a tally tells of its values.
use Rattle.std.proofs.Common.{◌≡◌, ◌<◌, ◌-◌, ◌^◌, ℕ, List, [], ◌∷◌, length, refl, ap, ◌∙◌, Some, None, arith, All}
use Rattle.std.proofs.lemmas.List.Elements.{All-head}
use Rattle.figures.specs.Classes.{least_from, least_of, greatest, greatest_of}
use Rattle.figures.proofs.Counts.{least_of_bound}

pub none_least : (xs : List ℕ) → length xs ≡ 0 → None ≡ least_of xs
none_least [] e = refl
none_least (x ∷ xs) e = absurd (omega (arith, e))

pub none_greatest : (xs : List ℕ) → length xs ≡ 0 → None ≡ greatest_of xs
none_greatest [] e = refl
none_greatest (x ∷ xs) e = absurd (omega (arith, e))

pub some_least : (xs : List ℕ) (least : ℕ) → (length xs ≡ 0 → ⊥) → All (λ x. x < 2 ^ 50) xs → least ≡ least_from (2 ^ 64 - 1) xs → Some least ≡ least_of xs
some_least [] least some below is = absurd (some refl)
some_least (x ∷ xs) least some below is = let under = All-head (λ y. y < 2 ^ 50) x xs below in ap Some (is ∙ least_of_bound (2 ^ 64 - 1) x xs (omega (arith, under)))

pub some_greatest : (xs : List ℕ) (most : ℕ) → (length xs ≡ 0 → ⊥) → most ≡ greatest xs → Some most ≡ greatest_of xs
some_greatest [] most some is = absurd (some refl)
some_greatest (x ∷ xs) most some is = ap Some is
