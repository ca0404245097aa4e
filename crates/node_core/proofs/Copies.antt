-- Lists that are copied, or made of others, element by element.
use Rattle.std.proofs.Common.{◌≡◌, ℕ, ◌+◌, ◌<◌, List, [], ◌∷◌, ◌++◌, length, get_or, map, take, sym, ap, ◌∙◌}
use Rattle.std.proofs.lemmas.List.{take_more, map_more}

-- one more element is copied
pub one_copied : {X : Type 0} (xs so_far after : List X) (i : ℕ) (copy x : X) → after ≡ so_far ++ copy ∷ [] → so_far ≡ take i xs → copy ≡ x → x ≡ get_or xs i x → i < length xs → after ≡ take (i + 1) xs
one_copied {X} xs so_far after i copy x pushed copied same is within =
    pushed ∙ ap (λ (ys : List X). ys ++ copy ∷ []) copied ∙ ap (λ (y : X). take i xs ++ y ∷ []) (same ∙ is) ∙ sym (take_more xs i x within)

-- one more element is made of its own
pub one_made_of : {X Y : Type 0} (f : X → Y) (xs : List X) (so_far after : List Y) (i : ℕ) (made : Y) (x : X) → after ≡ so_far ++ made ∷ [] → so_far ≡ map f (take i xs) → made ≡ f (get_or xs i x) → i < length xs → after ≡ map f (take (i + 1) xs)
one_made_of {X} {Y} f xs so_far after i made x pushed before same within =
    pushed ∙ ap (λ (ys : List Y). ys ++ made ∷ []) before ∙ ap (λ (y : Y). map f (take i xs) ++ y ∷ []) same ∙ sym (map_more f xs i x within)
