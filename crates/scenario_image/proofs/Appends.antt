-- Lists that grow at their end.
use Rattle.std.proofs.Common.{◌≡◌, ℕ, ◌+◌, ◌<◌, List, ◌++◌, length, get_or, take}
use Rattle.std.specs.List.{flat_map}
use Rattle.std.proofs.lemmas.List.{flat_map_more, take_more}

-- what grew by the images of the first items and then by that of the next
pub grown : {X : Type 0} (f : X → List ℕ) (xs : List X) (i : ℕ) (d x : X) (a b c : List ℕ) → i < length xs → x ≡ get_or xs i d → b ≡ a ++ flat_map f (take i xs) → c ≡ b ++ f x → c ≡ a ++ flat_map f (take (i + 1) xs)
grown f xs i d x a b c below is first second =
    rw (second, first, is, take_more xs i d below) (flat_map_more f a (take i xs) (get_or xs i d))
