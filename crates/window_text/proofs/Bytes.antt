-- What a sink took.
use Rattle.std.proofs.Common.{◌≡◌, ℕ, ◌+◌, List, [], ◌++◌, length, take, drop, refl, sym, ◌∙◌, ap, append_assoc, subst, zero, suc, ◌∷◌, arith, Option, None, Some}
use Rattle.std.proofs.lemmas.List.{append-nil}
use Rattle.std.specs.Io.KnownBytes.{Appends}

-- nothing was taken
pub appends_nothing : (known : Option (List ℕ)) → Appends known known []
appends_nothing None = tt
appends_nothing (Some xs) = sym (append-nil xs)

-- some bytes were taken, and then more
pub appends_more : (a b c : Option (List ℕ)) (xs ys : List ℕ) → Appends a b xs → Appends b c ys → Appends a c (xs ++ ys)
appends_more None b c xs ys h k = tt
appends_more (Some before) None c xs ys h k = absurd h
appends_more (Some before) (Some between) None xs ys h k = absurd k
appends_more (Some before) (Some between) (Some after) xs ys h k = k ∙ ap (λ l. l ++ ys) h ∙ append_assoc before xs ys

take_nil : (n : ℕ) → take {A = ℕ} n [] ≡ []
take_nil zero = refl
take_nil (suc n) = refl

-- the first n elements, and the next m
take-add : (n m : ℕ) (xs : List ℕ) → take n xs ++ take m (drop n xs) ≡ take (n + m) xs
take-add zero m xs = let e : m ≡ 0 + m = omega arith in ap (λ k. take k xs) e
take-add (suc n) m [] = take_nil m ∙ sym (take_nil (suc n + m))
take-add (suc n) m (x ∷ xs) = let e : suc (n + m) ≡ suc n + m = omega arith in ap (λ l. x ∷ l) (take-add n m xs) ∙ ap (λ k. take k (x ∷ xs)) e

-- the next bytes were taken
pub part_more : (bytes : List ℕ) (a b c : Option (List ℕ)) (done n : ℕ) → Appends a b (take done bytes) → Appends b c (take n (drop done bytes)) → Appends a c (take (done + n) bytes)
part_more bytes a b c done n h k = let P : List ℕ → Type 0 = Appends a c in subst P (take-add done n bytes) (appends_more a b c (take done bytes) (take n (drop done bytes)) h k)

-- all of one list, and the first elements of another
pub take_past : (n : ℕ) (xs ys : List ℕ) → take (length xs + n) (xs ++ ys) ≡ xs ++ take n ys
take_past n [] ys = let e : 0 + n ≡ n = omega arith in ap (λ k. take k ys) e
take_past n (x ∷ xs) ys = let e : suc (length xs) + n ≡ suc (length xs + n) = omega arith in ap (λ k. take k (x ∷ (xs ++ ys))) e ∙ ap (λ l. x ∷ l) (take_past n xs ys)
