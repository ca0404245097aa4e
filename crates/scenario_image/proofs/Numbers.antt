-- Numbers in bytes: a number that is read stands there, and one that stands there is read.
use Rattle.std.proofs.Common.{◌≡◌, ℕ, ◌+◌, ◌%◌, ◌<◌, ◌≤◌, List, [], ◌∷◌, ◌++◌, length, get_or, take, drop, arith, ap, sym, ◌∙◌, inl, inr}
use Rattle.std.proofs.lemmas.Bool.{cases_lt}
use Rattle.std.proofs.lemmas.List.{drop-drop, length-drop, length-take, take-append-drop, get_or-drop, get_or-take, get_or_past}
use Rattle.std.proofs.lemmas.Nat.{be_bytes_2, be_bytes_4, be_bytes_8}
use Rattle.byteorder.specs.Endian.{big_number, big_bytes}

-- each number is a byte's
abbrev pub IsBytes : List ℕ → Type 0
IsBytes bytes = (i : ℕ) → get_or bytes i 0 < 256

pub bytes_drop : (n : ℕ) (bytes : List ℕ) → IsBytes bytes → IsBytes (drop n bytes)
bytes_drop n bytes fits i = rw get_or-drop (fits (n + i))

bytes_take : (n : ℕ) (bytes : List ℕ) → IsBytes bytes → IsBytes (take n bytes)
bytes_take n bytes fits i =
    elim (cases_lt i n) [
      | inl lt ↦ rw (get_or-take n bytes i 0 lt) (fits i)
      | inr le ↦ rw (get_or_past (take n bytes) i 0 (omega (arith, length-take n bytes))) (omega arith)
    ]

-- the byte of a number at a place of the first ones
at : (n : ℕ) (bytes : List ℕ) (i : ℕ) → i < n → get_or (take n bytes) i 0 ≡ get_or bytes i 0
at n bytes i below = get_or-take n bytes i 0 below

front_2 : (bytes : List ℕ) → IsBytes bytes → 2 ≤ length bytes → big_bytes 2 (big_number 2 bytes) ≡ take 2 bytes
front_2 bytes fits long =
    be_bytes_2 (take 2 bytes) (big_number 2 bytes) (omega (arith, length-take 2 bytes, long)) (bytes_take 2 bytes fits) (omega (arith, at 2 bytes 0 (omega arith), at 2 bytes 1 (omega arith)))

front_4 : (bytes : List ℕ) → IsBytes bytes → 4 ≤ length bytes → big_bytes 4 (big_number 4 bytes) ≡ take 4 bytes
front_4 bytes fits long =
    be_bytes_4 (take 4 bytes) (big_number 4 bytes) (omega (arith, length-take 4 bytes, long)) (bytes_take 4 bytes fits)
    (omega (arith, at 4 bytes 0 (omega arith), at 4 bytes 1 (omega arith), at 4 bytes 2 (omega arith), at 4 bytes 3 (omega arith)))

front_8 : (bytes : List ℕ) → IsBytes bytes → 8 ≤ length bytes → big_bytes 8 (big_number 8 bytes) ≡ take 8 bytes
front_8 bytes fits long =
    be_bytes_8 (take 8 bytes) (big_number 8 bytes) (omega (arith, length-take 8 bytes, long)) (bytes_take 8 bytes fits)
    (omega (arith, at 8 bytes 0 (omega arith), at 8 bytes 1 (omega arith), at 8 bytes 2 (omega arith), at 8 bytes 3 (omega arith), at 8 bytes 4 (omega arith), at 8 bytes 5 (omega arith), at 8 bytes 6 (omega arith), at 8 bytes 7 (omega arith)))

-- a number in front of what is left
front : (n : ℕ) (bytes tail : List ℕ) → big_bytes n (big_number n bytes) ≡ take n bytes → drop n bytes ≡ tail → bytes ≡ big_bytes n (big_number n bytes) ++ tail
front n bytes tail number rest = sym (take-append-drop n bytes) ∙ ap (λ (xs : List ℕ). xs ++ drop n bytes) (sym number) ∙ ap (λ (xs : List ℕ). big_bytes n (big_number n bytes) ++ xs) rest

-- a number at a place, in front of what is left
pub two : (bytes : List ℕ) → IsBytes bytes → (place : ℕ) (tail : List ℕ) → place + 2 ≤ length bytes → drop (place + 2) bytes ≡ tail → drop place bytes ≡ big_bytes 2 (big_number 2 (drop place bytes)) ++ tail
two bytes fits place tail long rest =
    front 2 (drop place bytes) tail (front_2 (drop place bytes) (bytes_drop place bytes fits) (omega (arith, long, length-drop place bytes))) (drop-drop 2 place bytes ∙ rest)

pub four : (bytes : List ℕ) → IsBytes bytes → (place : ℕ) (tail : List ℕ) → place + 4 ≤ length bytes → drop (place + 4) bytes ≡ tail → drop place bytes ≡ big_bytes 4 (big_number 4 (drop place bytes)) ++ tail
four bytes fits place tail long rest =
    front 4 (drop place bytes) tail (front_4 (drop place bytes) (bytes_drop place bytes fits) (omega (arith, long, length-drop place bytes))) (drop-drop 4 place bytes ∙ rest)

pub eight : (bytes : List ℕ) → IsBytes bytes → (place : ℕ) (tail : List ℕ) → place + 8 ≤ length bytes → drop (place + 8) bytes ≡ tail → drop place bytes ≡ big_bytes 8 (big_number 8 (drop place bytes)) ++ tail
eight bytes fits place tail long rest =
    front 8 (drop place bytes) tail (front_8 (drop place bytes) (bytes_drop place bytes fits) (omega (arith, long, length-drop place bytes))) (drop-drop 8 place bytes ∙ rest)

front_1 : (bytes : List ℕ) → IsBytes bytes → 1 ≤ length bytes → big_bytes 1 (get_or bytes 0 0) ≡ take 1 bytes
front_1 [] fits long = absurd (omega (arith, long))
front_1 (byte ∷ bytes) fits long = let below : byte < 256 = fits 0 in ap (λ (b : ℕ). b ∷ []) {x = byte % 256} {y = byte} (omega (arith, below))

pub one : (bytes : List ℕ) → IsBytes bytes → (place : ℕ) (tail : List ℕ) → place + 1 ≤ length bytes → drop (place + 1) bytes ≡ tail → drop place bytes ≡ big_bytes 1 (get_or bytes place 0) ++ tail
one bytes fits place tail long rest =
    let byte : get_or (drop place bytes) 0 0 ≡ get_or bytes place 0 = get_or-drop place bytes 0 0 ∙ ap (λ (n : ℕ). get_or bytes n 0) {x = place + 0} {y = place} (omega arith) in
    sym (take-append-drop 1 (drop place bytes))
    ∙ ap (λ (xs : List ℕ). xs ++ drop 1 (drop place bytes)) (sym (front_1 (drop place bytes) (bytes_drop place bytes fits) (omega (arith, long, length-drop place bytes))))
    ∙ ap (λ (b : ℕ). big_bytes 1 b ++ drop 1 (drop place bytes)) byte
    ∙ ap (λ (xs : List ℕ). big_bytes 1 (get_or bytes place 0) ++ xs) (drop-drop 1 place bytes ∙ rest)
