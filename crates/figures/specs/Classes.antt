-- Percentiles without every value: values are counted in classes, 32 for each doubling.
use Rattle.std.specs.Prelude.{◌+◌, ◌-◌, ◌*◌, ◌/◌, ◌^◌, ◌==◌, ℕ, zero, suc, min, max, nat_le, if◌then◌else◌, List, [], ◌∷◌, length, count_by, Option, Some, None}
use Rattle.std.specs.Int.{div_ceil}
use Rattle.std.specs.Int.Count.{count_leading_zeros}

-- how often a value of 64 bits is halved until it is below 64
unfoldable pub halvings : ℕ → ℕ
halvings v = 58 - count_leading_zeros 64 v

-- the class of a value: a value below 64 has a class of its own, and from there on each doubling has 32 classes
unfoldable pub class_of : ℕ → ℕ
class_of v = 32 * halvings v + v / 2 ^ halvings v

-- the greatest value of a class
unfoldable pub top_of : ℕ → ℕ
top_of c = (c - 32 * (c / 32 - 1) + 1) * 2 ^ (c / 32 - 1) - 1

-- how many values are of a class
abbrev pub in_class : List ℕ → ℕ → ℕ
in_class xs c = count_by (λ x. class_of x == c) xs

-- how many values are of a class up to this one
abbrev pub upto : List ℕ → ℕ → ℕ
upto xs c = count_by (λ x. nat_le (class_of x) c) xs

-- the first class from c on, of the next so many, up to which there are at least rank values
unfoldable pub class_from : List ℕ → ℕ → ℕ → ℕ → ℕ
class_from xs rank c zero = c
class_from xs rank c (suc n) = if nat_le rank (upto xs c) then c else class_from xs rank (c + 1) n

-- the class in which the value of a rank lies, counted from 1, of the 1,472 classes of values below 2^50
unfoldable pub class_at : List ℕ → ℕ → ℕ
class_at xs rank = class_from xs rank 0 1471

-- the nearest rank of a percentile: the least that is at least so many in a hundred of the values
abbrev pub rank_of : ℕ → ℕ → ℕ
rank_of percent count = div_ceil (percent * count) 100

-- the least of a bound and values, and the greatest of the values
abbrev pub least_from : ℕ → List ℕ → ℕ
least_from bound [] = bound
least_from bound (x ∷ xs) = min x (least_from bound xs)

abbrev pub greatest : List ℕ → ℕ
greatest [] = 0
greatest (x ∷ xs) = max x (greatest xs)

-- the least and the greatest value, where there is one
abbrev pub least_of : List ℕ → Option ℕ
least_of [] = None
least_of (x ∷ xs) = Some (least_from x xs)

abbrev pub greatest_of : List ℕ → Option ℕ
greatest_of [] = None
greatest_of (x ∷ xs) = Some (greatest (x ∷ xs))

-- a percentile: the greatest value of the class in which the nearest rank lies, and at most the greatest value there is
abbrev pub percentile : ℕ → List ℕ → Option ℕ
percentile percent [] = None
percentile percent (x ∷ xs) = Some (min (top_of (class_at (x ∷ xs) (rank_of percent (length (x ∷ xs))))) (greatest (x ∷ xs)))
