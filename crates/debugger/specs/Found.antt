-- What is found of a run, one line after another, behind what was there before.
use Rattle.std.specs.Prelude.{◌≡◌, Bool, true, false, List, ◌++◌, length, take}

-- all so far is there, or memory was refused, and what was there is there still
abbrev pub AreFound : {A : Type 0} → List A → List A → List A → Bool → Bool → Bool → Type 0
AreFound all before out was is true = (out ≡ before ++ all) × (is ≡ was)
AreFound all before out was is false = (take (length before) out ≡ before) × (is ≡ true)
