-- What is found of a run stands behind what was there before.
use Rattle.std.proofs.Common.{◌≡◌, ◌∙◌, List, ◌++◌, Bool, true, false, true≢false, length, take, refl, sym, ap, arith}
use Rattle.std.proofs.lemmas.List.{take-take, length-append}
use lib.Seq.{take-append_seam}
use Rattle.debugger.specs.Found.{AreFound}

-- what was there before is there where what was found is kept
pub still_begins : {A : Type 0} (before more out made : List A) → out ≡ before ++ more → take (length out) made ≡ out → take (length before) made ≡ before
still_begins before more out made is same =
    let all = ap length is in
    let parts = length-append before more in
    sym (take-take (length before) (length out) made (omega (arith, all, parts))) ∙ ap (take (length before)) same ∙ ap (take (length before)) is ∙ take-append_seam before more

pub found_begins : {A : Type 0} (all before out : List A) → out ≡ before ++ all → take (length before) out ≡ before
found_begins all before out is = ap (take (length before)) is ∙ take-append_seam before all

pub found_front : {A : Type 0} (all before out : List A) (is on : Bool) → AreFound all before out false is on → take (length before) out ≡ before
found_front all before out is true found = found_begins all before out found.0
found_front all before out is false found = found.0

-- all is found where memory was not refused
pub found_whole : {A : Type 0} (all before out : List A) (is on : Bool) → AreFound all before out false is on → is ≡ false → (on ≡ true) × (out ≡ before ++ all)
found_whole all before out is true found none = (refl, found.0)
found_whole all before out is false found none = absurd (true≢false (sym found.1 ∙ none))
