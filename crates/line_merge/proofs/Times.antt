-- The times of lines in memory.
use Rattle.std.proofs.Common.{◌≡◌, ◌<◌, ℕ, zero, suc, List, [], ◌∷◌, length, map, get_or, refl, arith}
use Rattle.std.proofs.lemmas.List.{length-map}
use Rattle.std.specs.List.Sorted.{IsNonDecreasingBy}
use Rattle.node_core.specs.declared.line.Line.{Line}
use Rattle.node_core.specs.TraceLine.{shown}
use Rattle.line_merge.specs.Merged.{line_in}
use Rattle.line_merge.specs.Sheaves.{IsRising}
use Rattle.line_merge.proofs.Cuts.{times_rise}

pub time_at : (lines : List Line) (i : ℕ) (d : Line) → i < length lines → (line_in (map shown lines) i).key.time ≡ (get_or lines i d).key.time
time_at [] i d under = absurd (omega (arith, under))
time_at (l ∷ lines) zero d under = refl
time_at (l ∷ lines) (suc i) d under = time_at lines i d (omega (arith, under))

pub times_of : (lines : List Line) → IsRising (map shown lines) → IsNonDecreasingBy (λ (l : Line). l.key.time) lines
times_of lines rising i j d upto under =
    let a = time_at lines i d (omega (arith, upto, under)) in
    let b = time_at lines j d under in
    let rise = times_rise (map shown lines) i j rising upto (let all = length-map lines shown in omega (arith, all, under)) in
    omega (arith, a, b, rise)
