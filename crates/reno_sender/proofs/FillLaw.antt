-- Filling sends all that the windows allow, and no more.
use Rattle.std.proofs.Common.{◌≡◌, ℕ, zero, suc, ◌+◌, ◌-◌, ◌*◌, ◌<◌, ◌≤◌, get_or, refl, sym, ◌∙◌, subst, arith}
use Rattle.std.proofs.Math.Nat.{zero-mul, suc-mul, mul-mod_left}
use Rattle.std.proofs.lemmas.Nat.{le-div}
use Rattle.reno_sender.specs.Fields.{IsMultiple, total}
use Rattle.reno_sender.specs.Sending.{spaced, fill_count, allowed_end}
use Rattle.reno_sender.specs.Laws.{FillIsAllAllowed}
use Rattle.reno_sender.proofs.Multiples.{multiples_apart, multiple_after, multiple_below, places_below, fits_count}
use Rattle.reno_sender.proofs.Runs.{length-spaced}

get_or-spaced : (first m n k d : ℕ) → k < n → get_or (spaced first m n) k d ≡ first + k * m
get_or-spaced first m zero k d l = absurd (omega arith)
get_or-spaced first m (suc n) zero d l = omega (arith, zero-mul m)
get_or-spaced first m (suc n) (suc k) d l = get_or-spaced (first + m) m n k d (omega arith) ∙ omega (arith, suc-mul k m)

pub fill_is_all_allowed : FillIsAllAllowed
fill_is_all_allowed f now x s = (
  λ c.
      (let n : ℕ = fill_count f in
      let place : c.0 < n = omega (arith, c.1, length-spaced f.nxt f.mss n) in
      let is : x ≡ f.nxt + c.0 * f.mss = sym c.2 ∙ get_or-spaced f.nxt f.mss n c.0 x place in
      let fits : f.nxt + n * f.mss ≤ allowed_end f = fits_count f.mss f.nxt (allowed_end f) n s.mss_least refl (omega arith) in
      let ends : x + f.mss ≤ allowed_end f = omega (arith, places_below f.mss c.0 n place) in
      (subst (IsMultiple f.mss) (sym is) (multiple_after f.mss f.nxt c.0 s.nxt_multiple), omega arith, omega (arith, s.mss_least), omega arith)),
  λ p.
      (let n : ℕ = fill_count f in
      let d : (k : ℕ) × (x ≡ f.nxt + k * f.mss) = multiples_apart f.mss f.nxt x s.mss_least s.nxt_multiple p.0 p.1 in
      let whole : x + f.mss ≤ total f = multiple_below f.mss x (total f) s.mss_least p.0 (mul-mod_left f.segments f.mss) p.2 in
      let ends : x + f.mss ≤ allowed_end f = omega (arith, p.3) in
      let place : suc d.0 ≤ n = le-div (suc d.0) (allowed_end f - f.nxt) f.mss (omega (arith, s.mss_least)) (omega (arith, suc-mul d.0 f.mss)) in
      (d.0, omega (arith, length-spaced f.nxt f.mss n), get_or-spaced f.nxt f.mss n d.0 x (omega arith) ∙ sym d.1)),
)
