use Rattle.std.proofs.Common.{◌≡◌, ◌-◌, ◌/◌, min, refl, sym, ap, ◌∙◌, arith}
use Rattle.std.proofs.Math.Nat.{zero-mul, div-eq_of_eq-mul_left}
use Rattle.figures.proofs.Runs.{again_in_run}
use Rattle.figures.proofs.turn.again_in.Goals as goal

pub returns-then-high-first : goal.returns-then-high-first
returns-then-high-first c =
    let least = min c.args.end c.args.high in
    let none : (least - c.args.first) / c.args.mss ≡ 0 = div-eq_of_eq-mul_left {n = c.args.mss} {m = least - c.args.first} {k = 0} c.requires.mss (let zero_is = zero-mul c.args.mss in omega (arith, zero_is, c.if-high-first.true)) in
    sym none ∙ again_in_run c.args.first c.args.end c.args.high c.args.mss least c.requires.mss c.requires.first c.requires.end c.requires.high refl

pub returns : goal.returns
returns c =
    ap (λ x. x / c.args.mss) c.saturating_sub.ensures
    ∙ again_in_run c.args.first c.args.end c.args.high c.args.mss c.min.result c.requires.mss c.requires.first c.requires.end c.requires.high c.min.ensures
