use Rattle.std.proofs.Common.{◌≡◌, ◌<◌, ◌≤◌, ◌-◌, length, sym, ap, ◌∙◌, arith}
use Rattle.std.proofs.lemmas.List.{get_or_past}
use Rattle.figures.specs.Classes.{upto}
use Rattle.figures.proofs.Near.{upto_before, first_enough, all_below}
use Rattle.figures.proofs.classes.class_at.Goals as goal

pub loop-class-init : goal.loop-class-init
loop-class-init c = (
  c.requires.rank,
  λ xs count all each. count
      ∙ sym (all_below xs (length c.args.counts.now - 1) (omega (arith, c.requires.size)) all
      (λ e above within. sym (get_or_past c.args.counts.now e 0 (omega (arith, above))) ∙ each e (omega (arith, above)) within)),
)

pub loop-class-preserved : goal.loop-class-preserved
loop-class-preserved c = (
  omega (arith, c.if-upto-rank.false),
  λ xs count all each.
      let i = c.loop-class.class - 1 in
      let some : 1 ≤ i = omega (arith, c.loop-class-test.true) in
      let is = c.loop-class.invariant.1 xs count all each in
      let here = each i some (omega (arith, c.loop-class.auto.class, c.requires.size, some)) in
      let before = upto_before xs i some in
      omega (arith, c.saturating_sub-upto.ensures, is, here, before),
)

pub returns-then-upto-rank-clause-class : goal.returns-then-upto-rank-clause-class
returns-then-upto-rank-clause-class c = λ xs count all each.
    let i = c.loop-class.class - 1 in
    let some : 1 ≤ i = omega (arith, c.loop-class-test.true) in
    let within : i < 1472 = omega (arith, c.loop-class.auto.class, c.requires.size, some) in
    let is = c.loop-class.invariant.1 xs count all each in
    let enough = c.loop-class.invariant.0 in
    let here = each i some within in
    let before = upto_before xs i some in
    sym (first_enough xs c.args.rank i within (λ _. omega (arith, c.saturating_sub-upto.ensures, is, here, before, c.if-upto-rank.true)) (omega (arith, is, enough)))

pub returns-clause-class : goal.returns-clause-class
returns-clause-class c = λ xs count all each.
    let is = c.loop-class.invariant.1 xs count all each in
    let enough = c.loop-class.invariant.0 in
    let last : upto xs (c.loop-class.class - 1) ≡ upto xs 0 = ap (upto xs) (omega (arith, c.loop-class-test.false)) in
    sym (first_enough xs c.args.rank 0 (omega arith) (λ one. absurd (omega (arith, one))) (omega (arith, is, enough, last)))
