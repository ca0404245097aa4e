use Rattle.std.proofs.Common.{◌≡◌, ◌<◌, ◌≤◌, ◌+◌, ◌-◌, ◌*◌, ◌/◌, ◌%◌, ◌^◌, ℕ, sym, ap, subst, ◌∙◌, arith}
use Rattle.std.proofs.lemmas.Nat.{shl_whole, mul-le}
use Rattle.std.proofs.Math.Nat.{one-le-pow}
use Rattle.figures.specs.Classes.{top_of as top_is}
use Rattle.figures.proofs.classes.top_of.Goals as goal

whole : (class h : ℕ) → class < 1472 → h ≡ class / 32 - 1 → (class - 32 * h + 1) * 2 ^ h % 2 ^ 64 ≡ (class - 32 * h + 1) * 2 ^ h
whole class h within h_is = shl_whole (class - 32 * h + 1) 7 h 64 (omega (arith, h_is, within)) (omega (arith, h_is, within))

pub overflow_sub-result-2 : goal.overflow_sub-result-2
overflow_sub-result-2 c =
    let h = c.saturating_sub-halvings.result in
    let least = mul-le 1 1 (c.args.class - 32 * h + 1) (2 ^ h) (omega arith) (one-le-pow h 2 (omega arith)) in
    subst (λ n. 1 ≤ n) (sym (whole c.args.class h c.requires c.saturating_sub-halvings.ensures)) least

pub returns : goal.returns
unfolding top_is
returns c =
    let h = c.saturating_sub-halvings.result in
    ap (λ n. n - 1) (whole c.args.class h c.requires c.saturating_sub-halvings.ensures) ∙ ap (λ k. (c.args.class - 32 * k + 1) * 2 ^ k - 1) c.saturating_sub-halvings.ensures
