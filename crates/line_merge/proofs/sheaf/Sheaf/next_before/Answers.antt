use Rattle.std.proofs.Common.{◌≡◌, ap, arith}
use Rattle.line_merge.specs.Sheaves.{CursorValue}
use Rattle.line_merge.proofs.Sheaves.{counted}
use Rattle.line_merge.proofs.sheaf.Sheaf.next_before.Goals as goal

pub returns-then-cursor-self-clause-none : goal.returns-then-cursor-self-clause-none
returns-then-cursor-self-clause-none c = λ _ has.
    let all = counted c.self.inside c.self.invariant c.args.self.now c.self.view_is in
    let at : c.cursor.inside.at ≡ c.args.cursor.now.at = ap (λ (x : CursorValue). x.at) c.cursor.view_is in
    let left = has.0 in
    let past = c.if-cursor-self.true in
    omega (arith, all, at, left, past)

pub next_list-list-requires-clause-some : goal.next_list-list-requires-clause-some
next_list-list-requires-clause-some c =
    let all = counted c.self.inside c.self.invariant c.args.self.now c.self.view_is in
    let at : c.cursor.inside.at ≡ c.args.cursor.now.at = ap (λ (x : CursorValue). x.at) c.cursor.view_is in
    let left = c.if-cursor-self.false in
    omega (arith, all, at, left)
