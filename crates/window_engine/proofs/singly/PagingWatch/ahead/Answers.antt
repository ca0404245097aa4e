use Rattle.std.proofs.Common.{◌∙◌, sym, arith}
use Rattle.table_run.specs.State.{due}
use Rattle.window_engine.proofs.OneByOne.{key_by, stops_behind, stops_until}
use Rattle.window_engine.proofs.singly.PagingWatch.ahead.Goals as goal

pub returns-then-next-self : goal.returns-then-next-self
returns-then-next-self c =
    let s = c.args.at.now.state in
    let k = key_by (due s) c.in-Some.next (sym c.in-Some.is ∙ c.requires.next) in
    let at = k.at in
    let late = c.if-next-self.true in
    stops_until s c.args.self.now.until c.args.self.now.last k.key k.is (omega (arith, at, late))

pub returns-then-next-self-2 : goal.returns-then-next-self-2
returns-then-next-self-2 c =
    let s = c.args.at.now.state in
    let k = key_by (due s) c.in-Some.next (sym c.in-Some.is ∙ c.requires.next) in
    let at = k.at in
    let later = c.if-next-self-2.true in
    stops_behind s c.args.self.now.until c.args.self.now.last k.key k.is (omega (arith, at, later))
