use Rattle.std.proofs.Common.{ℕ, List, ◌∙◌, arith, take, subst}
use Rattle.std.proofs.lemmas.Grind.{common_steps}
use Rattle.std.proofs.lemmas.List.{take_rest}
use Rattle.std.specs.Io.KnownBytes.{Appends}
use Rattle.window_text.proofs.Bytes.{part_more}
use Rattle.window_text.proofs.put.put_all.Goals as goal

pub loop-done-preserved : goal.loop-done-preserved
loop-done-preserved g c =
    let contents = g.S.Sink.contents in
    let was = c.loop-done.invariant in (
      (
        grind (arith, common_steps, was.0.0, c.in-Ok.ensures.within),
        part_more c.args.bytes.now (contents c.args.sink.now) (contents c.loop-done.sink) (contents c.put.new.self) c.loop-done.done c.in-Ok.count was.0.1
            (let P : List ℕ → Type 0 = λ l. Appends (contents c.loop-done.sink) (contents c.put.new.self) (take c.in-Ok.count l) in
            subst P (take_rest c.args.bytes.now c.loop-done.done) c.in-Ok.ensures.taken),
      ),
      c.in-Ok.ensures.failures ∙ was.1,
    )
