use Rattle.std.proofs.Common.{◌≡◌, ◌+◌, ◌<◌, ◌++◌, ℕ, List, length, take, drop, ap, sym, ◌∙◌, arith, append_assoc}
use Rattle.node_core.specs.TraceLine.{TraceLine, shown}
use Rattle.trace_text.specs.Line.{line_bytes}
use Rattle.line_merge.specs.Merged.{line_in}
use Rattle.line_merge.specs.Sheaves.{merged}
use Rattle.window_text.specs.Text.{text_from}
use Rattle.window_text.proofs.Numbered.{text_one_more}
use Rattle.window_text.proofs.formatter.append_lines.Goals as goal

pub loop-preserved : goal.loop-preserved
loop-preserved c =
    let first = c.args.sheaf.now.first in
    let lines = (merged c.args.sheaf.now).lines in
    let from = c.args.cursor.now.at in
    let i = c.loop.counter in
    let was = c.loop.invariant in
    let before = c.args.text.now in
    let line = shown c.next.result.now in
    let number : c.first.result + c.at.result ≡ first + (from + i) = omega (arith, c.first.ensures, c.at.ensures, was.1) in
    let within : from + i < length lines = omega (arith, c.loop-test.true, c.requires.within) in
    let so_far = text_from (first + from) (take i (drop from lines)) in (
      c.next.ensures.at,
      omega (arith, c.next.ensures.count, was.1),
      c.in_ok-put_line.ensures
          ∙ ap (λ (l : List ℕ). l ++ line_bytes (c.first.result + c.at.result) line) was.2
          ∙ append_assoc before so_far (line_bytes (c.first.result + c.at.result) line)
          ∙ ap (λ (l : List ℕ). before ++ l)
          (ap (λ (n : ℕ). so_far ++ line_bytes n line) number
          ∙ ap (λ (x : TraceLine). so_far ++ line_bytes (first + (from + i)) x) (c.next.ensures.line ∙ ap (λ (n : ℕ). line_in lines n) was.1)
          ∙ sym (text_one_more first from i lines within)),
    )
