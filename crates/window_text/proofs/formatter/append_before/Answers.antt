use Rattle.std.proofs.Common.{◌≡◌, ◌+◌, ◌-◌, ◌<◌, ◌++◌, ℕ, List, length, take, drop, ap, sym, ◌∙◌, arith, append_assoc}
use Rattle.node_core.specs.TraceLine.{TraceLine, shown}
use Rattle.trace_text.specs.Line.{line_bytes}
use Rattle.line_merge.specs.Merged.{line_in}
use Rattle.line_merge.specs.Sheaves.{merged}
use Rattle.window_text.specs.Text.{text_from}
use Rattle.window_text.proofs.Numbered.{text_one_more}
use Rattle.window_text.proofs.formatter.append_before.Goals as goal

pub loop-preserved : goal.loop-preserved
loop-preserved c =
    let first = c.args.sheaf.now.first in
    let lines = (merged c.args.sheaf.now).lines in
    let from = c.args.cursor.now.at in
    let was = c.loop.invariant in
    let on = was.on in
    let i = c.loop.cursor.at - from in
    let before = c.args.text.now in
    let line = shown c.in-Some.line.now in
    let left = c.in-Some.ensures.before.0 in
    let count = c.in-Some.ensures.count in
    let here : c.loop.cursor.at ≡ from + i = omega (arith, on) in
    let within : from + i < length lines = omega (arith, left, on) in
    let number : c.first.result + c.at.result ≡ first + (from + i) = omega (arith, c.first.ensures, c.at.ensures, on) in
    let more : c.next_before.new.cursor.at - from ≡ i + 1 = omega (arith, count, on) in
    let so_far = text_from (first + from) (take i (drop from lines)) in
    record {
      stands = c.next_before.ensures.at;
      on = omega (arith, on, count);
      text =
          c.in_ok-put_line.ensures
          ∙ ap (λ (l : List ℕ). l ++ line_bytes (c.first.result + c.at.result) line) was.text
          ∙ append_assoc before so_far (line_bytes (c.first.result + c.at.result) line)
          ∙ ap (λ (l : List ℕ). before ++ l)
          (ap (λ (n : ℕ). so_far ++ line_bytes n line) number
          ∙ ap (λ (x : TraceLine). so_far ++ line_bytes (first + (from + i)) x) (c.in-Some.ensures.line ∙ ap (λ (n : ℕ). line_in lines n) here)
          ∙ sym (text_one_more first from i lines within)
          ∙ ap (λ (n : ℕ). text_from (first + from) (take n (drop from lines))) (sym more));
    }
