use Rattle.std.proofs.Common.{arith, ap, sym, ◌∙◌, length, List, ℕ}
use Rattle.window_text.specs.Parts.{bytes_in}
use Rattle.window_text.proofs.Parted.{text_at-is}
use Rattle.window_text.proofs.text.bytes_of.Goals as goal

pub slice_bounds-result-end : goal.slice_bounds-result-end
slice_bounds-result-end c =
    let end = c.requires.part.end in
    let text = text_at-is c.args.formatters.now c.args.place.formatter c.index-formatters-place.result c.requires.formatter in
    omega (arith, end, ap length (c.as_slice-text.ensures ∙ sym text))

pub returns : goal.returns
returns c =
    let text = text_at-is c.args.formatters.now c.args.place.formatter c.index-formatters-place.result c.requires.formatter in
    ap (λ (l : List ℕ). bytes_in l c.args.place.part) (c.as_slice-text.ensures ∙ sym text)
