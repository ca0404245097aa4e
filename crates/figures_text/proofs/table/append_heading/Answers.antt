use Rattle.std.proofs.Common.{◌≡◌, ◌∙◌, ◌++◌, ℕ, List, OnOk, codes, ap, subst, append_assoc}
use Rattle.figures_text.specs.Table.{heading_end}
use Rattle.figures_text.proofs.table.append_heading.Goals as goal

pub returns : goal.returns
returns c =
    let end = heading_end c.args.column.now in
    let parted = ap (λ (xs : List ℕ). xs ++ end) c.in_ok-extend_from_slice.ensures.items ∙ append_assoc c.args.text.now.items (codes "what,number,figure,unit,value") end in
    subst (λ (xs : List ℕ). OnOk c.append_heading_end.result (c.append_heading_end.new.text.items ≡ xs)) parted c.append_heading_end.ensures
