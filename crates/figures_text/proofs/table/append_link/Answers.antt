use Rattle.std.proofs.Common.{◌≡◌, ◌∙◌, ◌++◌, ℕ, List, OnOk, ap, subst, append_assoc}
use Rattle.figures_text.specs.Table.{always_counted, drop_rows, link_rows, row_line, rows_text}
use Rattle.figures_text.specs.declared.figure.Figure.TheVariants.{Offered}
use Rattle.figures_text.specs.declared.row.Row.{Row}
use Rattle.figures_text.specs.declared.subject.Subject.TheVariants.{Link}
use Rattle.figures_text.proofs.table.append_link.Goals as goal

pub returns : goal.returns
returns c =
    let before = c.args.text.now.items in
    let offered = row_line c.args.column.now (Link c.args.number) (always_counted Offered c.args.link.now.offered) in
    let drops = rows_text c.args.column.now (Link c.args.number) (drop_rows c.args.link.now.dropped) in
    let others = rows_text c.args.column.now (Link c.args.number) (link_rows c.args.link.now) in
    let parted =
    ap (λ (rows : List Row). c.append_drops.new.text.items ++ rows_text c.args.column.now (Link c.args.number) rows) c.link_rows.ensures
    ∙ ap (λ (xs : List ℕ). xs ++ others)
    (c.in_ok-append_drops.ensures ∙ ap (λ (xs : List ℕ). xs ++ drops) (c.in_ok-append_row.ensures ∙ ap (λ (row : Row). before ++ row_line c.args.column.now (Link c.args.number) row) c.counted-offered.ensures))
    ∙ append_assoc (before ++ offered) drops others
    ∙ append_assoc before offered (drops ++ others) in
    subst (λ (xs : List ℕ). OnOk c.append_rows.result (c.append_rows.new.text.items ≡ xs)) parted c.append_rows.ensures
