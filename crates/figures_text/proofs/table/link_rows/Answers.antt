use Rattle.figures_text.proofs.table.link_rows.Goals as goal

pub returns : goal.returns
returns c =
    cc (
      c.counted.ensures,
      c.counted-2.ensures,
      c.counted-3.ensures,
      c.from.ensures,
      c.counted-4.ensures,
      c.counted-5.ensures,
      c.or_none.ensures,
      c.or_none-2.ensures,
      c.or_none-3.ensures,
      c.or_none-4.ensures,
    )
