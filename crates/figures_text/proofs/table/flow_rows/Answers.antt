use Rattle.figures_text.proofs.table.flow_rows.Goals as goal

pub returns : goal.returns
returns c =
    cc (
      c.from.ensures,
      c.counted.ensures,
      c.from-2.ensures,
      c.counted-2.ensures,
      c.or_none.ensures,
      c.counted-3.ensures,
      c.counted-4.ensures,
      c.counted-5.ensures,
      c.from-3.ensures,
      c.counted-6.ensures,
      c.from-4.ensures,
      c.counted-7.ensures,
      c.or_none-2.ensures,
      c.or_none-3.ensures,
      c.or_none-4.ensures,
      c.or_none-5.ensures,
      c.or_none-6.ensures,
    )
