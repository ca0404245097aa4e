use Rattle.std.proofs.Common.{arith, sym, ap, subst, ◌∙◌}
use mathlib.Core.Option.{none}
use Rattle.line_merge.specs.Sheaves.{SheafValue}
use Rattle.window_text.specs.Parts.{IsRight}
use Rattle.window_text.proofs.ResultTables.{takes_place, lays}
use Rattle.window_text.proofs.result_table.ResultTable.lay_down.Goals as goal

pub fetch_or-requires : goal.fetch_or-requires
fetch_or-requires c = (
  c.ticket.view_is ∙ (c.requires.ticket ∙ sym (ap (λ d. d.table) c.self.view_is)),
  omega (arith, c.word_count.ensures, c.if-place-word_count.false),
  takes_place _ _ _ _ 1 _ none (omega (arith, c.word_count.ensures, c.if-place-word_count.false, c.self.invariant.0)),
)

pub fetch_or-requires-2 : goal.fetch_or-requires-2
fetch_or-requires-2 c = (
  c.exchange.ensures.0 ∙ (c.fetch_or.ensures.0 ∙ (c.ticket.view_is ∙ (c.requires.ticket ∙ sym (ap (λ d. d.table) c.self.view_is)))),
  omega (arith, c.word_count.ensures, c.if-place-word_count.false),
  lays _ _ _ _ _ _ c.args.formatter _ (omega (arith, c.word_count.ensures, c.if-place-word_count.false, c.self.invariant.0)) (ap (λ m. m.1) c.exchange.ensures.3)
      (subst (λ (s : SheafValue). IsRight s c.args.formatter) (sym (ap (λ d. d.sheaf) c.self.view_is)) c.requires.right),
)
