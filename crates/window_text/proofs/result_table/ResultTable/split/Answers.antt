use Rattle.std.proofs.Common.{sym, ap, ◌∙◌}
use Rattle.window_text.proofs.ResultTables.{splits}
use Rattle.window_text.proofs.result_table.ResultTable.split.Goals as goal

pub split_seat-other-requires : goal.split_seat-other-requires
split_seat-other-requires c = (c.ticket.view_is ∙ (c.requires ∙ sym (ap (λ d. d.table) c.self.view_is)), c.self.invariant.1, splits _ _ _ _ _)
