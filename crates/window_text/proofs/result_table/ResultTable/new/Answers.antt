use Rattle.std.proofs.Common.{rules}
use Rattle.window_text.proofs.ResultTables.{starts}
use Rattle.window_text.proofs.result_table.ResultTable.new.Goals as goal

pub vacant-requires : goal.vacant-requires
vacant-requires c = starts _ _ _ _ (search rules)
