use Rattle.std.proofs.Common.{length, ap, ◌∙◌}
use Rattle.line_merge.proofs.Ahead.{length_ranks, some_ranked}
use Rattle.line_merge.proofs.merge.ahead.list_of_least_key.Goals as goal

pub leader-requires : goal.leader-requires
leader-requires c = some_ranked c.args.lists.now c.args.nexts.now c.rank_nexts.new.tournament c.rank_nexts.ensures.ranked c.requires.some

pub returns-clause-tournament : goal.returns-clause-tournament
returns-clause-tournament c = ap length c.rank_nexts.ensures.ranked ∙ length_ranks c.args.lists.now c.args.nexts.now
