use Rattle.std.proofs.Common.{length, sym, ap, ◌∙◌, arith}
use Rattle.line_merge.specs.Ahead.{next_moment_in}
use Rattle.line_merge.proofs.Ahead.{length_ranks, rank_next}
use Rattle.line_merge.proofs.merge.ahead.look_ahead.Goals as goal

pub returns-then-lists-gt-FEW : goal.returns-then-lists-gt-FEW
returns-then-lists-gt-FEW c = record {
  size = c.requires.nexts;
  dates = c.requires.moments;
  places = ap length c.rank_nexts.ensures.ranked ∙ length_ranks c.args.lists.now c.args.nexts.now;
  few = λ few i under. absurd (let many = c.if-lists-gt-FEW.true in omega (arith, few, many));
  many = λ many. c.rank_nexts.ensures.ranked;
}

pub returns-else-lists-gt-FEW : goal.returns-else-lists-gt-FEW
returns-else-lists-gt-FEW c = record {
  size = c.requires.nexts;
  dates = c.date_nexts.auto.moments ∙ c.requires.moments;
  places = c.requires.tournament;
  few = λ few i under. c.date_nexts.ensures i under ∙ ap (next_moment_in i) (sym (rank_next c.args.lists.now c.args.nexts.now i c.requires.nexts));
  many = λ many. absurd (let few = c.if-lists-gt-FEW.false in omega (arith, few, many));
}
