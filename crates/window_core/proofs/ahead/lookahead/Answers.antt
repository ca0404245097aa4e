use Rattle.std.proofs.Common.{◌≤◌, length, List, sym, ap, ◌∙◌, arith}
use Rattle.std.proofs.lemmas.List.{drop_all}
use Rattle.net_machine.specs.declared.places.LinkEnds.{LinkEnds}
use Rattle.net_partition.specs.Partition.{group_in}
use Rattle.window_law.specs.Lookahead.{lesser}
use Rattle.window_core.proofs.Aheads.{ahead, ahead_is, lesser_none}
use Rattle.window_core.proofs.ahead.lookahead.Goals as goal

pub returns : goal.returns
returns c = λ parts are.
    let links = c.args.links.now in
    let group = group_in c.args.partition.now in
    let past : length links ≤ c.loop-link.link-index = omega (arith, c.loop-link-test.false) in
    sym (lesser_none c.loop-link.least)
    ∙ ap (λ (rest : List LinkEnds). lesser c.loop-link.least (ahead group rest)) (sym (drop_all c.loop-link.link-index links past))
    ∙ c.loop-link.invariant ∙ ahead_is group parts links are
