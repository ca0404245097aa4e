use Rattle.std.proofs.Common.{arith}
use Rattle.std.proofs.lemmas.List.{get_or_read}
use Rattle.figures.proofs.tally.count_first.Goals as goal

pub overflow_add-index_mut : goal.overflow_add-index_mut
overflow_add-index_mut c =
    let same = c.in-Ok.ensures.same c.args.class in
    let read = get_or_read c.grow.new.counts.items c.args.class c.index_mut.result.now c.in-Ok.ensures.long c.index_mut.ensures.value 0 in
    omega (arith, same, read, c.requires.few)
