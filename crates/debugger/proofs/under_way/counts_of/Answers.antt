use Rattle.std.proofs.Common.{ℕ, List, ◌∙◌, ap, sym, subst}
use Rattle.debugger.specs.UnderWay.{AreUnderWay, all_counted}
use Rattle.debugger.proofs.Counting.{pending_counted}
use Rattle.debugger.proofs.UnderWay.{none_under_way}
use Rattle.debugger.proofs.under_way.counts_of.Goals as goal

pub returns-in-Ok : goal.returns-in-Ok
returns-in-Ok c =
    let s = c.args.net.now.state in
    let zeros = c.none_counted-counts.result.items in
    subst (λ (counts : List ℕ). AreUnderWay counts s) (sym (c.count_pending.ensures ∙ ap (all_counted zeros) (c.as_slice.ensures.value ∙ c.in-Ok.ensures))) (pending_counted s zeros c.none_counted-counts.ensures)

pub returns-in-Err : goal.returns-in-Err
returns-in-Err c = none_under_way c.none_counted-counts.result.items c.args.net.now.state c.none_counted-counts.ensures
