use Rattle.std.proofs.Common.{[], length, sym, ap, ◌∙◌, arith}
use Rattle.line_merge.specs.Sheaves.{SheafValue, merged}
use Rattle.window_law.specs.Windows.{in_order}
use Rattle.window_law.proofs.InOrder.{in_order_already}
use Rattle.window_core.proofs.Emptied.{none_in_all, apart_of_none}
use Rattle.window_core.proofs.giving.give_back.Goals as goal

pub of_lists-requires-clause-few : goal.of_lists-requires-clause-few
of_lists-requires-clause-few c =
    let few = c.give_all.ensures.few in
    let were = c.take_lists-lists.ensures.few in
    omega (arith, few, were)

pub of_lists-requires-clause-apart : goal.of_lists-requires-clause-apart
of_lists-requires-clause-apart c = apart_of_none c.give_all.new.lists.items c.give_all.ensures.none

pub of_lists-requires-clause-count : goal.of_lists-requires-clause-count
of_lists-requires-clause-count c = sym (ap length (none_in_all c.give_all.new.lists.items c.give_all.ensures.none))

pub returns-clause-empty : goal.returns-clause-empty
returns-clause-empty c =
    ap (λ (s : SheafValue). (merged s).lines) c.of_lists.ensures
    ∙ ap in_order (none_in_all c.give_all.new.lists.items c.give_all.ensures.none)
    ∙ in_order_already [] tt
