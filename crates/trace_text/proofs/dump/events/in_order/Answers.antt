use Rattle.std.proofs.Common.{◌≡◌, List, subst, rules}
use Rattle.std.proofs.lemmas.List.Sorted.{answers_always}
use Rattle.std.specs.List.Sorted.{IsStableByKey}
use Rattle.sim_time.specs.declared.key.Key.{Key}
use Rattle.sim_time.specs.Keys.{key_cmp}
use Rattle.node_core.specs.declared.event.Event.{Event}
use Rattle.node_core.specs.declared.event.Event.TheVariants.{Start}
use Rattle.net_machine.specs.Nodes.{pendings}
use Rattle.trace_text.proofs.InKeyOrder.{in_key_order}
use Rattle.trace_text.proofs.dump.events.in_order.Goals as goal

pub returns : goal.returns
returns c =
    let key : Key × Event → Key = λ e. e.0 in
    let computes = answers_always _ (λ a r. r ≡ key a.0.now) _ (λ f a r f' k. search rules) in
    in_key_order (λ (k : Key). k.node) (Start 0) (pendings c.args.nodes.now) c.sort_by_key.new.self.items c.requires.at_home
    (c.in_ok-sort_by_key.ensures.sorted key computes)
    (subst (λ (all : List (Key × Event)). IsStableByKey key key_cmp all c.sort_by_key.new.self.items) c.in_ok-all.ensures (c.sort_by_key.ensures.stable key computes))
