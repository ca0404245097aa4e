use Rattle.std.proofs.Common.{◌∙◌, Some, sym, ap, set}
use Rattle.node_core.specs.TraceLine.{shown}
use Rattle.net_machine.proofs.Regions.{has_link, chain_within, all_emptied, may_go, gone_happened}
use Rattle.net_machine.proofs.region.run_event.Goals as goal

pub link_of-requires-clause-index : goal.link_of-requires-clause-index
link_of-requires-clause-index g c =
    let R = g.R.Region in
    let index_is = ap Some c.from-index.ensures ∙ sym c.in-Some.is ∙ c.in_ok-index.ensures.leaving in
    has_link R.nodes R.put (R.can_take c.args.links.now) (R.takes c.args.links.now) c.args.links.now c.args.region.now c.run_at.new.self (R.number_at c.args.region.now c.args.at) c.args.out.now c.run_at.new.out (shown c.run_at.new.line) c.requires.can_run c.requires.can_go_on c.requires.empty c.in_ok-index.ensures.fired c.in_ok-index.ensures.put c.from-index.result index_is (R.number_at c.run_at.new.self c.args.at) c.in_ok-index.ensures.stays

pub chain-packets-requires : goal.chain-packets-requires
chain-packets-requires g c =
    let R = g.R.Region in
    let index_is = ap Some c.from-index.ensures ∙ sym c.in-Some.is ∙ c.in_ok-index.ensures.leaving in
    chain_within R.nodes R.put (R.can_take c.args.links.now) (R.takes c.args.links.now) c.args.links.now c.args.region.now c.run_at.new.self (R.number_at c.args.region.now c.args.at) c.args.out.now c.run_at.new.out (shown c.run_at.new.line) c.requires.can_run c.requires.can_go_on c.requires.empty c.in_ok-index.ensures.fired c.in_ok-index.ensures.put c.from-index.result index_is

pub pass_on-requires-clause-can : goal.pass_on-requires-clause-can
pass_on-requires-clause-can g c =
    let R = g.R.Region in
    let index_is = ap Some c.from-index.ensures ∙ sym c.in-Some.is ∙ c.in_ok-index.ensures.leaving in
    may_go R.nodes R.put (R.can_take c.args.links.now) (R.takes c.args.links.now) c.args.links.now c.args.region.now c.run_at.new.self (R.number_at c.args.region.now c.args.at) c.args.out.now c.run_at.new.out (shown c.run_at.new.line) c.requires.can_run c.requires.can_go_on c.requires.empty c.in_ok-index.ensures.fired c.in_ok-index.ensures.put c.from-index.result index_is (R.number_at c.run_at.new.self c.args.at) c.in_ok-index.ensures.stays c.from-link.result c.link_of.result c.chain-packets.result.now c.from-link.ensures c.link_of.ensures c.chain-packets.ensures.value

pub returns-in-Some-clause-ok : goal.returns-in-Some-clause-ok
returns-in-Some-clause-ok g c =
    let R = g.R.Region in
    let index_is = ap Some c.from-index.ensures ∙ sym c.in-Some.is ∙ c.in_ok-index.ensures.leaving in
    gone_happened R.nodes R.put (R.can_take c.args.links.now) (R.takes c.args.links.now) c.args.links.now c.args.region.now c.run_at.new.self (R.number_at c.args.region.now c.args.at) c.args.out.now c.run_at.new.out (shown c.run_at.new.line) c.requires.can_run c.requires.can_go_on c.requires.empty c.in_ok-index.ensures.fired c.in_ok-index.ensures.put c.from-index.result index_is (R.number_at c.run_at.new.self c.args.at) c.in_ok-index.ensures.stays c.from-link.result c.link_of.result c.chain-packets.result.now c.from-link.ensures c.link_of.ensures c.chain-packets.ensures.value c.pass_on.new.self c.pass_on.ensures.taken

pub returns-in-Some-clause-empty : goal.returns-in-Some-clause-empty
returns-in-Some-clause-empty g c =
    let R = g.R.Region in
    let index_is = ap Some c.from-index.ensures ∙ sym c.in-Some.is ∙ c.in_ok-index.ensures.leaving in
    ap (set c.run_at.new.out c.from-index.result) c.pass_on.ensures.emptied ∙ all_emptied R.nodes R.put (R.can_take c.args.links.now) (R.takes c.args.links.now) c.args.links.now c.args.region.now c.run_at.new.self (R.number_at c.args.region.now c.args.at) c.args.out.now c.run_at.new.out (shown c.run_at.new.line) c.requires.can_run c.requires.can_go_on c.requires.empty c.in_ok-index.ensures.fired c.in_ok-index.ensures.put c.from-index.result index_is
