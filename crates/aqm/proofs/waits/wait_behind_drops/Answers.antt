use Rattle.std.proofs.Common.{◌-◌, ℕ, sym, ap, ◌∙◌, Some}
use Rattle.std.specs.Option.{option_map}
use Rattle.packet_chain.specs.Stamped.{Stamped}
use Rattle.aqm.specs.declared.queue.Queue.TheVariants.{Codel}
use Rattle.aqm.proofs.Given.{wait_is}
use Rattle.aqm.proofs.waits.wait_behind_drops.Goals as goal

pub returns-in-Some-clause-value : goal.returns-in-Some-clause-value
returns-in-Some-clause-value c =
    ap Some c.saturating_sub.ensures ∙ ap (option_map {U = ℕ} (λ (cell : Stamped). c.args.now - cell.1)) (sym c.in-Some.is)
    ∙ wait_is (Codel c.args.queue.now) c.args.now c.drops_at-drops.result c.packets.result c.nth.result c.nth.new.self c.packets.ensures.rest c.drops_at-drops.ensures.value c.nth.ensures.ran

pub returns-in-None-clause-value : goal.returns-in-None-clause-value
returns-in-None-clause-value c =
    ap (option_map {U = ℕ} (λ (cell : Stamped). c.args.now - cell.1)) (sym c.in-None.is)
    ∙ wait_is (Codel c.args.queue.now) c.args.now c.drops_at-drops.result c.packets.result c.nth.result c.nth.new.self c.packets.ensures.rest c.drops_at-drops.ensures.value c.nth.ensures.ran
