use Rattle.std.proofs.Common.{◌-◌, ℕ, List, sym, ap, ◌∙◌, Some}
use Rattle.std.specs.Prelude.{slice_get}
use Rattle.std.specs.Option.{option_map}
use Rattle.packet_chain.specs.Stamped.{Stamped}
use Rattle.aqm.proofs.waits.wait_at_head.Goals as goal

pub returns-in-Some-clause-value : goal.returns-in-Some-clause-value
returns-in-Some-clause-value c =
    ap Some c.saturating_sub.ensures
    ∙ sym (ap (λ (xs : List Stamped). option_map {U = ℕ} (λ (cell : Stamped). c.args.now - cell.1) (slice_get xs 0)) (sym c.packets.ensures.rest ∙ c.in-Some.ensures.steps))

pub returns-in-None-clause-value : goal.returns-in-None-clause-value
returns-in-None-clause-value c =
    sym (ap (λ (xs : List Stamped). option_map {U = ℕ} (λ (cell : Stamped). c.args.now - cell.1) (slice_get xs 0)) (sym c.packets.ensures.rest ∙ c.in-None.ensures.steps.0))
