use Rattle.std.proofs.Common.{◌≡◌, ◌∙◌, true, sym, ap}
use Rattle.aqm.specs.Codel.{CodelState}
use Rattle.aqm.proofs.Front.{drops_in_drop_state}
use Rattle.aqm.proofs.codel.Codel.drops_above.Goals as goal

pub returns-then-self : goal.returns-then-self
returns-then-self c =
    let on : c.args.self.now.dropping ≡ true = ap (λ (s : CodelState). s.dropping) (sym c.self.view_is) ∙ c.if-self.true in
    c.drops_due.ensures ∙ sym (drops_in_drop_state c.args.self.now c.args.now on)
