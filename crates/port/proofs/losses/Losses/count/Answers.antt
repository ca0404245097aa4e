use Rattle.std.proofs.Common.{◌≡◌, ◌+◌, true, false, refl, ap, ◌∙◌}
use Rattle.port.specs.Losses.{LossState, is_lost}
use Rattle.port.proofs.NextLoss.{moved_on, stayed, none_lost}
use Rattle.port.proofs.losses.Losses.count.Goals as goal

pub invariant_of-self : goal.invariant_of-self
invariant_of-self c = let h = rw c.deref.ensures.value at c.if-lost.ensures in let here = h.0 refl in moved_on _ _ _ c.self.invariant here.0 here.1

pub invariant_of-self-else-lost : goal.invariant_of-self-else-lost
invariant_of-self-else-lost c = let h = rw c.deref.ensures.value at c.if-lost.ensures in stayed _ _ _ c.self.invariant (λ within here. let found : false ≡ true = h.1 (within, here) in cc)

pub returns-else-lost-clause-lost : goal.returns-else-lost-clause-lost
returns-else-lost-clause-lost c =
    let h = rw c.deref.ensures.value at c.if-lost.ensures in
    c.if-lost.false ∙ none_lost _ _ _ c.self.invariant (λ within here. let found : false ≡ true = h.1 (within, here) in cc) ∙ ap (λ (s : LossState). is_lost s.lose (s.offered + 1)) c.self.view_is
