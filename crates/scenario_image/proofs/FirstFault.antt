-- Parts have one first fault at most.
use Rattle.std.proofs.Common.{◌≡◌, List, [], ◌∷◌, inl, inr, ◌∙◌, sym}
use Rattle.scenario_image.specs.Fault.{IsFreeOf, IsFirstNotFree, IsFirstOf, IsFirstFault}
use Rattle.scenario_image.specs.Scenario.{IsScenario}
use Rattle.scenario_image.specs.declared.fault.LoadFault.{LoadFault}
use Rattle.scenario_image.specs.declared.parts.ScenarioParts.{ScenarioParts}

-- two faults that are each the first of a list that something is not free of are one
pub one_not_free : (IsFree : LoadFault → Type 0) (faults : List LoadFault) (a b : LoadFault) → IsFirstNotFree IsFree faults a → IsFirstNotFree IsFree faults b → a ≡ b
one_not_free IsFree [] a b first_a first_b = absurd first_a
one_not_free IsFree (next ∷ later) a b (inl (is_a, _)) (inl (is_b, _)) = is_a ∙ sym is_b
one_not_free IsFree (next ∷ later) a b (inl (_, not_free)) (inr (free, _)) = absurd (not_free free)
one_not_free IsFree (next ∷ later) a b (inr (free, _)) (inl (_, not_free)) = absurd (not_free free)
one_not_free IsFree (next ∷ later) a b (inr (_, in_later)) (inr (_, in_later')) = one_not_free IsFree later a b in_later in_later'

-- two faults that are each the first of a list that parts are not free of are one
pub one_first : (parts : ScenarioParts) (faults : List LoadFault) (a b : LoadFault) → IsFirstOf parts faults a → IsFirstOf parts faults b → a ≡ b
one_first parts faults a b first_a first_b = one_not_free (IsFreeOf parts) faults a b first_a first_b

-- a scenario has no fault
pub no_fault : (parts : ScenarioParts) (fault : LoadFault) → IsScenario parts → ¬ IsFirstFault parts fault
no_fault parts fault scenario (inl (_, not_free)) = not_free scenario.in_limits
no_fault parts fault scenario (inr (_, inl (_, not_free))) = not_free scenario.ends
no_fault parts fault scenario (inr (_, inr (_, inl (_, not_free)))) = not_free scenario.kinds
no_fault parts fault scenario (inr (_, inr (_, inr (_, inl (_, not_free))))) = not_free scenario.unbroken
no_fault parts fault scenario (inr (_, inr (_, inr (_, inr (_, inl (_, not_free)))))) = not_free scenario.simple
no_fault parts fault scenario (inr (_, inr (_, inr (_, inr (_, inr (_, none)))))) = none
