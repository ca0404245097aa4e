use Rattle.std.proofs.Common.{refl, inl, inr}
use Rattle.scenario_image.proofs.scenario.first_fault.Goals as goal

pub returns-then-not-paths_are_simple : goal.returns-then-not-paths_are_simple
returns-then-not-paths_are_simple c =
    inr (
      c.if-not-is_in_limits.ensures.0 refl,
      inr (
        c.if-not-has_its_ends.ensures.0 refl,
        inr (c.if-not-has_its_kinds.ensures.0 refl, inr (c.if-not-paths_are_unbroken.ensures.0 refl, inl (refl, λ simple. let holds = c.if-not-paths_are_simple.ensures.1 simple in cc))),
      ),
    )
