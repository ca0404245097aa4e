use Rattle.std.proofs.Common.{inl, inr, ⊎_elim, sym, refl, ◌∙◌, true≢false}
use Rattle.breakpoints.proofs.seen.changes_link.Goals as goal

pub returns-then-is_free_of : goal.returns-then-is_free_of
returns-then-is_free_of c = λ before is stepped was. (λ t. inl (c.is_free_of.ensures.0 c.if-is_free_of.true), λ h. refl)

pub returns-else-is_free_of : goal.returns-else-is_free_of
returns-else-is_free_of c = λ before is stepped was.
    let other = c.is_offered_more.ensures before is stepped was in
    (λ t. inr (other.0 t), ⊎_elim (λ free. absurd (true≢false (sym (c.is_free_of.ensures.1 free) ∙ c.if-is_free_of.false))) other.1)
