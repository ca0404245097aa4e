use Rattle.std.proofs.Common.{◌<◌, ◌+◌, ◌*◌, ◌/◌, ◌^◌, sym, ap, subst}
use Rattle.figures.specs.Classes.{class_of as class_is, halvings}
use Rattle.figures.proofs.ClassBounds.{class_within}
use Rattle.figures.proofs.classes.class_of.Goals as goal

pub returns-clause-class : goal.returns-clause-class
unfolding class_is halvings
returns-clause-class c = ap (λ h. 32 * h + c.args.value / 2 ^ h) c.saturating_sub-halvings.ensures

pub returns-clause-within : goal.returns-clause-within
returns-clause-within c = subst (λ k. k < 1472) (sym (returns-clause-class c)) (class_within c.args.value c.requires)
