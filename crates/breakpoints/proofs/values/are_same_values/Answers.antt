use Rattle.std.proofs.Common.{rules, ◌≡◌, Bool, true, false, ◌&&◌, refl, sym, ap, ◌∙◌, true≢false, Option}
use Rattle.std.proofs.lemmas.Slice.Eq.{slice_eq-Decides}
use Rattle.std.specs.Option.{option_eq}
use Rattle.std.specs.Prelude.{◌↔◌, IsTrue}
use Rattle.breakpoints.specs.contracts.values.AskedPartialEq.TheImpl as asked
use Rattle.breakpoints.specs.contracts.values.ValueOfPartialEq.TheImpl as changed
use Rattle.breakpoints.specs.declared.values.Asked.{Asked}
use Rattle.breakpoints.specs.declared.values.ValueOf.{ValueOf}
use Rattle.breakpoints.specs.declared.values.Values.{Values}
use Rattle.breakpoints.proofs.values.are_same_values.Goals as goal

same_asked : (a b : Option Asked) → IsTrue (option_eq asked.eq-value.it a b) ↔ (a ≡ b)
same_asked a b = search rules

same_changed : (a b : Option ValueOf) → IsTrue (option_eq changed.eq-value.it a b) ↔ (a ≡ b)
same_changed a b = search rules

both : (p q : Bool) {P Q : Type 0} → (IsTrue p ↔ P) → (IsTrue q ↔ Q) → IsTrue (p && q) ↔ (P × Q)
both true q one two = (λ t. (one.0 refl, two.0 t), λ h. two.1 h.1)
both false q one two = (λ t. absurd (true≢false (sym t)), λ h. one.1 h.0)

pub returns : goal.returns
returns c =
    let two = both _ _ (slice_eq-Decides same_asked c.args.a.now.asked c.args.b.now.asked _ refl) (same_changed c.args.a.now.change c.args.b.now.change) in (
      λ t. let h = two.0 (sym c.eq.ensures ∙ t) in λ i. record { asked = h.0 i; change = h.1 i },
      λ (e : c.args.a.now ≡ c.args.b.now). c.eq.ensures ∙ two.1 (ap (λ (v : Values). v.asked) e, ap (λ (v : Values). v.change) e),
    )
