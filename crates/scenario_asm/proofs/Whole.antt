-- What a text is answered whose lines are right.
use Rattle.std.proofs.Common.{◌≡◌, ◌≢◌, inl, inr, ℕ, List, [], ◌∷◌, Err, ap, sym, ◌∙◌, subst}
use Rattle.scenario_image.specs.Fault.{IsFreeOf, judged_faults, IsFirstOf, IsFirstFault}
use Rattle.scenario_image.specs.declared.fault.LoadFault.{LoadFault}
use Rattle.scenario_image.specs.declared.fault.LoadFault.TheVariants.{L1, L2, L4, L6}
use Rattle.scenario_image.specs.declared.parts.ScenarioParts.{ScenarioParts}
use Rattle.scenario_asm.specs.declared.fault.AsmFault.{AsmFault}
use Rattle.scenario_asm.specs.declared.fault.AsmFault.TheVariants.{At, NoMemory}
use Rattle.scenario_asm.specs.declared.draft.Draft.{Draft}
use Rattle.scenario_asm.specs.declared.draft.Ends.{Ends}
use Rattle.scenario_asm.specs.declared.draft.Ends.TheVariants.{Set}
use Rattle.scenario_asm.specs.declared.statement.Statement.{Statement}
use Rattle.scenario_asm.specs.Draft.{HasTheseEnds, Holds, IsWholeAnswer, WholeGives}
use Rattle.scenario_asm.specs.Right.{AreOfKinds}
use Rattle.scenario_asm.specs.Names.{Known, known_parts}
use Rattle.scenario_asm.specs.Table.{known_in}
use Rattle.scenario_asm.specs.Text.{parts_of_statements}
use Rattle.scenario_asm.proofs.OfKinds.{has_its_kinds}

-- parts are not free of their first fault
pub not_free : (parts : ScenarioParts) (faults : List LoadFault) (fault : LoadFault) → IsFirstOf parts faults fault → IsFreeOf parts fault → ⊥
not_free parts [] fault first free = first
not_free parts (next ∷ later) fault (inl first) free = first.1 (subst (IsFreeOf parts) first.0 free)
not_free parts (next ∷ later) fault (inr first) free = not_free parts later fault first.1 free

-- only bytes have these faults
pub no_byte_fault : (parts : ScenarioParts) (fault : LoadFault) → IsFirstFault parts fault → (fault ≢ L1) × (fault ≢ L2) × (fault ≢ L4)
no_byte_fault parts fault first = (
  λ is. not_free parts judged_faults fault first (subst (IsFreeOf parts) (sym is) tt),
  λ is. not_free parts judged_faults fault first (subst (IsFreeOf parts) (sym is) tt),
  λ is. not_free parts judged_faults fault first (subst (IsFreeOf parts) (sym is) tt),
)

-- that a node is of the wrong kind shows in a line
pub no_wrong_kind : (end : ℕ) (known : Known) (parts : ScenarioParts) (fault : LoadFault) → AreOfKinds known → parts ≡ known_parts end known → IsFirstFault parts fault → fault ≡ L6 → ⊥
no_wrong_kind end known parts fault kinds are first is =
    not_free parts judged_faults fault first (subst (IsFreeOf parts) (sym is) (let P : ScenarioParts → Type 0 = λ p. IsFreeOf p L6 in subst P (sym are) (has_its_kinds end known kinds)))

set_end : (ends : Ends) (end : ℕ) (said : List ℕ) → ends ≡ Set end → HasTheseEnds ends said → said ≡ end ∷ []
set_end ends end said is are = let there : HasTheseEnds (Set end) said = let P : Ends → Type 0 = λ e. HasTheseEnds e said in subst P is are in there

-- the parts of a draft with an end
pub whole_err : (draft : Draft) (statements : List Statement) (end : ℕ) (parts : ScenarioParts) (load : LoadFault) (answer : AsmFault) → Holds draft statements → draft.ends ≡ Set end → parts ≡ known_parts end (known_in draft.table) → IsFirstFault parts load → IsWholeAnswer load answer → WholeGives statements (Err answer)
whole_err draft statements end parts load (At number fault) held is are first answer =
    let same : parts ≡ parts_of_statements end statements = are ∙ ap (λ known. known_parts end known) held.known in
    let there : IsFirstFault (parts_of_statements end statements) load = let P : ScenarioParts → Type 0 = λ p. IsFirstFault p load in subst P same first in
    (answer.0, inr (record { end = end; one_end = record { one_end = set_end draft.ends end _ is held.ends }; load = load; first = there; same = answer.1 }))
whole_err draft statements end parts load NoMemory held is are first answer = tt

-- a draft names nodes of the right kinds
pub kinds_held : (draft : Draft) (statements : List Statement) → Holds draft statements → AreOfKinds (known_in draft.table)
kinds_held draft statements held = subst AreOfKinds (sym held.known) held.kinds
