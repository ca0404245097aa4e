-- The canonical text means its scenario, by the law of canonical texts.
use Rattle.std.proofs.Common.{ℕ, List, ap, sym, ◌∙◌, subst}
use Rattle.std.proofs.lemmas.Result.{IfOk-weaker}
use Rattle.scenario_asm.specs.CanonicalText.{canonical_text}
use Rattle.scenario_asm.specs.Meaning.{MeansScenario}
use Rattle.scenario_asm.proofs.CanonicalMeaning.{canonical_meaning}
use Rattle.scenario_asm.proofs.disassembler.disassemble.Goals as goal

pub returns-clause-meaning : goal.returns-clause-meaning
returns-clause-meaning c =
    let s = c.args.scenario.now in
    let P : List ℕ → Type 0 = λ bytes. MeansScenario bytes s in
    IfOk-weaker _ _ _ (λ text is. subst P (sym (is ∙ ap canonical_text c.parts.ensures.value)) (canonical_meaning s c.parts.ensures.scenario)) c.text_of.ensures
