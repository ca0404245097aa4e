-- What a text means is what its lines mean, and what a session over its scenario puts out of an input.
use Rattle.std.proofs.Common.{◌≡◌, ℕ, List, inl, inr, sym, subst, ◌∙◌}
use Rattle.scenario_image.specs.declared.parts.ScenarioParts.{ScenarioParts}
use Rattle.scenario_asm.specs.declared.fault.Fault.{Fault}
use Rattle.scenario_asm.specs.Lines.{lines_of_text}
use Rattle.scenario_asm.specs.Meaning.{AreRead, MeansScenario, MeansFault}
use Rattle.prompt_words.specs.Input.{text_lines}
use Rattle.debug_session.specs.Sessions.{HasScenario, HasFault}

-- texts of the same lines mean the same
pub same_scenario : (a b : List ℕ) (p : ScenarioParts) → lines_of_text a ≡ lines_of_text b → MeansScenario a p → MeansScenario b p
same_scenario a b p same m = record { said = m.said; all_read = subst (λ ls. AreRead ls m.said) same m.all_read; made = m.made }

pub same_fault : (a b : List ℕ) (number : ℕ) (fault : Fault) → lines_of_text a ≡ lines_of_text b → MeansFault a number fault → MeansFault b number fault
same_fault a b number fault same (inl m) = inl (record { above = m.above; line = m.line; below = m.below; said = m.said; lines = sym same ∙ m.lines; counted = m.counted; above_read = m.above_read; faulty = m.faulty })
same_fault a b number fault same (inr m) = inr (record { said = m.said; all_read = subst (λ ls. AreRead ls m.said) same m.all_read; no_line = m.no_line; faulty = m.faulty })

pub scenario_of : (input text : List ℕ) (p : ScenarioParts) → lines_of_text text ≡ text_lines input → HasScenario input p → MeansScenario text p
scenario_of input text p same (other, lines, means) = same_scenario other text p (lines ∙ sym same) means

pub fault_of : (input text : List ℕ) (number : ℕ) (fault : Fault) → lines_of_text text ≡ text_lines input → HasFault input number fault → MeansFault text number fault
fault_of input text number fault same (other, lines, means) = same_fault other text number fault (lines ∙ sym same) means
