-- What is read of an image and of a text.
use mathlib.Core.Bool.{false≢true}
use Rattle.std.proofs.Common.{◌≡◌, ◌⊎◌, inl, inr, ℕ, Bool, true, false, MatchBool, List, [], ◌∷◌, Result, Ok, Err, IfOk, IfErr, IsErrOf, refl, sym, ◌∙◌, ap, subst}
use Rattle.std.specs.Result.{is_ok, result_ok, result_err}
use Rattle.scenario_image.specs.Fault.{IsFirstNotFree}
use Rattle.scenario_image.specs.Image.{IsImage}
use Rattle.scenario_image.specs.ImageFault.{IsFirstByteFault, AreBytesFreeOf, judged_byte_faults}
use Rattle.scenario_image.specs.Scenario.{IsScenario}
use Rattle.scenario_image.specs.declared.fault.LoadFault.{LoadFault}
use Rattle.scenario_image.specs.declared.fault.LoadFault.TheVariants.{NoMemory as image_NoMemory}
use Rattle.scenario_image.specs.declared.parts.ScenarioParts.{ScenarioParts}
use Rattle.scenario_asm.specs.Meaning.{MeansScenario, MeansFault}
use Rattle.scenario_asm.specs.declared.fault.Fault.{Fault}
use Rattle.scenario_asm.specs.declared.fault.AsmFault.{AsmFault}
use Rattle.scenario_asm.specs.declared.fault.AsmFault.TheVariants.{At, NoMemory as text_NoMemory}
use Rattle.sessions.specs.declared.fault.SessionFault.{SessionFault}
use Rattle.sessions.specs.declared.fault.SessionFault.TheVariants.{Refused, RefusedImage, NoMemory}
use Rattle.sessions.specs.Faults.{of_image, of_text}
use Rattle.sessions.specs.Input.{is_image, IsImageOf, IsImageFault, IsTextFault, InputHasScenario, InputHasFault, Reads}
use Rattle.command_line.proofs.Options.{same_some}

ok_err : {T E : Type 0} (value : T) (error : E) → ◌≡◌ {A = Result T E} (Ok value) (Err error) → ⊥
ok_err value error is = false≢true (ap is_ok (sym is))

same_ok : {T E : Type 0} (one other : T) → ◌≡◌ {A = Result T E} (Ok one) (Ok other) → one ≡ other
same_ok one other is = same_some one other (ap result_ok is)

same_err : {T E : Type 0} (one other : E) → ◌≡◌ {A = Result T E} (Err one) (Err other) → one ≡ other
same_err one other is = same_some one other (ap result_err is)

abbrev Read : Type 0
Read = Result ScenarioParts SessionFault

-- one reading is another
abbrev Same : Read → Read → Type 0
Same read other = read ≡ other

abbrev Assembled : Type 0
Assembled = Result ScenarioParts AsmFault

abbrev SameMade : Assembled → Assembled → Type 0
SameMade made other = made ≡ other

-- what the loader says of bytes
pub record Loads (bytes : List ℕ) (loaded : Result ScenarioParts LoadFault) : Type 0 where
  pub ok : IfOk loaded (IsImage bytes)
  pub only : (parts : ScenarioParts) → IsScenario parts → IsImage bytes parts → IfOk loaded (λ other. other ≡ parts) × IfErr loaded (λ fault. fault ≡ image_NoMemory)
  pub fault : IfErr loaded (λ fault. (fault ≡ image_NoMemory) ⊎ IsFirstByteFault bytes fault)
  pub only_fault : (fault : LoadFault) → IsFirstByteFault bytes fault → IsErrOf loaded fault ⊎ IsErrOf loaded image_NoMemory

is_memory : LoadFault → Bool
is_memory image_NoMemory = true
is_memory _ = false

-- all of these faults are of bytes
AreOfBytes : List LoadFault → Type 0
AreOfBytes [] = Unit {0}
AreOfBytes (fault ∷ faults) = (is_memory fault ≡ false) × AreOfBytes faults

among_bytes : (IsFree : LoadFault → Type 0) (faults : List LoadFault) (fault : LoadFault) → AreOfBytes faults → IsFirstNotFree IsFree faults fault → is_memory fault ≡ false
unfolding AreOfBytes
among_bytes IsFree [] fault all first = absurd first
among_bytes IsFree (next ∷ later) fault all first = elim first [ inl is ↦ ap is_memory is.0 ∙ all.0 | inr more ↦ among_bytes IsFree later fault all.1 more.1 ]

-- want of memory is no fault of bytes
of_bytes : (bytes : List ℕ) (fault : LoadFault) → IsFirstByteFault bytes fault → is_memory fault ≡ false
unfolding AreOfBytes is_memory
of_bytes bytes fault first =
    among_bytes (AreBytesFreeOf bytes) judged_byte_faults fault (refl, (refl, (refl, (refl, (refl, (refl, (refl, (refl, tt)))))))) first

reported_fault : (fault : LoadFault) → is_memory fault ≡ false → of_image fault ≡ RefusedImage fault
unfolding is_memory
reported_fault image_NoMemory is = absurd (false≢true (sym is))
reported_fault _ is = refl

-- the image was loaded
pub image_read : (bytes : List ℕ) (parts : ScenarioParts) (loaded : Result ScenarioParts LoadFault) → loaded ≡ Ok parts → IsScenario parts → Loads bytes loaded
    → Reads (IsImageOf bytes) (IsImageFault bytes) (Ok parts)
image_read bytes parts loaded is right says = go (subst (Loads bytes) is says)
  where
    no_fault : Loads bytes (Ok parts) → (fault : SessionFault) → IsImageFault bytes fault → Same (Ok parts) (Err fault) ⊎ Same (Ok parts) (Err NoMemory)
    no_fault says (RefusedImage fault) has = elim (says.only_fault fault has) [ inl e ↦ absurd (ok_err parts fault e) | inr e ↦ absurd (ok_err parts image_NoMemory e) ]
    no_fault says _ has = absurd has

    go : Loads bytes (Ok parts) → Reads (IsImageOf bytes) (IsImageFault bytes) (Ok parts)
    go says = record {
      scenario = (right, says.ok);
      only_scenario = λ other means. inl (ap Ok (says.only other means.0 means.1).0);
      fault = tt;
      only_fault = no_fault says;
    }

-- the image was refused
pub image_refused : (bytes : List ℕ) (fault : LoadFault) (loaded : Result ScenarioParts LoadFault) → loaded ≡ Err fault → Loads bytes loaded
    → Reads (IsImageOf bytes) (IsImageFault bytes) (Err (of_image fault))
image_refused bytes fault loaded is says = go (subst (Loads bytes) is says)
  where
    found : (fault : LoadFault) → (fault ≡ image_NoMemory) ⊎ IsFirstByteFault bytes fault → (of_image fault ≡ NoMemory) ⊎ IsImageFault bytes (of_image fault)
    found fault has = elim has [
      | inl short ↦ inl (ap of_image short)
      | inr first ↦ inr (subst (IsImageFault bytes) (sym (reported_fault fault (of_bytes bytes fault first))) first)
    ]

    only : Loads bytes (Err fault) → (other : SessionFault) → IsImageFault bytes other → Same (Err (of_image fault)) (Err other) ⊎ Same (Err (of_image fault)) (Err NoMemory)
    only says (RefusedImage other) has = elim (says.only_fault other has) [
      | inl is ↦ inl (ap Err (ap of_image (same_err fault other is) ∙ reported_fault other (of_bytes bytes other has)))
      | inr is ↦ inr (ap Err (ap of_image (same_err fault image_NoMemory is)))
    ]
    only says _ has = absurd has

    go : Loads bytes (Err fault) → Reads (IsImageOf bytes) (IsImageFault bytes) (Err (of_image fault))
    go says = record {
      scenario = tt;
      only_scenario = λ parts means. inr (ap Err (ap of_image (says.only parts means.0 means.1).1));
      fault = found fault says.fault;
      only_fault = only says;
    }

-- what the assembler says of a text
pub record Assembles (text : List ℕ) (made : Result ScenarioParts AsmFault) : Type 0 where
  pub scenario : IfOk made (MeansScenario text)
  pub only_scenario : (parts : ScenarioParts) → MeansScenario text parts → (made ≡ Ok parts) ⊎ (made ≡ Err text_NoMemory)
  pub fault : (number : ℕ) (fault : Fault) → IsErrOf made (At number fault) → MeansFault text number fault
  pub only_fault : (number : ℕ) (fault : Fault) → MeansFault text number fault → (made ≡ Err (At number fault)) ⊎ (made ≡ Err text_NoMemory)

-- the text was assembled
pub text_read : (text : List ℕ) (parts : ScenarioParts) (made : Result ScenarioParts AsmFault) → made ≡ Ok parts → Assembles text made → Reads (MeansScenario text) (IsTextFault text) (Ok parts)
text_read text parts made is says = go (subst (Assembles text) is says)
  where
    meant : (other : ScenarioParts) → SameMade (Ok parts) (Ok other) ⊎ SameMade (Ok parts) (Err text_NoMemory) → Same (Ok parts) (Ok other) ⊎ Same (Ok parts) (Err NoMemory)
    meant other answer = elim answer [ inl e ↦ inl (ap Ok (same_ok parts other e)) | inr e ↦ absurd (ok_err parts text_NoMemory e) ]

    no_fault : Assembles text (Ok parts) → (fault : SessionFault) → IsTextFault text fault → Same (Ok parts) (Err fault) ⊎ Same (Ok parts) (Err NoMemory)
    no_fault says (Refused line fault) has = elim (says.only_fault line fault has) [ inl e ↦ absurd (ok_err parts (At line fault) e) | inr e ↦ absurd (ok_err parts text_NoMemory e) ]
    no_fault says _ has = absurd has

    go : Assembles text (Ok parts) → Reads (MeansScenario text) (IsTextFault text) (Ok parts)
    go says = record { scenario = says.scenario; only_scenario = λ other means. meant other (says.only_scenario other means); fault = tt; only_fault = no_fault says }

-- the text was refused
pub text_refused : (text : List ℕ) (fault : AsmFault) (made : Result ScenarioParts AsmFault) → made ≡ Err fault → Assembles text made → Reads (MeansScenario text) (IsTextFault text) (Err (of_text fault))
text_refused text fault made is says = go fault (subst (Assembles text) is says)
  where
    meant : (fault : AsmFault) (parts : ScenarioParts) → SameMade (Err fault) (Ok parts) ⊎ SameMade (Err fault) (Err text_NoMemory) → Same (Err (of_text fault)) (Ok parts) ⊎ Same (Err (of_text fault)) (Err NoMemory)
    meant fault parts answer = elim answer [ inl e ↦ absurd (ok_err parts fault (sym e)) | inr e ↦ inr (ap Err (ap of_text (same_err fault text_NoMemory e))) ]

    only : (fault : AsmFault) → Assembles text (Err fault) → (other : SessionFault) → IsTextFault text other → Same (Err (of_text fault)) (Err other) ⊎ Same (Err (of_text fault)) (Err NoMemory)
    only fault says (Refused line other) has = elim (says.only_fault line other has) [
      | inl e ↦ inl (ap Err (ap of_text (same_err fault (At line other) e)))
      | inr e ↦ inr (ap Err (ap of_text (same_err fault text_NoMemory e)))
    ]
    only fault says _ has = absurd has

    go : (fault : AsmFault) → Assembles text (Err fault) → Reads (MeansScenario text) (IsTextFault text) (Err (of_text fault))
    go (At line fault) says = record {
      scenario = tt;
      only_scenario = λ parts means. meant (At line fault) parts (says.only_scenario parts means);
      fault = inr (says.fault line fault refl);
      only_fault = only (At line fault) says;
    }
    go text_NoMemory says = record {
      scenario = tt;
      only_scenario = λ parts means. inr refl;
      fault = inl refl;
      only_fault = only text_NoMemory says;
    }

-- what is read by the input's kind
by_kind : (input : List ℕ) (read : Result ScenarioParts SessionFault) (kind : Bool) → is_image input ≡ kind
    → Reads (λ parts. MatchBool kind (IsImageOf input parts) (MeansScenario input parts)) (λ fault. MatchBool kind (IsImageFault input fault) (IsTextFault input fault)) read
    → Reads (InputHasScenario input) (InputHasFault input) read
by_kind input read kind is says =
    let P : Bool → Type 0 = λ k. Reads (λ parts. MatchBool k (IsImageOf input parts) (MeansScenario input parts)) (λ fault. MatchBool k (IsImageFault input fault) (IsTextFault input fault)) read in
    subst P (sym is) says
