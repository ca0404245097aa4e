-- Where a text's first fault is.
use Rattle.std.proofs.Common.{◌≡◌, ℕ, List, Option, Err, inl, ap, sym, ◌∙◌, subst}
use Rattle.scenario_asm.specs.declared.draft.Draft.{Draft}
use Rattle.scenario_asm.specs.declared.fault.Fault.{Fault}
use Rattle.scenario_asm.specs.declared.lines.RefusedLine.{RefusedLine}
use Rattle.scenario_asm.specs.declared.place.FaultPlace.{FaultPlace}
use Rattle.scenario_asm.specs.Meaning.{IsLineFault}
use Rattle.scenario_asm.specs.Places.{IsPart, IsFaultPlace}
use Rattle.scenario_asm.specs.Refusals.{fault_in, word_in, AllRead, IsRefusedLine}
use Rattle.scenario_asm.proofs.OneMeaning.{one_fault, none_faulty}

-- the place of a line that is refused
pub place_is : (text : List ℕ) (refused : RefusedLine) (place : FaultPlace) (word : Option ℕ) → IsRefusedLine text refused → place.line ≡ refused.number → place.fault ≡ fault_in refused.refusal → place.bytes.now ≡ refused.bytes.now → word ≡ word_in refused.refusal → IsPart refused.bytes.now word place.part → IsFaultPlace text place
place_is text refused place word is number fault bytes worded part =
    let L : List ℕ → Type 0 = λ line. IsPart line word place.part in
    let W : Option ℕ → Type 0 = λ w. IsPart is.first.line w place.part in
    record {
      first =
          record {
            above = is.first.above;
            line = is.first.line;
            below = is.first.below;
            said = is.first.said;
            lines = is.first.lines;
            counted = number ∙ is.first.counted;
            above_read = is.first.above_read;
            faulty = is.first.faulty ∙ ap (λ f. Err f) (sym fault);
          };
      bytes = bytes ∙ is.bytes;
      part = subst W (worded ∙ is.word) (subst L is.bytes part);
    }

-- it is that of the text's first faulty line
pub one_place : (text : List ℕ) (refused : RefusedLine) (m n : ℕ) (f g : Fault) → IsRefusedLine text refused → m ≡ refused.number → f ≡ fault_in refused.refusal → IsLineFault text n g → (m ≡ n) × (f ≡ g)
one_place text refused m n f g is line fault first =
    let same = one_fault text refused.number n (fault_in refused.refusal) g (inl is.first) (inl first) in
    (line ∙ same.0, fault ∙ same.1)

-- no line is faulty where all are read
pub no_place : (text : List ℕ) (draft : Draft) (number : ℕ) (fault : Fault) → AllRead text draft → IsLineFault text number fault → ⊥
no_place text draft number fault all first = none_faulty text number fault all.said first all.read
