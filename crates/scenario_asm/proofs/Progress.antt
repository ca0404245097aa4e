-- How far a text has been read.
use Rattle.std.proofs.Common.{◌≡◌, ℕ, ◌+◌, ◌^◌, ◌<◌, List, [], ◌∷◌, ◌++◌, length, Option, Some, None, IfSome, IfNone, Result, Ok, Err, inl, refl, ap, sym, subst, ◌∙◌, arith, append_assoc, length-append}
use Rattle.std.proofs.lemmas.List.{append-nil}
use Rattle.scenario_image.specs.declared.parts.ScenarioParts.{ScenarioParts}
use Rattle.scenario_asm.specs.declared.fault.Fault.{Fault}
use Rattle.scenario_asm.specs.declared.fault.AsmFault.{AsmFault}
use Rattle.scenario_asm.specs.declared.fault.AsmFault.TheVariants.{At}
use Rattle.scenario_asm.specs.declared.draft.Draft.{Draft}
use Rattle.scenario_asm.specs.declared.statement.Statement.{Statement}
use Rattle.scenario_asm.specs.Lines.{lines_of_text}
use Rattle.scenario_asm.specs.Statements.{line_at}
use Rattle.scenario_asm.specs.Table.{known_in}
use Rattle.scenario_asm.specs.Text.{known_of}
use Rattle.scenario_asm.specs.Draft.{Holds, WholeGives}
use Rattle.scenario_asm.specs.Meaning.{AreRead, statements_of, MeansFault}
use Rattle.scenario_asm.specs.Places.{line_word}
use Rattle.scenario_asm.specs.Refusals.{fault_in, word_in, AllRead, IsRefusedLine}
use Rattle.scenario_asm.specs.declared.lines.RefusedLine.{RefusedLine}
use Rattle.scenario_asm.proofs.OneMeaning.{IsRight, right_at, right_whole}
use Rattle.scenario_asm.proofs.Pieces.{pieces_few}
use Rattle.scenario_asm.proofs.Read.{read_none, read_more}

-- the lines above are read, so many of them, and the draft holds what they say; the rest is below
pub record Progress (text : List ℕ) (draft : Draft) (number : ℕ) (rest : List (List ℕ)) : Type 0 where
  pub above : List (List ℕ)
  pub said : List (Option Statement)
  pub lines : lines_of_text text ≡ above ++ rest
  pub counted : number ≡ length above
  pub read : AreRead above said
  pub holds : Holds draft (statements_of said)

-- before the first line
pub progress_none : (text : List ℕ) (draft : Draft) (rest : List (List ℕ)) → rest ≡ lines_of_text text → Holds draft [] → Progress text draft 0 rest
progress_none text draft rest all holds = record { above = []; said = []; lines = sym all; counted = refl; read = read_none; holds = holds }

pub progress_few : (text : List ℕ) (draft : Draft) (number : ℕ) (line : List ℕ) (rest all : List (List ℕ)) → Progress text draft number all → all ≡ line ∷ rest → length text < 2 ^ 64 → number + 1 < 2 ^ 64
progress_few text draft number line rest all so is short =
    omega (arith, so.counted, ap length so.lines, ap length is, length-append so.above all, pieces_few 10 text)

read_says : (draft : Draft) (said : List (Option Statement)) (line : List ℕ) (says : Option Statement) → Holds draft (statements_of said) → Ok says ≡ line_at (known_in draft.table) line → line_at (known_of (statements_of said)) line ≡ Ok says
read_says draft said line says held read = ap (λ known. line_at known line) (sym held.known) ∙ sym read

next_lines : (text : List ℕ) (above all : List (List ℕ)) (line : List ℕ) (rest : List (List ℕ)) → lines_of_text text ≡ above ++ all → all ≡ line ∷ rest → lines_of_text text ≡ (above ++ line ∷ []) ++ rest
next_lines text above all line rest lines is = rw (append_assoc, ← is) lines

next_count : (above : List (List ℕ)) (line : List ℕ) (number : ℕ) → number ≡ length above → number + 1 ≡ length (above ++ line ∷ [])
next_count above line number is = omega (arith, length-append above (line ∷ []))

-- after one more line
pub progress_more : (text : List ℕ) (draft new : Draft) (number : ℕ) (all : List (List ℕ)) (line : List ℕ) (rest : List (List ℕ)) (says : Option Statement) → Progress text draft number all → all ≡ line ∷ rest → Ok says ≡ line_at (known_in draft.table) line → ((said : List (Option Statement)) → Holds draft (statements_of said) → Holds new (statements_of (said ++ says ∷ []))) → Progress text new (number + 1) rest
progress_more text draft new number all line rest says so is read holds =
    record {
      above = so.above ++ line ∷ [];
      said = so.said ++ says ∷ [];
      lines = next_lines text so.above all line rest so.lines is;
      counted = next_count so.above line number so.counted;
      read = read_more so.above so.said line says so.read (read_says draft so.said line says so.holds read);
      holds = holds so.said so.holds;
    }

-- at a line that is refused
pub refused_line : (text : List ℕ) (draft : Draft) (number : ℕ) (all : List (List ℕ)) (line : List ℕ) (rest : List (List ℕ)) (refused : RefusedLine) → Progress text draft number all → all ≡ line ∷ rest → refused.number ≡ number + 1 → refused.bytes.now ≡ line → ◌≡◌ {A = Result (Option Statement) Fault} (Err (fault_in refused.refusal)) (line_at (known_in draft.table) line) → word_in refused.refusal ≡ line_word (known_in draft.table) line → IsRefusedLine text refused
refused_line text draft number all line rest refused so is counted bytes faulty word =
    record {
      first =
          record {
            above = so.above;
            line = line;
            below = rest;
            said = so.said;
            lines = so.lines ∙ ap (λ l. so.above ++ l) is;
            counted = counted ∙ ap (λ n. n + 1) so.counted;
            above_read = so.read;
            faulty = ap (λ known. line_at known line) (sym so.holds.known) ∙ sym faulty;
          };
      bytes = bytes;
      word = word ∙ ap (λ known. line_word known line) so.holds.known;
    }

-- at the end of the text
pub all_read : (text : List ℕ) (draft : Draft) (number : ℕ) (all : List (List ℕ)) → Progress text draft number all → all ≡ [] → AllRead text draft
all_read text draft number all so is =
    let lines : so.above ≡ lines_of_text text = sym (so.lines ∙ (ap (λ l. so.above ++ l) is ∙ append-nil so.above)) in
    record { said = so.said; read = (let P : List (List ℕ) → Type 0 = λ l. AreRead l so.said in subst P lines so.read); holds = so.holds }

-- what is known where no line is refused, and where one is
pub none_refused : (text : List ℕ) (draft : Draft) (found : Option RefusedLine) → found ≡ None → IfNone found (AllRead text draft) → AllRead text draft
none_refused text draft found is all = let P : Option RefusedLine → Type 0 = λ o. IfNone o (AllRead text draft) in subst P is all

pub one_refused : (text : List ℕ) (found : Option RefusedLine) (refused : RefusedLine) → found ≡ Some refused → IfSome found (IsRefusedLine text) → IsRefusedLine text refused
one_refused text found refused is first = let P : Option RefusedLine → Type 0 = λ o. IfSome o (IsRefusedLine text) in subst P is first

-- what a text is answered with a line that is refused
pub line_right : (text : List ℕ) (refused : RefusedLine) (fault : Fault) (result : Result ScenarioParts AsmFault) → IsRefusedLine text refused → fault ≡ fault_in refused.refusal → result ≡ Err (At refused.number fault) → IsRight text result
line_right text refused fault result is same was =
    let means : MeansFault text refused.number (fault_in refused.refusal) = inl is.first in
    let P : Result ScenarioParts AsmFault → Type 0 = λ r. IsRight text r in
    subst P (sym (was ∙ ap (λ f. Err (At refused.number f)) same)) (right_at text refused.number (fault_in refused.refusal) means)

-- what a text is answered whose lines are all read
pub whole_right : (text : List ℕ) (draft : Draft) (result : Result ScenarioParts AsmFault) → AllRead text draft → ((statements : List Statement) → Holds draft statements → WholeGives statements result) → IsRight text result
whole_right text draft result all gives = right_whole text all.said result all.read (gives (statements_of all.said) all.holds)
