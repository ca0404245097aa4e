-- What is answered where a line is refused.
use Rattle.std.specs.Prelude.{◌≡◌, ℕ, List, Option, Some, None, Result, Ok, Err}
use Rattle.scenario_asm.specs.declared.draft.Draft.{Draft}
use Rattle.scenario_asm.specs.declared.fault.Fault.{Fault}
use Rattle.scenario_asm.specs.declared.lines.RefusedLine.{RefusedLine}
use Rattle.scenario_asm.specs.declared.statement.StatementFault.{StatementFault}
use Rattle.scenario_asm.specs.declared.statement.StatementFault.TheVariants.{Line, Word}
use Rattle.scenario_asm.specs.declared.statement.Statement.{Statement}
use Rattle.scenario_asm.specs.Draft.{Holds}
use Rattle.scenario_asm.specs.Lines.{lines_of_text}
use Rattle.scenario_asm.specs.Meaning.{AreRead, IsLineFault, statements_of}
use Rattle.scenario_asm.specs.Places.{line_word}
use Rattle.scenario_asm.specs.Text.{known_of}

-- the fault of a refusal
abbrev pub fault_in : StatementFault → Fault
fault_in (Line fault) = fault
fault_in (Word place fault) = fault

-- the word of a refusal
abbrev pub word_in : StatementFault → Option ℕ
word_in (Line fault) = None
word_in (Word place fault) = Some place

-- an answer, whichever word is refused
abbrev pub as_fault : {A : Type 0} → Result A StatementFault → Result A Fault
as_fault (Ok value) = Ok value
as_fault (Err refusal) = Err (fault_in refusal)

-- all lines are read, and the draft holds what they say
pub record AllRead (text : List ℕ) (draft : Draft) : Type 0 where
  pub said : List (Option Statement)
  pub read : AreRead (lines_of_text text) said
  pub holds : Holds draft (statements_of said)

-- the text's first faulty line, its bytes, and the faulty word of it
pub record IsRefusedLine (text : List ℕ) (refused : RefusedLine) : Type 0 where
  pub first : IsLineFault text refused.number (fault_in refused.refusal)
  pub bytes : refused.bytes.now ≡ first.line
  pub word : word_in refused.refusal ≡ line_word (known_of (statements_of first.said)) first.line
