-- Lines answered one after another, and what an output has taken of the answers.
use Rattle.std.proofs.Common.{◌≡◌, ◌<◌, ◌==◌, ℕ, List, [], ◌∷◌, ◌++◌, length, take, drop, Option, refl, ap, sym, subst, ◌∙◌, append_assoc, append-nil}
use Rattle.std.proofs.lemmas.List.{take-append-drop}
use Rattle.std.proofs.Math.Seq.{take-append_seam}
use Rattle.std.proofs.KnownBytes.{Appends-nil, Appends-trans}
use Rattle.std.specs.Io.KnownBytes.{Appends}
use Rattle.std.specs.List.{before_first, after_first}
use Rattle.table_run.specs.State.{State}
use Rattle.window_engine.specs.Puts.{TakesFirst}
use Rattle.scenario_asm.specs.Lines.{lines_of_text}
use Rattle.scenario_asm.proofs.Pieces.{pieces_first, pieces_none}
use Rattle.prompt_words.specs.declared.command.Limits.{Limits}
use Rattle.debug_session.specs.Taking.{Takes, IsBeginningOf}
use Rattle.prompt_words.specs.Refusals.{Answer, answer_text}
use Rattle.debug_session.specs.Answers.{SessionState, Answers}
use Rattle.debug_session.specs.Sessions.{Ran, Output, OutputStart}

-- one line more is answered
pub ran_more : (limits : Limits) (start : State) (lines : List (List ℕ)) (line : List ℕ) (old between new : SessionState) (made : List ℕ) (answer : Answer)
    → Ran limits start lines old between made → Answers limits start line between new answer → Ran limits start (lines ++ line ∷ []) old new (made ++ answer_text answer)
ran_more limits start [] line old between new made answer ran one =
    let said = answer_text answer in
    (new, answer, [], subst (λ (at : SessionState). Answers limits start line at new answer) ran.same one, record { same = refl; reported = refl }, ap (λ l. l ++ said) ran.reported ∙ sym (append-nil said))
ran_more limits start (l ∷ lines) line old between new made answer ran one =
    let said = answer_text answer in
    (ran.0, ran.1, ran.2 ++ said, ran.3, ran_more limits start lines line ran.0 between new ran.2 answer ran.4 one, ap (λ x. x ++ said) ran.5 ∙ append_assoc (answer_text ran.1) ran.2 said)

-- the first bytes of these were taken
pub first_taken : (bytes : List ℕ) (before after : Option (List ℕ)) (count : ℕ) → TakesFirst count bytes before after → Takes (IsBeginningOf (λ all. all ≡ bytes)) before after
first_taken bytes before after count took = (take count bytes, took.1, (drop count bytes, take-append-drop count bytes))

-- so far lines were answered, and the answers were taken
pub record SoFar (limits : Limits) (start : State) (commands rest : List ℕ) (old now : SessionState) (before after : Option (List ℕ)) : Type 0 where
  pub done : List (List ℕ)
  pub parted : lines_of_text commands ≡ done ++ lines_of_text rest
  pub made : Takes (Ran limits start done old now) before after

pub none_yet : (limits : Limits) (start : State) (commands : List ℕ) (at : SessionState) (contents : Option (List ℕ)) → SoFar limits start commands commands at at contents contents
none_yet limits start commands at contents = record { done = []; parted = refl; made = ([], Appends-nil contents, record { same = refl; reported = refl }) }

-- the next line: it is the first of the rest
next_line : (commands rest line after : List ℕ) (done : List (List ℕ)) → lines_of_text commands ≡ done ++ lines_of_text rest → 0 < length rest → line ≡ before_first (λ b. b == 10) rest → after ≡ after_first (λ b. b == 10) rest
    → lines_of_text commands ≡ (done ++ line ∷ []) ++ lines_of_text after
next_line commands rest line after done parted some is behind =
    parted ∙ ap (λ ls. done ++ ls) (pieces_first 10 rest some ∙ (λ i. sym is i ∷ lines_of_text (sym behind i))) ∙ sym (append_assoc done (line ∷ []) (lines_of_text after))

module _ (limits : Limits) (start : State) (commands rest line after : List ℕ) (answer : Answer) (old between new : SessionState) (first was now : Option (List ℕ)) where
  -- one line more is answered, and the answer is taken
  pub one_more : SoFar limits start commands rest old between first was → 0 < length rest → line ≡ before_first (λ b. b == 10) rest → after ≡ after_first (λ b. b == 10) rest
      → Answers limits start line between new answer → Appends was now (answer_text answer) → SoFar limits start commands after old new first now
  one_more s some is behind one taken = record {
    done = s.done ++ line ∷ [];
    parted = next_line commands rest line after s.done s.parted some is behind;
    made = (s.made.0 ++ answer_text answer, Appends-trans first was now s.made.0 (answer_text answer) s.made.1 taken, ran_more limits start s.done line old between new s.made.0 answer s.made.2 one);
  }

  -- or only a beginning of the answer was
  pub one_failed : SoFar limits start commands rest old between first was → 0 < length rest → line ≡ before_first (λ b. b == 10) rest → after ≡ after_first (λ b. b == 10) rest
      → Answers limits start line between new answer → Takes (IsBeginningOf (λ all. all ≡ answer_text answer)) was now → Takes (IsBeginningOf (OutputStart limits start (lines_of_text commands) old)) first now
  one_failed s some is behind one taken =
      let bytes = s.made.0 in
      let said = answer_text answer in
      let parted = next_line commands rest line after s.done s.parted some is behind in
      let lines = s.done ++ line ∷ [] in
      let front : lines ≡ take (length lines) (lines_of_text commands) = sym (ap (take (length lines)) parted ∙ take-append_seam lines (lines_of_text after)) in
      let ran = ran_more limits start s.done line old between new bytes answer s.made.2 one in
      let all : bytes ++ said ≡ (bytes ++ taken.0) ++ taken.2.0 = ap (λ l. bytes ++ l) (sym taken.2.1) ∙ sym (append_assoc bytes taken.0 taken.2.0) in (
        bytes ++ taken.0,
        Appends-trans first was now bytes taken.0 s.made.1 taken.1,
        (taken.2.0, (length lines, (new, subst (λ (out : List ℕ). Ran limits start (take (length lines) (lines_of_text commands)) old new out) all (subst (λ (ls : List (List ℕ)). Ran limits start ls old new (bytes ++ said)) front ran)))),
      )

-- nothing is left: all lines are answered
pub all_answered : (limits : Limits) (start : State) (commands rest : List ℕ) (old now : SessionState) (before after : Option (List ℕ)) → SoFar limits start commands rest old now before after → length rest ≡ 0
    → Takes (Output limits start (lines_of_text commands) old) before after
all_answered limits start commands rest old now before after s none =
    let all : s.done ≡ lines_of_text commands = sym (s.parted ∙ ap (λ ls. s.done ++ ls) (pieces_none 10 rest none) ∙ append-nil s.done) in
    (s.made.0, s.made.1, (now, subst (λ (ls : List (List ℕ)). Ran limits start ls old now s.made.0) all s.made.2))
