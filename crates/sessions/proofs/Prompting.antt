-- Lines that are typed at a prompt: cut to the room that there is, and answered in turn.
use Rattle.std.proofs.Common.{◌≡◌, ◌<◌, ◌≤◌, if◌then◌else◌, ◌⊎◌, inl, inr, ⊎_elim, ℕ, Bool, true, false, not, ◌&&◌, MatchBool, List, [], ◌∷◌, ◌++◌, length, take, Option, None, Some, Result, Ok, Err, IfErr, refl, sym, ap, subst, ◌∙◌, arith, append_assoc, append-nil}
use Rattle.std.proofs.lemmas.Bool.{ltb-true, ltb-false, lt-ltb, false≢true}
use Rattle.std.proofs.lemmas.List.{take_all, length-take}
use Rattle.std.proofs.lemmas.List.Folds.{list_all-append}
use Rattle.std.proofs.KnownBytes.{Appends-nil, Appends-trans}
use Rattle.std.specs.Io.KnownBytes.{Appends}
use Rattle.table_run.specs.State.{State}
use Rattle.prompt_words.specs.declared.naming.Naming.{Naming}
use Rattle.prompt_words.specs.declared.refusal.Refusal.TheVariants.{B2}
use Rattle.prompt_words.specs.Refusals.{Answer}
use Rattle.prompt_words.specs.TypedGrammar.{is_long, is_quit, quits}
use Rattle.debug_session.specs.Prompt.{Ask, AnswersTyped, AtPrompt, Rests, Typing, Typed, TypedAnswers, TypedRan, AreInTime, IsSoFar, IsTypedOut, lines_in, none_quits, answer_out}
use Rattle.prompt_words.specs.Input.{words_in}
use Rattle.debug_session.specs.Taking.{Takes}
use Rattle.sessions.specs.declared.fault.SessionFault.{SessionFault}
use Rattle.sessions.specs.declared.fault.SessionFault.TheVariants.{ReadFailed, WriteFailed, NoMemory}
use Rattle.sessions.specs.declared.prompt.Turn.{Turn}
use Rattle.sessions.specs.Ended.{reads_after, writes_after}
use Rattle.sessions.specs.Prompt.{IsFileFault, IsTypedSession}
use Rattle.sessions.specs.Streams.{Streams, IsInputOf}
use Rattle.sessions.specs.Turns.{IsAll, IsAnswered, IsCutOff, IsQuitting, IsSilent, IsTurn}
use Rattle.sessions.specs.Typed.{IsCut, TypesLine, TypesOne}
use Rattle.sessions.proofs.Reading.{text_of}

-- of a line as much as the room has place for, which is more than a line may have: it is the line, or both are too long
same_or_long : (room line : List ℕ) (count : ℕ) → IsCut room count line → 65536 < length room → (take count room ≡ line) ⊎ ((is_long line ≡ true) × (is_long (take count room) ≡ true))
same_or_long room line count cut wide = go (is_long line) refl
  where
    go : (long : Bool) → is_long line ≡ long → (take count room ≡ line) ⊎ ((is_long line ≡ true) × (is_long (take count room) ≡ true))
    go true is =
        let more : 65536 < length line = ltb-true 65536 (length line) is in
        let there : 65536 < length (take (length room) line) = omega (arith, length-take (length room) line, more, wide) in
        inr (is, ap is_long cut ∙ lt-ltb 65536 (length (take (length room) line)) there)
    go false is =
        let few : length line ≤ 65536 = ltb-false 65536 (length line) is in
        inl (cut ∙ take_all (length room) line (omega (arith, few, wide)))

long_goes_on : (line : List ℕ) → is_long line ≡ true → is_quit line ≡ false
long_goes_on line long = ap (λ t. if t then false else quits (words_in line)) long

-- what was typed where a line was found
pub record Found (old new : Option Typing) (count : ℕ) (room : List ℕ) (shown : Option (List ℕ)) : Type 0 where
  pub line : List ℕ
  pub cut : IsCut room count line
  pub typed : Typed old new (record { line = line; seen = shown } ∷ [])

found_one : (old new : Option Typing) (count : ℕ) (room : List ℕ) (shown : Option (List ℕ)) → TypesOne old new count room shown → Found old new count room shown
found_one None new count room shown types =
    record { line = take count room; cut = sym (take_all (length room) (take count room) (omega (arith, length-take count room))); typed = tt }
found_one (Some old) new count room shown types = record { line = types.0; cut = types.1; typed = types.2 }

pub found_line : (E : Type 0) (old new : Option Typing) (found : Option ℕ) (count : ℕ) (room : List ℕ) (shown : Option (List ℕ)) → found ≡ Some count → TypesLine {E = E} old new (Ok found) room shown
    → Found old new count room shown
found_line E old new found count room shown is types = found_one old new count room shown (subst (λ (f : Option ℕ). TypesLine {E = E} old new (Ok f) room shown) is types)

-- so it ends a session as the line does
pub cut_quits : (room line : List ℕ) (count : ℕ) → IsCut room count line → 65536 < length room → is_quit (take count room) ≡ is_quit line
cut_quits room line count cut wide =
    ⊎_elim (λ (same : take count room ≡ line). ap is_quit same)
    (λ (long : (is_long line ≡ true) × (is_long (take count room) ≡ true)). long_goes_on (take count room) long.1 ∙ sym (long_goes_on line long.0)) (same_or_long room line count cut wide)

-- and is answered as the line is
pub cut_answers : (naming : Naming) (start : State) (room line : List ℕ) (count : ℕ) (old new : AtPrompt) (said : Answer) → IsCut room count line → 65536 < length room
    → TypedAnswers naming start (take count room) old new said → TypedAnswers naming start line old new said
cut_answers naming start room line count old new said cut wide answers =
    ⊎_elim (λ (same : take count room ≡ line). subst (λ (l : List ℕ). TypedAnswers naming start l old new said) same answers)
    (λ (long : (is_long line ≡ true) × (is_long (take count room) ≡ true)). refused line long.0 (refuses (take count room) long.1 answers)) (same_or_long room line count cut wide)
  where
    refuses : (l : List ℕ) → is_long l ≡ true → TypedAnswers naming start l old new said → Rests old new said (Err B2)
    refuses l long = subst (λ (t : Bool). MatchBool t (Rests old new said (Err B2)) (MatchBool (is_quit l) (Rests old new said (Ok [])) (AnswersTyped naming start l old new said))) long

    refused : (l : List ℕ) → is_long l ≡ true → Rests old new said (Err B2) → TypedAnswers naming start l old new said
    refused l long = subst (λ (t : Bool). MatchBool t (Rests old new said (Err B2)) (MatchBool (is_quit l) (Rests old new said (Ok [])) (AnswersTyped naming start l old new said))) (sym long)

-- a line that was found was answered
pub answered_as : (naming : Naming) (start : State) (count : ℕ) (room : List ℕ) (old new : AtPrompt) (said : Answer) (before after : Streams) (IsPut : List ℕ → Type 0) → Found before.typed after.typed count room before.written → 65536 < length room
    → is_quit (take count room) ≡ false → TypedAnswers naming start (take count room) old new said → IsPut (answer_out said) → IsAnswered IsPut naming start old new before after
answered_as naming start count room old new said before after IsPut found wide goes_on answers put =
    record {
      ask = record { line = found.line; seen = before.written };
      asked = record { typed = found.typed; seen = refl };
      goes_on = sym (cut_quits room found.line count found.cut wide) ∙ goes_on;
      said = said;
      answers = cut_answers naming start room found.line count old new said found.cut wide answers;
      put = put;
    }

-- memory was refused before the file was read
pub file_hindered : {T : Type 0} (r : Result T SessionFault) (known : Option (List ℕ)) (file : List ℕ) → r ≡ Err NoMemory
    → IfErr r (λ fault. (input : List ℕ) × IsInputOf known input × IsFileFault file input fault)
file_hindered (Ok x) known file is = tt
file_hindered {T} (Err other) known file is =
    let input = text_of known in (input.0, input.1, subst (λ (r : Result T SessionFault). IfErr r (IsFileFault file input.0)) (sym is) tt)

-- one line more is answered
ran_more : (naming : Naming) (start : State) (lines : List (List ℕ)) (line : List ℕ) (old between new : AtPrompt) (made : List ℕ) (said : Answer)
    → TypedRan naming start lines old between made → TypedAnswers naming start line between new said → TypedRan naming start (lines ++ line ∷ []) old new (made ++ answer_out said)
ran_more naming start [] line old between new made said ran one =
    (new, said, [], subst (λ (at : AtPrompt). TypedAnswers naming start line at new said) ran.0 one, (refl, refl), ap (λ l. l ++ answer_out said) ran.1 ∙ sym (append-nil (answer_out said)))
ran_more naming start (l ∷ lines) line old between new made said ran one =
    (ran.0, ran.1, ran.2 ++ answer_out said, ran.3, ran_more naming start lines line ran.0 between new ran.2 said ran.4 one, ap (λ x. x ++ answer_out said) ran.5 ∙ append_assoc (answer_out ran.1) ran.2 (answer_out said))

-- one ask more
lines_more : (asks : List Ask) (ask : Ask) → lines_in (asks ++ ask ∷ []) ≡ lines_in asks ++ ask.line ∷ []
lines_more [] ask = refl
lines_more (a ∷ asks) ask = ap (λ ls. a.line ∷ ls) (lines_more asks ask)

typed_more : (first was now : Option Typing) (asks : List Ask) (ask : Ask) → Typed first was asks → Typed was now (ask ∷ []) → Typed first now (asks ++ ask ∷ [])
typed_more None was now asks ask all one = tt
typed_more (Some first) None now asks ask all one = absurd all
typed_more (Some first) (Some was) None asks ask all one = absurd one
typed_more (Some first) (Some was) (Some now) asks ask all one = (
  one.0 ∙ ap (λ l. l ++ ask ∷ []) all.0 ∙ append_assoc first.asks asks (ask ∷ []),
  all.1 ∙ ap (λ ls. lines_in asks ++ ls) one.1 ∙ sym (append_assoc (lines_in asks) (ask.line ∷ []) now.rest) ∙ ap (λ ls. ls ++ now.rest) (sym (lines_more asks ask)),
)

typed_same : (first was now : Option Typing) (asks : List Ask) → Typed first was asks → Typed was now [] → Typed first now asks
typed_same None was now asks all none = tt
typed_same (Some first) None now asks all none = absurd all
typed_same (Some first) (Some was) None asks all none = absurd none
typed_same (Some first) (Some was) (Some now) asks all none = (none.0 ∙ append-nil was.asks ∙ all.0, all.1 ∙ ap (λ ls. lines_in asks ++ ls) none.1)

pub none_typed : (known : Option Typing) → Typed known known []
none_typed None = tt
none_typed (Some typing) = (sym (append-nil typing.asks), refl)

in_time_more : (naming : Naming) (start : State) (old : AtPrompt) (first : Option (List ℕ)) (done : List (List ℕ)) (asks : List Ask) (ask : Ask)
    → AreInTime naming start old first done asks → IsSoFar naming start old (done ++ lines_in asks) first ask.seen → AreInTime naming start old first done (asks ++ ask ∷ [])
in_time_more naming start old first done [] ask all here = (subst (λ (ls : List (List ℕ)). IsSoFar naming start old ls first ask.seen) (append-nil done) here, tt)
in_time_more naming start old first done (a ∷ asks) ask all here =
    (all.0, in_time_more naming start old first (done ++ a.line ∷ []) asks ask all.1 (subst (λ (ls : List (List ℕ)). IsSoFar naming start old ls first ask.seen) (sym (append_assoc done (a.line ∷ []) (lines_in asks))) here))

none_more : (asks : List Ask) (ask : Ask) → none_quits (lines_in asks) ≡ true → is_quit ask.line ≡ false → none_quits (lines_in (asks ++ ask ∷ [])) ≡ true
none_more asks ask none goes_on =
    ap none_quits (lines_more asks ask) ∙ list_all-append (λ line. not (is_quit line)) (lines_in asks) (ask.line ∷ []) ∙ ap (λ t. t && (not (is_quit ask.line) && true)) none ∙ ap (λ t. not t && true) goes_on

-- so far lines were typed, each was answered before the next was asked for, and none was `quit`
pub record SoFar (naming : Naming) (start : State) (old now : AtPrompt) (before after : Streams) : Type 0 where
  pub asks : List Ask
  pub typed : Typed before.typed after.typed asks
  pub in_time : AreInTime naming start old before.written [] asks
  pub answered : Takes (TypedRan naming start (lines_in asks) old now) before.written after.written
  pub none : none_quits (lines_in asks) ≡ true

pub none_yet : (naming : Naming) (start : State) (at : AtPrompt) (streams : Streams) → SoFar naming start at at streams streams
none_yet naming start at streams = record { asks = []; typed = none_typed streams.typed; in_time = tt; answered = ([], Appends-nil streams.written, (refl, refl)); none = refl }

module _ (naming : Naming) (start : State) (old was : AtPrompt) (first before : Streams) (so_far : SoFar naming start old was first before) where
  answers_so_far : IsSoFar naming start old (lines_in so_far.asks) first.written before.written
  answers_so_far = (so_far.answered.0, so_far.answered.1, (was, so_far.answered.2))

  -- the answers were out when the next line was asked for
  asked_in_time : (ask : Ask) → ask.seen ≡ before.written → AreInTime naming start old first.written [] (so_far.asks ++ ask ∷ [])
  asked_in_time ask seen = in_time_more naming start old first.written [] so_far.asks ask so_far.in_time (subst (λ (held : Option (List ℕ)). IsSoFar naming start old (lines_in so_far.asks) first.written held) (sym seen) answers_so_far)

  -- one line more is answered
  pub one_more : (now : AtPrompt) (after : Streams) → IsAnswered (IsAll before after) naming start was now before after → SoFar naming start old now first after
  one_more now after turn =
      let ask = turn.ask in
      let made = so_far.answered.0 in
      record {
        asks = so_far.asks ++ ask ∷ [];
        typed = typed_more first.typed before.typed after.typed so_far.asks ask so_far.typed turn.asked.typed;
        in_time = asked_in_time ask turn.asked.seen;
        answered = (
          made ++ answer_out turn.said,
          Appends-trans first.written before.written after.written made (answer_out turn.said) so_far.answered.1 turn.put,
          subst (λ (ls : List (List ℕ)). TypedRan naming start ls old now (made ++ answer_out turn.said)) (sym (lines_more so_far.asks ask))
              (ran_more naming start (lines_in so_far.asks) ask.line old was now made turn.said so_far.answered.2 turn.answers),
        );
        none = none_more so_far.asks ask so_far.none turn.goes_on;
      }

  -- `quit` was typed
  pub has_quit : (now : AtPrompt) (after : Streams) → IsQuitting was now before after → IsTypedSession naming start old (Ok tt) first after
  has_quit now after turn =
      let ask = turn.ask in
      let asks = so_far.asks ++ ask ∷ [] in
      let made = so_far.answered.0 in
      let silent : TypedAnswers naming start ask.line was was (Ok []) = quit_silent ask.line turn.quits in
      let ran : TypedRan naming start (lines_in so_far.asks ++ ask.line ∷ []) old was (made ++ []) = ran_more naming start (lines_in so_far.asks) ask.line old was was made (Ok []) so_far.answered.2 silent in
      let all : TypedRan naming start (lines_in asks) old was made =
      subst (λ (ls : List (List ℕ)). TypedRan naming start ls old was made) (sym (lines_more so_far.asks ask)) (subst (λ (out : List ℕ). TypedRan naming start (lines_in so_far.asks ++ ask.line ∷ []) old was out) (append-nil made) ran) in
      record {
        asks = asks;
        typed = typed_more first.typed before.typed after.typed so_far.asks ask so_far.typed turn.asked.typed;
        in_time = asked_in_time ask turn.asked.seen;
        ending = ((made, subst (λ (held : Option (List ℕ)). Appends first.written held made) (sym turn.unwritten) so_far.answered.1, (was, all)), inl (lines_in so_far.asks, ask.line, lines_more so_far.asks ask, so_far.none, turn.quits));
      }
    where
      quit_silent : (line : List ℕ) → is_quit line ≡ true → TypedAnswers naming start line was was (Ok [])
      quit_silent line quits = go (is_long line) refl
        where
          go : (long : Bool) → is_long line ≡ long → MatchBool long (Rests was was (Ok []) (Err B2)) (MatchBool (is_quit line) (Rests was was (Ok []) (Ok [])) (AnswersTyped naming start line was was (Ok [])))
          go true is = absurd (false≢true (sym (long_goes_on line is) ∙ quits))
          go false is = subst (λ (t : Bool). MatchBool t (Rests was was (Ok []) (Ok [])) (AnswersTyped naming start line was was (Ok []))) (sym quits) (record { same = refl; reported = refl })

  -- no line was typed
  unanswered : (now : AtPrompt) (after : Streams) → IsSilent was now before after → IsSoFar naming start old (lines_in so_far.asks) first.written after.written
  unanswered now after turn = subst (λ (held : Option (List ℕ)). IsSoFar naming start old (lines_in so_far.asks) first.written held) (sym turn.unwritten) answers_so_far

  pub has_no_line : (now : AtPrompt) (after : Streams) → IsSilent was now before after → IsTypedOut after.typed → IsTypedSession naming start old (Ok tt) first after
  has_no_line now after turn out = record {
    asks = so_far.asks;
    typed = typed_same first.typed before.typed after.typed so_far.asks so_far.typed turn.untyped;
    in_time = so_far.in_time;
    ending = (unanswered now after turn, inr (so_far.none, out));
  }

  -- a line could not be read
  pub is_broken : (now : AtPrompt) (after : Streams) → IsSilent was now before after → IsTypedSession naming start old (Err ReadFailed) first after
  is_broken now after turn = record {
    asks = so_far.asks;
    typed = typed_same first.typed before.typed after.typed so_far.asks so_far.typed turn.untyped;
    in_time = so_far.in_time;
    ending = (unanswered now after turn, so_far.none);
  }

  -- an answer could not be written
  pub is_cut_off : (now : AtPrompt) (after : Streams) → IsAnswered (IsCutOff before after) naming start was now before after → IsTypedSession naming start old (Err WriteFailed) first after
  is_cut_off now after turn =
      let ask = turn.ask in
      let made = so_far.answered.0 in
      let put = turn.put.0 in
      let rest = turn.put.2.0 in
      let ran : TypedRan naming start (lines_in so_far.asks ++ ask.line ∷ []) old now (made ++ answer_out turn.said) = ran_more naming start (lines_in so_far.asks) ask.line old was now made turn.said so_far.answered.2 turn.answers in
      let all : made ++ answer_out turn.said ≡ (made ++ put) ++ rest = ap (λ l. made ++ l) (sym turn.put.2.1) ∙ sym (append_assoc made put rest) in
      record {
        asks = so_far.asks ++ ask ∷ [];
        typed = typed_more first.typed before.typed after.typed so_far.asks ask so_far.typed turn.asked.typed;
        in_time = asked_in_time ask turn.asked.seen;
        ending = (
          (
            made ++ put,
            Appends-trans first.written before.written after.written made put so_far.answered.1 turn.put.1,
            (
              rest,
              (
                now,
                subst (λ (ls : List (List ℕ)). TypedRan naming start ls old now ((made ++ put) ++ rest)) (sym (lines_more so_far.asks ask))
                    (subst (λ (out : List ℕ). TypedRan naming start (lines_in so_far.asks ++ ask.line ∷ []) old now out) all ran),
              ),
            ),
          ),
          none_more so_far.asks ask so_far.none turn.goes_on,
        );
      }

  -- a turn that failed ends the session
  pub is_failed : (fault : SessionFault) (now : AtPrompt) (after : Streams) → IsTurn naming start was now (Err fault) before after → IsTypedSession naming start old (Err fault) first after
  is_failed ReadFailed now after turn = is_broken now after turn
  is_failed WriteFailed now after turn = is_cut_off now after turn
  is_failed _ now after turn = absurd turn

-- what ended a turn ends the session with the same counts
pub same_reads : (fault : SessionFault) (n : ℕ) → reads_after {T = Turn} (Err fault) n ≡ reads_after {T = Unit {0}} (Err fault) n
same_reads ReadFailed n = refl
same_reads _ n = refl

pub same_writes : (fault : SessionFault) (n : ℕ) → writes_after {T = Turn} (Err fault) n ≡ writes_after {T = Unit {0}} (Err fault) n
same_writes WriteFailed n = refl
same_writes _ n = refl
