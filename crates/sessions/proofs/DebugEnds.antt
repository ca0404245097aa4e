-- How a debugging session ends.
use Rattle.std.proofs.Common.{◌≡◌, ◌⊎◌, inl, inr, ℕ, ◌<◌, List, [], length, arith, Option, Result, Ok, Err, IfErr, refl, sym, subst}
use Rattle.scenario_image.specs.declared.parts.ScenarioParts.{ScenarioParts}
use Rattle.scenario_asm.specs.Lines.{lines_of_text}
use Rattle.scenario_asm.specs.Meaning.{MeansScenario}
use Rattle.prompt_words.specs.Input.{text_lines, command_lines}
use Rattle.debug_session.specs.Sessions.{Ended as CommandsEnded, IsEnding, failures_of}
use Rattle.debug_session.specs.declared.session.DialogueFault.{DialogueFault as CommandsFault}
use Rattle.debug_session.specs.declared.session.DialogueFault.TheVariants.{NoMemory as commands_NoMemory, OutputFailed}
use Rattle.debug_session.proofs.Meanings.{scenario_of, fault_of}
use Rattle.window_text.proofs.Bytes.{appends_nothing}
use Rattle.sessions.specs.declared.fault.SessionFault.{SessionFault}
use Rattle.sessions.specs.declared.fault.SessionFault.TheVariants.{TooLong, Refused, Groups, ReadFailed, WriteFailed, NoMemory}
use Rattle.sessions.specs.Debug.{IsDebugEnding, IsDebugDue, IsDebugSession}
use Rattle.sessions.specs.Ended.{SessionEnded, IsHindered, IsReadFault, writes_after}
use Rattle.sessions.specs.Faults.{of_commands}
use Rattle.sessions.specs.Input.{IsTextFault, Reads}
use Rattle.sessions.specs.Nodes.{HasGroups, LacksGroups}
use Rattle.sessions.specs.Session.{IsWithin}
use Rattle.sessions.specs.Written.{Writes}

abbrev pub Read : Type 0
Read = Result ScenarioParts SessionFault

-- over a scenario a session ends so: done, where its nodes have groups; for its groups, where they haven't; hindered
abbrev EndsOver : List ℕ → ScenarioParts → SessionEnded → Type 0
EndsOver groups parts ended = ((ended ≡ Ok tt) × HasGroups groups parts) ⊎ ((ended ≡ Err Groups) × ¬ HasGroups groups parts) ⊎ IsHindered ended

-- where the reading answers so, the session ends so
abbrev EndsBy : List ℕ → Read → SessionEnded → Type 0
EndsBy groups (Ok parts) ended = EndsOver groups parts ended
EndsBy groups (Err fault) ended = ended ≡ Err fault

hindered : (ended : SessionEnded) → ended ≡ Err NoMemory → IsHindered ended
hindered ended is = subst IsHindered (sym is) tt

-- over a scenario whose nodes have groups, and over one whose nodes haven't
over_groups : (groups : List ℕ) (parts : ScenarioParts) (ended : SessionEnded) → HasGroups groups parts → EndsOver groups parts ended → (ended ≡ Ok tt) ⊎ IsHindered ended
over_groups groups parts ended has (inl done) = inl done.0
over_groups groups parts ended has (inr (inl none)) = absurd (none.1 has)
over_groups groups parts ended has (inr (inr hinders)) = inr hinders

over_none : (groups : List ℕ) (parts : ScenarioParts) (ended : SessionEnded) → ¬ HasGroups groups parts → EndsOver groups parts ended → (ended ≡ Err Groups) ⊎ IsHindered ended
over_none groups parts ended lacks (inl done) = absurd (lacks done.1)
over_none groups parts ended lacks (inr (inl none)) = inl none.0
over_none groups parts ended lacks (inr (inr hinders)) = inr hinders

module _ (groups input text : List ℕ) (read : Read) (ended : SessionEnded) (same : lines_of_text text ≡ text_lines input) (within : IsWithin input) (says : Reads (MeansScenario text) (IsTextFault text) read)
    (ends : EndsBy groups read ended) where
  by : (other : Read) → read ≡ other → EndsBy groups other ended
  by other is = subst (λ r. EndsBy groups r ended) is ends

  -- one end is due
  no_other : (other : SessionEnded) → IsDebugDue groups input other → (ended ≡ other) ⊎ IsHindered ended
  no_other (Ok done) due =
      let p = due.1.1.1.0 in elim (says.only_scenario p (scenario_of input text p same due.1.1.1.1)) [
        | inl is ↦ over_groups groups p ended due.1.1.1.2 (by (Ok p) is)
        | inr is ↦ inr (hindered ended (by (Err NoMemory) is))
      ]
  no_other (Err TooLong) due = let long = due.1.1.0 in absurd (omega (arith, within, long))
  no_other (Err (Refused line fault)) due = elim (says.only_fault (Refused line fault) (fault_of input text line fault same due.1.1.1)) [
    | inl is ↦ inl (by (Err (Refused line fault)) is)
    | inr is ↦ inr (hindered ended (by (Err NoMemory) is))
  ]
  no_other (Err Groups) due =
      let p = due.1.1.0.1.0 in elim (says.only_scenario p (scenario_of input text p same due.1.1.0.1.1)) [
        | inl is ↦ over_none groups p ended due.1.1.0.1.2 (by (Ok p) is)
        | inr is ↦ inr (hindered ended (by (Err NoMemory) is))
      ]
  no_other (Err ReadFailed) due = absurd (due.0 tt)
  no_other (Err WriteFailed) due = absurd (due.0 tt)
  no_other (Err NoMemory) due = absurd (due.0 tt)
  no_other _ due = absurd due.1.1

-- the text was refused, and nothing was written
pub text_refused : (groups input text : List ℕ) (fault : SessionFault) (read : Read) (known : Option (List ℕ)) → lines_of_text text ≡ text_lines input → IsWithin input → read ≡ Err fault
    → Reads (MeansScenario text) (IsTextFault text) read → IsDebugSession groups input (Err fault) known known
text_refused groups input text fault read known same within is says =
    record {
      ending = ([], appends_nothing known, ending fault (subst (λ r. IfErr r (λ f. (f ≡ NoMemory) ⊎ IsTextFault text f)) is says.fault));
      only_due = no_other groups input text read (Err fault) same within says (subst (λ r. EndsBy groups r (Err fault)) (sym is) refl);
    }
  where
    has_fault : (f : SessionFault) → IsTextFault text f → IsDebugEnding groups input (Err f) []
    has_fault (Refused line at) means = (within, (text, same, means), refl)
    has_fault _ means = absurd means

    ending : (f : SessionFault) → (f ≡ NoMemory) ⊎ IsTextFault text f → IsDebugEnding groups input (Err f) []
    ending f (inl short) = subst (λ g. IsDebugEnding groups input (Err g) []) (sym short) refl
    ending f (inr faulty) = has_fault f faulty

module _ (groups input text commands : List ℕ) (parts : ScenarioParts) (read : Read) (old new : Option (List ℕ)) (same : lines_of_text text ≡ text_lines input) (behind : lines_of_text commands ≡ command_lines input)
    (within : IsWithin input) (is : read ≡ Ok parts) (says : Reads (MeansScenario text) (IsTextFault text) read) (means : MeansScenario text parts) where
  due : (ended : SessionEnded) → EndsOver groups parts ended → (other : SessionEnded) → IsDebugDue groups input other → (ended ≡ other) ⊎ IsHindered ended
  due ended ends = no_other groups input text read ended same within says (subst (λ r. EndsBy groups r ended) (sym is) ends)

  -- there are no groups, or memory was refused for them
  pub not_grouped : (fault : SessionFault) → LacksGroups groups parts fault → IsDebugSession groups input (Err fault) old old
  not_grouped NoMemory lacks = record { ending = ([], appends_nothing old, refl); only_due = due (Err NoMemory) (inr (inr tt)) }
  not_grouped Groups lacks =
      record { ending = ([], appends_nothing old, ((within, (parts, (text, same, means), lacks)), refl)); only_due = due (Err Groups) (inr (inl (refl, lacks))) }
  not_grouped _ lacks = absurd lacks

  -- the commands, as the input has them
  in_input : (ended : CommandsEnded) (out : List ℕ) → IsEnding parts (lines_of_text commands) ended out → IsEnding parts (command_lines input) ended out
  in_input ended out ending = subst (λ (lines : List (List ℕ)). IsEnding parts lines ended out) behind ending

  -- all commands were answered
  pub answered : HasGroups groups parts → Writes (IsEnding parts (lines_of_text commands) (Ok tt)) old new → IsDebugSession groups input (Ok tt) old new
  answered has wrote =
      record { ending = (wrote.0, wrote.1, (within, (parts, (text, same, means), has, in_input (Ok tt) wrote.0 wrote.2))); only_due = due (Ok tt) (inl (refl, has)) }

  -- memory was refused for the initial state, or the writer failed
  pub not_answered : HasGroups groups parts → (fault : CommandsFault) → Writes (IsEnding parts (lines_of_text commands) (Err fault)) old new → IsDebugSession groups input (Err (of_commands fault)) old new
  not_answered has commands_NoMemory wrote = record { ending = (wrote.0, wrote.1, wrote.2); only_due = due (Err NoMemory) (inr (inr tt)) }
  not_answered has OutputFailed wrote =
      record { ending = (wrote.0, wrote.1, (within, (parts, (text, same, means), has, in_input (Err OutputFailed) wrote.0 wrote.2))); only_due = due (Err WriteFailed) (inr (inr tt)) }

-- an input that is too long has no other end
too_long_only : (groups input : List ℕ) → 16777216 < length input → (other : SessionEnded) → IsDebugDue groups input other → (Err TooLong ≡ other) ⊎ IsHindered (Err TooLong)
too_long_only groups input long (Ok done) due = let within = due.1.1.0 in absurd (omega (arith, long, within))
too_long_only groups input long (Err TooLong) due = inl refl
too_long_only groups input long (Err (Refused line fault)) due = let within = due.1.1.0 in absurd (omega (arith, long, within))
too_long_only groups input long (Err Groups) due = let within = due.1.1.0.0 in absurd (omega (arith, long, within))
too_long_only groups input long (Err ReadFailed) due = absurd (due.0 tt)
too_long_only groups input long (Err WriteFailed) due = absurd (due.0 tt)
too_long_only groups input long (Err NoMemory) due = absurd (due.0 tt)
too_long_only groups input long _ due = absurd due.1.1

-- the input was not read, and nothing was written
pub unread_input : (groups input : List ℕ) (fault : SessionFault) (known : Option (List ℕ)) → IsReadFault input fault → IsDebugSession groups input (Err fault) known known
unread_input groups input TooLong known long = record { ending = ([], appends_nothing known, (long, refl)); only_due = too_long_only groups input long }
unread_input groups input ReadFailed known reads = record { ending = ([], appends_nothing known, refl); only_due = λ other due. inr tt }
unread_input groups input NoMemory known reads = record { ending = ([], appends_nothing known, refl); only_due = λ other due. inr tt }
unread_input groups input _ known reads = absurd reads

-- no reader or writer failed
abbrev NoFailure : SessionFault → Type 0
NoFailure fault = ((n : ℕ) → n ≡ writes_after {T = Unit {0}} (Err fault) n) × (◌≡◌ {A = SessionEnded} (Err fault) (Err ReadFailed) → ⊥)

no_memory_no_failure : NoFailure NoMemory
no_memory_no_failure = (λ n. refl, λ e. cc)

faulty_no_failure : (text : List ℕ) (fault : SessionFault) → IsTextFault text fault → NoFailure fault
faulty_no_failure text (Refused line at) means = (λ n. refl, λ e. cc)
faulty_no_failure text _ means = absurd means

-- a text fault is no failure of a reader or a writer
pub no_failure : (text : List ℕ) (fault : SessionFault) (read : Read) → read ≡ Err fault → Reads (MeansScenario text) (IsTextFault text) read → NoFailure fault
no_failure text fault read is says = elim (subst (λ r. IfErr r (λ f. (f ≡ NoMemory) ⊎ IsTextFault text f)) is says.fault) [
  | inl short ↦ subst NoFailure (sym short) no_memory_no_failure
  | inr means ↦ faulty_no_failure text fault means
]

-- nor is it one that there are no groups
pub groups_no_failure : (groups : List ℕ) (parts : ScenarioParts) (fault : SessionFault) → LacksGroups groups parts fault → NoFailure fault
groups_no_failure groups parts NoMemory lacks = no_memory_no_failure
groups_no_failure groups parts Groups lacks = (λ n. refl, λ e. cc)
groups_no_failure groups parts _ lacks = absurd lacks

-- nor is an end of the commands one of the reader, and it counts for the writer as it did
pub commands_no_failure : (fault : CommandsFault)
    → ((n : ℕ) → failures_of (Err fault) n ≡ writes_after {T = Unit {0}} (Err (of_commands fault)) n) × (◌≡◌ {A = SessionEnded} (Err (of_commands fault)) (Err ReadFailed) → ⊥)
commands_no_failure commands_NoMemory = (λ n. refl, λ e. cc)
commands_no_failure OutputFailed = (λ n. refl, λ e. cc)
