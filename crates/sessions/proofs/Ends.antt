-- How a session ends.
use Rattle.std.proofs.Common.{◌≡◌, ◌⊎◌, inl, inr, ℕ, ◌<◌, Bool, true, false, MatchBool, List, [], length, arith, Option, Result, Ok, Err, IfOk, IfErr, refl, sym, subst}
use Rattle.scenario_image.specs.Image.{image}
use Rattle.scenario_image.specs.declared.parts.ScenarioParts.{ScenarioParts}
use Rattle.scenario_image.specs.declared.version.Version.TheVariants.{Two}
use Rattle.scenario_asm.specs.CanonicalText.{canonical_text}
use Rattle.table_run.specs.State.{State, initial}
use Rattle.window_text.proofs.Bytes.{appends_nothing}
use Rattle.sessions.specs.declared.fault.SessionFault.{SessionFault}
use Rattle.sessions.specs.declared.fault.SessionFault.TheVariants.{TooLong, Refused, RefusedImage, Groups, Figures as NoFigures, ReadFailed, WriteFailed, NoMemory, CountFull, NoWorker}
use Rattle.command_line.specs.declared.subcommand.Subcommand.{Subcommand}
use Rattle.command_line.specs.declared.subcommand.Subcommand.TheVariants.{Asm, Dis, Run, Figures}
use Rattle.sessions.specs.Input.{is_image, InputHasScenario, InputHasFault, Reads}
use Rattle.sessions.specs.Output.{IsAllOrNothing, IsOutput, IsSharedOutput}
use Rattle.sessions.specs.FiguresPlan.{plan_of}
use Rattle.sessions.specs.Nodes.{HasGroups}
use Rattle.sessions.specs.Trace.{IsTrace, IsTooLong}
use Rattle.sessions.specs.Written.{Writes}
use Rattle.sessions.specs.Ended.{SessionEnded, IsHindered, IsRunOutput, IsReadFault}
use Rattle.sessions.specs.Session.{IsWithin, IsOfScenario, IsSessionEnding, IsDue, IsSession}
use Rattle.sessions.proofs.Endless.{ends_in_time}
use Rattle.sessions.proofs.Planned.{IsPlanEnd, one_plan, plan_end}

not_both : (s : State) (out : List ℕ) → IsTrace s out → IsTooLong s → ⊥
not_both s out ends long = ends_in_time s ends.n ends.lines ends.last ends.few ends.is_run ends.final long

one_trace : (s : State) (ended : SessionEnded) (out out' : List ℕ) → IsRunOutput s ended out → IsTrace s out' → (ended ≡ Ok tt) ⊎ IsHindered ended
one_trace s (Ok u) out out' made ends = inl refl
one_trace s (Err CountFull) out out' made ends = absurd (not_both s out' ends made.0)
one_trace s (Err NoWorker) out out' made ends = inr tt
one_trace s (Err WriteFailed) out out' made ends = inr tt
one_trace s (Err NoMemory) out out' made ends = inr tt
one_trace s (Err ReadFailed) out out' made ends = inr tt
one_trace s _ out out' made ends = absurd made

one_full : (s : State) (ended : SessionEnded) (out : List ℕ) → IsRunOutput s ended out → IsTooLong s → (ended ≡ Err CountFull) ⊎ IsHindered ended
one_full s (Ok u) out made full = absurd (not_both s out made full)
one_full s (Err CountFull) out made full = inl refl
one_full s (Err WriteFailed) out made full = inr tt
one_full s (Err NoMemory) out made full = inr tt
one_full s (Err NoWorker) out made full = inr tt
one_full s (Err ReadFailed) out made full = inr tt
one_full s _ out made full = absurd made

-- over one scenario a run ends in one way
one_run : (s : State) (ended other : SessionEnded) (out out' : List ℕ) → ¬ IsHindered other → IsRunOutput s ended out → IsRunOutput s other out' → (ended ≡ other) ⊎ IsHindered ended
one_run s ended (Ok u) out out' free made due = one_trace s ended out out' made due
one_run s ended (Err CountFull) out out' free made due = one_full s ended out made due.0
one_run s ended (Err NoWorker) out out' free made due = absurd (free tt)
one_run s ended (Err NoMemory) out out' free made due = absurd (free tt)
one_run s ended (Err WriteFailed) out out' free made due = absurd (free tt)
one_run s ended _ out out' free made due = absurd due

-- bytes that go out together end in one way
one_whole : (bytes : List ℕ) (ended other : SessionEnded) (out out' : List ℕ) → ¬ IsHindered other → IsAllOrNothing bytes ended out → IsAllOrNothing bytes other out' → (ended ≡ other) ⊎ IsHindered ended
one_whole bytes (Ok u) (Ok v) out out' free made due = inl refl
one_whole bytes (Ok u) (Err NoMemory) out out' free made due = absurd (free tt)
one_whole bytes (Ok u) (Err WriteFailed) out out' free made due = absurd (free tt)
one_whole bytes (Ok u) _ out out' free made due = absurd due
one_whole bytes (Err NoMemory) other out out' free made due = inr tt
one_whole bytes (Err WriteFailed) other out out' free made due = inr tt
one_whole bytes _ other out out' free made due = absurd made

-- groups that are named stay so
one_shared_run : (groups : List ℕ) (parts : ScenarioParts) (ended other : SessionEnded) (out out' : List ℕ) → ¬ IsHindered other → HasGroups groups parts → IsRunOutput (initial parts) ended out
    → IsSharedOutput groups parts other out' → (ended ≡ other) ⊎ IsHindered ended
one_shared_run groups parts ended (Err Groups) out out' free has made due = absurd (due.0 has)
one_shared_run groups parts ended (Err NoMemory) out out' free has made due = absurd (free tt)
one_shared_run groups parts ended other out out' free has made due = one_run (initial parts) ended other out out' free made due.1

-- and groups that are not
no_groups : (groups : List ℕ) (parts : ScenarioParts) (other : SessionEnded) (out' : List ℕ) → ¬ IsHindered other → ¬ HasGroups groups parts → IsSharedOutput groups parts other out'
    → (Err Groups ≡ other) ⊎ IsHindered (Err Groups)
no_groups groups parts (Err Groups) out' free lacks due = inl refl
no_groups groups parts (Err NoMemory) out' free lacks due = absurd (free tt)
no_groups groups parts other out' free lacks due = absurd (lacks due.0)

one_shared : (groups : List ℕ) (parts : ScenarioParts) (ended other : SessionEnded) (out out' : List ℕ) → ¬ IsHindered other → IsSharedOutput groups parts ended out → IsSharedOutput groups parts other out'
    → (ended ≡ other) ⊎ IsHindered ended
one_shared groups parts (Err Groups) other out out' free made due = no_groups groups parts other out' free made.0 due
one_shared groups parts (Err NoMemory) other out out' free made due = inr tt
one_shared groups parts ended other out out' free made due = one_shared_run groups parts ended other out out' free made.0 made.1 due

one_output : (subcommand : Subcommand) (input : List ℕ) (parts : ScenarioParts) (ended other : SessionEnded) (out out' : List ℕ) → ¬ IsHindered other → IsOutput subcommand input parts ended out → IsOutput subcommand input parts other out'
    → (ended ≡ other) ⊎ IsHindered ended
one_output Asm input parts ended other out out' free made due = one_whole (image Two parts) ended other out out' free made due
one_output Dis input parts ended other out out' free made due = one_whole (canonical_text parts) ended other out out' free made due
one_output (Run sharing) input parts ended other out out' free made due = one_shared sharing.groups parts ended other out out' free made due
one_output (Figures counting) input parts ended other out out' free made due = one_plan counting.names input parts (plan_of counting) ended other out out' free made due

-- the ends to which work on a scenario can come
abbrev IsOutputEnd : SessionEnded → Type 0
IsOutputEnd (Ok done) = Unit {0}
IsOutputEnd (Err CountFull) = Unit {0}
IsOutputEnd (Err NoMemory) = Unit {0}
IsOutputEnd (Err WriteFailed) = Unit {0}
IsOutputEnd (Err NoWorker) = Unit {0}
IsOutputEnd (Err Groups) = Unit {0}
IsOutputEnd (Err (NoFigures fault)) = Unit {0}
IsOutputEnd _ = ⊥

run_end : (s : State) (ended : SessionEnded) (out : List ℕ) → IsRunOutput s ended out → IsOutputEnd ended
run_end s (Ok u) out made = tt
run_end s (Err CountFull) out made = tt
run_end s (Err NoMemory) out made = tt
run_end s (Err WriteFailed) out made = tt
run_end s (Err NoWorker) out made = tt
run_end s _ out made = absurd made

whole_end : (bytes : List ℕ) (ended : SessionEnded) (out : List ℕ) → IsAllOrNothing bytes ended out → IsOutputEnd ended
whole_end bytes (Ok u) out made = tt
whole_end bytes (Err NoMemory) out made = tt
whole_end bytes (Err WriteFailed) out made = tt
whole_end bytes _ out made = absurd made

shared_end : (groups : List ℕ) (parts : ScenarioParts) (ended : SessionEnded) (out : List ℕ) → IsSharedOutput groups parts ended out → IsOutputEnd ended
shared_end groups parts (Err Groups) out made = tt
shared_end groups parts (Err NoMemory) out made = tt
shared_end groups parts ended out made = run_end (initial parts) ended out made.1

figures_end : (ended : SessionEnded) → IsPlanEnd ended → IsOutputEnd ended
figures_end (Ok u) end = tt
figures_end (Err (NoFigures fault)) end = tt
figures_end (Err CountFull) end = tt
figures_end (Err NoMemory) end = tt
figures_end (Err WriteFailed) end = tt
figures_end (Err _) end = absurd end

output_end : (subcommand : Subcommand) (input : List ℕ) (parts : ScenarioParts) (ended : SessionEnded) (out : List ℕ) → IsOutput subcommand input parts ended out → IsOutputEnd ended
output_end Asm input parts ended out made = whole_end (image Two parts) ended out made
output_end Dis input parts ended out made = whole_end (canonical_text parts) ended out made
output_end (Run sharing) input parts ended out made = shared_end sharing.groups parts ended out made
output_end (Figures counting) input parts ended out made = figures_end ended (plan_end counting.names input parts (plan_of counting) ended out made)

-- none of which is one of the reader
pub output_not_read : (subcommand : Subcommand) (input : List ℕ) (parts : ScenarioParts) (ended : SessionEnded) (out : List ℕ) → IsOutput subcommand input parts ended out → ended ≡ Err ReadFailed → ⊥
output_not_read subcommand input parts ended out made is = subst IsOutputEnd is (output_end subcommand input parts ended out made)

abbrev pub Read : Type 0
Read = Result ScenarioParts SessionFault

-- where the reading answers so, the session ends so
abbrev EndsBy : Subcommand → List ℕ → Read → SessionEnded → List ℕ → Type 0
EndsBy subcommand input (Ok parts) ended out = IsOutput subcommand input parts ended out
EndsBy subcommand input (Err fault) ended out = ended ≡ Err fault

by : (subcommand : Subcommand) (input : List ℕ) (read other : Read) (ended : SessionEnded) (out : List ℕ) → read ≡ other → EndsBy subcommand input read ended out → EndsBy subcommand input other ended out
by subcommand input read other ended out is ends = subst (λ r. EndsBy subcommand input r ended out) is ends

hindered : (ended : SessionEnded) → ended ≡ Err NoMemory → IsHindered ended
hindered ended is = subst IsHindered (sym is) tt

module _ (subcommand : Subcommand) (input : List ℕ) (read : Read) (ended : SessionEnded) (out : List ℕ) (within : IsWithin input) (says : Reads (InputHasScenario input) (InputHasFault input) read)
    (ends : EndsBy subcommand input read ended out) where
  of_scenario : (other : SessionEnded) (out' : List ℕ) → ¬ IsHindered other → IsOfScenario subcommand input other out' → (ended ≡ other) ⊎ IsHindered ended
  of_scenario other out' free due =
      let meant = due.1 in elim (says.only_scenario meant.0 meant.1) [
        | inl is ↦ one_output subcommand input meant.0 ended other out out' free (by subcommand input read (Ok meant.0) ended out is ends) meant.2
        | inr is ↦ inr (hindered ended (by subcommand input read (Err NoMemory) ended out is ends))
      ]

  of_fault : (fault : SessionFault) → InputHasFault input fault → (ended ≡ Err fault) ⊎ IsHindered ended
  of_fault fault has = elim (says.only_fault fault has) [
    | inl is ↦ inl (by subcommand input read (Err fault) ended out is ends)
    | inr is ↦ inr (hindered ended (by subcommand input read (Err NoMemory) ended out is ends))
  ]

  -- one end is due
  no_other : (other : SessionEnded) → IsDue subcommand input other → (ended ≡ other) ⊎ IsHindered ended
  no_other (Err TooLong) due = let long = due.1.1.0 in absurd (omega (arith, within, long))
  no_other (Err (Refused line fault)) due = of_fault (Refused line fault) due.1.1.1
  no_other (Err (RefusedImage fault)) due = of_fault (RefusedImage fault) due.1.1.1
  no_other (Err ReadFailed) due = absurd (due.0 tt)
  no_other (Err WriteFailed) due = absurd (due.0 tt)
  no_other (Err NoMemory) due = absurd (due.0 tt)
  no_other (Err NoWorker) due = absurd (due.0 tt)
  no_other other due = of_scenario other due.1.0 due.0 due.1.1

-- work on the input's scenario is an ending of the session
output_ending : (subcommand : Subcommand) (input : List ℕ) (parts : ScenarioParts) (ended : SessionEnded) (out : List ℕ) → IsWithin input → InputHasScenario input parts → IsOutput subcommand input parts ended out
    → IsOutputEnd ended → IsSessionEnding subcommand input ended out
output_ending subcommand input parts (Ok u) out within means made end = (within, (parts, means, made))
output_ending subcommand input parts (Err CountFull) out within means made end = (within, (parts, means, made))
output_ending subcommand input parts (Err WriteFailed) out within means made end = (within, (parts, means, made))
output_ending subcommand input parts (Err NoWorker) out within means made end = (within, (parts, means, made))
output_ending subcommand input parts (Err Groups) out within means made end = (within, (parts, means, made))
output_ending subcommand input parts (Err (NoFigures fault)) out within means made end = (within, (parts, means, made))
output_ending subcommand input parts (Err NoMemory) out within means made end = inr (within, (parts, means, made))
output_ending subcommand input parts _ out within means made end = absurd end

-- the input has a scenario, which was worked on
pub ran : (subcommand : Subcommand) (input : List ℕ) (parts : ScenarioParts) (read : Read) (ended : SessionEnded) (old new : Option (List ℕ)) → IsWithin input → read ≡ Ok parts
    → Reads (InputHasScenario input) (InputHasFault input) read → Writes (IsOutput subcommand input parts ended) old new → IsSession subcommand input ended old new
ran subcommand input parts read ended old new within is says written =
    let means : InputHasScenario input parts = subst (λ r. IfOk r (InputHasScenario input)) is says.scenario in
    record {
      ending = (
        written.0,
        written.1,
        output_ending subcommand input parts ended written.0 within means written.2 (output_end subcommand input parts ended written.0 written.2),
      );
      only_due = no_other subcommand input read ended written.0 within says (by subcommand input (Ok parts) read ended written.0 (sym is) written.2);
    }

-- a fault that no input has
no_fault : (b : Bool) → ¬ MatchBool b ⊥ ⊥
no_fault true has = has
no_fault false has = has

-- an input that has a fault ends so, with nothing written
fault_ending : (subcommand : Subcommand) (input : List ℕ) (fault : SessionFault) → IsWithin input → InputHasFault input fault → IsSessionEnding subcommand input (Err fault) []
fault_ending subcommand input (Refused line fault) within has = (within, has, refl)
fault_ending subcommand input (RefusedImage fault) within has = (within, has, refl)
fault_ending subcommand input _ within has = absurd (no_fault (is_image input) has)

-- nor is its fault one of the reader
abbrev NotRead : SessionFault → Type 0
NotRead fault = ◌≡◌ {A = SessionEnded} (Err fault) (Err ReadFailed) → ⊥

short_not_read : NotRead NoMemory
short_not_read = λ e. cc

fault_not_read : (input : List ℕ) (fault : SessionFault) → InputHasFault input fault → NotRead fault
fault_not_read input (Refused line fault) has = λ e. cc
fault_not_read input (RefusedImage fault) has = λ e. cc
fault_not_read input _ has = absurd (no_fault (is_image input) has)

pub refused_not_read : (input : List ℕ) (fault : SessionFault) (read : Read) → read ≡ Err fault → Reads (InputHasScenario input) (InputHasFault input) read → ◌≡◌ {A = SessionEnded} (Err fault) (Err ReadFailed) → ⊥
refused_not_read input fault read is says = elim (subst (λ r. IfErr r (λ f. (f ≡ NoMemory) ⊎ InputHasFault input f)) is says.fault) [
  | inl short ↦ subst NotRead (sym short) short_not_read
  | inr faulty ↦ fault_not_read input fault faulty
]

no_memory_ending : (subcommand : Subcommand) (input : List ℕ) (fault : SessionFault) → fault ≡ NoMemory → IsSessionEnding subcommand input (Err fault) []
no_memory_ending subcommand input fault is = subst (λ f. IsSessionEnding subcommand input (Err f) []) (sym is) (inl refl)

-- the input was refused, and nothing was written
pub refused : (subcommand : Subcommand) (input : List ℕ) (fault : SessionFault) (read : Read) (known : Option (List ℕ)) → IsWithin input → read ≡ Err fault
    → Reads (InputHasScenario input) (InputHasFault input) read → IsSession subcommand input (Err fault) known known
refused subcommand input fault read known within is says =
    let has : (fault ≡ NoMemory) ⊎ InputHasFault input fault = subst (λ r. IfErr r (λ f. (f ≡ NoMemory) ⊎ InputHasFault input f)) is says.fault in
    record {
      ending = (
        [],
        appends_nothing known,
        elim has [ inl short ↦ no_memory_ending subcommand input fault short | inr faulty ↦ fault_ending subcommand input fault within faulty ],
      );
      only_due = no_other subcommand input read (Err fault) [] within says (by subcommand input (Err fault) read (Err fault) [] (sym is) refl);
    }

-- an input that is too long has no other end
too_long_only : (subcommand : Subcommand) (input : List ℕ) → 16777216 < length input → (other : SessionEnded) → IsDue subcommand input other → (Err TooLong ≡ other) ⊎ IsHindered (Err TooLong)
too_long_only subcommand input long (Err TooLong) due = inl refl
too_long_only subcommand input long (Err ReadFailed) due = absurd (due.0 tt)
too_long_only subcommand input long (Err WriteFailed) due = absurd (due.0 tt)
too_long_only subcommand input long (Err NoMemory) due = absurd (due.0 tt)
too_long_only subcommand input long (Err NoWorker) due = absurd (due.0 tt)
too_long_only subcommand input long _ due = let within = due.1.1.0 in absurd (omega (arith, long, within))

-- the input was not read, and nothing was written
pub unread_input : (subcommand : Subcommand) (input : List ℕ) (fault : SessionFault) (known : Option (List ℕ)) → IsReadFault input fault → IsSession subcommand input (Err fault) known known
unread_input subcommand input TooLong known long = record { ending = ([], appends_nothing known, (long, refl)); only_due = too_long_only subcommand input long }
unread_input subcommand input ReadFailed known reads = record { ending = ([], appends_nothing known, refl); only_due = λ other due. inr tt }
unread_input subcommand input NoMemory known reads = record { ending = ([], appends_nothing known, inl refl); only_due = λ other due. inr tt }
unread_input subcommand input _ known reads = absurd reads
