-- How a session at a prompt ends, over a scenario, an input and a file.
use Rattle.std.proofs.Common.{◌≡◌, ◌⊎◌, inl, inr, ℕ, Bool, true, false, MatchBool, List, [], Option, Result, Ok, Err, IfOk, IfErr, refl, sym, subst}
use Rattle.scenario_image.specs.declared.parts.ScenarioParts.{ScenarioParts}
use Rattle.table_run.specs.State.{initial}
use Rattle.debugger.specs.Debugging.{Debugging, debugging_opened}
use Rattle.debug_session.specs.declared.dialogue.Dialogue.{Dialogue}
use Rattle.prompt_words.specs.declared.display.DisplayItem.{DisplayItem}
use Rattle.prompt_words.specs.declared.memo.Memo.{Memo}
use Rattle.prompt_words.specs.declared.naming.Naming.{Naming}
use Rattle.debug_session.specs.Answers.{session_state, opened_at}
use Rattle.prompt_words.specs.Memos.{no_memo}
use Rattle.prompt_words.specs.Namings.{limits_of}
use Rattle.debug_session.specs.Prompt.{Typing, Typed, at_prompt, unmoved}
use Rattle.sessions.specs.declared.fault.SessionFault.{SessionFault}
use Rattle.sessions.specs.declared.fault.SessionFault.TheVariants.{TooLong, Refused, RefusedImage, Groups, ReadFailed, CannotRead, WriteFailed, NoMemory}
use Rattle.sessions.specs.declared.prompt.Prompt.{Prompt}
use Rattle.sessions.specs.Done.{IsPromptDone, IsPromptOpened, IsRefused}
use Rattle.sessions.specs.Ended.{SessionEnded, reads_after, writes_after}
use Rattle.sessions.specs.Input.{InputHasScenario, InputHasFault, Reads, is_image}
use Rattle.sessions.specs.Namings.{IsNamingOf}
use Rattle.sessions.specs.Nodes.{HasGroups, LacksGroups}
use Rattle.sessions.specs.Prompt.{IsFileFault, IsOverScenario, IsPromptEnding, IsPromptOver, IsTypedSession, IsUnbegun, line_reads_after}
use Rattle.sessions.specs.Session.{IsWithin}
use Rattle.sessions.specs.Streams.{Streams}
use Rattle.sessions.proofs.Prompting.{none_typed}

pub unbegun : (streams : Streams) → IsUnbegun streams streams
unbegun streams = record { untyped = none_typed streams.typed; unwritten = refl }

-- lines were typed over a scenario
pub over_scenario : (naming : Naming) (p : ScenarioParts) (ended : SessionEnded) (before after : Streams) → IsTypedSession naming (initial p) (unmoved (opened_at (initial p))) ended before after → IsOverScenario naming p ended before after
over_scenario naming p (Err NoMemory) before after session = absurd session.ending
over_scenario naming p _ before after session = session

pub typed_over : {workers : ℕ} (p : ScenarioParts) (d : Dialogue) (naming : Naming) (ended : SessionEnded) (before after : Streams) → d.debugger ≡ debugging_opened (initial p) workers → d.memo ≡ no_memo → d.displays.items ≡ []
    → IsTypedSession naming d.debugger.start (at_prompt d) ended before after → IsOverScenario naming p ended before after
typed_over p d naming ended before after is none bare session =
    let unasked = subst (λ (m : Memo). IsTypedSession naming d.debugger.start (record { session_state = session_state d.debugger; memo = m; displays = [] }) ended before after) none (subst (λ (items : List DisplayItem). IsTypedSession naming d.debugger.start (record { session_state = session_state d.debugger; memo = d.memo; displays = items }) ended before after) bare session) in
    over_scenario naming p ended before after (subst (λ (e : Debugging). IsTypedSession naming e.start (unmoved (session_state e)) ended before after) is unasked)

-- the input has a scenario, over which a session ended so that knows the input's names
pub input_over : (groups input : List ℕ) (p : ScenarioParts) (naming : Naming) (ended : SessionEnded) (before after : Streams) → IsWithin input → InputHasScenario input p → HasGroups groups p
    → IsNamingOf input (limits_of p) naming → IsOverScenario naming p ended before after → IsPromptOver groups input ended before after
input_over groups input p naming (Err NoMemory) before after within means has called over = over
input_over groups input p naming (Err (Refused line fault)) before after within means has called over = absurd over.ending
input_over groups input p naming (Err (RefusedImage fault)) before after within means has called over = absurd over.ending
input_over groups input p naming (Err Groups) before after within means has called over = absurd over.ending
input_over groups input p naming _ before after within means has called over = (within, (p, means, has, naming, called, over))

-- a fault that no input has
no_fault : (b : Bool) → ¬ MatchBool b ⊥ ⊥
no_fault true has = has
no_fault false has = has

-- an input that has a fault is refused for it
pub short_refused : (groups input : List ℕ) → IsRefused groups input NoMemory
short_refused groups input = record { over = unbegun; reads = λ n. refl; writes = λ n. refl }

fault_refused : (groups input : List ℕ) (fault : SessionFault) → IsWithin input → InputHasFault input fault → IsRefused groups input fault
fault_refused groups input (Refused line fault) within has = record { over = λ streams. (within, has, unbegun streams); reads = λ n. refl; writes = λ n. refl }
fault_refused groups input (RefusedImage fault) within has = record { over = λ streams. (within, has, unbegun streams); reads = λ n. refl; writes = λ n. refl }
fault_refused groups input _ within has = absurd (no_fault (is_image input) has)

pub input_refused : (groups input : List ℕ) (fault : SessionFault) (read : Result ScenarioParts SessionFault) → IsWithin input → read ≡ Err fault → Reads (InputHasScenario input) (InputHasFault input) read → IsRefused groups input fault
input_refused groups input fault read within is says =
    elim (subst (λ r. IfErr r (λ f. (f ≡ NoMemory) ⊎ InputHasFault input f)) is says.fault) [
      | inl short ↦ subst (λ f. IsRefused groups input f) (sym short) (short_refused groups input)
      | inr has ↦ fault_refused groups input fault within has
    ]

-- or the text names no groups for its nodes
pub groups_refused : (groups input : List ℕ) (p : ScenarioParts) (fault : SessionFault) → IsWithin input → InputHasScenario input p → LacksGroups groups p fault → IsRefused groups input fault
groups_refused groups input p NoMemory within means lacks = short_refused groups input
groups_refused groups input p Groups within means lacks = record { over = λ streams. ((within, (p, means, lacks)), unbegun streams); reads = λ n. refl; writes = λ n. refl }
groups_refused groups input p _ within means lacks = absurd lacks

-- lines were typed at a prompt that was opened over an input, and so its session has ended
pub typed_end : (groups input : List ℕ) (prompt : Prompt) (ended : SessionEnded) (now after : Streams) → IsWithin input → IsPromptOpened groups input prompt
    → IsTypedSession prompt.naming prompt.dialogue.debugger.start (at_prompt prompt.dialogue) ended now after → after.read_failures ≡ reads_after ended now.read_failures → after.write_failures ≡ writes_after ended now.write_failures
    → IsPromptDone groups input now ended after
typed_end groups input prompt ended now after within opened typed reads writes =
    let over = typed_over opened.p prompt.dialogue prompt.naming ended now after opened.debugger opened.memo opened.displays typed in
    record { over = input_over groups input opened.p prompt.naming ended now after within opened.has_scenario opened.has_groups opened.naming over; reads = reads; writes = writes }

pub scenario_of : (input : List ℕ) (read : Result ScenarioParts SessionFault) (p : ScenarioParts) → read ≡ Ok p → Reads (InputHasScenario input) (InputHasFault input) read → InputHasScenario input p
scenario_of input read p is says = subst (λ r. IfOk r (InputHasScenario input)) is says.scenario

-- the file was not read
pub file_ending : (groups file input : List ℕ) (fault : SessionFault) (before after : Streams) → IsFileFault file input fault → IsUnbegun before after → IsPromptEnding groups file input (Err fault) before after
file_ending groups file input TooLong before after long none = (long, none)
file_ending groups file input (CannotRead name) before after is none = (is, none)
file_ending groups file input NoMemory before after short none = none
file_ending groups file input _ before after faulty none = absurd faulty

pub file_reads : (T : Type 0) (fault : SessionFault) (n : ℕ) → line_reads_after {T = T} (Err fault) n ≡ line_reads_after {T = Unit {0}} (Err fault) n
file_reads T ReadFailed n = refl
file_reads T (CannotRead name) n = refl
file_reads T _ n = refl

pub file_writes : (file input : List ℕ) (fault : SessionFault) (n : ℕ) → IsFileFault file input fault → n ≡ writes_after {T = Unit {0}} (Err fault) n
file_writes file input WriteFailed n faulty = absurd faulty
file_writes file input _ n faulty = refl

-- the file was read
pub file_over : (groups file input : List ℕ) (ended : SessionEnded) (before after : Streams) → IsPromptOver groups input ended before after → IsPromptEnding groups file input ended before after
file_over groups file input (Err TooLong) before after over = absurd over.1.5.ending
file_over groups file input (Err (CannotRead name)) before after over = absurd over.1.5.ending
file_over groups file input _ before after over = over

pub over_reads : (groups input : List ℕ) (ended : SessionEnded) (before after : Streams) (n : ℕ) → IsPromptOver groups input ended before after → reads_after ended n ≡ line_reads_after ended n
over_reads groups input (Err ReadFailed) before after n over = refl
over_reads groups input (Err (CannotRead name)) before after n over = absurd over.1.5.ending
over_reads groups input _ before after n over = refl

pub same_typed : (old new : Option Typing) → new ≡ old → Typed old new []
same_typed old new same = subst (λ (t : Option Typing). Typed old t []) (sym same) (none_typed old)
