-- A debugging session, from its reader on.
use Rattle.std.proofs.Common.{◌≡◌, ◌≢◌, ◌∙◌, ℕ, Bool, true, false, List, [], codes, bytes_eq, MatchBool, Option, None, Some, Err, refl, sym, subst}
use Rattle.sessions.specs.declared.fault.SessionFault.{SessionFault}
use Rattle.sessions.specs.declared.fault.SessionFault.TheVariants.{ReadFailed, NoMemory}
use Rattle.command_line.specs.declared.subcommand.Asked.{Asked}
use Rattle.command_line.specs.declared.subcommand.Asked.TheVariants.{Session, Explanation}
use Rattle.command_line.specs.declared.subcommand.Task.{Task}
use Rattle.command_line.specs.declared.subcommand.Task.TheVariants.{Scenario, Debug}
use Rattle.sessions.specs.Asked.{IsTaskOnFile, IsOverFile, IsExplanation, IsNamedOn, IsAskedOn}
use Rattle.sessions.specs.Answered.{IsExplained}
use Rattle.sessions.specs.Debug.{IsDebugSession, IsDebugSessionOn, IsTaskOn}
use Rattle.sessions.specs.Ended.{SessionEnded, IsReadFault, reads_after, writes_after}
use Rattle.sessions.specs.Prompt.{IsPromptOn}
use Rattle.sessions.specs.Streams.{Streams, IsInputOf}
use Rattle.sessions.proofs.DebugEnds.{unread_input}
use Rattle.sessions.proofs.Prompting.{none_typed}
use Rattle.sessions.proofs.Reading.{hindered_text, reads_stay, writes_stay, unread}
use Rattle.window_text.proofs.Bytes.{appends_nothing}

-- the input was not read
pub debug_unread : (groups : List ℕ) (known : Option (List ℕ)) (fault : SessionFault) (before after : Streams) → (text : List ℕ) × IsInputOf known text × IsReadFault text fault → after.written ≡ before.written
    → after.write_failures ≡ before.write_failures → after.read_failures ≡ reads_after {T = Unit {0}} (Err fault) before.read_failures → IsDebugSessionOn groups known (Err fault) before after
debug_unread groups known fault before after of_input same_bytes same_writes reads =
    record {
      input = of_input.0;
      given = of_input.1;
      session = subst (λ out. IsDebugSession groups of_input.0 (Err fault) before.written out) (sym same_bytes) (unread_input groups of_input.0 fault before.written of_input.2);
      reads = reads;
      writes = same_writes ∙ writes_stay of_input.0 fault before.write_failures of_input.2;
    }

-- the input was read
pub debug_read : (groups : List ℕ) (known : Option (List ℕ)) (input : List ℕ) (ended : SessionEnded) (before after : Streams) → IsInputOf known input → IsDebugSession groups input ended before.written after.written
    → ended ≢ Err ReadFailed → after.read_failures ≡ before.read_failures → after.write_failures ≡ writes_after ended before.write_failures → IsDebugSessionOn groups known ended before after
debug_read groups known input ended before after given session other reads writes =
    record { input = input; given = given; session = session; reads = reads ∙ reads_stay ended before.read_failures other; writes = writes }

-- nothing was read of a task's input
pub task_unread : (task : Task) (known : Option (List ℕ)) (fault : SessionFault) (before after : Streams) → (text : List ℕ) × IsInputOf known text × IsReadFault text fault → after.written ≡ before.written
    → after.write_failures ≡ before.write_failures → after.read_failures ≡ reads_after {T = Unit {0}} (Err fault) before.read_failures → IsTaskOn task known (Err fault) before after
task_unread (Scenario subcommand) known fault before after of_input written writes reads = unread subcommand known fault before after of_input written writes reads
task_unread (Debug sharing) known fault before after of_input written writes reads = debug_unread sharing.groups known fault before after of_input written writes reads

-- memory was refused before anything was read
pub task_never_begun : (task : Task) (known : Option (List ℕ)) (before after : Streams) → after ≡ before → IsTaskOn task known (Err NoMemory) before after
task_never_begun task known before after same =
    subst (λ streams. IsTaskOn task known (Err NoMemory) before streams) (sym same) (task_unread task known NoMemory before before (hindered_text known NoMemory (λ text. tt)) refl refl refl)

-- so over a file
pub file_never_begun : (task : Task) (file : List ℕ) (known : Option (List ℕ)) (before after : Streams) → after ≡ before → IsTaskOnFile task file known (Err NoMemory) before after
file_never_begun task file known before after same = record { ended = Err NoMemory; is_reported = refl; session = task_never_begun task known before after same }

-- or at a prompt
prompt_never_begun : (groups file : List ℕ) (known : Option (List ℕ)) (before after : Streams) → after ≡ before → IsPromptOn groups file known (Err NoMemory) before after
prompt_never_begun groups file known before after same =
    let unread = hindered_text known NoMemory (λ text. tt) in
    subst (λ streams. IsPromptOn groups file known (Err NoMemory) before streams) (sym same)
    (record { input = unread.0; given = unread.1; ending = record { untyped = none_typed before.typed; unwritten = refl }; reads = refl; writes = refl })

over_file_never_begun : (task : Task) (file : List ℕ) (known : Option (List ℕ)) (before after : Streams) → after ≡ before → IsOverFile task file known (Err NoMemory) before after
over_file_never_begun (Scenario subcommand) file known before after same = file_never_begun (Scenario subcommand) file known before after same
over_file_never_begun (Debug sharing) file known before after same = prompt_never_begun sharing.groups file known before after same

-- and of all that may be asked for
named_never_begun : (task : Task) (file : Option (List ℕ)) (known : Option (List ℕ)) (bytes_of : List ℕ → Option (List ℕ)) (before after : Streams) → after ≡ before
    → IsNamedOn task file known bytes_of (Err NoMemory) before after
named_never_begun task None known bytes_of before after same = task_never_begun task known before after same
named_never_begun task (Some file) known bytes_of before after same = go (bytes_eq file (codes "-"))
  where
    go : (b : Bool) → MatchBool b (IsTaskOn task known (Err NoMemory) before after) (IsOverFile task file (bytes_of file) (Err NoMemory) before after)
    go true = task_never_begun task known before after same
    go false = over_file_never_begun task file (bytes_of file) before after same

pub asked_never_begun : (asked : Asked) (known : Option (List ℕ)) (bytes_of : List ℕ → Option (List ℕ)) (before after : Streams) → after ≡ before → IsAskedOn asked known bytes_of (Err NoMemory) before after
asked_never_begun (Session task file wishes) known bytes_of before after same = named_never_begun task file known bytes_of before after same
asked_never_begun (Explanation code) known bytes_of before after same = explained code
  where
    nothing : (code : Option (List ℕ)) → IsExplained code (Err NoMemory) []
    nothing None = refl
    nothing (Some code) = refl

    explained : (code : Option (List ℕ)) → IsExplanation code (Err NoMemory) before after
    explained code =
        subst (λ streams. IsExplanation code (Err NoMemory) before streams) (sym same)
        (record { output = ([], appends_nothing before.written, nothing code); writes = refl; unread = refl })
