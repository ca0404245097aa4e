-- The session of a task over the input that is named, by what came of reading it and of what followed.
use Rattle.std.proofs.Common.{◌≡◌, ◌≢◌, ◌∙◌, ℕ, Bool, true, false, List, codes, bytes_eq, MatchBool, if◌then◌else◌, Option, None, Some, Result, Ok, Err, IfErr, IfOk, refl, sym, ap, subst}
use Rattle.std.specs.Option.{option_map}
use Rattle.sessions.specs.declared.fault.SessionFault.{SessionFault}
use Rattle.sessions.specs.declared.fault.SessionFault.TheVariants.{TooLong, ReadFailed, CannotRead, NoMemory}
use Rattle.command_line.specs.declared.subcommand.Subcommand.{Subcommand}
use Rattle.command_line.specs.declared.subcommand.Task.{Task}
use Rattle.command_line.specs.declared.subcommand.Task.TheVariants.{Scenario, Debug}
use Rattle.sessions.specs.Asked.{IsTaskOnFile, IsOverFile, IsNamedOn}
use Rattle.sessions.specs.Debug.{IsTaskOn}
use Rattle.sessions.specs.Done.{IsTaskWith}
use Rattle.sessions.specs.Ended.{SessionEnded, IsReportedOf, reads_after}
use Rattle.sessions.specs.Named.{IsInputFault, IsTaskOver, input_reads_after, known_of, named_file}
use Rattle.sessions.specs.Prompt.{IsFileFault, IsPromptOn, line_reads_after}
use Rattle.sessions.specs.Streams.{Streams, IsInputOf}
use Rattle.sessions.proofs.DebugReading.{debug_read, task_unread}
use Rattle.sessions.proofs.PromptEnds.{file_ending, file_over, file_reads, file_writes, over_reads, same_typed}
use Rattle.sessions.proofs.Reading.{read, unread}

-- a session that read all is told as it ended
reported_same : (file : List ℕ) (ended : SessionEnded) → ended ≢ Err ReadFailed → IsReportedOf file ended ended
reported_same file (Err ReadFailed) other = absurd (other refl)
reported_same file (Ok done) other = refl
reported_same file (Err _) other = refl

-- a file was not read, of which something was to be made
file_unread : (subcommand : Subcommand) (file : List ℕ) (known : Option (List ℕ)) (fault : SessionFault) (before after : Streams) → (input : List ℕ) × IsInputOf known input × IsFileFault file input fault
    → after.written ≡ before.written → after.write_failures ≡ before.write_failures → after.read_failures ≡ line_reads_after {T = Unit {0}} (Err fault) before.read_failures
    → IsTaskOnFile (Scenario subcommand) file known (Err fault) before after
file_unread subcommand file known TooLong before after of_input written writes reads =
    record { ended = Err TooLong; is_reported = refl; session = unread subcommand known TooLong before after (of_input.0, of_input.1, of_input.2) written writes reads }
file_unread subcommand file known NoMemory before after of_input written writes reads =
    record { ended = Err NoMemory; is_reported = refl; session = unread subcommand known NoMemory before after (of_input.0, of_input.1, tt) written writes reads }
file_unread subcommand file known (CannotRead name) before after of_input written writes reads =
    record { ended = Err ReadFailed; is_reported = of_input.2; session = unread subcommand known ReadFailed before after (of_input.0, of_input.1, tt) written writes reads }
file_unread subcommand file known _ before after of_input written writes reads = absurd of_input.2

-- so a file over which commands were to be typed
prompt_unread : (groups file : List ℕ) (known : Option (List ℕ)) (fault : SessionFault) (before after : Streams) → (input : List ℕ) × IsInputOf known input × IsFileFault file input fault → after.typed ≡ before.typed
    → after.written ≡ before.written → after.write_failures ≡ before.write_failures → after.read_failures ≡ line_reads_after {T = Unit {0}} (Err fault) before.read_failures → IsPromptOn groups file known (Err fault) before after
prompt_unread groups file known fault before after of_input typed written writes reads =
    record {
      input = of_input.0;
      given = of_input.1;
      ending = file_ending groups file of_input.0 fault before after of_input.2 (record { untyped = same_typed before.typed after.typed typed; unwritten = written });
      reads = reads;
      writes = writes ∙ file_writes file of_input.0 fault before.write_failures of_input.2;
    }

-- the input was not read
pub over_unread : (task : Task) (file known : Option (List ℕ)) (bytes_of : List ℕ → Option (List ℕ)) (fault : SessionFault) (before after : Streams)
    → (input : List ℕ) × IsInputOf (known_of file known bytes_of) input × IsInputFault file input fault → after.typed ≡ before.typed → after.written ≡ before.written → after.write_failures ≡ before.write_failures
    → after.read_failures ≡ input_reads_after {T = Unit {0}} file (Err fault) before.read_failures → IsTaskOver task file known bytes_of (Err fault) before after
over_unread task None known bytes_of fault before after of_input typed written writes reads = task_unread task known fault before after of_input written writes reads
over_unread (Scenario subcommand) (Some file) known bytes_of fault before after of_input typed written writes reads = file_unread subcommand file (bytes_of file) fault before after of_input written writes reads
over_unread (Debug sharing) (Some file) known bytes_of fault before after of_input typed written writes reads = prompt_unread sharing.groups file (bytes_of file) fault before after of_input typed written writes reads

-- the input was read
pub over_read : (task : Task) (file known : Option (List ℕ)) (bytes_of : List ℕ → Option (List ℕ)) (input : List ℕ) (ended : SessionEnded) (before after : Streams) → IsInputOf (known_of file known bytes_of) input
    → IsTaskWith task file input before ended after → IsTaskOver task file known bytes_of ended before after
over_read (Scenario subcommand) None known bytes_of input ended before after given done = read subcommand known input ended before after given done.session done.no_read done.reads done.writes
over_read (Scenario subcommand) (Some file) known bytes_of input ended before after given done =
    record { ended = ended; is_reported = reported_same file ended done.no_read; session = read subcommand (bytes_of file) input ended before after given done.session done.no_read done.reads done.writes }
over_read (Debug sharing) None known bytes_of input ended before after given done = debug_read sharing.groups known input ended before after given done.session done.no_read done.reads done.writes
over_read (Debug sharing) (Some file) known bytes_of input ended before after given done =
    record {
      input = input;
      given = given;
      ending = file_over sharing.groups file input ended before after done.over;
      reads = done.reads ∙ over_reads sharing.groups input ended before after before.read_failures done.over;
      writes = done.writes;
    }

-- the reader's count of failures, whatever was read
same_reads : (T : Type 0) (fault : SessionFault) (n : ℕ) → reads_after {T = T} (Err fault) n ≡ reads_after {T = Unit {0}} (Err fault) n
same_reads T ReadFailed n = refl
same_reads T _ n = refl

pub unread_counts : {T : Type 0} (file : Option (List ℕ)) (result : Result T SessionFault) (fault : SessionFault) (n m : ℕ) → m ≡ input_reads_after file result n → result ≡ Err fault
    → m ≡ input_reads_after {T = Unit {0}} file (Err fault) n
unread_counts {T} file result fault n m counts is = counts ∙ ap (λ (r : Result T SessionFault). input_reads_after file r n) is ∙ go file
  where
    go : (f : Option (List ℕ)) → input_reads_after {T = T} f (Err fault) n ≡ input_reads_after {T = Unit {0}} f (Err fault) n
    go None = same_reads T fault n
    go (Some name) = file_reads T fault n

-- what was read counts no failure
pub read_counts : {T : Type 0} (file : Option (List ℕ)) (result : Result T SessionFault) (value : T) (n m : ℕ) → m ≡ input_reads_after file result n → result ≡ Ok value → m ≡ n
read_counts {T} file result value n m counts is = counts ∙ ap (λ (r : Result T SessionFault). input_reads_after file r n) is ∙ go file
  where
    go : (f : Option (List ℕ)) → input_reads_after {T = T} f (Ok value) n ≡ n
    go None = refl
    go (Some name) = refl

-- what is said of an answer that is a fault, or a value
pub of_err : {T : Type 0} (P : SessionFault → Type 0) (result : Result T SessionFault) (fault : SessionFault) → result ≡ Err fault → IfErr result P → P fault
of_err {T} P result fault is says = subst (λ (r : Result T SessionFault). IfErr r P) is says

pub of_ok : {T : Type 0} (P : T → Type 0) (result : Result T SessionFault) (value : T) → result ≡ Ok value → IfOk result P → P value
of_ok {T} P result value is says = subst (λ (r : Result T SessionFault). IfOk r P) is says

-- the session over the file that a word names is that of what the word names
pub named : (task : Task) (word known : Option (List ℕ)) (bytes_of : List ℕ → Option (List ℕ)) (ended : SessionEnded) (before after : Streams) → IsTaskOver task (named_file word) known bytes_of ended before after
    → IsNamedOn task word known bytes_of ended before after
named task None known bytes_of ended before after over = over
named task (Some word) known bytes_of ended before after over = go (bytes_eq word (codes "-")) over
  where
    go : (dash : Bool) → IsTaskOver task (if dash then None else Some word) known bytes_of ended before after
        → MatchBool dash (IsTaskOn task known ended before after) (IsOverFile task word (bytes_of word) ended before after)
    go true over = over
    go false over = over

-- a word that may be left out is there, or is not
pub where_some : {A B : Type 0} (f : A → B) (found : Option A) (x : A) (value : Option B) → option_map f found ≡ value → found ≡ Some x → value ≡ Some (f x)
where_some f found x value is some = sym is ∙ ap (option_map f) some

pub where_none : {A B : Type 0} (f : A → B) (found : Option A) (value : Option B) → option_map f found ≡ value → found ≡ None → value ≡ None
where_none f found value is none = sym is ∙ ap (option_map f) none
