-- What a reader gave, and what a session counts of failures.
use Rattle.std.proofs.Common.{◌≡◌, ◌≢◌, ℕ, ◌+◌, ◌<◌, List, [], ◌++◌, length, length-append, refl, sym, ◌∙◌, ap, subst, arith, Option, None, Some, Result, Ok, Err, IfErr}
use Rattle.std.proofs.lemmas.List.{append-nil}
use Rattle.std.specs.Io.KnownBytes.{Consumes, IsAtEnd}
use Rattle.sessions.specs.declared.fault.SessionFault.{SessionFault}
use Rattle.sessions.specs.declared.fault.SessionFault.TheVariants.{TooLong, ReadFailed, WriteFailed}
use Rattle.sessions.specs.Ended.{SessionEnded, IsReadFault, reads_after, writes_after}
use Rattle.sessions.specs.Streams.{Streams, IsInputOf}
use Rattle.command_line.specs.declared.subcommand.Subcommand.{Subcommand}
use Rattle.sessions.specs.Session.{IsSession, IsSessionOn}
use Rattle.sessions.proofs.Ends.{unread_input}

-- all that there was is the text
pub all_given : (a b : Option (List ℕ)) (text : List ℕ) → Consumes a b text → IsAtEnd b → IsInputOf a text
all_given None b text h k = tt
all_given (Some before) None text h k = absurd h
all_given (Some before) (Some after) text h k = sym (h ∙ ap (λ l. text ++ l) k ∙ append-nil text)

-- a reader has a text, which its bytes are where they are known
pub text_of : (input : Option (List ℕ)) → (text : List ℕ) × IsInputOf input text
text_of None = ([], tt)
text_of (Some bytes) = (bytes, refl)

-- that text is too long, where so much of it was given
pub long_text : (a b : Option (List ℕ)) (given : List ℕ) → Consumes a b given → 16777216 < length given → (text : List ℕ) × IsInputOf a text × IsReadFault text TooLong
long_text None b given h long = (given, tt, long)
long_text (Some before) None given h long = absurd h
long_text (Some before) (Some after) given h long =
    let all : length before ≡ length given + length after = ap length h ∙ length-append given after in
    (before, refl, omega (arith, long, all))

-- what hinders reading at any text hinders it at the reader's
pub hindered_text : (input : Option (List ℕ)) (fault : SessionFault) → ((text : List ℕ) → IsReadFault text fault) → (text : List ℕ) × IsInputOf input text × IsReadFault text fault
hindered_text input fault hindered = let text = text_of input in (text.0, text.1, hindered text.0)

pub hindered_error : {T : Type 0} (r : Result T SessionFault) (fault : SessionFault) (input : Option (List ℕ)) → r ≡ Err fault → ((text : List ℕ) → IsReadFault text fault)
    → IfErr r (λ fault. (text : List ℕ) × IsInputOf input text × IsReadFault text fault)
hindered_error (Ok x) fault input is hindered = tt
hindered_error {T} (Err other) fault input is hindered = hindered_text input other (subst (λ (r : Result T SessionFault). IfErr r (λ e. (text : List ℕ) → IsReadFault text e)) (sym is) hindered)

-- no failure is counted but the one that ended the session
pub reads_stay : {T : Type 0} (r : Result T SessionFault) (n : ℕ) → r ≢ Err ReadFailed → n ≡ reads_after r n
reads_stay (Ok x) n other = refl
reads_stay (Err ReadFailed) n other = absurd (other refl)
reads_stay (Err _) n other = refl

pub writes_stay : (text : List ℕ) (fault : SessionFault) (n : ℕ) → IsReadFault text fault → n ≡ writes_after {T = Unit {0}} (Err fault) n
writes_stay text WriteFailed n reads = absurd reads
writes_stay text _ n reads = refl

-- the input was not read
pub unread : (subcommand : Subcommand) (known : Option (List ℕ)) (fault : SessionFault) (before after : Streams) → (text : List ℕ) × IsInputOf known text × IsReadFault text fault → after.written ≡ before.written
    → after.write_failures ≡ before.write_failures → after.read_failures ≡ reads_after {T = Unit {0}} (Err fault) before.read_failures → IsSessionOn subcommand known (Err fault) before after
unread subcommand known fault before after of_input same_bytes same_writes reads =
    record {
      input = of_input.0;
      given = of_input.1;
      session = subst (λ out. IsSession subcommand of_input.0 (Err fault) before.written out) (sym same_bytes) (unread_input subcommand of_input.0 fault before.written of_input.2);
      reads = reads;
      writes = same_writes ∙ writes_stay of_input.0 fault before.write_failures of_input.2;
    }

-- the input was read
pub read : (subcommand : Subcommand) (known : Option (List ℕ)) (input : List ℕ) (ended : SessionEnded) (before after : Streams) → IsInputOf known input → IsSession subcommand input ended before.written after.written
    → ended ≢ Err ReadFailed → after.read_failures ≡ before.read_failures → after.write_failures ≡ writes_after ended before.write_failures → IsSessionOn subcommand known ended before after
read subcommand known input ended before after given session other reads writes =
    record { input = input; given = given; session = session; reads = reads ∙ reads_stay ended before.read_failures other; writes = writes }
