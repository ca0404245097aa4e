-- A session's reader and writer, before it and after it.
use Rattle.std.specs.Prelude.{◌≡◌, ℕ, List, Option, IfSome}
use Rattle.debug_session.specs.Prompt.{Typing}

-- how often the reader and the writer have failed, which lines were typed, and what the writer holds, where these are known
pub record Streams : Type 0 where
  pub read_failures : ℕ
  pub typed : Option Typing
  pub write_failures : ℕ
  pub written : Option (List ℕ)

-- what is seen of a reader and a writer
abbrev pub streams_of : {R W : Type 0} → (R → ℕ) → (R → Option Typing) → (W → ℕ) → (W → Option (List ℕ)) → R → W → Streams
streams_of read_failures typed write_failures contents reader writer =
    record { read_failures = read_failures reader; typed = typed reader; write_failures = write_failures writer; written = contents writer }

-- the input that a reader gives: its bytes, where it tells them
abbrev pub IsInputOf : Option (List ℕ) → List ℕ → Type 0
IsInputOf known input = IfSome known (λ bytes. input ≡ bytes)
