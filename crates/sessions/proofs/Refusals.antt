-- How refused words are answered.
use mathlib.Core.Bool.{false≢true}
use Rattle.std.proofs.Common.{◌≡◌, ◌≢◌, ◌⊎◌, inl, inr, ℕ, Bool, true, false, List, [], ◌∙◌, refl, ap, subst, Option, Err}
use Rattle.clap.specs.Kinds.{HasKind}
use Rattle.clap.specs.Values.{kind_of}
use Rattle.clap.specs.declared.error.Error.{Error}
use Rattle.clap.specs.declared.error.kind.ErrorKind.{ErrorKind}
use Rattle.clap.specs.declared.error.kind.ErrorKind.TheVariants.{OutOfMemory}
use Rattle.sessions.specs.declared.outcome.Outcome.{Outcome}
use Rattle.sessions.specs.declared.fault.SessionFault.TheVariants.{CommandLine, NoMemory}
use Rattle.command_line.specs.CommandLine.{word_faults, AskFor, IsRequest, AreMistaken}
use Rattle.sessions.specs.Answered.{IsRefusal}
use Rattle.command_line.specs.declared.subcommand.Asked.{Asked}
use Rattle.sessions.specs.Asked.{IsAskedOn}
use Rattle.sessions.specs.Ended.{SessionEnded}
use Rattle.sessions.specs.Outcome.{outcome_of}
use Rattle.sessions.specs.Session.{OutcomeTells}
use Rattle.sessions.specs.Streams.{Streams}
use Rattle.command_line.proofs.Naming.{words_ask_for_one}
use Rattle.sessions.proofs.DebugReading.{asked_never_begun}

is_out_of_memory : ErrorKind → Bool
is_out_of_memory OutOfMemory = true
is_out_of_memory _ = false

out_of_memory_or_not : (kind : ErrorKind) → (kind ≡ OutOfMemory) ⊎ (kind ≢ OutOfMemory)
unfolding is_out_of_memory
out_of_memory_or_not OutOfMemory = inl refl
out_of_memory_or_not _ = inr (λ e. false≢true (ap is_out_of_memory e))

-- mistaken words are refused for their fault, or memory was
pub refusal : {W : Type 0} (words : List (List ℕ)) (error : Error) (answered : SessionEnded) (outcome : Outcome) (old new : W) → HasKind (word_faults words) error → AreMistaken words → outcome ≡ outcome_of answered
    → (kind_of error ≡ OutOfMemory → (answered ≡ Err NoMemory) × (new ≡ old))
    → (kind_of error ≢ OutOfMemory → ¬ IsRequest (kind_of error) → (answered ≡ Err (CommandLine error)) × (new ≡ old))
    → OutcomeTells outcome (IsRefusal words) × (new ≡ old)
refusal {W} words error answered outcome old new kinds mistaken reported no_memory mistake = elim kinds [
  | inl short ↦ of_memory short
  | inr among ↦ elim (out_of_memory_or_not (kind_of error)) [
    | inl short ↦ of_memory short
    | inr other ↦
        let is = mistake other (λ request. mistaken.no_request (kind_of error) request among) in
        ((Err (CommandLine error), reported ∙ ap outcome_of is.0, among), is.1)
  ]
]
  where
    of_memory : kind_of error ≡ OutOfMemory → OutcomeTells outcome (IsRefusal words) × (new ≡ old)
    of_memory short = let is = no_memory short in ((Err NoMemory, reported ∙ ap outcome_of is.0, tt), is.1)

-- words that ask for a subcommand are refused for want of memory only, and then nothing was begun
pub no_begin : (words : List (List ℕ)) (asked : Asked) (known : Option (List ℕ)) (bytes_of : List ℕ → Option (List ℕ)) (error : Error) (answered : SessionEnded) (outcome : Outcome) (before after : Streams) → HasKind (word_faults words) error
    → AskFor words asked → outcome ≡ outcome_of answered → (kind_of error ≡ OutOfMemory → (answered ≡ Err NoMemory) × (after ≡ before))
    → OutcomeTells outcome (λ ended. IsAskedOn asked known bytes_of ended before after)
no_begin words asked known bytes_of error answered outcome before after kinds asks is no_memory =
    let none : HasKind [] error = subst (λ ks. HasKind ks error) asks.faultless kinds in
    elim none [
      | inl short ↦ let short_of = no_memory short in (Err NoMemory, is ∙ ap outcome_of short_of.0, asked_never_begun asked known bytes_of before after short_of.1)
      | inr among ↦ absurd among
    ]

-- words that ask for a subcommand ask for no other
pub asked_session : (words : List (List ℕ)) (found asked : Asked) (known : Option (List ℕ)) (bytes_of : List ℕ → Option (List ℕ)) (ended : SessionEnded) (outcome : Outcome) (before after : Streams) → AskFor words found → AskFor words asked
    → outcome ≡ outcome_of ended → IsAskedOn found known bytes_of ended before after → OutcomeTells outcome (λ ended. IsAskedOn asked known bytes_of ended before after)
asked_session words found asked known bytes_of ended outcome before after reads asks reported done =
    (ended, reported, subst (λ a. IsAskedOn a known bytes_of ended before after) ((words_ask_for_one words).only found asked reads asks) done)
