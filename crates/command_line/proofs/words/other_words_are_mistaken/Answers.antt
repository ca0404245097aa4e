use mathlib.Core.Bool.{false≢true}
use Rattle.std.proofs.Common.{◌≡◌, inl, inr, ℕ, false, List, [], ◌∷◌, codes, refl, sym, ◌∙◌, ap, subst}
use Rattle.clap.specs.Kinds.{IsAmong}
use Rattle.clap.proofs.OnLiterals.{clap_on_literals}
use Rattle.clap.specs.declared.error.kind.ErrorKind.{ErrorKind}
use Rattle.clap.specs.declared.error.kind.ErrorKind.TheVariants.{MissingSubcommand, UnknownArgument, ValueValidation}
use Rattle.command_line.specs.CommandLine.{word_faults, AreMistaken, WordsOfMistake}
use Rattle.command_line.proofs.NoKinds.{some_kind}
use Rattle.command_line.proofs.Requests.{is_request, asks}
use Rattle.command_line.proofs.words.other_words_are_mistaken.Goals as goal

-- one fault, which asks for no text
one_mistake : (words : List (List ℕ)) (kind : ErrorKind) → word_faults words ≡ kind ∷ [] → is_request kind ≡ false → AreMistaken words
one_mistake words kind is other = record {
  faulty = λ none. some_kind kind [] (sym is ∙ none);
  no_request = λ asked request among. elim (subst (λ kinds. IsAmong asked kinds) is among) [
    | inl same ↦ false≢true (sym other ∙ ap is_request (sym same) ∙ asks asked request)
    | inr nothing ↦ nothing
  ];
}

mistakes : WordsOfMistake
unfolding clap_on_literals is_request
mistakes = record {
  nothing_else = one_mistake (codes "tcpsim" ∷ []) MissingSubcommand refl refl;
  two_files = one_mistake (codes "tcpsim" ∷ codes "run" ∷ codes "once" ∷ codes "twice" ∷ []) UnknownArgument refl refl;
  debug_files = one_mistake (codes "tcpsim" ∷ codes "debug" ∷ codes "a.txt" ∷ codes "b.txt" ∷ []) UnknownArgument refl refl;
  no_worker = one_mistake (codes "tcpsim" ∷ codes "run" ∷ codes "--workers" ∷ codes "0" ∷ []) ValueValidation refl refl;
  many_workers = one_mistake (codes "tcpsim" ∷ codes "debug" ∷ codes "--workers" ∷ codes "65" ∷ []) ValueValidation refl refl;
  asm_is_not_shared = one_mistake (codes "tcpsim" ∷ codes "asm" ∷ codes "--groups" ∷ codes "one" ∷ []) UnknownArgument refl refl;
  figures_are_not_shared = one_mistake (codes "tcpsim" ∷ codes "figures" ∷ codes "--workers" ∷ codes "2" ∷ []) UnknownArgument refl refl;
  debug_is_not_reported = one_mistake (codes "tcpsim" ∷ codes "debug" ∷ codes "--progress" ∷ []) UnknownArgument refl refl;
  two_codes = one_mistake (codes "tcpsim" ∷ codes "explain" ∷ codes "E1" ∷ codes "E2" ∷ []) UnknownArgument refl refl;
}

pub returns : goal.returns
returns c = mistakes
