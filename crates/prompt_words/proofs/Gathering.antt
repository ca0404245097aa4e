-- Conditions that are read one after another.
use Rattle.std.proofs.Common.{◌≡◌, ◌∙◌, ℕ, suc, [], ◌∷◌, Ok, Err, refl, ap, sym}
use Rattle.breakpoints.specs.declared.breaks.Break.{Break}
use Rattle.prompt_words.specs.declared.naming.Naming.{Naming}
use Rattle.prompt_words.specs.declared.refusal.Refusal.{Refusal}
use Rattle.prompt_words.specs.declared.refusal.Refusal.TheVariants.{B2}
use Rattle.prompt_words.specs.Conditions.{one_more, go_on, conditions}
use Rattle.prompt_words.specs.Grammar.{Word}
use Rattle.prompt_words.specs.Parts.{Left, Reads, behind}
use Rattle.prompt_words.specs.Refusals.{and_then}

-- at most no more
pub none_more : (naming : Naming) (b : Break) (word : Word) (l : Left) → conditions 0 naming b word l ≡ Err B2
unfolding conditions
none_more naming b word l = refl

-- and at most one more than so many
one_then : (naming : Naming) (n : ℕ) (b : Break) (word : Word) (l : Left) → conditions (suc n) naming b word l ≡ and_then (one_more naming b word l) (λ read. go_on (conditions n naming) read.0 read.1 read.1.parts)
unfolding conditions
one_then naming n b word l = refl

module _ (naming : Naming) (n left : ℕ) (b : Break) (word : Word) (l : Left) (whole : Reads Break) (so_far : conditions left naming b word l ≡ whole) (counts : left ≡ suc n) where
  here : (read : Reads Break) → one_more naming b word l ≡ read → and_then read (λ r. go_on (conditions n naming) r.0 r.1 r.1.parts) ≡ whole
  here read is =
      ap (λ m. and_then m (λ r. go_on (conditions n naming) r.0 r.1 r.1.parts)) (sym is) ∙ sym (one_then naming n b word l) ∙ ap (λ k. conditions k naming b word l) (sym counts) ∙ so_far

  -- one that is refused
  pub one_refused : (refusal : Refusal) → one_more naming b word l ≡ Err refusal → whole ≡ Err refusal
  one_refused refusal is = sym (here (Err refusal) is)

  -- the last
  pub last_read : (c : Break) (r : Left) → one_more naming b word l ≡ Ok (c, r) → r.parts ≡ [] → whole ≡ Ok (c, r)
  last_read c r is none = sym (ap (λ ws. go_on (conditions n naming) c r ws) (sym none) ∙ here (Ok (c, r)) is)

  -- and one that others follow
  pub next_read : (c : Break) (r rest : Left) (next : Word) → one_more naming b word l ≡ Ok (c, r) → r.parts ≡ next ∷ rest.parts → rest ≡ behind r rest.parts → conditions n naming c next rest ≡ whole
  next_read c r rest next is more same = ap (conditions n naming c next) same ∙ ap (λ ws. go_on (conditions n naming) c r ws) (sym more) ∙ here (Ok (c, r)) is
