-- The nearest of names to a word, one name after another.
use Rattle.std.proofs.Common.{◌≡◌, ◌<◌, ◌≤◌, ℕ, Bool, true, false, List, [], ◌∷◌, ◌++◌, All, Option, Some, None, refl, sym, ap, subst, ◌∙◌, arith, append_assoc, append-nil}
use Rattle.std.specs.Prelude.{nat_lt, if◌then◌else◌, MatchOption}
use Rattle.std.proofs.lemmas.Bool.{ltb-true, ltb-false}
use Rattle.std.proofs.lemmas.List.Elements.{All-nil, All-cons, All-append, All-push, All-weaker}
use Rattle.prompt_words.specs.declared.name.CommandName.{CommandName}
use Rattle.sessions.specs.declared.nearest.Near.{Near}
use Rattle.sessions.specs.Nearest.{edits_to, with_edits, nearer, IsNearest}

-- the nearest so far, with those names that are still to come
abbrev pub nearest_of : List ℕ → Option Near → List CommandName → Option Near
nearest_of word best [] = best
nearest_of word best (name ∷ names) = nearest_of word (Some (nearer best (with_edits word name))) names

-- the nearest of names, where there are any
abbrev pub IsBest : List ℕ → List CommandName → Option Near → Type 0
IsBest word names best = MatchOption best (names ≡ []) (IsNearest word names)

one_more : (word : List ℕ) (names : List CommandName) (name : CommandName) (best : Option Near) → IsBest word names best → IsNearest word (names ++ name ∷ []) (nearer best (with_edits word name))
one_more word names name None is = record {
  before = [];
  behind = [];
  among = ap (λ (l : List CommandName). l ++ name ∷ []) is;
  edits = refl;
  first = All-nil (λ (other : CommandName). edits_to word name < edits_to word other);
  least = All-nil (λ (other : CommandName). edits_to word name ≤ edits_to word other);
}
one_more word names name (Some found) is = go (nat_lt (edits_to word name) found.edits) refl
  where
    go : (b : Bool) → nat_lt (edits_to word name) found.edits ≡ b → IsNearest word (names ++ name ∷ []) (if b then with_edits word name else found)
    go true test =
        let less : edits_to word name < found.edits = ltb-true (edits_to word name) found.edits test in
        let P : CommandName → Type 0 = λ other. edits_to word name < edits_to word other in
        let front = All-weaker (λ (other : CommandName). found.edits < edits_to word other) P (λ other l. omega (arith, l, less)) is.before is.first in
        let back = All-weaker (λ (other : CommandName). found.edits ≤ edits_to word other) P (λ other l. omega (arith, l, less)) is.behind is.least in
        let all = All-append P is.before (found.name ∷ is.behind) front (All-cons P found.name is.behind (omega (arith, less, is.edits)) back) in
        record {
          before = names;
          behind = [];
          among = refl;
          edits = refl;
          first = subst (All P) (sym is.among) all;
          least = All-nil (λ (other : CommandName). edits_to word name ≤ edits_to word other);
        }
    go false test = record {
      before = is.before;
      behind = is.behind ++ name ∷ [];
      among = ap (λ (l : List CommandName). l ++ name ∷ []) is.among ∙ append_assoc is.before (found.name ∷ is.behind) (name ∷ []);
      edits = is.edits;
      first = is.first;
      least = All-push (λ (other : CommandName). found.edits ≤ edits_to word other) is.behind name is.least (ltb-false (edits_to word name) found.edits test);
    }

-- names that came before, and those that are to come
goes_on : (word : List ℕ) (before names : List CommandName) (best : Option Near) → IsBest word before best → IsBest word (before ++ names) (nearest_of word best names)
goes_on word before [] best is = subst (λ (l : List CommandName). IsBest word l best) (sym (append-nil before)) is
goes_on word before (name ∷ names) best is =
    subst (λ (l : List CommandName). IsBest word l (nearest_of word (Some (nearer best (with_edits word name))) names)) (append_assoc before (name ∷ []) names)
    (goes_on word (before ++ name ∷ []) names (Some (nearer best (with_edits word name))) (one_more word before name best is))

-- of all names
pub is_nearest : (word : List ℕ) (names : List CommandName) → IsBest word names (nearest_of word None names)
is_nearest word names = goes_on word [] names None refl
