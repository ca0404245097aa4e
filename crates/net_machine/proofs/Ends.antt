-- The ends of a scenario's links, found one link after the other.
use Rattle.std.proofs.Common.{◌≡◌, ◌≢◌, ℕ, ◌+◌, ◌<◌, List, [], ◌∷◌, ◌++◌, length, sym, ap, subst, ◌∙◌, ⊎_elim, arith}
use Rattle.std.proofs.lemmas.Bool.{cases_eq}
use Rattle.std.proofs.lemmas.List.{get_or_append_left, get_or_push}
use Rattle.scenario_image.specs.declared.parts.LinkPart.{LinkPart}
use Rattle.net_machine.specs.declared.places.LinkEnds.{LinkEnds}
use Rattle.net_machine.specs.Wiring.{no_ends, ends_at, link_ends}

-- the next link's ends are put behind those before it
pub ends_more : (links : List LinkPart) (ends : List LinkEnds) (i : ℕ) (x : LinkEnds) → length ends ≡ i → ((number : ℕ) → number < i → ends_at ends number ≡ link_ends links number) → x ≡ link_ends links i
    → (number : ℕ) → number < i + 1 → ends_at (ends ++ x ∷ []) number ≡ link_ends links number
ends_more links ends i x size before is number under =
    ⊎_elim
    (λ (at : number ≡ i). get_or_push ends x no_ends number (size ∙ sym at) ∙ is ∙ ap (link_ends links) (sym at))
    (λ (apart : number ≢ i). let inside : number < i = omega (arith, under, apart) in get_or_append_left ends (x ∷ []) no_ends number (subst (λ n. number < n) (sym size) inside) ∙ before number inside)
    (cases_eq number i)
