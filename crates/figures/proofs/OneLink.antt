-- The figures of one link of a node are others, and the rest stay.
use Rattle.std.proofs.Common.{◌≡◌, ◌≢◌, ◌<◌, ◌==◌, not, ℕ, List, length, get_or, set, refl, sym, ap, subst, ◌∙◌, eq-eqb, true≢false, ⊎_elim}
use Rattle.std.proofs.lemmas.Bool.{cases_eq}
use Rattle.std.proofs.lemmas.List.{get_or-set_same, get_or-set_other, get_or_read}
use Rattle.port.specs.Port.{PortState}
use Rattle.node_core.specs.Part.{LinkState, link_at}
use Rattle.node_core.specs.TraceLine.{TraceLine}
use Rattle.figures.specs.declared.link.LinkFigures.{LinkFigures}
use Rattle.figures.specs.Links.{IsLinkAfter, IsLinkAfterIf, OffersToOne}
use Rattle.figures.proofs.Counts.{test_no}

abbrev pub Offered : LinkFigures → PortState → Type 0
Offered f port = port.offered ≢ f.offered

-- a link to which nothing was offered
pub unoffered : (f : LinkFigures) (port : PortState) (line : TraceLine) → port.offered ≡ f.offered → IsLinkAfterIf (not (port.offered == f.offered)) f port line f
unoffered f port line same = record {
  counted = λ test. absurd (true≢false (sym test ∙ ap not (eq-eqb port.offered f.offered same)));
  kept = λ _. refl;
}

-- one to which packets were offered
pub offered_to : (f g : LinkFigures) (port : PortState) (line : TraceLine) → Offered f port → IsLinkAfter f port line g → IsLinkAfterIf (not (port.offered == f.offered)) f port line g
offered_to f g port line more after = record {
  counted = λ _. after;
  kept = λ test. absurd (true≢false (sym (ap not (test_no port.offered f.offered more)) ∙ test));
}

module _ (old : List LinkFigures) (links : List LinkState) (line : TraceLine) (one : OffersToOne old links) (at : ℕ) (within : at < length old) (f g : LinkFigures) (read : f ≡ get_or old at f)
    (more : Offered f (link_at links at).port) (after : IsLinkAfter f (link_at links at).port line g) where
  abbrev After : ℕ → LinkFigures → LinkFigures → Type 0
  After i x y = IsLinkAfterIf (not ((link_at links i).port.offered == x.offered)) x (link_at links i).port line y

  was : (other : LinkFigures) → get_or old at other ≡ f
  was other = sym (get_or_read old at f within read other)

  here : (other : LinkFigures) → After at (get_or old at other) (get_or (set old at g) at other)
  here other =
      subst (λ x. After at x (get_or (set old at g) at other)) (sym (was other))
      (subst (After at f) (sym (get_or-set_same old at g other within)) (offered_to f g (link_at links at).port line more after))

  -- so it is of each of them
  pub one_after : (i : ℕ) (other : LinkFigures) → i < length old → After i (get_or old i other) (get_or (set old at g) i other)
  one_after i other inside =
      ⊎_elim
      (λ (same : i ≡ at). subst (λ n. After n (get_or old n other) (get_or (set old at g) n other)) (sym same) (here other))
      (λ (apart : i ≢ at).
      subst (After i (get_or old i other)) (sym (get_or-set_other old at i g other apart))
      (⊎_elim
      (λ (none : (link_at links i).port.offered ≡ (get_or old i other).offered). unoffered (get_or old i other) (link_at links i).port line none)
      (λ (some : Offered (get_or old i other) (link_at links i).port). absurd (apart (one i at other other inside within some (subst (λ x. Offered x (link_at links at).port) (sym (was other)) more))))
      (cases_eq (link_at links i).port.offered (get_or old i other).offered)))
      (cases_eq i at)
