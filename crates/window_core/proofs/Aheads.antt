-- The lookahead from where links leave and end.
use Rattle.std.proofs.Common.{◌≡◌, ℕ, suc, ◌<◌, List, [], ◌∷◌, length, cond, ◌==◌, Option, Some, None, refl, ap, arith}
use Rattle.scenario_image.specs.declared.parts.LinkPart.{LinkPart}
use Rattle.net_machine.specs.declared.places.LinkEnds.{LinkEnds}
use Rattle.net_machine.specs.Wiring.{AreEnds, ends_at, link_part}
use Rattle.window_law.specs.Lookahead.{lesser, lookahead}

-- the least delay of those whose ends are in two groups
abbrev pub ahead : (ℕ → ℕ) → List LinkEnds → Option ℕ
ahead group [] = None
ahead group (link ∷ links) = cond (group link.from == group link.to.node) (ahead group links) (lesser (Some link.delay) (ahead group links))

-- a link and where it leaves and ends
record IsAlike (link : LinkPart) (end : LinkEnds) : Type 0 where
  from : end.from ≡ link.from
  to : end.to.node ≡ link.to
  delay : end.delay ≡ link.delay

alike : (group : ℕ → ℕ) (links : List LinkPart) (ends : List LinkEnds) → length ends ≡ length links → ((n : ℕ) → n < length links → IsAlike (link_part links n) (ends_at ends n)) → ahead group ends ≡ lookahead group links
alike group [] [] size each = refl
alike group [] (e ∷ es) size each = absurd (omega (arith, size))
alike group (l ∷ ls) [] size each = absurd (omega (arith, size))
alike group (l ∷ ls) (e ∷ es) size each =
    let rest : ahead group es ≡ lookahead group ls = alike group ls es (omega (arith, size)) (λ n under. each (suc n) (omega (arith, under))) in
    let first = each 0 (omega arith) in
    λ i. cond (group (first.from i) == group (first.to i)) (rest i) (lesser (Some (first.delay i)) (rest i))

pub ahead_is : (group : ℕ → ℕ) (links : List LinkPart) (ends : List LinkEnds) → AreEnds links ends → ahead group ends ≡ lookahead group links
ahead_is group links ends are = alike group links ends are.size (λ n under. let e = are.each_link n under in record { from = ap (λ (x : LinkEnds). x.from) e; to = ap (λ (x : LinkEnds). x.to.node) e; delay = ap (λ (x : LinkEnds). x.delay) e })

pub lesser_none : (a : Option ℕ) → lesser a None ≡ a
lesser_none None = refl
lesser_none (Some a) = refl
