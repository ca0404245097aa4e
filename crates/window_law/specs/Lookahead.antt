-- How soon what one group of nodes does can reach another.
use Rattle.std.specs.Prelude.{ℕ, ◌==◌, min, if◌then◌else◌, List, [], ◌∷◌, Option, Some, None}
use Rattle.scenario_image.specs.declared.parts.LinkPart.{LinkPart}

-- the lesser of two numbers, where there are such
abbrev pub lesser : Option ℕ → Option ℕ → Option ℕ
lesser None other = other
lesser (Some a) None = Some a
lesser (Some a) (Some b) = Some (min a b)

-- the least delay of a link whose ends are in two groups
abbrev pub lookahead : (ℕ → ℕ) → List LinkPart → Option ℕ
lookahead group [] = None
lookahead group (link ∷ links) = if group link.from == group link.to then lookahead group links else lesser (Some link.delay) (lookahead group links)
