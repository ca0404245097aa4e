-- The name is none of those before.
use Rattle.std.proofs.Common.{◌≡◌, drop}
use Rattle.std.specs.List.{position_from}
use Rattle.std.specs.Str.{bytes_eq}
use Rattle.flow_waits.proofs.names.PartNames.number_of.Given as goal

abbrev pub invariant-loop-index : goal.invariant-loop-index
invariant-loop-index l = position_from (λ own. bytes_eq own l.name) l.index (drop l.index l.self) ≡ position_from (λ own. bytes_eq own l.name) 0 l.self
