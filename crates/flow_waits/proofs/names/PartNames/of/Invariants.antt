-- The copies and the names that are left are all names.
use Rattle.std.proofs.Common.{◌≡◌, ◌++◌, map, drop}
use Rattle.flow_waits.proofs.names.PartNames.of.Given as goal

abbrev pub invariant-loop-name : goal.invariant-loop-name
invariant-loop-name l = map (λ copy. copy.items) l.copies.items ++ map (λ name. name.now) (drop l.name-index l.names) ≡ map (λ name. name.now) l.names
