-- The words so far are the numbers of the groups so far.
use Rattle.std.proofs.Common.{map, take}
use Rattle.sessions.specs.Groups.{Names}
use Rattle.sessions.proofs.groups.groups_named.Given as goal

abbrev pub invariant-loop-word : goal.invariant-loop-word
invariant-loop-word l = Names (take l.word-index (map (λ w. w.now) l.words)) l.groups.items
