-- What was appended and what is left are all lines.
use Rattle.std.proofs.Common.{◌≡◌, ◌++◌, drop}
use Rattle.std.specs.List.{flat_map}
use Rattle.debug_session.specs.StallLists.{stall_line}
use Rattle.debug_session.proofs.stall_list.append_stall_lines.Given as goal

abbrev pub invariant-loop-stall : goal.invariant-loop-stall
invariant-loop-stall l = l.out.items ++ flat_map (stall_line l.flows) (drop l.stall-index l.stalls) ≡ l.fn.out.items ++ flat_map (stall_line l.flows) l.stalls
