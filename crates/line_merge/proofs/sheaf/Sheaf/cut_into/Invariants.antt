use Rattle.std.proofs.Common.{◌≤◌, ◌<◌, ◌≡◌, get_or, length}
use Rattle.line_merge.proofs.sheaf.Sheaf.cut_into.Given as goal

abbrev pub invariant-loop-lines : goal.invariant-loop-lines
invariant-loop-lines l = l.count ≤ 256

abbrev pub invariant-loop-part : goal.invariant-loop-part
invariant-loop-part l = record {
  size : length l.moments ≡ l.parts;
  first : 0 < l.part → get_or l.moments 0 0 ≡ 0;
}
