use Rattle.std.proofs.Common.{◌≡◌, ◌+◌, ◌≤◌, ℕ, take}
use Rattle.std.specs.Prelude.{slice_index}
use Rattle.figures.specs.Links.{with_drops}
use Rattle.figures.proofs.reported.count_drops.Given as goal

-- the counts after the acts so far
abbrev pub invariant-loop-act : goal.invariant-loop-act
invariant-loop-act l = record {
  value : l.counts ≡ with_drops l.initial.counts (take l.act-index l.acts);
  most : (i : ℕ) → slice_index l.counts i ≤ slice_index l.initial.counts i + l.act-index;
}
