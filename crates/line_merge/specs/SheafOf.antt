-- The lines that a sheaf's fields are.
use Rattle.std.specs.Prelude.{◌≡◌, ◌≤◌, length}
use Rattle.sim_time.specs.declared.limits.TheConstants.{MOST_EVENTS}
use Rattle.line_merge.specs.declared.sheaf.Sheaf.TheInside.{Inside}
use Rattle.line_merge.specs.Merged.{AreApart, all_of}
use Rattle.line_merge.specs.Sheaves.{SheafValue}

abbrev pub sheaf_of : Inside → SheafValue
sheaf_of s = record { first = s.first; lists = s.lists.items }

-- the lists can be merged, and their lines are counted
pub record IsSheaf (s : Inside) : Type 0 where
  pub few : length s.lists.items ≤ 64
  pub apart : AreApart s.lists.items
  pub count : s.count ≡ length (all_of s.lists.items)
  pub few_lines : s.count ≤ MOST_EVENTS
