use Rattle.window_core.proofs.TooMany.{full_group_has_too_many, full_turn_has_too_many}
use Rattle.window_core.proofs.laws.full_windows_have_too_many.Goals as goal

pub returns : goal.returns
returns c = record { group = full_group_has_too_many; turn = full_turn_has_too_many }
