use Rattle.reno_sender.proofs.Laws.{reachable_sound}
use Rattle.reno_sender.proofs.guarantees.reachable_is_sound.Goals as goal

pub returns : goal.returns
returns c = reachable_sound
