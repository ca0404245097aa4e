use Rattle.aqm.proofs.Stays.{queues_open_empty, queues_stay, enters_last, full_refuses}
use Rattle.aqm.proofs.guarantees.queues_stay.Goals as goal

pub returns : goal.returns
returns c = record { opens = queues_open_empty; stays = queues_stay; last = enters_last; full = full_refuses }
