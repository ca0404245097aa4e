use Rattle.reno_sender.proofs.RowLaws.{timeout_doubles_rto, rto_stays_until_sample}
use Rattle.reno_sender.proofs.guarantees.rto_backs_off.Goals as goal

pub returns : goal.returns
returns c = record { doubles = timeout_doubles_rto; stays = rto_stays_until_sample }
