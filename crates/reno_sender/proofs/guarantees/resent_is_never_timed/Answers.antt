use Rattle.reno_sender.proofs.RowLaws.{start_never_times_resent, acknowledgement_never_times_resent, timeout_never_times_resent}
use Rattle.reno_sender.proofs.guarantees.resent_is_never_timed.Goals as goal

pub returns : goal.returns
returns c = record { start = start_never_times_resent; acknowledgement = acknowledgement_never_times_resent; timeout = timeout_never_times_resent }
