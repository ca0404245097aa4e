use Rattle.reno_sender.proofs.CongestionControl.{progress_keeps_window, loss_keeps_windows}
use Rattle.reno_sender.proofs.guarantees.control_keeps_windows.Goals as goal

pub returns : goal.returns
returns c = record { progress = progress_keeps_window; loss = loss_keeps_windows }
