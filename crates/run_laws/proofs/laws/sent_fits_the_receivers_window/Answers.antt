use Rattle.run_laws.proofs.GoesOn.{sends_within_window}
use Rattle.run_laws.proofs.laws.sent_fits_the_receivers_window.Goals as goal

pub returns : goal.returns
returns c = sends_within_window
