use Rattle.run_laws.proofs.Senders.{new_segments_fit}
use Rattle.run_laws.proofs.laws.new_segments_fit_the_windows.Goals as goal

pub returns : goal.returns
returns c = new_segments_fit
