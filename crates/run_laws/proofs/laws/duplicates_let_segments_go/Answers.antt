use Rattle.run_laws.proofs.Marks.{duplicates_let_segments_go}
use Rattle.run_laws.proofs.laws.duplicates_let_segments_go.Goals as goal

pub returns : goal.returns
returns c = duplicates_let_segments_go
