use Rattle.std.proofs.Common.{◌≡◌, length, arith}
use Rattle.tournament.proofs.Reported.{vacant}
use Rattle.tournament.proofs.timetable.Timetable.new.Goals as goal

pub returns : goal.returns
returns c =
    let late = c.in_ok-late.late in
    let all : length late.items ≡ c.args.places = omega (arith, c.in_ok-late.ensures.len, late.ok.0) in
    vacant late.items c.in_ok-tree.tree.items c.args.places all c.in_ok-tree.ensures.words
