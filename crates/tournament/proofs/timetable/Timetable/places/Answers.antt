use Rattle.std.proofs.Common.{◌≡◌, length, ◌∙◌, arith}
use Rattle.tournament.proofs.Reported.{places_of}
use Rattle.tournament.proofs.timetable.Timetable.places.Goals as goal

pub returns : goal.returns
returns c =
    let t = c.self.inside in
    let all : c.len.result ≡ length t.late.items = omega (arith, c.len.ensures, t.late.ok.0) in
    all ∙ places_of t.late.items t.tree.items c.args.self.now c.self.view_is
