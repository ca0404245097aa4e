use Rattle.std.proofs.Common.{◌≡◌, ◌/◌, ◌<◌, sym, ap, ◌∙◌, arith}
use Rattle.std.proofs.lemmas.Bool.{ltb-true}
use Rattle.std.proofs.lemmas.List.{get_or_read}
use Rattle.std.specs.Prelude.{slice_index}
use Rattle.tournament.specs.Timed.{time_at}
use Rattle.tournament.specs.Words.{late_time, reported_at}
use Rattle.tournament.proofs.Soonest.{none_reported}
use Rattle.tournament.proofs.timetable.Timetable.is_empty.Goals as goal

pub returns : goal.returns
returns c = λ after place.
    let t = c.self.inside in
    let root : c.index.result.now ≡ slice_index t.tree.items 1 = get_or_read t.tree.items 1 c.index.result.now c.self.invariant.rooted c.index.ensures 0 in
    let reported : c.reported-time.result.0 ≡ reported_at t.tree.items 1 = c.reported-time.ensures.time ∙ ap (λ w. w / 4096) root in
    let late : late_time < reported_at t.tree.items 1 = omega (arith, reported, ltb-true late_time c.reported-time.result.0 after) in
    ap (λ times. time_at times place) (sym c.self.view_is) ∙ none_reported t.late.items t.tree.items c.self.invariant late place
