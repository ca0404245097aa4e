use Rattle.std.proofs.Common.{◌≡◌, ◌<◌, Some, length, set, refl, sym, ap, subst, ◌∙◌, arith}
use Rattle.std.proofs.lemmas.List.{with_items_is, length-set, get_or-set_same, get_or-set_other}
use Rattle.std.specs.Prelude.{slice_index}
use Rattle.tournament.specs.Words.{late_time, times_reported, IsTimetable}
use Rattle.tournament.proofs.Reported.{anew, late, places_of}
use Rattle.tournament.proofs.timetable.Timetable.hold_late.Goals as goal

pub index_mut-requires : goal.index_mut-requires
index_mut-requires c =
    let t = c.self.inside in
    omega (arith, c.requires.place, places_of t.late.items t.tree.items c.args.self.now c.self.view_is, t.late.ok.0)

pub change-requires-clause-place : goal.change-requires-clause-place
change-requires-clause-place c =
    let t = c.self.inside in
    omega (arith, c.requires.place, places_of t.late.items t.tree.items c.args.self.now c.self.view_is, c.len.ensures, t.late.ok.0)

pub invariant_of-self : goal.invariant_of-self
invariant_of-self c =
    let t = c.self.inside in
    let count : c.len.result ≡ length t.late.items = omega (arith, c.len.ensures, t.late.ok.0) in
    let within : c.args.place < length t.late.items = omega (arith, c.requires.place, places_of t.late.items t.tree.items c.args.self.now c.self.view_is) in
    let next = set t.late.items c.args.place c.args.time in
    let here : slice_index next c.args.place ≡ c.args.time = get_or-set_same t.late.items c.args.place c.args.time 0 within in
    let new = anew t.late.items next t.tree.items c.deref_mut.result.now c.change.new.tree c.args.self.now c.len.result c.args.place late_time c.self.invariant c.self.view_is c.requires.place (length-set t.late.items c.args.place c.args.time) (λ p other. get_or-set_other t.late.items c.args.place p c.args.time 0 other)
    (λ _. omega (arith, here, c.requires.late)) count c.deref_mut.ensures.value c.change.ensures.leaves c.change.ensures.lesser (Some c.args.time) (late late_time (slice_index next c.args.place) refl ∙ ap (λ n. Some n) here) in
    let words = with_items_is t.tree c.change.new.tree (omega (arith, new.long, t.tree.ok.0)) in
    subst (IsTimetable next) (sym words) new.kept

pub returns : goal.returns
returns c =
    let t = c.self.inside in
    let count : c.len.result ≡ length t.late.items = omega (arith, c.len.ensures, t.late.ok.0) in
    let within : c.args.place < length t.late.items = omega (arith, c.requires.place, places_of t.late.items t.tree.items c.args.self.now c.self.view_is) in
    let next = set t.late.items c.args.place c.args.time in
    let here : slice_index next c.args.place ≡ c.args.time = get_or-set_same t.late.items c.args.place c.args.time 0 within in
    let new = anew t.late.items next t.tree.items c.deref_mut.result.now c.change.new.tree c.args.self.now c.len.result c.args.place late_time c.self.invariant c.self.view_is c.requires.place (length-set t.late.items c.args.place c.args.time) (λ p other. get_or-set_other t.late.items c.args.place p c.args.time 0 other)
    (λ _. omega (arith, here, c.requires.late)) count c.deref_mut.ensures.value c.change.ensures.leaves c.change.ensures.lesser (Some c.args.time) (late late_time (slice_index next c.args.place) refl ∙ ap (λ n. Some n) here) in
    let words = with_items_is t.tree c.change.new.tree (omega (arith, new.long, t.tree.ok.0)) in
    ap (times_reported next) words ∙ new.all
