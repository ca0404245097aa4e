use Rattle.std.proofs.Common.{◌≡◌, Some, length, refl, sym, ap, subst, ◌∙◌, arith}
use Rattle.std.proofs.lemmas.List.{with_items_is}
use Rattle.std.specs.Prelude.{slice_index}
use Rattle.tournament.specs.Words.{times_reported, IsTimetable}
use Rattle.tournament.proofs.Reported.{anew, early, places_of}
use Rattle.tournament.proofs.timetable.Timetable.hold.Goals as goal

pub change-requires-clause-place : goal.change-requires-clause-place
change-requires-clause-place c =
    let t = c.self.inside in
    omega (arith, c.requires, places_of t.late.items t.tree.items c.args.self.now c.self.view_is, c.len.ensures, t.late.ok.0)

pub invariant_of-self : goal.invariant_of-self
invariant_of-self c =
    let t = c.self.inside in
    let count : c.len.result ≡ length t.late.items = omega (arith, c.len.ensures, t.late.ok.0) in
    let new = anew t.late.items t.late.items t.tree.items c.deref_mut.result.now c.change.new.tree c.args.self.now c.len.result c.args.place c.args.time c.self.invariant c.self.view_is c.requires refl (λ p other. refl)
    (λ is. absurd (omega (arith, is, c.if-time-ge-LATE_TIME.false))) count c.deref_mut.ensures.value c.change.ensures.leaves c.change.ensures.lesser (Some c.args.time) (early c.args.time (slice_index t.late.items c.args.place) c.if-time-ge-LATE_TIME.false) in
    let words = with_items_is t.tree c.change.new.tree (omega (arith, new.long, t.tree.ok.0)) in
    subst (IsTimetable t.late.items) (sym words) new.kept

pub returns : goal.returns
returns c =
    let t = c.self.inside in
    let count : c.len.result ≡ length t.late.items = omega (arith, c.len.ensures, t.late.ok.0) in
    let new = anew t.late.items t.late.items t.tree.items c.deref_mut.result.now c.change.new.tree c.args.self.now c.len.result c.args.place c.args.time c.self.invariant c.self.view_is c.requires refl (λ p other. refl)
    (λ is. absurd (omega (arith, is, c.if-time-ge-LATE_TIME.false))) count c.deref_mut.ensures.value c.change.ensures.leaves c.change.ensures.lesser (Some c.args.time) (early c.args.time (slice_index t.late.items c.args.place) c.if-time-ge-LATE_TIME.false) in
    let words = with_items_is t.tree c.change.new.tree (omega (arith, new.long, t.tree.ok.0)) in
    ap (times_reported t.late.items) words ∙ new.all
