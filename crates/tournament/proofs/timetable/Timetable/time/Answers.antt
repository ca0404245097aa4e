use Rattle.std.proofs.Common.{◌≡◌, ◌+◌, ◌/◌, ◌<◌, length, sym, ap, ◌∙◌, arith}
use Rattle.std.proofs.lemmas.List.{get_or_read}
use Rattle.std.specs.Prelude.{slice_index}
use Rattle.tournament.specs.Timed.{time_at}
use Rattle.tournament.specs.Words.{time_by, reported_at}
use Rattle.tournament.proofs.Reported.{places_of, time-at}
use Rattle.tournament.proofs.timetable.Timetable.time.Goals as goal

pub overflow_add-len : goal.overflow_add-len
overflow_add-len c =
    let t = c.self.inside in
    let within : c.args.place < length t.late.items = omega (arith, c.requires, places_of t.late.items t.tree.items c.args.self.now c.self.view_is) in
    omega (arith, c.len.ensures, within, t.late.ok.0, c.self.invariant.few)

pub index-requires : goal.index-requires
index-requires c =
    let t = c.self.inside in
    let within : c.args.place < length t.late.items = omega (arith, c.requires, places_of t.late.items t.tree.items c.args.self.now c.self.view_is) in
    omega (arith, c.len.ensures, within, t.late.ok.0, t.tree.ok.0, c.self.invariant.size (omega (arith, within)))

pub index-requires-2 : goal.index-requires-2
index-requires-2 c =
    let t = c.self.inside in
    omega (arith, c.requires, places_of t.late.items t.tree.items c.args.self.now c.self.view_is, t.late.ok.0)

pub returns : goal.returns
returns c =
    let t = c.self.inside in
    let place = c.args.place in
    let within : place < length t.late.items = omega (arith, c.requires, places_of t.late.items t.tree.items c.args.self.now c.self.view_is) in
    let leaf : c.len.result + place ≡ length t.late.items + place = omega (arith, c.len.ensures, t.late.ok.0) in
    let word : c.index.result.now ≡ slice_index t.tree.items (length t.late.items + place) =
    get_or_read t.tree.items (c.len.result + place) c.index.result.now (omega (arith, leaf, within, c.self.invariant.size (omega (arith, within)))) c.index.ensures 0 ∙ ap (slice_index t.tree.items) leaf in
    let reported : c.reported-time.result.0 ≡ reported_at t.tree.items (length t.late.items + place) = c.reported-time.ensures.time ∙ ap (λ w. w / 4096) word in
    let apart : c.index-2.result.now ≡ slice_index t.late.items place = get_or_read t.late.items place c.index-2.result.now within c.index-2.ensures 0 in
    c.time_by.ensures ∙ ap (λ n. time_by n c.index-2.result.now) reported ∙ ap (time_by (reported_at t.tree.items (length t.late.items + place))) apart
    ∙ sym (time-at t.late.items t.tree.items place within) ∙ ap (λ times. time_at times place) c.self.view_is
