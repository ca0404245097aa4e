use Rattle.std.proofs.Common.{◌≡◌, ◌<◌, ◌≤◌, ◌/◌, Bool, true, false, refl, sym, ap, subst, ◌∙◌, length, ⊎_elim, arith}
use Rattle.std.proofs.lemmas.Bool.{cases_lt, ltb-true}
use Rattle.std.proofs.lemmas.List.{get_or_read}
use Rattle.std.specs.Prelude.{slice_index, nat_lt, IfSome}
use Rattle.std.specs.Bool.{then_some}
use Rattle.tournament.specs.Timed.{IsSoonest}
use Rattle.tournament.specs.Words.{late_time, reported_at}
use Rattle.tournament.proofs.Soonest.{soonest}
use Rattle.tournament.proofs.timetable.Timetable.at_root.Goals as goal

where_true : {A : Type 0} (b : Bool) (entry : A) (P : A → Type 0) → (b ≡ true → P entry) → IfSome (then_some b entry) P
where_true true entry P reported = reported refl
where_true false entry P reported = tt

pub returns : goal.returns
returns c =
    let t = c.self.inside in
    let time = c.reported-time.result.0 in
    let place = c.reported-time.result.1 in
    let root : c.index.result.now ≡ slice_index t.tree.items 1 = get_or_read t.tree.items 1 c.index.result.now c.self.invariant.rooted c.index.ensures 0 in
    let reported : reported_at t.tree.items 1 ≡ time = ap (λ w. w / 4096) (sym root) ∙ sym c.reported-time.ensures.time in
    subst (λ found. IfSome found (λ entry. IsSoonest c.args.self.now entry.0 entry.1)) (sym c.then_some.ensures)
    (where_true (nat_lt time late_time) (place, time) (λ entry. IsSoonest c.args.self.now entry.0 entry.1) (λ early.
    let before : time < late_time = ltb-true time late_time early in
    let some : 0 < length t.late.items = ⊎_elim
    (λ (some : 0 < length t.late.items). some)
    (λ (empty : length t.late.items ≤ 0). absurd (let no : ⊥ = omega (arith, c.self.invariant.none (omega (arith, empty)), reported, before) in no))
    (cases_lt 0 (length t.late.items)) in
    subst (λ times. IsSoonest times place time) c.self.view_is (soonest t.late.items t.tree.items c.self.invariant some time place reported (c.reported-time.ensures.place ∙ root) before)))
