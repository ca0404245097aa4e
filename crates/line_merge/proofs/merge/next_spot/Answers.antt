use Rattle.std.proofs.Common.{rules, ◌≡◌, ◌∷◌, [], ◌<◌, ◌+◌, ℕ, List, length, map, get_or, set, sym, ap, subst, ◌∙◌, arith, Option, None}
use Rattle.std.proofs.lemmas.List.{get_or_read, length-set}
use Rattle.std.specs.List.{slice_get}
use Rattle.std.specs.Option.{option_map}
use Rattle.node_core.specs.TraceLine.{TraceLine}
use Rattle.sim_time.specs.declared.key.Key.{Key}
use Rattle.window_law.specs.Windows.{in_order}
use Rattle.line_merge.specs.Merged.{all_of, lines_of, line_at, first_key, rests}
use Rattle.line_merge.proofs.Rests.{IsTaken, taken_by, next_within, none_left}
use Rattle.line_merge.proofs.merge.next_spot.Goals as goal

pub unreachable-requires : goal.unreachable-requires
unreachable-requires c =
    let none : all_of (rests c.args.lists.now c.args.nexts.now) ≡ [] = none_left (rests c.args.lists.now c.args.nexts.now) (λ i. ap (λ (ranks : List (Option Key)). get_or ranks i None) (sym c.requires.next.ranked) ∙ c.in_default.ensures i) in
    let size : length (all_of (rests c.args.lists.now c.args.nexts.now)) ≡ 0 = ap length none in
    let some = c.requires.some in
    omega (arith, some, size)

pub bounds-nexts-list : goal.bounds-nexts-list
bounds-nexts-list c =
    let within : c.in-Some.list < length c.args.nexts.now = next_within c.args.lists.now c.args.nexts.now c.args.tournament.now c.in-Some.list c.in-Some.field-0-1 c.requires.next.ranked c.requires.next.size c.requires.apart c.in-Some.ensures in
    within

pub offset_bounds-nexts-list : goal.offset_bounds-nexts-list
offset_bounds-nexts-list c =
    let within : c.in-Some.list < length c.args.nexts.now = next_within c.args.lists.now c.args.nexts.now c.args.tournament.now c.in-Some.list c.in-Some.field-0-1 c.requires.next.ranked c.requires.next.size c.requires.apart c.in-Some.ensures in
    search rules

pub offset_bounds-lists-list : goal.offset_bounds-lists-list
offset_bounds-lists-list c =
    let within : c.in-Some.list < length c.args.nexts.now = next_within c.args.lists.now c.args.nexts.now c.args.tournament.now c.in-Some.list c.in-Some.field-0-1 c.requires.next.ranked c.requires.next.size c.requires.apart c.in-Some.ensures in
    let size : length c.args.nexts.now ≡ length c.args.lists.now = c.requires.next.size in
    search rules

pub bounds-lists-list : goal.bounds-lists-list
bounds-lists-list c =
    let within : c.in-Some.list < length c.args.nexts.now = next_within c.args.lists.now c.args.nexts.now c.args.tournament.now c.in-Some.list c.in-Some.field-0-1 c.requires.next.ranked c.requires.next.size c.requires.apart c.in-Some.ensures in
    let size : length c.args.nexts.now ≡ length c.args.lists.now = c.requires.next.size in
    omega (arith, within, size)

pub offset_bounds-nexts-list-2 : goal.offset_bounds-nexts-list-2
offset_bounds-nexts-list-2 c =
    let within : c.in-Some.list < length c.args.nexts.now = next_within c.args.lists.now c.args.nexts.now c.args.tournament.now c.in-Some.list c.in-Some.field-0-1 c.requires.next.ranked c.requires.next.size c.requires.apart c.in-Some.ensures in
    search rules

pub bounds-nexts-list-2 : goal.bounds-nexts-list-2
bounds-nexts-list-2 c =
    let within : c.in-Some.list < length c.args.nexts.now = next_within c.args.lists.now c.args.nexts.now c.args.tournament.now c.in-Some.list c.in-Some.field-0-1 c.requires.next.ranked c.requires.next.size c.requires.apart c.in-Some.ensures in
    within

pub after-next-requires : goal.after-next-requires
after-next-requires c =
    let taken : IsTaken c.args.lists.now c.args.nexts.now c.in-Some.list = taken_by c.args.lists.now c.args.nexts.now c.args.tournament.now c.in-Some.list c.in-Some.field-0-1 c.requires.next.ranked c.requires.next.size c.requires.apart c.in-Some.ensures in
    subst (λ (lines : List TraceLine). get_or c.args.nexts.now c.in-Some.list 0 < length lines) (sym (get_or_read c.args.lists.now c.in-Some.list c.index-lists-list.result taken.within c.index-lists-list.is [])) taken.inside

pub returns-clause-spot : goal.returns-clause-spot
returns-clause-spot c =
    let taken : IsTaken c.args.lists.now c.args.nexts.now c.in-Some.list = taken_by c.args.lists.now c.args.nexts.now c.args.tournament.now c.in-Some.list c.in-Some.field-0-1 c.requires.next.ranked c.requires.next.size c.requires.apart c.in-Some.ensures in
    (taken.within, taken.inside)

pub returns-clause-order : goal.returns-clause-order
returns-clause-order c =
    let taken : IsTaken c.args.lists.now c.args.nexts.now c.in-Some.list = taken_by c.args.lists.now c.args.nexts.now c.args.tournament.now c.in-Some.list c.in-Some.field-0-1 c.requires.next.ranked c.requires.next.size c.requires.apart c.in-Some.ensures in
    taken.order ∙ ap (λ (n : ℕ). line_at c.args.lists.now (record { list = c.in-Some.list; index = get_or c.args.nexts.now c.in-Some.list 0 }) ∷ in_order (all_of (rests c.args.lists.now (set c.args.nexts.now c.in-Some.list n)))) (sym c.after-next.ensures)

pub returns-clause-fewer : goal.returns-clause-fewer
returns-clause-fewer c =
    let taken : IsTaken c.args.lists.now c.args.nexts.now c.in-Some.list = taken_by c.args.lists.now c.args.nexts.now c.args.tournament.now c.in-Some.list c.in-Some.field-0-1 c.requires.next.ranked c.requires.next.size c.requires.apart c.in-Some.ensures in
    taken.fewer ∙ ap (λ (n : ℕ). length (all_of (rests c.args.lists.now (set c.args.nexts.now c.in-Some.list n))) + 1) (sym c.after-next.ensures)

pub returns-clause-next : goal.returns-clause-next
returns-clause-next c =
    let lists = c.args.lists.now in
    let nexts = c.args.nexts.now in
    let at = c.in-Some.list in
    let taken : IsTaken c.args.lists.now c.args.nexts.now c.in-Some.list = taken_by c.args.lists.now c.args.nexts.now c.args.tournament.now c.in-Some.list c.in-Some.field-0-1 c.requires.next.ranked c.requires.next.size c.requires.apart c.in-Some.ensures in
    let after : c.after-next.result ≡ get_or nexts at 0 + 1 = c.after-next.ensures in
    let read : c.index-lists-list.result ≡ lines_of lists at = get_or_read lists at c.index-lists-list.result taken.within c.index-lists-list.is [] in
    record {
      size = length-set nexts at c.after-next.result ∙ c.requires.next.size;
      ranked =
          c.set.ensures
          ∙ ap (set c.args.tournament.now at) (c.key.ensures ∙ ap (λ (lines : List TraceLine). option_map (λ (line : TraceLine). line.key) (slice_get lines c.after-next.result)) read)
          ∙ ap (λ (ranks : List (Option Key)). set ranks at (option_map (λ (line : TraceLine). line.key) (slice_get (lines_of lists at) c.after-next.result))) c.requires.next.ranked
          ∙ ap (λ (n : ℕ). set (map first_key (rests lists nexts)) at (option_map (λ (line : TraceLine). line.key) (slice_get (lines_of lists at) n))) after
          ∙ taken.ranked
          ∙ ap (λ (n : ℕ). map first_key (rests lists (set nexts at n))) (sym after);
    }
