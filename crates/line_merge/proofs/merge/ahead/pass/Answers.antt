use Rattle.std.proofs.Common.{◌≡◌, ◌<◌, ◌+◌, ◌∷◌, [], ℕ, List, length, map, get_or, set, sym, ap, subst, ◌∙◌, arith, rules, Option}
use Rattle.std.proofs.lemmas.List.{get_or_read, length-set}
use Rattle.std.specs.List.{slice_get}
use Rattle.std.specs.Option.{option_map}
use Rattle.sim_time.specs.declared.key.Key.{Key}
use Rattle.node_core.specs.TraceLine.{TraceLine}
use Rattle.window_law.specs.Windows.{in_order}
use Rattle.line_merge.specs.Ahead.{next_moment_in}
use Rattle.line_merge.specs.Merged.{all_of, first_key, line_in, lines_of, rests}
use Rattle.line_merge.proofs.Ahead.{dated_anew, taken_ahead}
use Rattle.line_merge.proofs.merge.ahead.pass.Goals as goal

pub offset_bounds-nexts-list : goal.offset_bounds-nexts-list
offset_bounds-nexts-list c =
    let taken = taken_ahead c.args.lists.now c.args.nexts.now c.args.list c.requires.ahead.size c.requires.apart c.requires.next in
    let within : c.args.list < length c.args.nexts.now = (let under = taken.within in let size = c.requires.ahead.size in omega (arith, under, size)) in
    search rules

pub bounds-nexts-list : goal.bounds-nexts-list
bounds-nexts-list c =
    let taken = taken_ahead c.args.lists.now c.args.nexts.now c.args.list c.requires.ahead.size c.requires.apart c.requires.next in
    let under = taken.within in
    let size = c.requires.ahead.size in
    omega (arith, under, size)

pub offset_bounds-lists-list : goal.offset_bounds-lists-list
offset_bounds-lists-list c =
    let taken = taken_ahead c.args.lists.now c.args.nexts.now c.args.list c.requires.ahead.size c.requires.apart c.requires.next in
    let within : c.args.list < length c.args.lists.now = taken.within in
    search rules

pub bounds-lists-list : goal.bounds-lists-list
bounds-lists-list c = (taken_ahead c.args.lists.now c.args.nexts.now c.args.list c.requires.ahead.size c.requires.apart c.requires.next).within

pub after-next-requires : goal.after-next-requires
after-next-requires c =
    let taken = taken_ahead c.args.lists.now c.args.nexts.now c.args.list c.requires.ahead.size c.requires.apart c.requires.next in
    subst (λ (lines : List TraceLine). get_or c.args.nexts.now c.args.list 0 < length lines) (sym (get_or_read c.args.lists.now c.args.list c.index-lists-list.result taken.within c.index-lists-list.is [])) taken.inside

pub offset_bounds-nexts-list-2 : goal.offset_bounds-nexts-list-2
offset_bounds-nexts-list-2 c =
    let taken = taken_ahead c.args.lists.now c.args.nexts.now c.args.list c.requires.ahead.size c.requires.apart c.requires.next in
    let within : c.args.list < length c.args.nexts.now = (let under = taken.within in let size = c.requires.ahead.size in omega (arith, under, size)) in
    search rules

pub bounds-nexts-list-2 : goal.bounds-nexts-list-2
bounds-nexts-list-2 c =
    let taken = taken_ahead c.args.lists.now c.args.nexts.now c.args.list c.requires.ahead.size c.requires.apart c.requires.next in
    let under = taken.within in
    let size = c.requires.ahead.size in
    omega (arith, under, size)

pub moment_at-requires : goal.moment_at-requires
moment_at-requires c =
    let taken = taken_ahead c.args.lists.now c.args.nexts.now c.args.list c.requires.ahead.size c.requires.apart c.requires.next in
    let under = taken.within in
    let few = c.requires.few in
    omega (arith, under, few)

pub offset_bounds-moments-list : goal.offset_bounds-moments-list
offset_bounds-moments-list c =
    let taken = taken_ahead c.args.lists.now c.args.nexts.now c.args.list c.requires.ahead.size c.requires.apart c.requires.next in
    let within : c.args.list < length c.args.moments.now = (let under = taken.within in let size = c.requires.ahead.dates in omega (arith, under, size)) in
    search rules

pub bounds-moments-list : goal.bounds-moments-list
bounds-moments-list c =
    let taken = taken_ahead c.args.lists.now c.args.nexts.now c.args.list c.requires.ahead.size c.requires.apart c.requires.next in
    let under = taken.within in
    let size = c.requires.ahead.dates in
    omega (arith, under, size)

pub returns-then-lists-gt-FEW-clause-order : goal.returns-then-lists-gt-FEW-clause-order
returns-then-lists-gt-FEW-clause-order c =
    let taken = taken_ahead c.args.lists.now c.args.nexts.now c.args.list c.requires.ahead.size c.requires.apart c.requires.next in
    taken.order ∙ ap (λ (n : ℕ). line_in (lines_of c.args.lists.now c.args.list) (get_or c.args.nexts.now c.args.list 0) ∷ in_order (all_of (rests c.args.lists.now (set c.args.nexts.now c.args.list n)))) (sym c.after-next.ensures)

pub returns-then-lists-gt-FEW-clause-fewer : goal.returns-then-lists-gt-FEW-clause-fewer
returns-then-lists-gt-FEW-clause-fewer c =
    let taken = taken_ahead c.args.lists.now c.args.nexts.now c.args.list c.requires.ahead.size c.requires.apart c.requires.next in
    taken.fewer ∙ ap (λ (n : ℕ). length (all_of (rests c.args.lists.now (set c.args.nexts.now c.args.list n))) + 1) (sym c.after-next.ensures)

pub returns-then-lists-gt-FEW-clause-ahead : goal.returns-then-lists-gt-FEW-clause-ahead
returns-then-lists-gt-FEW-clause-ahead c =
    let lists = c.args.lists.now in
    let nexts = c.args.nexts.now in
    let list = c.args.list in
    let next = c.after-next.result in
    let taken = taken_ahead c.args.lists.now c.args.nexts.now c.args.list c.requires.ahead.size c.requires.apart c.requires.next in
    let read : c.index-lists-list.result ≡ lines_of lists list = get_or_read lists list c.index-lists-list.result taken.within c.index-lists-list.is [] in
    record {
      size = length-set nexts list next ∙ c.requires.ahead.size;
      dates = c.requires.ahead.dates;
      places = ap length c.set.ensures ∙ length-set c.args.tournament.now list c.key.result ∙ c.requires.ahead.places;
      few = λ few i under. absurd (let many = c.if-lists-gt-FEW.true in omega (arith, few, many));
      many = λ many.
          c.set.ensures
          ∙ ap (set c.args.tournament.now list) (c.key.ensures ∙ ap (λ (lines : List TraceLine). option_map (λ (line : TraceLine). line.key) (slice_get lines next)) read)
          ∙ ap (λ (ranks : List (Option Key)). set ranks list (option_map (λ (line : TraceLine). line.key) (slice_get (lines_of lists list) next))) (c.requires.ahead.many many)
          ∙ ap (λ (n : ℕ). set (map first_key (rests lists nexts)) list (option_map (λ (line : TraceLine). line.key) (slice_get (lines_of lists list) n))) c.after-next.ensures
          ∙ taken.ranked
          ∙ ap (λ (n : ℕ). map first_key (rests lists (set nexts list n))) (sym c.after-next.ensures);
    }

pub returns-else-lists-gt-FEW-clause-order : goal.returns-else-lists-gt-FEW-clause-order
returns-else-lists-gt-FEW-clause-order c =
    let taken = taken_ahead c.args.lists.now c.args.nexts.now c.args.list c.requires.ahead.size c.requires.apart c.requires.next in
    taken.order ∙ ap (λ (n : ℕ). line_in (lines_of c.args.lists.now c.args.list) (get_or c.args.nexts.now c.args.list 0) ∷ in_order (all_of (rests c.args.lists.now (set c.args.nexts.now c.args.list n)))) (sym c.after-next.ensures)

pub returns-else-lists-gt-FEW-clause-fewer : goal.returns-else-lists-gt-FEW-clause-fewer
returns-else-lists-gt-FEW-clause-fewer c =
    let taken = taken_ahead c.args.lists.now c.args.nexts.now c.args.list c.requires.ahead.size c.requires.apart c.requires.next in
    taken.fewer ∙ ap (λ (n : ℕ). length (all_of (rests c.args.lists.now (set c.args.nexts.now c.args.list n))) + 1) (sym c.after-next.ensures)

pub returns-else-lists-gt-FEW-clause-ahead : goal.returns-else-lists-gt-FEW-clause-ahead
returns-else-lists-gt-FEW-clause-ahead c =
    let lists = c.args.lists.now in
    let nexts = c.args.nexts.now in
    let list = c.args.list in
    let next = c.after-next.result in
    let taken = taken_ahead c.args.lists.now c.args.nexts.now c.args.list c.requires.ahead.size c.requires.apart c.requires.next in
    let read : c.index-lists-list.result ≡ lines_of lists list = get_or_read lists list c.index-lists-list.result taken.within c.index-lists-list.is [] in
    record {
      size = length-set nexts list next ∙ c.requires.ahead.size;
      dates = length-set c.args.moments.now list c.moment_at.result ∙ c.requires.ahead.dates;
      places = c.requires.ahead.places;
      few = λ few. dated_anew lists nexts c.args.moments.now list next c.moment_at.result c.requires.ahead.dates taken (c.requires.ahead.few few) c.after-next.ensures
          (c.moment_at.ensures ∙ ap (λ (lines : List TraceLine). next_moment_in list (option_map (λ (line : TraceLine). line.key) (slice_get lines next))) read);
      many = λ many. absurd (let few = c.if-lists-gt-FEW.false in omega (arith, few, many));
    }
