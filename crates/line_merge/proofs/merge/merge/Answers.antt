use Rattle.std.proofs.Common.{◌≡◌, ◌∷◌, ◌++◌, [], ◌≤◌, ◌<◌, ◌+◌, List, length, set, take, sym, ap, subst, ◌∙◌, arith, append_assoc, append-nil}
use Rattle.std.proofs.lemmas.List.{length-map, length-set, map-append, take_more_set, take_all}
use Rattle.std.proofs.lemmas.List.Elements.{All-push}
use Rattle.std.specs.List.{All}
use Rattle.node_core.specs.TraceLine.{TraceLine}
use Rattle.line_merge.specs.declared.merge.spot.Spot.{Spot}
use Rattle.window_law.specs.Windows.{in_order}
use Rattle.line_merge.specs.Merged.{all_of, line_at, lines_at_spots, first_key, rests, IsSpot}
use Rattle.line_merge.proofs.Rests.{rests_none, length_rests, nothing_in_order}
use Rattle.line_merge.proofs.merge.merge.Goals as goal

pub loop-spot-init : goal.loop-spot-init
loop-spot-init c =
    let lists = c.args.lists.now in
    let whole : rests lists c.begin.new.nexts ≡ lists = ap (rests lists) c.begin.ensures.nexts ∙ rests_none lists in
    let count : length (all_of (rests lists c.begin.new.nexts)) ≡ length c.args.order.now = ap (λ (ls : List (List TraceLine)). length (all_of ls)) whole ∙ sym c.requires.order in
    record {
      merged = ap (λ (ls : List (List TraceLine)). in_order (all_of ls)) whole;
      spots = λ k d under. absurd (omega (arith, under));
      next = c.begin.ensures.next;
      count = omega (arith, count);
    }

pub next_spot-requires-clause-some : goal.next_spot-requires-clause-some
next_spot-requires-clause-some c =
    let under = c.loop-spot-test.true in
    let count = c.loop-spot.invariant.count in
    omega (arith, under, count)

pub loop-spot-preserved : goal.loop-spot-preserved
loop-spot-preserved c =
    let lists = c.args.lists.now in
    let i = c.loop-spot.spot-index in
    let order = c.loop-spot.order in
    let spot = c.next_spot.result in
    let under : i < length order = let same = c.loop-spot.auto.order in let below = c.loop-spot-test.true in omega (arith, same, below) in
    let more : take (i + 1) (set order i spot) ≡ take i order ++ spot ∷ [] = take_more_set order i spot under in
    let left = in_order (all_of (rests lists c.next_spot.new.nexts)) in
    let size = length-set order i spot in
    let count = c.loop-spot.invariant.count in
    let fewer = c.next_spot.ensures.fewer in
    record {
      merged =
          ap (λ (spots : List Spot). lines_at_spots lists spots ++ left) more
          ∙ ap (λ (ls : List TraceLine). ls ++ left) (map-append (line_at lists) (take i order) (spot ∷ []))
          ∙ append_assoc (lines_at_spots lists (take i order)) (line_at lists spot ∷ []) left
          ∙ ap (λ (ls : List TraceLine). lines_at_spots lists (take i order) ++ ls) (sym c.next_spot.ensures.order)
          ∙ c.loop-spot.invariant.merged;
      spots = subst (All (IsSpot lists)) (sym more) (All-push (IsSpot lists) (take i order) spot c.loop-spot.invariant.spots c.next_spot.ensures.spot);
      next = c.next_spot.ensures.next;
      count = omega (arith, size, count, fewer);
    }

nothing_behind : (ls : List TraceLine) → length ls ≡ 0 → in_order ls ≡ []
nothing_behind [] e = nothing_in_order
nothing_behind (l ∷ ls) e = absurd (omega (arith, e))

pub returns-clause-merged : goal.returns-clause-merged
returns-clause-merged c =
    let lists = c.args.lists.now in
    let order = c.loop-spot.order in
    let past : length order ≤ c.loop-spot.spot-index = let same = c.loop-spot.auto.order in let beyond = c.loop-spot-test.false in omega (arith, same, beyond) in
    let count = c.loop-spot.invariant.count in
    let whole : take c.loop-spot.spot-index order ≡ order = take_all c.loop-spot.spot-index order past in
    let left : length (all_of (rests lists c.loop-spot.nexts)) ≡ 0 = omega (arith, past, count) in
    sym (append-nil (lines_at_spots lists order))
    ∙ ap (λ (ls : List TraceLine). lines_at_spots lists order ++ ls) (sym (nothing_behind _ left))
    ∙ ap (λ (spots : List Spot). lines_at_spots lists spots ++ in_order (all_of (rests lists c.loop-spot.nexts))) (sym whole)
    ∙ c.loop-spot.invariant.merged

pub returns-clause-spots : goal.returns-clause-spots
returns-clause-spots c =
    let past : length c.loop-spot.order ≤ c.loop-spot.spot-index = let same = c.loop-spot.auto.order in let beyond = c.loop-spot-test.false in omega (arith, same, beyond) in
    subst (All (IsSpot c.args.lists.now)) (take_all c.loop-spot.spot-index c.loop-spot.order past) c.loop-spot.invariant.spots

pub returns-clause-sizes : goal.returns-clause-sizes
returns-clause-sizes c = ap length c.loop-spot.invariant.next.ranked ∙ length-map (rests c.args.lists.now c.loop-spot.nexts) first_key ∙ length_rests c.args.lists.now c.loop-spot.nexts

pub returns-clause-count : goal.returns-clause-count
returns-clause-count c =
    let lists = c.args.lists.now in
    let order = c.loop-spot.order in
    let past : length order ≤ c.loop-spot.spot-index = let same = c.loop-spot.auto.order in let beyond = c.loop-spot-test.false in omega (arith, same, beyond) in
    let count = c.loop-spot.invariant.count in
    let whole : take c.loop-spot.spot-index order ≡ order = take_all c.loop-spot.spot-index order past in
    let left : length (all_of (rests lists c.loop-spot.nexts)) ≡ 0 = omega (arith, past, count) in
    let merged : lines_at_spots lists order ≡ in_order (all_of lists) =
    sym (append-nil (lines_at_spots lists order))
    ∙ ap (λ (ls : List TraceLine). lines_at_spots lists order ++ ls) (sym (nothing_behind _ left))
    ∙ ap (λ (spots : List Spot). lines_at_spots lists spots ++ in_order (all_of (rests lists c.loop-spot.nexts))) (sym whole)
    ∙ c.loop-spot.invariant.merged in
    sym (ap length merged) ∙ length-map order (line_at lists) ∙ c.loop-spot.auto.order ∙ c.requires.order
