use Rattle.std.proofs.Common.{◌≡◌, ◌≤◌, ◌<◌, ◌+◌, ◌++◌, ◌∷◌, [], ℕ, List, length, map, take, get_or, false, Option, Some, None, is_some, refl, sym, ap, ◌∙◌, arith}
use Rattle.std.proofs.lemmas.List.{get_or_read, get_or-set_other, length-set, take_all, take_more, take_more_set}
use Rattle.std.specs.List.{slice_get}
use Rattle.std.specs.Option.{option_map}
use Rattle.node_core.specs.TraceLine.{TraceLine}
use Rattle.tournament.specs.Leading.{rank_at}
use Rattle.line_merge.specs.Merged.{first_key, lines_of, rests}
use Rattle.line_merge.proofs.Rests.{length_rests, ranked_more}
use Rattle.line_merge.proofs.merge.rank_nexts.Goals as goal
use Rattle.line_merge.proofs.merge.rank_nexts.Goals.{then-not-vacant, else-not-vacant+else-is_some}

none_is : {A : Type 0} (o : Option A) → is_some o ≡ false → o ≡ None
none_is None e = refl
none_is (Some x) e = absurd (cc)

pub loop-number-preserved : goal.loop-number-preserved
loop-number-preserved c =
    let lists = c.args.lists.now in
    let nexts = c.args.nexts.now in
    let i = c.loop-number.number in
    let old = c.loop-number.tournament in
    let now = c.if-not-vacant.tournament in
    let rank = c.key-key.result in
    let under : i < length lists = c.loop-number-test.true in
    let here : i < length old = (let size = c.loop-number.invariant.size in omega (arith, under, size)) in
    let read : c.index-lists-number.result ≡ lines_of lists i = get_or_read lists i c.index-lists-number.result under c.index-lists-number.is [] in
    let is : rank ≡ option_map (λ (line : TraceLine). line.key) (slice_get (lines_of lists i) (get_or nexts i 0)) = c.key-key.ensures ∙ ap (λ (lines : List TraceLine). option_map (λ (line : TraceLine). line.key) (slice_get lines (get_or nexts i 0))) read in
    let more : take (i + 1) now ≡ take i old ++ rank ∷ [] = elim c.if-not-vacant.branch [
      | then-not-vacant w ↦ ap (take (i + 1)) (w.tournament-is ∙ w.set.ensures) ∙ take_more_set old i rank here
      | else-not-vacant+else-is_some w ↦
          let none : rank ≡ None = none_is rank (sym w.is_some.ensures ∙ w.if-is_some.false) in
          let kept : rank_at old i ≡ None = c.loop-number.invariant.vacant w.if-not-vacant.false i (omega arith) in
          ap (take (i + 1)) w.tournament-is ∙ take_more old i None here ∙ ap (λ r. take i old ++ r ∷ []) (kept ∙ sym none)
    ] in
    let size : length now ≡ length old = elim c.if-not-vacant.branch [
      | then-not-vacant w ↦ ap length (w.tournament-is ∙ w.set.ensures) ∙ length-set old i rank
      | else-not-vacant+else-is_some w ↦ ap length w.tournament-is
    ] in
    let others : (place : ℕ) → i + 1 ≤ place → rank_at now place ≡ rank_at old place = λ place upto. elim c.if-not-vacant.branch [
      | then-not-vacant w ↦ ap (λ ranks. rank_at ranks place) (w.tournament-is ∙ w.set.ensures) ∙ get_or-set_other old i place rank None (λ same. absurd (omega (arith, upto, same)))
      | else-not-vacant+else-is_some w ↦ ap (λ ranks. rank_at ranks place) w.tournament-is
    ] in
    record {
      ranked = ranked_more lists nexts old now i rank c.requires.nexts under c.loop-number.invariant.ranked more is;
      size = size ∙ c.loop-number.invariant.size;
      vacant = λ none place upto. others place upto ∙ c.loop-number.invariant.vacant none place (omega (arith, upto));
    }

pub returns : goal.returns
returns c =
    let lists = c.args.lists.now in
    let left = rests lists c.args.nexts.now in
    let i = c.loop-number.number in
    let tournament = c.loop-number.tournament in
    let past : length lists ≤ i = (let beyond = c.loop-number-test.false in omega (arith, beyond)) in
    let size = c.loop-number.invariant.size in
    let all = length_rests lists c.args.nexts.now in
    record {
      size = c.requires.nexts;
      ranked = sym (take_all i tournament (omega (arith, past, size))) ∙ c.loop-number.invariant.ranked ∙ ap (map first_key) (take_all i left (omega (arith, past, all)));
    }
