use Rattle.std.proofs.Common.{◌≡◌, ◌≤◌, ◌<◌, [], ℕ, zero, suc, List, length, set, get_or, replicate, refl, sym, ap, subst, ◌∙◌, ⊎_elim, arith}
use Rattle.std.proofs.lemmas.Bool.{cases_lt}
use Rattle.std.proofs.lemmas.List.{get_or_read, get_or-set_same, get_or-set_other, length-replicate, length-set}
use Rattle.node_core.specs.TraceLine.{TraceLine}
use Rattle.line_merge.specs.Merged.{all_of, lines_of, rests}
use Rattle.line_merge.specs.Sheaves.{IsCut}
use Rattle.line_merge.proofs.Cuts.{one_cut}
use Rattle.line_merge.proofs.Rests.{rests_none}
use Rattle.line_merge.proofs.sheaf.beginning.cut.Goals as goal

zeros : (n i : ℕ) → ◌≡◌ {A = ℕ} (get_or (replicate n 0) i 0) 0
zeros zero i = refl
zeros (suc n) zero = refl
zeros (suc n) (suc i) = zeros n i

-- where no line is gone, all are left
all_left : (lists : List (List TraceLine)) (nexts : List ℕ) → nexts ≡ replicate (length lists) 0 → length (all_of (rests lists nexts)) ≡ length (all_of lists)
all_left lists nexts none_gone = ap (λ ns. length (all_of (rests lists ns))) none_gone ∙ ap (λ ls. length (all_of ls)) (rests_none lists)

pub returns-then-moment-eq0-clause-count : goal.returns-then-moment-eq0-clause-count
returns-then-moment-eq0-clause-count c = let same = all_left c.args.lists.now c.args.nexts.now c.requires.zeros in omega (arith, same)

pub loop-number-init : goal.loop-number-init
loop-number-init c =
    let lists = c.args.lists.now in
    record {
      size = ap length c.requires.zeros ∙ length-replicate (length lists) 0;
      cuts = λ i under. absurd (omega (arith, under));
      whole = λ i upto. ap (λ ns. get_or ns i 0) c.requires.zeros ∙ zeros (length lists) i;
      count = (let same = all_left lists c.args.nexts.now c.requires.zeros in omega (arith, same));
    }

pub overflow_add-at : goal.overflow_add-at
overflow_add-at c =
    let lists = c.args.lists.now in
    let i = c.loop-number.number in
    let nexts = c.loop-number.nexts in
    let next = c.before-next.result in
    let under : i < length lists = c.loop-number-test.true in
    let read : c.index-lists-number.result ≡ lines_of lists i = get_or_read lists i c.index-lists-number.result under c.index-lists-number.is [] in
    let within : next ≤ length (lines_of lists i) = subst (λ (ls : List TraceLine). next ≤ length ls) read c.before-next.ensures.within in
    let less = one_cut lists nexts i next c.loop-number.invariant.size under (c.loop-number.invariant.whole i (omega arith)) within in
    let count = c.loop-number.invariant.count in
    let few = c.requires.few in
    omega (arith, less, count, few)

pub loop-number-preserved : goal.loop-number-preserved
loop-number-preserved c =
    let lists = c.args.lists.now in
    let i = c.loop-number.number in
    let nexts = c.loop-number.nexts in
    let next = c.before-next.result in
    let m = c.args.moment in
    let under : i < length lists = c.loop-number-test.true in
    let size = c.loop-number.invariant.size in
    let read : c.index-lists-number.result ≡ lines_of lists i = get_or_read lists i c.index-lists-number.result under c.index-lists-number.is [] in
    let within : next ≤ length (lines_of lists i) = subst (λ (ls : List TraceLine). next ≤ length ls) read c.before-next.ensures.within in
    let less = one_cut lists nexts i next size under (c.loop-number.invariant.whole i (omega arith)) within in
    let count = c.loop-number.invariant.count in
    let here : get_or (set nexts i next) i 0 ≡ next = get_or-set_same nexts i next 0 (omega (arith, under, size)) in
    record {
      size = length-set nexts i next ∙ size;
      cuts = λ j below. ⊎_elim
          (λ (l : j < i). subst (λ n. IsCut m n (lines_of lists j)) (sym (get_or-set_other nexts i j next 0 (λ same. absurd (omega (arith, l, same))))) (c.loop-number.invariant.cuts j l))
          (λ (past : i ≤ j).
          let is : i ≡ j = omega (arith, past, below) in
          subst (λ k. IsCut m (get_or (set nexts i next) k 0) (lines_of lists k)) is (subst (λ n. IsCut m n (lines_of lists i)) (sym here) (subst (IsCut m next) read c.before-next.ensures.cut)))
          (cases_lt j i);
      whole = λ j upto. get_or-set_other nexts i j next 0 (λ same. absurd (omega (arith, upto, same))) ∙ c.loop-number.invariant.whole j (omega (arith, upto));
      count = omega (arith, less, count);
    }
