-- Firings after firings are firings.
use Rattle.std.proofs.Common.{◌≡◌, ◌≢◌, ℕ, zero, suc, ◌+◌, ◌<◌, length, sym, ap, subst, ◌∙◌, arith}
use Rattle.net_partition.specs.Partition.{group_in}
use Rattle.window_law.specs.Groups.{GroupState, fire_or_stay, fire_times}
use Rattle.node_group.specs.Group.{GroupValue, state_of, group_from, AfterFirings}

times_both : (group : ℕ → ℕ) (number until m n : ℕ) (s : GroupState) → fire_times group number until n (fire_times group number until m s) ≡ fire_times group number until (m + n) s
times_both group number until zero n s = ap (λ k. fire_times group number until k s) {x = n} {y = zero + n} (omega arith)
times_both group number until (suc m) n s = times_both group number until m n (fire_or_stay group number until s) ∙ ap (λ k. fire_times group number until k s) {x = suc (m + n)} {y = suc m + n} (omega arith)

pub after_both : (end : ℕ) (a b c : GroupValue) → AfterFirings end a b → AfterFirings end b c → AfterFirings end a c
after_both end a b c ab bc = record {
  times = ab.times + bc.times;
  state =
      bc.state
      ∙ (λ i. fire_times (group_in (ab.rest i).entries) (ab.rest i).number end bc.times (ab.state i))
      ∙ times_both (group_in a.entries) a.number end ab.times bc.times (state_of a);
  rest = bc.rest ∙ ap (λ (v : GroupValue). record v { seats = c.seats; held = c.held; lines = c.lines }) ab.rest;
  seats_stay = bc.seats_stay ∙ ab.seats_stay;
  from_others = λ link under apart.
      bc.from_others link (subst (λ (v : GroupValue). link < length v.links) (sym ab.rest) under) (subst (λ (v : GroupValue). group_from v link ≢ v.number) (sym ab.rest) apart)
      ∙ ab.from_others link under apart;
  wires_stay = bc.wires_stay ∙ ab.wires_stay;
}
