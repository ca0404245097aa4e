use Rattle.std.proofs.Common.{◌≡◌, ◌<◌, ◌≤◌, ℕ, List, [], ◌∷◌, length, map, take, ltb, true, false, rules, sym, ap, subst, ◌∙◌, arith}
use Rattle.std.proofs.lemmas.Bool.{ltb-true, ltb-false}
use Rattle.std.proofs.lemmas.List.{length-map}
use Rattle.std.proofs.lemmas.List.Sorted.{IsPartitionPoint-from_clause, IsPartitionedBy-ltb}
use Rattle.std.specs.List.Sorted.{IsPartitionedBy, IsPartitionPoint}
use Rattle.node_core.specs.declared.line.Line.{Line}
use Rattle.node_core.specs.TraceLine.{shown}
use Rattle.line_merge.specs.Sheaves.{IsCut, IsRising}
use Rattle.line_merge.proofs.Times.{time_at, times_of}
use Rattle.line_merge.proofs.sheaf.lines.Lines.before.Goals as goal

cut_of_point : (lines : List Line) (m n : ℕ) → n ≤ length lines → IsPartitionPoint (λ (l : Line). ltb l.key.time m ≡ true) (λ (l : Line). ltb l.key.time m ≡ false) lines n → IsCut m n (map shown lines)
cut_of_point [] m n within point = record { before = λ i under. absurd (omega (arith, within, under)); behind = λ i upto under. absurd (omega (arith, under)) }
cut_of_point (x ∷ lines) m n within point = record {
  before = λ i under. (let time = time_at (x ∷ lines) i x (omega (arith, within, under)) in let less = ltb-true _ m (point.0 i x (omega arith) under) in omega (arith, time, less));
  behind = λ i upto under.
      let all = length-map (x ∷ lines) shown in
      let here : i < length (x ∷ lines) = omega (arith, under, all) in
      let time = time_at (x ∷ lines) i x here in
      let more = ltb-false _ m (point.1 i x upto here) in
      omega (arith, time, more);
}

pub returns-clause-cut : goal.returns-clause-cut
returns-clause-cut c =
    let lines = take c.self.inside.count c.self.inside.items.items in
    let rising : IsRising (map shown lines) = subst IsRising (sym c.self.view_is) c.requires in
    let seen : take c.self.inside.count c.deref.result.now ≡ lines = ap (take c.self.inside.count) c.deref.ensures.value in
    let parted : IsPartitionedBy (λ (l : Line). ltb l.key.time c.args.moment) (take c.self.inside.count c.deref.result.now) = subst (IsPartitionedBy (λ (l : Line). ltb l.key.time c.args.moment)) (sym seen) (IsPartitionedBy-ltb (λ (l : Line). l.key.time) lines c.args.moment (times_of lines rising)) in
    let point = IsPartitionPoint-from_clause (λ (l : Line). ltb l.key.time c.args.moment) _ _ c.partition_point.ensures.partitioned parted (λ a r q k. search rules) in
    subst (IsCut c.args.moment c.partition_point.result) (ap (map shown) seen ∙ c.self.view_is) (cut_of_point (take c.self.inside.count c.deref.result.now) c.args.moment c.partition_point.result c.partition_point.ensures.bound point)
