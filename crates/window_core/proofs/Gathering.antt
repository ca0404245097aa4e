-- One more node is put together with others.
use Rattle.std.proofs.Common.{◌≡◌, ◌<◌, ◌≤◌, ◌+◌, ℕ, zero, suc, List, [], ◌∷◌, ◌++◌, length, refl, sym, ap, ◌∙◌, ⊎_elim, arith, length-append}
use Rattle.std.proofs.lemmas.Bool.{cases_lt}
use Rattle.node_core.specs.Node.{NodeState}
use Rattle.net_machine.specs.Nodes.{node_at}
use Rattle.node_group.specs.Group.{GroupValue, member}
use Rattle.window_core.specs.Together.{group_with, AreTogether}

before_last : (nodes : List NodeState) (x : NodeState) (i : ℕ) → i < length nodes → node_at (nodes ++ x ∷ []) i ≡ node_at nodes i
before_last [] x i under = absurd (omega (arith, under))
before_last (n ∷ nodes) x zero under = refl
before_last (n ∷ nodes) x (suc i) under = before_last nodes x i (omega (arith, under))

at_last : (nodes : List NodeState) (x : NodeState) → node_at (nodes ++ x ∷ []) (length nodes) ≡ x
at_last [] x = refl
at_last (n ∷ nodes) x = at_last nodes x

pub one_more : (entries : List ℕ) (groups : List GroupValue) (count : ℕ) (nodes : List NodeState) (x : NodeState) → AreTogether entries groups count nodes → x ≡ member (group_with entries groups count) count → AreTogether entries groups (count + 1) (nodes ++ x ∷ [])
one_more entries groups count nodes x are is = record {
  size = (let all = length-append nodes (x ∷ []) in let size = are.size in omega (arith, all, size));
  each_node = λ node under.
      let size = are.size in
      ⊎_elim
      (λ (below : node < count). before_last nodes x node (omega (arith, below, size)) ∙ are.each_node node below)
      (λ (last : count ≤ node).
      let at : node ≡ count = omega (arith, last, under) in
      let end : node ≡ length nodes = omega (arith, at, size) in
      ap (node_at (nodes ++ x ∷ [])) end ∙ at_last nodes x ∙ is ∙ ap (λ n. member (group_with entries groups n) n) (sym at))
      (cases_lt node count);
}
