-- The lines of a dump in the parts in which they are appended.
use Rattle.std.proofs.Common.{◌≡◌, ◌<◌, ◌≤◌, ◌==◌, ◌-◌, ◌+◌, ℕ, suc, List, ◌∷◌, ◌++◌, length, get_or, drop, arith, append_assoc, append-nil, sym, ◌∙◌, ap}
use Rattle.std.proofs.lemmas.List.{drop_more}
use Rattle.std.proofs.lemmas.List.Concat.{flat_map-append}
use Rattle.std.specs.List.{flat_map, filter, range_with_len}
use Rattle.node_core.specs.Part.{LinkState, PartState}
use Rattle.node_core.specs.Node.{NodeState}
use Rattle.net_machine.specs.Nodes.{parts_of}
use Rattle.trace_text.specs.Dump.{links_numbered}

-- what is appended for the first part leaves the second to be appended
pub two_parts : {X : Type 0} (f : X → List ℕ) (first second : List X) (old out new : List ℕ) → out ++ flat_map f (first ++ second) ≡ old → new ≡ out ++ flat_map f first → new ++ flat_map f second ≡ old
two_parts f first second old out new all is =
    ap (λ l. l ++ flat_map f second) is ∙ append_assoc out (flat_map f first) (flat_map f second) ∙ ap (λ l. out ++ l) (sym (flat_map-append f first second)) ∙ all

-- from one node to the next
pub next_node : (text : LinkState → List ℕ) (nodes : List NodeState) (i number : ℕ) (node : NodeState) (old out new : List ℕ) → i < length nodes → node ≡ get_or nodes i node
    → out ++ flat_map text (links_numbered (parts_of (drop i nodes)) number) ≡ old
    → new ≡ out ++ flat_map text (filter (λ (link : LinkState). link.port.link == number) node.part.links)
    → new ++ flat_map text (links_numbered (parts_of (drop (i + 1) nodes)) number) ≡ old
next_node text nodes i number node old out new within is so_far appended =
    let first : drop i nodes ≡ node ∷ drop (i + 1) nodes = drop_more nodes i node within ∙ ap (λ n. n ∷ drop (i + 1) nodes) (sym is) in
    two_parts text (filter (λ (link : LinkState). link.port.link == number) node.part.links) (links_numbered (parts_of (drop (i + 1) nodes)) number) old out new
    (ap (λ ns. out ++ flat_map text (links_numbered (parts_of ns) number)) (sym first) ∙ so_far) appended

-- from one number to the next
pub next_number : (text : LinkState → List ℕ) (parts : List PartState) (k count : ℕ) (old out new : List ℕ) → k < count
    → out ++ flat_map text (flat_map (links_numbered parts) (range_with_len k (count - k))) ≡ old
    → new ≡ out ++ flat_map text (links_numbered parts k)
    → new ++ flat_map text (flat_map (links_numbered parts) (range_with_len (k + 1) (count - (k + 1)))) ≡ old
next_number text parts k count old out new within so_far appended =
    let one_less : suc (count - (k + 1)) ≡ count - k = omega (arith, within) in
    two_parts text (links_numbered parts k) (flat_map (links_numbered parts) (range_with_len (k + 1) (count - (k + 1)))) old out new
    (ap (λ n. out ++ flat_map text (flat_map (links_numbered parts) (range_with_len k n))) one_less ∙ so_far) appended

-- past the last number nothing is left
pub none_left : (text : LinkState → List ℕ) (parts : List PartState) (k count : ℕ) (old out : List ℕ) → count ≤ k
    → out ++ flat_map text (flat_map (links_numbered parts) (range_with_len k (count - k))) ≡ old → out ≡ old
none_left text parts k count old out past so_far =
    let none : count - k ≡ 0 = omega (arith, past) in
    sym (append-nil out) ∙ ap (λ n. out ++ flat_map text (flat_map (links_numbered parts) (range_with_len k n))) (sym none) ∙ so_far
