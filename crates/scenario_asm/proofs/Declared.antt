-- What is known after one more name.
use Rattle.std.proofs.Common.{◌≡◌, ℕ, List, [], ◌∷◌, ◌++◌, length, Some, Bor, ap, ◌∙◌}
use mathlib.Core.Path.{fun_ext}
use Rattle.std.specs.HashMap as hash
use Rattle.std.specs.HashMap.{HashMap}
use Rattle.std.specs.Map.{update}
use Rattle.std.specs.Str.{bytes_eq}
use Rattle.std.proofs.lemmas.Map.Text.{hash_map_updates_str}
use Rattle.scenario_image.specs.declared.parts.NodeKind.{NodeKind}
use Rattle.scenario_image.specs.declared.parts.LinkPart.{LinkPart}
use Rattle.scenario_image.specs.declared.parts.FlowPart.{FlowPart}
use Rattle.scenario_asm.specs.declared.table.Item.{Item}
use Rattle.scenario_asm.specs.declared.table.Item.TheVariants.{Node, Link, Flow}
use Rattle.scenario_asm.specs.Names.{Known, with_name, with_node, with_link, with_flow}

pub items_updated : {S : Type 0} (name : List ℕ) (bytes : List ℕ) (item : Item) (m n : HashMap (Bor (List ℕ)) Item S) → bytes ≡ name → hash.UpdatesBy (λ x y. bytes_eq x.now y.now) (λ k. bytes_eq bytes k.now) m n (Some item) → (λ word. hash.get_by (λ k. bytes_eq word k.now) n) ≡ update bytes_eq (λ word. hash.get_by (λ k. bytes_eq word k.now) m) name (Some item)
items_updated name bytes item m n is updates = fun_ext (λ word. hash_map_updates_str bytes m n (Some item) updates word) ∙ ap (λ b. update bytes_eq (λ word. hash.get_by (λ k. bytes_eq word k.now) m) b (Some item)) is

-- what is known after a name, and then a node, a link or a flow
pub node_after : (mid old : Known) (name : List ℕ) (kind : NodeKind) (kinds : List NodeKind) (number : ℕ) → mid ≡ with_name old name (Node number) → kinds ≡ mid.kinds ++ kind ∷ [] → number ≡ length old.kinds → record mid { kinds = kinds } ≡ with_node old name kind
node_after mid old name kind kinds number is more many =
    ap (λ k. record mid { kinds = k }) more
    ∙ (ap {A = Known} (λ known. record known { kinds = known.kinds ++ kind ∷ [] }) is ∙ ap (λ n. record (with_name old name (Node n)) { kinds = old.kinds ++ kind ∷ [] }) many)

pub link_after : (mid old : Known) (name : List ℕ) (part : LinkPart) (links : List LinkPart) (number : ℕ) → mid ≡ with_name old name (Link number) → links ≡ mid.links ++ part ∷ [] → number ≡ length old.links → record mid { links = links } ≡ with_link old name part
link_after mid old name part links number is more many =
    ap (λ k. record mid { links = k }) more
    ∙ (ap {A = Known} (λ known. record known { links = known.links ++ part ∷ [] }) is ∙ ap (λ n. record (with_name old name (Link n)) { links = old.links ++ part ∷ [] }) many)

pub flow_after : (mid old : Known) (name : List ℕ) (part : FlowPart) (flows : List FlowPart) → mid ≡ with_name old name Flow → flows ≡ mid.flows ++ part ∷ [] → record mid { flows = flows } ≡ with_flow old name part
flow_after mid old name part flows is more = ap (λ k. record mid { flows = k }) more ∙ ap {A = Known} (λ known. record known { flows = known.flows ++ part ∷ [] }) is
