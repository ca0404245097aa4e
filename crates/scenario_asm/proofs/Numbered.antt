-- What is known where each node, link and flow has the name of its number.
use Rattle.std.proofs.Common.{◌≡◌, ◌<◌, ◌≤◌, ℕ, ◌+◌, true, cond, List, [], ◌∷◌, ◌++◌, length, Option, Some, None, is_some, inl, inr, ap, ◌∙◌, refl, arith}
use Rattle.std.specs.Prelude.{decimal}
use Rattle.std.specs.List.{slice_get}
use Rattle.std.specs.Map.{update}
use Rattle.std.specs.Str.{bytes_eq}
use Rattle.std.proofs.lemmas.Bool.{cases_eq}
use Rattle.std.proofs.lemmas.List.{length_push}
use Rattle.std.proofs.lemmas.Option.{slice_get-get_or}
use Rattle.scenario_image.specs.declared.parts.NodeKind.{NodeKind}
use Rattle.scenario_image.specs.declared.parts.LinkPart.{LinkPart}
use Rattle.scenario_image.specs.declared.parts.FlowPart.{FlowPart}
use Rattle.scenario_image.specs.declared.parts.RoutePart.{RoutePart}
use Rattle.scenario_asm.specs.declared.table.Item.{Item}
use Rattle.scenario_asm.specs.declared.table.Item.TheVariants.{Node as node_item, Link as link_item}
use Rattle.scenario_asm.specs.Names.{Known, item_number, item_kind, item_link, number_of, kind_of_word, link_of_word, with_node, with_link, with_flow}
use Rattle.scenario_asm.specs.Spelling.{node_label, link_label, flow_label}
use Rattle.scenario_asm.proofs.Decimals.{label_same, label_differs}

-- these nodes, links, flows and routes are known, and no other name of a number
pub record IsNumbered (known : Known) (kinds : List NodeKind) (links : List LinkPart) (flows : List FlowPart) (routes : List RoutePart) : Type 0 where
  pub kinds_are : known.kinds ≡ kinds
  pub links_are : known.links ≡ links
  pub flows_are : known.flows ≡ flows
  pub routes_are : known.routes ≡ routes
  pub node : (n : ℕ) → n < length kinds → known.item (node_label n) ≡ Some (node_item n)
  pub no_node : (n : ℕ) → n < 10000 → length kinds ≤ n → known.item (node_label n) ≡ None
  pub link : (n : ℕ) → n < length links → known.item (link_label n) ≡ Some (link_item n)
  pub no_link : (n : ℕ) → n < 10000 → length links ≤ n → known.item (link_label n) ≡ None
  pub no_flow : (n : ℕ) → n < 10000 → length flows ≤ n → known.item (flow_label n) ≡ None

-- what the name of a number means
pub node_number : (known : Known) (kinds : List NodeKind) (links : List LinkPart) (flows : List FlowPart) (routes : List RoutePart) → IsNumbered known kinds links flows routes → (n : ℕ) → n < length kinds → number_of known (node_label n) ≡ n
node_number known kinds links flows routes at n lt = ap item_number (at.node n lt)

pub node_kind_is : (known : Known) (kinds : List NodeKind) (links : List LinkPart) (flows : List FlowPart) (routes : List RoutePart) → IsNumbered known kinds links flows routes → (n : ℕ) → n < length kinds → kind_of_word known (node_label n) ≡ slice_get kinds n
node_kind_is known kinds links flows routes at n lt = ap (item_kind known.kinds) (at.node n lt) ∙ ap (λ l. slice_get l n) at.kinds_are

pub link_number : (known : Known) (kinds : List NodeKind) (links : List LinkPart) (flows : List FlowPart) (routes : List RoutePart) → IsNumbered known kinds links flows routes → (n : ℕ) → n < length links → number_of known (link_label n) ≡ n
link_number known kinds links flows routes at n lt = ap item_number (at.link n lt)

pub link_is : (known : Known) (kinds : List NodeKind) (links : List LinkPart) (flows : List FlowPart) (routes : List RoutePart) → IsNumbered known kinds links flows routes → (n : ℕ) → n < length links → link_of_word known (link_label n) ≡ slice_get links n
link_is known kinds links flows routes at n lt = ap (item_link known.links) (at.link n lt) ∙ ap (λ l. slice_get l n) at.links_are

-- something is there below the length
pub is_there : {X : Type 0} (xs : List X) (n : ℕ) → n < length xs → is_some (slice_get xs n) ≡ true
is_there [] n lt = absurd (omega arith)
is_there (x ∷ xs) n lt = ap is_some (slice_get-get_or (x ∷ xs) n x lt)

-- a name is that of what is declared by it, and another that of what it was
named_here : (letter n : ℕ) (item : Option Item) (other : Option Item) → cond (bytes_eq (letter ∷ decimal n) (letter ∷ decimal n)) item other ≡ item
named_here letter n item other = rw (label_same letter n) refl

named_there : (letter m n : ℕ) (item : Option Item) (other : Option Item) → m < 10000 → n < 10000 → (m ≡ n → ⊥) → cond (bytes_eq (letter ∷ decimal m) (letter ∷ decimal n)) item other ≡ other
named_there letter m n item other few less apart = rw (label_differs letter m n few less apart) refl

-- with one more node
new_node : (known : Known) (kinds : List NodeKind) (links : List LinkPart) (flows : List FlowPart) (routes : List RoutePart) → IsNumbered known kinds links flows routes → length kinds < 10000 → (number : ℕ) → number ≡ length kinds → (n : ℕ) → n < length kinds + 1 → update bytes_eq known.item (node_label (length kinds)) (Some (node_item number)) (node_label n) ≡ Some (node_item n)
new_node known kinds links flows routes at few number is n lt =
    elim (cases_eq (length kinds) n) [
      | inl same ↦ rw (is, same) (named_here 110 n (Some (node_item n)) (known.item (node_label n)))
      | inr apart ↦ named_there 110 (length kinds) n (Some (node_item number)) (known.item (node_label n)) few (omega arith) apart ∙ at.node n (omega arith)
    ]

pub node_numbered : (known : Known) (kinds : List NodeKind) (links : List LinkPart) (flows : List FlowPart) (routes : List RoutePart) (kind : NodeKind) → IsNumbered known kinds links flows routes → length kinds < 10000 → IsNumbered (with_node known (node_label (length kinds)) kind) (kinds ++ kind ∷ []) links flows routes
node_numbered known kinds links flows routes kind at few =
    let more : length (kinds ++ kind ∷ []) ≡ length kinds + 1 = length_push kinds kind in
    record {
      kinds_are = ap (λ l. l ++ kind ∷ []) at.kinds_are;
      links_are = at.links_are;
      flows_are = at.flows_are;
      routes_are = at.routes_are;
      node = λ n lt. new_node known kinds links flows routes at few (length known.kinds) (ap length at.kinds_are) n (omega arith);
      no_node = λ n less past. named_there 110 (length kinds) n _ (known.item (node_label n)) few less (omega arith) ∙ at.no_node n less (omega arith);
      link = at.link;
      no_link = at.no_link;
      no_flow = at.no_flow;
    }

-- with one more link
new_link : (known : Known) (kinds : List NodeKind) (links : List LinkPart) (flows : List FlowPart) (routes : List RoutePart) → IsNumbered known kinds links flows routes → length links < 10000 → (number : ℕ) → number ≡ length links → (n : ℕ) → n < length links + 1 → update bytes_eq known.item (link_label (length links)) (Some (link_item number)) (link_label n) ≡ Some (link_item n)
new_link known kinds links flows routes at few number is n lt =
    elim (cases_eq (length links) n) [
      | inl same ↦ rw (is, same) (named_here 108 n (Some (link_item n)) (known.item (link_label n)))
      | inr apart ↦ named_there 108 (length links) n (Some (link_item number)) (known.item (link_label n)) few (omega arith) apart ∙ at.link n (omega arith)
    ]

pub link_numbered : (known : Known) (kinds : List NodeKind) (links : List LinkPart) (flows : List FlowPart) (routes : List RoutePart) (part : LinkPart) → IsNumbered known kinds links flows routes → length links < 10000 → IsNumbered (with_link known (link_label (length links)) part) kinds (links ++ part ∷ []) flows routes
link_numbered known kinds links flows routes part at few =
    let more : length (links ++ part ∷ []) ≡ length links + 1 = length_push links part in
    record {
      kinds_are = at.kinds_are;
      links_are = ap (λ l. l ++ part ∷ []) at.links_are;
      flows_are = at.flows_are;
      routes_are = at.routes_are;
      node = at.node;
      no_node = at.no_node;
      link = λ n lt. new_link known kinds links flows routes at few (length known.links) (ap length at.links_are) n (omega arith);
      no_link = λ n less past. named_there 108 (length links) n _ (known.item (link_label n)) few less (omega arith) ∙ at.no_link n less (omega arith);
      no_flow = at.no_flow;
    }

-- with one more flow
pub flow_numbered : (known : Known) (kinds : List NodeKind) (links : List LinkPart) (flows : List FlowPart) (routes : List RoutePart) (part : FlowPart) → IsNumbered known kinds links flows routes → length flows < 10000 → IsNumbered (with_flow known (flow_label (length flows)) part) kinds links (flows ++ part ∷ []) routes
flow_numbered known kinds links flows routes part at few =
    let more : length (flows ++ part ∷ []) ≡ length flows + 1 = length_push flows part in
    record {
      kinds_are = at.kinds_are;
      links_are = at.links_are;
      flows_are = ap (λ l. l ++ part ∷ []) at.flows_are;
      routes_are = at.routes_are;
      node = at.node;
      no_node = at.no_node;
      link = at.link;
      no_link = at.no_link;
      no_flow = λ n less past. named_there 102 (length flows) n _ (known.item (flow_label n)) few less (omega arith) ∙ at.no_flow n less (omega arith);
    }

-- with other routes, or with other links in their places
pub routes_numbered : (known : Known) (kinds : List NodeKind) (links : List LinkPart) (flows : List FlowPart) (routes next : List RoutePart) → IsNumbered known kinds links flows routes → IsNumbered (record known { routes = next }) kinds links flows next
routes_numbered known kinds links flows routes next at =
    record { kinds_are = at.kinds_are; links_are = at.links_are; flows_are = at.flows_are; routes_are = refl; node = at.node; no_node = at.no_node; link = at.link; no_link = at.no_link; no_flow = at.no_flow }

pub links_numbered : (known : Known) (kinds : List NodeKind) (links next : List LinkPart) (flows : List FlowPart) (routes : List RoutePart) → IsNumbered known kinds links flows routes → length next ≡ length links → IsNumbered (record known { links = next }) kinds next flows routes
links_numbered known kinds links next flows routes at same =
    record {
      kinds_are = at.kinds_are;
      links_are = refl;
      flows_are = at.flows_are;
      routes_are = at.routes_are;
      node = at.node;
      no_node = at.no_node;
      link = λ n lt. at.link n (omega arith);
      no_link = λ n less past. at.no_link n less (omega arith);
      no_flow = at.no_flow;
    }
