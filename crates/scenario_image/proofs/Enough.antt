-- When there are as many bytes as the layout takes, by the sizes of its parts.
use Rattle.std.proofs.Common.{◌≡◌, ℕ, ◌+◌, ◌-◌, ◌*◌, ◌<◌, ◌≤◌, List, length, drop, leb, arith, ap, sym, ◌∙◌, refl, true, false}
use Rattle.std.specs.Prelude.{IsTrue}
use Rattle.std.proofs.lemmas.Bool.Decides.{nat_tests}
use Rattle.std.proofs.lemmas.List.{length-drop}
use Rattle.scenario_image.specs.Layout.{node_count, link_count, flow_count, route_count, version_of, links_size, flow_size, layout_size}

-- what the layout takes with so many nodes, links and flows, and so many bytes behind these
abbrev size_with : List ℕ → ℕ → ℕ → ℕ → ℕ → ℕ
size_with bytes nodes links flows routes = 22 + nodes + links_size links (drop (22 + nodes) bytes) + flows + 6 * routes

-- it is the layout's size with the counts of the header
size_is : (bytes : List ℕ) (nodes links flows routes : ℕ) → nodes ≡ node_count bytes → links ≡ link_count bytes → flows ≡ flow_size (version_of bytes) * flow_count bytes → routes ≡ route_count bytes → layout_size bytes ≡ size_with bytes nodes links flows routes
size_is bytes nodes links flows routes nodes_are links_are flows_are routes_are =
    ap (λ n. size_with bytes n (link_count bytes) (flow_size (version_of bytes) * flow_count bytes) (route_count bytes)) (sym nodes_are)
    ∙ ap (λ n. size_with bytes nodes n (flow_size (version_of bytes) * flow_count bytes) (route_count bytes)) (sym links_are)
    ∙ ap (λ n. size_with bytes nodes links n (route_count bytes)) (sym flows_are)
    ∙ ap (λ n. size_with bytes nodes links flows n) (sym routes_are)

sums : (header links rest flows all size : ℕ) → header ≤ all → links + rest ≡ all - header → size ≡ header + links + flows → (IsTrue (leb flows rest) → size ≤ all) × (size ≤ all → IsTrue (leb flows rest))
sums header links rest flows all size enough split is = grind (arith, nat_tests)

too_few : (size all : ℕ) → all < size → (IsTrue false → size ≤ all) × (size ≤ all → IsTrue false)
too_few size all below = (λ is. let never : false ≡ true = is in cc, λ fits. absurd (omega arith))

-- there are enough bytes where those behind the links are enough for the flows and routes
pub enough_behind : (bytes behind rest : List ℕ) (nodes links flows routes : ℕ) → 22 ≤ length bytes → nodes ≤ length bytes - 22 → behind ≡ drop (22 + nodes) bytes → links_size links behind + length rest ≡ length behind → nodes ≡ node_count bytes → links ≡ link_count bytes → flows ≡ flow_size (version_of bytes) * flow_count bytes
    → routes ≡ route_count bytes → (IsTrue (leb (flows + 6 * routes) (length rest)) → layout_size bytes ≤ length bytes) × (layout_size bytes ≤ length bytes → IsTrue (leb (flows + 6 * routes) (length rest)))
enough_behind bytes behind rest nodes links flows routes header room is split nodes_are links_are flows_are routes_are =
    let taken : links_size links (drop (22 + nodes) bytes) ≡ links_size links behind = ap (λ xs. links_size links xs) (sym is) in
    let long : length behind ≡ length bytes - (22 + nodes) = ap length is ∙ length-drop (22 + nodes) bytes in
    let size : layout_size bytes ≡ (22 + nodes) + links_size links behind + (flows + 6 * routes) = size_is bytes nodes links flows routes nodes_are links_are flows_are routes_are ∙ omega arith in
    sums (22 + nodes) (links_size links behind) (length rest) (flows + 6 * routes) (length bytes) (layout_size bytes) (omega arith) (split ∙ long) size

-- there are too few bytes where those behind the nodes are too few for the links
pub few_behind : (bytes behind : List ℕ) (nodes links : ℕ) → 22 ≤ length bytes → nodes ≤ length bytes - 22 → behind ≡ drop (22 + nodes) bytes → length behind < links_size links behind → nodes ≡ node_count bytes → links ≡ link_count bytes → (IsTrue false → layout_size bytes ≤ length bytes) × (layout_size bytes ≤ length bytes → IsTrue false)
few_behind bytes behind nodes links header room is short nodes_are links_are =
    let taken : links_size links (drop (22 + nodes) bytes) ≡ links_size links behind = ap (λ xs. links_size links xs) (sym is) in
    let long : length behind ≡ length bytes - (22 + nodes) = ap length is ∙ length-drop (22 + nodes) bytes in
    let size = size_is bytes nodes links (flow_size (version_of bytes) * flow_count bytes) (route_count bytes) nodes_are links_are refl refl in
    too_few (layout_size bytes) (length bytes) (omega arith)

-- there are too few bytes where those behind the header are too few for the nodes
pub few_nodes : (bytes : List ℕ) (nodes : ℕ) → length bytes - 22 < nodes → nodes ≡ node_count bytes → (IsTrue false → layout_size bytes ≤ length bytes) × (layout_size bytes ≤ length bytes → IsTrue false)
few_nodes bytes nodes short nodes_are =
    let size = size_is bytes nodes (link_count bytes) (flow_size (version_of bytes) * flow_count bytes) (route_count bytes) nodes_are refl refl refl in
    too_few (layout_size bytes) (length bytes) (omega arith)
