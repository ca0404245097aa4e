-- What a walk along a path shows of the whole path.
use Rattle.std.proofs.Common.{◌≡◌, ℕ, zero, suc, ◌+◌, ◌<◌, ◌≤◌, List, length, get_or, Option, Some, None, ⊎_elim, arith, refl, ap, sym, ◌∙◌, subst, All}
use Rattle.std.proofs.lemmas.Bool.{cases_lt}
use Rattle.std.proofs.lemmas.Option.{none-some, same_Some, option_and_then_some, slice_get_within, slice_get-get_or, get_or_from_slice_get}
use Rattle.std.specs.List.{slice_get}
use Rattle.std.specs.Option.{option_map, option_and_then, unwrap_or}
use Rattle.scenario_image.proofs.Repeats.{HasRepeat, pigeonhole, none_later, some_earlier, no_new_place}
use Rattle.scenario_image.specs.Limits.{IsInLimits}
use Rattle.scenario_image.specs.LinkLimits.{IsLinkInLimits}
use Rattle.scenario_image.specs.Kinds.{link_target}
use Rattle.scenario_image.specs.Paths.{data_path, ack_path, hop_link, next_node, node_after_hops, MayPass, IsUnbroken, IsSimple}
use Rattle.scenario_image.specs.declared.parts.FlowPart.{FlowPart}
use Rattle.scenario_image.specs.declared.parts.LinkPart.{LinkPart}
use Rattle.scenario_image.specs.declared.parts.ScenarioParts.{ScenarioParts}
use Rattle.scenario_image.specs.declared.paths.Path.{Path}

-- what an option's value was made from
pub mapped_some : {A B : Type 0} (f : A → B) (o : Option A) (y : B) → option_map f o ≡ Some y → (x : A) × (o ≡ Some x) × (f x ≡ y)
mapped_some f None y is = absurd (none-some y is)
mapped_some f (Some x) y is = (x, refl, same_Some (f x) y is)

-- what holds of each element holds of the one at a place
pub all_at : {X : Type 0} (P : X → Type 0) (xs : List X) (k : ℕ) (x : X) → All P xs → slice_get xs k ≡ Some x → P x
all_at P xs k x all found = subst P (get_or_from_slice_get xs k x x found) (all k x (slice_get_within xs k x found))

-- a link goes into a node that is there
pub target_below : (parts : ScenarioParts) (number node : ℕ) → IsInLimits parts → link_target parts.links number ≡ Some node → node < length parts.nodes
target_below parts number node limits is =
    let (link, found, to) = mapped_some (λ (link : LinkPart). link.to) (slice_get parts.links number) node is in
    let in_limits : IsLinkInLimits (length parts.nodes) link = all_at (IsLinkInLimits (length parts.nodes)) parts.links number link limits.each_link found in
    subst (λ n. n < length parts.nodes) to in_limits.to_node

-- a path is at nodes that are there
pub node_below : (parts : ScenarioParts) (path : Path) (k node : ℕ) → IsInLimits parts → path.start < length parts.nodes → node_after_hops parts path k ≡ Some node → node < length parts.nodes
node_below parts path zero node limits start is = subst (λ n. n < length parts.nodes) (same_Some path.start node is) start
node_below parts path (suc k) node limits start is =
    option_and_then_some (next_node parts path) (node_after_hops parts path k) node is (λ here _ next.
    option_and_then_some (link_target parts.links) (hop_link parts path here) node next (λ number _ to. target_below parts number node limits to))

-- a path goes on from where it is
pub next_after : (parts : ScenarioParts) (path : Path) (hops here : ℕ) (next : Option ℕ) → node_after_hops parts path hops ≡ Some here → next_node parts path here ≡ next → node_after_hops parts path (suc hops) ≡ next
next_after parts path hops here next at_here is = ap (option_and_then (next_node parts path)) at_here ∙ is

-- the first hops of a path come only where they may
abbrev pub IsUnbrokenFor : ScenarioParts → Path → ℕ → Type 0
IsUnbrokenFor parts path hops = (k node : ℕ) → k < hops → node_after_hops parts path (suc k) ≡ Some node → MayPass parts path node

-- the repeated step of a path
pub goes : (parts : ScenarioParts) (path : Path) (k : ℕ) → node_after_hops parts path (suc k) ≡ option_and_then (next_node parts path) (node_after_hops parts path k)
goes parts path k = refl

-- a path that does not go on is unbroken, and at no node twice
pub ended : (parts : ScenarioParts) (path : Path) (hops here : ℕ) → IsUnbrokenFor parts path hops → node_after_hops parts path hops ≡ Some here → next_node parts path here ≡ None → IsUnbroken parts path × IsSimple parts path
ended parts path hops here unbroken at_here stops = (no_break, no_return)
  where
    nothing : node_after_hops parts path (suc hops) ≡ None
    nothing = next_after parts path hops here None at_here stops

    no_break : IsUnbroken parts path
    no_break k node at_node =
        ⊎_elim (λ (before : k < hops). unbroken k node before at_node)
        (λ (after : hops ≤ k). absurd (none-some node (sym (none_later (next_node parts path) (node_after_hops parts path) (goes parts path) (suc k) (suc hops) (omega arith) nothing) ∙ at_node)))
        (cases_lt k hops)

    no_return : IsSimple parts path
    no_return i j node before at_i at_j =
        let (m, below, same) = no_new_place (next_node parts path) (node_after_hops parts path) (goes parts path) i j before (at_i ∙ sym at_j) hops in
        absurd (none-some node (sym (none_later (next_node parts path) (node_after_hops parts path) (goes parts path) j (suc m) (omega arith) (sym same ∙ nothing)) ∙ at_j))

-- a path that goes on for as many hops as there are nodes comes to a node again, and to no new ones after that
pub returned : (parts : ScenarioParts) (path : Path) (here : ℕ) → IsInLimits parts → path.start < length parts.nodes → IsUnbrokenFor parts path (length parts.nodes)
    → node_after_hops parts path (length parts.nodes) ≡ Some here → IsUnbroken parts path × ¬ IsSimple parts path
returned parts path here limits start unbroken at_here = (no_break, λ simple. simple repeat.0 repeat.1 (place repeat.0) repeat.2 first (sym same ∙ first))
  where
    count : ℕ
    count = length parts.nodes

    place : ℕ → ℕ
    place k = unwrap_or (node_after_hops parts path k) 0

    there : (k : ℕ) → k ≤ count → node_after_hops parts path k ≡ Some (place k)
    there k most = let (node, is) = some_earlier (next_node parts path) (node_after_hops parts path) (goes parts path) count k here most at_here in is ∙ ap Some (sym (ap (λ o. unwrap_or o 0) is))

    repeat : HasRepeat count place
    repeat = pigeonhole count place (λ k most. node_below parts path k (place k) limits start (there k most))

    first : node_after_hops parts path repeat.0 ≡ Some (place repeat.0)
    first = there repeat.0 (omega (arith, repeat.2, repeat.3))

    same : node_after_hops parts path repeat.0 ≡ node_after_hops parts path repeat.1
    same = first ∙ ap Some repeat.4 ∙ sym (there repeat.1 repeat.3)

    no_break : IsUnbroken parts path
    no_break k node at_node =
        let (m, below, is) = no_new_place (next_node parts path) (node_after_hops parts path) (goes parts path) repeat.0 repeat.1 repeat.2 same k in
        unbroken m node (omega (arith, below, repeat.3)) (sym is ∙ at_node)

-- one more hop of a path that has come only where it may
pub unbroken_more : (parts : ScenarioParts) (path : Path) (hops here next : ℕ) → IsUnbrokenFor parts path hops → node_after_hops parts path hops ≡ Some here → next_node parts path here ≡ Some next → MayPass parts path next → IsUnbrokenFor parts path (hops + 1)
unbroken_more parts path hops here next unbroken at_here is passes k node below at_node =
    ⊎_elim (λ (before : k < hops). unbroken k node before at_node)
    (λ (last : hops ≤ k). let now : k ≡ hops = omega arith in
    let there : Some next ≡ Some node = sym (next_after parts path hops here (Some next) at_here is) ∙ ap (λ (j : ℕ). node_after_hops parts path (suc j)) (sym now) ∙ at_node in
    subst (MayPass parts path) (same_Some next node there) passes) (cases_lt k hops)

pub node_more : (parts : ScenarioParts) (path : Path) (hops here next : ℕ) → node_after_hops parts path hops ≡ Some here → next_node parts path here ≡ Some next → node_after_hops parts path (hops + 1) ≡ Some next
node_more parts path hops here next at_here is = subst (λ (j : ℕ). node_after_hops parts path j ≡ Some next) {x = suc hops} {y = hops + 1} (omega arith) (next_after parts path hops here (Some next) at_here is)

-- a path that comes where it may not
pub breaks : (parts : ScenarioParts) (path : Path) (hops here next : ℕ) → node_after_hops parts path hops ≡ Some here → next_node parts path here ≡ Some next → ¬ MayPass parts path next → ¬ IsUnbroken parts path
breaks parts path hops here next at_here is fails unbroken = fails (unbroken hops next (next_after parts path hops here (Some next) at_here is))

-- what holds of both paths of each of the first flows
abbrev pub EachPathBefore : ScenarioParts → ℕ → (Path → Type 0) → Type 0
EachPathBefore parts count P = (number : ℕ) → number < count → (flow : FlowPart) → slice_get parts.flows number ≡ Some flow → P (data_path flow) × P (ack_path flow)

-- the flow at a place of a list that is the flows
pub flow_at : (P : FlowPart → Type 0) (flows items : List FlowPart) (number : ℕ) (flow default : FlowPart) → items ≡ flows → slice_get flows number ≡ Some flow → P (get_or items number default) → P flow
flow_at P flows items number flow default same found holds =
    subst P (ap (λ xs. get_or xs number default) same ∙ get_or_from_slice_get flows number flow default found) holds

-- what holds of each flow holds of the one at a place
pub at_place : (P : FlowPart → Type 0) (flows items : List FlowPart) (number : ℕ) (default : FlowPart) → items ≡ flows → number < length items → ((k : ℕ) (flow : FlowPart) → slice_get flows k ≡ Some flow → P flow) → P (get_or items number default)
at_place P flows items number default same below each =
    each number (get_or items number default) (ap (λ xs. slice_get xs number) (sym same) ∙ slice_get-get_or items number default below)
