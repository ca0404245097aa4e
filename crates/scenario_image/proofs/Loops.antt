-- What the loops that read keep: what is read so far, and what is left.
use Rattle.std.proofs.Common.{◌≡◌, ℕ, suc, ◌+◌, ◌-◌, ◌*◌, ◌<◌, ◌≤◌, List, [], ◌∷◌, ◌++◌, length, get_or, drop, drop-cons, add-one, Option, Some, None, Result, arith, refl, ap, sym, subst, ◌∙◌, append_assoc}
use Rattle.std.specs.Option.{option_map, option_and_then}
use Rattle.std.proofs.lemmas.List.{append-nil, length-drop}
use Rattle.scenario_image.specs.Layout.{link_size, links_size, flow_size}
use Rattle.scenario_image.specs.Reading.{each_at, Fails, Gives, node_of_byte, nodes_at, link_in_front, links_at, flow_at, flows_at}
use Rattle.scenario_image.specs.declared.fault.LoadFault.{LoadFault}
use Rattle.scenario_image.specs.declared.fault.LoadFault.TheVariants.{L1, L2, L3, L4, L5, L6, L7, L8, NoMemory}
use Rattle.scenario_image.specs.declared.parts.NodeKind.{NodeKind}
use Rattle.scenario_image.specs.declared.parts.LinkPart.{LinkPart}
use Rattle.scenario_image.specs.declared.parts.FlowPart.{FlowPart}
use Rattle.scenario_image.specs.declared.version.Version.{Version}

-- the first items are read, and the bytes of the others are there
pub record IsReadSoFar {X : Type 0} (size : ℕ) (read : List ℕ → X) (count : ℕ) (bytes : List ℕ) (done : ℕ) (items : List X) (rest : List ℕ) : Type 0 where
  pub all : items ++ each_at size read (count - done) rest ≡ each_at size read count bytes
  pub enough : size * (count - done) ≤ length rest

pub read_next : {X : Type 0} (size : ℕ) (read : List ℕ → X) (count : ℕ) (bytes : List ℕ) (done : ℕ) (items : List X) (rest : List ℕ) → done < count → IsReadSoFar size read count bytes done items rest
    → IsReadSoFar size read count bytes (done + 1) (items ++ read rest ∷ []) (drop size rest)
read_next size read count bytes done items rest below so_far = record {
  all = append_assoc items (read rest ∷ []) (each_at size read (count - (done + 1)) (drop size rest)) ∙ ap (λ xs. items ++ xs) (ap (λ (n : ℕ). each_at size read n rest) {x = suc (count - (done + 1))} {y = count - done} (omega arith)) ∙ so_far.all;
  enough = enough;
}
  where
    split : size * (count - done) ≡ size + size * (count - (done + 1))
    split = ap (λ (n : ℕ). size * n) {x = count - done} {y = suc (count - (done + 1))} (omega arith) ∙ omega arith

    enough : size * (count - (done + 1)) ≤ length (drop size rest)
    enough = omega (arith, length-drop size rest, so_far.enough, split)

pub all_read : {X : Type 0} (size : ℕ) (read : List ℕ → X) (count : ℕ) (bytes : List ℕ) (done : ℕ) (items : List X) (rest : List ℕ) → count ≤ done → IsReadSoFar size read count bytes done items rest → items ≡ each_at size read count bytes
all_read size read count bytes done items rest above so_far =
    sym (append-nil items) ∙ ap (λ (n : ℕ). items ++ each_at size read n rest) {x = 0} {y = count - done} (omega arith) ∙ so_far.all

-- nodes in front of those that are read
abbrev pub nodes_before : List NodeKind → Option (List NodeKind) → Option (List NodeKind)
nodes_before front read = option_map (λ kinds. front ++ kinds) read

-- the nodes so far and those of the rest are the nodes of all bytes
abbrev pub AreNodesSoFar : List ℕ → List NodeKind → List ℕ → Type 0
AreNodesSoFar bytes front rest = nodes_before front (nodes_at rest) ≡ nodes_at bytes

nodes_regroup : (front : List NodeKind) (kind : NodeKind) (read : Option (List NodeKind)) → nodes_before (front ++ kind ∷ []) read ≡ nodes_before front (option_map (λ kinds. kind ∷ kinds) read)
nodes_regroup front kind None = refl
nodes_regroup front kind (Some kinds) = ap Some (append_assoc front (kind ∷ []) kinds)

pub node_next : (bytes : List ℕ) (front : List NodeKind) (byte : ℕ) (rest : List ℕ) (kind : NodeKind) → node_of_byte byte ≡ Some kind → AreNodesSoFar bytes front (byte ∷ rest) → AreNodesSoFar bytes (front ++ kind ∷ []) rest
node_next bytes front byte rest kind is so_far =
    nodes_regroup front kind (nodes_at rest) ∙ ap (λ node. nodes_before front (option_and_then (λ kind. option_map (λ kinds. kind ∷ kinds) (nodes_at rest)) node)) (sym is) ∙ so_far

pub no_node : (bytes : List ℕ) (front : List NodeKind) (byte : ℕ) (rest : List ℕ) → node_of_byte byte ≡ None → AreNodesSoFar bytes front (byte ∷ rest) → nodes_at bytes ≡ None
no_node bytes front byte rest is so_far = sym so_far ∙ ap (λ node. nodes_before front (option_and_then (λ kind. option_map (λ kinds. kind ∷ kinds) (nodes_at rest)) node)) is

-- the same by the place of the byte
pub nodes_step : (bytes : List ℕ) (front : List NodeKind) (i : ℕ) (kind : NodeKind) → i < length bytes → node_of_byte (get_or bytes i 0) ≡ Some kind → AreNodesSoFar bytes front (drop i bytes) → AreNodesSoFar bytes (front ++ kind ∷ []) (drop (i + 1) bytes)
nodes_step bytes front i kind below is so_far = rw add-one (node_next bytes front (get_or bytes i 0) (drop (suc i) bytes) kind is (subst (λ rest. AreNodesSoFar bytes front rest) (drop-cons bytes i 0 below) so_far))

pub nodes_stop : (bytes : List ℕ) (front : List NodeKind) (i : ℕ) → i < length bytes → node_of_byte (get_or bytes i 0) ≡ None → AreNodesSoFar bytes front (drop i bytes) → nodes_at bytes ≡ None
nodes_stop bytes front i below is so_far = no_node bytes front (get_or bytes i 0) (drop (suc i) bytes) is (subst (λ rest. AreNodesSoFar bytes front rest) (drop-cons bytes i 0 below) so_far)

-- links in front of those that are read
abbrev pub links_before : List LinkPart → Option (List LinkPart × List ℕ) → Option (List LinkPart × List ℕ)
links_before front read = option_map (λ links. (front ++ links.0, links.1)) read

-- the first links are read, and the bytes of the others are there
pub record AreLinksSoFar (count : ℕ) (bytes : List ℕ) (done : ℕ) (front : List LinkPart) (rest : List ℕ) : Type 0 where
  pub all : links_before front (links_at (count - done) rest) ≡ links_at count bytes
  pub enough : links_size (count - done) rest ≤ length rest

-- the links of the rest, by the first of them
abbrev first_link : List ℕ → ℕ → Option LinkPart → Option (List LinkPart × List ℕ)
first_link rest more first = option_and_then (λ link. option_map (λ others. (link ∷ others.0, others.1)) (links_at more (drop (link_size rest) rest))) first

links_regroup : (front : List LinkPart) (link : LinkPart) (read : Option (List LinkPart × List ℕ)) → links_before (front ++ link ∷ []) read ≡ links_before front (option_map (λ others. (link ∷ others.0, others.1)) read)
links_regroup front link None = refl
links_regroup front link (Some links) = ap (λ all. Some (all, links.1)) (append_assoc front (link ∷ []) links.0)

one_more : (count done : ℕ) → done < count → count - done ≡ suc (count - (done + 1))
one_more count done below = omega arith

pub link_fits : (count : ℕ) (bytes : List ℕ) (done : ℕ) (front : List LinkPart) (rest : List ℕ) → done < count → AreLinksSoFar count bytes done front rest → link_size rest ≤ length rest
link_fits count bytes done front rest below so_far = omega (arith, so_far.enough, ap (λ n. links_size n rest) (one_more count done below))

pub link_next : (count : ℕ) (bytes : List ℕ) (done : ℕ) (front : List LinkPart) (rest : List ℕ) (link : LinkPart) → done < count → link_in_front rest ≡ Some link → AreLinksSoFar count bytes done front rest
    → AreLinksSoFar count bytes (done + 1) (front ++ link ∷ []) (drop (link_size rest) rest)
link_next count bytes done front rest link below is so_far = record {
  all = links_regroup front link (links_at (count - (done + 1)) (drop (link_size rest) rest))
      ∙ ap (λ first. links_before front (first_link rest (count - (done + 1)) first)) (sym is)
      ∙ ap (λ n. links_before front (links_at n rest)) (sym (one_more count done below)) ∙ so_far.all;
  enough = omega (arith, so_far.enough, ap (λ n. links_size n rest) (one_more count done below), length-drop (link_size rest) rest);
}

pub no_link : (count : ℕ) (bytes : List ℕ) (done : ℕ) (front : List LinkPart) (rest : List ℕ) → done < count → link_in_front rest ≡ None → AreLinksSoFar count bytes done front rest → links_at count bytes ≡ None
no_link count bytes done front rest below is so_far =
    sym so_far.all ∙ ap (λ n. links_before front (links_at n rest)) (one_more count done below) ∙ ap (λ first. links_before front (first_link rest (count - (done + 1)) first)) is

pub links_done : (count : ℕ) (bytes : List ℕ) (done : ℕ) (front : List LinkPart) (rest : List ℕ) → count ≤ done → AreLinksSoFar count bytes done front rest → links_at count bytes ≡ Some (front, rest)
links_done count bytes done front rest above so_far =
    sym so_far.all ∙ ap (λ n. links_before front (links_at n rest)) {x = count - done} {y = 0} (omega arith) ∙ ap (λ all. Some (all, rest)) (append-nil front)

-- flows in front of those that are read
abbrev pub flows_before : List FlowPart → Option (List FlowPart) → Option (List FlowPart)
flows_before front read = option_map (λ flows. front ++ flows) read

-- the first flows are read, and the bytes of the others are there
pub record AreFlowsSoFar (version : Version) (count : ℕ) (bytes : List ℕ) (done : ℕ) (front : List FlowPart) (rest : List ℕ) : Type 0 where
  pub all : flows_before front (flows_at version (count - done) rest) ≡ flows_at version count bytes
  pub enough : flow_size version * (count - done) ≤ length rest

-- the flows of the rest, by the first of them
abbrev first_flow : Version → List ℕ → ℕ → Option FlowPart → Option (List FlowPart)
first_flow version rest more first = option_and_then (λ flow. option_map (λ flows. flow ∷ flows) (flows_at version more (drop (flow_size version) rest))) first

flows_regroup : (front : List FlowPart) (flow : FlowPart) (read : Option (List FlowPart)) → flows_before (front ++ flow ∷ []) read ≡ flows_before front (option_map (λ flows. flow ∷ flows) read)
flows_regroup front flow None = refl
flows_regroup front flow (Some flows) = ap Some (append_assoc front (flow ∷ []) flows)

flows_split : (version : Version) (count done : ℕ) → done < count → flow_size version * (count - done) ≡ flow_size version + flow_size version * (count - (done + 1))
flows_split version count done below = ap (λ (n : ℕ). flow_size version * n) (one_more count done below) ∙ omega arith

pub flow_fits : (version : Version) (count : ℕ) (bytes : List ℕ) (done : ℕ) (front : List FlowPart) (rest : List ℕ) → done < count → AreFlowsSoFar version count bytes done front rest → flow_size version ≤ length rest
flow_fits version count bytes done front rest below so_far = omega (arith, so_far.enough, flows_split version count done below)

pub flow_next : (version : Version) (count : ℕ) (bytes : List ℕ) (done : ℕ) (front : List FlowPart) (rest : List ℕ) (flow : FlowPart) → done < count → flow_at version rest ≡ Some flow → AreFlowsSoFar version count bytes done front rest
    → AreFlowsSoFar version count bytes (done + 1) (front ++ flow ∷ []) (drop (flow_size version) rest)
flow_next version count bytes done front rest flow below is so_far = record {
  all = flows_regroup front flow (flows_at version (count - (done + 1)) (drop (flow_size version) rest))
      ∙ ap (λ first. flows_before front (first_flow version rest (count - (done + 1)) first)) (sym is)
      ∙ ap (λ n. flows_before front (flows_at version n rest)) (sym (one_more count done below)) ∙ so_far.all;
  enough = omega (arith, so_far.enough, flows_split version count done below, length-drop (flow_size version) rest);
}

pub no_flow : (version : Version) (count : ℕ) (bytes : List ℕ) (done : ℕ) (front : List FlowPart) (rest : List ℕ) → done < count → flow_at version rest ≡ None → AreFlowsSoFar version count bytes done front rest → flows_at version count bytes ≡ None
no_flow version count bytes done front rest below is so_far =
    sym so_far.all ∙ ap (λ n. flows_before front (flows_at version n rest)) (one_more count done below) ∙ ap (λ first. flows_before front (first_flow version rest (count - (done + 1)) first)) is

-- what is read of one link fails as what is read of all
pub link_fails : (fault : LoadFault) (count : ℕ) (bytes : List ℕ) (done : ℕ) (front : List LinkPart) (rest : List ℕ) → done < count → Fails fault (link_in_front rest) → AreLinksSoFar count bytes done front rest → Fails fault (links_at count bytes)
link_fails L1 count bytes done front rest below is so_far = absurd is
link_fails L2 count bytes done front rest below is so_far = absurd is
link_fails L3 count bytes done front rest below is so_far = no_link count bytes done front rest below is so_far
link_fails L4 count bytes done front rest below is so_far = absurd is
link_fails L5 count bytes done front rest below is so_far = absurd is
link_fails L6 count bytes done front rest below is so_far = absurd is
link_fails L7 count bytes done front rest below is so_far = absurd is
link_fails L8 count bytes done front rest below is so_far = absurd is
link_fails NoMemory count bytes done front rest below is so_far = tt

-- the sizes so far and those of the rest are the sizes of all
pub size_next : (count : ℕ) (bytes : List ℕ) (done : ℕ) (rest after : List ℕ) (size : ℕ) → done < count → size ≡ link_size rest → size ≤ length rest → after ≡ drop size rest
    → links_size count bytes + length rest ≡ length bytes + links_size (count - done) rest → links_size count bytes + length after ≡ length bytes + links_size (count - (done + 1)) after
size_next count bytes done rest after size below is fits behind so_far =
    let all : links_size (count - done) rest ≡ link_size rest + links_size (count - (done + 1)) (drop (link_size rest) rest) = ap (λ n. links_size n rest) (one_more count done below) in
    let there : after ≡ drop (link_size rest) rest = behind ∙ ap (λ n. drop n rest) is in
    omega (arith, all, is, fits, so_far, ap length there, length-drop (link_size rest) rest, ap (λ xs. links_size (count - (done + 1)) xs) there)

-- what is answered is what another reading gives, where the two are one
pub gives_as : {X Y : Type 0} (view : X → Y) (answer : Result X LoadFault) (read other : Option Y) → read ≡ other → Gives view answer read → Gives view answer other
gives_as view answer read other same gives = subst (Gives view answer) same gives
