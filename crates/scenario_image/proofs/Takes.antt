-- What is read from bytes, the bytes begin with.
use Rattle.std.proofs.Common.{◌≡◌, ℕ, zero, suc, ◌+◌, ◌*◌, ◌≤◌, Bool, true, false, cond, ◌&&◌, eqb, List, [], ◌∷◌, ◌++◌, map, length, get_or, take, drop, Option, Some, None, arith, refl, ap, sym, subst, ◌∙◌, append_assoc}
use Rattle.std.specs.List.{flat_map, AllByRecursion}
use Rattle.std.specs.Option.{option_map, option_and_then}
use Rattle.std.proofs.lemmas.Bool.{eqb-true}
use Rattle.std.proofs.lemmas.List.{drop-drop, length-drop, length-take, take-append-drop}
use Rattle.std.proofs.lemmas.Option.{none-some, same_Some, cond_some, option_and_then_some}
use Rattle.byteorder.specs.Endian.{big_number, big_bytes}
use Rattle.sim_time.specs.declared.variant.Variant.{Variant}
use Rattle.sim_time.specs.declared.variant.TheConstants.{RENO}
use Rattle.scenario_image.specs.Image.{magic, node_byte, queue_byte, codel_image, link_image, flow_image, route_image, image, MayStandIn}
use Rattle.scenario_image.specs.Variants.{variant_byte, variant_of_byte}
use Rattle.scenario_image.specs.Layout.{version_of, node_count, link_count, flow_count, route_count, link_size, links_size, flow_size, layout_size}
use Rattle.scenario_image.specs.Reading.{each_at, node_of_byte, nodes_at, codel_at, queue_of_byte, link_with, link_in_front, links_at, flow_with, flow_at, flows_at, route_at, parts_with, parts_behind, parts_at}
use Rattle.scenario_image.proofs.Courses.{mapped_some}
use Rattle.scenario_image.proofs.VariantBytes.{byte_takes}
use Rattle.scenario_image.proofs.Numbers.{IsBytes, bytes_drop, one, two, four, eight}
use Rattle.scenario_image.specs.declared.parts.NodeKind.{NodeKind}
use Rattle.scenario_image.specs.declared.parts.NodeKind.TheVariants.{Sender, Receiver, Router}
use Rattle.sim_time.specs.declared.queue_kind.CodelParameters.{CodelParameters}
use Rattle.sim_time.specs.declared.queue_kind.QueueKind.{QueueKind}
use Rattle.sim_time.specs.declared.queue_kind.QueueKind.TheVariants.{DropTail, Codel}
use Rattle.scenario_image.specs.declared.parts.LinkPart.{LinkPart}
use Rattle.scenario_image.specs.declared.parts.FlowPart.{FlowPart}
use Rattle.scenario_image.specs.declared.parts.RoutePart.{RoutePart}
use Rattle.scenario_image.specs.declared.parts.ScenarioParts.{ScenarioParts}
use Rattle.scenario_image.specs.declared.version.Version.{Version}
use Rattle.scenario_image.specs.declared.version.Version.TheVariants.{One, Two}

-- a flow's numbers, and then what is left
numbers_take : (bytes tail : List ℕ) (variant : Variant) → IsBytes bytes → 26 ≤ length bytes → drop 26 bytes ≡ tail → bytes ≡ flow_image One (flow_with bytes variant) ++ tail
numbers_take bytes tail variant fits long rest =
    two bytes fits 0 _ (omega (arith, long)) (two bytes fits 2 _ (omega (arith, long)) (two bytes fits 4 _ (omega (arith, long)) (four bytes fits 6 _ (omega (arith, long))
    (eight bytes fits 10 _ (omega (arith, long)) (four bytes fits 18 _ (omega (arith, long)) (four bytes fits 22 _ (omega (arith, long)) rest))))))

-- a flow that bytes begin with
record FlowTaken (version : Version) (bytes : List ℕ) (flow : FlowPart) : Type 0 where
  spelled : bytes ≡ flow_image version flow ++ drop (flow_size version) bytes
  stands : MayStandIn version flow

flow_takes : (version : Version) (bytes : List ℕ) (flow : FlowPart) → IsBytes bytes → flow_size version ≤ length bytes → flow_at version bytes ≡ Some flow → FlowTaken version bytes flow
flow_takes One bytes flow fits long is =
    subst (FlowTaken One bytes) (same_Some (flow_with bytes RENO) flow is) (record { spelled = numbers_take bytes (drop 26 bytes) RENO fits long refl; stands = refl })
flow_takes Two bytes flow fits long is =
    let (variant, read, same) = mapped_some (flow_with bytes) (variant_of_byte (get_or bytes 26 0)) flow is in
    let byte : drop 26 bytes ≡ big_bytes 1 (variant_byte variant) ++ drop 27 bytes =
    one bytes fits 26 _ (omega (arith, long)) refl ∙ ap (λ (n : ℕ). big_bytes 1 n ++ drop 27 bytes) (byte_takes (get_or bytes 26 0) variant read) in
    subst (FlowTaken Two bytes) same (record { spelled = numbers_take bytes _ variant fits (omega (arith, long)) byte; stands = tt })

-- so many flows that bytes begin with
record FlowsTaken (version : Version) (count : ℕ) (bytes : List ℕ) (flows : List FlowPart) : Type 0 where
  spelled : bytes ≡ flat_map (flow_image version) flows ++ drop (flow_size version * count) bytes
  counted : length flows ≡ count
  stand : AllByRecursion (MayStandIn version) flows

flows_take : (version : Version) (count : ℕ) (bytes : List ℕ) (flows : List FlowPart) → IsBytes bytes → flow_size version * count ≤ length bytes → flows_at version count bytes ≡ Some flows → FlowsTaken version count bytes flows
flows_take version zero bytes flows fits long is =
    let none : List FlowPart = [] in
    subst (FlowsTaken version 0 bytes) (same_Some none flows is) (record { spelled = ap (λ (n : ℕ). drop n bytes) {x = 0} {y = flow_size version * 0} (omega arith); counted = refl; stand = tt })
flows_take version (suc more) bytes flows fits long is =
    option_and_then_some (λ flow. option_map (λ others. flow ∷ others) (flows_at version more (drop (flow_size version) bytes))) (flow_at version bytes) flows is (λ flow at rest.
    let size : ℕ = flow_size version in
    let total : size * suc more ≡ size + size * more = omega arith in
    let behind : drop (size * more) (drop size bytes) ≡ drop (size * suc more) bytes = drop-drop (size * more) size bytes ∙ ap (λ n. drop n bytes) (sym total) in
    let (others, later, same) = mapped_some (λ (others : List FlowPart). flow ∷ others) (flows_at version more (drop size bytes)) flows rest in
    let first : FlowTaken version bytes flow = flow_takes version bytes flow fits (omega (arith, long, total)) at in
    let taken : FlowsTaken version more (drop size bytes) others = flows_take version more (drop size bytes) others (bytes_drop size bytes fits) (omega (arith, long, total, length-drop size bytes)) later in
    subst (FlowsTaken version (suc more) bytes) same (record {
      spelled = first.spelled ∙ ap (λ (xs : List ℕ). flow_image version flow ++ xs) (taken.spelled ∙ ap (λ xs. flat_map (flow_image version) others ++ xs) behind)
          ∙ sym (append_assoc (flow_image version flow) (flat_map (flow_image version) others) (drop (size * suc more) bytes));
      counted = ap suc taken.counted;
      stand = (first.stands, taken.stand);
    }))

route_takes : (bytes : List ℕ) → IsBytes bytes → 6 ≤ length bytes → bytes ≡ route_image (route_at bytes) ++ drop 6 bytes
route_takes bytes fits long = two bytes fits 0 _ (omega (arith, long)) (two bytes fits 2 _ (omega (arith, long)) (two bytes fits 4 _ (omega (arith, long)) refl))

lost_takes : (bytes : List ℕ) → IsBytes bytes → 4 ≤ length bytes → bytes ≡ big_bytes 4 (big_number 4 bytes) ++ drop 4 bytes
lost_takes bytes fits long = four bytes fits 0 _ (omega (arith, long)) refl

-- items one after the other
each_takes : {X : Type 0} (size : ℕ) (read : List ℕ → X) (spelled : X → List ℕ) → ((bytes : List ℕ) → IsBytes bytes → size ≤ length bytes → bytes ≡ spelled (read bytes) ++ drop size bytes)
    → (count : ℕ) (bytes : List ℕ) → IsBytes bytes → size * count ≤ length bytes → bytes ≡ flat_map spelled (each_at size read count bytes) ++ drop (size * count) bytes
each_takes size read spelled first zero bytes fits long = ap (λ (n : ℕ). drop n bytes) {x = 0} {y = size * 0} (omega arith)
each_takes size read spelled first (suc more) bytes fits long =
    let total : size * suc more ≡ size + size * more = omega arith in
    let next : drop size bytes ≡ flat_map spelled (each_at size read more (drop size bytes)) ++ drop (size * more) (drop size bytes) =
    each_takes size read spelled first more (drop size bytes) (bytes_drop size bytes fits) (omega (arith, long, total, length-drop size bytes)) in
    let rest : drop (size * more) (drop size bytes) ≡ drop (size * suc more) bytes = drop-drop (size * more) size bytes ∙ ap (λ n. drop n bytes) (sym total) in
    first bytes fits (omega (arith, long, total)) ∙ ap (λ (xs : List ℕ). spelled (read bytes) ++ xs) (next ∙ ap (λ xs. flat_map spelled (each_at size read more (drop size bytes)) ++ xs) rest)
    ∙ sym (append_assoc (spelled (read bytes)) (flat_map spelled (each_at size read more (drop size bytes))) (drop (size * suc more) bytes))

each_counted : {X : Type 0} (size : ℕ) (read : List ℕ → X) (count : ℕ) (bytes : List ℕ) → length (each_at size read count bytes) ≡ count
each_counted size read zero bytes = refl
each_counted size read (suc more) bytes = ap suc (each_counted size read more (drop size bytes))

node_takes : (byte : ℕ) (kind : NodeKind) → node_of_byte byte ≡ Some kind → byte ≡ node_byte kind
node_takes zero kind is = ap node_byte (same_Some Sender kind is)
node_takes (suc zero) kind is = ap node_byte (same_Some Receiver kind is)
node_takes (suc (suc zero)) kind is = ap node_byte (same_Some Router kind is)
node_takes (suc (suc (suc byte))) kind is = absurd (none-some kind is)

nodes_take : (bytes : List ℕ) (kinds : List NodeKind) → nodes_at bytes ≡ Some kinds → bytes ≡ map node_byte kinds
nodes_take [] kinds is = ap (map node_byte) (same_Some [] kinds is)
nodes_take (byte ∷ bytes) kinds is =
    option_and_then_some (λ kind. option_map (λ others. kind ∷ others) (nodes_at bytes)) (node_of_byte byte) kinds is (λ kind at rest.
    let (others, later, same) = mapped_some (λ (others : List NodeKind). kind ∷ others) (nodes_at bytes) kinds rest in
    ap (λ (b : ℕ). b ∷ bytes) (node_takes byte kind at) ∙ ap (λ (bs : List ℕ). node_byte kind ∷ bs) (nodes_take bytes others later) ∙ ap (map node_byte) same)

-- the bytes of these numbers where CoDel's stand
abbrev numbers_image : CodelParameters → List ℕ
numbers_image codel = big_bytes 8 codel.target ++ big_bytes 8 codel.interval ++ big_bytes 2 codel.maxpacket

both : (a b : Bool) → (a && b) ≡ true → (a ≡ true) × (b ≡ true)
both true b is = (refl, is)
both false b is = absurd cc

-- numbers that are all 0
unset : (target interval maxpacket : ℕ) (q : QueueKind) → cond ((eqb target 0 && eqb interval 0) && eqb maxpacket 0) (Some DropTail) None ≡ Some q → (DropTail ≡ q) × (target ≡ 0) × (interval ≡ 0) × (maxpacket ≡ 0)
unset target interval maxpacket q is =
    let (all, same) = cond_some ((eqb target 0 && eqb interval 0) && eqb maxpacket 0) DropTail q is in
    let (first, last) = both (eqb target 0 && eqb interval 0) (eqb maxpacket 0) all in
    let (zero_target, zero_interval) = both (eqb target 0) (eqb interval 0) first in
    (same, eqb-true target 0 zero_target, eqb-true interval 0 zero_interval, eqb-true maxpacket 0 last)

-- a queue is read from its byte and its numbers
queue_takes : (byte : ℕ) (codel : CodelParameters) (q : QueueKind) → queue_of_byte byte codel ≡ Some q → (byte ≡ queue_byte q) × (numbers_image codel ≡ codel_image q)
queue_takes zero codel q is =
    let zeros = unset codel.target codel.interval codel.maxpacket q is in (
      ap queue_byte zeros.0,
      ap (λ (n : ℕ). big_bytes 8 n ++ big_bytes 8 codel.interval ++ big_bytes 2 codel.maxpacket) zeros.1 ∙ ap (λ (n : ℕ). big_bytes 8 0 ++ big_bytes 8 n ++ big_bytes 2 codel.maxpacket) zeros.2
          ∙ ap (λ (n : ℕ). big_bytes 8 0 ++ big_bytes 8 0 ++ big_bytes 2 n) zeros.3 ∙ ap codel_image zeros.0,
    )
queue_takes (suc zero) codel q is = (ap queue_byte (same_Some (Codel codel) q is), ap codel_image (same_Some (Codel codel) q is))
queue_takes (suc (suc byte)) codel q is = absurd (none-some q is)

-- a link's bytes with any byte for its queue, any bytes where CoDel's numbers stand, and any count of lost packets
abbrev raw_link : List ℕ → ℕ → List ℕ → ℕ → List ℕ → List ℕ
raw_link bytes queue numbers count tail =
    big_bytes 2 (big_number 2 bytes) ++ (big_bytes 2 (big_number 2 (drop 2 bytes)) ++ (big_bytes 8 (big_number 8 (drop 4 bytes)) ++ (big_bytes 8 (big_number 8 (drop 12 bytes))
    ++ (big_bytes 1 queue ++ (big_bytes 2 (big_number 2 (drop 21 bytes)) ++ (numbers ++ (big_bytes 1 count ++ tail)))))))

raw_takes : (bytes : List ℕ) → IsBytes bytes → 42 ≤ length bytes → bytes ≡ raw_link bytes (get_or bytes 20 0) (numbers_image (codel_at bytes)) (get_or bytes 41 0) (drop 42 bytes)
raw_takes bytes fits long =
    two bytes fits 0 _ (omega (arith, long)) (two bytes fits 2 _ (omega (arith, long)) (eight bytes fits 4 _ (omega (arith, long)) (eight bytes fits 12 _ (omega (arith, long))
    (one bytes fits 20 _ (omega (arith, long)) (two bytes fits 21 _ (omega (arith, long)) (eight bytes fits 23 _ (omega (arith, long)) (eight bytes fits 31 _ (omega (arith, long))
    (two bytes fits 39 _ (omega (arith, long)) (one bytes fits 41 _ (omega (arith, long)) refl)))))))))

raw_spelled : (bytes : List ℕ) (q : QueueKind) (rest : List ℕ)
    → raw_link bytes (queue_byte q) (codel_image q) (length (link_with bytes q).lose) (flat_map (big_bytes 4) (link_with bytes q).lose ++ rest) ≡ link_image (link_with bytes q) ++ rest
raw_spelled bytes DropTail rest = refl
raw_spelled bytes (Codel codel) rest = refl

with_takes : (bytes : List ℕ) (q : QueueKind) → IsBytes bytes → link_size bytes ≤ length bytes → (get_or bytes 20 0 ≡ queue_byte q) × (numbers_image (codel_at bytes) ≡ codel_image q)
    → bytes ≡ link_image (link_with bytes q) ++ drop (link_size bytes) bytes
with_takes bytes q fits long is =
    let count : ℕ = get_or bytes 41 0 in
    let lose : List ℕ = each_at 4 (big_number 4) count (drop 42 bytes) in
    let counted : length lose ≡ count = each_counted 4 (big_number 4) count (drop 42 bytes) in
    let lost : drop 42 bytes ≡ flat_map (big_bytes 4) lose ++ drop (link_size bytes) bytes =
    each_takes 4 (big_number 4) (big_bytes 4) lost_takes count (drop 42 bytes) (bytes_drop 42 bytes fits) (omega (arith, long, length-drop 42 bytes))
    ∙ ap (λ xs. flat_map (big_bytes 4) lose ++ xs) (drop-drop (4 * count) 42 bytes) in
    raw_takes bytes fits (omega (arith, long))
    ∙ ap (λ (n : ℕ). raw_link bytes n (numbers_image (codel_at bytes)) count (drop 42 bytes)) is.0
    ∙ ap (λ (xs : List ℕ). raw_link bytes (queue_byte q) xs count (drop 42 bytes)) is.1
    ∙ ap (λ (n : ℕ). raw_link bytes (queue_byte q) (codel_image q) n (drop 42 bytes)) (sym counted)
    ∙ ap (λ (xs : List ℕ). raw_link bytes (queue_byte q) (codel_image q) (length lose) xs) lost
    ∙ raw_spelled bytes q (drop (link_size bytes) bytes)

link_takes : (bytes : List ℕ) (link : LinkPart) → IsBytes bytes → link_size bytes ≤ length bytes → link_in_front bytes ≡ Some link → bytes ≡ link_image link ++ drop (link_size bytes) bytes
link_takes bytes link fits long is =
    let (q, read, same) = mapped_some (link_with bytes) (queue_of_byte (get_or bytes 20 0) (codel_at bytes)) link is in
    with_takes bytes q fits long (queue_takes (get_or bytes 20 0) (codel_at bytes) q read) ∙ ap (λ l. link_image l ++ drop (link_size bytes) bytes) same

-- what so many links take
record LinksTaken (count : ℕ) (bytes : List ℕ) (links : List LinkPart × List ℕ) : Type 0 where
  spelled : bytes ≡ flat_map link_image links.0 ++ links.1
  counted : length links.0 ≡ count
  behind : links.1 ≡ drop (links_size count bytes) bytes

links_take : (count : ℕ) (bytes : List ℕ) (links : List LinkPart × List ℕ) → IsBytes bytes → links_size count bytes ≤ length bytes → links_at count bytes ≡ Some links → LinksTaken count bytes links
links_take zero bytes links fits long is =
    let none : List LinkPart × List ℕ = ([], bytes) in
    subst (LinksTaken 0 bytes) (same_Some none links is) (record { spelled = refl; counted = refl; behind = refl })
links_take (suc more) bytes links fits long is =
    option_and_then_some (λ link. option_map (λ others. (link ∷ others.0, others.1)) (links_at more (drop (link_size bytes) bytes))) (link_in_front bytes) links is (λ link at rest.
    let (others, later, same) = mapped_some (λ (others : List LinkPart × List ℕ). (link ∷ others.0, others.1)) (links_at more (drop (link_size bytes) bytes)) links rest in
    let taken : LinksTaken more (drop (link_size bytes) bytes) others =
    links_take more (drop (link_size bytes) bytes) others (bytes_drop (link_size bytes) bytes fits) (omega (arith, long, length-drop (link_size bytes) bytes)) later in
    subst (LinksTaken (suc more) bytes) same (record {
      spelled = link_takes bytes link fits (omega (arith, long)) at ∙ ap (λ xs. link_image link ++ xs) taken.spelled ∙ sym (append_assoc (link_image link) (flat_map link_image others.0) others.1);
      counted = ap suc taken.counted;
      behind = taken.behind ∙ drop-drop (links_size more (drop (link_size bytes) bytes)) (link_size bytes) bytes;
    }))

-- a header with these numbers
abbrev pub raw_header : List ℕ → ℕ → ℕ → ℕ → ℕ → ℕ → List ℕ → List ℕ
raw_header start end nodes links flows routes tail = start ++ (big_bytes 8 end ++ (big_bytes 2 nodes ++ (big_bytes 2 links ++ (big_bytes 2 flows ++ (big_bytes 4 routes ++ tail)))))

header_takes : (bytes : List ℕ) → IsBytes bytes → 22 ≤ length bytes → bytes ≡ raw_header (take 4 bytes) (big_number 8 (drop 4 bytes)) (node_count bytes) (link_count bytes) (flow_count bytes) (route_count bytes) (drop 22 bytes)
header_takes bytes fits long =
    sym (take-append-drop 4 bytes)
    ∙ ap (λ (xs : List ℕ). take 4 bytes ++ xs)
    (eight bytes fits 4 _ (omega (arith, long)) (two bytes fits 12 _ (omega (arith, long)) (two bytes fits 14 _ (omega (arith, long)) (two bytes fits 16 _ (omega (arith, long)) (four bytes fits 18 _ (omega (arith, long)) refl)))))

-- what stands behind the header of parts
abbrev pub body : Version → ScenarioParts → List ℕ → List ℕ
body version parts rest = map node_byte parts.nodes ++ (flat_map link_image parts.links ++ (flat_map (flow_image version) parts.flows ++ (flat_map route_image parts.routes ++ rest)))

regroup : (a b c d rest : List ℕ) → (((a ++ b) ++ c) ++ d) ++ rest ≡ a ++ (b ++ (c ++ (d ++ rest)))
regroup a b c d rest = append_assoc ((a ++ b) ++ c) d rest ∙ append_assoc (a ++ b) c (d ++ rest) ∙ append_assoc a b (c ++ (d ++ rest))

-- the header of parts, behind a magic, and what stands behind it
abbrev pub behind_magic : List ℕ → ScenarioParts → List ℕ → List ℕ
behind_magic start parts tail = raw_header start parts.end (length parts.nodes) (length parts.links) (length parts.flows) (length parts.routes) tail

pub image_regroup : (version : Version) (parts : ScenarioParts) (rest : List ℕ) → image version parts ++ rest ≡ behind_magic (magic version) parts (body version parts rest)
image_regroup One parts rest =
    ap (λ (xs : List ℕ). behind_magic (magic One) parts xs) (regroup (map node_byte parts.nodes) (flat_map link_image parts.links) (flat_map (flow_image One) parts.flows) (flat_map route_image parts.routes) rest)
image_regroup Two parts rest =
    ap (λ (xs : List ℕ). behind_magic (magic Two) parts xs) (regroup (map node_byte parts.nodes) (flat_map link_image parts.links) (flat_map (flow_image Two) parts.flows) (flat_map route_image parts.routes) rest)

pub length_map : {A B : Type 0} (f : A → B) (xs : List A) → length (map f xs) ≡ length xs
length_map f [] = refl
length_map f (x ∷ xs) = ap suc (length_map f xs)

-- all links of bytes whose layout is there
all_links : (bytes : List ℕ) (links : List LinkPart × List ℕ) → IsBytes bytes → layout_size bytes ≤ length bytes → links_at (link_count bytes) (drop (22 + node_count bytes) bytes) ≡ Some links
    → LinksTaken (link_count bytes) (drop (22 + node_count bytes) bytes) links
all_links bytes links fits long is =
    links_take (link_count bytes) (drop (22 + node_count bytes) bytes) links (bytes_drop (22 + node_count bytes) bytes fits) (omega (arith, long, length-drop (22 + node_count bytes) bytes)) is

links_bytes : (bytes : List ℕ) (links : List LinkPart × List ℕ) → IsBytes bytes → LinksTaken (link_count bytes) (drop (22 + node_count bytes) bytes) links → IsBytes links.1
links_bytes bytes links fits taken =
    subst IsBytes (sym taken.behind) (bytes_drop (links_size (link_count bytes) (drop (22 + node_count bytes) bytes)) (drop (22 + node_count bytes) bytes) (bytes_drop (22 + node_count bytes) bytes fits))

links_long : (bytes : List ℕ) (links : List LinkPart × List ℕ) → layout_size bytes ≤ length bytes → LinksTaken (link_count bytes) (drop (22 + node_count bytes) bytes) links
    → flow_size (version_of bytes) * flow_count bytes + 6 * route_count bytes ≤ length links.1
links_long bytes links long taken =
    omega (arith, long, ap length taken.behind, length-drop (links_size (link_count bytes) (drop (22 + node_count bytes) bytes)) (drop (22 + node_count bytes) bytes), length-drop (22 + node_count bytes) bytes)

-- the parts with these nodes, links and flows
with_parts : (version : Version) (bytes : List ℕ) (nodes : List NodeKind) (links : List LinkPart × List ℕ) (flows : List FlowPart) → IsBytes bytes → layout_size bytes ≤ length bytes → version_of bytes ≡ version → take 4 bytes ≡ magic version
    → take (node_count bytes) (drop 22 bytes) ≡ map node_byte nodes → LinksTaken (link_count bytes) (drop (22 + node_count bytes) bytes) links → FlowsTaken (version_of bytes) (flow_count bytes) links.1 flows
    → bytes ≡ image version (parts_with bytes nodes links flows).0 ++ (parts_with bytes nodes links flows).1
with_parts version bytes nodes links flows fits long judged start kinds taken flows_taken =
    header_takes bytes fits (omega (arith, long))
    ∙ ap (λ (xs : List ℕ). raw_header xs (big_number 8 (drop 4 bytes)) (node_count bytes) (link_count bytes) (flow_count bytes) (route_count bytes) (drop 22 bytes)) start
    ∙ ap (λ (n : ℕ). raw_header (magic version) (big_number 8 (drop 4 bytes)) n (link_count bytes) (flow_count bytes) (route_count bytes) (drop 22 bytes)) nodes_counted
    ∙ ap (λ (n : ℕ). raw_header (magic version) (big_number 8 (drop 4 bytes)) (length nodes) n (flow_count bytes) (route_count bytes) (drop 22 bytes)) (sym taken.counted)
    ∙ ap (λ (n : ℕ). raw_header (magic version) (big_number 8 (drop 4 bytes)) (length nodes) (length links.0) n (route_count bytes) (drop 22 bytes)) (sym flows_taken.counted)
    ∙ ap (λ (n : ℕ). raw_header (magic version) (big_number 8 (drop 4 bytes)) (length nodes) (length links.0) (length flows) n (drop 22 bytes)) (sym (each_counted 6 route_at (route_count bytes) routes))
    ∙ ap (λ (xs : List ℕ). raw_header (magic version) (big_number 8 (drop 4 bytes)) (length nodes) (length links.0) (length flows) (length parts.routes) xs) behind
    ∙ sym (image_regroup version parts rest)
  where
    parts : ScenarioParts
    parts = (parts_with bytes nodes links flows).0

    rest : List ℕ
    rest = (parts_with bytes nodes links flows).1

    routes : List ℕ
    routes = drop (flow_size (version_of bytes) * flow_count bytes) links.1

    nodes_counted : node_count bytes ≡ length nodes
    nodes_counted = omega (arith, long, ap length kinds, length_map node_byte nodes, length-take (node_count bytes) (drop 22 bytes), length-drop 22 bytes)

    links_fit : IsBytes links.1
    links_fit = links_bytes bytes links fits taken

    enough : flow_size (version_of bytes) * flow_count bytes + 6 * route_count bytes ≤ length links.1
    enough = links_long bytes links long taken

    routes_take : routes ≡ flat_map route_image parts.routes ++ rest
    routes_take =
        each_takes 6 route_at route_image route_takes (route_count bytes) routes (bytes_drop (flow_size (version_of bytes) * flow_count bytes) links.1 links_fit)
        (omega (arith, enough, length-drop (flow_size (version_of bytes) * flow_count bytes) links.1))

    flows_spelled : links.1 ≡ flat_map (flow_image version) flows ++ routes
    flows_spelled = flows_taken.spelled ∙ ap (λ (v : Version). flat_map (flow_image v) flows ++ routes) judged

    behind : drop 22 bytes ≡ body version parts rest
    behind =
        sym (take-append-drop (node_count bytes) (drop 22 bytes))
        ∙ ap (λ (xs : List ℕ). xs ++ drop (node_count bytes) (drop 22 bytes)) kinds
        ∙ ap (λ (xs : List ℕ). map node_byte nodes ++ xs) (drop-drop (node_count bytes) 22 bytes ∙ taken.spelled
        ∙ ap (λ (xs : List ℕ). flat_map link_image links.0 ++ xs) (flows_spelled ∙ ap (λ (xs : List ℕ). flat_map (flow_image version) flows ++ xs) routes_take))

-- parts that are read from bytes stand at their front, in the version that is judged
pub record PartsTaken (version : Version) (bytes : List ℕ) (read : ScenarioParts × List ℕ) : Type 0 where
  pub spelled : bytes ≡ image version read.0 ++ read.1
  pub stand : AllByRecursion (MayStandIn version) read.0.flows

-- bytes whose layout is there and that begin as an image does begin with an image of the parts that are read
pub parts_take : (version : Version) (bytes : List ℕ) (read : ScenarioParts × List ℕ) → IsBytes bytes → layout_size bytes ≤ length bytes → version_of bytes ≡ version → take 4 bytes ≡ magic version → parts_at bytes ≡ Some read
    → PartsTaken version bytes read
parts_take version bytes read fits long judged start is =
    option_and_then_some (λ nodes. option_and_then (parts_behind bytes nodes) (links_at (link_count bytes) (drop (22 + node_count bytes) bytes))) (nodes_at (take (node_count bytes) (drop 22 bytes))) read is (λ nodes kinds later.
    option_and_then_some (parts_behind bytes nodes) (links_at (link_count bytes) (drop (22 + node_count bytes) bytes)) read later (λ links at behind.
    let (flows, flows_read, same) = mapped_some (parts_with bytes nodes links) (flows_at (version_of bytes) (flow_count bytes) links.1) read behind in
    let taken : LinksTaken (link_count bytes) (drop (22 + node_count bytes) bytes) links = all_links bytes links fits long at in
    let flows_taken : FlowsTaken (version_of bytes) (flow_count bytes) links.1 flows =
    flows_take (version_of bytes) (flow_count bytes) links.1 flows (links_bytes bytes links fits taken) (omega (arith, links_long bytes links long taken)) flows_read in
    let spelled : bytes ≡ image version (parts_with bytes nodes links flows).0 ++ (parts_with bytes nodes links flows).1 =
    with_parts version bytes nodes links flows fits long judged start (nodes_take (take (node_count bytes) (drop 22 bytes)) nodes kinds) taken flows_taken in
    subst (PartsTaken version bytes) same (record { spelled = spelled; stand = subst (λ (v : Version). AllByRecursion (MayStandIn v) flows) judged flows_taken.stand })))

-- the bytes of the flows and routes are there
pub rest_long : (bytes : List ℕ) (links : List LinkPart × List ℕ) → IsBytes bytes → layout_size bytes ≤ length bytes → links_at (link_count bytes) (drop (22 + node_count bytes) bytes) ≡ Some links
    → flow_size (version_of bytes) * flow_count bytes + 6 * route_count bytes ≤ length links.1
rest_long bytes links fits long is = links_long bytes links long (all_links bytes links fits long is)

-- all parts, from the nodes and the links
pub parts_made : (bytes : List ℕ) (nodes : List NodeKind) (links : List LinkPart × List ℕ) → nodes_at (take (node_count bytes) (drop 22 bytes)) ≡ Some nodes
    → links_at (link_count bytes) (drop (22 + node_count bytes) bytes) ≡ Some links → parts_at bytes ≡ parts_behind bytes nodes links
parts_made bytes nodes links kinds at =
    ap (λ read. option_and_then (λ nodes. option_and_then (parts_behind bytes nodes) (links_at (link_count bytes) (drop (22 + node_count bytes) bytes))) read) kinds
    ∙ ap (option_and_then (parts_behind bytes nodes)) at

-- the links, from the counts and the bytes that were taken
pub at_links : (bytes behind : List ℕ) (nodes count : ℕ) (links : List LinkPart × List ℕ) → nodes ≡ node_count bytes → count ≡ link_count bytes → behind ≡ drop (22 + nodes) bytes → links_at count behind ≡ Some links
    → links_at (link_count bytes) (drop (22 + node_count bytes) bytes) ≡ Some links
at_links bytes behind nodes count links nodes_are count_is behind_is at =
    ap (λ n. links_at n (drop (22 + node_count bytes) bytes)) (sym count_is) ∙ ap (links_at count) (ap (λ n. drop (22 + n) bytes) (sym nodes_are) ∙ sym behind_is) ∙ at

-- the parts and the bytes behind them, from what was read of each
pub parts_read : (bytes rest middle after : List ℕ) (nodes : List NodeKind) (links : List LinkPart) (version : Version) (flow_number size first second end : ℕ) (read flows : List FlowPart) (taken routes : List RoutePart)
    → version ≡ version_of bytes → flow_number ≡ flow_count bytes → flows_at version flow_number rest ≡ Some read → flows ≡ read → size ≡ flow_size version * flow_number → middle ≡ drop size rest
    → first ≡ route_count bytes → taken ≡ each_at 6 route_at first middle → routes ≡ taken → end ≡ big_number 8 (drop 4 bytes) → second ≡ route_count bytes → after ≡ drop (6 * second) middle
    → parts_behind bytes nodes (links, rest) ≡ Some (record { end = end; nodes = nodes; links = links; flows = flows; routes = routes }, after)
parts_read bytes rest middle after nodes links version flow_number size first second end read flows taken routes version_is number_is at flows_are size_is middle_is first_is taken_is routes_are end_is second_is after_is =
    ap (λ found. option_map (parts_with bytes nodes (links, rest)) found) given
    ∙ ap (λ bytes_left. whole (big_number 8 (drop 4 bytes)) read (each_at 6 route_at (route_count bytes) bytes_left) (drop (6 * route_count bytes) bytes_left)) left
    ∙ ap (λ e. whole e read (each_at 6 route_at (route_count bytes) middle) (drop (6 * route_count bytes) middle)) (sym end_is)
    ∙ ap (λ f. whole end f (each_at 6 route_at (route_count bytes) middle) (drop (6 * route_count bytes) middle)) (sym flows_are)
    ∙ ap (λ r. whole end flows r (drop (6 * route_count bytes) middle)) (ap (λ n. each_at 6 route_at n middle) (sym first_is) ∙ sym taken_is ∙ sym routes_are)
    ∙ ap (λ a. whole end flows routes a) (ap (λ n. drop (6 * n) middle) (sym second_is) ∙ sym after_is)
  where
    whole : ℕ → List FlowPart → List RoutePart → List ℕ → Option (ScenarioParts × List ℕ)
    whole e f r a = Some (record { end = e; nodes = nodes; links = links; flows = f; routes = r }, a)

    given : flows_at (version_of bytes) (flow_count bytes) rest ≡ Some read
    given = ap (λ v. flows_at v (flow_count bytes) rest) (sym version_is) ∙ ap (λ n. flows_at version n rest) (sym number_is) ∙ at

    left : drop (flow_size (version_of bytes) * flow_count bytes) rest ≡ middle
    left = ap (λ v. drop (flow_size v * flow_count bytes) rest) (sym version_is) ∙ ap (λ n. drop (flow_size version * n) rest) (sym number_is) ∙ ap (λ n. drop n rest) (sym size_is) ∙ sym middle_is
