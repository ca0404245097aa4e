-- The statements of a scenario, read one after another.
use Rattle.std.proofs.Common.{◌≡◌, ◌<◌, ◌≤◌, ℕ, ◌==◌, ◌&&◌, nat_le, true, false, List, [], ◌∷◌, ◌++◌, length, map, set, Option, Some, is_some, Ok, inl, inr, ap, sym, ◌∙◌, refl, subst, arith, append_assoc}
use Rattle.std.specs.Prelude.{codes}
use Rattle.std.specs.List.{filter_map, slice_get, All}
use Rattle.std.proofs.lemmas.Bool.{or_from, and_left, and_right, ne_eqb}
use Rattle.std.proofs.lemmas.Bool.Decides.{nat_tests}
use Rattle.std.proofs.lemmas.List.{append-nil, map-append, length-set}
use Rattle.std.proofs.lemmas.List.Concat.{flat_map-append}
use Rattle.std.proofs.lemmas.List.Elements.{All-head, All-tail}
use Rattle.sim_time.specs.declared.limits.TheConstants.{LATEST_END}
use Rattle.scenario_image.specs.Range.{IsBetween}
use Rattle.scenario_image.specs.LinkLimits.{IsLinkInLimits}
use Rattle.scenario_image.specs.FlowLimits.{IsFlowInLimits}
use Rattle.scenario_image.specs.RouteLimits.{IsRouteBefore}
use Rattle.scenario_image.specs.Ends.{outgoing_count}
use Rattle.scenario_image.specs.declared.limits.TheConstants.{MOST_ROUTER_LINKS}
use Rattle.scenario_image.specs.declared.parts.NodeKind.{NodeKind}
use Rattle.scenario_image.specs.declared.parts.NodeKind.TheVariants.{Sender, Receiver, Router}
use Rattle.scenario_image.specs.declared.parts.LinkPart.{LinkPart}
use Rattle.scenario_image.specs.declared.parts.FlowPart.{FlowPart}
use Rattle.scenario_image.specs.declared.parts.RoutePart.{RoutePart}
use Rattle.scenario_asm.specs.declared.statement.LoseLine.{LoseLine}
use Rattle.scenario_asm.specs.declared.statement.Statement.{Statement}
use Rattle.scenario_asm.specs.declared.statement.Statement.TheVariants.{Sim, Node, Link, Flow, Route, Lose}
use Rattle.scenario_asm.specs.Lines.{lines_of_text}
use Rattle.scenario_asm.specs.Names.{Known, is_taken, is_router, is_end, is_from, is_routed, is_full_router, last_of, least_above}
use Rattle.scenario_asm.specs.Routes.{is_before, placed}
use Rattle.scenario_asm.specs.Statements.{statement_at, as_said, line_at}
use Rattle.scenario_asm.specs.Text.{said_end, losing_link_part, known_of}
use Rattle.scenario_asm.specs.Draft.{AreLostOfLinks}
use Rattle.scenario_asm.specs.Meaning.{AreRead, statements_of}
use Rattle.scenario_asm.specs.Spelling.{node_label, link_label, flow_label, spelling, line_for, text_for}
use Rattle.scenario_asm.specs.CanonicalText.{line_of_link}
use Rattle.scenario_asm.proofs.Holds.{sim_known, node_known, link_known, flow_known, route_known, lose_known, still_lost, link_lost, lose_lost, lose_declared, same_ends}
use Rattle.scenario_asm.proofs.Read.{read_none, read_more}
use Rattle.scenario_asm.proofs.Numbered.{IsNumbered, node_numbered, link_numbered, flow_numbered, routes_numbered, links_numbered}
use Rattle.scenario_asm.proofs.SaidAgain.{sim_says, node_says, link_says, flow_says, route_says, lose_says}
use Rattle.scenario_asm.proofs.SpeltLines.{is_free, pieces_word}
use Rattle.scenario_asm.proofs.Spelt.{IsSpelt, sim_spelt, node_spelt, link_spelt, flow_spelt, route_spelt, lose_spelt, spelt_free, spelt_says}

-- the text of these statements is read line by line as they say, and they declare these parts by their numbers
pub record Stands (ends : List ℕ) (statements : List Statement) (kinds : List NodeKind) (links : List LinkPart) (flows : List FlowPart) (routes : List RoutePart) : Type 0 where
  pub lines : (rest : List ℕ) → lines_of_text (text_for statements ++ rest) ≡ map line_for statements ++ lines_of_text rest
  pub read : AreRead (map line_for statements) (map (λ s. Some s) statements)
  pub ends_are : filter_map said_end statements ≡ ends
  pub lost : AreLostOfLinks statements
  pub known : IsNumbered (known_of statements) kinds links flows routes

pub same_stands : (ends : List ℕ) (a b : List Statement) (k l : List NodeKind) (m n : List LinkPart) (o p : List FlowPart) (q r : List RoutePart) → a ≡ b → k ≡ l → m ≡ n → o ≡ p → q ≡ r → Stands ends a k m o q → Stands ends b l n p r
same_stands ends a b k l m n o p q r ab kl mn op qr stands =
    let A : List Statement → Type 0 = λ x. Stands ends x k m o q in
    let K : List NodeKind → Type 0 = λ x. Stands ends b x m o q in
    let M : List LinkPart → Type 0 = λ x. Stands ends b l x o q in
    let O : List FlowPart → Type 0 = λ x. Stands ends b l n x q in
    let Q : List RoutePart → Type 0 = λ x. Stands ends b l n p x in
    subst Q qr (subst O op (subst M mn (subst K kl (subst A ab stands))))

-- the statements that lines say, each with its statement
pub said_back : (statements : List Statement) → statements_of (map (λ s. Some s) statements) ≡ statements
said_back [] = refl
said_back (s ∷ statements) = ap (λ l. s ∷ l) (said_back statements)

-- the text after one more line
regroup : (text line rest : List ℕ) → (text ++ ((line ++ 10 ∷ []) ++ [])) ++ rest ≡ text ++ (line ++ 10 ∷ rest)
regroup text line rest = rw (append-nil (line ++ 10 ∷ []), append_assoc text (line ++ 10 ∷ []) rest, append_assoc line (10 ∷ []) rest) refl

text_push : (statements : List Statement) (s : Statement) (rest : List ℕ) → text_for (statements ++ s ∷ []) ++ rest ≡ text_for statements ++ (line_for s ++ 10 ∷ rest)
text_push statements s rest = ap (λ t. t ++ rest) (flat_map-append (λ x. line_for x ++ codes "\n") statements (s ∷ [])) ∙ regroup (text_for statements) (line_for s) rest

lines_push : (statements : List Statement) (s : Statement) → ((rest : List ℕ) → lines_of_text (text_for statements ++ rest) ≡ map line_for statements ++ lines_of_text rest) → is_free 10 (line_for s) ≡ true → (rest : List ℕ) → lines_of_text (text_for (statements ++ s ∷ []) ++ rest) ≡ map line_for (statements ++ s ∷ []) ++ lines_of_text rest
lines_push statements s before free rest =
    ap lines_of_text (text_push statements s rest)
    ∙ (before (line_for s ++ 10 ∷ rest)
    ∙ (ap (λ l. map line_for statements ++ l) (pieces_word 10 (line_for s) rest free)
    ∙ (sym (append_assoc (map line_for statements) (line_for s ∷ []) (lines_of_text rest))
    ∙ ap (λ l. l ++ lines_of_text rest) (sym (map-append line_for statements (s ∷ []))))))

read_push : (statements : List Statement) (s : Statement) → AreRead (map line_for statements) (map (λ x. Some x) statements) → line_at (known_of statements) (line_for s) ≡ Ok (Some s) → AreRead (map line_for (statements ++ s ∷ [])) (map (λ x. Some x) (statements ++ s ∷ []))
read_push statements s read says =
    let some : Statement → Option Statement = λ x. Some x in
    let here : line_at (known_of (statements_of (map some statements))) (line_for s) ≡ Ok (Some s) = ap (λ l. line_at (known_of l) (line_for s)) (said_back statements) ∙ says in
    rw (map-append line_for statements (s ∷ []), map-append some statements (s ∷ [])) (read_more (map line_for statements) (map some statements) (line_for s) (Some s) read here)

-- one more statement
push : (ends next_ends : List ℕ) (statements : List Statement) (kinds next_kinds : List NodeKind) (links next_links : List LinkPart) (flows next_flows : List FlowPart) (routes next_routes : List RoutePart) (s : Statement) → Stands ends statements kinds links flows routes → IsSpelt s → statement_at (known_of statements) (spelling s) ≡ Ok s → filter_map said_end (statements ++ s ∷ []) ≡ next_ends → AreLostOfLinks (statements ++ s ∷ []) → IsNumbered (known_of (statements ++ s ∷ [])) next_kinds next_links next_flows next_routes → Stands next_ends (statements ++ s ∷ []) next_kinds next_links next_flows next_routes
push ends next_ends statements kinds next_kinds links next_links flows next_flows routes next_routes s was spelt says said lost known =
    record {
      lines = lines_push statements s was.lines (spelt_free s spelt);
      read = read_push statements s was.read (spelt_says (known_of statements) s spelt ∙ ap as_said says);
      ends_are = said;
      lost = lost;
      known = known;
    }

-- none
pub none_stand : Stands [] [] [] [] [] []
none_stand =
    record {
      lines = λ rest. refl;
      read = read_none;
      ends_are = refl;
      lost = λ link past. refl;
      known =
          record {
            kinds_are = refl;
            links_are = refl;
            flows_are = refl;
            routes_are = refl;
            node = λ n lt. absurd (omega arith);
            no_node = λ n less past. refl;
            link = λ n lt. absurd (omega arith);
            no_link = λ n less past. refl;
            no_flow = λ n less past. refl;
          };
    }

-- the end
pub sim_stands : (end : ℕ) → IsBetween 1 LATEST_END end → Stands (end ∷ []) (Sim end ∷ []) [] [] [] []
sim_stands end limits =
    push [] (end ∷ []) [] [] [] [] [] [] [] [] [] (Sim end) none_stand (sim_spelt end limits.1) (sim_says (known_of []) end limits.0 limits.1) refl (λ link past. refl)
    (subst (λ known. IsNumbered known [] [] [] []) (sim_known [] end) none_stand.known)

-- one more node
pub node_stands : (ends : List ℕ) (statements : List Statement) (kinds : List NodeKind) (links : List LinkPart) (flows : List FlowPart) (routes : List RoutePart) (kind : NodeKind) → Stands ends statements kinds links flows routes → length kinds < 256 → Stands ends (statements ++ Node (node_label (length kinds)) kind ∷ []) (kinds ++ kind ∷ []) links flows routes
node_stands ends statements kinds links flows routes kind was few =
    let s : Statement = Node (node_label (length kinds)) kind in
    let free : is_taken (known_of statements) (node_label (length kinds)) ≡ false = ap is_some (was.known.no_node (length kinds) (omega arith) (omega arith)) in
    let P : Known → Type 0 = λ known. IsNumbered known (kinds ++ kind ∷ []) links flows routes in
    push ends ends statements kinds (kinds ++ kind ∷ []) links links flows flows routes routes s was (node_spelt (length kinds) kind (omega arith)) (node_says (known_of statements) kinds links flows routes kind was.known few)
    (sym (same_ends statements s refl) ∙ was.ends_are) (still_lost statements s refl (λ k. refl) was.lost)
    (subst P (node_known statements (node_label (length kinds)) kind free) (node_numbered (known_of statements) kinds links flows routes kind was.known (omega arith)))

-- a link that loses these packets, and one that loses none yet
abbrev pub with_lose : LinkPart → List ℕ → LinkPart
with_lose link numbers = losing_link_part (line_of_link link) numbers

abbrev pub bare : LinkPart → LinkPart
bare link = with_lose link []

-- one more link
pub link_stands : (ends : List ℕ) (statements : List Statement) (kinds : List NodeKind) (links : List LinkPart) (flows : List FlowPart) (routes : List RoutePart) (link : LinkPart) → Stands ends statements kinds links flows routes → IsLinkInLimits (length kinds) link → length kinds ≤ 256 → length links < 1024 → (link.from ≡ link.to → ⊥) → (is_router (slice_get kinds link.from) && nat_le MOST_ROUTER_LINKS (outgoing_count links link.from)) ≡ false → Stands ends (statements ++ Link (link_label (length links)) (line_of_link link) ∷ []) kinds (links ++ bare link ∷ []) flows routes
link_stands ends statements kinds links flows routes link was limits few less apart room =
    let name = link_label (length links) in
    let s : Statement = Link name (line_of_link link) in
    let free : is_taken (known_of statements) name ≡ false = ap is_some (was.known.no_link (length links) (omega arith) (omega arith)) in
    let full : is_full_router (known_of statements) link.from ≡ false = rw (was.known.kinds_are, was.known.links_are) room in
    let P : Known → Type 0 = λ known. IsNumbered known kinds (links ++ bare link ∷ []) flows routes in
    push ends ends statements kinds kinds links (links ++ bare link ∷ []) flows flows routes routes s was (link_spelt (length links) (length kinds) link (omega arith) few limits) (link_says (known_of statements) kinds links flows routes link was.known limits few less apart full)
    (sym (same_ends statements s refl) ∙ was.ends_are) (link_lost statements name (line_of_link link) was.lost)
    (subst P (link_known statements name (line_of_link link) free was.lost) (link_numbered (known_of statements) kinds links flows routes (bare link) was.known (omega arith)))

-- one more flow
pub flow_stands : (ends : List ℕ) (statements : List Statement) (kinds : List NodeKind) (links : List LinkPart) (flows : List FlowPart) (routes : List RoutePart) (end : ℕ) (flow : FlowPart) → Stands ends statements kinds links flows routes → IsFlowInLimits (length kinds) end flow → end ≤ LATEST_END → length kinds ≤ 256 → length flows < 128 → slice_get kinds flow.sender ≡ Some Sender → slice_get kinds flow.receiver ≡ Some Receiver → Stands ends (statements ++ Flow (flow_label (length flows)) flow ∷ []) kinds links (flows ++ flow ∷ []) routes
flow_stands ends statements kinds links flows routes end flow was limits soon few less sender receiver =
    let name = flow_label (length flows) in
    let s : Statement = Flow name flow in
    let free : is_taken (known_of statements) name ≡ false = ap is_some (was.known.no_flow (length flows) (omega arith) (omega arith)) in
    let P : Known → Type 0 = λ known. IsNumbered known kinds links (flows ++ flow ∷ []) routes in
    push ends ends statements kinds kinds links links flows (flows ++ flow ∷ []) routes routes s was (flow_spelt (length flows) (length kinds) end flow (omega arith) few soon limits) (flow_says (known_of statements) kinds links flows routes end flow was.known limits soon few less sender receiver)
    (sym (same_ends statements s refl) ∙ was.ends_are) (still_lost statements s refl (λ k. refl) was.lost)
    (subst P (flow_known statements name flow free) (flow_numbered (known_of statements) kinds links flows routes flow was.known (omega arith)))

-- a route that comes after another
before_not : (a b : RoutePart) → IsRouteBefore a b → is_before b a ≡ false
before_not a b before =
    elim before [
      | inl router ↦ grind (arith, nat_tests)
      | inr destination ↦ grind (arith, nat_tests)
    ]

before_other : (a b : RoutePart) → IsRouteBefore a b → (a.router == b.router && a.destination == b.destination) ≡ false
before_other a b before =
    elim before [
      | inl router ↦ and_left _ _ (ne_eqb a.router b.router (λ same. omega arith))
      | inr destination ↦ and_right _ _ (ne_eqb a.destination b.destination (λ same. omega arith))
    ]

placed_last : (routes : List RoutePart) (route : RoutePart) → All (λ other. IsRouteBefore other route) routes → placed routes route ≡ routes ++ route ∷ []
placed_last [] route all = refl
placed_last (r ∷ routes) route all =
    let P : RoutePart → Type 0 = λ other. IsRouteBefore other route in
    let later = before_not r route (All-head P r routes all) in
    simp later (ap (λ l. r ∷ l) (placed_last routes route (All-tail P r routes all)))

not_routed : (routes : List RoutePart) (route : RoutePart) → All (λ other. IsRouteBefore other route) routes → is_routed routes route.router route.destination ≡ false
not_routed [] route all = refl
not_routed (r ∷ routes) route all =
    let P : RoutePart → Type 0 = λ other. IsRouteBefore other route in
    or_from _ _ (before_other r route (All-head P r routes all)) (not_routed routes route (All-tail P r routes all))

-- a route that names what it may
pub record IsRouteFine (kinds : List NodeKind) (links : List LinkPart) (route : RoutePart) : Type 0 where
  pub router_within : route.router < length kinds
  pub destination_within : route.destination < length kinds
  pub link_within : route.link < length links
  pub router : slice_get kinds route.router ≡ Some Router
  pub ends : is_end (slice_get kinds route.destination) ≡ true
  pub leaves : is_from route.router (slice_get links route.link) ≡ true

-- one more route
pub route_stands : (ends : List ℕ) (statements : List Statement) (kinds : List NodeKind) (links : List LinkPart) (flows : List FlowPart) (routes : List RoutePart) (route : RoutePart) → Stands ends statements kinds links flows routes → length kinds ≤ 256 → length links ≤ 1024 → IsRouteFine kinds links route → All (λ other. IsRouteBefore other route) routes → Stands ends (statements ++ Route route ∷ []) kinds links flows (routes ++ route ∷ [])
route_stands ends statements kinds links flows routes route was few less fine rises =
    let s : Statement = Route route in
    let P : Known → Type 0 = λ known. IsNumbered known kinds links flows (placed (known_of statements).routes route) in
    let placed_at : placed (known_of statements).routes route ≡ routes ++ route ∷ [] = ap (λ l. placed l route) was.known.routes_are ∙ placed_last routes route rises in
    let Q : List RoutePart → Type 0 = λ next. IsNumbered (known_of (statements ++ s ∷ [])) kinds links flows next in
    push ends ends statements kinds kinds links links flows flows routes (routes ++ route ∷ []) s was (route_spelt route (omega (arith, fine.router_within)) (omega (arith, fine.destination_within)) (omega (arith, fine.link_within)))
    (route_says (known_of statements) kinds links flows routes route was.known few less fine.router_within fine.destination_within fine.link_within fine.router fine.ends (not_routed routes route rises) fine.leaves)
    (sym (same_ends statements s refl) ∙ was.ends_are) (still_lost statements s refl (λ k. refl) was.lost)
    (subst Q placed_at (subst P (route_known statements route) (routes_numbered (known_of statements) kinds links flows routes (placed (known_of statements).routes route) was.known)))

-- one more lost packet
pub lose_stands : (ends : List ℕ) (statements : List Statement) (kinds : List NodeKind) (links : List LinkPart) (flows : List FlowPart) (routes : List RoutePart) (lose : LoseLine) (part : LinkPart) → Stands ends statements kinds links flows routes → length links ≤ 1024 → lose.link < length links → slice_get links lose.link ≡ Some part → least_above (last_of part.lose) ≤ lose.number → lose.number ≤ 1000000000 → length part.lose < 64 → Stands ends (statements ++ Lose lose ∷ []) kinds (set links lose.link (record part { lose = part.lose ++ lose.number ∷ [] })) flows routes
lose_stands ends statements kinds links flows routes lose part was less lt found above most room =
    let s : Statement = Lose lose in
    let there : slice_get (known_of statements).links lose.link ≡ Some part = ap (λ l. slice_get l lose.link) was.known.links_are ∙ found in
    let next : List LinkPart = set links lose.link (record part { lose = part.lose ++ lose.number ∷ [] }) in
    let P : Known → Type 0 = λ known. IsNumbered known kinds next flows routes in
    let same : set (known_of statements).links lose.link (record part { lose = part.lose ++ lose.number ∷ [] }) ≡ next = ap (λ l. set l lose.link (record part { lose = part.lose ++ lose.number ∷ [] })) was.known.links_are in
    let known_same : record (known_of statements) { links = next } ≡ known_of (statements ++ s ∷ []) = ap {A = List LinkPart} (λ l. record (known_of statements) { links = l }) (sym same) ∙ lose_known statements lose part there in
    push ends ends statements kinds kinds links next flows flows routes routes s was (lose_spelt lose (omega arith) most)
    (lose_says (known_of statements) kinds links flows routes lose.link lose.number was.known less lt (rw found above) most (rw found room))
    (sym (same_ends statements s refl) ∙ was.ends_are) (lose_lost statements lose (lose_declared statements lose.link part there) was.lost)
    (subst P known_same (links_numbered (known_of statements) kinds links next flows routes was.known (length-set links lose.link _)))
