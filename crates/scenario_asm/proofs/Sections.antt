-- All nodes, all links, all flows, all routes and all lost packets of a scenario, read one after another.
use Rattle.std.proofs.Common.{◌≡◌, ◌≢◌, ◌<◌, ◌≤◌, ◌^◌, ℕ, ◌+◌, ◌-◌, ◌&&◌, nat_le, false, cond, List, [], ◌∷◌, ◌++◌, length, map, set, get_or, Some, inl, inr, ap, sym, ◌∙◌, refl, subst, arith, append_assoc, length-append}
use Rattle.std.specs.List.{slice_get, All, AllPairs}
use Rattle.std.specs.List.Sorted.{IsStrictlyIncreasing}
use Rattle.std.proofs.lemmas.Bool.{cases_Bool, and_left, and_right, lt-leb, eq-eqb}
use Rattle.std.proofs.lemmas.List.{append-nil, length_push, map-append, length-map, get_or_append_left, get_or_at, set_at}
use Rattle.std.proofs.lemmas.List.Sums.{sum_by-cons, sum_by-append}
use Rattle.std.proofs.lemmas.List.Elements.{All-head, All-tail}
use Rattle.std.proofs.lemmas.Option.{slice_get-get_or}
use Rattle.sim_time.specs.declared.limits.TheConstants.{LATEST_END}
use Rattle.scenario_image.specs.Range.{IsBetween}
use Rattle.scenario_image.specs.LinkLimits.{IsLoseInLimits, IsLinkInLimits}
use Rattle.scenario_image.specs.FlowLimits.{IsFlowInLimits}
use Rattle.scenario_image.specs.RouteLimits.{IsRouteBefore}
use Rattle.scenario_image.specs.Ends.{leaves, outgoing_count}
use Rattle.scenario_image.specs.declared.limits.TheConstants.{MOST_ROUTER_LINKS}
use Rattle.scenario_image.specs.declared.parts.NodeKind.{NodeKind}
use Rattle.scenario_image.specs.declared.parts.NodeKind.TheVariants.{Sender, Receiver, Router}
use Rattle.scenario_image.specs.declared.parts.LinkPart.{LinkPart}
use Rattle.scenario_image.specs.declared.parts.FlowPart.{FlowPart}
use Rattle.scenario_image.specs.declared.parts.RoutePart.{RoutePart}
use Rattle.scenario_asm.specs.declared.statement.LoseLine.{LoseLine}
use Rattle.scenario_asm.specs.declared.statement.Statement.{Statement}
use Rattle.scenario_asm.specs.declared.statement.Statement.TheVariants.{Node, Link, Flow, Route, Lose}
use Rattle.scenario_asm.specs.Names.{is_router, last_of, least_above}
use Rattle.scenario_asm.specs.Spelling.{node_label, link_label, flow_label}
use Rattle.scenario_asm.specs.CanonicalText.{line_of_link, node_statements, link_statements, flow_statements, route_statements, numbers_lost, lose_statements}
use Rattle.scenario_asm.proofs.Right.{router_is}
use Rattle.scenario_asm.proofs.Restated.{Stands, IsRouteFine, with_lose, bare, same_stands, node_stands, link_stands, flow_stands, route_stands, lose_stands}

-- the nodes
pub nodes_stand : (ends : List ℕ) (statements : List Statement) (before after : List NodeKind) (links : List LinkPart) (flows : List FlowPart) (routes : List RoutePart) (number : ℕ) → number ≡ length before → Stands ends statements before links flows routes → length before + length after ≤ 256 → Stands ends (statements ++ node_statements number after) (before ++ after) links flows routes
nodes_stand ends statements before [] links flows routes number is was few = same_stands ends _ _ _ _ _ _ _ _ _ _ (sym (append-nil statements)) (sym (append-nil before)) refl refl refl was
nodes_stand ends statements before (kind ∷ after) links flows routes number is was few =
    let s : Statement = Node (node_label number) kind in
    let here : Stands ends (statements ++ s ∷ []) (before ++ kind ∷ []) links flows routes = rw is (node_stands ends statements before links flows routes kind was (omega arith)) in
    let rest = nodes_stand ends (statements ++ s ∷ []) (before ++ kind ∷ []) after links flows routes (number + 1) (omega (arith, length_push before kind)) here (omega (arith, length_push before kind)) in
    same_stands ends _ _ _ _ _ _ _ _ _ _ (append_assoc statements (s ∷ []) (node_statements (number + 1) after)) (append_assoc before (kind ∷ []) after) refl refl refl rest

-- how many links leave a node
abbrev one_if_leaves : ℕ → LinkPart → ℕ
one_if_leaves node link = cond (leaves node link) 1 0

outgoing_bare : (links : List LinkPart) (node : ℕ) → outgoing_count (map bare links) node ≡ outgoing_count links node
outgoing_bare [] node = refl
outgoing_bare (link ∷ links) node =
    sum_by-cons (one_if_leaves node) (bare link) (map bare links) ∙ (ap (λ n. one_if_leaves node link + n) (outgoing_bare links node) ∙ sym (sum_by-cons (one_if_leaves node) link links))

outgoing_more : (before : List LinkPart) (link : LinkPart) (after : List LinkPart) → outgoing_count before link.from + 1 ≤ outgoing_count (before ++ link ∷ after) link.from
outgoing_more before link after =
    let one : LinkPart → ℕ = one_if_leaves link.from in
    let here : one link ≡ 1 = ap (λ t. cond t 1 0) (eq-eqb link.from link.from refl) in
    omega (arith, sum_by-append one before (link ∷ after), sum_by-cons one link after)

-- no router has more than 16
abbrev pub HasRoom : List NodeKind → List LinkPart → Type 0
HasRoom kinds links = (node : ℕ) → slice_get kinds node ≡ Some Router → outgoing_count links node ≤ 16

room_for : (kinds : List NodeKind) (before : List LinkPart) (link : LinkPart) (after : List LinkPart) → HasRoom kinds (before ++ link ∷ after) → (is_router (slice_get kinds link.from) && nat_le MOST_ROUTER_LINKS (outgoing_count (map bare before) link.from)) ≡ false
room_for kinds before link after room =
    elim (cases_Bool (is_router (slice_get kinds link.from))) [
      | inl router ↦
          let most = room link.from (router_is (slice_get kinds link.from) router) in
          and_right _ _ (lt-leb MOST_ROUTER_LINKS (outgoing_count (map bare before) link.from) (omega (arith, outgoing_bare before link.from, outgoing_more before link after)))
      | inr other ↦ and_left _ _ other
    ]

-- the links
pub links_stand : (ends : List ℕ) (statements : List Statement) (kinds : List NodeKind) (before after : List LinkPart) (flows : List FlowPart) (routes : List RoutePart) (number : ℕ) → number ≡ length before → Stands ends statements kinds (map bare before) flows routes → length kinds ≤ 256 → length before + length after ≤ 1024 → All (IsLinkInLimits (length kinds)) after → All (λ link. link.from ≢ link.to) after → HasRoom kinds (before ++ after) → Stands ends (statements ++ link_statements number after) kinds (map bare (before ++ after)) flows routes
links_stand ends statements kinds before [] flows routes number is was few less limits apart room =
    same_stands ends _ _ _ _ _ _ _ _ _ _ (sym (append-nil statements)) refl (ap (map bare) (sym (append-nil before))) refl refl was
links_stand ends statements kinds before (link ∷ after) flows routes number is was few less limits apart room =
    let Limits : LinkPart → Type 0 = λ l. IsLinkInLimits (length kinds) l in
    let Apart : LinkPart → Type 0 = λ l. l.from ≢ l.to in
    let s : Statement = Link (link_label number) (line_of_link link) in
    let many : number ≡ length (map bare before) = is ∙ sym (length-map before bare) in
    let here : Stands ends (statements ++ s ∷ []) kinds (map bare before ++ bare link ∷ []) flows routes = rw many (link_stands ends statements kinds (map bare before) flows routes link was (All-head Limits link after limits) few (omega arith) (All-head Apart link after apart) (room_for kinds before link after room)) in
    let next : Stands ends (statements ++ s ∷ []) kinds (map bare (before ++ link ∷ [])) flows routes = rw (map-append bare before (link ∷ [])) here in
    let still : HasRoom kinds ((before ++ link ∷ []) ++ after) = rw (append_assoc before (link ∷ []) after) room in
    let rest = links_stand ends (statements ++ s ∷ []) kinds (before ++ link ∷ []) after flows routes (number + 1) (omega (arith, length_push before link)) next few (omega (arith, length_push before link)) (All-tail Limits link after limits) (All-tail Apart link after apart) still in
    same_stands ends _ _ _ _ _ _ _ _ _ _ (append_assoc statements (s ∷ []) (link_statements (number + 1) after)) refl (ap (map bare) (append_assoc before (link ∷ []) after)) refl refl rest

-- a flow from a sender to a receiver
pub record IsFlowFine (kinds : List NodeKind) (end : ℕ) (flow : FlowPart) : Type 0 where
  pub limits : IsFlowInLimits (length kinds) end flow
  pub sender : slice_get kinds flow.sender ≡ Some Sender
  pub receiver : slice_get kinds flow.receiver ≡ Some Receiver

-- the flows
pub flows_stand : (ends : List ℕ) (statements : List Statement) (kinds : List NodeKind) (links : List LinkPart) (before after : List FlowPart) (routes : List RoutePart) (end number : ℕ) → number ≡ length before → Stands ends statements kinds links before routes → end ≤ LATEST_END → length kinds ≤ 256 → length before + length after ≤ 128 → All (IsFlowFine kinds end) after → Stands ends (statements ++ flow_statements number after) kinds links (before ++ after) routes
flows_stand ends statements kinds links before [] routes end number is was soon few less fine = same_stands ends _ _ _ _ _ _ _ _ _ _ (sym (append-nil statements)) refl refl (sym (append-nil before)) refl was
flows_stand ends statements kinds links before (flow ∷ after) routes end number is was soon few less fine =
    let Fine : FlowPart → Type 0 = λ f. IsFlowFine kinds end f in
    let s : Statement = Flow (flow_label number) flow in
    let this = All-head Fine flow after fine in
    let here : Stands ends (statements ++ s ∷ []) kinds links (before ++ flow ∷ []) routes = rw is (flow_stands ends statements kinds links before routes end flow was this.limits soon few (omega arith) this.sender this.receiver) in
    let rest = flows_stand ends (statements ++ s ∷ []) kinds links (before ++ flow ∷ []) after routes end (number + 1) (omega (arith, length_push before flow)) here soon few (omega (arith, length_push before flow)) (All-tail Fine flow after fine) in
    same_stands ends _ _ _ _ _ _ _ _ _ _ (append_assoc statements (s ∷ []) (flow_statements (number + 1) after)) refl refl (append_assoc before (flow ∷ []) after) refl rest

-- routes that rise: each before the next one
rise_before : (before : List RoutePart) (route : RoutePart) (after : List RoutePart) → AllPairs IsRouteBefore (before ++ route ∷ after) → All (λ other. IsRouteBefore other route) before
rise_before before route after rise =
    λ k d lt.
    let P : RoutePart → Type 0 = λ other. IsRouteBefore other route in
    let Q : RoutePart → Type 0 = λ last. IsRouteBefore (get_or before k d) last in
    let R : RoutePart → Type 0 = λ other. IsRouteBefore other (get_or (before ++ route ∷ after) (length before) d) in
    subst Q (get_or_at before route after d (length before) refl) (subst R (get_or_append_left before (route ∷ after) d k lt) (rise k (length before) d lt (omega (arith, length-append before (route ∷ after)))))

-- the routes
pub routes_stand : (ends : List ℕ) (statements : List Statement) (kinds : List NodeKind) (links : List LinkPart) (flows : List FlowPart) (before after : List RoutePart) → Stands ends statements kinds links flows before → length kinds ≤ 256 → length links ≤ 1024 → All (IsRouteFine kinds links) after → AllPairs IsRouteBefore (before ++ after) → Stands ends (statements ++ route_statements after) kinds links flows (before ++ after)
routes_stand ends statements kinds links flows before [] was few less fine rise = same_stands ends _ _ _ _ _ _ _ _ _ _ (sym (append-nil statements)) refl refl refl (sym (append-nil before)) was
routes_stand ends statements kinds links flows before (route ∷ after) was few less fine rise =
    let Fine : RoutePart → Type 0 = λ r. IsRouteFine kinds links r in
    let s : Statement = Route route in
    let here = route_stands ends statements kinds links flows before route was few less (All-head Fine route after fine) (rise_before before route after rise) in
    let still : AllPairs IsRouteBefore ((before ++ route ∷ []) ++ after) = rw (append_assoc before (route ∷ []) after) rise in
    let rest = routes_stand ends (statements ++ s ∷ []) kinds links flows (before ++ route ∷ []) after here few less (All-tail Fine route after fine) still in
    same_stands ends _ _ _ _ _ _ _ _ _ _ (append_assoc statements (s ∷ []) (route_statements after)) refl refl refl (append_assoc before (route ∷ []) after) rest

-- the last of rising numbers is below the next one
above_last : (before : List ℕ) (number : ℕ) (after : List ℕ) → 1 ≤ number → IsStrictlyIncreasing (before ++ number ∷ after) → least_above (last_of before) ≤ number
above_last [] number after some rise = some
above_last (first ∷ before) number after some rise =
    let xs : List ℕ = first ∷ before in
    let k : ℕ = length before in
    let last : last_of xs ≡ Some (get_or xs k 0) = ap (slice_get xs) (let place : length xs - 1 ≡ k = omega arith in place) ∙ slice_get-get_or xs k 0 (omega arith) in
    let below : get_or (xs ++ number ∷ after) k 0 < get_or (xs ++ number ∷ after) (k + 1) 0 = rise k (omega (arith, length-append xs (number ∷ after))) in
    let here : get_or (xs ++ number ∷ after) k 0 ≡ get_or xs k 0 = get_or_append_left xs (number ∷ after) 0 k (omega arith) in
    let next : get_or (xs ++ number ∷ after) (k + 1) 0 ≡ number = get_or_at xs number after 0 (k + 1) (omega arith) in
    rw last (omega arith)

-- the packets that one link loses
numbers_stand : (ends : List ℕ) (statements : List Statement) (kinds : List NodeKind) (before : List LinkPart) (link : LinkPart) (after : List LinkPart) (flows : List FlowPart) (routes : List RoutePart) (earlier later : List ℕ) (number : ℕ) → number ≡ length before → Stands ends statements kinds (before ++ with_lose link earlier ∷ after) flows routes → length (before ++ with_lose link earlier ∷ after) ≤ 1024 → length earlier + length later ≤ 64 → All (IsBetween 1 (10 ^ 9)) later → IsStrictlyIncreasing (earlier ++ later) → Stands ends (statements ++ numbers_lost number later) kinds (before ++ with_lose link (earlier ++ later) ∷ after) flows routes
numbers_stand ends statements kinds before link after flows routes earlier [] number is was less few limits rise =
    same_stands ends _ _ _ _ _ _ _ _ _ _ (sym (append-nil statements)) refl (ap (λ l. before ++ with_lose link l ∷ after) (sym (append-nil earlier))) refl refl was
numbers_stand ends statements kinds before link after flows routes earlier (lost ∷ later) number is was less few limits rise =
    let Limits : ℕ → Type 0 = λ n. IsBetween 1 (10 ^ 9) n in
    let range : IsBetween 1 (10 ^ 9) lost = All-head Limits lost later limits in
    let links : List LinkPart = before ++ with_lose link earlier ∷ after in
    let lose : LoseLine = record { link = number; number = lost } in
    let s : Statement = Lose lose in
    let within : number < length links = omega (arith, length-append before (with_lose link earlier ∷ after)) in
    let found : slice_get links number ≡ Some (with_lose link earlier) = slice_get-get_or links number link within ∙ ap (λ l. Some l) (get_or_at before (with_lose link earlier) after link number (sym is)) in
    let one = lose_stands ends statements kinds links flows routes lose (with_lose link earlier) was less within found (above_last earlier lost later range.0 rise) range.1 (omega arith) in
    let next : set links number (with_lose link (earlier ++ lost ∷ [])) ≡ before ++ with_lose link (earlier ++ lost ∷ []) ∷ after = set_at before (with_lose link earlier) after (with_lose link (earlier ++ lost ∷ [])) number (sym is) in
    let here : Stands ends (statements ++ s ∷ []) kinds (before ++ with_lose link (earlier ++ lost ∷ []) ∷ after) flows routes = same_stands ends _ _ _ _ _ _ _ _ _ _ refl refl next refl refl one in
    let same_length : length (before ++ with_lose link (earlier ++ lost ∷ []) ∷ after) ≡ length links = length-append before (with_lose link (earlier ++ lost ∷ []) ∷ after) ∙ sym (length-append before (with_lose link earlier ∷ after)) in
    let still : IsStrictlyIncreasing ((earlier ++ lost ∷ []) ++ later) = rw (append_assoc earlier (lost ∷ []) later) rise in
    let rest = numbers_stand ends (statements ++ s ∷ []) kinds before link after flows routes (earlier ++ lost ∷ []) later number is here (omega arith) (omega (arith, length_push earlier lost)) (All-tail Limits lost later limits) still in
    same_stands ends _ _ _ _ _ _ _ _ _ _ (append_assoc statements (s ∷ []) (numbers_lost number later)) refl (ap (λ l. before ++ with_lose link l ∷ after) (append_assoc earlier (lost ∷ []) later)) refl refl rest

-- the packets that all links lose
pub losses_stand : (ends : List ℕ) (statements : List Statement) (kinds : List NodeKind) (before after : List LinkPart) (flows : List FlowPart) (routes : List RoutePart) (number : ℕ) → number ≡ length before → Stands ends statements kinds (before ++ map bare after) flows routes → length before + length after ≤ 1024 → All (λ link. IsLoseInLimits link.lose) after → Stands ends (statements ++ lose_statements number after) kinds (before ++ after) flows routes
losses_stand ends statements kinds before [] flows routes number is was less limits = same_stands ends _ _ _ _ _ _ _ _ _ _ (sym (append-nil statements)) refl refl refl refl was
losses_stand ends statements kinds before (link ∷ after) flows routes number is was less limits =
    let Limits : LinkPart → Type 0 = λ l. IsLoseInLimits l.lose in
    let lose : IsLoseInLimits link.lose = All-head Limits link after limits in
    let one = numbers_stand ends statements kinds before link (map bare after) flows routes [] link.lose number is was (omega (arith, length-append before (bare link ∷ map bare after), length-map after bare)) (omega (arith, lose.lose_count)) lose.lose_range lose.lose_rises in
    let here : Stands ends (statements ++ numbers_lost number link.lose) kinds ((before ++ link ∷ []) ++ map bare after) flows routes = same_stands ends _ _ _ _ _ _ _ _ _ _ refl refl (sym (append_assoc before (link ∷ []) (map bare after))) refl refl one in
    let rest = losses_stand ends (statements ++ numbers_lost number link.lose) kinds (before ++ link ∷ []) after flows routes (number + 1) (omega (arith, length_push before link)) here (omega (arith, length_push before link)) (All-tail Limits link after limits) in
    same_stands ends _ _ _ _ _ _ _ _ _ _ (append_assoc statements (numbers_lost number link.lose) (lose_statements (number + 1) after)) refl (append_assoc before (link ∷ []) after) refl refl rest
