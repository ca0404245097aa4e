-- A draft after one more statement.
use Rattle.std.proofs.Common.{◌≡◌, ℕ, List, [], ◌∷◌, ◌++◌, set, Some, None, refl, sym, ap, ◌∙◌, subst}
use Rattle.std.specs.List.{filter_map, slice_get}
use Rattle.scenario_image.specs.declared.parts.NodeKind.{NodeKind}
use Rattle.scenario_image.specs.declared.parts.LinkPart.{LinkPart}
use Rattle.scenario_image.specs.declared.parts.FlowPart.{FlowPart}
use Rattle.scenario_image.specs.declared.parts.RoutePart.{RoutePart}
use Rattle.scenario_asm.specs.declared.draft.Draft.{Draft}
use Rattle.scenario_asm.specs.declared.statement.LinkLine.{LinkLine}
use Rattle.scenario_asm.specs.declared.statement.LoseLine.{LoseLine}
use Rattle.scenario_asm.specs.declared.statement.Statement.{Statement}
use Rattle.scenario_asm.specs.declared.statement.Statement.TheVariants.{Sim, Node, Link, Flow, Route, Lose}
use Rattle.scenario_asm.specs.Draft.{HasTheseEnds, Holds}
use Rattle.scenario_asm.specs.Right.{AreOfKinds, IsFlowOfKinds, IsRouteOfKinds, IsNodeRight, IsLinkRight, IsFlowRight, IsRouteRight}
use Rattle.scenario_asm.specs.Lines.{Word}
use Rattle.scenario_asm.specs.Names.{Known, is_taken, with_node, with_link, with_flow}
use Rattle.scenario_asm.specs.Routes.{placed}
use Rattle.scenario_asm.specs.Table.{known_in}
use Rattle.scenario_asm.specs.Text.{said_end, losing_link_part, links_of, known_of}
use Rattle.scenario_asm.proofs.Holds.{sim_known, node_known, link_known, flow_known, route_known, lose_known, still_lost, link_lost, lose_lost, lose_declared, same_ends, more_ends}
use Rattle.scenario_asm.proofs.OfKinds.{node_kinds, link_kinds, flow_kinds, route_kinds, lose_kinds}

kinds_of : (known next : Known) → known ≡ next → AreOfKinds known → AreOfKinds next
kinds_of known next is kinds = subst AreOfKinds is kinds

ends_kept : (old new : Draft) (statements : List Statement) (s : Statement) → said_end s ≡ None → new.ends ≡ old.ends → HasTheseEnds old.ends (filter_map said_end statements) → HasTheseEnds new.ends (filter_map said_end (statements ++ s ∷ []))
ends_kept old new statements s none same ends = rw (same, ← same_ends statements s none) ends

pub sim_added : (old new : Draft) (statements : List Statement) (end : ℕ) → Holds old statements → ((ends : List ℕ) → HasTheseEnds old.ends ends → HasTheseEnds new.ends (ends ++ end ∷ [])) → known_in new.table ≡ known_in old.table → Holds new (statements ++ Sim end ∷ [])
sim_added old new statements end held ends same =
    record {
      ends = rw (← more_ends statements (Sim end) end refl) (ends _ held.ends);
      known = same ∙ (held.known ∙ sim_known statements end);
      kinds = kinds_of _ _ (sim_known statements end) held.kinds;
      lost = still_lost statements (Sim end) refl (λ k. refl) held.lost;
    }

pub node_added : (old new : Draft) (statements : List Statement) (name : Word) (kind : NodeKind) → Holds old statements → IsNodeRight (known_in old.table) name → new.ends ≡ old.ends → known_in new.table ≡ with_node (known_in old.table) name kind → Holds new (statements ++ Node name kind ∷ [])
node_added old new statements name kind held right same is =
    let free = ap (λ known. is_taken known name) (sym held.known) ∙ right.free in
    let next = node_known statements name kind free in
    record {
      ends = ends_kept old new statements (Node name kind) refl same held.ends;
      known = is ∙ (ap (λ known. with_node known name kind) held.known ∙ next);
      kinds = kinds_of _ _ next (node_kinds (known_of statements) name kind held.kinds);
      lost = still_lost statements (Node name kind) refl (λ k. refl) held.lost;
    }

pub link_added : (old new : Draft) (statements : List Statement) (name : Word) (line : LinkLine) → Holds old statements → IsLinkRight (known_in old.table) name line → new.ends ≡ old.ends → known_in new.table ≡ with_link (known_in old.table) name (losing_link_part line []) → Holds new (statements ++ Link name line ∷ [])
link_added old new statements name line held right same is =
    let free = ap (λ known. is_taken known name) (sym held.known) ∙ right.free in
    let next = link_known statements name line free held.lost in
    record {
      ends = ends_kept old new statements (Link name line) refl same held.ends;
      known = is ∙ (ap (λ known. with_link known name (losing_link_part line [])) held.known ∙ next);
      kinds = kinds_of _ _ next (link_kinds (known_of statements) name (losing_link_part line []) right.apart held.kinds);
      lost = link_lost statements name line held.lost;
    }

pub flow_added : (old new : Draft) (statements : List Statement) (name : Word) (part : FlowPart) → Holds old statements → IsFlowRight (known_in old.table) name part → new.ends ≡ old.ends → known_in new.table ≡ with_flow (known_in old.table) name part → Holds new (statements ++ Flow name part ∷ [])
flow_added old new statements name part held right same is =
    let free = ap (λ known. is_taken known name) (sym held.known) ∙ right.free in
    let next = flow_known statements name part free in
    record {
      ends = ends_kept old new statements (Flow name part) refl same held.ends;
      known = is ∙ (ap (λ known. with_flow known name part) held.known ∙ next);
      kinds = kinds_of _ _ next (flow_kinds (known_of statements) name part (let P : Known → Type 0 = λ known. IsFlowOfKinds known part in subst P held.known right.kinds) held.kinds);
      lost = still_lost statements (Flow name part) refl (λ k. refl) held.lost;
    }

pub route_added : (old new : Draft) (statements : List Statement) (route : RoutePart) → Holds old statements → IsRouteRight (known_in old.table) route → new.ends ≡ old.ends → known_in new.table ≡ record (known_in old.table) { routes = placed (known_in old.table).routes route } → Holds new (statements ++ Route route ∷ [])
route_added old new statements route held right same is =
    let next = route_known statements route in
    record {
      ends = ends_kept old new statements (Route route) refl same held.ends;
      known = is ∙ (ap {A = Known} (λ known. record known { routes = placed known.routes route }) held.known ∙ next);
      kinds = kinds_of _ _ next (route_kinds (known_of statements) route (let P : Known → Type 0 = λ known. IsRouteOfKinds known route in subst P held.known right.kinds) held.kinds);
      lost = still_lost statements (Route route) refl (λ k. refl) held.lost;
    }

pub lose_added : (old new : Draft) (statements : List Statement) (lose : LoseLine) (part : LinkPart) → Holds old statements → slice_get (known_in old.table).links lose.link ≡ Some part → new.ends ≡ old.ends → known_in new.table ≡ record (known_in old.table) { links = set (known_in old.table).links lose.link (record part { lose = part.lose ++ lose.number ∷ [] }) } → Holds new (statements ++ Lose lose ∷ [])
lose_added old new statements lose part held found same is =
    let there : slice_get (links_of statements) lose.link ≡ Some part = ap (λ known. slice_get known.links lose.link) (sym held.known) ∙ found in
    let next = lose_known statements lose part there in
    record {
      ends = ends_kept old new statements (Lose lose) refl same held.ends;
      known = is ∙ (ap {A = Known} (λ known. record known { links = set known.links lose.link (record part { lose = part.lose ++ lose.number ∷ [] }) }) held.known ∙ next);
      kinds = kinds_of _ _ next (lose_kinds (known_of statements) lose.link part (part.lose ++ lose.number ∷ []) there held.kinds);
      lost = lose_lost statements lose (lose_declared statements lose.link part there) held.lost;
    }
