-- All that is declared names nodes of the right kinds, after one more statement too.
use Rattle.std.proofs.Common.{◌≡◌, ◌≢◌, ℕ, zero, suc, Bool, true, false, if◌then◌else◌, List, [], ◌∷◌, ◌++◌, set, Option, Some, None, option_map, ap, sym, ◌∙◌, refl, subst, All}
use Rattle.std.proofs.lemmas.List.Elements.{All-push, All-set, All-cons, All-head, All-tail}
use Rattle.std.proofs.lemmas.Option.{slice_get_within, get_or_from_slice_get}
use Rattle.std.specs.List.{slice_get}
use Rattle.scenario_image.specs.declared.parts.NodeKind.{NodeKind}
use Rattle.scenario_image.specs.declared.parts.NodeKind.TheVariants.{Sender, Receiver, Router}
use Rattle.scenario_image.specs.declared.parts.LinkPart.{LinkPart}
use Rattle.scenario_image.specs.declared.parts.FlowPart.{FlowPart}
use Rattle.scenario_image.specs.declared.parts.RoutePart.{RoutePart}
use Rattle.scenario_image.specs.Kinds.{HasItsKinds, HasFlowItsKinds, HasRouteItsKinds}
use Rattle.scenario_asm.specs.Lines.{Word}
use Rattle.scenario_asm.specs.Names.{Known, is_end, with_node, with_link, with_flow, known_parts}
use Rattle.scenario_asm.specs.Routes.{placed, is_before}
use Rattle.scenario_asm.specs.Right.{IsFlowOfKinds, IsRouteOfKinds, AreOfKinds}

-- what holds of the item at a place holds of it with one more item behind
behind : {X : Type 0} (P : Option X → Type 0) → (P None → ⊥) → (xs : List X) (y : X) (k : ℕ) → P (slice_get xs k) → P (slice_get (xs ++ y ∷ []) k)
behind P never [] y k holds = absurd (never holds)
behind P never (x ∷ xs) y zero holds = holds
behind P never (x ∷ xs) y (suc k) holds = behind P never xs y k holds

none_is : {X : Type 0} (x : X) → None ≡ Some x → ⊥
none_is x is = cc

false_is : false ≡ true → ⊥
false_is is = cc

-- an `All` of another fact
all_map : {X : Type 0} (P Q : X → Type 0) → ((x : X) → P x → Q x) → (xs : List X) → All P xs → All Q xs
all_map P Q more xs all = λ k d lt. more _ (all k d lt)

pub node_kinds : (known : Known) (name : Word) (kind : NodeKind) → AreOfKinds known → AreOfKinds (with_node known name kind)
node_kinds known name kind kinds =
    record {
      each_link = kinds.each_link;
      each_flow = all_map (IsFlowOfKinds known) (IsFlowOfKinds (with_node known name kind)) (λ flow right. record {
        sender = behind (λ o. o ≡ Some Sender) (none_is Sender) known.kinds kind flow.sender right.sender;
        receiver = behind (λ o. o ≡ Some Receiver) (none_is Receiver) known.kinds kind flow.receiver right.receiver;
      }) known.flows kinds.each_flow;
      each_route = all_map (IsRouteOfKinds known) (IsRouteOfKinds (with_node known name kind)) (λ route right. record {
        router = behind (λ o. o ≡ Some Router) (none_is Router) known.kinds kind route.router right.router;
        destination = behind (λ o. is_end o ≡ true) false_is known.kinds kind route.destination right.destination;
        leaves = right.leaves;
      }) known.routes kinds.each_route;
    }

pub link_kinds : (known : Known) (name : Word) (part : LinkPart) → part.from ≢ part.to → AreOfKinds known → AreOfKinds (with_link known name part)
link_kinds known name part apart kinds =
    record {
      each_link = All-push (λ link. link.from ≢ link.to) known.links part kinds.each_link apart;
      each_flow = all_map (IsFlowOfKinds known) (IsFlowOfKinds (with_link known name part)) (λ flow right. record { sender = right.sender; receiver = right.receiver }) known.flows kinds.each_flow;
      each_route = all_map (IsRouteOfKinds known) (IsRouteOfKinds (with_link known name part)) (λ route right. record {
        router = right.router;
        destination = right.destination;
        leaves = behind (λ o. option_map (λ (link : LinkPart). link.from) o ≡ Some route.router) (none_is route.router) known.links part route.link right.leaves;
      }) known.routes kinds.each_route;
    }

pub flow_kinds : (known : Known) (name : Word) (part : FlowPart) → IsFlowOfKinds known part → AreOfKinds known → AreOfKinds (with_flow known name part)
flow_kinds known name part right kinds =
    let more : Known = with_flow known name part in
    record {
      each_link = kinds.each_link;
      each_flow = All-push (IsFlowOfKinds more) known.flows part (all_map (IsFlowOfKinds known) (IsFlowOfKinds more) (λ flow is. record { sender = is.sender; receiver = is.receiver }) known.flows kinds.each_flow) (record { sender = right.sender; receiver = right.receiver });
      each_route = all_map (IsRouteOfKinds known) (IsRouteOfKinds more) (λ route is. record { router = is.router; destination = is.destination; leaves = is.leaves }) known.routes kinds.each_route;
    }

-- what holds of each route holds with one more at its place
if_all : (P : RoutePart → Type 0) (t : Bool) (xs ys : List RoutePart) → All P xs → All P ys → All P (if t then xs else ys)
if_all P true xs ys all_xs all_ys = all_xs
if_all P false xs ys all_xs all_ys = all_ys

All-placed : (P : RoutePart → Type 0) (routes : List RoutePart) (route : RoutePart) → P route → All P routes → All P (placed routes route)
All-placed P [] route one all = All-cons P route [] one all
All-placed P (r ∷ rs) route one all =
    if_all P (is_before route r) (route ∷ r ∷ rs) (r ∷ placed rs route) (All-cons P route (r ∷ rs) one all) (All-cons P r (placed rs route) (All-head P r rs all) (All-placed P rs route one (All-tail P r rs all)))

pub route_kinds : (known : Known) (route : RoutePart) → IsRouteOfKinds known route → AreOfKinds known → AreOfKinds (record known { routes = placed known.routes route })
route_kinds known route right kinds =
    let more : Known = record known { routes = placed known.routes route } in
    record {
      each_link = kinds.each_link;
      each_flow = all_map (IsFlowOfKinds known) (IsFlowOfKinds more) (λ flow is. record { sender = is.sender; receiver = is.receiver }) known.flows kinds.each_flow;
      each_route = All-placed (IsRouteOfKinds more) known.routes route (record { router = right.router; destination = right.destination; leaves = right.leaves }) (all_map (IsRouteOfKinds known) (IsRouteOfKinds more) (λ other is. record { router = is.router; destination = is.destination; leaves = is.leaves }) known.routes kinds.each_route);
    }

some_is : (a b : LinkPart) → Some a ≡ Some b → a ≡ b
some_is a b is = cc

none_not : (part : LinkPart) → None ≡ Some part → ⊥
none_not part is = cc

-- a link leaves where it did, whatever it loses
same_from : (links : List LinkPart) (place : ℕ) (part : LinkPart) (lose : List ℕ) (k : ℕ) → slice_get links place ≡ Some part → option_map (λ link. link.from) (slice_get (set links place (record part { lose = lose })) k) ≡ option_map (λ link. link.from) (slice_get links k)
same_from [] place part lose k found = absurd (none_not part found)
same_from (link ∷ links) zero part lose zero found = ap (λ l. Some l.from) (sym (some_is link part found))
same_from (link ∷ links) zero part lose (suc k) found = refl
same_from (link ∷ links) (suc place) part lose zero found = refl
same_from (link ∷ links) (suc place) part lose (suc k) found = same_from links place part lose k found

-- what holds of each link holds of the one at a place
at_place : (P : LinkPart → Type 0) (links : List LinkPart) (place : ℕ) (part : LinkPart) → slice_get links place ≡ Some part → All P links → P part
at_place P links place part found all = subst P (get_or_from_slice_get links place part part found) (all place part (slice_get_within links place part found))

pub lose_kinds : (known : Known) (place : ℕ) (part : LinkPart) (lose : List ℕ) → slice_get known.links place ≡ Some part → AreOfKinds known → AreOfKinds (record known { links = set known.links place (record part { lose = lose }) })
lose_kinds known place part lose found kinds =
    let more : Known = record known { links = set known.links place (record part { lose = lose }) } in
    record {
      each_link = All-set (λ link. link.from ≢ link.to) known.links place (record part { lose = lose }) (at_place (λ link. link.from ≢ link.to) known.links place part found kinds.each_link) kinds.each_link;
      each_flow = all_map (IsFlowOfKinds known) (IsFlowOfKinds more) (λ flow is. record { sender = is.sender; receiver = is.receiver }) known.flows kinds.each_flow;
      each_route = all_map (IsRouteOfKinds known) (IsRouteOfKinds more) (λ route is. record { router = is.router; destination = is.destination; leaves = same_from known.links place part lose route.link found ∙ is.leaves }) known.routes kinds.each_route;
    }

end_not : (o : Option NodeKind) → is_end o ≡ true → o ≡ Some Router → ⊥
end_not None is router = false_is is
end_not (Some Sender) is router = cc
end_not (Some Receiver) is router = cc
end_not (Some Router) is router = false_is is

-- what is declared has its kinds
pub has_its_kinds : (end : ℕ) (known : Known) → AreOfKinds known → HasItsKinds (known_parts end known)
has_its_kinds end known kinds =
    record {
      each_flow = all_map (IsFlowOfKinds known) (HasFlowItsKinds (known_parts end known)) (λ flow is. record { sender = is.sender; receiver = is.receiver }) known.flows kinds.each_flow;
      each_link = kinds.each_link;
      each_route = all_map (IsRouteOfKinds known) (HasRouteItsKinds (known_parts end known)) (λ route is. record { router = is.router; destination = end_not _ is.destination; leaves = is.leaves }) known.routes kinds.each_route;
    }
