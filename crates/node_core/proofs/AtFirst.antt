-- A node of a scenario, before anything is sent.
use Rattle.std.proofs.Common.{◌≡◌, ℕ, suc, ◌+◌, ◌<◌, ◌==◌, List, [], ◌∷◌, ◌++◌, length, map, replicate, get_or, set, Option, Some, None, option_to_list, refl, sym, ap, subst, ◌∙◌, arith}
use Rattle.std.specs.Prelude.{unwrap_or}
use Rattle.std.specs.List.{position}
use Rattle.std.specs.Option.{option_map, option_and_then}
use Rattle.std.proofs.lemmas.List.{length-map}
use Rattle.scenario_image.specs.declared.parts.NodeKind.{NodeKind}
use Rattle.scenario_image.specs.declared.parts.NodeKind.TheVariants.{Sender, Receiver, Router}
use Rattle.scenario_image.specs.declared.parts.FlowPart.{FlowPart}
use Rattle.scenario_image.specs.declared.parts.LinkPart.{LinkPart}
use Rattle.scenario_image.specs.declared.parts.ScenarioParts.{ScenarioParts}
use Rattle.scenario_image.specs.Scenario.{IsScenario}
use Rattle.scenario_image.specs.Paths.{route_link}
use Rattle.tournament.specs.Keyed.{apply, nothing_due}
use Rattle.node_core.specs.declared.event.Event.{Event}
use Rattle.node_core.specs.declared.event.Event.TheVariants.{Start}
use Rattle.node_core.specs.declared.role.Role.{Role}
use Rattle.node_core.specs.Timers.{numbered_key, timer_cleared, timer_set}
use Rattle.node_core.specs.Pending.{EventChange}
use Rattle.node_core.specs.Part.{LinkState}
use Rattle.node_core.specs.InStep.{flow_of, rto_deadline, delayed_of, HasItsLink, frees_of, IsInStep}
use Rattle.node_core.specs.EventQueueState.{Incoming, Owner, EventQueueState, timer_event, fresh_event_queue}
use Rattle.node_core.specs.Node.{NodeState, initial_node}
use Rattle.node_core.specs.Initial.{node_kind, initial_link, initial_links, leaving_links, coming_links, exit_to, no_flow, sends, receives, initial_role, starting_flows, start_of}
use Rattle.node_core.specs.InitialEventQueue.{numbers_of, flow_sent, flow_received, start_at, initial_event_queue}
use Rattle.node_core.proofs.Numbered.{position-map}
use Rattle.node_core.proofs.Slots.{same_event_queue}
use Rattle.node_core.proofs.OneFlow.{sent_is, sent_here, starts, few_leave, link_leaves}

-- the exit that is found among the numbers of a node's links
pub exit_is : (p : ScenarioParts) (node destination : ℕ) (leaving : List ℕ) → leaving ≡ numbers_of (leaving_links p.links node)
    → option_and_then (λ number. position (λ n. n == number) leaving) (route_link p.routes node destination) ≡ exit_to p node destination
exit_is p node destination leaving same =
    ap (λ ns. option_and_then (λ number. position (λ n. n == number) ns) (route_link p.routes node destination)) same ∙ by_number (route_link p.routes node destination)
  where
    by_number : (number : Option ℕ) → option_and_then (λ number. position (λ n. n == number) (numbers_of (leaving_links p.links node))) number ≡ option_and_then (λ number. position (λ (x : ℕ × LinkPart). x.0 == number) (leaving_links p.links node)) number
    by_number None = refl
    by_number (Some number) = position-map (λ (x : ℕ × LinkPart). x.0) (λ n. n == number) (leaving_links p.links node)

-- the roles of a sender and of a receiver
pub sender_role : (p : ScenarioParts) (node number : ℕ) (flow : FlowPart) → node_kind p node ≡ Sender → flow_sent p.flows node ≡ Some (number, flow) → sends (number, flow) ≡ initial_role p node (node_kind p node)
sender_role p node number flow kind found = ap (λ o. sends (unwrap_or o no_flow)) (sym found) ∙ ap (initial_role p node) (sym kind)

pub receiver_role : (p : ScenarioParts) (node number : ℕ) (flow : FlowPart) → node_kind p node ≡ Receiver → flow_received p.flows node ≡ Some (number, flow) → receives (number, flow) ≡ initial_role p node (node_kind p node)
receiver_role p node number flow kind found = ap (λ o. receives (unwrap_or o no_flow)) (sym found) ∙ ap (initial_role p node) (sym kind)

-- the timers of an event queue in which nothing is set
unset : (n m : ℕ) → n ≡ m → replicate {A = Option ℕ} (3 + n) None ≡ None ∷ None ∷ None ∷ replicate m None
unset n m same = let number : 3 + n ≡ suc (suc (suc m)) = omega (arith, same) in ap (λ k. replicate {A = Option ℕ} k None) number

-- what comes over links, by their numbers
over : (xs : List (ℕ × LinkPart)) → map {B = Incoming} (λ (link : ℕ). record { link = link; came = 0 }) (numbers_of xs) ≡ map {B = Incoming} (λ (x : ℕ × LinkPart). record { link = x.0; came = 0 }) xs
over [] = refl
over (x ∷ xs) = ap (λ (rest : List Incoming). record { link = x.0; came = 0 } ∷ rest) (over xs)

-- links are free, and have their numbers
all_free : (xs : List (ℕ × LinkPart)) → replicate {A = Option ℕ} (length xs) None ≡ frees_of (map initial_link xs)
all_free [] = refl
all_free (x ∷ xs) = ap (λ (rest : List (Option ℕ)). None ∷ rest) (all_free xs)

all_numbered : (xs : List (ℕ × LinkPart)) → numbers_of xs ≡ map (λ (link : LinkState). link.port.link) (map initial_link xs)
all_numbered [] = refl
all_numbered (x ∷ xs) = ap (λ rest. x.0 ∷ rest) (all_numbered xs)

no_deadline : (p : ScenarioParts) (node : ℕ) (kind : NodeKind) → None ≡ rto_deadline (initial_role p node kind)
no_deadline p node Sender = refl
no_deadline p node Receiver = refl
no_deadline p node Router = refl

no_delay : (p : ScenarioParts) (node : ℕ) (kind : NodeKind) → None ≡ delayed_of (initial_role p node kind)
no_delay p node Sender = refl
no_delay p node Receiver = refl
no_delay p node Router = refl

-- the start of a flow at a node
abbrev started : ℕ → ℕ → ℕ → List EventChange
started node time flow = (numbered_key node 0 time, Some (Start flow)) ∷ []

-- an event queue whose flow's start is set
abbrev pub with_start : EventQueueState → Option ℕ → EventQueueState
with_start event_queue start = record event_queue {
  timers = set event_queue.timers 0 start;
  pending = apply (timer_cleared (numbered_key event_queue.owner.node 0) (get_or event_queue.timers 0 None) ++ timer_set (numbered_key event_queue.owner.node 0) (timer_event event_queue.owner 0) start) event_queue.pending;
}

pub same_owner : {node flow flow' : ℕ} {exits exits' : List ℕ} → flow ≡ flow' → exits ≡ exits' → ◌≡◌ {A = Owner} (record { node = node; flow = flow; exits = exits }) (record { node = node; flow = flow'; exits = exits' })
same_owner {node = node} e f i = record { node = node; flow = e i; exits = f i }

sender_no_router : Sender ≡ Router → ⊥
sender_no_router e = cc

receiver_no_router : Receiver ≡ Router → ⊥
receiver_no_router e = cc

module _ (p : ScenarioParts) (is : IsScenario p) (node : ℕ) (under : node < length p.nodes) where
  abbrev owner : Owner
  owner = record { node = node; flow = flow_of (initial_role p node (node_kind p node)); exits = numbers_of (leaving_links p.links node) }

  -- the start of a node's flow, as a timer and as the definition has it
  start_set : (flow : Option (ℕ × FlowPart)) → flow_sent p.flows node ≡ flow
      → timer_set (numbered_key node 0) (timer_event owner 0) (option_map (λ (x : ℕ × FlowPart). x.1.start) flow) ≡ map start_of (option_to_list flow)
  start_set None found = refl
  start_set (Some x) found =
      let number : flow_of (initial_role p node (node_kind p node)) ≡ x.0 = ap (λ r. flow_of r) (sym (sender_role p node x.0 x.1 (sent_is p is node under x.0 x.1 found).is_kind found)) in
      ap (λ n. started node x.1.start n) number ∙ ap (λ n. started n x.1.start x.0) (sym (sent_here p is node under x.0 x.1 found))

  -- nothing but the start is pending
  pub opened_event_queue : (coming : List ℕ) (start : Option ℕ) → coming ≡ numbers_of (coming_links p.links node) → start ≡ start_at p.flows node → with_start (fresh_event_queue owner coming) start ≡ initial_event_queue p node
  opened_event_queue coming start comes starts_so = same (unset (length (numbers_of (leaving_links p.links node))) (length (leaving_links p.links node)) (length-map (leaving_links p.links node) (λ (x : ℕ × LinkPart). x.0)))
    where
      changes : (timers : List (Option ℕ)) → timers ≡ None ∷ None ∷ None ∷ replicate (length (leaving_links p.links node)) None
          → timer_cleared (numbered_key node 0) (get_or timers 0 None) ++ timer_set (numbered_key node 0) (timer_event owner 0) start ≡ map start_of (starting_flows p.flows node)
      changes timers are =
          ap (λ (timers : List (Option ℕ)). timer_cleared (numbered_key node 0) (get_or timers 0 None) ++ timer_set (numbered_key node 0) (timer_event owner 0) start) are
          ∙ ap (timer_set (numbered_key node 0) (timer_event owner 0)) starts_so ∙ start_set (flow_sent p.flows node) refl ∙ ap (map start_of) (sym (starts p is node under))

      same : replicate {A = Option ℕ} (3 + length (numbers_of (leaving_links p.links node))) None ≡ None ∷ None ∷ None ∷ replicate {A = Option ℕ} (length (leaving_links p.links node)) None → with_start (fresh_event_queue owner coming) start ≡ initial_event_queue p node
      same are =
          same_event_queue owner (ap (λ (timers : List (Option ℕ)). set timers 0 start) are ∙ ap (λ (s : Option ℕ). s ∷ None ∷ None ∷ replicate (length (leaving_links p.links node)) None) starts_so)
          (ap (map {B = Incoming} (λ (link : ℕ). record { link = link; came = 0 })) comes ∙ over (coming_links p.links node))
          (ap (λ cs. apply cs (nothing_due Event)) (changes (replicate (3 + length (numbers_of (leaving_links p.links node))) None) are))

  -- the timers are those of the node's role and links
  pub opened_in_step : IsInStep (initial_role p node (node_kind p node)) (initial_links p.links node) (initial_event_queue p node)
  opened_in_step = record {
    timers = ap (λ (d : Option ℕ). start_at p.flows node ∷ d ∷ None ∷ replicate (length (leaving_links p.links node)) None) (no_deadline p node (node_kind p node))
        ∙ ap (λ (d : Option ℕ). start_at p.flows node ∷ rto_deadline (initial_role p node (node_kind p node)) ∷ d ∷ replicate (length (leaving_links p.links node)) None) (no_delay p node (node_kind p node))
        ∙ ap (λ (ds : List (Option ℕ)). start_at p.flows node ∷ rto_deadline (initial_role p node (node_kind p node)) ∷ delayed_of (initial_role p node (node_kind p node)) ∷ ds) (all_free (leaving_links p.links node));
    exits = all_numbered (leaving_links p.links node);
    flow = refl;
    linked = has_link (node_kind p node) refl;
    few = (let count = length-map (leaving_links p.links node) initial_link in let most = few_leave p is node under in omega (arith, count, most));
  }
    where
      has_link : (kind : NodeKind) → node_kind p node ≡ kind → HasItsLink (initial_role p node kind) (initial_links p.links node)
      has_link Sender kind = (let count = length-map (leaving_links p.links node) initial_link in let some = link_leaves p is node under (λ e. sender_no_router (sym kind ∙ e)) in omega (arith, count, some))
      has_link Receiver kind = (let count = length-map (leaving_links p.links node) initial_link in let some = link_leaves p is node under (λ e. receiver_no_router (sym kind ∙ e)) in omega (arith, count, some))
      has_link Router kind = tt

  pub in_step_at_first : (role : Role) (links : List LinkState) (event_queue : EventQueueState) → role ≡ initial_role p node (node_kind p node) → links ≡ initial_links p.links node → event_queue ≡ initial_event_queue p node → IsInStep role links event_queue
  in_step_at_first role links event_queue e f g =
      subst (λ (r : Role). IsInStep r links event_queue) (sym e)
      (subst (λ (ls : List LinkState). IsInStep (initial_role p node (node_kind p node)) ls event_queue) (sym f)
      (subst (IsInStep (initial_role p node (node_kind p node)) (initial_links p.links node)) (sym g) opened_in_step))

  pub opened_node : (role : Role) (links : List LinkState) (event_queue : EventQueueState) → role ≡ initial_role p node (node_kind p node) → links ≡ initial_links p.links node → event_queue ≡ initial_event_queue p node
      → ◌≡◌ {A = NodeState} (record { number = event_queue.owner.node; part = record { role = role; links = links }; incoming = event_queue.incoming; pending = event_queue.pending }) (initial_node p (node, node_kind p node))
  opened_node role links event_queue e f g i = record { number = (g i).owner.node; part = record { role = e i; links = f i }; incoming = (g i).incoming; pending = (g i).pending }
