-- The flow and the links of a node of a scenario.
use Rattle.std.proofs.Common.{◌≡◌, ◌≢◌, ℕ, ◌<◌, ◌≤◌, ◌==◌, ◌||◌, Bool, true, false, length, get_or, Some, All, IsSome, option_to_list, refl, sym, ap, subst, ◌∙◌, arith, List}
use Rattle.std.specs.List.{slice_get, enumerate_from}
use Rattle.std.proofs.lemmas.Bool.{eqb-true, ne_eqb}
use Rattle.std.proofs.lemmas.List.{get_or_default, length-map}
use Rattle.std.proofs.lemmas.List.Sums.{count_by-le-length}
use Rattle.std.proofs.lemmas.Option.{slice_get-get_or, get_or_from_slice_get}
use Rattle.scenario_image.specs.declared.parts.NodeKind.{NodeKind}
use Rattle.scenario_image.specs.declared.parts.NodeKind.TheVariants.{Sender, Receiver, Router}
use Rattle.scenario_image.specs.declared.parts.FlowPart.{FlowPart}
use Rattle.scenario_image.specs.declared.parts.LinkPart.{LinkPart}
use Rattle.scenario_image.specs.declared.parts.ScenarioParts.{ScenarioParts}
use Rattle.scenario_image.specs.Ends.{leaves, names, HasItsLinks}
use Rattle.scenario_image.specs.Kinds.{IsNode}
use Rattle.scenario_image.specs.FlowLimits.{IsFlowInLimits}
use Rattle.scenario_image.specs.Scenario.{IsScenario}
use Rattle.scenario_image.specs.Settings.{sender_settings}
use Rattle.reno_sender.specs.Laws.{IsFlow}
use Rattle.node_core.specs.Initial.{node_kind, leaving_links, starting_flows}
use Rattle.node_core.specs.InitialEventQueue.{numbers_of, flow_sent, flow_received}
use Rattle.node_core.proofs.Numbered.{passing, passing_count, none_passes, found_holds, only_found, found_some, same_count}

-- a flow of a scenario that a node sends or receives, which is of a kind
pub record IsFlowOf (p : ScenarioParts) (node : ℕ) (kind : NodeKind) (flow : FlowPart) : Type 0 where
  pub limits : IsFlowInLimits (length p.nodes) p.end flow
  pub is_kind : node_kind p node ≡ kind

-- the settings of a flow are those that a sender can have
pub sender_limits : (nodes end : ℕ) (flow : FlowPart) → IsFlowInLimits nodes end flow → IsFlow (sender_settings flow)
sender_limits nodes end flow limits = record {
  mss_least = limits.mss_range.0;
  mss_most = limits.mss_range.1;
  segments_least = limits.segments_range.0;
  segments_most = (let most = limits.segments_range.1 in omega (arith, most));
  rwnd_least = limits.rwnd_range.0;
  rwnd_most = (let most = limits.rwnd_range.1 in omega (arith, most));
}

-- a node's kind, read at any default
pub kind_read : (p : ScenarioParts) (node at : ℕ) (nodes : List NodeKind) (default kind : NodeKind) → nodes ≡ p.nodes → at ≡ node → node < length p.nodes → get_or nodes at default ≡ kind → node_kind p node ≡ kind
kind_read p node at nodes default kind same here under is =
    get_or_default p.nodes node Router default under ∙ ap (λ (ns : List NodeKind). get_or ns node default) (sym same) ∙ ap (λ i. get_or nodes i default) (sym here) ∙ is

only_left : (a b : Bool) → b ≡ false → (a || b) ≡ a
only_left true b no' = refl
only_left false b no' = no'

only_right : (a b : Bool) → a ≡ false → (a || b) ≡ b
only_right a b no' = ap (λ x. x || b) no'

sender_is_none : Sender ≡ Receiver → ⊥
sender_is_none e = cc

router_is_none : Router ≡ Sender → ⊥
router_is_none e = cc

module _ (p : ScenarioParts) (is : IsScenario p) (node : ℕ) (under : node < length p.nodes) where
  there : slice_get p.nodes node ≡ Some (node_kind p node)
  there = slice_get-get_or p.nodes node Router under

  ends : HasItsLinks p node (node_kind p node)
  ends = is.ends node (node_kind p node) there

  -- a node that is named as one kind is of that kind
  kind_of : (other : ℕ) (kind : NodeKind) → IsNode p kind other → other ≡ node → node_kind p node ≡ kind
  kind_of other kind named same = get_or_from_slice_get p.nodes node kind Router (ap (slice_get p.nodes) (sym same) ∙ named)

  no_sender : node_kind p node ≢ Sender → All (λ (f : FlowPart). (f.sender == node) ≡ false) p.flows
  no_sender other k d within = ne_eqb (get_or p.flows k d).sender node (λ same. other (kind_of (get_or p.flows k d).sender Sender (is.kinds.each_flow k d within).sender same))

  no_receiver : node_kind p node ≢ Receiver → All (λ (f : FlowPart). (f.receiver == node) ≡ false) p.flows
  no_receiver other k d within = ne_eqb (get_or p.flows k d).receiver node (λ same. other (kind_of (get_or p.flows k d).receiver Receiver (is.kinds.each_flow k d within).receiver same))

  sends_one : node_kind p node ≡ Sender → length (starting_flows p.flows node) ≡ 1
  sends_one kind =
      passing_count (λ (f : FlowPart). f.sender == node) 0 p.flows
      ∙ sym (same_count (names node) (λ (f : FlowPart). f.sender == node) p.flows (λ k d within. only_left ((get_or p.flows k d).sender == node) ((get_or p.flows k d).receiver == node) (no_receiver (λ e. sender_is_none (sym kind ∙ e)) k d within)))
      ∙ (subst (HasItsLinks p node) kind ends).0

  receives_one : node_kind p node ≡ Receiver → length (passing (λ (f : FlowPart). f.receiver == node) 0 p.flows) ≡ 1
  receives_one kind =
      passing_count (λ (f : FlowPart). f.receiver == node) 0 p.flows
      ∙ sym (same_count (names node) (λ (f : FlowPart). f.receiver == node) p.flows (λ k d within. only_right ((get_or p.flows k d).sender == node) ((get_or p.flows k d).receiver == node) (no_sender (λ e. sender_is_none (sym e ∙ kind)) k d within)))
      ∙ (subst (HasItsLinks p node) kind ends).0

  -- a sender has its flow, and a receiver too
  pub sender_finds : node_kind p node ≡ Sender → IsSome (flow_sent p.flows node)
  sender_finds kind = found_some (λ (x : ℕ × FlowPart). x.1.sender == node) (enumerate_from 0 p.flows) (let one = sends_one kind in omega (arith, one))

  pub receiver_finds : node_kind p node ≡ Receiver → IsSome (flow_received p.flows node)
  receiver_finds kind = found_some (λ (x : ℕ × FlowPart). x.1.receiver == node) (enumerate_from 0 p.flows) (let one = receives_one kind in omega (arith, one))

  pub sent_is : (number : ℕ) (flow : FlowPart) → flow_sent p.flows node ≡ Some (number, flow) → IsFlowOf p node Sender flow
  sent_is number flow found =
      let held = found_holds (λ (f : FlowPart). f.sender == node) (λ (f : FlowPart). IsFlowInLimits (length p.nodes) p.end f × IsNode p Sender f.sender) 0 p.flows number flow found (λ k d within. (is.in_limits.each_flow k d within, (is.kinds.each_flow k d within).sender)) in
      record { limits = held.0.0; is_kind = kind_of flow.sender Sender held.0.1 (eqb-true flow.sender node held.1) }

  pub sent_here : (number : ℕ) (flow : FlowPart) → flow_sent p.flows node ≡ Some (number, flow) → flow.sender ≡ node
  sent_here number flow found = eqb-true flow.sender node (found_holds (λ (f : FlowPart). f.sender == node) (λ (f : FlowPart). Unit {0}) 0 p.flows number flow found (λ k d within. tt)).1

  pub received_is : (number : ℕ) (flow : FlowPart) → flow_received p.flows node ≡ Some (number, flow) → IsFlowOf p node Receiver flow
  received_is number flow found =
      let held = found_holds (λ (f : FlowPart). f.receiver == node) (λ (f : FlowPart). IsFlowInLimits (length p.nodes) p.end f × IsNode p Receiver f.receiver) 0 p.flows number flow found (λ k d within. (is.in_limits.each_flow k d within, (is.kinds.each_flow k d within).receiver)) in
      record { limits = held.0.0; is_kind = kind_of flow.receiver Receiver held.0.1 (eqb-true flow.receiver node held.1) }

  -- the flow that a node sends is the only one that starts there
  pub starts : starting_flows p.flows node ≡ option_to_list (flow_sent p.flows node)
  starts = only_found (λ (x : ℕ × FlowPart). x.1.sender == node) (enumerate_from 0 p.flows) (at_most (node_kind p node) refl)
    where
      at_most : (kind : NodeKind) → node_kind p node ≡ kind → length (starting_flows p.flows node) ≤ 1
      at_most Sender kind = (let one = sends_one kind in omega (arith, one))
      at_most Receiver kind = (let none = ap length (none_passes (λ (f : FlowPart). f.sender == node) 0 p.flows (no_sender (λ e. sender_is_none (sym e ∙ kind)))) in omega (arith, none))
      at_most Router kind = (let none = ap length (none_passes (λ (f : FlowPart). f.sender == node) 0 p.flows (no_sender (λ e. router_is_none (sym kind ∙ e)))) in omega (arith, none))

  -- a node has few links, and a sender or a receiver has one
  pub few_leave : length (leaving_links p.links node) ≤ 1024
  few_leave =
      let count = passing_count (leaves node) 0 p.links in
      let most = count_by-le-length (leaves node) p.links in
      let links = is.in_limits.counts.link_count.1 in
      omega (arith, count, most, links)

  pub few_numbers : (links : List LinkPart) (numbers : List ℕ) → links ≡ p.links → numbers ≡ numbers_of (leaving_links links node) → length numbers ≤ 1024
  few_numbers links numbers same are =
      let count : length numbers ≡ length (leaving_links p.links node) = ap length (are ∙ ap (λ (ls : List LinkPart). numbers_of (leaving_links ls node)) same) ∙ length-map (leaving_links p.links node) (λ (x : ℕ × LinkPart). x.0) in
      omega (arith, count, few_leave)

  pub link_leaves : node_kind p node ≢ Router → 0 < length (leaving_links p.links node)
  link_leaves other = at_least (node_kind p node) refl
    where
      at_least : (kind : NodeKind) → node_kind p node ≡ kind → 0 < length (leaving_links p.links node)
      at_least Sender kind = (let count = passing_count (leaves node) 0 p.links in let one = (subst (HasItsLinks p node) kind ends).1 in omega (arith, count, one))
      at_least Receiver kind = (let count = passing_count (leaves node) 0 p.links in let one = (subst (HasItsLinks p node) kind ends).1 in omega (arith, count, one))
      at_least Router kind = absurd (other kind)
