-- The first window of a net.
use Rattle.std.proofs.Common.{◌≡◌, ◌<◌, ℕ, suc, List, [], ◌∷◌, length, true, ◌&&◌, sym, ap, subst, ◌∙◌, arith, refl}
use Rattle.node_core.specs.EventQueueState.{incoming_at}
use Rattle.node_core.specs.Node.{NodeState}
use Rattle.node_core.specs.WireState.{WireState}
use Rattle.node_core.specs.TraceLine.{TraceLine}
use Rattle.scenario_image.specs.declared.parts.LinkPart.{LinkPart}
use Rattle.net_machine.specs.declared.places.LinkEnds.{LinkEnds}
use Rattle.net_machine.specs.NetOf.{AreNetParts}
use Rattle.net_machine.specs.Nodes.{node_at, net_state}
use Rattle.net_machine.specs.Wiring.{AreEnds, ends_at, place_at}
use Rattle.window_law.specs.Calls.{IsOpenFrom}
use Rattle.node_group.specs.Group.{GroupValue, state_of}
use Rattle.window_law.specs.Lookahead.{lookahead}
use Rattle.window_core.specs.Initial.{IsFirstWindow}
use Rattle.net_partition.specs.Partition.{group_in, groups_of}
use Rattle.node_group.specs.Seats.{seated}
use Rattle.node_group.specs.GroupStates.{IsGroupStateOf}
use Rattle.window_core.specs.Window.{WindowValue, value_at, states_of, setting_in, IsSplit, IsFrom}
use Rattle.window_law.specs.Windows.{Setting, setting_of, window_end, none_fired, is_empty}
use Rattle.window_law.proofs.Calls.{opens}
use Rattle.window_law.proofs.EveryRun.{same_end}
use Rattle.window_core.proofs.HoldsNet.{HoldsPart, group_state_holds, all_stand}
use Rattle.node_group.proofs.OfNet.{mine}
use Rattle.window_core.proofs.Windowed.{state_at, length_states, group_below}

-- a group state in all its fields
group_state_is : (entries : List ℕ) (links : List LinkEnds) (nodes : List NodeState) (until position number : ℕ) (g : GroupValue) → IsGroupStateOf entries links nodes until position number g
    → g ≡ record { number = number; entries = entries; links = links; seats = g.seats; held = g.held; lines = []; until = until; position = position }
group_state_is entries links nodes until position number g is =
    λ i. record { number = is.number_is i; entries = is.entries_are i; links = is.links_are i; seats = g.seats; held = g.held; lines = is.no_lines i; until = is.until_is i; position = is.position_is i }

none_of : (groups : List GroupValue) → ((h : ℕ) → h < length groups → (value_at groups h).lines ≡ []) → none_fired (states_of groups) ≡ true
none_of [] none = refl
none_of (g ∷ groups) none =
    ap (λ (ls : List TraceLine). is_empty ls && none_fired (states_of groups)) (none 0 (omega arith))
    ∙ none_of groups (λ h under. none (suc h) (omega (arith, under)))

module _ (nodes : List NodeState) (v : WindowValue) (net : AreNetParts nodes v.links v.end v.position) (size : length v.entries ≡ length nodes) (count : length v.groups ≡ groups_of v.entries)
    (group_states : (h : ℕ) → h < length v.groups → IsGroupStateOf v.entries v.links nodes v.until v.position h (value_at v.groups h))
    (leaves : (link : ℕ) → link < length v.links → (ends_at v.links link).from < length v.entries) (comes : (link : ℕ) → link < length v.links → (place_at v.links link).node < length v.entries) where
  in_range : (node : ℕ) → group_in v.entries node < length v.groups
  in_range node = let below = group_below v.entries node in omega (arith, below, count)

  pub split_opened : IsSplit v
  split_opened = record {
    count = count;
    parts = λ h under.
        let is = group_states h under in
        record { number_is = is.number_is; entries_are = is.entries_are; links_are = is.links_are; until_is = is.until_is; position_is = is.position_is };
    known = λ link under. record { from = leaves link under; to = comes link under };
    across = λ link under off.
        let to = in_range (place_at v.links link).node in
        let from = in_range (ends_at v.links link).from in
        let t = group_in v.entries (place_at v.links link).node in
        let f = group_in v.entries (ends_at v.links link).from in
        let its : (value_at v.groups t).links ≡ v.links = (group_states t to).links_are in
        ap (λ (links : List LinkEnds). (incoming_at (node_at (seated (value_at v.groups t).seats) (place_at links link).node).incoming (place_at links link).index).came) its
        ∙ ap (λ (n : NodeState). (incoming_at n.incoming (place_at v.links link).index).came) (mine v.entries t nodes (value_at v.groups t).seats (group_states t to).seats (place_at v.links link).node (comes link under) refl)
        ∙ sym (ap (λ (w : WireState). w.taken) ((group_states f from).wires.each_wire link under));
    fits = net.run.position_fits;
  }

  module _ (ahead_is : (parts : List LinkPart) → AreEnds parts v.links → v.ahead ≡ lookahead (group_in v.entries) parts) (until_is : v.until ≡ window_end (setting_in v) (states_of v.groups)) where
    pub from_opened : IsFrom (net_state nodes v.end) v
    from_opened =
        let p = net.run.scenario in
        let x = setting_of (group_in v.entries) p in
        let end_is : v.end ≡ p.end = same_end p v.position net.run.lines (net_state nodes v.end) net.run.is in
        let same : setting_in v ≡ x = λ i. record { group = group_in v.entries; ahead = ahead_is p.links net.links_are i; end = end_is i } in
        let states = length_states v.groups in
        let stand = all_stand (group_in v.entries) (net_state nodes v.end) (states_of v.groups) (λ node. let here = in_range node in omega (arith, here, states))
        (λ h under.
        let here : h < length v.groups = omega (arith, under, states) in
        let group_state = group_states h here in
        subst (HoldsPart (group_in v.entries) (net_state nodes v.end) h) (ap state_of (sym (group_state_is v.entries v.links nodes v.until v.position h (value_at v.groups h) group_state)) ∙ sym (state_at v.groups h here))
        (group_state_holds nodes v.links v.end v.position net.placed v.entries size h v.until (value_at v.groups h).seats (value_at v.groups h).held group_state.seats group_state.wires)) in
        record {
          scenario = p;
          before = net.run.lines;
          in_run = record {
            is_scenario = net.run.is_scenario;
            comes = net.run.is;
            is_open = subst (λ (until : ℕ). IsOpenFrom x (net_state nodes v.end) record { groups = states_of v.groups; until = until }) (sym (until_is ∙ ap (λ (y : Setting). window_end y (states_of v.groups)) same)) (opens x (net_state nodes v.end) (states_of v.groups) stand);
          };
          links_are = net.links_are;
          ahead_is = ahead_is p.links net.links_are;
          end_is = end_is;
        }

    pub first_opened : IsFirstWindow nodes v.links v.end v
    first_opened = record {
      from = from_opened;
      end_is = refl;
      unfired = none_of v.groups (λ h under. (group_states h under).no_lines);
      until_is = until_is;
      ahead_is = ahead_is;
    }
