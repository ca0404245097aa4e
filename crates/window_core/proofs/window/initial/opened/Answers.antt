use Rattle.std.proofs.Common.{◌≡◌, ◌<◌, ℕ, List, length, map, get_or, false, Option, refl, sym, ap, subst, ◌∙◌, arith}
use Rattle.std.proofs.lemmas.List.{with_items_is, length-map, get_or_default}
use Rattle.std.specs.Vec.{with_items}
use Rattle.node_core.specs.Node.{NodeState}
use Rattle.scenario_image.specs.declared.parts.LinkPart.{LinkPart}
use Rattle.net_machine.specs.declared.places.LinkEnds.{LinkEnds}
use Rattle.net_machine.specs.NetOf.{AreNetParts}
use Rattle.net_machine.specs.Nodes.{net_state}
use Rattle.net_machine.specs.Wiring.{AreEnds, no_ends, ends_at, place_at}
use Rattle.node_group.specs.Group.{GroupValue}
use Rattle.window_law.specs.Lookahead.{lookahead}
use Rattle.window_core.specs.Initial.{IsFirstWindow}
use Rattle.net_partition.specs.Partition.{group_in, groups_of}
use Rattle.window_core.specs.GroupTables.{GroupTableValue}
use Rattle.node_group.specs.GroupStates.{AreGroupStatesOf, IsGroupStateOf}
use Rattle.window_core.specs.Window.{WindowValue, no_value, value_at, states_of, setting_in, IsSplit, IsFrom, IsWindow}
use Rattle.window_law.specs.Windows.{soonest, sum_of, at_most, window_end}
use Rattle.node_group.proofs.OfNet.{ends_are, wire}
use Rattle.node_group.proofs.OfRun.{are_joined}
use Rattle.window_core.proofs.OpenedWindow.{split_opened, from_opened, first_opened}
use Rattle.window_core.proofs.Windowed.{bounded, same_states, value_map}
use Rattle.window_core.proofs.window.initial.opened.Goals as goal

ends_inside : (nodes : List NodeState) (links : List LinkEnds) (end position : ℕ) (net : AreNetParts nodes links end position) (entries : List ℕ) (size : length entries ≡ length nodes) (link : ℕ) → link < length links → (place_at links link).node < length entries
ends_inside nodes links end position net entries size link under =
    let within = (wire nodes links end position net entries size link under).within in
    let to = ap (λ (e : LinkEnds). e.to.node) (ends_are nodes links end position net entries size link under) in
    omega (arith, within, to, size)

group_states_bounded : (entries : List ℕ) (links : List LinkEnds) (nodes : List NodeState) (end position : ℕ) (s0 : List GroupValue) (u : ℕ) → AreGroupStatesOf entries links nodes end position s0 → (h : ℕ) → h < length (map (bounded u) s0) → IsGroupStateOf entries links nodes u position h (value_at (map (bounded u) s0) h)
group_states_bounded entries links nodes end position s0 u shared h under =
    let here : h < length s0 = (let size = length-map s0 (bounded u) in omega (arith, under, size)) in
    let one = shared h no_value here in
    subst (IsGroupStateOf entries links nodes u position h) (sym (value_map (bounded u) s0 h here)) (record {
      number_is = one.number_is;
      entries_are = one.entries_are;
      links_are = one.links_are;
      seats = one.seats;
      wires = one.wires;
      no_lines = one.no_lines;
      until_is = refl;
      position_is = one.position_is;
    })

pub lookahead-ahead-requires : goal.lookahead-ahead-requires
lookahead-ahead-requires c k d under =
    let nodes = c.args.parts.nodes.items in
    let links = c.args.parts.links.items in
    let size = c.requires.size in
    let value = c.deref.ensures.value in
    let here : k < length links = subst (λ (ls : List LinkEnds). k < length ls) value under in
    let end = c.args.parts.end in
    let from = (are_joined nodes links end c.args.parts.position c.requires.parts c.args.partition size).from k here in
    let to = ends_inside nodes links end c.args.parts.position c.requires.parts c.args.partition size k here in
    let read : ends_at links k ≡ get_or c.deref.result.now k d = get_or_default links k no_ends d here ∙ ap (λ (ls : List LinkEnds). get_or ls k d) (sym value) in
    (subst (λ (e : LinkEnds). e.from < length c.args.partition) read (omega (arith, from, size)), subst (λ (e : LinkEnds). e.to.node < length c.args.partition) read to)

pub share_out-requires-clause-few : goal.share_out-requires-clause-few
share_out-requires-clause-few c =
    let rooms = c.requires.rooms in
    let groups = c.groups.ensures.count in
    let most = c.groups.ensures.most in
    omega (arith, rooms, groups, most)

pub invariant_of-result : goal.invariant_of-result
invariant_of-result c =
    let nodes = c.args.parts.nodes.items in
    let links = c.args.parts.links.items in
    let entries = c.args.partition in
    let end = c.args.parts.end in
    let position = c.args.parts.position in
    let s0 = c.share_out.new.group_states.items in
    let u = c.window_end-until.result in
    let dm = c.deref_mut.ensures.value in
    let V = with_items c.share_out.new.group_states c.set_until.new.group_states in
    let items : V.items ≡ map (bounded u) s0 = with_items_is c.share_out.new.group_states c.set_until.new.group_states (c.set_until.auto.group_states ∙ ap length dm ∙ sym c.share_out.new.group_states.ok.0) ∙ c.set_until.ensures ∙ ap (map (bounded u)) dm in
    let gs = map (bounded u) s0 in
    let v : WindowValue = record { entries = entries; links = links; ahead = c.lookahead-ahead.result; end = end; until = u; position = position; groups = gs; out = false; taken = c.new-2.result } in
    let size = c.requires.size in
    let count : length gs ≡ groups_of entries = length-map s0 (bounded u) ∙ c.share_out.ensures.count in
    let shared = subst (λ (ls : List LinkEnds). AreGroupStatesOf entries ls nodes end position s0) c.deref-2.ensures.value c.share_out.ensures.each in
    let group_states : (h : ℕ) → h < length gs → IsGroupStateOf entries links nodes u position h (value_at gs h) = group_states_bounded entries links nodes end position s0 u shared in
    let leaves : (link : ℕ) → link < length links → (ends_at links link).from < length entries = λ link under. subst (λ m. (ends_at links link).from < m) (sym size) ((are_joined nodes links end position c.requires.parts entries size).from link under) in
    let comes : (link : ℕ) → link < length links → (place_at links link).node < length entries = ends_inside nodes links end position c.requires.parts entries size in
    let split : IsSplit v = split_opened nodes v c.requires.parts size count group_states leaves comes in
    let ahead_is : (parts : List LinkPart) → AreEnds parts links → c.lookahead-ahead.result ≡ lookahead (group_in entries) parts = λ parts are. c.lookahead-ahead.ensures parts (subst (AreEnds parts) (sym c.deref.ensures.value) are) in
    let until_is : u ≡ window_end (setting_in v) (states_of gs) = c.window_end-until.ensures ∙ ap (λ (o : Option ℕ). at_most (sum_of o c.lookahead-ahead.result) end) (c.soonest.ensures ∙ ap (λ (xs : List GroupValue). soonest (states_of xs)) c.deref-3.ensures.value ∙ ap soonest (sym (same_states u s0))) in
    let from : IsFrom (net_state nodes end) v = from_opened nodes v c.requires.parts size count group_states leaves comes ahead_is until_is in
    let view : record v { groups = c.new.result.groups; out = c.new.result.out } ≡ v = λ i. record v { groups = (ap (λ (r : GroupTableValue). r.groups) c.new.ensures ∙ items) i; out = (c.new.ensures i).out } in
    let capacity = c.share_out.ensures.capacity in
    record {
      window = subst IsWindow (sym view) (record { split = split; edge = net_state nodes end; from = from });
      nexts = c.requires.merge.0;
      ranks = c.requires.merge.1;
    }

pub returns-clause-first : goal.returns-clause-first
returns-clause-first c =
    let nodes = c.args.parts.nodes.items in
    let links = c.args.parts.links.items in
    let entries = c.args.partition in
    let end = c.args.parts.end in
    let position = c.args.parts.position in
    let s0 = c.share_out.new.group_states.items in
    let u = c.window_end-until.result in
    let dm = c.deref_mut.ensures.value in
    let V = with_items c.share_out.new.group_states c.set_until.new.group_states in
    let items : V.items ≡ map (bounded u) s0 = with_items_is c.share_out.new.group_states c.set_until.new.group_states (c.set_until.auto.group_states ∙ ap length dm ∙ sym c.share_out.new.group_states.ok.0) ∙ c.set_until.ensures ∙ ap (map (bounded u)) dm in
    let gs = map (bounded u) s0 in
    let v : WindowValue = record { entries = entries; links = links; ahead = c.lookahead-ahead.result; end = end; until = u; position = position; groups = gs; out = false; taken = c.new-2.result } in
    let size = c.requires.size in
    let count : length gs ≡ groups_of entries = length-map s0 (bounded u) ∙ c.share_out.ensures.count in
    let shared = subst (λ (ls : List LinkEnds). AreGroupStatesOf entries ls nodes end position s0) c.deref-2.ensures.value c.share_out.ensures.each in
    let group_states : (h : ℕ) → h < length gs → IsGroupStateOf entries links nodes u position h (value_at gs h) = group_states_bounded entries links nodes end position s0 u shared in
    let leaves : (link : ℕ) → link < length links → (ends_at links link).from < length entries = λ link under. subst (λ m. (ends_at links link).from < m) (sym size) ((are_joined nodes links end position c.requires.parts entries size).from link under) in
    let comes : (link : ℕ) → link < length links → (place_at links link).node < length entries = ends_inside nodes links end position c.requires.parts entries size in
    let split : IsSplit v = split_opened nodes v c.requires.parts size count group_states leaves comes in
    let ahead_is : (parts : List LinkPart) → AreEnds parts links → c.lookahead-ahead.result ≡ lookahead (group_in entries) parts = λ parts are. c.lookahead-ahead.ensures parts (subst (AreEnds parts) (sym c.deref.ensures.value) are) in
    let until_is : u ≡ window_end (setting_in v) (states_of gs) = c.window_end-until.ensures ∙ ap (λ (o : Option ℕ). at_most (sum_of o c.lookahead-ahead.result) end) (c.soonest.ensures ∙ ap (λ (xs : List GroupValue). soonest (states_of xs)) c.deref-3.ensures.value ∙ ap soonest (sym (same_states u s0))) in
    let view : record v { groups = c.new.result.groups; out = c.new.result.out } ≡ v = λ i. record v { groups = (ap (λ (r : GroupTableValue). r.groups) c.new.ensures ∙ items) i; out = (c.new.ensures i).out } in
    subst (IsFirstWindow nodes links end) (sym view) (first_opened nodes v c.requires.parts size count group_states leaves comes ahead_is until_is)
