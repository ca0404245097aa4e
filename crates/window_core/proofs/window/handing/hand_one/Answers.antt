use Rattle.std.proofs.Common.{◌≡◌, ◌<◌, ◌==◌, length, set, get_or, cond, false, sym, ap, subst, ◌∙◌, arith}
use Rattle.std.proofs.lemmas.List.{get_or_read, get_or-set_same, get_or-set_other, length-set}
use Rattle.tournament.specs.Keyed.{apply, entering}
use Rattle.node_core.specs.WireState.{arrivals_on, came_over}
use Rattle.net_machine.specs.Nodes.{parts_of}
use Rattle.net_machine.specs.Wiring.{place_at}
use Rattle.node_group.specs.Group.{GroupValue, group_to, came_in, state_of}
use Rattle.node_group.specs.Held.{wire_at, is_idle}
use Rattle.net_partition.specs.Partition.{group_in}
use Rattle.window_core.specs.GroupTables.{next_of_group}
use Rattle.node_group.specs.Seats.{seated, taken_nodes}
use Rattle.window_core.specs.Turning.{to_group, pending_in, held_over, handed, CanHand, WasHanded}
use Rattle.window_core.specs.Window.{no_value, value_at}
use Rattle.window_core.proofs.HandedOver.{parts_stay, pending_over, came_each}
use Rattle.window_core.proofs.GroupTables.{nexts_handed}
use Rattle.window_core.proofs.window.handing.hand_one.Goals as goal

pub returns-clause-some : goal.returns-clause-some
returns-clause-some c =
    let entries = c.args.partition.now in
    let links = c.args.links.now in
    let group_states = c.args.group_states.now in
    let link = c.in_ok-link.link in
    let from = c.args.from in
    let to = c.group-to.result in
    let one = c.in_ok-link.ensures.some in
    let sends : get_or group_states from c.index-group_states-from.result ≡ value_at group_states from = sym c.index-group_states-from.is ∙ get_or_read group_states from c.index-group_states-from.result c.requires.can.within c.index-group_states-from.is no_value in
    let within : link < length links = (let known = one.within in let same = ap (λ (g : GroupValue). length g.held) sends in let many = c.requires.can.wires in omega (arith, known, same, many)) in
    let busy : is_idle (held_over group_states from link) ≡ false = ap (λ (g : GroupValue). is_idle (wire_at g.held link)) (sym sends) ∙ one.busy in
    let to_is : to ≡ to_group entries links link = c.group-to.ensures ∙ ap (group_in entries) c.from.ensures in
    let can : CanHand group_states from to link = subst (λ n. CanHand group_states from n link) (sym to_is) (c.requires.can.can link within busy) in
    let mid = set group_states from c.release_next.new.self in
    let new = set mid to c.deliver.new.self in
    let x = get_or mid to c.index-group_states-to.result in
    let to_mid : to < length mid = subst (λ n. to < n) (sym (length-set group_states from c.release_next.new.self)) can.to_in in
    let read : x ≡ value_at group_states to = sym c.index-group_states-to.is ∙ get_or_read mid to c.index-group_states-to.result to_mid c.index-group_states-to.is no_value ∙ get_or-set_other group_states from to c.release_next.new.self no_value (λ e. can.apart (sym e)) in
    let now : value_at new to ≡ c.deliver.new.self = get_or-set_same mid to c.deliver.new.self no_value to_mid in
    let under : link < length x.links = subst (λ (g : GroupValue). link < length g.links) (sym read) can.comes in
    let to_it : group_to x link ≡ x.number = subst (λ (g : GroupValue). group_to g link ≡ g.number) (sym read) can.to_it in
    let w = held_over group_states from link in
    let sent = one.packets_are ∙ ap (λ (g : GroupValue). (wire_at g.held link).under_way) sends in
    let came : came_in x link ≡ w.taken = ap (λ (g : GroupValue). came_in g link) read ∙ can.came in
    let is_group = c.number.ensures.is_group in
    let packets = c.release_next.new.packets in
    let was : WasHanded group_states new from to link = record {
      size = length-set mid to c.deliver.new.self ∙ length-set group_states from c.release_next.new.self;
      from_is =
          get_or-set_other mid to from c.deliver.new.self no_value can.apart
          ∙ get_or-set_same group_states from c.release_next.new.self no_value can.from_in
          ∙ c.release_next.ensures.rest
          ∙ (λ i. record (get_or group_states from c.index-group_states-from.result) { held = one.wires i })
          ∙ ap (λ (g : GroupValue). record g { held = set g.held link (handed (wire_at g.held link)) }) sends;
      to_is = now ∙ c.deliver.ensures.rest ∙ (λ i. record (read i) { seats = (sym now i).seats });
      others = λ h off away. get_or-set_other mid to h c.deliver.new.self no_value away ∙ get_or-set_other group_states from h c.release_next.new.self no_value off;
      parts = ap (λ (g : GroupValue). parts_of (seated g.seats)) now ∙ parts_stay x c.deliver.new.self is_group link under to_it packets c.deliver.ensures.rest c.deliver.ensures.nodes ∙ ap (λ (g : GroupValue). parts_of (seated g.seats)) read;
      seats_stay = ap (λ (g : GroupValue). taken_nodes g.seats) now ∙ c.deliver.ensures.seats_stay ∙ ap (λ (g : GroupValue). taken_nodes g.seats) read;
      pending =
          ap pending_in now
          ∙ pending_over x c.deliver.new.self is_group link under to_it packets c.deliver.ensures.rest c.deliver.ensures.nodes w can.number (can.node ∙ ap (λ (g : GroupValue). (place_at g.links link).node) (sym read)) came sent
          ∙ ap (λ (g : GroupValue). apply (entering (arrivals_on w)) (pending_in g)) read;
      came = λ l below ends.
          ap (λ (g : GroupValue). came_in g l) now
          ∙ came_each x c.deliver.new.self is_group link under to_it packets c.deliver.ensures.rest c.deliver.ensures.nodes w came sent l (subst (λ (g : GroupValue). l < length g.links) (sym read) below) (subst (λ (g : GroupValue). group_to g l ≡ g.number) (sym read) ends)
          ∙ ap (λ (g : GroupValue). cond (l == link) (came_over w) (came_in g l)) read;
    } in
    record {
      within = within;
      busy = busy;
      was = subst (λ n. WasHanded group_states new from n link) to_is was;
    }

pub returns-clause-nexts : goal.returns-clause-nexts
returns-clause-nexts c =
    let group_states = c.args.group_states.now in
    let from = c.args.from in
    let a = c.release_next.new.self in
    let b = c.deliver.new.self in
    let sends : get_or group_states from c.index-group_states-from.result ≡ value_at group_states from = sym c.index-group_states-from.is ∙ get_or_read group_states from c.index-group_states-from.result c.requires.can.within c.index-group_states-from.is no_value in
    let same : next_of_group (state_of a) ≡ next_of_group (state_of (value_at group_states from)) = ap (λ (g : GroupValue). next_of_group (state_of g)) c.release_next.ensures.rest ∙ ap (λ (g : GroupValue). next_of_group (state_of g)) sends in
    (λ i. set (c.requires.nexts i) c.group-to.result (c.next_of.ensures i)) ∙ nexts_handed group_states from c.group-to.result a b same
