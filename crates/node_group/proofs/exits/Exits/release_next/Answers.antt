use Rattle.std.proofs.Common.{◌≡◌, ◌≤◌, ◌^◌, ◌++◌, ◌∷◌, [], List, set, refl, sym, ap, subst, ◌∙◌}
use Rattle.std.proofs.lemmas.List.{get_or_read}
use Rattle.std.specs.Option.{option_to_list}
use Rattle.std.specs.Vec.{vec_capacity}
use Rattle.node_core.specs.WireState.{WireState, came_over}
use Rattle.node_group.specs.Held.{no_wire, is_idle, AreListed, IsReleased}
use Rattle.node_group.proofs.Listed.{listed_as, listed_less, listed_without, last_known}
use Rattle.node_group.proofs.exits.Exits.release_next.Goals as goal

pub invariant_of-self : goal.invariant_of-self
invariant_of-self c =
    let inv = c.loop-link.invariant in
    let wires = c.loop-link.self-inside.held.items in
    let before = c.pop.new.self.items in
    let room = vec_capacity c.pop.new.self in
    let more : c.loop-link.self-inside.busy.items ≡ before ++ c.in-Some.link ∷ [] = c.pop.ensures.items ∙ ap (λ o. before ++ option_to_list o) c.in-Some.is in
    let is : AreListed wires (before ++ c.in-Some.link ∷ []) room = listed_as wires wires _ _ _ room refl (sym more) c.pop.ensures.capacity inv.listed in
    let known = last_known wires before c.in-Some.link room is in
    let read = get_or_read wires c.in-Some.link c.index_mut.result.now known c.index_mut.ensures.value no_wire in
    listed_less wires c.in-Some.link known c.release.new.self (ap (λ (w : WireState). w.link) (c.release.ensures.state ∙ ap (λ (w : WireState). record w { taken = came_over w; under_way = [] }) read)) before room (ap is_idle c.release.ensures.state) is

pub returns-then-not-is_idle-clause-some : goal.returns-then-not-is_idle-clause-some
returns-then-not-is_idle-clause-some c =
    let inv = c.loop-link.invariant in
    let wires = c.loop-link.self-inside.held.items in
    let before = c.pop.new.self.items in
    let room = vec_capacity c.pop.new.self in
    let more : c.loop-link.self-inside.busy.items ≡ before ++ c.in-Some.link ∷ [] = c.pop.ensures.items ∙ ap (λ o. before ++ option_to_list o) c.in-Some.is in
    let is : AreListed wires (before ++ c.in-Some.link ∷ []) room = listed_as wires wires _ _ _ room refl (sym more) c.pop.ensures.capacity inv.listed in
    let known = last_known wires before c.in-Some.link room is in
    let read = get_or_read wires c.in-Some.link c.index_mut.result.now known c.index_mut.ensures.value no_wire in
    let released : IsReleased wires (set wires c.in-Some.link c.release.new.self) c.in-Some.link c.release.new.packets = record {
      within = known;
      busy = ap is_idle (sym (get_or_read wires c.in-Some.link c.index.result.now known c.index.ensures no_wire)) ∙ sym c.is_idle.ensures ∙ c.if-not-is_idle.true;
      packets_are = c.release.ensures.packets ∙ ap (λ (w : WireState). w.under_way) read;
      rising = c.release.ensures.rising;
      few = subst (λ (w : WireState). came_over w ≤ 2 ^ 50) read c.release.ensures.few;
      wires = ap (set wires c.in-Some.link) (c.release.ensures.state ∙ ap (λ (w : WireState). record w { taken = came_over w; under_way = [] }) read);
    } in
    subst (λ (ws : List WireState). IsReleased ws (set wires c.in-Some.link c.release.new.self) c.in-Some.link c.release.new.packets) (inv.wires ∙ c.self.view_is) released

pub loop-link-preserved : goal.loop-link-preserved
loop-link-preserved c =
    let inv = c.loop-link.invariant in
    let wires = c.loop-link.self-inside.held.items in
    let before = c.pop.new.self.items in
    let room = vec_capacity c.pop.new.self in
    let more : c.loop-link.self-inside.busy.items ≡ before ++ c.in-Some.link ∷ [] = c.pop.ensures.items ∙ ap (λ o. before ++ option_to_list o) c.in-Some.is in
    let is : AreListed wires (before ++ c.in-Some.link ∷ []) room = listed_as wires wires _ _ _ room refl (sym more) c.pop.ensures.capacity inv.listed in
    let known = last_known wires before c.in-Some.link room is in
    record {
      wires = inv.wires;
      listed = listed_without wires before c.in-Some.link room is (ap is_idle (sym (get_or_read wires c.in-Some.link c.index.result.now known c.index.ensures no_wire)) ∙ sym c.is_idle.ensures ∙ c.if-not-is_idle.false);
      empty = inv.empty;
    }
