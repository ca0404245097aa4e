use Rattle.std.proofs.Common.{◌≡◌, ◌≤◌, ◌<◌, ◌+◌, [], ◌∷◌, List, length, length-append, sym, ap, ◌∙◌, ⊎_elim, arith}
use Rattle.std.proofs.lemmas.Bool.{cases_lt}
use Rattle.std.proofs.lemmas.List.{get_or_append_left, get_or_push}
use Rattle.node_core.specs.WireState.{WireState}
use Rattle.net_machine.specs.Wiring.{place_at}
use Rattle.node_group.specs.Held.{no_wire, wire_at}
use Rattle.node_group.specs.GroupStates.{idle_wire}
use Rattle.node_group.proofs.sharing.idle_exits.Goals as goal

pub loop-link-preserved : goal.loop-link-preserved
loop-link-preserved c =
    let inv = c.loop-link.invariant in
    let before = c.loop-link.exits in
    let links = c.args.links.now in
    let nodes = c.args._nodes.now in
    let number = c.loop-link.link in
    let inside : number < length links = c.loop-link-test.true in
    let all_came = c.requires.sent.each_link number inside ∙ sym (c.requires.joined.came number inside) in
    let here : c.new.result ≡ idle_wire links nodes number = c.new.ensures ∙ (λ i. record { node = (place_at links number).node; link = number; taken = all_came i; under_way = [] }) in
    let more = c.in_ok-push.ensures.ok in
    record {
      size = ap length more ∙ length-append before (c.new.result ∷ []) ∙ ap (λ n. n + 1) inv.size;
      each_wire = λ link under. ap (λ (ws : List WireState). wire_at ws link) more ∙ ⊎_elim
          (λ (below : link < number). get_or_append_left before (c.new.result ∷ []) no_wire link (let size = inv.size in omega (arith, below, size)) ∙ inv.each_wire link below)
          (λ (past : number ≤ link).
          let at : number ≡ link = omega (arith, past, under) in
          get_or_push before c.new.result no_wire link (inv.size ∙ at) ∙ here ∙ ap (idle_wire links nodes) at)
          (cases_lt link number);
    }
