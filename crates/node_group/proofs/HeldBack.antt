-- The outgoing messages, link by link, as one map.
use Rattle.std.proofs.Common.{◌≡◌, ℕ, zero, suc, ◌+◌, ◌-◌, ◌<◌, ◌≤◌, List, [], ◌∷◌, length, set, map, refl, sym, ap, subst, ◌∙◌, ⊎_elim, arith}
use Rattle.std.proofs.lemmas.Bool.{cases_lt}
use Rattle.std.proofs.lemmas.List.{map-set, length-map, get_or_past}
use Rattle.std.specs.FinMap.{get, get-empty}
use Rattle.std.specs.List.{AllByRecursion}
use Rattle.sim_time.specs.declared.key.Key.{Key}
use Rattle.packet_chain.specs.Stamped.{Stamped}
use Rattle.tournament.specs.Keyed.{apply, entering, nothing_due, EachKey}
use Rattle.tournament.specs.Gathered.{gathered, map_at, AtHome}
use Rattle.tournament.proofs.Gathered.{gathered-apply}
use Rattle.tournament.proofs.Maps.{not_some}
use Rattle.node_core.specs.declared.event.Event.{Event}
use Rattle.node_core.specs.Pending.{Events, EventChange}
use Rattle.node_core.specs.WireState.{WireState, arrivals, pending_on, came_over}
use Rattle.node_core.proofs.Wires.{each_on, entering_sources}
use Rattle.table_run.proofs.Lists.{all_map}
use Rattle.node_group.specs.Held.{wire_at, held_on, AreByLink}

-- the link over which a key comes
abbrev pub over_link : Key → ℕ
over_link k = k.source - 1

pub wire_map : (wires : List WireState) (i : ℕ) → i < length wires → map_at (map pending_on wires) i ≡ pending_on (wire_at wires i)
wire_map [] i under = absurd (omega (arith, under))
wire_map (w ∷ ws) zero under = refl
wire_map (w ∷ ws) (suc i) under = wire_map ws i (omega (arith, under))

module _ (wires : List WireState) (by_link : AreByLink wires) where
  -- the outgoing messages of a link come over it
  pub held_home : AtHome over_link (map pending_on wires)
  held_home i = ⊎_elim
      (λ (under : i < length wires).
      subst (EachKey (λ k. over_link k ≡ i)) (sym (wire_map wires i under))
      (λ k v there. let source = each_on (wire_at wires i) k v there in let link = by_link i under in omega (arith, source, link)))
      (λ (past : length wires ≤ i).
      let size = length-map wires pending_on in
      λ k v there. absurd (not_some (sym (get-empty _ k) ∙ ap (λ (m : Events). get m k) (sym (get_or_past (map pending_on wires) i (nothing_due Event) (omega (arith, past, size)))) ∙ there)))
      (cases_lt i (length wires))

  -- packets join the outgoing messages of a link
  module _ (link : ℕ) (within : link < length wires) (sent : List Stamped) (new : WireState)
      (change : pending_on new ≡ apply (entering (arrivals (wire_at wires link).node (wire_at wires link).link (came_over (wire_at wires link)) sent)) (pending_on (wire_at wires link))) where
    abbrev cs : List EventChange
    cs = entering (arrivals (wire_at wires link).node link (came_over (wire_at wires link)) sent)

    over_it : AllByRecursion (λ (c : EventChange). over_link c.0 ≡ link) cs
    over_it = all_map (λ (c : EventChange). c.0.source ≡ link + 1) (λ (c : EventChange). over_link c.0 ≡ link) (λ c source. omega (arith, source)) cs (entering_sources (wire_at wires link).node link (came_over (wire_at wires link)) sent)

    changed_here : pending_on new ≡ apply cs (map_at (map pending_on wires) link)
    changed_here = change ∙ ap (λ number. apply (entering (arrivals (wire_at wires link).node number (came_over (wire_at wires link)) sent)) (pending_on (wire_at wires link))) (by_link link within)
        ∙ ap (apply cs) (sym (wire_map wires link within))

    pub held_more : held_on (set wires link new) ≡ apply cs (held_on wires)
    held_more =
        ap gathered (map-set pending_on wires link new ∙ ap (set (map pending_on wires) link) changed_here)
        ∙ gathered-apply over_link cs (map pending_on wires) held_home link (let size = length-map wires pending_on in omega (arith, within, size)) over_it
