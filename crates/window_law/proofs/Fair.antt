-- Every run of every scenario is fair: what an event makes is at its own node or comes over a link from it, and is later.
use Rattle.std.proofs.Common.{◌≡◌, ◌≢◌, ℕ, zero, suc, ◌+◌, ◌-◌, ◌<◌, ◌==◌, true, false, cond, List, [], ◌∷◌, ◌++◌, sym, ap, subst, ◌∙◌, Option, Some, None, ⊎_elim, arith, eq-eqb, ne_eqb, true≢false, Less}
use Rattle.std.specs.List.{slice_get}
use Rattle.std.specs.Option.{IfSome}
use Rattle.sim_time.specs.declared.key.Key.{Key}
use Rattle.sim_time.specs.Keys.{key_cmp}
use Rattle.sim_time.proofs.Order.{earlier_less}
use Rattle.scenario_image.specs.declared.parts.LinkPart.{LinkPart}
use Rattle.scenario_image.specs.declared.parts.ScenarioParts.{ScenarioParts}
use Rattle.scenario_image.specs.Scenario.{IsScenario}
use Rattle.tournament.proofs.Maps.{not_some, same_some}
use Rattle.node_core.specs.declared.event.Event.{Event}
use Rattle.node_core.specs.Pending.{EventChange}
use Rattle.node_core.specs.TraceLine.{TraceLine}
use Rattle.table_run.specs.State.{State, initial}
use Rattle.table_run.specs.Laws.{ComesTo, made_by, IsDueSoon, ComesOver, IsMadeAt}
use Rattle.table_run.proofs.Lists.{all_map}
use Rattle.table_run.proofs.Runs.{Along, run_add}
use Rattle.table_run.proofs.RunLaws.{effects_are_soon, effects_are_local}
use Rattle.window_law.specs.Lookahead.{lesser, lookahead}
use Rattle.window_law.specs.Groups.{is_own}
use Rattle.window_law.proofs.Premises.{IsAhead, FairStep}
use Rattle.window_law.proofs.Sent.{crossing_sent}
use Rattle.window_law.proofs.Turn.{IsBy, by_first, by_second}

from_of : Option LinkPart → ℕ
from_of None = 0
from_of (Some link) = link.from

-- who may change a key: a timer its node, an arrival the node that the link leaves
pub maker_of : List LinkPart → Key → ℕ
maker_of links k = cond (k.source == 0) k.node (from_of (slice_get links (k.source - 1)))

-- of an arrival over a link
pub maker_over : (links : List LinkPart) (k : Key) (number : ℕ) (link : LinkPart) → slice_get links number ≡ Some link → k.source ≡ number + 1 → maker_of links k ≡ link.from
unfolding maker_of from_of
maker_over links k number link its over =
    let at : k.source - 1 ≡ number = omega (arith, over) in
    ap (λ b. cond b k.node (from_of (slice_get links (k.source - 1)))) (ne_eqb k.source 0 (λ z. absurd (omega (arith, over, z))))
    ∙ ap (λ i. from_of (slice_get links i)) at
    ∙ ap from_of its

ahead_of : (ahead : Option ℕ) (now delay time : ℕ) → IsBy ahead delay → now + delay < time → IsAhead ahead now time
ahead_of None now delay time h l = absurd h
ahead_of (Some a) now delay time h l = omega (arith, h, l)

-- the lookahead is at most the delay of a link that crosses
first_link : (group : ℕ → ℕ) (first : LinkPart) (links : List LinkPart) → group first.to ≢ group first.from → IsBy (lookahead group (first ∷ links)) first.delay
first_link group first links off =
    subst (λ b. IsBy (cond b (lookahead group links) (lesser (Some first.delay) (lookahead group links))) first.delay) (sym (ne_eqb (group first.from) (group first.to) (λ e. off (sym e))))
    (by_first (Some first.delay) (lookahead group links) first.delay (omega arith))

later_link : (group : ℕ → ℕ) (first : LinkPart) (links : List LinkPart) (delay : ℕ) → IsBy (lookahead group links) delay → IsBy (lookahead group (first ∷ links)) delay
later_link group first links delay h =
    elim (group first.from == group first.to) as (λ b. IsBy (cond b (lookahead group links) (lesser (Some first.delay) (lookahead group links))) delay) [
      | true ↦ h
      | false ↦ by_second (Some first.delay) (lookahead group links) delay h
    ]

crossing_by : (group : ℕ → ℕ) (links : List LinkPart) (i : ℕ) (link : LinkPart) → slice_get links i ≡ Some link → group link.to ≢ group link.from → IsBy (lookahead group links) link.delay
crossing_by group [] i link e off = absurd (not_some e)
crossing_by group (first ∷ links) zero link e off =
    let same : first ≡ link = same_some first link e in
    subst (λ (l : LinkPart). group l.to ≢ group l.from → IsBy (lookahead group (first ∷ links)) l.delay) same (first_link group first links) off
crossing_by group (first ∷ links) (suc i) link e off = later_link group first links link.delay (crossing_by group links i link e off)

-- a key at another group's node
pub others_node : (group : ℕ → ℕ) (h : ℕ) (k : Key) → is_own group h k ≡ false → group k.node ≢ h
unfolding is_own
others_node group h k e same = true≢false (sym (eq-eqb _ _ same) ∙ e)

module _ (p : ScenarioParts) (group : ℕ → ℕ) (k : Key) where
  made_here : (c : EventChange) → IsMadeAt p k c → maker_of p.links c.0 ≡ k.node
  unfolding maker_of from_of
  made_here c h =
      ⊎_elim
      (λ (a : (c.0.node ≡ k.node) × (c.0.source ≡ 0)). ap (λ b. cond b c.0.node (from_of (slice_get p.links (c.0.source - 1)))) (eq-eqb c.0.source 0 a.1) ∙ a.0)
      (λ (o : ComesOver p k.node k.time c.0).
      let source = o.over in
      let link : c.0.source - 1 ≡ o.number = omega (arith, source) in
      ap (λ b. cond b c.0.node (from_of (slice_get p.links (c.0.source - 1)))) (ne_eqb c.0.source 0 (λ z. absurd (omega (arith, source, z))))
      ∙ ap (λ i. from_of (slice_get p.links i)) link
      ∙ ap from_of o.its_link
      ∙ o.leaves)
      h

  far_off : (c : EventChange) → IsMadeAt p k c → is_own group (group k.node) c.0 ≡ false → IsAhead (lookahead group p.links) k.time c.0.time
  far_off c h other =
      let off = others_node group (group k.node) c.0 other in
      ⊎_elim
      (λ (a : (c.0.node ≡ k.node) × (c.0.source ≡ 0)). absurd (off (ap group a.0)))
      (λ (o : ComesOver p k.node k.time c.0).
      ahead_of (lookahead group p.links) k.time o.link.delay c.0.time
      (crossing_by group p.links o.number o.link o.its_link (λ same. off (ap group (sym o.ends) ∙ same ∙ ap group o.leaves))) o.late)
      h

  soon_later : (c : EventChange) → IfSome c.1 (λ _. IsDueSoon k.time c.0) → IfSome c.1 (λ _. key_cmp k c.0 ≡ Less)
  soon_later c h = at c.0 c.1 h
    where
      at : (q : Key) (o : Option Event) → IfSome o (λ _. IsDueSoon k.time q) → IfSome o (λ _. key_cmp k q ≡ Less)
      at q None h = h
      at q (Some u) h = earlier_less k q h.0

-- from each state of a scenario's run on
pub every_run_is_fair : (p : ScenarioParts) (m : ℕ) (before : List TraceLine) (s : State) → IsScenario p → ComesTo p m before s → (group : ℕ → ℕ) → Along (FairStep group (maker_of p.links) (lookahead group p.links)) s
every_run_is_fair p m before s is_scenario e group n lines t is k v due_is =
    let all : ComesTo p (m + n) (before ++ lines) t = run_add (initial p) s t m n before lines e is in
    let local = effects_are_local p (m + n) (before ++ lines) t is_scenario all k v due_is in
    record {
      made = all_map (IsMadeAt p k) (λ (c : EventChange). maker_of p.links c.0 ≡ k.node) (made_here p group k) (made_by t k v) local;
      later = all_map (λ (c : EventChange). IfSome c.1 (λ _. IsDueSoon k.time c.0)) (λ (c : EventChange). IfSome c.1 (λ _. key_cmp k c.0 ≡ Less)) (soon_later p group k) (made_by t k v) (effects_are_soon p (m + n) (before ++ lines) t is_scenario all k v due_is);
      sent = crossing_sent group t k v;
      far = all_map (IsMadeAt p k) (λ (c : EventChange). is_own group (group k.node) c.0 ≡ false → IsAhead (lookahead group p.links) k.time c.0.time) (far_off p group k) (made_by t k v) local;
    }
