-- After a row each node has the scenario's links, as they should be, and the whole state is sound.
use Rattle.std.proofs.Common.{◌≡◌, ◌≢◌, ℕ, ◌+◌, ◌*◌, ◌<◌, ◌≤◌, ◌==◌, cond, List, [], ◌∷◌, ◌++◌, length, map, refl, sym, ap, subst, ◌∙◌, None, arith, ⊎_elim, eq-eqb}
use Rattle.std.proofs.lemmas.Bool.{cases_eq, ne_eqb}
use Rattle.std.proofs.lemmas.List.Sums.{sum_by-append}
use Rattle.std.proofs.Math.Seq.{map-set_same}
use Rattle.std.specs.List.{AllByRecursion}
use Rattle.sim_time.specs.declared.key.Key.{Key}
use Rattle.packet_chain.specs.declared.packet.Packet.{Packet}
use Rattle.scenario_image.specs.declared.parts.ScenarioParts.{ScenarioParts}
use Rattle.scenario_image.specs.Scenario.{IsScenario}
use Rattle.aqm.specs.Queue.{waiting_in}
use Rattle.port.specs.Port.{PortState}
use Rattle.node_core.specs.declared.event.Event.{Event}
use Rattle.node_core.specs.Part.{LinkState, PartState, no_link}
use Rattle.node_core.specs.TraceLine.{TraceLine}
use Rattle.table_run.specs.State.{State, part_at}
use Rattle.table_run.specs.Flow.{IsUnderWay}
use Rattle.table_run.specs.Sound.{afresh, lines_at, IsSoundLink, IsSoundNode, IsSoundAt}
use Rattle.table_run.proofs.Lists.{all_map, all_here, all_set}
use Rattle.table_run.proofs.Due.{IsDue}
use Rattle.table_run.proofs.PortMoves.{StaysLink}
use Rattle.table_run.proofs.Moved.{Shape, IsMoved, link_before, link_after}
use Rattle.table_run.proofs.Rows.{IsRow, under_way_on, sent_most}
use Rattle.table_run.proofs.KeptEvents.{belongs_after, not_past_after, in_order_after}
use Rattle.table_run.proofs.KeptTimers.{timers_after, starts_after, unstarted_after}

-- a line more is its node's
pub lines_here : (lines : List TraceLine) (line : TraceLine) → lines_at line.key.node (lines ++ line ∷ []) ≡ lines_at line.key.node lines + 1
lines_here lines line =
    let both = sum_by-append (λ (l : TraceLine). cond (l.key.node == line.key.node) 1 0) lines (line ∷ []) in
    let one : ◌≡◌ {A = ℕ} (cond (line.key.node == line.key.node) 1 0) 1 = ap (λ b. cond {A = ℕ} b 1 0) (eq-eqb line.key.node line.key.node refl) in
    omega (arith, both, one)

pub lines_there : (node : ℕ) (lines : List TraceLine) (line : TraceLine) → node ≢ line.key.node → lines_at node (lines ++ line ∷ []) ≡ lines_at node lines
lines_there node lines line other =
    let both = sum_by-append (λ (l : TraceLine). cond (l.key.node == node) 1 0) lines (line ∷ []) in
    let none : ◌≡◌ {A = ℕ} (cond (line.key.node == node) 1 0) 0 = ap (λ b. cond {A = ℕ} b 1 0) (ne_eqb line.key.node node (λ same. other (sym same))) in
    omega (arith, both, none)

same_afresh : (link : LinkState) (new : PortState) → StaysLink link.port new → afresh (record link { port = new }) ≡ afresh link
same_afresh link new stays = λ i. record {
  to = link.to;
  port = record { link = stays.same_link i; rate = stays.same_rate i; delay = stays.same_delay i; lose = stays.same_lose i; offered = 0; sent = 0; next_free = None; queue = stays.same_queue i };
}

-- a link to which nothing was done
link_later : (p : ScenarioParts) (s t : State) (events more : ℕ) (port : PortState) → ((link : ℕ) (x : Packet) → IsUnderWay p s link x → IsUnderWay p t link x) → events ≤ more → IsSoundLink p s events port → IsSoundLink p t more port
link_later p s t events more port on upto h = record {
  sent_most = (let a = h.sent_most in omega (arith, a, upto));
  offered_most = (let a = h.offered_most in let b = scaled events more upto in omega (arith, a, b));
  queued = all_map (λ x. IsUnderWay p s port.link x.0) (λ x. IsUnderWay p t port.link x.0) (λ x. on port.link x.0) (waiting_in port.queue) h.queued;
  idle_empty = h.idle_empty;
  room = h.room;
}
  where
    scaled : (a b : ℕ) → a ≤ b → a * 2147483648 ≤ b * 2147483648
    scaled a b upto = omega (arith, upto)

module _ (p : ScenarioParts) (is_scenario : IsScenario p) (lines : List TraceLine) (now : ℕ) (s t : State) (k : Key) (v : Event) (r : Shape) (S : IsSoundAt p lines now s) (due : IsDue s k v) (nodes : k.node < length p.nodes) (M : IsMoved s k r t) (R : IsRow p s k v r t) where
  on : (link : ℕ) (x : Packet) → IsUnderWay p s link x → IsUnderWay p t link x
  on = under_way_on p s t R.rises

  -- the link to which something was done
  link_done : (events : ℕ) → IsSoundLink p s events (link_before s k r).port → IsSoundLink p t (events + 1) r.step.port
  link_done events h = record {
    sent_most = (let a = h.sent_most in let b = sent_most (IsUnderWay p t (link_before s k r).port.link) k.time R.before (link_before s k r).port r.step.port r.step.departure R.moves.outcome in omega (arith, a, b));
    offered_most = (let a = h.offered_most in let b = R.moves.offered_are in let c = R.few in omega (arith, a, b, c));
    queued = subst (λ n. AllByRecursion (λ (x : Packet × ℕ). IsUnderWay p t n x.0) (waiting_in r.step.port.queue)) (sym R.moves.stays.same_link) R.moves.waits.queued;
    idle_empty = R.moves.waits.idle_empty;
    room = R.moves.waits.room;
  }

  here : (events : ℕ) → IsSoundNode p s events k.node → IsSoundNode p t (events + 1) k.node
  here events h = record {
    its_links = ap (map afresh) M.here_links ∙ map-set_same afresh (part_at s k.node).links r.index (link_after s k r) no_link (same_afresh (link_before s k r) r.step.port R.moves.stays) ∙ h.its_links;
    each_link = subst (AllByRecursion (λ (l : LinkState). IsSoundLink p t (events + 1) l.port)) (sym M.here_links)
        (all_set (λ (l : LinkState). IsSoundLink p t (events + 1) l.port) (part_at s k.node).links r.index (link_after s k r)
        (all_map (λ (l : LinkState). IsSoundLink p s events l.port) (λ (l : LinkState). IsSoundLink p t (events + 1) l.port) (λ l. link_later p s t events (events + 1) l.port on (omega arith)) (part_at s k.node).links h.each_link)
        (link_done events (all_here (λ (l : LinkState). IsSoundLink p s events l.port) (part_at s k.node).links r.index no_link R.within h.each_link)));
  }

  there : (events node : ℕ) → node ≢ k.node → IsSoundNode p s events node → IsSoundNode p t events node
  there events node other h = record {
    its_links = ap (λ (x : PartState). map afresh x.links) (M.elsewhere node other) ∙ h.its_links;
    each_link = subst (λ (x : PartState). AllByRecursion (λ (l : LinkState). IsSoundLink p t events l.port) x.links) (sym (M.elsewhere node other))
        (all_map (λ (l : LinkState). IsSoundLink p s events l.port) (λ (l : LinkState). IsSoundLink p t events l.port) (λ l. link_later p s t events events l.port on (omega arith)) (part_at s node).links h.each_link);
  }

  nodes_after : (line : TraceLine) → line.key ≡ k → (node : ℕ) → node < length p.nodes → IsSoundNode p t (lines_at node (lines ++ line ∷ [])) node
  nodes_after line key_is node within =
      let its_node : line.key.node ≡ k.node = ap (λ (q : Key). q.node) key_is in
      ⊎_elim
      (λ (at : node ≡ k.node).
      let count : lines_at node lines + 1 ≡ lines_at node (lines ++ line ∷ []) = ap (λ n. lines_at n lines + 1) (at ∙ sym its_node) ∙ sym (lines_here lines line) ∙ ap (λ n. lines_at n (lines ++ line ∷ [])) (its_node ∙ sym at) in
      subst (λ e. IsSoundNode p t e node) count (subst (IsSoundNode p t (lines_at node lines + 1)) (sym at) (here (lines_at node lines) (subst (IsSoundNode p s (lines_at node lines)) at (S.each_node node within)))))
      (λ (other : node ≢ k.node).
      subst (λ e. IsSoundNode p t e node) (sym (lines_there node lines line (λ same. other (same ∙ its_node)))) (there (lines_at node lines) node other (S.each_node node within)))
      (cases_eq node k.node)

  -- the state after a row is sound
  pub sound_after : (line : TraceLine) → line.key ≡ k → line.event ≡ v → IsSoundAt p (lines ++ line ∷ []) k.time t
  sound_after line key_is event_is = record {
    end_is = M.end_same ∙ S.end_is;
    nodes_are = M.count_same ∙ S.nodes_are;
    each_flow = R.flows;
    each_router = λ node is. R.routers node is ∙ S.each_router node is;
    each_node = nodes_after line key_is;
    belongs = belongs_after p is_scenario lines now s t k v r S due nodes M R;
    timers = timers_after p lines now s t k v r S due M R;
    starts = starts_after p lines now s t k v r S due M R line event_is;
    unstarted = unstarted_after p lines now s t k v r S due M R;
    in_order = in_order_after p is_scenario lines now s t k v r S due nodes M R;
    not_past = not_past_after p is_scenario lines now s t k v r S due nodes M R;
  }
