-- After a row each timer that a node has set is pending, and so is each start that was not run.
use Rattle.std.proofs.Common.{◌≡◌, ◌≢◌, ℕ, ◌+◌, ◌<◌, ◌≤◌, List, [], ◌∷◌, ◌++◌, map, get_or, zero, suc, refl, sym, ap, subst, ◌∙◌, Option, Some, None, arith, ◌⊎◌, ⊎_elim, Contains}
use Rattle.std.specs.List.{slice_get}
use Rattle.std.specs.FinMap as finmap
use Rattle.std.proofs.lemmas.List.{map-append}
use Rattle.std.proofs.lemmas.List.Elements.{Contains-append_cases}
use Rattle.sim_time.specs.declared.key.Key.{Key}
use Rattle.packet_chain.specs.declared.packet.Packet.{Packet}
use Rattle.scenario_image.specs.declared.parts.FlowPart.{FlowPart}
use Rattle.scenario_image.specs.declared.parts.ScenarioParts.{ScenarioParts}
use Rattle.port.specs.Port.{Departure}
use Rattle.node_core.specs.declared.timer.Timer.{Timer}
use Rattle.node_core.specs.declared.timer.Timer.TheVariants.{Start as FlowStarts, Retransmission, DelayedAcknowledgement, Free as BecomesFree}
use Rattle.node_core.specs.declared.event.Event.{Event}
use Rattle.node_core.specs.declared.event.Event.TheVariants.{Start, Rto, DelAck, Free}
use Rattle.node_core.specs.Timers.{timer_key, timer_number}
use Rattle.node_core.specs.Part.{LinkState, link_at}
use Rattle.node_core.specs.TraceLine.{TraceLine}
use Rattle.tournament.specs.Keyed.{apply}
use Rattle.tournament.proofs.Maps.{not_some, same_some, get_here, get_other}
use Rattle.table_run.specs.State.{State, part_at}
use Rattle.table_run.specs.Flow.{IsUnderWay}
use Rattle.table_run.specs.Sound.{Belongs, IsPendingWhereSet, TimersArePending, StartsWait, NothingSentBefore, IsLinkOf, IsStart, IsSoundAt}
use Rattle.table_run.proofs.Lists.{all_left, all_right}
use Rattle.table_run.proofs.Due.{IsDue}
use Rattle.table_run.proofs.PortMoves.{Outcome}
use Rattle.table_run.proofs.Changes.{IsAside, row_changes, row_aside, row_busy, row_rto_timer}
use Rattle.table_run.proofs.Moved.{Shape, IsMoved, AtChanged, AtOther, link_before, link_cases, link_back}
use Rattle.table_run.proofs.Rows.{IsRow, IsOffered, IsFreed, RtoTimerStays, RtoTimerMoves}

module _ (p : ScenarioParts) (lines : List TraceLine) (now : ℕ) (s t : State) (k : Key) (v : Event) (r : Shape) (S : IsSoundAt p lines now s) (due : IsDue s k v) (M : IsMoved s k r t) (R : IsRow p s k v r t) where
  abbrev D : Packet → Type 0
  D = IsUnderWay p t (link_before s k r).port.link

  abbrev links_t : List LinkState
  links_t = (part_at t k.node).links

  -- what lies aside of the row is as before
  stays_pending : (q : Key) → q ≢ k → IsAside k.node r.timer r.event links_t r.index r.old r.new r.step.departure q → finmap.get t.pending q ≡ finmap.get s.pending q
  stays_pending q other aside = ap (λ m. finmap.get m q) M.pending_is ∙ row_aside k.node r.timer r.event links_t r.index (finmap.remove s.pending k) r.old r.new r.step.departure q aside ∙ get_other s.pending k None q other

  no_source : (q : Key) (link : ℕ) → q.source ≡ 0 → q.source ≡ link + 1 → ⊥
  no_source q link a b = omega (arith, a, b)

  -- a small timer, under no key of the timer that moves
  small_aside : (node : ℕ) (timer : Timer) (time : ℕ) → timer_number timer ≤ 2 → ((u : ℕ) → r.old ≡ Some u → timer_key node timer time ≢ timer_key k.node r.timer u) → ((u : ℕ) → r.new ≡ Some u → timer_key node timer time ≢ timer_key k.node r.timer u)
      → IsAside k.node r.timer r.event links_t r.index r.old r.new r.step.departure (timer_key node timer time)
  small_aside node timer time small old new = record {
    not_cleared = old;
    not_set = new;
    not_busy = λ d is same. (let number : timer_number timer ≡ 3 + r.index = ap (λ (q : Key). q.number) same in absurd (omega (arith, number, small)));
    not_coming = λ d is same. no_source (timer_key node timer time) (link_at links_t r.index).port.link refl (ap (λ (q : Key). q.source) same);
  }

  -- a timer
  stays_set : (node : ℕ) (timer : Timer) (event : Event) (o : Option ℕ) → timer_number timer ≤ 2 → RtoTimerStays k r node timer o o → IsPendingWhereSet s.pending (timer_key node timer) event o → IsPendingWhereSet t.pending (timer_key node timer) event o
  stays_set node timer event None small stays set = tt
  stays_set node timer event (Some u) small stays set = stays_pending (timer_key node timer u) (stays.not_due u) (small_aside node timer u small (stays.not_old u) (stays.not_new u)) ∙ set

  moves_set : (o : Option ℕ) → r.new ≡ o → IsPendingWhereSet t.pending (timer_key k.node r.timer) r.event o
  moves_set None is = tt
  moves_set (Some u) is =
      ap (λ m. finmap.get m (timer_key k.node r.timer u)) M.pending_is
      ∙ ap (λ o. finmap.get (apply (row_changes k.node r.timer r.event r.old o links_t r.index r.step.departure) (finmap.remove s.pending k)) (timer_key k.node r.timer u)) is
      ∙ row_rto_timer k.node r.timer r.event links_t r.index (finmap.remove s.pending k) r.old u r.step.departure (λ d is same. let number : timer_number r.timer ≡ 3 + r.index = ap (λ (q : Key). q.number) same in let small = R.timer_most in absurd (omega (arith, number, small)))

  a_rto_timer : (node : ℕ) (timer : Timer) (event : Event) (before after : Option ℕ) → timer_number timer ≤ 2 → RtoTimerStays k r node timer before after ⊎ RtoTimerMoves k r node timer event before after
      → IsPendingWhereSet s.pending (timer_key node timer) event before → IsPendingWhereSet t.pending (timer_key node timer) event after
  a_rto_timer node timer event before after small h set =
      ⊎_elim
      (λ (x : RtoTimerStays k r node timer before after). subst (IsPendingWhereSet t.pending (timer_key node timer) event) (sym x.same) (stays_set node timer event before small (record { same = refl; not_due = x.not_due; not_old = x.not_old; not_new = x.not_new }) set))
      (λ (x : RtoTimerMoves k r node timer event before after).
      let place : (k.node, r.timer, r.event, r.new) ≡ (node, timer, event, after) = λ i. (sym x.at_node i, sym x.is_timer i, sym x.is_event i, sym x.is_now i) in
      subst (λ (y : ℕ × Timer × Event × Option ℕ). IsPendingWhereSet t.pending (timer_key y.0 y.1) y.2 y.3) place (moves_set r.new refl))
      h

  -- the timer of a link that isn't the row's
  other_busy : (node index number : ℕ) (o : Option ℕ) → (node ≡ k.node → index ≢ r.index) → IsPendingWhereSet s.pending (timer_key node (BecomesFree index)) (Free number) o → IsPendingWhereSet t.pending (timer_key node (BecomesFree index)) (Free number) o
  other_busy node index number None apart set = tt
  other_busy node index number (Some u) apart set =
      stays_pending (timer_key node (BecomesFree index) u)
      (λ same. ⊎_elim (λ (o : IsOffered s k r R.before). o.not_free node index u same)
      (λ (f : IsFreed s k r R.before). apart (ap (λ (q : Key). q.node) same) (let number : 3 + index ≡ 3 + r.index = ap (λ (q : Key). q.number) (same ∙ f.is_key) in omega (arith, number))) R.entered)
      (record {
        not_cleared = λ x is same. large x (ap (λ (q : Key). q.number) same);
        not_set = λ x is same. large x (ap (λ (q : Key). q.number) same);
        not_busy = λ d is same. apart (ap (λ (q : Key). q.node) same) (let number : 3 + index ≡ 3 + r.index = ap (λ (q : Key). q.number) same in omega (arith, number));
        not_coming = λ d is same. no_source (timer_key node (BecomesFree index) u) (link_at links_t r.index).port.link refl (ap (λ (q : Key). q.source) same);
      })
      ∙ set
    where
      large : (x : ℕ) → 3 + index ≡ timer_number r.timer → ⊥
      large x e = let small = R.timer_most in omega (arith, e, small)

  -- the timer of the row's link, where nothing leaves
  still_busy : (number : ℕ) (o : Option ℕ) → r.step.departure ≡ None → IsOffered s k r R.before → IsPendingWhereSet s.pending (timer_key k.node (BecomesFree r.index)) (Free number) o → IsPendingWhereSet t.pending (timer_key k.node (BecomesFree r.index)) (Free number) o
  still_busy number None none offered set = tt
  still_busy number (Some u) none offered set =
      stays_pending (timer_key k.node (BecomesFree r.index) u) (offered.not_free k.node r.index u)
      (record {
        not_cleared = λ x is same. large (ap (λ (q : Key). q.number) same);
        not_set = λ x is same. large (ap (λ (q : Key). q.number) same);
        not_busy = λ d is same. absurd (not_some (sym none ∙ is));
        not_coming = λ d is same. absurd (not_some (sym none ∙ is));
      })
      ∙ set
    where
      large : 3 + r.index ≡ timer_number r.timer → ⊥
      large e = let small = R.timer_most in omega (arith, e, small)

  own_busy : (number : ℕ) (d : Option Departure) → r.step.departure ≡ d → Outcome D k.time R.before (link_before s k r).port r.step.port d → (link_at links_t r.index).port.link ≡ number
      → IsPendingWhereSet s.pending (timer_key k.node (BecomesFree r.index)) (Free number) (link_before s k r).port.next_free → IsPendingWhereSet t.pending (timer_key k.node (BecomesFree r.index)) (Free number) r.step.port.next_free
  own_busy number None is h number_is set =
      subst (IsPendingWhereSet t.pending (timer_key k.node (BecomesFree r.index)) (Free number)) (sym h.0)
      (⊎_elim
      (λ (o : IsOffered s k r R.before). subst (IsPendingWhereSet t.pending (timer_key k.node (BecomesFree r.index)) (Free number)) (sym o.same) (still_busy number (link_before s k r).port.next_free is o set))
      (λ (f : IsFreed s k r R.before). subst (IsPendingWhereSet t.pending (timer_key k.node (BecomesFree r.index)) (Free number)) (sym f.idle) tt)
      R.entered)
  own_busy number (Some d) is h number_is set =
      subst (IsPendingWhereSet t.pending (timer_key k.node (BecomesFree r.index)) (Free number)) (sym h.busy)
      (ap (λ m. finmap.get m (timer_key k.node (BecomesFree r.index) d.free)) M.pending_is
      ∙ ap (λ o. finmap.get (apply (row_changes k.node r.timer r.event r.old r.new links_t r.index o) (finmap.remove s.pending k)) (timer_key k.node (BecomesFree r.index) d.free)) is
      ∙ row_busy k.node r.timer r.event links_t r.index (finmap.remove s.pending k) r.old r.new d
      ∙ ap (λ n. Some (Free n)) number_is)

  a_link : (node index number : ℕ) → IsLinkOf t node index number → IsPendingWhereSet t.pending (timer_key node (BecomesFree index)) (Free number) (link_at (part_at t node).links index).port.next_free
  a_link node index number is =
      let set = S.timers.busy node index number (link_back s t k r M R.within R.moves.stays node index number is) in
      ⊎_elim
      (λ (c : AtChanged s t k r node index).
      let place : (node, index) ≡ (k.node, r.index) = λ i. (c.at_node i, c.at_index i) in
      subst (λ (x : ℕ × ℕ). IsPendingWhereSet t.pending (timer_key x.0 (BecomesFree x.1)) (Free number) (link_at (part_at t node).links index).port.next_free) (sym place)
      (subst (IsPendingWhereSet t.pending (timer_key k.node (BecomesFree r.index)) (Free number)) (sym (ap (λ (l : LinkState). l.port.next_free) c.link_is))
      (own_busy number r.step.departure refl R.moves.outcome (ap (λ (x : ℕ × ℕ). (link_at (part_at t x.0).links x.1).port.link) (sym place) ∙ is.its_number)
      (subst (λ (x : ℕ × ℕ). IsPendingWhereSet s.pending (timer_key x.0 (BecomesFree x.1)) (Free number) (link_at (part_at s x.0).links x.1).port.next_free) place set))))
      (λ (o : AtOther s t k r node index).
      subst (IsPendingWhereSet t.pending (timer_key node (BecomesFree index)) (Free number)) (sym (ap (λ (l : LinkState). l.port.next_free) o.link_is)) (other_busy node index number (link_at (part_at s node).links index).port.next_free o.apart set))
      (link_cases s t k r M R.within node index)

  pub timers_after : TimersArePending p t
  timers_after = record {
    rto_timers = λ number flow its. a_rto_timer flow.sender Retransmission (Rto number) _ _ (omega arith) (R.rto_timers number flow its) (S.timers.rto_timers number flow its);
    delayed = λ number flow its. a_rto_timer flow.receiver DelayedAcknowledgement (DelAck number) _ _ (omega arith) (R.delayed number flow its) (S.timers.delayed number flow its);
    busy = a_link;
  }

  start_aside : (node time : ℕ) → IsAside k.node r.timer r.event links_t r.index r.old r.new r.step.departure (timer_key node FlowStarts time)
  start_aside node time = small_aside node FlowStarts time (omega arith) (λ u is same. none (ap (λ (q : Key). q.number) same)) (λ u is same. none (ap (λ (q : Key). q.number) same))
    where
      none : 0 ≡ timer_number r.timer → ⊥
      none e = let least = R.timer_least in omega (arith, e, least)

  -- a start's key is the event's only where the event is that start
  start_key : (number : ℕ) (flow : FlowPart) → slice_get p.flows number ≡ Some flow → v ≡ Start number → k ≡ timer_key flow.sender FlowStarts flow.start
  start_key number flow its is =
      let h : IsStart p k number = subst (Belongs p s now k) is (S.belongs k v due.pending) in
      h.is_key ∙ ap (λ (f : FlowPart). timer_key f.sender FlowStarts f.start) (same_some h.flow flow (sym h.its_flow ∙ its))

  pub starts_after : (line : TraceLine) → line.event ≡ v → StartsWait p (lines ++ line ∷ []) t.pending
  starts_after line event_is = record {
    waits = λ number flow its none.
        let q = timer_key flow.sender FlowStarts flow.start in
        let there = S.starts.waits number flow its (all_left (λ (l : TraceLine). l.event ≢ Start number) lines (line ∷ []) none) in
        stays_pending q (λ same. (all_right (λ (l : TraceLine). l.event ≢ Start number) lines (line ∷ []) none).0 (event_is ∙ same_some v (Start number) (sym due.pending ∙ ap (finmap.get s.pending) (sym same) ∙ there))) (start_aside flow.sender flow.start) ∙ there;
    run_once = λ number flow its ran.
        let q = timer_key flow.sender FlowStarts flow.start in
        let gone = row_aside k.node r.timer r.event links_t r.index (finmap.remove s.pending k) r.old r.new r.step.departure q (start_aside flow.sender flow.start) in
        ap (λ m. finmap.get m q) M.pending_is ∙ gone
        ∙ ⊎_elim
        (λ (before : Contains (map (λ (l : TraceLine). l.event) lines) (Start number)). removed q (S.starts.run_once number flow its before))
        (λ (here : Contains (line.event ∷ []) (Start number)). let is : k ≡ q = start_key number flow its (sym event_is ∙ only_one line.event (Start number) here) in ap (λ j. finmap.get (finmap.remove s.pending j) q) is ∙ get_here s.pending q None)
        (Contains-append_cases (map (λ (l : TraceLine). l.event) lines) (line.event ∷ []) (Start number) (subst (λ es. Contains es (Start number)) (map-append (λ (l : TraceLine). l.event) lines (line ∷ [])) ran));
  }
    where
      removed : (q : Key) → finmap.get s.pending q ≡ None → finmap.get (finmap.remove s.pending k) q ≡ None
      removed q none = get_other s.pending k None q (λ same. not_some (sym none ∙ ap (finmap.get s.pending) same ∙ due.pending)) ∙ none

      only_at : (x y : Event) (i : ℕ) → i < 1 → get_or (x ∷ []) i y ≡ y → x ≡ y
      only_at x y zero within is = is
      only_at x y (suc i) within is = absurd (omega (arith, within))

      only_one : (x y : Event) → Contains (x ∷ []) y → x ≡ y
      only_one x y h = only_at x y h.0 h.1 h.2

  pub unstarted_after : NothingSentBefore p t
  unstarted_after number flow its there =
      let q = timer_key flow.sender FlowStarts flow.start in
      let kept = ap (λ m. finmap.get m q) M.pending_is ∙ row_aside k.node r.timer r.event links_t r.index (finmap.remove s.pending k) r.old r.new r.step.departure q (start_aside flow.sender flow.start) in
      R.unsent number flow its
      (S.unstarted number flow its (sym (get_other s.pending k None q (λ same. absurd (gone q same kept there))) ∙ sym kept ∙ there))
      (λ is. gone q (sym (start_key number flow its is)) kept there)
    where
      gone : (q : Key) → q ≡ k → finmap.get t.pending q ≡ finmap.get (finmap.remove s.pending k) q → finmap.get t.pending q ≡ Some (Start number) → ⊥
      gone q same kept there = not_some (sym (get_here s.pending k None) ∙ ap (finmap.get (finmap.remove s.pending k)) (sym same) ∙ sym kept ∙ there)
