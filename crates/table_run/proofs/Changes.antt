-- What the changes of a row leave pending: what was, but for the event and the timer that it moves, and what they set.
use Rattle.std.proofs.Common.{◌≡◌, ◌≢◌, ℕ, ◌+◌, true, false, cond, List, [], ◌∷◌, ◌++◌, refl, sym, ap, ◌∙◌, Option, Some, None, arith, inl, inr, ◌⊎◌, ⊎_elim, true≢false}
use Rattle.std.specs.List.{AllByRecursion}
use Rattle.std.specs.FinMap as map
use Rattle.std.specs.Ordering.{eq_by_cmp}
use Rattle.sim_time.specs.declared.key.Key.{Key}
use Rattle.sim_time.specs.Keys.{key_cmp}
use Rattle.sim_time.proofs.Order.{exact_keys}
use Rattle.port.specs.Port.{Departure}
use Rattle.node_core.specs.declared.timer.Timer.{Timer}
use Rattle.node_core.specs.declared.timer.Timer.TheVariants.{Free as BecomesFree}
use Rattle.node_core.specs.declared.event.Event.{Event}
use Rattle.node_core.specs.declared.event.Event.TheVariants.{Free, Arrive}
use Rattle.node_core.specs.Timers.{timer_key, arrival_key, timer_cleared}
use Rattle.node_core.specs.Part.{LinkState, link_at}
use Rattle.node_core.specs.Pending.{Events, EventChange}
use Rattle.node_core.specs.Row.{timer_moved, leaving_over, made_at_home, sent_away}
use Rattle.tournament.specs.Keyed.{apply, changed}
use Rattle.tournament.proofs.Maps.{not_some, same_some, is_equal, get-changed, get_here, get_other, tied}

pub apply-append : (cs ds : List EventChange) (m : Events) → apply (cs ++ ds) m ≡ apply ds (apply cs m)
apply-append [] ds m = refl
apply-append (c ∷ cs) ds m = apply-append cs ds (changed m c.0 c.1)

-- changes under other keys
pub applied_elsewhere : (q : Key) (cs : List EventChange) (m : Events) → AllByRecursion (λ (c : EventChange). q ≢ c.0) cs → map.get (apply cs m) q ≡ map.get m q
applied_elsewhere q [] m all = refl
applied_elsewhere q (c ∷ cs) m all = applied_elsewhere q cs (changed m c.0 c.1) all.1 ∙ get_other m c.0 c.1 q all.0

-- what is pending after a change was, under another key, or is what was put
pub of_changed : (m : Events) (k : Key) (o : Option Event) (q : Key) (w : Event) → map.get (changed m k o) q ≡ Some w → ((q ≡ k) × (o ≡ Some w)) ⊎ ((q ≢ k) × (map.get m q ≡ Some w))
of_changed m k o q w e =
    elim (eq_by_cmp key_cmp q k) as (λ b. eq_by_cmp key_cmp q k ≡ b → ((q ≡ k) × (o ≡ Some w)) ⊎ ((q ≢ k) × (map.get m q ≡ Some w))) [
      | true ↦ λ t. let same : q ≡ k = exact_keys q k (is_equal _ t) in inl (same, sym (get_here m k o) ∙ ap (map.get (changed m k o)) (sym same) ∙ e)
      | false ↦ λ t. inr (λ same. true≢false (sym (tied k) ∙ ap (λ x. eq_by_cmp key_cmp x k) (sym same) ∙ t), sym (get-changed m k o q ∙ ap (λ b. cond b o (map.get m q)) t) ∙ e)
    ] refl

-- a row: the timer of a node moves, and perhaps a packet leaves over one of its links
abbrev pub row_changes : ℕ → Timer → Event → Option ℕ → Option ℕ → List LinkState → ℕ → Option Departure → List EventChange
row_changes node timer event old new links index departure =
    (timer_moved (timer_key node timer) event old new ++ made_at_home node links (leaving_over index departure)) ++ sent_away links (leaving_over index departure)

-- the key under which a packet arrives over a link
abbrev pub coming : List LinkState → ℕ → Departure → Key
coming links index d = arrival_key (link_at links index).to (link_at links index).port.link d.arrival (link_at links index).port.sent

-- what a row sets
pub data IsSet (node : ℕ) (timer : Timer) (event : Event) (new : Option ℕ) (links : List LinkState) (index : ℕ) (departure : Option Departure) (q : Key) (w : Event) : Type 0 where
  rto_timer : (t : ℕ) → new ≡ Some t → q ≡ timer_key node timer t → w ≡ event → IsSet node timer event new links index departure q w
  busy : (d : Departure) → departure ≡ Some d → q ≡ timer_key node (BecomesFree index) d.free → w ≡ Free (link_at links index).port.link → IsSet node timer event new links index departure q w
  arrival : (d : Departure) → departure ≡ Some d → q ≡ coming links index d → w ≡ Arrive d.packet → IsSet node timer event new links index departure q w

-- it was pending before, and the timer that was moved isn't under its key
pub record WasPending (m : Events) (node : ℕ) (timer : Timer) (old : Option ℕ) (q : Key) (w : Event) : Type 0 where
  pub there : map.get m q ≡ Some w
  pub not_moved : (t : ℕ) → old ≡ Some t → q ≢ timer_key node timer t

module _ (node : ℕ) (timer : Timer) (event : Event) (links : List LinkState) (index : ℕ) where
  of_cleared : (m : Events) (old : Option ℕ) (q : Key) (w : Event) → map.get (apply (timer_cleared (timer_key node timer) old) m) q ≡ Some w → WasPending m node timer old q w
  of_cleared m None q w e = record { there = e; not_moved = λ t is. absurd (not_some is) }
  of_cleared m (Some d) q w e =
      ⊎_elim (λ (h : (q ≡ timer_key node timer d) × (None ≡ Some w)). absurd (not_some h.1))
      (λ (h : (q ≢ timer_key node timer d) × (map.get m q ≡ Some w)). record { there = h.1; not_moved = λ t is same. h.0 (same ∙ ap (timer_key node timer) (sym (same_some d t is))) })
      (of_changed m (timer_key node timer d) None q w e)

  of_rto_timer : (m : Events) (old new : Option ℕ) (departure : Option Departure) (q : Key) (w : Event) → map.get (apply (timer_moved (timer_key node timer) event old new) m) q ≡ Some w
      → WasPending m node timer old q w ⊎ IsSet node timer event new links index departure q w
  of_rto_timer m old None departure q w e = inl (of_cleared m old q w (ap (λ (x : Events). map.get x q) (sym (apply-append (timer_cleared (timer_key node timer) old) [] m)) ∙ e))
  of_rto_timer m old (Some t) departure q w e =
      ⊎_elim (λ (h : (q ≡ timer_key node timer t) × (Some event ≡ Some w)). inr (rto_timer t refl h.0 (sym (same_some event w h.1))))
      (λ (h : (q ≢ timer_key node timer t) × (map.get (apply (timer_cleared (timer_key node timer) old) m) q ≡ Some w)). inl (of_cleared m old q w h.1))
      (of_changed (apply (timer_cleared (timer_key node timer) old) m) (timer_key node timer t) (Some event) q w
      (ap (λ (x : Events). map.get x q) (sym (apply-append (timer_cleared (timer_key node timer) old) ((timer_key node timer t, Some event) ∷ []) m)) ∙ e))

  -- the row's changes, one part after another
  in_turn : (m : Events) (old new : Option ℕ) (departure : Option Departure) → apply (row_changes node timer event old new links index departure) m
      ≡ apply (sent_away links (leaving_over index departure)) (apply (made_at_home node links (leaving_over index departure)) (apply (timer_moved (timer_key node timer) event old new) m))
  in_turn m old new departure =
      apply-append (timer_moved (timer_key node timer) event old new ++ made_at_home node links (leaving_over index departure)) (sent_away links (leaving_over index departure)) m
      ∙ ap (apply (sent_away links (leaving_over index departure))) (apply-append (timer_moved (timer_key node timer) event old new) (made_at_home node links (leaving_over index departure)) m)

  -- what is pending after a row was before, or the row has set it
  pub of_row : (m : Events) (old new : Option ℕ) (departure : Option Departure) (q : Key) (w : Event) → map.get (apply (row_changes node timer event old new links index departure) m) q ≡ Some w
      → WasPending m node timer old q w ⊎ IsSet node timer event new links index departure q w
  of_row m old new None q w e = of_rto_timer m old new None q w (ap (λ (x : Events). map.get x q) (sym (in_turn m old new None)) ∙ e)
  of_row m old new (Some d) q w e =
      let first = apply (timer_moved (timer_key node timer) event old new) m in
      ⊎_elim (λ (h : (q ≡ coming links index d) × (Some (Arrive d.packet) ≡ Some w)). inr (arrival d refl h.0 (sym (same_some (Arrive d.packet) w h.1))))
      (λ (h : (q ≢ coming links index d) × (map.get (changed first (timer_key node (BecomesFree index) d.free) (Some (Free (link_at links index).port.link))) q ≡ Some w)).
      ⊎_elim (λ (g : (q ≡ timer_key node (BecomesFree index) d.free) × (Some (Free (link_at links index).port.link) ≡ Some w)). inr (busy d refl g.0 (sym (same_some (Free (link_at links index).port.link) w g.1))))
      (λ (g : (q ≢ timer_key node (BecomesFree index) d.free) × (map.get first q ≡ Some w)). of_rto_timer m old new (Some d) q w g.1)
      (of_changed first (timer_key node (BecomesFree index) d.free) (Some (Free (link_at links index).port.link)) q w h.1))
      (of_changed (changed first (timer_key node (BecomesFree index) d.free) (Some (Free (link_at links index).port.link))) (coming links index d) (Some (Arrive d.packet)) q w
      (ap (λ (x : Events). map.get x q) (sym (in_turn m old new (Some d))) ∙ e))

  -- what lies under none of the row's keys stays
  pub record IsAside (old new : Option ℕ) (departure : Option Departure) (q : Key) : Type 0 where
    pub not_cleared : (t : ℕ) → old ≡ Some t → q ≢ timer_key node timer t
    pub not_set : (t : ℕ) → new ≡ Some t → q ≢ timer_key node timer t
    pub not_busy : (d : Departure) → departure ≡ Some d → q ≢ timer_key node (BecomesFree index) d.free
    pub not_coming : (d : Departure) → departure ≡ Some d → q ≢ coming links index d

  rto_timer_aside : (m : Events) (old new : Option ℕ) (q : Key) → ((t : ℕ) → old ≡ Some t → q ≢ timer_key node timer t) → ((t : ℕ) → new ≡ Some t → q ≢ timer_key node timer t)
      → map.get (apply (timer_moved (timer_key node timer) event old new) m) q ≡ map.get m q
  rto_timer_aside m None None q a b = refl
  rto_timer_aside m None (Some t) q a b = get_other m (timer_key node timer t) (Some event) q (b t refl)
  rto_timer_aside m (Some d) None q a b = get_other m (timer_key node timer d) None q (a d refl)
  rto_timer_aside m (Some d) (Some t) q a b = get_other (changed m (timer_key node timer d) None) (timer_key node timer t) (Some event) q (b t refl) ∙ get_other m (timer_key node timer d) None q (a d refl)

  pub row_aside : (m : Events) (old new : Option ℕ) (departure : Option Departure) (q : Key) → IsAside old new departure q → map.get (apply (row_changes node timer event old new links index departure) m) q ≡ map.get m q
  row_aside m old new None q aside = ap (λ (x : Events). map.get x q) (in_turn m old new None) ∙ rto_timer_aside m old new q aside.not_cleared aside.not_set
  row_aside m old new (Some d) q aside =
      ap (λ (x : Events). map.get x q) (in_turn m old new (Some d))
      ∙ get_other (changed (apply (timer_moved (timer_key node timer) event old new) m) (timer_key node (BecomesFree index) d.free) (Some (Free (link_at links index).port.link))) (coming links index d) (Some (Arrive d.packet)) q (aside.not_coming d refl)
      ∙ get_other (apply (timer_moved (timer_key node timer) event old new) m) (timer_key node (BecomesFree index) d.free) (Some (Free (link_at links index).port.link)) q (aside.not_busy d refl)
      ∙ rto_timer_aside m old new q aside.not_cleared aside.not_set

  -- the link's timer is pending once a packet leaves
  pub row_busy : (m : Events) (old new : Option ℕ) (d : Departure) → map.get (apply (row_changes node timer event old new links index (Some d)) m) (timer_key node (BecomesFree index) d.free) ≡ Some (Free (link_at links index).port.link)
  row_busy m old new d =
      let first = apply (timer_moved (timer_key node timer) event old new) m in
      ap (λ (x : Events). map.get x (timer_key node (BecomesFree index) d.free)) (in_turn m old new (Some d))
      ∙ get_other (changed first (timer_key node (BecomesFree index) d.free) (Some (Free (link_at links index).port.link))) (coming links index d) (Some (Arrive d.packet)) (timer_key node (BecomesFree index) d.free)
      (λ same. not_first (link_at links index).port.link (ap (λ (k : Key). k.source) same))
      ∙ get_here first (timer_key node (BecomesFree index) d.free) (Some (Free (link_at links index).port.link))
    where
      not_first : (link : ℕ) → 0 ≡ link + 1 → ⊥
      not_first link e = omega (arith, e)

  -- the timer is pending once it is set, where it is no link's timer
  pub row_rto_timer : (m : Events) (old : Option ℕ) (t : ℕ) (departure : Option Departure) → ((d : Departure) → departure ≡ Some d → timer_key node timer t ≢ timer_key node (BecomesFree index) d.free)
      → map.get (apply (row_changes node timer event old (Some t) links index departure) m) (timer_key node timer t) ≡ Some event
  row_rto_timer m old t departure apart = ap (λ (x : Events). map.get x (timer_key node timer t)) (in_turn m old (Some t) departure) ∙ later departure apart ∙ set old
    where
      not_first : (link : ℕ) → 0 ≡ link + 1 → ⊥
      not_first link e = omega (arith, e)

      later : (departure : Option Departure) → ((d : Departure) → departure ≡ Some d → timer_key node timer t ≢ timer_key node (BecomesFree index) d.free)
          → map.get (apply (sent_away links (leaving_over index departure)) (apply (made_at_home node links (leaving_over index departure)) (apply (timer_moved (timer_key node timer) event old (Some t)) m))) (timer_key node timer t)
          ≡ map.get (apply (timer_moved (timer_key node timer) event old (Some t)) m) (timer_key node timer t)
      later None apart = refl
      later (Some d) apart =
          get_other (changed (apply (timer_moved (timer_key node timer) event old (Some t)) m) (timer_key node (BecomesFree index) d.free) (Some (Free (link_at links index).port.link))) (coming links index d) (Some (Arrive d.packet)) (timer_key node timer t)
          (λ same. not_first (link_at links index).port.link (ap (λ (k : Key). k.source) same))
          ∙ get_other (apply (timer_moved (timer_key node timer) event old (Some t)) m) (timer_key node (BecomesFree index) d.free) (Some (Free (link_at links index).port.link)) (timer_key node timer t) (apart d refl)

      set : (old : Option ℕ) → map.get (apply (timer_moved (timer_key node timer) event old (Some t)) m) (timer_key node timer t) ≡ Some event
      set None = get_here m (timer_key node timer t) (Some event)
      set (Some d) = get_here (changed m (timer_key node timer d) None) (timer_key node timer t) (Some event)
