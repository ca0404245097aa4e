-- When CoDel's drop state begins and ends, and how its drops are counted.
use Rattle.std.proofs.Common.{◌≡◌, ℕ, zero, suc, ◌+◌, ◌-◌, ◌*◌, ◌<◌, ◌≤◌, min, Bool, true, false, cond, ◌&&◌, ◌||◌, leb, ltb, List, [], ◌∷◌, length, map, take, drop, refl, sym, ap, subst, ◌∙◌, Option, Some, None, ◌⊎◌, ⊎_elim, arith, true≢false}
use Rattle.std.specs.Prelude.{slice_get, IsSomeAnd}
use Rattle.std.proofs.lemmas.Bool.{and_left, and_right, or_left, or_right, lt-ltb, le-ltb, lt-leb, le-leb}
use Rattle.sim_time.specs.ControlLaw.{gap_of}
use Rattle.packet_chain.specs.declared.packet.Packet.{Packet}
use Rattle.packet_chain.specs.Stamped.{Stamped, bytes_of}
use Rattle.aqm.specs.declared.queue.Queue.TheVariants.{Codel}
use Rattle.aqm.specs.Codel.{CodelState}
use Rattle.aqm.specs.Drops.{drop_due, drops, after_drops}
use Rattle.aqm.specs.Judgement.{Judgement, cleared, above_target, judged, judgement}
use Rattle.aqm.specs.Queue.{waiting_in, taken_from}
use Rattle.aqm.specs.Taken.{CodelTaken, codel_taken, first_count, after_one, after_first_drop}
use Rattle.aqm.proofs.CodelBefore.{same_codel}
use Rattle.aqm.proofs.Front.{drops_in_drop_state}
use Rattle.aqm.proofs.TakenCases.{taken_in_drop_state, taken_at_first_drop, taken_undropped}
use Rattle.port.specs.Port.{PortState, PortStep, taken, offered_all}
use Rattle.port.specs.declared.acts.Act.{Act}
use Rattle.tournament.proofs.Maps.{not_some, same_some}
use Rattle.run_laws.specs.Laws.{IsKept}
use Rattle.run_laws.specs.Links.{AtEachLink, IsAbove, IsBelow, DropsNothing, EntersDropState, KeepsDropState, BeginsDropState, AreAbove, CountsDrops}
use Rattle.run_laws.proofs.Causes.{drops_in, due_is, take_drops, queue_after, Idle, idle, as_many_dropped, sends_where_empty}
use Rattle.run_laws.proofs.Ports.{sends}
use Rattle.run_laws.proofs.Touched.{Touches, by_offers, by_offer, by_take}
use Rattle.run_laws.proofs.Turns.{at_each_link, one_list}

judged_below : (s : CodelState) (now left : ℕ) (cell : Stamped) (first_above : Option ℕ) → IsBelow s now left cell → judged s now (Some cell) left first_above ≡ cleared
judged_below s now left cell first_above below =
    ap (λ b. cond b cleared (above_target s.interval now first_above))
    (⊎_elim (λ (short : now - cell.1 < s.target). or_left _ (leb left s.maxpacket) (lt-ltb (now - cell.1) s.target short)) (λ (few : left ≤ s.maxpacket). or_right (ltb (now - cell.1) s.target) _ (le-leb left s.maxpacket few)) below)

judged_above : (s : CodelState) (now left : ℕ) (cell : Stamped) (first_above : Option ℕ) → IsAbove s now left cell → judged s now (Some cell) left first_above ≡ above_target s.interval now first_above
judged_above s now left cell first_above above =
    ap (λ b. cond (b || leb left s.maxpacket) cleared (above_target s.interval now first_above)) (le-ltb (now - cell.1) s.target above.waited)
    ∙ ap (λ b. cond b cleared (above_target s.interval now first_above)) (lt-leb left s.maxpacket above.behind)

first_taken : (ws : List Stamped) (cell : Stamped) → slice_get ws 0 ≡ Some cell → take 1 ws ≡ cell ∷ []
first_taken [] cell e = absurd (not_some e)
first_taken (w ∷ ws) cell e = ap (λ (c : Stamped). c ∷ []) (same_some w cell e)

module _ (now : ℕ) (s : CodelState) (cell : Stamped) (head : slice_get s.fifo.waiting 0 ≡ Some cell) where
  abbrev left : ℕ
  left = bytes_of (drop 1 s.fifo.waiting)

  at_head : judgement s now 0 ≡ judged s now (Some cell) left s.first_above
  at_head = ap (λ o. judged s now o left s.first_above) head

  -- what is told of the take
  module _ (off : s.dropping ≡ false) (acts : List Act) (q : CodelState) (is : q ≡ (codel_taken s now).queue) (told : drops_in acts ≡ map (λ (c : Stamped). c.0) (codel_taken s now).dropped) where
    goes_on : (j : Judgement) → judgement s now 0 ≡ j → j.ok ≡ false → DropsNothing acts q j.first_above
    goes_on j here not_ok =
        let taken = taken_undropped s now off (ap (λ (x : Judgement). x.ok) here ∙ not_ok) in
        record {
          first_above_is = ap (λ (x : CodelState). x.first_above) is ∙ ap (λ (x : CodelTaken). x.queue.first_above) taken ∙ ap (λ (x : Judgement). x.first_above) here;
          outside = ap (λ (x : CodelState). x.dropping) is ∙ ap (λ (x : CodelTaken). x.queue.dropping) taken ∙ off;
          none_dropped = told ∙ ap (λ (x : CodelTaken). map (λ (c : Stamped). c.0) x.dropped) taken;
        }

    drops_head : (judgement s now 0).ok ≡ true → (q.dropping ≡ true) × (drops_in acts ≡ cell.0 ∷ [])
    drops_head ok =
        let taken = taken_at_first_drop s now off ok in (
          ap (λ (x : CodelState). x.dropping) is ∙ ap (λ (x : CodelTaken). x.queue.dropping) taken,
          told ∙ ap (λ (x : CodelTaken). map (λ (c : Stamped). c.0) x.dropped) taken ∙ ap (map (λ (c : Stamped). c.0)) (first_taken s.fifo.waiting cell head),
        )

    enters : EntersDropState now s cell acts q
    enters = record {
      below = λ b. goes_on cleared (at_head ∙ judged_below s now left cell s.first_above b) refl;
      first = λ a none. goes_on (record { first_above = Some (now + s.interval); ok = false }) (at_head ∙ judged_above s now left cell s.first_above a ∙ ap (above_target s.interval now) none) refl;
      early = λ t a some before. goes_on (record { first_above = Some t; ok = leb t now }) (at_head ∙ judged_above s now left cell s.first_above a ∙ ap (above_target s.interval now) some) (lt-leb t now before);
      due = λ t a some upto. drops_head (ap (λ (x : Judgement). x.ok) (at_head ∙ judged_above s now left cell s.first_above a ∙ ap (above_target s.interval now) some) ∙ le-leb t now upto);
    }

-- the judgement of a packet below target is the same whatever came before it
cleared_at : (s : CodelState) (now k : ℕ) (cell : Stamped) → slice_get s.fifo.waiting k ≡ Some cell → IsBelow s now (bytes_of (drop (k + 1) s.fifo.waiting)) cell → judgement s now k ≡ cleared
cleared_at s now zero cell there below = ap (λ o. judged s now o (bytes_of (drop 1 s.fifo.waiting)) s.first_above) there ∙ judged_below s now (bytes_of (drop 1 s.fifo.waiting)) cell s.first_above below
cleared_at s now (suc j) cell there below =
    ap (λ o. judged s now o (bytes_of (drop (suc j + 1) s.fifo.waiting)) (judgement s now j).first_above) there ∙ judged_below s now (bytes_of (drop (suc j + 1) s.fifo.waiting)) cell (judgement s now j).first_above below

-- the queue after a take, and what is told of it
queue_is : (now : ℕ) (old : PortState) (s q : CodelState) → old.queue ≡ Codel s → (taken now old).port.queue ≡ Codel q → q ≡ (codel_taken s now).queue
queue_is now old s q was is = same_codel q (codel_taken s now).queue (sym is ∙ queue_after now old ∙ ap (λ r. (taken_from r now).queue) was)

told : (now : ℕ) (old : PortState) (s : CodelState) → old.queue ≡ Codel s → drops_in (taken now old).acts ≡ map (λ (c : Stamped). c.0) (codel_taken s now).dropped
told now old s was = take_drops now old ∙ ap (λ r. map (λ (c : Stamped). c.0) (taken_from r now).dropped) was

in_drop_state : (now : ℕ) (old : PortState) (s q : CodelState) → old.queue ≡ Codel s → (taken now old).port.queue ≡ Codel q → s.dropping ≡ true → (length (drops_in (taken now old).acts) ≡ drops s now) × (q ≡ after_drops s now (drops s now))
in_drop_state now old s q was is on = (
  ap length (told now old s was) ∙ as_many_dropped (codel_taken s now).dropped ∙ drops_in_drop_state s now on,
  queue_is now old s q was is ∙ ap (λ (x : CodelTaken). x.queue) (taken_in_drop_state s now on),
)

take_keeps : (now : ℕ) (old : PortState) → KeepsDropState now old (taken now old).acts (taken now old).port
take_keeps now old = record {
  enters = λ s q cell was is _ head off. enters now s cell head off (taken now old).acts q (queue_is now old s q was is) (told now old s was);
  leaves = λ s q head cell was is _ _ on there below.
      let both = in_drop_state now old s q was is on in
      let here : judgement s now (drops s now) ≡ cleared = ap (judgement s now) (sym both.0) ∙ cleared_at s now (length (drops_in (taken now old).acts)) cell there below in
      (ap (λ (x : CodelState). x.dropping) both.1 ∙ ap (λ (x : Judgement). x.ok) here, ap (λ (x : CodelState). x.first_above) both.1 ∙ ap (λ (x : Judgement). x.first_above) here);
}

-- a link that packets wait for sends nothing of what is offered
nobody : (now : ℕ) (old : PortState) (packets : List Packet) → Idle old → (s : CodelState) (cell : Stamped) → old.queue ≡ Codel s → 1 ≤ sends (offered_all now old packets).acts → slice_get s.fifo.waiting 0 ≡ Some cell → ⊥
nobody now old packets kept s cell was one head = not_some (ap (λ ws. slice_get ws 0) (sym (sends_where_empty now old packets kept one) ∙ ap waiting_in was) ∙ head)

offers_keep : (now : ℕ) (old : PortState) (packets : List Packet) → Idle old → KeepsDropState now old (offered_all now old packets).acts (offered_all now old packets).port
offers_keep now old packets kept = record {
  enters = λ s _ cell was _ one head _. absurd (nobody now old packets kept s cell was one head);
  leaves = λ s _ head _ was _ one first _ _ _. absurd (nobody now old packets kept s head was one first);
}

touched_keeps : (now : ℕ) (old : PortState) (step : PortStep) → IsKept old → Touches now old step → KeepsDropState now old step.acts step.port
touched_keeps now old step kept (by_offers packets is) = subst (λ (x : PortStep). KeepsDropState now old x.acts x.port) (sym is) (offers_keep now old packets (idle old kept))
touched_keeps now old step kept (by_offer packet is) =
    subst (λ (x : PortStep). KeepsDropState now old x.acts x.port) (sym is) (subst (λ (x : PortStep). KeepsDropState now old x.acts x.port) (one_list now old packet) (offers_keep now old (packet ∷ []) (idle old kept)))
touched_keeps now old step kept (by_take free is) = subst (λ (x : PortStep). KeepsDropState now old x.acts x.port) (sym is) (take_keeps now old)

pub codel_keeps_drop_state : AtEachLink KeepsDropState
codel_keeps_drop_state = at_each_link KeepsDropState (λ now port. record { enters = λ _ _ _ _ _ one. absurd (omega (arith, one)); leaves = λ _ _ _ _ _ _ one. absurd (omega (arith, one)) }) touched_keeps

-- how drops are counted
first_again : (s : CodelState) (now : ℕ) → 1 < s.count - s.lastcount → now - s.drop_next < 16 * s.interval → first_count s now ≡ s.count - s.lastcount
first_again s now more soon =
    ap (λ b. cond b (s.count - s.lastcount) 1) (ap (λ b. b && ltb (now - s.drop_next) (16 * s.interval)) (lt-ltb 1 (s.count - s.lastcount) more) ∙ lt-ltb (now - s.drop_next) (16 * s.interval) soon)

first_anew : (s : CodelState) (now : ℕ) → (s.count - s.lastcount ≤ 1) ⊎ (16 * s.interval ≤ now - s.drop_next) → first_count s now ≡ 1
first_anew s now which =
    ap (λ b. cond b (s.count - s.lastcount) 1)
    (⊎_elim (λ (few : s.count - s.lastcount ≤ 1). and_left _ (ltb (now - s.drop_next) (16 * s.interval)) (le-ltb 1 (s.count - s.lastcount) few))
    (λ (late : 16 * s.interval ≤ now - s.drop_next). and_right (ltb 1 (s.count - s.lastcount)) _ (le-ltb (now - s.drop_next) (16 * s.interval) late)) which)

module _ (now : ℕ) (s q : CodelState) (is : q ≡ (codel_taken s now).queue) (off : s.dropping ≡ false) where
  begins_drop_state : q.dropping ≡ true → BeginsDropState now s q
  begins_drop_state on = by (judgement s now 0).ok refl
    where
      by : (b : Bool) → (judgement s now 0).ok ≡ b → BeginsDropState now s q
      by true ok =
          let took : q ≡ after_first_drop s now = is ∙ ap (λ (x : CodelTaken). x.queue) (taken_at_first_drop s now off ok) in
          let count : q.count ≡ first_count s now = ap (λ (x : CodelState). x.count) took in
          record {
            again = λ more soon. count ∙ first_again s now more soon;
            anew = λ which. count ∙ first_anew s now which;
            lastcount = ap (λ (x : CodelState). x.lastcount) took ∙ sym count;
            next = ap (λ (x : CodelState). x.drop_next) took ∙ ap (λ n. now + gap_of s.interval n) (sym count);
          }
      by false ok = absurd (true≢false (sym on ∙ ap (λ (x : CodelState). x.dropping) (is ∙ ap (λ (x : CodelTaken). x.queue) (taken_undropped s now off ok)) ∙ off))

  stays_outside : q.dropping ≡ false → (q.count ≡ s.count) × (q.lastcount ≡ s.lastcount) × (q.drop_next ≡ s.drop_next)
  stays_outside still = by (judgement s now 0).ok refl
    where
      by : (b : Bool) → (judgement s now 0).ok ≡ b → (q.count ≡ s.count) × (q.lastcount ≡ s.lastcount) × (q.drop_next ≡ s.drop_next)
      by true ok = absurd (true≢false (sym (ap (λ (x : CodelState). x.dropping) (is ∙ ap (λ (x : CodelTaken). x.queue) (taken_at_first_drop s now off ok))) ∙ still))
      by false ok =
          let took : q ≡ after_one s now = is ∙ ap (λ (x : CodelTaken). x.queue) (taken_undropped s now off ok) in
          (ap (λ (x : CodelState). x.count) took, ap (λ (x : CodelState). x.lastcount) took, ap (λ (x : CodelState). x.drop_next) took)

-- packets above target for an interval may be dropped, each behind the others
judged_late : (s : CodelState) (now t behind : ℕ) (o : Option Stamped) (first_above : Option ℕ) → IsSomeAnd o (IsAbove s now behind) → first_above ≡ Some t → t ≤ now → judged s now o behind first_above ≡ record { first_above = Some t; ok = true }
judged_late s now t behind None first_above above is upto = absurd above
judged_late s now t behind (Some cell) first_above above is upto =
    judged_above s now behind cell first_above above ∙ ap (above_target s.interval now) is ∙ ap (λ (b : Bool). record { first_above = Some t; ok = b }) (le-leb t now upto)

late_at : (s : CodelState) (now t k : ℕ) → s.first_above ≡ Some t → t ≤ now → AreAbove s now k → judgement s now k ≡ record { first_above = Some t; ok = true }
late_at s now t zero is upto above = judged_late s now t (bytes_of (drop 1 s.fifo.waiting)) (slice_get s.fifo.waiting 0) s.first_above (above 0 (omega arith)) is upto
late_at s now t (suc j) is upto above =
    judged_late s now t (bytes_of (drop (suc j + 1) s.fifo.waiting)) (slice_get s.fifo.waiting (suc j)) (judgement s now j).first_above (above (suc j) (omega arith))
    (ap (λ (x : Judgement). x.first_above) (late_at s now t j is upto (λ i least. above i (omega (arith, least))))) upto

take_counts : (now : ℕ) (old : PortState) → CountsDrops now old (taken now old).acts (taken now old).port
take_counts now old = record {
  counts = λ s q head was is _ _ on.
      let both = in_drop_state now old s q was is on in
      let k = drops s now in (
        ap (λ (x : CodelState). x.count) both.1 ∙ ap (λ n. min (s.count + n) 4294967295) (sym both.0),
        ap (λ (x : CodelState). x.lastcount) both.1,
        λ over.
            let not_ok : (judgement s now k).ok ≡ false = sym (ap (λ (x : CodelState). x.dropping) both.1) ∙ over in
            ap (λ (x : CodelState). x.drop_next) both.1 ∙ ap (λ b. drop_due s (cond b k (k - 1))) not_ok ∙ ap (λ n. drop_due s (n - 1)) (sym both.0) ∙ sym (due_is s (length (drops_in (taken now old).acts) - 1)),
      );
  lasts = λ s q head t was is _ _ on first upto above.
      let both = in_drop_state now old s q was is on in
      let here : judgement s now (drops s now) ≡ record { first_above = Some t; ok = true } = late_at s now t (drops s now) first upto (subst (AreAbove s now) both.0 above) in
      (ap (λ (x : CodelState). x.dropping) both.1 ∙ ap (λ (x : Judgement). x.ok) here, ap (λ (x : CodelState). x.first_above) both.1 ∙ ap (λ (x : Judgement). x.first_above) here);
  begins = λ s q head was is _ _ off on. begins_drop_state now s q (queue_is now old s q was is) off on;
  outside = λ s q head was is _ _ off still. stays_outside now s q (queue_is now old s q was is) off still;
}

offers_count : (now : ℕ) (old : PortState) (packets : List Packet) → Idle old → CountsDrops now old (offered_all now old packets).acts (offered_all now old packets).port
offers_count now old packets kept = record {
  counts = λ s _ head was _ one first _. absurd (nobody now old packets kept s head was one first);
  lasts = λ s _ head _ was _ one first _ _ _ _. absurd (nobody now old packets kept s head was one first);
  begins = λ s _ head was _ one first _ _. absurd (nobody now old packets kept s head was one first);
  outside = λ s _ head was _ one first _ _. absurd (nobody now old packets kept s head was one first);
}

touched_counts : (now : ℕ) (old : PortState) (step : PortStep) → IsKept old → Touches now old step → CountsDrops now old step.acts step.port
touched_counts now old step kept (by_offers packets is) = subst (λ (x : PortStep). CountsDrops now old x.acts x.port) (sym is) (offers_count now old packets (idle old kept))
touched_counts now old step kept (by_offer packet is) =
    subst (λ (x : PortStep). CountsDrops now old x.acts x.port) (sym is) (subst (λ (x : PortStep). CountsDrops now old x.acts x.port) (one_list now old packet) (offers_count now old (packet ∷ []) (idle old kept)))
touched_counts now old step kept (by_take free is) = subst (λ (x : PortStep). CountsDrops now old x.acts x.port) (sym is) (take_counts now old)

pub codel_counts_its_drops : AtEachLink CountsDrops
codel_counts_its_drops =
    at_each_link CountsDrops (λ now port. record { counts = λ _ _ _ _ _ one. absurd (omega (arith, one)); lasts = λ _ _ _ _ _ _ one. absurd (omega (arith, one)); begins = λ _ _ _ _ _ one. absurd (omega (arith, one)); outside = λ _ _ _ _ _ one. absurd (omega (arith, one)) }) touched_counts
