-- What offering packets to a link and taking from its queue keeps, and what begins to be sent.
use Rattle.tournament.proofs.Maps.{not_some}
use Rattle.std.proofs.Common.{◌≡◌, ℕ, ◌+◌, ◌<◌, ◌≤◌, Bool, true, false, cond, List, [], ◌∷◌, ◌++◌, length, refl, sym, ap, subst, ◌∙◌, Option, Some, None, ◌==◌, true≢false, length-append, arith}
use Rattle.std.proofs.lemmas.Bool.{eqb-false}
use Rattle.std.specs.Prelude.{is_none, IsNone}
use Rattle.std.specs.List.{AllByRecursion}
use Rattle.std.specs.Option.{option_or}
use Rattle.sim_time.specs.Serial.{IsRate, serial}
use Rattle.sim_time.proofs.Serial.{serial_fits}
use Rattle.packet_chain.specs.declared.packet.Packet.{Packet}
use Rattle.packet_chain.specs.Stamped.{Stamped}
use Rattle.aqm.specs.declared.queue.Queue.{Queue}
use Rattle.aqm.specs.Queue.{fifo_of, waiting_in, emptied, refuses, taken_from, offered_to, Taken}
use Rattle.aqm.specs.Laws.{listed}
use Rattle.aqm.proofs.Front.{takes_the_front, gives_what_waits}
use Rattle.aqm.proofs.Stays.{queues_stay, same_room, enters_last, refused_stays, has_room}
use Rattle.port.specs.Losses.{is_lost}
use Rattle.port.specs.Port.{PortState, Departure, PortStep, begun, taken, only, with_packet, entered, offered_one, offered_all}
use Rattle.table_run.proofs.Lists.{all_append, all_left, all_right}

-- packets for which D holds are in their range of sizes
abbrev pub AreSized : (Packet → Type 0) → Type 0
AreSized D = (x : Packet) → D x → (1 ≤ x.bytes) × (x.bytes ≤ 9040)

-- a link of a scenario: its rate and its delay are in their ranges
pub record IsLink (port : PortState) : Type 0 where
  pub rate_range : IsRate port.rate
  pub delay_least : 1 ≤ port.delay
  pub delay_most : port.delay ≤ 10000000000

-- packets for which D holds wait, no more than may, and none where the link is idle
pub record Waits (D : Packet → Type 0) (port : PortState) : Type 0 where
  pub queued : AllByRecursion (λ x. D x.0) (waiting_in port.queue)
  pub idle_empty : IsNone port.next_free → waiting_in port.queue ≡ []
  pub room : length (waiting_in port.queue) ≤ (fifo_of port.queue).capacity

-- a link stays the one it is
pub record StaysLink (old new : PortState) : Type 0 where
  pub same_link : new.link ≡ old.link
  pub same_rate : new.rate ≡ old.rate
  pub same_delay : new.delay ≡ old.delay
  pub same_lose : new.lose ≡ old.lose
  pub same_queue : emptied new.queue ≡ emptied old.queue

-- a packet begins to be sent over an idle link: it is free later than now, and the packet is there a delay later
pub record Departs (D : Packet → Type 0) (now : ℕ) (before : Option ℕ) (old new : PortState) (d : Departure) : Type 0 where
  pub was_idle : before ≡ None
  pub busy : new.next_free ≡ Some d.free
  pub sent_once : new.sent ≡ old.sent + 1
  pub fits : D d.packet
  pub later : now < d.free
  pub soon : d.free ≤ now + 72320000000
  pub arrival_is : d.arrival ≡ d.free + old.delay

-- either nothing departs, and the link is busy as long as before, or a packet does
abbrev pub Outcome : (Packet → Type 0) → ℕ → Option ℕ → PortState → PortState → Option Departure → Type 0
Outcome D now before old new None = (new.next_free ≡ before) × (new.sent ≡ old.sent)
Outcome D now before old new (Some d) = Departs D now before old new d

-- what is done at a link that is free from a moment on, if it is busy, to which so many packets are offered
pub record PortMoves (D : Packet → Type 0) (now count : ℕ) (before : Option ℕ) (old : PortState) (step : PortStep) : Type 0 where
  pub stays : StaysLink old step.port
  pub waits : Waits D step.port
  pub offered_are : step.port.offered ≡ old.offered + count
  pub outcome : Outcome D now before old step.port step.departure

-- what a take leaves of a queue
record TakeKeeps (P : Stamped → Type 0) (q : Queue) (t : Taken) : Type 0 where
  pub rest : AllByRecursion P (waiting_in t.queue)
  pub given : AllByRecursion P (listed t.given)
  pub fewer : length (waiting_in t.queue) ≤ length (waiting_in q)
  pub none_left : t.given ≡ None → waiting_in t.queue ≡ []

length_later : {A : Type 0} (xs ys : List A) → length ys ≤ length (xs ++ ys)
length_later [] ys = omega arith
length_later (x ∷ xs) ys = let rest = length_later xs ys in omega (arith, rest)

none_later : {A : Type 0} (xs ys : List A) → xs ++ ys ≡ [] → ys ≡ []
none_later [] ys e = e
none_later (x ∷ xs) ys e = absurd (cc)

take_keeps : (P : Stamped → Type 0) (q : Queue) (now : ℕ) → AllByRecursion P (waiting_in q) → TakeKeeps P q (taken_from q now)
take_keeps P q now all =
    let t = taken_from q now in
    let front : t.dropped ++ listed t.given ++ waiting_in t.queue ≡ waiting_in q = takes_the_front q now in
    let whole = subst (AllByRecursion P) (sym front) all in
    record {
      rest = all_right P (t.dropped ++ listed t.given) (waiting_in t.queue) whole;
      given = all_right P t.dropped (listed t.given) (all_left P (t.dropped ++ listed t.given) (waiting_in t.queue) whole);
      fewer = (let a = length_later (t.dropped ++ listed t.given) (waiting_in t.queue) in let c = ap length front in omega (arith, a, c));
      none_left = λ none. none_later (t.dropped ++ listed t.given) (waiting_in t.queue) (front ∙ (gives_what_waits q now).0 none);
    }

none_not_some : (x : ℕ) → IsNone (Some x) → ⊥
none_not_some x h = absurd (true≢false h)

module _ (D : Packet → Type 0) (sized : AreSized D) (now : ℕ) where
  -- what a queue has given begins to be sent, or the link is idle
  begun_moves : (old : PortState) (queue : Queue) (given : Option Stamped) → IsLink old → emptied queue ≡ emptied old.queue → AllByRecursion (λ x. D x.0) (waiting_in queue) → AllByRecursion (λ x. D x.0) (listed given)
      → length (waiting_in queue) ≤ (fifo_of queue).capacity → (given ≡ None → waiting_in queue ≡ []) → PortMoves D now 0 None old (begun now (record old { queue = queue }) given)
  begun_moves old queue None link same those given room none = record {
    stays = record { same_link = refl; same_rate = refl; same_delay = refl; same_lose = refl; same_queue = same };
    waits = record { queued = those; idle_empty = λ _. none refl; room = room };
    offered_are = omega arith;
    outcome = (refl, refl);
  }
  begun_moves old queue (Some head) link same those given room none =
      let time = serial_fits head.0.bytes old.rate (sized head.0 given.0).0 (sized head.0 given.0).1 link.rate_range in
      record {
        stays = record { same_link = refl; same_rate = refl; same_delay = refl; same_lose = refl; same_queue = same };
        waits = record { queued = those; idle_empty = λ idle. absurd (none_not_some (now + serial head.0.bytes old.rate) idle); room = room };
        offered_are = omega arith;
        outcome = record { was_idle = refl; busy = refl; sent_once = refl; fits = given.0; later = omega (arith, time.positive); soon = omega (arith, time.most); arrival_is = refl };
      }

  with_acts : (count : ℕ) (before : Option ℕ) (old : PortState) (step : PortStep) (acts : _) → PortMoves D now count before old step → PortMoves D now count before old (record step { acts = acts })
  with_acts count before old step acts moves = record { stays = moves.stays; waits = moves.waits; offered_are = moves.offered_are; outcome = moves.outcome }

  -- a link that has sent a packet takes the next
  pub taken_moves : (old : PortState) → IsLink old → AllByRecursion (λ x. D x.0) (waiting_in old.queue) → length (waiting_in old.queue) ≤ (fifo_of old.queue).capacity → PortMoves D now 0 None old (taken now old)
  taken_moves old link those room =
      let take = taken_from old.queue now in
      let keeps = take_keeps (λ x. D x.0) old.queue now those in
      let same = (queues_stay old.queue now).taken in
      let capacity = same_room take.queue old.queue same in
      with_acts 0 None old (begun now (record old { queue = take.queue }) take.given) _
      (begun_moves old take.queue take.given link same keeps.rest keeps.given (let fewer = keeps.fewer in omega (arith, fewer, room, capacity)) keeps.none_left)

  -- the link is busy at least as long as before, and at most one packet departs
  either : (count : ℕ) (before : Option ℕ) (old : PortState) (b : Bool) (s t : PortStep) → (b ≡ true → PortMoves D now count before old s) → (b ≡ false → PortMoves D now count before old t) → PortMoves D now count before old (cond b s t)
  either count before old true s t yes' no' = yes' refl
  either count before old false s t yes' no' = no' refl

  -- lost: only the count of offered packets changes
  lost_moves : (old : PortState) (acts : _) → Waits D old → PortMoves D now 1 old.next_free old (only (record old { offered = old.offered + 1 }) acts)
  lost_moves old acts waits = record {
    stays = record { same_link = refl; same_rate = refl; same_delay = refl; same_lose = refl; same_queue = refl };
    waits = record { queued = waits.queued; idle_empty = waits.idle_empty; room = waits.room };
    offered_are = refl;
    outcome = (refl, refl);
  }

  -- refused: what waits stays
  refused_moves : (old : PortState) (x : Packet) (acts : _) → refuses old.queue ≡ true → Waits D old → PortMoves D now 1 old.next_free old (only (with_packet now (record old { offered = old.offered + 1 }) x) acts)
  refused_moves old x acts refused waits =
      let same = (queues_stay old.queue now).offered (x, now) in
      let still = refused_stays old.queue (x, now) now refused in
      record {
        stays = record { same_link = refl; same_rate = refl; same_delay = refl; same_lose = refl; same_queue = same };
        waits = record {
          queued = subst (AllByRecursion (λ (y : Stamped). D y.0)) (sym still) waits.queued;
          idle_empty = λ idle. still ∙ waits.idle_empty idle;
          room = (let capacity = same_room (offered_to old.queue (x, now) now) old.queue same in let length_is = ap length still in let room = waits.room in omega (arith, room, capacity, length_is));
        };
        offered_are = refl;
        outcome = (refl, refl);
      }

  -- a packet is last in a queue that takes it in
  record Joins (q : Queue) (x : Packet) (after : Queue) : Type 0 where
    pub same : emptied after ≡ emptied q
    pub those : AllByRecursion (λ y. D y.0) (waiting_in after)
    pub room : length (waiting_in after) ≤ (fifo_of after).capacity

  one_longer : (xs : List Stamped) (y : Stamped) (capacity : ℕ) → length xs ≤ capacity → (length xs == capacity) ≡ false → length (xs ++ y ∷ []) ≤ capacity
  one_longer xs y capacity room apart = let other = eqb-false (length xs) capacity apart in simp length-append (omega (arith, room, other))

  joins : (q : Queue) (x : Packet) → refuses q ≡ false → D x → AllByRecursion (λ y. D y.0) (waiting_in q) → length (waiting_in q) ≤ (fifo_of q).capacity → Joins q x (offered_to q (x, now) now)
  joins q x full is those room =
      let last = enters_last q (x, now) now full in
      let same = (queues_stay q now).offered (x, now) in
      record {
        same = same;
        those = subst (AllByRecursion (λ (y : Stamped). D y.0)) (sym last) (all_append (λ y. D y.0) (waiting_in q) ((x, now) ∷ []) those (is, tt));
        room = (let more = one_longer (waiting_in q) (x, now) (fifo_of q).capacity room (has_room q full) in let capacity = same_room (offered_to q (x, now) now) q same in let length_is = ap length last in omega (arith, more, capacity, length_is));
      }

  -- a packet enters: it waits where the link is busy, else the head is taken
  entered_moves : (old : PortState) (x : Packet) (o : Option ℕ) → old.next_free ≡ o → IsLink old → refuses old.queue ≡ false → D x → Waits D old → PortMoves D now 1 old.next_free old (entered now (record old { offered = old.offered + 1 }) x)
  entered_moves old x None e link full is waits =
      let joined = joins old.queue x full is waits.queued waits.room in
      let waiting : PortState = with_packet now (record old { offered = old.offered + 1 }) x in
      let moves = taken_moves waiting (record { rate_range = link.rate_range; delay_least = link.delay_least; delay_most = link.delay_most }) joined.those joined.room in
      subst (λ b. PortMoves D now 1 old.next_free old (cond b (taken now waiting) (only waiting []))) (sym (ap is_none e))
      (record {
        stays = record { same_link = moves.stays.same_link; same_rate = moves.stays.same_rate; same_delay = moves.stays.same_delay; same_lose = moves.stays.same_lose; same_queue = moves.stays.same_queue ∙ joined.same };
        waits = moves.waits;
        offered_are = (let are = moves.offered_are in omega (arith, are));
        outcome = was_idle waiting (taken now waiting).port (taken now waiting).departure refl refl moves.outcome;
      })
    where
      was_idle : (waiting new : PortState) (d : Option Departure) → waiting.sent ≡ old.sent → waiting.delay ≡ old.delay → Outcome D now None waiting new d → Outcome D now old.next_free old new d
      was_idle waiting new None sent delay h = (h.0 ∙ sym e, h.1 ∙ sent)
      was_idle waiting new (Some d) sent delay h = record { was_idle = e; busy = h.busy; sent_once = h.sent_once ∙ ap (λ n. n + 1) sent; fits = h.fits; later = h.later; soon = h.soon; arrival_is = h.arrival_is ∙ ap (λ n. d.free + n) delay }
  entered_moves old x (Some u) e link full is waits =
      let joined = joins old.queue x full is waits.queued waits.room in
      let waiting : PortState = with_packet now (record old { offered = old.offered + 1 }) x in
      subst (λ b. PortMoves D now 1 old.next_free old (cond b (taken now waiting) (only waiting []))) (sym (ap is_none e))
      (record {
        stays = record { same_link = refl; same_rate = refl; same_delay = refl; same_lose = refl; same_queue = joined.same };
        waits = record { queued = joined.those; idle_empty = λ idle. absurd (none_not_some u (subst IsNone e idle)); room = joined.room };
        offered_are = refl;
        outcome = (refl, refl);
      })

  pub one_moves : (old : PortState) (x : Packet) → IsLink old → D x → Waits D old → PortMoves D now 1 old.next_free old (offered_one now old x)
  one_moves old x link is waits =
      either 1 old.next_free old (is_lost old.lose (old.offered + 1)) _ _ (λ _. lost_moves old _ waits)
      (λ _. either 1 old.next_free old (refuses old.queue) _ _ (λ refused. refused_moves old x _ refused waits) (λ full. entered_moves old x old.next_free refl link full is waits))

  same_link : (old new : PortState) → StaysLink old new → IsLink old → IsLink new
  same_link old new stays link = record {
    rate_range = subst IsRate (sym stays.same_rate) link.rate_range;
    delay_least = subst (λ d. 1 ≤ d) (sym stays.same_delay) link.delay_least;
    delay_most = subst (λ d. d ≤ 10000000000) (sym stays.same_delay) link.delay_most;
  }

  -- of two steps at one moment at most one makes a packet depart
  both_outcomes : (old middle new : PortState) (d e : Option Departure) → middle.delay ≡ old.delay → Outcome D now old.next_free old middle d → Outcome D now middle.next_free middle new e → Outcome D now old.next_free old new (option_or d e)
  both_outcomes old middle new None None delay a b = (b.0 ∙ a.0, b.1 ∙ a.1)
  both_outcomes old middle new None (Some e) delay a b = record { was_idle = sym a.0 ∙ b.was_idle; busy = b.busy; sent_once = b.sent_once ∙ ap (λ n. n + 1) a.1; fits = b.fits; later = b.later; soon = b.soon; arrival_is = b.arrival_is ∙ ap (λ n. e.free + n) delay }
  both_outcomes old middle new (Some d) None delay a b = record { was_idle = a.was_idle; busy = b.0 ∙ a.busy; sent_once = b.1 ∙ a.sent_once; fits = a.fits; later = a.later; soon = a.soon; arrival_is = a.arrival_is }
  both_outcomes old middle new (Some d) (Some e) delay a b = absurd (not_some (sym b.was_idle ∙ a.busy))

  pub all_moves : (old : PortState) (packets : List Packet) → IsLink old → AllByRecursion D packets → Waits D old → PortMoves D now (length packets) old.next_free old (offered_all now old packets)
  all_moves old [] link those waits = record {
    stays = record { same_link = refl; same_rate = refl; same_delay = refl; same_lose = refl; same_queue = refl };
    waits = waits;
    offered_are = omega arith;
    outcome = (refl, refl);
  }
  all_moves old (x ∷ packets) link those waits =
      let middle = offered_one now old x in
      let first = one_moves old x link those.0 waits in
      let others = all_moves middle.port packets (same_link _ _ first.stays link) those.1 first.waits in
      record {
        stays = record {
          same_link = others.stays.same_link ∙ first.stays.same_link;
          same_rate = others.stays.same_rate ∙ first.stays.same_rate;
          same_delay = others.stays.same_delay ∙ first.stays.same_delay;
          same_lose = others.stays.same_lose ∙ first.stays.same_lose;
          same_queue = others.stays.same_queue ∙ first.stays.same_queue;
        };
        waits = others.waits;
        offered_are = (let a = first.offered_are in let b = others.offered_are in omega (arith, a, b));
        outcome = both_outcomes old middle.port (offered_all now middle.port packets).port middle.departure (offered_all now middle.port packets).departure first.stays.same_delay first.outcome others.outcome;
      }
