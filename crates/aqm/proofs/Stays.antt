-- What a queue is at first, what it keeps whatever is taken from it or offered to it, and where a packet enters.
use Rattle.std.proofs.Common.{◌≡◌, ◌++◌, ℕ, Bool, true, false, cond, [], ◌∷◌, refl, sym, ap, ◌∙◌, true≢false}
use Rattle.sim_time.specs.declared.queue_kind.QueueKind.TheVariants.{DropTail as DropTailKind, Codel as CodelKind}
use Rattle.packet_chain.specs.Stamped.{Stamped}
use Rattle.aqm.specs.declared.queue.Queue.{Queue}
use Rattle.aqm.specs.declared.queue.Queue.TheVariants.{DropTail, Codel}
use Rattle.aqm.specs.DropTail.{DropTailState, empty_fifo, is_full}
use Rattle.aqm.specs.Codel.{CodelState, initial_codel}
use Rattle.aqm.specs.Judgement.{judgement}
use Rattle.aqm.specs.Taken.{codel_taken}
use Rattle.aqm.specs.Queue.{fifo_of, waiting_in, refuses, emptied, offered_to}
use Rattle.aqm.specs.Laws.{QueuesOpenEmpty, QueuesStay, EntersLast, FullRefuses}
use Rattle.aqm.proofs.TakenCases.{taken_in_drop_state, taken_at_first_drop, taken_undropped}

pub queues_open_empty : QueuesOpenEmpty
queues_open_empty DropTailKind capacity = record { empty = refl; afresh = refl }
queues_open_empty (CodelKind codel) capacity = record { empty = refl; afresh = refl }

-- an offer changes no capacity
same_capacity : (s : DropTailState) (cell : Stamped) (now : ℕ) (full : Bool) → (cond full s (record s { waiting = s.waiting ++ (cell.0, now) ∷ [] })).capacity ≡ s.capacity
same_capacity s cell now true = refl
same_capacity s cell now false = refl

-- a take from a CoDel queue, by its cases
codel_stays : (s : CodelState) (now : ℕ) (b c : Bool) → s.dropping ≡ b → (judgement s now 0).ok ≡ c → emptied (Codel (codel_taken s now).queue) ≡ emptied (Codel s)
codel_stays s now true c on ok = ap (λ t. emptied (Codel (t.queue))) (taken_in_drop_state s now on)
codel_stays s now false true off ok = ap (λ t. emptied (Codel (t.queue))) (taken_at_first_drop s now off ok)
codel_stays s now false false off ok = ap (λ t. emptied (Codel (t.queue))) (taken_undropped s now off ok)

-- what waits in a fifo after an offer
waits_in : (s : DropTailState) (cell : Stamped) (now : ℕ) (full : Bool) →
    (cond full s (record s { waiting = s.waiting ++ (cell.0, now) ∷ [] })).waiting ≡ cond full s.waiting (s.waiting ++ (cell.0, now) ∷ [])
waits_in s cell now true = refl
waits_in s cell now false = refl

pub queues_stay : QueuesStay
queues_stay (DropTail s) now = record {
  taken = refl;
  offered = λ cell. ap (λ n. DropTail (empty_fifo n)) (same_capacity s cell now (is_full s));
  waits = λ cell. waits_in s cell now (is_full s);
  capacity = refl;
}
queues_stay (Codel s) now = record {
  taken = codel_stays s now s.dropping (judgement s now 0).ok refl refl;
  offered = λ cell. ap (λ n. Codel (initial_codel (empty_fifo n) s.target s.interval s.maxpacket)) (same_capacity s.fifo cell now (is_full s.fifo));
  waits = λ cell. waits_in s.fifo cell now (is_full s.fifo);
  capacity = refl;
}

-- so two queues that stay the same have room for as many
pub same_room : (q r : Queue) → emptied q ≡ emptied r → (fifo_of q).capacity ≡ (fifo_of r).capacity
same_room q r same = sym (queues_stay q 0).capacity ∙ ap (λ s. (fifo_of s).capacity) same ∙ (queues_stay r 0).capacity

pub enters_last : EntersLast
enters_last q cell now room = (queues_stay q now).waits cell ∙ ap (λ b. cond b (waiting_in q) (waiting_in q ++ (cell.0, now) ∷ [])) room

-- what waits stays where a packet is dropped as it comes
pub refused_stays : (q : Queue) (cell : Stamped) (now : ℕ) → refuses q ≡ true → waiting_in (offered_to q cell now) ≡ waiting_in q
refused_stays q cell now refused = (queues_stay q now).waits cell ∙ ap (λ b. cond b (waiting_in q) (waiting_in q ++ (cell.0, now) ∷ [])) refused

pub full_refuses : FullRefuses
full_refuses (DropTail s) full = full
full_refuses (Codel s) full = full

-- so a queue that takes a packet in is not full
pub has_room : (q : Queue) → refuses q ≡ false → is_full (fifo_of q) ≡ false
has_room q takes = by (is_full (fifo_of q)) refl
  where
    by : (b : Bool) → is_full (fifo_of q) ≡ b → b ≡ false
    by true full = absurd (true≢false (sym (full_refuses q full) ∙ takes))
    by false room = refl
