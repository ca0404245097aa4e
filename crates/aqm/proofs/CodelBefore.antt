-- A queue that is CoDel's after a call was CoDel's before it.
use Rattle.std.proofs.Common.{◌≡◌, ℕ, refl}
use Rattle.packet_chain.specs.Stamped.{Stamped}
use Rattle.aqm.specs.declared.queue.Queue.{Queue}
use Rattle.aqm.specs.declared.queue.Queue.TheVariants.{DropTail, Codel}
use Rattle.aqm.specs.DropTail.{DropTailState, after_offer}
use Rattle.aqm.specs.Codel.{CodelState}
use Rattle.aqm.specs.Taken.{codel_taken}
use Rattle.aqm.specs.Queue.{offered_to, taken_from}

pub same_codel : (s t : CodelState) → Codel s ≡ Codel t → s ≡ t
same_codel s t e = cc

not_codel : (s : DropTailState) (t : CodelState) → DropTail s ≡ Codel t → ⊥
not_codel s t e = cc

pub codel_before_offer : (q : Queue) (cell : Stamped) (now : ℕ) (t : CodelState) → offered_to q cell now ≡ Codel t → (s : CodelState) × (q ≡ Codel s) × (record s { fifo = after_offer s.fifo cell now } ≡ t)
codel_before_offer (DropTail s) cell now t is = absurd (not_codel (after_offer s cell now) t is)
codel_before_offer (Codel s) cell now t is = (s, refl, same_codel (record s { fifo = after_offer s.fifo cell now }) t is)

pub codel_before_take : (q : Queue) (now : ℕ) (t : CodelState) → (taken_from q now).queue ≡ Codel t → (s : CodelState) × (q ≡ Codel s) × ((codel_taken s now).queue ≡ t)
codel_before_take (DropTail s) now t is = absurd (not_codel _ t is)
codel_before_take (Codel s) now t is = (s, refl, same_codel (codel_taken s now).queue t is)
