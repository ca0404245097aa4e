-- The three cases of a take from a CoDel queue.
use Rattle.std.proofs.Common.{◌≡◌, ℕ, true, false, refl}
use Rattle.aqm.specs.Codel.{CodelState}
use Rattle.aqm.specs.Judgement.{judgement}
use Rattle.aqm.specs.Drops.{drops, after_drops}
use Rattle.aqm.specs.Taken.{codel_taken, handed_out, after_one, after_first_drop}

pub taken_in_drop_state : (s : CodelState) (now : ℕ) → s.dropping ≡ true → codel_taken s now ≡ handed_out s (drops s now) (after_drops s now (drops s now))
taken_in_drop_state s now on = rw on refl

pub taken_at_first_drop : (s : CodelState) (now : ℕ) → s.dropping ≡ false → (judgement s now 0).ok ≡ true → codel_taken s now ≡ handed_out s 1 (after_first_drop s now)
taken_at_first_drop s now off ok = rw (off, ok) refl

pub taken_undropped : (s : CodelState) (now : ℕ) → s.dropping ≡ false → (judgement s now 0).ok ≡ false → codel_taken s now ≡ handed_out s 0 (after_one s now)
taken_undropped s now off ok = rw (off, ok) refl
