use Rattle.std.proofs.Common.{◌≡◌, ◌<◌, false, sym, ap, arith}
use Rattle.std.proofs.lemmas.Bool.{both_ways}
use Rattle.reno_receiver.specs.Received.{ReceiverState, next_of, is_received}
use Rattle.reno_receiver.specs.Place.{IsPlaceOf}
use Rattle.reno_receiver.proofs.Kept.{next_of_kept, rising_kept, found_received, unplaced, hold_kept, hold_gains, gaining_received}
use Rattle.reno_receiver.proofs.Replies.{on_err}
use Rattle.reno_receiver.proofs.receiver.Receiver.hold.Goals as goal

pub find-requires : goal.find-requires
find-requires c = rw c.as_slice.ensures (rising_kept c.self.inside c.self.invariant)

pub returns-in-Ok-clause-ok : goal.returns-in-Ok-clause-ok
returns-in-Ok-clause-ok c =
    sym (gaining_received c.args.self.now c.args.seq (rw (← c.self.view_is) (found_received c.self.inside c.self.invariant c.in-Ok.field-0 c.args.seq (rw (← c.as_slice.ensures) c.in-Ok.ensures.found))))

pub invariant_of-self-in-Err : goal.invariant_of-self-in-Err
invariant_of-self-in-Err c =
    let next : next_of c.args.self.now ≡ c.self.inside.next = rw (← c.self.view_is) (next_of_kept c.self.inside c.self.invariant) in
    let mss : c.self.inside.mss ≡ c.args.self.now.mss = ap (λ (st : ReceiverState). st.mss) c.self.view_is in
    let place : IsPlaceOf c.args.seq c.self.inside.held c.in-Err.place = rw (← c.as_slice.ensures) c.in-Err.ensures.missing in
    rw c.in_ok-insert-in-Err.ensures.ok (hold_kept c.self.inside c.self.invariant c.args.seq c.in-Err.place (omega arith) (rw mss c.requires.multiple) c.requires.greatest place)

pub returns-in_ok-insert-in-Err-clause-ok : goal.returns-in_ok-insert-in-Err-clause-ok
returns-in_ok-insert-in-Err-clause-ok c = rw (c.in_ok-insert-in-Err.ensures.ok, ← c.self.view_is) (hold_gains c.self.inside c.self.invariant c.args.seq c.in-Err.place)

pub returns-in_err-insert-in-Err-clause-wants_memory : goal.returns-in_err-insert-in-Err-clause-wants_memory
returns-in_err-insert-in-Err-clause-wants_memory c =
    let next : next_of c.args.self.now ≡ c.self.inside.next = rw (← c.self.view_is) (next_of_kept c.self.inside c.self.invariant) in
    let low : c.self.inside.next < c.args.seq = omega arith in
    let place : IsPlaceOf c.args.seq c.self.inside.held c.in-Err.place = rw (← c.as_slice.ensures) c.in-Err.ensures.missing in
    let new : is_received c.args.self.now c.args.seq ≡ false = rw (← c.self.view_is) (unplaced c.self.inside c.self.invariant c.args.seq c.in-Err.place low place) in
    on_err c.from_residual.result (λ is. both_ways _ new is)
