use Rattle.std.proofs.Common.{◌≡◌, ◌≤◌, arith}
use Rattle.reno_receiver.specs.Received.{next_of}
use Rattle.reno_receiver.proofs.Rising.{all_held}
use Rattle.reno_receiver.proofs.Kept.{run_from, next_of_kept, next_fits, advance_gains, advance_kept}
use Rattle.reno_receiver.proofs.receiver.Receiver.advance.Goals as goal

pub run_length-run-requires-clause-greatest : goal.run_length-run-requires-clause-greatest
run_length-run-requires-clause-greatest c = rw c.as_slice.ensures (all_held c.self.inside.mss c.self.inside.next c.self.inside.held c.self.invariant.held_above)

pub overflow_add-self : goal.overflow_add-self
overflow_add-self c =
    let run = run_from c.self.inside c.as_slice.result.now c.run_length-run.result c.as_slice.ensures c.run_length-run.ensures.within c.run_length-run.ensures.run c.run_length-run.ensures.ended in
    let next : next_of c.args.self.now ≡ c.self.inside.next = rw (← c.self.view_is) (next_of_kept c.self.inside c.self.invariant) in
    let low : c.self.inside.next ≤ 9000000000000 = omega arith in
    omega (arith, next_fits c.self.inside c.self.invariant c.run_length-run.result run low)

pub overflow_mul-self : goal.overflow_mul-self
overflow_mul-self c = let sum = overflow_add-self c in omega (arith, sum)

pub invariant_of-self : goal.invariant_of-self
invariant_of-self c =
    let run = run_from c.self.inside c.as_slice.result.now c.run_length-run.result c.as_slice.ensures c.run_length-run.ensures.within c.run_length-run.ensures.run c.run_length-run.ensures.ended in
    let next : next_of c.args.self.now ≡ c.self.inside.next = rw (← c.self.view_is) (next_of_kept c.self.inside c.self.invariant) in
    let low : c.self.inside.next ≤ 9000000000000 = omega arith in
    rw c.take_front.ensures (advance_kept c.self.inside c.self.invariant c.run_length-run.result run low)

pub returns : goal.returns
returns c =
    let run = run_from c.self.inside c.as_slice.result.now c.run_length-run.result c.as_slice.ensures c.run_length-run.ensures.within c.run_length-run.ensures.run c.run_length-run.ensures.ended in
    rw (c.take_front.ensures, ← c.self.view_is) (advance_gains c.self.inside c.self.invariant c.run_length-run.result run)
