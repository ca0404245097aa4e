use Rattle.std.proofs.Common.{ℕ, ◌+◌, ◌*◌, ◌≤◌, subst}
use Rattle.reno_sender.specs.Fields.{total}
use Rattle.reno_sender.specs.LossRecovery.{advanced}
use Rattle.reno_sender.proofs.Advances.{advanced_keeps}
use Rattle.reno_sender.proofs.AckRuns.{count_is}
use Rattle.reno_sender.proofs.Rows.{fill_in_total}
use Rattle.reno_sender.proofs.loss_recovery.acknowledgement.take_run.Goals as goal

pub send_run-requires-clause-sound : goal.send_run-requires-clause-sound
send_run-requires-clause-sound c =
    rw c.advance.ensures (advanced_keeps c.args.fields.now c.args.ack c.args.now c.requires.sound c.requires.moment c.requires.ack c.requires.run.new).sound

pub send_run-requires-clause-in_total : goal.send_run-requires-clause-in_total
send_run-requires-clause-in_total c =
    let f = c.args.fields.now in
    let g = advanced f c.args.ack c.args.now in
    let sound = (advanced_keeps f c.args.ack c.args.now c.requires.sound c.requires.moment c.requires.ack c.requires.run.new).sound in
    rw (c.advance.ensures, c.requires.run.count_is) (subst (λ (n : ℕ). g.nxt + n * g.mss ≤ total g) (count_is f c.args.ack c.args.now) (fill_in_total g c.args.now sound c.requires.moment))
