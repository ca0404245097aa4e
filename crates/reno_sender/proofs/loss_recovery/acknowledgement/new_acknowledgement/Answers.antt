use Rattle.reno_sender.proofs.Advances.{advanced_keeps}
use Rattle.reno_sender.proofs.loss_recovery.acknowledgement.new_acknowledgement.Goals as goal

pub fill-requires-clause-sound : goal.fill-requires-clause-sound
fill-requires-clause-sound c =
    rw c.advance.ensures (advanced_keeps c.args.fields.now c.args.ack c.args.now c.requires.sound c.requires.moment c.requires.ack c.requires.new).sound
