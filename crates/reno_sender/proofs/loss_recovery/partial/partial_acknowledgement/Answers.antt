use Rattle.std.proofs.Common.{◌+◌, refl, sym, ◌∙◌, inl, arith}
use Rattle.reno_sender.specs.Fields.{IsSound}
use Rattle.reno_sender.proofs.Rows.{new_ends}
use Rattle.reno_sender.proofs.Advances.{partly_keeps, partly_out}
use Rattle.reno_sender.proofs.loss_recovery.partial.partial_acknowledgement.Goals as goal

pub may_send_new-requires : goal.may_send_new-requires
may_send_new-requires c =
    rw c.take_partly.ensures (partly_keeps c.args.fields.now c.args.ack c.args.now c.requires.sound c.requires.moment c.requires.ack c.requires.new c.requires.is_partial).sound

pub resend_and_send-requires-clause-sound : goal.resend_and_send-requires-clause-sound
resend_and_send-requires-clause-sound c =
    rw c.take_partly.ensures (partly_keeps c.args.fields.now c.args.ack c.args.now c.requires.sound c.requires.moment c.requires.ack c.requires.new c.requires.is_partial).sound

pub resend_and_send-requires-clause-in_total : goal.resend_and_send-requires-clause-in_total
resend_and_send-requires-clause-in_total c =
    let s : IsSound c.take_partly.new.fields = rw c.take_partly.ensures (partly_keeps c.args.fields.now c.args.ack c.args.now c.requires.sound c.requires.moment c.requires.ack c.requires.new c.requires.is_partial).sound in
    (new_ends c.take_partly.new.fields (c.take_partly.new.fields.una + c.min.result) s (sym c.may_send_new.ensures ∙ c.if-may_send_new.true)).0

pub resend_and_send-requires-clause-outstanding : goal.resend_and_send-requires-clause-outstanding
resend_and_send-requires-clause-outstanding c =
    rw c.take_partly.ensures (partly_out c.args.fields.now c.args.ack c.args.now c.requires.sound c.requires.is_partial)

pub resend-requires-clause-back : goal.resend-requires-clause-back
resend-requires-clause-back c = omega arith

pub resend-requires-clause-lt_flight : goal.resend-requires-clause-lt_flight
resend-requires-clause-lt_flight c =
    rw c.take_partly.ensures (partly_keeps c.args.fields.now c.args.ack c.args.now c.requires.sound c.requires.moment c.requires.ack c.requires.new c.requires.is_partial).sound.lt_flight

pub resend-requires-clause-went_back : goal.resend-requires-clause-went_back
resend-requires-clause-went_back c = inl refl

pub resend-requires-clause-sound : goal.resend-requires-clause-sound
resend-requires-clause-sound c =
    rw c.take_partly.ensures (partly_keeps c.args.fields.now c.args.ack c.args.now c.requires.sound c.requires.moment c.requires.ack c.requires.new c.requires.is_partial).sound

pub resend-requires-clause-above : goal.resend-requires-clause-above
resend-requires-clause-above c =
    rw c.take_partly.ensures (partly_out c.args.fields.now c.args.ack c.args.now c.requires.sound c.requires.is_partial)

pub resend-requires-clause-whole : goal.resend-requires-clause-whole
resend-requires-clause-whole c =
    rw c.take_partly.ensures (partly_keeps c.args.fields.now c.args.ack c.args.now c.requires.sound c.requires.moment c.requires.ack c.requires.new c.requires.is_partial).sound.nxt_multiple
