use Rattle.reno_sender.proofs.Rows.{resend_well_made}
use Rattle.reno_sender.proofs.sending.resend.Goals as goal

pub of-requires : goal.of-requires
of-requires c =
    let r = c.requires in
    resend_well_made c.args.fields.now c.args.nxt r.sound r.above r.back r.whole r.lt_flight r.went_back
