use Rattle.std.proofs.Common.{◌≡◌, ◌+◌, ◌++◌, cond, Some, None, sym, ap, subst, ◌∙◌, length}
use Rattle.std.specs.Prelude.{count_by, nat_lt, option_to_list}
use Rattle.std.specs.Option.{option_or}
use Rattle.reno_sender.specs.declared.fields.SenderFields.{SenderFields}
use Rattle.figures.specs.declared.turn.KeptSender.{KeptSender}
use Rattle.figures.specs.Turns.{Turn, planned_in, again_in, in_recovery, recovers, sample_by, sent_as, kept_of, is_complete, IsOfSegments}
use Rattle.figures.specs.Classes.{least_from}
use Rattle.figures.specs.Senders.{trips_of}
use Rattle.figures.specs.Tallied.{IsTallyOf}
use Rattle.figures.proofs.Sent.{planned_is, of_segments}
use Rattle.figures.proofs.Turns.{turn_more}
use Rattle.figures.proofs.sender.SenderFigures.act.Goals as goal

pub sent_by-sent-requires-clause-old : goal.sent_by-sent-requires-clause-old
sent_by-sent-requires-clause-old c =
    subst (λ (f : SenderFields). IsOfSegments c.args.self.now.kept f.mss) (sym c.as_fields-fields.ensures.value) (of_segments c.args.self.now.kept c.args.cause c.args.now c.args.new.now c.requires.acted)

pub returns-clause-figures : goal.returns-clause-figures
returns-clause-figures c = λ earlier ts f kept planned is.
    let t : Turn = record { old = f; cause = c.args.cause; now = c.args.now } in
    let was = c.args.self.now.kept in
    let fields = c.as_fields-fields.result.now in
    let before = kept.is in
    let after : fields ≡ (planned_in t).fields = c.as_fields-fields.ensures.value ∙ planned in
    let recovering : c.recovers.result ≡ in_recovery t = c.recovers.ensures ∙ ap (recovers c.args.cause) after in
    let sent : sent_as was fields c.args.cause ≡ (planned_in t).sent =
    ap (λ (k : KeptSender). sent_as k fields c.args.cause) before ∙ ap (λ (g : SenderFields). sent_as (kept_of f) g c.args.cause) after ∙ sym (planned_is f c.args.cause c.args.now kept.sound) in
    let again : c.sent_by-sent.result.again ≡ again_in t =
    c.sent_by-sent.ensures.again ∙ ap (λ n. count_by (λ x. nat_lt x n) (sent_as was fields c.args.cause)) (ap (λ (k : KeptSender). k.high) before) ∙ ap (count_by (λ x. nat_lt x f.high)) sent in
    turn_more earlier ts c.args.self.now _ t is
    (ap (λ n. c.args.self.now.sent + n) (c.from.ensures ∙ c.sent_by-sent.ensures.segments ∙ ap length sent))
    (c.note_again.ensures.recovery ∙ ap (λ n. c.args.self.now.again_in_recovery + n) (ap (λ b. cond b c.sent_by-sent.result.again 0) recovering ∙ ap (λ n. cond (in_recovery t) n 0) again))
    (c.note_again.ensures.otherwise ∙ ap (λ n. c.args.self.now.again_otherwise + n) (ap (λ b. cond b 0 c.sent_by-sent.result.again) recovering ∙ ap (cond (in_recovery t) 0) again))
    (ap (λ n. c.args.self.now.timeouts + n) c.timeouts_in.ensures.value)
    (c.note_complete.ensures ∙ ap (λ b. option_or c.args.self.now.completed (cond b (Some c.args.now) None)) (c.is_complete.ensures ∙ ap is_complete after))
    (subst (λ o. IsTallyOf (trips_of ts ++ option_to_list o) c.note_some.new.self) (c.sample_by-trip.ensures.value ∙ ap (λ (k : KeptSender). sample_by k.timing c.args.cause c.args.now) before) (c.note_some.ensures.tally (trips_of ts) is.trips))
    (c.lower.ensures ∙ ap (λ o. least_from c.args.self.now.least (option_to_list o)) (c.sample_by-trip.ensures.value ∙ ap (λ (k : KeptSender). sample_by k.timing c.args.cause c.args.now) before))
