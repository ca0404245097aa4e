use Rattle.std.proofs.Common.{◌≡◌, ◌∙◌, true, sym, ap}
use Rattle.std.specs.List.{list_any}
use Rattle.node_core.specs.TraceLine.{shown}
use Rattle.breakpoints.specs.Breaks.{is_sent_of}
use Rattle.breakpoints.proofs.Sent.{not_stalled_now}
use Rattle.breakpoints.proofs.breaks.one_stalls.Goals as goal

pub returns-then-has_sent_of : goal.returns-then-has_sent_of
returns-then-has_sent_of c = λ before is stepped.
    let line = c.args.line.now in
    let sends : list_any (is_sent_of c.args.number) line.acts.acts ≡ true = ap (list_any (is_sent_of c.args.number)) (sym c.as_slice.ensures) ∙ sym c.has_sent_of.ensures ∙ c.if-has_sent_of.true in
    not_stalled_now before c.args.net.now (shown line) c.args.number is stepped sends

pub returns-else-has_sent_of : goal.returns-else-has_sent_of
returns-else-has_sent_of c = c.becomes_stalled.ensures
