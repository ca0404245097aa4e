use Rattle.std.proofs.Common.{◌≡◌, ◌∙◌, true, sym, ap, true≢false}
use Rattle.node_core.specs.TraceLine.{shown}
use Rattle.flow_waits.proofs.Found.{some_found}
use Rattle.breakpoints.specs.Breaks.{sends_own}
use Rattle.breakpoints.proofs.Sent.{none_stalls}
use Rattle.breakpoints.proofs.breaks.some_stalls.Goals as goal

pub returns-then-sends_own : goal.returns-then-sends_own
returns-then-sends_own c = λ before is stepped.
    let line = c.args.line.now in
    let sends : sends_own line.event line.acts.acts ≡ true = ap (λ (acts : _). sends_own line.event acts) (sym c.as_slice.ensures) ∙ sym c.sends_own.ensures ∙ c.if-sends_own.true in
    let none = none_stalls before c.args.net.now (shown line) stepped sends in
    (λ t. absurd (true≢false (sym t)), λ one. absurd (true≢false (sym ((some_found before c.args.net.now (shown line) is stepped).1 one) ∙ none)))

pub returns-else-sends_own : goal.returns-else-sends_own
returns-else-sends_own c = c.some_becomes_stalled.ensures
