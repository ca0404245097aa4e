use Rattle.std.proofs.Common.{◌≡◌, ◌∙◌, ◌++◌, true, sym, ap, append-nil, true≢false}
use Rattle.node_core.specs.TraceLine.{shown}
use Rattle.flow_waits.proofs.Found.{some_found}
use Rattle.breakpoints.specs.Breaks.{sends_own}
use Rattle.debugger.proofs.Passing.{none_becomes_stalled}
use Rattle.breakpoints.proofs.Sent.{none_stalls}
use Rattle.debugger.proofs.StallsFound.{none_below}
use Rattle.debugger.proofs.stalls.push_stalls.Goals as goal

pub returns-then-leaves_moving-clause-ok : goal.returns-then-leaves_moving-clause-ok
returns-then-leaves_moving-clause-ok c =
    let before = c.args.before.now.value in
    let line = shown c.args.line.now in
    let none = none_below c.args.net.now.position before.state line c.args.net.now.state 128
    (none_becomes_stalled before c.args.net.now line c.requires.is_run c.requires.stepped c.args.counts.now c.requires.counted (sym c.leaves_moving.ensures ∙ c.if-leaves_moving.true)) in
    sym (append-nil c.args.out.now.items) ∙ ap (λ l. c.args.out.now.items ++ l) (sym none)

pub returns-then-sends_own-clause-ok : goal.returns-then-sends_own-clause-ok
returns-then-sends_own-clause-ok c =
    let before = c.args.before.now.value in
    let line = c.args.line.now in
    let sends : sends_own line.event line.acts.acts ≡ true = ap (λ (acts : _). sends_own line.event acts) (sym c.as_slice.ensures) ∙ sym c.sends_own.ensures ∙ c.if-sends_own.true in
    let quiet = none_stalls before c.args.net.now (shown line) c.requires.stepped sends in
    let none = none_below c.args.net.now.position before.state (shown line) c.args.net.now.state 128
    (λ flow stalls. true≢false (sym ((some_found before c.args.net.now (shown line) c.requires.is_run c.requires.stepped).1 (flow, stalls)) ∙ quiet)) in
    sym (append-nil c.args.out.now.items) ∙ ap (λ l. c.args.out.now.items ++ l) (sym none)
