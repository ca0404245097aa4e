use Rattle.std.proofs.Common.{◌∙◌, ap, arith, refl}
use Rattle.net_machine.specs.Run.{Reached}
use Rattle.window_engine.specs.declared.run_state.RunState.{RunState}
use Rattle.window_engine.specs.declared.run_state.WriteFault.TheVariants.{Workers}
use Rattle.window_workers.specs.declared.fault.WorkersFault.TheVariants.{NoMemory}
use Rattle.window_engine.proofs.Grouped.{nodes_there}
use Rattle.window_engine.proofs.OneByOne.{broken_on, runs_there, taken_up}
use Rattle.window_engine.proofs.Writing.{wrote_no_more}
use Rattle.window_engine.proofs.run_state.RunState.go_singly.Goals as goal

pub split-requires : goal.split-requires
split-requires g c =
    let a = c.args in
    let gone = c.run_singly.new in
    let contents = g.S.Sink.contents in
    let there = runs_there a.call.now.until a.call.now.began.value a.self.now gone.self gone.single.net a.written.now gone.written (contents a.call.now.known.value) (contents a.sink.now) (contents gone.sink) c.requires.rests.rests c.in-Ok-run_singly.ensures.on in
    nodes_there gone.self.groups gone.self.ahead gone.single.net there

pub returns-clause-rests : goal.returns-clause-rests
returns-clause-rests g c =
    let a = c.args in
    let gone = c.run_singly.new in
    let contents = g.S.Sink.contents in
    record {
      rests = taken_up a.call.now.until a.call.now.began.value a.self.now gone.self gone.single.net a.written.now gone.written (contents a.call.now.known.value) (contents a.sink.now) (contents gone.sink) c.requires.rests.rests c.in-Ok-run_singly.ensures.on c.in-Ok-split.window c.in-Ok-split.ensures;
      failures_are = c.in-Ok-run_singly.ensures.failures ∙ c.requires.rests.failures_are;
    }

pub returns-clause-on : goal.returns-clause-on
returns-clause-on g c =
    let on = c.in-Ok-run_singly.ensures.on in
    let more = on.wrote.position_is in
    let at = ap (λ (r : Reached). r.position) c.in-Ok-split.ensures.net_is in
    omega (arith, more, at)

pub returns-in_default-split-clause-ended : goal.returns-in_default-split-clause-ended
returns-in_default-split-clause-ended g c =
    let a = c.args in
    let gone = c.run_singly.new in
    let contents = g.S.Sink.contents in
    let failures = g.S.Sink.failures in
    let on = c.in-Ok-run_singly.ensures.on in
    let at = ap (λ (x : RunState). x.position) on.rest in
    broken_on a.call.now.until a.call.now.began.value a.self.now gone.self gone.single.net a.written.now gone.written (contents a.call.now.known.value) (contents a.sink.now) (contents gone.sink) c.requires.rests.rests on a.call.now.workers.workers a.call.now.until gone.self (contents gone.sink) (Workers NoMemory) (failures a.call.now.known.value) (failures gone.sink) (failures gone.sink)
    a.call.now.workers.some (omega arith) (wrote_no_more a.call.now.until gone.single.net gone.self.position (contents gone.sink) at, tt) (λ is. absurd (cc)) (c.in-Ok-run_singly.ensures.failures ∙ c.requires.rests.failures_are) refl refl refl
