use Rattle.std.proofs.Common.{◌∙◌, List, ℕ, ap, subst}
use Rattle.sessions.specs.Debug.{IsDebugSessionOn}
use Rattle.sessions.specs.Session.{OutcomeTells}
use Rattle.command_line.specs.Sharing.{SharingValue}
use Rattle.sessions.specs.Streams.{streams_of}
use Rattle.sessions.proofs.debug.run_debug.Goals as goal

pub returns : goal.returns
returns g c =
    let seen = streams_of g.R.Source.failures g.R.Source.typed g.W.Sink.failures g.W.Sink.contents in
    let before = seen c.args.reader.now c.args.writer.now in
    let after = seen c.run_task.new.reader c.run_task.new.writer in
    let same = ap (λ (s : SharingValue). s.groups) c.new-same.ensures ∙ c.groups.ensures in
    subst (λ (groups : List ℕ). OutcomeTells c.run_task.result (λ ended. IsDebugSessionOn groups (g.R.Source.remaining c.args.reader.now) ended before after)) same c.run_task.ensures
