use Rattle.std.proofs.Common.{sym, ap, subst, refl, ◌∙◌, None, length}
use Rattle.tournament.proofs.Maps.{not_some}
use Rattle.table_run.specs.State.{State, initial}
use Rattle.net_machine.specs.Run.{Reached}
use Rattle.debugger.specs.Moves.{Passes}
use Rattle.window_engine.proofs.Between.{initial_nodes}
use Rattle.debugger.proofs.Walks.{passes_start}
use Rattle.debugger.proofs.moves.Debugger.new.Goals as goal

pub new-requires-2 : goal.new-requires-2
new-requires-2 c = ap (λ (r : Reached). r.position) (c.in-Ok-copy.ensures ∙ c.in-Ok.ensures.state)

pub invariant_of-result : goal.invariant_of-result
invariant_of-result c = record { some = c.requires.workers.0; few = c.requires.workers.1 }

pub invariant_of-result-2 : goal.invariant_of-result-2
invariant_of-result-2 c =
    let start = initial c.args.scenario.now in
    let checkpoints_are = c.new-2.ensures ∙ ap (λ (r : Reached). r.state) (c.in-Ok-copy.ensures ∙ c.in-Ok.ensures.state) in
    record {
      moves = record {
        shown = subst (λ (s : State). Passes s c.in-Ok.net) (sym checkpoints_are) (subst (Passes start) (sym c.in-Ok.ensures.state) (passes_start start));
        left = λ was e. absurd (not_some e);
      };
      nodes = c.requires.partition ∙ sym (ap (λ (s : State). length s.parts) checkpoints_are ∙ initial_nodes c.args.scenario.now);
    }

pub returns : goal.returns
returns c =
    let checkpoints_are = c.new-2.ensures ∙ ap (λ (r : Reached). r.state) (c.in-Ok-copy.ensures ∙ c.in-Ok.ensures.state) in
    λ i. record { start = checkpoints_are i; shown = c.in-Ok.ensures.state i; left = None; breaks = c.new-3.ensures i; workers = c.args.workers }

pub same-net : goal.same-net
same-net c = refl
