use Rattle.std.proofs.Common.{◌≡◌, List, [], ◌∷◌, ◌++◌, Some, refl, arith}
use Rattle.node_core.specs.TraceLine.{TraceLine, shown}
use Rattle.table_run.specs.State.{State, step}
use Rattle.net_machine.specs.Run.{Reached}
use Rattle.net_watch.proofs.Watching.{runs_nowhere}
use Rattle.figures.specs.declared.figures.Figures.{Figures}
use Rattle.figures.specs.Moments.{Moment, Base}
use Rattle.figures.specs.Figures.{AreFigures}
use Rattle.figures.proofs.Along.{step_run, together, is_moment, is_later, none_earlier}
use Rattle.figures.proofs.Entries.{tells_in_run}
use Rattle.figures.proofs.Kept.{keeps_in_run}
use Rattle.figures.proofs.LinkLaws.{freed_or_offered_in_run}
use Rattle.figures.proofs.watching.FiguresWatch.see.Goals as goal

pub after-requires-clause-few : goal.after-requires-clause-few
after-requires-clause-few c = omega (arith, c.requires.fits.of.events, c.requires.fits.of.position, c.requires.stepped.1, c.position-count.ensures.is_run.position_fits)

pub after-requires-clause-moment : goal.after-requires-clause-moment
after-requires-clause-moment c = is_moment c.args.self.now c.args._before.now.value (shown c.args.line.now) c.args.after.now.state c.requires.fits c.requires.stepped.0

pub after-requires-clause-order : goal.after-requires-clause-order
after-requires-clause-order c = is_later c.args.self.now c.args._before.now.value (shown c.args.line.now) c.args.after.now.state c.requires.fits c.requires.stepped.0

pub after-requires-clause-follows : goal.after-requires-clause-follows
after-requires-clause-follows c = record {
  base = c.requires.fits.base;
  so_far = _;
  before = c.args._before.now.value.state;
  figures = c.requires.fits.of.figures;
  next = c.requires.stepped.0;
  sends = freed_or_offered_in_run c.args.self.now c.args._before.now.value (shown c.args.line.now) c.args.after.now.state c.requires.fits c.requires.stepped.0;
}

pub returns-clause-has : goal.returns-clause-has
returns-clause-has c began from runs was =
    let before : Reached = c.args._before.now.value in
    let line : TraceLine = shown c.args.line.now in
    let t : State = c.args.after.now.state in
    let f : Figures = c.args.self.now in
    let more : (b : Base) (ms : List Moment) → AreFigures b ms before.state f → step before.state ≡ Some (line, t) → AreFigures b (ms ++ record { before = before.state; line = line; after = t } ∷ []) t c.after.new.self =
    λ b ms is next. together b ms before.state line t f c.after.new.self is (c.after.ensures.senders b ms before.state is.senders next)
    (c.after.ensures.links b ms before.state is next (tells_in_run f before line t c.requires.fits next) (keeps_in_run f before line t c.requires.fits next)) c.after.ensures.received c.after.ensures.events c.after.ensures.last in
    (refl, λ p b of. step_run p b before c.args.after.now line f c.after.new.self (was.1 p b of) c.requires.stepped c.after.ensures.events c.after.ensures.last (more b))

pub returns-clause-fits : goal.returns-clause-fits
returns-clause-fits c =
    let before : Reached = c.args._before.now.value in
    let some = c.requires.fits in
    record {
      scenario = some.scenario;
      is_scenario = some.is_scenario;
      fits = c.position-count.ensures.is_run.position_fits;
      base = some.base;
      of = (returns-clause-has c c.args.self.now before (runs_nowhere before) (refl, λ _ _ of. of)).1 some.scenario some.base some.of;
      in_order = λ k v is.
          let last = c.after.ensures.last in
          let later = none_earlier some.scenario before c.args.after.now (shown c.args.line.now) some.of.lines some.is_scenario some.of.comes c.requires.stepped k v is in
          omega (arith, last, later);
    }
