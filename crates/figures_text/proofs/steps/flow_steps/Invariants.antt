-- the flows so far are summed up
use Rattle.std.proofs.Common.{◌≡◌, take}
use Rattle.figures.specs.Figures.{AreOfRun}
use Rattle.figures.specs.Moments.{Base, moments}
use Rattle.figures_text.specs.Steps.{flow_steps}
use Rattle.figures_text.proofs.steps.flow_steps.Given as goal

abbrev pub invariant-loop-number : goal.invariant-loop-number
invariant-loop-number l = (b : Base) (of : AreOfRun l.scenario b l.figures l.net) → l.all.items ≡ take l.number (flow_steps l.scenario l.until b (moments b.state of.count) l.net.state)
