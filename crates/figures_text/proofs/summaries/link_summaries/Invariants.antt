-- the links so far are summed up
use Rattle.std.proofs.Common.{◌≡◌, take}
use Rattle.figures.specs.Figures.{AreOfRun}
use Rattle.figures.specs.Moments.{Base, moments}
use Rattle.figures_text.specs.Summaries.{link_summaries}
use Rattle.figures_text.proofs.summaries.link_summaries.Given as goal

abbrev pub invariant-loop-number : goal.invariant-loop-number
invariant-loop-number l = (b : Base) (of : AreOfRun l.scenario b l.figures l.net) → l.all.items ≡ take l.number (link_summaries (record l.scenario { end = l.end }) b (moments b.state of.count) l.net.state)
