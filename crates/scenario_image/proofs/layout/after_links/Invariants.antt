use Rattle.std.proofs.Common.{◌≡◌, ◌+◌, ◌-◌, length}
use Rattle.scenario_image.specs.Layout.{links_size}
use Rattle.scenario_image.proofs.layout.after_links.Given as goal

abbrev pub invariant-loop : goal.invariant-loop
invariant-loop l = links_size l.count l.bytes + length l.rest ≡ length l.bytes + links_size (l.count - l.counter) l.rest
