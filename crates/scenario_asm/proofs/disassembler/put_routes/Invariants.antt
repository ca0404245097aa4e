-- What is written so far, with what is left, is the whole.
use Rattle.std.proofs.Common.{◌≡◌, ◌++◌, drop}
use Rattle.scenario_asm.specs.Spelling.{text_for}
use Rattle.scenario_asm.specs.CanonicalText.{route_statements}
use Rattle.scenario_asm.proofs.disassembler.put_routes.Given as goal

abbrev pub invariant-loop-route : goal.invariant-loop-route
invariant-loop-route l =
    l.text.items ++ text_for (route_statements (drop l.route-index l.routes)) ≡ l.initial.text.items ++ text_for (route_statements l.routes)
