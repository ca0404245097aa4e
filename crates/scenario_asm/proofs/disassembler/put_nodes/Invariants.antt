-- What is written so far, with what is left, is the whole.
use Rattle.std.proofs.Common.{◌≡◌, ◌++◌, drop}
use Rattle.scenario_asm.specs.Spelling.{text_for}
use Rattle.scenario_asm.specs.CanonicalText.{node_statements}
use Rattle.scenario_asm.proofs.disassembler.put_nodes.Given as goal

abbrev pub invariant-loop-number : goal.invariant-loop-number
invariant-loop-number l =
    l.text.items ++ text_for (node_statements l.number (drop l.number l.kinds)) ≡ l.initial.text.items ++ text_for (node_statements 0 l.kinds)
