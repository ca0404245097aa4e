use Rattle.std.proofs.Common.{sym, ◌∙◌}
use Rattle.scenario_asm.proofs.Declaring.{none_declared, all_declare, declared, no_end, one_declared}
use Rattle.scenario_asm.proofs.named_parts.parts_of_text.Goals as goal

pub returns-then-is_some-clause-only : goal.returns-then-is_some-clause-only
returns-then-is_some-clause-only c = none_declared c.args.text.now c.in_ok-read_lines.field-0 (sym c.is_some.ensures ∙ c.if-is_some.true) c.in_ok-read_lines.ensures.refused

pub returns-in-None-clause-only : goal.returns-in-None-clause-only
returns-in-None-clause-only c =
    let all = all_declare c.args.text.now c.read_lines.new.draft c.in_ok-read_lines.field-0 (sym c.is_some.ensures ∙ c.if-is_some.false) c.in_ok-read_lines.ensures.all in
    no_end c.args.text.now c.read_lines.new.draft c.in_ok-parts.field-0 c.in-None.is c.in_ok-parts.ensures all

pub with_names-requires : goal.with_names-requires
with_names-requires c =
    let all = all_declare c.args.text.now c.read_lines.new.draft c.in_ok-read_lines.field-0 (sym c.is_some.ensures ∙ c.if-is_some.false) c.in_ok-read_lines.ensures.all in
    declared c.args.text.now c.read_lines.new.draft c.in_ok-parts.field-0 c.in-Some.parts c.in-Some.is c.in_ok-parts.ensures all

pub returns-in_ok-with_names-in-Some-clause-only : goal.returns-in_ok-with_names-in-Some-clause-only
returns-in_ok-with_names-in-Some-clause-only c = λ parts declares.
    let all = all_declare c.args.text.now c.read_lines.new.draft c.in_ok-read_lines.field-0 (sym c.is_some.ensures ∙ c.if-is_some.false) c.in_ok-read_lines.ensures.all in
    c.in_ok-with_names-in-Some.ensures.parts
    ∙ one_declared c.args.text.now c.in-Some.parts parts (declared c.args.text.now c.read_lines.new.draft c.in_ok-parts.field-0 c.in-Some.parts c.in-Some.is c.in_ok-parts.ensures all) declares
