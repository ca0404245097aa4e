use Rattle.std.proofs.Common.{◌≡◌, ◌<◌, length, true, false, refl, arith}
use Rattle.std.proofs.lemmas.Bool.Decides.{nat_tests}
use Rattle.prompt_words.specs.Input.{is_marker}
use Rattle.prompt_words.proofs.Parted.{scanned_more, parts_at, parts_none}
use Rattle.prompt_words.proofs.input.split.Goals as goal

pub returns-then-is_marker-clause-text : goal.returns-then-is_marker-clause-text
returns-then-is_marker-clause-text c =
    let some : 0 < length c.loop-rest.rest.now = grind (arith, nat_tests) in
    let marker : is_marker c.cut.result.0.now ≡ true = cc in
    (parts_at c.args.input.now c.loop-rest.rest.now c.cut.result.0.now c.cut.result.1.now _ c.loop-rest.invariant some c.cut.ensures.before c.cut.ensures.after marker refl).text_is

pub returns-then-is_marker-clause-commands : goal.returns-then-is_marker-clause-commands
returns-then-is_marker-clause-commands c =
    let some : 0 < length c.loop-rest.rest.now = grind (arith, nat_tests) in
    let marker : is_marker c.cut.result.0.now ≡ true = cc in
    (parts_at c.args.input.now c.loop-rest.rest.now c.cut.result.0.now c.cut.result.1.now _ c.loop-rest.invariant some c.cut.ensures.before c.cut.ensures.after marker refl).commands_are

pub loop-rest-preserved : goal.loop-rest-preserved
loop-rest-preserved c =
    let some : 0 < length c.loop-rest.rest.now = grind (arith, nat_tests) in
    let text : is_marker c.cut.result.0.now ≡ false = cc in
    scanned_more c.args.input.now c.loop-rest.rest.now c.cut.result.0.now c.cut.result.1.now c.loop-rest.invariant some c.cut.ensures.before c.cut.ensures.after text

pub returns-clause-text : goal.returns-clause-text
returns-clause-text c =
    let none : length c.loop-rest.rest.now ≡ 0 = grind (arith, nat_tests) in
    (parts_none c.args.input.now c.loop-rest.rest.now c.loop-rest.invariant none).text_is

pub returns-clause-commands : goal.returns-clause-commands
returns-clause-commands c =
    let none : length c.loop-rest.rest.now ≡ 0 = grind (arith, nat_tests) in
    (parts_none c.args.input.now c.loop-rest.rest.now c.loop-rest.invariant none).commands_are
