use Rattle.std.proofs.Common.{◌-◌, ◌*◌, ◌^◌, ◌∙◌, min, length, ap₂, arith}
use Rattle.std.proofs.Math.Nat.{one-le-pow}
use Rattle.scenario_asm.specs.Numbers.{number}
use Rattle.prompt_words.proofs.Times.{saturated_product, saturated_sum}
use Rattle.prompt_words.proofs.moment.nanoseconds.Goals as goal

pub returns : goal.returns
returns c =
    let whole = number c.args.whole.now in
    let part = number c.args.part.now in
    let unit = 10 ^ c.args.places in
    let place = 10 ^ (c.args.places - length c.args.part.now) in
    let units = saturated_product whole unit c.saturating_mul-units.result (one-le-pow c.args.places 10 (omega arith))
    (c.saturating_mul-units.ensures ∙ ap₂ (λ n u. min (n * u) 18446744073709551615) c.value.ensures c.power_of_ten.ensures) in
    let fraction = saturated_product part place c.saturating_mul-fraction.result (one-le-pow (c.args.places - length c.args.part.now) 10 (omega arith))
    (c.saturating_mul-fraction.ensures ∙ ap₂ (λ n u. min (n * u) 18446744073709551615) c.value-2.ensures c.power_of_ten-2.ensures) in
    saturated_sum (whole * unit) (part * place) c.saturating_mul-units.result c.saturating_mul-fraction.result c.saturating_add.result units fraction c.saturating_add.ensures
