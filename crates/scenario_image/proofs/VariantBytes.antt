-- The byte of a flow's variant is read as that variant, and no other byte is.
use Rattle.std.proofs.Common.{◌≡◌, ℕ, zero, suc, ◌%◌, Bool, true, false, Some, refl, ap}
use Rattle.std.proofs.lemmas.Option.{none-some, same_Some}
use Rattle.sim_time.specs.declared.variant.Iw.{Iw}
use Rattle.sim_time.specs.declared.variant.Iw.TheVariants.{Iw3, Iw10}
use Rattle.sim_time.specs.declared.variant.Variant.{Variant}
use Rattle.sim_time.specs.declared.variant.TheConstants.{RENO}
use Rattle.scenario_image.specs.Variants.{variant_byte, variant_of_byte}

by_parts : (newreno : Bool) (iw : Iw) → let v : Variant = record { newreno = newreno; iw = iw } in variant_of_byte (variant_byte v % 256) ≡ Some v
by_parts false Iw3 = refl
by_parts true Iw3 = refl
by_parts false Iw10 = refl
by_parts true Iw10 = refl

pub byte_again : (variant : Variant) → variant_of_byte (variant_byte variant % 256) ≡ Some variant
byte_again variant = by_parts variant.newreno variant.iw

pub byte_takes : (byte : ℕ) (variant : Variant) → variant_of_byte byte ≡ Some variant → byte ≡ variant_byte variant
byte_takes zero variant is = ap variant_byte (same_Some RENO variant is)
byte_takes (suc zero) variant is = ap variant_byte (same_Some (record RENO { newreno = true }) variant is)
byte_takes (suc (suc zero)) variant is = ap variant_byte (same_Some (record RENO { iw = Iw10 }) variant is)
byte_takes (suc (suc (suc zero))) variant is = ap variant_byte (same_Some (record RENO { newreno = true; iw = Iw10 }) variant is)
byte_takes (suc (suc (suc (suc byte)))) variant is = absurd (none-some variant is)
