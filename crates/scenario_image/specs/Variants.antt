-- A flow's sender as the last byte of a flow: each row of the one table reads as the other writes.
use Rattle.std.specs.Prelude.{ℕ, zero, suc, ◌+◌, Bool, true, if◌then◌else◌, Option, Some, None}
use Rattle.sim_time.specs.declared.variant.Iw.{Iw}
use Rattle.sim_time.specs.declared.variant.Iw.TheVariants.{Iw3, Iw10}
use Rattle.sim_time.specs.declared.variant.Variant.{Variant}
use Rattle.sim_time.specs.declared.variant.TheConstants.{RENO}

-- the bit of NewReno, and that of the initial window of ten segments
abbrev pub newreno_bit : Bool → ℕ
newreno_bit newreno = if newreno then 1 else 0

abbrev pub iw_bit : Iw → ℕ
iw_bit Iw3 = 0
iw_bit Iw10 = 2

-- the byte of a flow's variant
abbrev pub variant_byte : Variant → ℕ
variant_byte variant = newreno_bit variant.newreno + iw_bit variant.iw

-- the variant that a byte stands for
abbrev pub variant_of_byte : ℕ → Option Variant
variant_of_byte zero = Some RENO
variant_of_byte (suc zero) = Some (record RENO { newreno = true })
variant_of_byte (suc (suc zero)) = Some (record RENO { iw = Iw10 })
variant_of_byte (suc (suc (suc zero))) = Some (record RENO { newreno = true; iw = Iw10 })
variant_of_byte (suc (suc (suc (suc byte)))) = None
