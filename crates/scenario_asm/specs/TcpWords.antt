-- The word for which TCP a flow's sender speaks: each row of the one table is spelt as the other reads.
use Rattle.std.specs.Prelude.{Bool, true, false, codes, Option, Some, None, if◌then◌else◌}
use Rattle.std.specs.Str.{bytes_eq}
use Rattle.sim_time.specs.declared.variant.Variant.{Variant}
use Rattle.sim_time.specs.declared.variant.TheConstants.{RENO}
use Rattle.scenario_asm.specs.Lines.{Word}

-- the variant that a word names, with the smaller initial window
abbrev pub tcp_named : Word → Option Variant
tcp_named word = if bytes_eq word (codes "reno") then Some RENO else (if bytes_eq word (codes "newreno") then Some (record RENO { newreno = true }) else None)

-- the word for a variant, whatever its initial window
abbrev pub recovery_word : Bool → Word
recovery_word false = codes "reno"
recovery_word true = codes "newreno"

abbrev pub tcp_word : Variant → Word
tcp_word variant = recovery_word variant.newreno
