-- The word for which TCP a sender speaks is plain, and names it again.
use Rattle.std.proofs.Common.{◌≡◌, Bool, true, false, Some, None, is_some, refl, ap, arith}
use Rattle.sim_time.specs.declared.variant.Iw.TheVariants.{Iw3}
use Rattle.sim_time.specs.declared.variant.Variant.{Variant}
use Rattle.scenario_asm.specs.declared.fault.Fault.TheVariants.{E4}
use Rattle.scenario_asm.specs.TcpWords.{tcp_named, recovery_word, tcp_word}
use Rattle.scenario_asm.specs.Verdicts.{faulty_unless}
use Rattle.scenario_asm.proofs.SpeltLines.{IsPlain}

plain_recovery : (newreno : Bool) → IsPlain (recovery_word newreno)
plain_recovery true = record { some = omega arith; fits = refl }
plain_recovery false = record { some = omega arith; fits = refl }

pub plain_tcp : (variant : Variant) → IsPlain (tcp_word variant)
plain_tcp variant = plain_recovery variant.newreno

recovery_again : (newreno : Bool) → tcp_named (recovery_word newreno) ≡ Some (record { newreno = newreno; iw = Iw3 })
recovery_again true = refl
recovery_again false = refl

-- all but the initial window
pub tcp_again : (variant : Variant) → tcp_named (tcp_word variant) ≡ Some (record variant { iw = Iw3 })
tcp_again variant = recovery_again variant.newreno

pub tcp_none : (variant : Variant) → faulty_unless (is_some (tcp_named (tcp_word variant))) E4 ≡ None
tcp_none variant = ap (λ read. faulty_unless (is_some read) E4) (tcp_again variant)
