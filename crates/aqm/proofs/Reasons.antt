-- Each reason stands once among all, and numbers by reason are a list of as many.
use Rattle.std.proofs.Common.{◌≡◌, ℕ, List, [], ◌∷◌, map, refl, arith}
use Rattle.std.specs.Prelude.{◌+◌, cond, slice_index, slice_set, count_by, Contains}
use Rattle.aqm.specs.DropReasons.{all_reasons, reason_index, is_reason}
use Rattle.aqm.specs.declared.drop_reason.DropReason.{DropReason}
use Rattle.aqm.specs.declared.drop_reason.DropReason.TheVariants.{Lost, Offer, Take}
use Rattle.aqm.specs.declared.drop_reason.OfferDrop.TheVariants.{Full}
use Rattle.aqm.specs.declared.drop_reason.TakeDrop.TheVariants.{Codel}

plus_none : (n : ℕ) → n ≡ n + 0
plus_none n = omega arith

pub every_reason : (reason : DropReason) → Contains all_reasons reason
every_reason Lost = (0, omega arith, refl)
every_reason (Offer Full) = (1, omega arith, refl)
every_reason (Take Codel) = (2, omega arith, refl)

pub told_once : (why : DropReason) → count_by (is_reason why) all_reasons ≡ 1
told_once Lost = refl
told_once (Offer Full) = refl
told_once (Take Codel) = refl

-- counts by reason, and one more for one of them
pub one_more_at : (f : DropReason → ℕ) (why : DropReason) →
    slice_set (map f all_reasons) (reason_index why) (slice_index (map f all_reasons) (reason_index why) + 1) ≡ map (λ reason. f reason + cond (is_reason why reason) 1 0) all_reasons
one_more_at f Lost = cc (plus_none (f (Offer Full)), plus_none (f (Take Codel)))
one_more_at f (Offer Full) = cc (plus_none (f Lost), plus_none (f (Take Codel)))
one_more_at f (Take Codel) = cc (plus_none (f Lost), plus_none (f (Offer Full)))
