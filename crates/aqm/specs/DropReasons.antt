-- Why packets are dropped, and what each reason is called.
use Rattle.std.specs.Prelude.{ℕ, Bool, ◌==◌, List, [], ◌∷◌, codes}
use Rattle.aqm.specs.declared.drop_reason.DropReason.{DropReason}
use Rattle.aqm.specs.declared.drop_reason.DropReason.TheVariants.{Lost, Offer, Take}
use Rattle.aqm.specs.declared.drop_reason.OfferDrop.TheVariants.{Full}
use Rattle.aqm.specs.declared.drop_reason.TakeDrop.TheVariants.{Codel}

-- every reason, in the order of tables
abbrev pub all_reasons : List DropReason
all_reasons = Lost ∷ Offer Full ∷ Take Codel ∷ []

-- a reason's place among them
abbrev pub reason_index : DropReason → ℕ
reason_index Lost = 0
reason_index (Offer Full) = 1
reason_index (Take Codel) = 2

-- two reasons are one
abbrev pub is_reason : DropReason → DropReason → Bool
is_reason a b = reason_index a == reason_index b

-- a reason's word in a trace
abbrev pub reason_word : DropReason → List ℕ
reason_word Lost = codes "lost"
reason_word (Offer Full) = codes "full"
reason_word (Take Codel) = codes "codel"

-- the name of its count in a table of figures
abbrev pub count_name : DropReason → List ℕ
count_name Lost = codes "dropped as lost"
count_name (Offer Full) = codes "dropped as full"
count_name (Take Codel) = codes "dropped by CoDel"
