-- Lists of the kinds of fault, where there is none.
use mathlib.Core.Bool.{false≢true}
use Rattle.std.proofs.Common.{◌≡◌, Bool, true, false, [], ◌∷◌, refl, ap}
use Rattle.clap.specs.Kinds.{Kinds, or_else}
use Rattle.clap.specs.declared.error.kind.ErrorKind.{ErrorKind}

pub is_empty : Kinds → Bool
is_empty [] = true
is_empty (kind ∷ kinds) = false

-- one kind is one too many
pub some_kind : (kind : ErrorKind) (kinds : Kinds) → kind ∷ kinds ≡ [] → ⊥
unfolding is_empty
some_kind kind kinds none = false≢true (ap is_empty none)

-- where neither gives a kind, the first doesn't
pub first : (a next : Kinds) → or_else a next ≡ [] → a ≡ []
first [] next none = refl
first (kind ∷ kinds) next none = none

-- and the second doesn't
pub second : (a next : Kinds) → or_else a next ≡ [] → next ≡ []
second [] next none = none
second (kind ∷ kinds) next none = absurd (some_kind kind kinds none)
