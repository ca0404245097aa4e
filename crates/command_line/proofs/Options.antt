-- `Some` is not `None`, and holds one value.
use Rattle.std.proofs.Common.{◌≡◌, sym, ap, Some, None, is_some, unwrap_or}
use mathlib.Core.Bool.{false≢true}

pub some_none : {A : Type 0} (x : A) → Some x ≡ None → ⊥
some_none x e = false≢true (ap is_some (sym e))

pub same_some : {A : Type 0} (x y : A) → Some x ≡ Some y → x ≡ y
same_some x y e = ap (λ o. unwrap_or o x) e
