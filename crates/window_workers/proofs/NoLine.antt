-- A sheaf of no list.
use Rattle.std.proofs.Common.{◌≡◌, ℕ, [], ap, ◌∙◌}
use Rattle.window_core.specs.Sheaves.{SheafValue, merged}
use Rattle.line_merge.proofs.Rests.{nothing_in_order}

-- a sheaf of no list has no line
pub no_line : (s : SheafValue) (first : ℕ) → s ≡ record { first = first; lists = [] } → (merged s).lines ≡ []
no_line s first is = ap (λ (x : SheafValue). (merged x).lines) is ∙ nothing_in_order
