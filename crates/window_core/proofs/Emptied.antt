-- Lists that have no line.
use Rattle.std.proofs.Common.{◌≡◌, ℕ, suc, List, [], ◌∷◌, ◌++◌, refl, sym, ap, subst, ◌∙◌}
use Rattle.node_core.specs.TraceLine.{TraceLine}
use Rattle.line_merge.specs.Merged.{all_of, lines_of, AreApart, HasKey}
use Rattle.line_merge.specs.Sheaves.{IsRising}

pub none_in_all : (lists : List (List TraceLine)) → ((i : ℕ) → lines_of lists i ≡ []) → all_of lists ≡ []
none_in_all [] none = refl
none_in_all (lines ∷ lists) none = ap (λ (ls : List TraceLine). ls ++ all_of lists) (none 0) ∙ none_in_all lists (λ i. none (suc i))

pub apart_of_none : (lists : List (List TraceLine)) → ((i : ℕ) → lines_of lists i ≡ []) → AreApart lists
apart_of_none lists none = record { rising = λ i. subst IsRising (sym (none i)) tt; apart = λ i j key has also. absurd (subst (λ ls. HasKey ls key) (none i) has refl) }
