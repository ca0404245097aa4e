-- A loop that writes each element of a list.
use Rattle.std.proofs.Common.{◌≡◌, ◌≤◌, ◌<◌, ◌+◌, ℕ, List, [], ◌∷◌, ◌++◌, length, map, set, get_or, take, sym, ap, ◌∙◌, arith}
use Rattle.std.proofs.lemmas.List.{take_more, take_more_set, map-append, get_or-set_other, length-set}

-- the first elements are changed, and the others stay
pub record IsChangedTo {A : Type 0} (d : A) (f : A → A) (old now : List A) (i : ℕ) : Type 0 where
  pub size : length now ≡ length old
  pub first : take i now ≡ map f (take i old)
  pub rest : (j : ℕ) → i ≤ j → get_or now j d ≡ get_or old j d

-- one more is
pub one_changed : {A : Type 0} (d : A) (f : A → A) (old now : List A) (i : ℕ) (x : A) → IsChangedTo d f old now i → i < length now → x ≡ f (get_or now i d) → IsChangedTo d f old (set now i x) (i + 1)
one_changed d f old now i x are under e = record {
  size = length-set now i x ∙ are.size;
  first =
      take_more_set now i x under
      ∙ ap (λ xs. xs ++ x ∷ []) are.first
      ∙ ap (λ y. map f (take i old) ++ y ∷ []) (e ∙ ap f (are.rest i (omega arith)))
      ∙ sym (map-append f (take i old) (get_or old i d ∷ []))
      ∙ ap (map f) (sym (take_more old i d (let size = are.size in omega (arith, under, size))));
  rest = λ j upto. get_or-set_other now i j x d (λ same. absurd (omega (arith, upto, same))) ∙ are.rest j (omega (arith, upto));
}
