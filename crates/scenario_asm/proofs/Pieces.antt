-- The first piece, and the pieces after it.
use Rattle.std.proofs.Common.{inl, inr, ◌≤◌, ◌≡◌, ℕ, suc, ◌+◌, ◌==◌, ◌<◌, Bool, true, false, List, [], ◌∷◌, length, ap, refl, arith, add-one}
use Rattle.std.proofs.lemmas.Bool.{cases_Bool}
use Rattle.std.specs.List.{before_first, after_first, onto_first}
use Rattle.scenario_asm.specs.Lines.{pieces}

pub one_plus : (n : ℕ) → 1 + n ≡ suc n
one_plus n = omega arith

-- a byte that doesn't end the piece is the first of it
pub before_more : (p : ℕ → Bool) (b : ℕ) (bs : List ℕ) → p b ≡ false → before_first p (b ∷ bs) ≡ b ∷ before_first p bs
before_more p b bs isn't = simp (isn't, one_plus)

after_more : (p : ℕ → Bool) (b : ℕ) (bs : List ℕ) → p b ≡ false → after_first p (b ∷ bs) ≡ after_first p bs
after_more p b bs isn't = simp (isn't, one_plus, add-one)

pub pieces_no : (end b : ℕ) (bs : List ℕ) → (b == end) ≡ false → pieces end (b ∷ bs) ≡ onto_first b (pieces end bs)
pieces_no end b bs isn't = simp isn't

pieces_yes : (end b : ℕ) (bs : List ℕ) → (b == end) ≡ true → pieces end (b ∷ bs) ≡ before_first (λ x. x == end) (b ∷ bs) ∷ pieces end (after_first (λ x. x == end) (b ∷ bs))
pieces_yes end b bs is = simp is

pieces_one : (end b : ℕ) → (b == end) ≡ false → pieces end (b ∷ []) ≡ before_first (λ x. x == end) (b ∷ []) ∷ pieces end (after_first (λ x. x == end) (b ∷ []))
pieces_one end b isn't = simp isn't

pieces_cons : (end b : ℕ) (bs : List ℕ) → pieces end (b ∷ bs) ≡ before_first (λ x. x == end) (b ∷ bs) ∷ pieces end (after_first (λ x. x == end) (b ∷ bs))
pieces_cons end b [] = elim (cases_Bool (b == end)) [ inl is ↦ pieces_yes end b [] is | inr isn't ↦ pieces_one end b isn't ]
pieces_cons end b (c ∷ cs) =
    elim (cases_Bool (b == end)) [
      | inl is ↦ pieces_yes end b (c ∷ cs) is
      | inr isn't ↦
          let whole : pieces end (b ∷ c ∷ cs) ≡ onto_first b (pieces end (c ∷ cs)) = pieces_no end b (c ∷ cs) isn't in
          let rest : onto_first b (pieces end (c ∷ cs)) ≡ (b ∷ before_first (λ x. x == end) (c ∷ cs)) ∷ pieces end (after_first (λ x. x == end) (c ∷ cs)) = ap (onto_first b) (pieces_cons end c cs) in
          let before : before_first (λ x. x == end) (b ∷ c ∷ cs) ≡ b ∷ before_first (λ x. x == end) (c ∷ cs) = before_more (λ x. x == end) b (c ∷ cs) isn't in
          let after : after_first (λ x. x == end) (b ∷ c ∷ cs) ≡ after_first (λ x. x == end) (c ∷ cs) = after_more (λ x. x == end) b (c ∷ cs) isn't in
          cc
    ]

-- bytes begin with their first piece, and the pieces of the rest follow
pub pieces_first : (end : ℕ) (bs : List ℕ) → 0 < length bs → pieces end bs ≡ before_first (λ x. x == end) bs ∷ pieces end (after_first (λ x. x == end) bs)
pieces_first end [] some = absurd (omega arith)
pieces_first end (b ∷ bs) some = pieces_cons end b bs

-- no bytes have no pieces
pub pieces_none : (end : ℕ) (bs : List ℕ) → length bs ≡ 0 → pieces end bs ≡ []
pieces_none end [] none = refl
pieces_none end (b ∷ bs) none = absurd (omega arith)

length_onto : (b : ℕ) (parts : List (List ℕ)) → length (onto_first b parts) ≤ length parts + 1
length_onto b [] = omega arith
length_onto b (part ∷ parts) = omega arith

-- there are no more pieces than bytes
pub pieces_few : (end : ℕ) (bs : List ℕ) → length (pieces end bs) ≤ length bs
pieces_few end [] = omega arith
pieces_few end (b ∷ bs) =
    elim (cases_Bool (b == end)) [
      | inl is ↦ simp is (omega (arith, pieces_few end bs))
      | inr isn't ↦ simp isn't (omega (arith, length_onto b (pieces end bs), pieces_few end bs))
    ]
