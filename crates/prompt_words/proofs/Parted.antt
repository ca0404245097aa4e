-- The lines of a text, and those of what it begins with.
use Rattle.std.proofs.Common.{◌≡◌, ◌<◌, ◌==◌, ◌+◌, ◌-◌, ◌⊎◌, ◌&&◌, ℕ, suc, Bool, true, false, not, cond, List, [], ◌∷◌, ◌++◌, length, take, drop, inl, inr, ⊎_elim, refl, ap, sym, subst, ◌∙◌, arith, append_assoc, append-nil, length-append, add-one}
use Rattle.std.proofs.Math.Seq.{take-append_seam}
use Rattle.std.proofs.lemmas.Bool.{false≢true, eqb-true}
use Rattle.std.proofs.lemmas.List.{take_all, drop_all}
use Rattle.std.proofs.lemmas.List.Folds.{list_all-append}
use Rattle.std.specs.List.{before_first, after_first, onto_first, list_all, prefix_len}
use Rattle.scenario_asm.specs.Lines.{lines_of_text}
use Rattle.scenario_asm.proofs.Pieces.{pieces_first}
use Rattle.prompt_words.specs.Input.{is_marker, text_lines, command_lines}

-- a text of whole lines: its last byte ends a line
abbrev pub is_whole : List ℕ → Bool
is_whole [] = true
is_whole (b ∷ []) = b == 10
is_whole (b ∷ c ∷ bs) = is_whole (c ∷ bs)

onto_append : (b : ℕ) (ps qs : List (List ℕ)) → 0 < length ps → onto_first b (ps ++ qs) ≡ onto_first b ps ++ qs
onto_append b [] qs some = absurd (omega (arith, some))
onto_append b (p ∷ ps) qs some = refl

some_pieces : (b : ℕ) (bs : List ℕ) → 0 < length (lines_of_text (b ∷ bs))
some_pieces b bs = elim (b == 10) as (λ t. 0 < length (cond t ([] ∷ lines_of_text bs) (onto_first b (lines_of_text bs)))) [ true ↦ omega arith | false ↦ onto_some (lines_of_text bs) ]
  where
    onto_some : (ps : List (List ℕ)) → 0 < length (onto_first b ps)
    onto_some [] = omega arith
    onto_some (p ∷ ps) = omega arith

-- behind whole lines the lines are those of the rest
pub whole_lines : (a b : List ℕ) → is_whole a ≡ true → lines_of_text (a ++ b) ≡ lines_of_text a ++ lines_of_text b
whole_lines [] b h = refl
whole_lines (x ∷ []) b h = simp h
whole_lines (x ∷ y ∷ a) b h =
    elim (x == 10) as (λ t. cond t ([] ∷ lines_of_text (y ∷ a ++ b)) (onto_first x (lines_of_text (y ∷ a ++ b))) ≡ cond t ([] ∷ lines_of_text (y ∷ a)) (onto_first x (lines_of_text (y ∷ a))) ++ lines_of_text b) [
      | true ↦ ap (λ ls. [] ∷ ls) (whole_lines (y ∷ a) b h)
      | false ↦ ap (onto_first x) (whole_lines (y ∷ a) b h) ∙ onto_append x (lines_of_text (y ∷ a)) (lines_of_text b) (some_pieces y a)
    ]

whole_ended : (line : List ℕ) → is_whole (line ++ 10 ∷ []) ≡ true
whole_ended [] = refl
whole_ended (b ∷ []) = refl
whole_ended (b ∷ c ∷ bs) = whole_ended (c ∷ bs)

whole_append : (a b : List ℕ) → is_whole a ≡ true → is_whole b ≡ true → is_whole (a ++ b) ≡ true
whole_append [] b h k = k
whole_append (x ∷ []) [] h k = h
whole_append (x ∷ []) (y ∷ b) h k = k
whole_append (x ∷ y ∷ a) b h k = whole_append (y ∷ a) b h k

-- a line and what stands behind it: either the line is ended, or it is the last
abbrev pub IsCut : List ℕ → List ℕ → List ℕ → Type 0
IsCut bs line after = ((bs ≡ line ++ 10 ∷ after) × (lines_of_text (line ++ 10 ∷ []) ≡ line ∷ [])) ⊎ ((bs ≡ line) × (after ≡ []))

before_more : (b : ℕ) (bs : List ℕ) → (b == 10) ≡ false → before_first (λ x. x == 10) (b ∷ bs) ≡ b ∷ before_first (λ x. x == 10) bs
before_more b bs isn't = simp (isn't, one_plus)
  where
    one_plus : (n : ℕ) → 1 + n ≡ suc n
    one_plus n = omega arith

after_more : (b : ℕ) (bs : List ℕ) → (b == 10) ≡ false → after_first (λ x. x == 10) (b ∷ bs) ≡ after_first (λ x. x == 10) bs
after_more b bs isn't = simp (isn't, one_plus, add-one)
  where
    one_plus : (n : ℕ) → 1 + n ≡ suc n
    one_plus n = omega arith

longer : (b : ℕ) (bs line after : List ℕ) → (b == 10) ≡ false → IsCut bs line after → IsCut (b ∷ bs) (b ∷ line) after
longer b bs line after isn't (inl h) = inl (ap (λ l. b ∷ l) h.0, ap (λ t. cond t ([] ∷ lines_of_text (line ++ 10 ∷ [])) (onto_first b (lines_of_text (line ++ 10 ∷ [])))) isn't ∙ ap (onto_first b) h.1)
longer b bs line after isn't (inr h) = inr (ap (λ l. b ∷ l) h.0, h.1)

pub cut_is : (bs : List ℕ) → IsCut bs (before_first (λ x. x == 10) bs) (after_first (λ x. x == 10) bs)
cut_is [] = inr (refl, refl)
cut_is (b ∷ bs) = elim (b == 10) as (λ t. (b == 10) ≡ t → IsCut (b ∷ bs) (before_first (λ x. x == 10) (b ∷ bs)) (after_first (λ x. x == 10) (b ∷ bs))) [
  | true ↦ λ is.
      let before : before_first (λ x. x == 10) (b ∷ bs) ≡ [] = simp is in
      let after : after_first (λ x. x == 10) (b ∷ bs) ≡ bs = simp is in
      let here : IsCut (b ∷ bs) [] bs = inl (ap (λ x. x ∷ bs) (eqb-true b 10 is), refl) in
      subst (λ l. IsCut (b ∷ bs) l (after_first (λ x. x == 10) (b ∷ bs))) (sym before) (subst (IsCut (b ∷ bs) []) (sym after) here)
  | false ↦ λ isn't.
      let here = longer b bs (before_first (λ x. x == 10) bs) (after_first (λ x. x == 10) bs) isn't (cut_is bs) in
      subst (λ l. IsCut (b ∷ bs) l (after_first (λ x. x == 10) (b ∷ bs))) (sym (before_more b bs isn't)) (subst (IsCut (b ∷ bs) (b ∷ before_first (λ x. x == 10) bs)) (sym (after_more b bs isn't)) here)
] refl

abbrev pub is_text : List ℕ → Bool
is_text line = not (is_marker line)

-- lines that are all of the text, and then others
all_prefix : (ps qs : List (List ℕ)) → list_all is_text ps ≡ true → prefix_len is_text (ps ++ qs) ≡ length ps + prefix_len is_text qs
all_prefix [] qs h = omega arith
all_prefix (p ∷ ps) qs h = elim (is_text p) as (λ t. (t && list_all is_text ps) ≡ true → cond t (1 + prefix_len is_text (ps ++ qs)) 0 ≡ length (p ∷ ps) + prefix_len is_text qs) [
  | true ↦ λ k. let rest = all_prefix ps qs k in omega (arith, rest)
  | false ↦ λ k. absurd (false≢true k)
] h

-- how far an input was looked through: what was passed has no marker, and is whole lines unless nothing is left
pub record Scanned (input rest : List ℕ) : Type 0 where
  pub before : List ℕ
  pub parted : input ≡ before ++ rest
  pub whole : (is_whole before ≡ true) ⊎ (rest ≡ [])
  pub clear : list_all is_text (lines_of_text before) ≡ true

some_left : (input rest : List ℕ) (s : Scanned input rest) → 0 < length rest → is_whole s.before ≡ true
some_left input rest s some = ⊎_elim (λ (h : is_whole s.before ≡ true). h) (λ (none : rest ≡ []). absurd (omega (arith, some, ap length none))) s.whole

pub scanned_more : (input rest line after : List ℕ) → Scanned input rest → 0 < length rest → line ≡ before_first (λ x. x == 10) rest → after ≡ after_first (λ x. x == 10) rest
    → is_marker line ≡ false → Scanned input after
scanned_more input rest line after s some is behind text =
    let whole = some_left input rest s some in
    let cut : IsCut rest line after = subst (λ l. IsCut rest l after) (sym is) (subst (IsCut rest (before_first (λ x. x == 10) rest)) (sym behind) (cut_is rest)) in
    let one : list_all is_text (line ∷ []) ≡ true = ap (λ t. not t && true) text in
    let clear : list_all is_text (lines_of_text s.before ++ line ∷ []) ≡ true = list_all-append is_text (lines_of_text s.before) (line ∷ []) ∙ ap (λ t. t && list_all is_text (line ∷ [])) s.clear ∙ one in
    ⊎_elim
    (λ (h : (rest ≡ line ++ 10 ∷ after) × (lines_of_text (line ++ 10 ∷ []) ≡ line ∷ [])). record {
      before = s.before ++ (line ++ 10 ∷ []);
      parted = s.parted ∙ ap (λ r. s.before ++ r) (h.0 ∙ sym (append_assoc line (10 ∷ []) after)) ∙ sym (append_assoc s.before (line ++ 10 ∷ []) after);
      whole = inl (whole_append s.before (line ++ 10 ∷ []) whole (whole_ended line));
      clear = ap (list_all is_text) (whole_lines s.before (line ++ 10 ∷ []) whole ∙ ap (λ ls. lines_of_text s.before ++ ls) h.1) ∙ clear;
    })
    (λ (h : (rest ≡ line) × (after ≡ [])).
    let last : lines_of_text rest ≡ line ∷ [] = pieces_first 10 rest some ∙ (λ i. sym is i ∷ lines_of_text ((sym behind ∙ h.1) i)) in
    record {
      before = s.before ++ rest;
      parted = s.parted ∙ sym (append-nil (s.before ++ rest)) ∙ ap (λ r. (s.before ++ rest) ++ r) (sym h.1);
      whole = inr h.1;
      clear = ap (list_all is_text) (whole_lines s.before rest whole ∙ ap (λ ls. lines_of_text s.before ++ ls) last) ∙ clear;
    })
    cut

-- the two parts are those of the input
pub record AreParts (input text commands : List ℕ) : Type 0 where
  pub text_is : lines_of_text text ≡ text_lines input
  pub commands_are : lines_of_text commands ≡ command_lines input

taken_front : (ps qs : List (List ℕ)) (n : ℕ) → n ≡ length ps → take n (ps ++ qs) ≡ ps
taken_front ps qs n is = ap (λ m. take m (ps ++ qs)) is ∙ take-append_seam ps qs

dropped_front : (ps qs : List (List ℕ)) (line : List ℕ) → drop (length ps + 1) (ps ++ line ∷ qs) ≡ qs
dropped_front [] qs line = refl
dropped_front (p ∷ ps) qs line = let one : length (p ∷ ps) + 1 ≡ suc (length ps + 1) = omega arith in ap (λ n. drop n (p ∷ (ps ++ line ∷ qs))) one ∙ dropped_front ps qs line

-- the marker stands first in the rest
pub parts_at : (input rest line after text : List ℕ) → Scanned input rest → 0 < length rest → line ≡ before_first (λ x. x == 10) rest → after ≡ after_first (λ x. x == 10) rest
    → is_marker line ≡ true → text ≡ take (length input - length rest) input → AreParts input text after
parts_at input rest line after text s some is behind marker taken =
    let ps = lines_of_text s.before in
    let lines : lines_of_text input ≡ ps ++ line ∷ lines_of_text after =
    ap lines_of_text s.parted ∙ whole_lines s.before rest (some_left input rest s some) ∙ ap (λ ls. ps ++ ls) (pieces_first 10 rest some ∙ (λ i. sym is i ∷ lines_of_text (sym behind i))) in
    let none : prefix_len is_text (line ∷ lines_of_text after) ≡ 0 = ap (λ t. cond (not t) (1 + prefix_len is_text (lines_of_text after)) 0) marker in
    let many : prefix_len is_text (lines_of_text input) ≡ length ps = ap (prefix_len is_text) lines ∙ all_prefix ps (line ∷ lines_of_text after) s.clear ∙ omega (arith, none) in
    let front : text_lines input ≡ ps = ap (take (prefix_len is_text (lines_of_text input))) lines ∙ taken_front ps (line ∷ lines_of_text after) (prefix_len is_text (lines_of_text input)) many in
    let size : length input - length rest ≡ length s.before = omega (arith, ap length s.parted, length-append s.before rest) in
    let before : text ≡ s.before = taken ∙ ap (λ n. take n input) size ∙ ap (take (length s.before)) s.parted ∙ take-append_seam s.before rest in
    record {
      text_is = ap lines_of_text before ∙ sym front;
      commands_are = sym (ap (λ ls. drop (length ls + 1) (lines_of_text input)) front ∙ ap (drop (length ps + 1)) lines ∙ dropped_front ps (lines_of_text after) line);
    }

-- nothing is left, and there was no marker
pub parts_none : (input rest : List ℕ) → Scanned input rest → length rest ≡ 0 → AreParts input input []
parts_none input [] s none =
    let all : input ≡ s.before = s.parted ∙ append-nil s.before in
    let ls = lines_of_text input in
    let clear : list_all is_text ls ≡ true = ap (λ b. list_all is_text (lines_of_text b)) all ∙ s.clear in
    let many : prefix_len is_text ls ≡ length ls = ap (prefix_len is_text) (sym (append-nil ls)) ∙ all_prefix ls [] clear ∙ omega arith in
    let front : text_lines input ≡ ls = take_all (prefix_len is_text ls) ls (omega (arith, many)) in
    record { text_is = sym front; commands_are = sym (drop_all (length (text_lines input) + 1) ls (omega (arith, ap length front))) }
parts_none input (b ∷ rest) s none = absurd (omega (arith, none))
