-- The first word of a line.
use Rattle.std.proofs.Common.{◌≡◌, ◌<◌, ◌==◌, ◌+◌, ℕ, List, ◌∷◌, length, false, ap, sym, ◌∙◌, arith, length-drop}
use Rattle.std.specs.List.{before_first, after_first, filter, position_or_len}
use Rattle.scenario_asm.specs.Lines.{pieces, is_word}
use Rattle.scenario_asm.proofs.Pieces.{pieces_first}
use Rattle.prompt_words.specs.Input.{words_in}

-- what stands behind the first byte that ends a piece is shorter
pub after_shorter : (end : ℕ) (bs : List ℕ) → 0 < length bs → length (after_first (λ b. b == end) bs) < length bs
after_shorter end bs some = omega (arith, some, length-drop (position_or_len (λ b. b == end) bs + 1) bs)

-- a word that is not empty is the first, and an empty one is none
pub first_word : (line word after : List ℕ) → 0 < length line → word ≡ before_first (λ b. b == 32) line → after ≡ after_first (λ b. b == 32) line → (length word == 0) ≡ false
    → words_in line ≡ word ∷ words_in after
first_word line word after some is behind full =
    ap (filter is_word) (pieces_first 32 line some) ∙ kept (before_first (λ b. b == 32) line) (after_first (λ b. b == 32) line) (ap (λ w. length w == 0) (sym is) ∙ full)
    ∙ (λ i. sym is i ∷ words_in (sym behind i))
  where
    kept : (w a : List ℕ) → (length w == 0) ≡ false → filter is_word (w ∷ pieces 32 a) ≡ w ∷ words_in a
    kept w a full = simp full
