-- The text of lines, part by part.
use Rattle.std.proofs.Common.{◌≡◌, ℕ, ◌+◌, ◌<◌, suc, List, [], ◌∷◌, ◌++◌, length, take, drop, get_or, ◌∙◌, ap, arith, append-nil}
use Rattle.std.proofs.lemmas.List.{take_more, length-take, length-drop, get_or-drop}
use Rattle.std.proofs.lemmas.Grind.{flat_map-append}
use Rattle.std.specs.List.{flat_map, enumerate_from}
use Rattle.node_core.specs.TraceLine.{TraceLine, blank}
use Rattle.trace_text.specs.Line.{line_bytes}
use Rattle.window_text.specs.Text.{text_from}

abbrev numbered : ℕ × TraceLine → List ℕ
numbered x = line_bytes x.0 x.1

enumerate_from-append : (k : ℕ) (xs ys : List TraceLine) → enumerate_from k (xs ++ ys) ≡ enumerate_from k xs ++ enumerate_from (k + length xs) ys
enumerate_from-append k [] ys = let e : k ≡ k + 0 = omega arith in ap (λ n. enumerate_from n ys) e
enumerate_from-append k (x ∷ xs) ys =
    let e : k + 1 + length xs ≡ k + suc (length xs) = omega arith in
    ap (λ zs. (k, x) ∷ zs) (enumerate_from-append (k + 1) xs ys ∙ ap (λ n. enumerate_from (k + 1) xs ++ enumerate_from n ys) e)

-- one part's lines, and then another's
pub text_both : (first : ℕ) (xs ys : List TraceLine) → text_from first (xs ++ ys) ≡ text_from first xs ++ text_from (first + length xs) ys
text_both first xs ys =
    ap (flat_map numbered) (enumerate_from-append first xs ys)
    ∙ flat_map-append numbered (enumerate_from first xs) (enumerate_from (first + length xs) ys)

-- the text of the first lines, and one line more
pub text_next : (first i : ℕ) (lines : List TraceLine) → i < length lines → text_from first (take (i + 1) lines) ≡ text_from first (take i lines) ++ line_bytes (first + i) (get_or lines i blank)
text_next first i lines within =
    let many : length (take i lines) ≡ i = omega (arith, length-take i lines, within) in
    ap (text_from first) (take_more lines i blank within)
    ∙ text_both first (take i lines) (get_or lines i blank ∷ [])
    ∙ ap (λ n. text_from first (take i lines) ++ (line_bytes (first + n) (get_or lines i blank) ++ [])) many
    ∙ ap (λ l. text_from first (take i lines) ++ l) (append-nil (line_bytes (first + i) (get_or lines i blank)))

-- the text of some lines from an index on, and of one line more
pub text_one_more : (first from i : ℕ) (lines : List TraceLine) → from + i < length lines
    → text_from (first + from) (take (i + 1) (drop from lines)) ≡ text_from (first + from) (take i (drop from lines)) ++ line_bytes (first + (from + i)) (get_or lines (from + i) blank)
text_one_more first from i lines within =
    let rest = drop from lines in
    let number : first + from + i ≡ first + (from + i) = omega arith in
    text_next (first + from) i rest (omega (arith, length-drop from lines, within))
    ∙ ap (λ n. text_from (first + from) (take i rest) ++ line_bytes n (get_or rest i blank)) number
    ∙ ap (λ x. text_from (first + from) (take i rest) ++ line_bytes (first + (from + i)) x) (get_or-drop from lines i blank)
