-- A line in the parts in which it is appended, and what of it is cut off again.
use Rattle.std.proofs.Common.{◌≡◌, ◌≤◌, ℕ, List, ◌∷◌, ◌++◌, length, take, codes, arith, append_assoc, map, decimal, sym, ◌∙◌, ap, length-append}
use Rattle.std.proofs.Math.Seq.{take-append_seam}
use Rattle.std.proofs.lemmas.List.{take-take}
use Rattle.std.proofs.lemmas.List.Concat.{flat_map-append}
use Rattle.node_core.specs.TraceLine.{TraceLine}
use Rattle.trace_text.specs.Words.{line_of_words, spaced_words}
use Rattle.trace_text.specs.Line.{line_bytes, key_words, event_words, after_words, act_word}

spaced_words-append : (a b : List (List ℕ)) → spaced_words (a ++ b) ≡ spaced_words a ++ spaced_words b
spaced_words-append a b = flat_map-append (λ word. codes " " ++ word) a b

pub line_of_parts : (n : List ℕ) (key event after acts : List (List ℕ))
    → line_of_words (n ∷ key ++ event ++ after ++ acts)
    ≡ n ++ spaced_words key ++ spaced_words event ++ spaced_words after ++ spaced_words acts ++ codes "\n"
line_of_parts n key event after acts =
    rw (spaced_words-append (key ++ event ++ after) acts, spaced_words-append (key ++ event) after, spaced_words-append key event)
    (simp append_assoc)

-- what stands before the acts, then the acts, then LF
pub line_appended : (n : ℕ) (t : TraceLine) (old head reported now : List ℕ)
    → head ≡ old ++ (decimal n ++ spaced_words (key_words t.key) ++ spaced_words (event_words t.event) ++ spaced_words (after_words t.after))
    → reported ≡ head ++ spaced_words (map act_word t.acts) → now ≡ reported ++ codes "\n"
    → now ≡ old ++ line_bytes n t
line_appended n t old head reported now h w l =
    rw (line_of_parts (decimal n) (key_words t.key) (event_words t.event) (after_words t.after) (map act_word t.acts), l, w, h)
    (simp append_assoc)

-- what begins with `old ++ more` begins with `old`
pub take_shorter : (old more was now : List ℕ) → was ≡ old ++ more → take (length was) now ≡ was → take (length old) now ≡ old
take_shorter old more was now e kept =
    let within : length old ≤ length was = omega (arith, length-append old more, ap length e) in
    sym (take-take (length old) (length was) now within)
    ∙ ap (take (length old)) (kept ∙ e) ∙ take-append_seam old more
