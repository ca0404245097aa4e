-- A text that is made in parts, and written part by part.
use Rattle.std.proofs.Common.{◌≡◌, ◌<◌, ◌+◌, ◌-◌, ℕ, zero, suc, List, [], ◌∷◌, ◌++◌, All, length, set, take, drop, get_or, Option, refl, sym, ap, subst, ◌∙◌, arith, append_assoc, append-nil, length-append}
use Rattle.std.proofs.lemmas.List.{take_more, take_more_set, take_all, take-append-drop, take-append-le, drop_more, length-take}
use lib.Seq.{take-add}
use Rattle.std.proofs.lemmas.List.Elements.{All-cons, All-nil, All-push}
use Rattle.std.specs.Io.KnownBytes.{Appends}
use Rattle.line_merge.specs.Sheaves.{SheafValue, merged}
use Rattle.window_text.specs.declared.formatter.TextPart.{TextPart}
use Rattle.window_text.specs.declared.formatter.TextFormatter.{TextFormatter}
use Rattle.window_text.specs.declared.text.TextPlace.{TextPlace}
use Rattle.window_text.specs.Parts.{AreRight, HasText, IsIn, IsInside, IsPlaceAt, IsRight, bytes_at, bytes_in, text_at, text_of}
use Rattle.window_text.specs.Puts.{TakesFirst}
use Rattle.window_text.specs.Text.{text_from}
use Rattle.window_text.proofs.Bytes.{appends_more, take_past}
use Rattle.window_text.proofs.Numbered.{text_both}

-- a thread that made no part
right_none : (s : SheafValue) (formatter : TextFormatter) → formatter.parts.items ≡ [] → IsRight s formatter
right_none s formatter none = subst (All (HasText s formatter.text)) (sym none) (All-nil (HasText s formatter.text))

-- one more made none
pub rights_none : (s : SheafValue) (formatters : List TextFormatter) (i : ℕ) (formatter : TextFormatter) → i < length formatters → AreRight s (take i formatters) → formatter.parts.items ≡ [] → AreRight s (take (i + 1) (set formatters i formatter))
rights_none s formatters i formatter l all none = subst (AreRight s) (sym (take_more_set formatters i formatter l)) (All-push (IsRight s) (take i formatters) formatter all (right_none s formatter none))

-- the text of a thread by its number
pub text_at-is : (formatters : List TextFormatter) (i : ℕ) (d : TextFormatter) → i < length formatters → text_at formatters i ≡ (get_or formatters i d).text
text_at-is [] i d l = absurd (omega (arith, l))
text_at-is (s ∷ ss) zero d l = refl
text_at-is (s ∷ ss) (suc i) d l = text_at-is ss i d (omega (arith, l))

-- a place of nothing
abbrev pub none : TextPlace
none = record { formatter = 0; part = record { from = 0; count = 0; start = 0; end = 0 } }

text_of-append : (ss : List TextFormatter) (ps qs : List TextPlace) → text_of ss (ps ++ qs) ≡ text_of ss ps ++ text_of ss qs
text_of-append ss [] qs = refl
text_of-append ss (p ∷ ps) qs = ap (λ l. bytes_at ss p ++ l) (text_of-append ss ps qs) ∙ sym (append_assoc (bytes_at ss p) (text_of ss ps) (text_of ss qs))

-- a place more
pub text_of-push : (ss : List TextFormatter) (ps : List TextPlace) (p : TextPlace) → text_of ss (ps ++ p ∷ []) ≡ text_of ss ps ++ bytes_at ss p
text_of-push ss ps p = text_of-append ss ps (p ∷ []) ∙ ap (λ (bytes : List ℕ). text_of ss ps ++ bytes) (append-nil (bytes_at ss p))

-- the places so far, and the next
pub text_of-more : (ss : List TextFormatter) (ps : List TextPlace) (i : ℕ) (d : TextPlace) → i < length ps → text_of ss (take (i + 1) ps) ≡ text_of ss (take i ps) ++ bytes_at ss (get_or ps i d)
text_of-more ss ps i d l = ap (text_of ss) (take_more ps i d l) ∙ text_of-push ss (take i ps) (get_or ps i d)

-- the places so far, the next and the rest
text_of-rest : (ss : List TextFormatter) (ps : List TextPlace) (i : ℕ) (d : TextPlace) → i < length ps → text_of ss ps ≡ text_of ss (take i ps) ++ (bytes_at ss (get_or ps i d) ++ text_of ss (drop (i + 1) ps))
text_of-rest ss ps i d l =
    ap (text_of ss) (sym (take-append-drop i ps))
    ∙ text_of-append ss (take i ps) (drop i ps)
    ∙ ap (λ (qs : List TextPlace). text_of ss (take i ps) ++ text_of ss qs) (drop_more ps i d l)

-- the bytes of a place more were taken
pub part_taken : (ss : List TextFormatter) (ps : List TextPlace) (i : ℕ) (d : TextPlace) (a b c : Option (List ℕ)) → i < length ps → Appends a b (text_of ss (take i ps)) → Appends b c (bytes_at ss (get_or ps i d))
    → Appends a c (text_of ss (take (i + 1) ps))
part_taken ss ps i d a b c l h k = subst (Appends a c) (sym (text_of-more ss ps i d l)) (appends_more a b c (text_of ss (take i ps)) (bytes_at ss (get_or ps i d)) h k)

-- the first bytes of a place were taken
pub part_broken : (ss : List TextFormatter) (ps : List TextPlace) (i done n : ℕ) (d : TextPlace) (a b c : Option (List ℕ)) → i < length ps → done ≡ length (text_of ss (take i ps)) → Appends a b (text_of ss (take i ps))
    → TakesFirst n (bytes_at ss (get_or ps i d)) b c → TakesFirst (done + n) (text_of ss ps) a c
part_broken ss ps i done n d a b c l count h k =
    let before = text_of ss (take i ps) in
    let part = bytes_at ss (get_or ps i d) in
    let rest = text_of ss (drop (i + 1) ps) in
    let all : text_of ss ps ≡ before ++ (part ++ rest) = text_of-rest ss ps i d l in
    let within = k.0 in
    let first : take (done + n) (text_of ss ps) ≡ before ++ take n part =
    ap (λ m. take (m + n) (text_of ss ps)) count ∙ ap (take (length before + n)) all ∙ take_past n before (part ++ rest) ∙ ap (λ (bytes : List ℕ). before ++ bytes) (take-append-le n part rest within)
    in (
      omega (arith, within, count, ap length all, length-append before (part ++ rest), length-append part rest),
      subst (Appends a c) (sym first) (appends_more a b c before (take n part) h k.1),
    )

-- the part of a thread's that begins with a line is at its place
pub is_place : (s : SheafValue) (ss : List TextFormatter) (at i : ℕ) (d : TextFormatter) (part : TextPart) → i < length ss → HasText s (get_or ss i d).text part → part.from ≡ at → 0 < part.count
    → IsPlaceAt s ss at (record { formatter = i; part = part })
is_place s ss at i d part l has from some =
    let lines = (merged s).lines in
    let text = text_at-is ss i d l in
    let within = has.within in
    record {
      inside = record { formatter = l; part = subst (λ (t : List ℕ). IsIn t part) (sym text) has.inside };
      some = some;
      within = omega (arith, within, from);
      is =
          ap (λ (t : List ℕ). bytes_in t part) text
          ∙ has.is
          ∙ ap (λ n. text_from (s.first + n) (take part.count (drop n lines))) from;
    }

-- the text up to a line, and the part that begins there
pub text_up_to : (s : SheafValue) (ss : List TextFormatter) (ps : List TextPlace) (at : ℕ) (p : TextPlace) → text_of ss ps ≡ text_from s.first (take at (merged s).lines) → IsPlaceAt s ss at p
    → text_of ss (ps ++ p ∷ []) ≡ text_from s.first (take (at + p.part.count) (merged s).lines)
text_up_to s ss ps at p so_far is =
    let lines = (merged s).lines in
    let n = p.part.count in
    let within = is.within in
    let many : length (take at lines) ≡ at = omega (arith, within, length-take at lines) in
    let both : take (at + n) lines ≡ take at lines ++ take n (drop at lines) = take-add at n lines in
    text_of-push ss ps p
    ∙ (λ k. so_far k ++ is.is k)
    ∙ ap (λ m. text_from s.first (take at lines) ++ text_from (s.first + m) (take n (drop at lines))) (sym many)
    ∙ sym (text_both s.first (take at lines) (take n (drop at lines)))
    ∙ ap (text_from s.first) (sym both)

-- the first thread made the text of all lines
pub first_inside : (s : SheafValue) (ss : List TextFormatter) (formatter : TextFormatter) (part : TextPart) → 0 < length ss → HasText s formatter.text part → All (IsInside (set ss 0 formatter)) (record { formatter = 0; part = part } ∷ [])
first_inside s [] formatter part some has = absurd (omega (arith, some))
first_inside s (q ∷ qs) formatter part some has = All-cons (IsInside (formatter ∷ qs)) _ [] (record { formatter = omega arith; part = has.inside }) (All-nil (IsInside (formatter ∷ qs)))

pub first_text : (s : SheafValue) (ss : List TextFormatter) (formatter : TextFormatter) (part : TextPart) → 0 < length ss → HasText s formatter.text part → part.from ≡ 0 → part.count ≡ length (merged s).lines
    → text_of (set ss 0 formatter) (record { formatter = 0; part = part } ∷ []) ≡ text_from s.first (merged s).lines
first_text s [] formatter part some has from count = absurd (omega (arith, some))
first_text s (q ∷ qs) formatter part some has from count =
    let lines = (merged s).lines in
    let zeroth : s.first + 0 ≡ s.first = omega arith in
    append-nil (bytes_in formatter.text part)
    ∙ has.is
    ∙ ap (λ n. text_from (s.first + n) (take part.count (drop n lines))) from
    ∙ ap (λ n. text_from n (take part.count lines)) zeroth
    ∙ ap (λ n. text_from s.first (take n lines)) count
    ∙ ap (text_from s.first) (take_all (length lines) lines (omega arith))
