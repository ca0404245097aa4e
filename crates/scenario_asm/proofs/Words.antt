-- The first twelve words of a line say what all its words say.
use Rattle.std.proofs.Common.{◌≡◌, ◌<◌, ◌≤◌, ℕ, suc, ◌==◌, ◌||◌, Bool, true, false, if◌then◌else◌, nat_le, List, [], ◌∷◌, ◌++◌, length, take, Some, None, Err, inl, inr, refl, ap, sym, ◌∙◌, arith}
use Rattle.std.specs.Prelude.{codes}
use Rattle.std.specs.List.{list_all}
use Rattle.std.specs.Str.{bytes_eq}
use Rattle.std.proofs.lemmas.Grind.{common_steps}
use Rattle.std.proofs.lemmas.Bool.{cases_lt, ne_eqb}
use Rattle.std.proofs.lemmas.List.{take_at}
use Rattle.sim_time.specs.declared.limits.TheConstants.{LATEST_END}
use Rattle.scenario_image.specs.declared.limits.TheConstants.{MOST_LINKS, MOST_FLOWS}
use Rattle.scenario_asm.specs.declared.fault.Fault.TheVariants.{E2, E3}
use Rattle.scenario_asm.specs.declared.statement.Statement.TheVariants.{Link, Flow}
use Rattle.scenario_asm.specs.Lines.{Word, words_of, is_printable}
use Rattle.scenario_asm.specs.Numbers.{number_verdict}
use Rattle.scenario_asm.specs.Names.{Known, number_of, is_full_router}
use Rattle.scenario_asm.specs.Statements.{nth, sim_at, node_statement, is_drop_tail, is_codel, has_link_length, has_flow_length, node_verdicts, codel_verdicts, link_first_verdicts, link_verdicts, flow_verdicts, route_verdicts, lose_verdicts, link_said, link_statement, flow_said, flow_at, route_at, lose_at, statement_at, as_said, line_at}
use Rattle.scenario_asm.specs.Places.{judged_word, statement_word, line_word}
use Rattle.scenario_asm.specs.Verdicts.{Verdict, judged_line}

-- the front of a list
pub front_is : {X : Type 0} (xs ys all : List X) (n : ℕ) → xs ++ ys ≡ all → length xs ≡ n → xs ≡ take n all
front_is xs ys all n is many = sym (take_at xs ys n many) ∙ ap (λ l. take n l) is

not_many : (n k : ℕ) → 12 ≤ n → k < 12 → (n == k) ≡ false
not_many n k many few = ne_eqb n k (λ e. omega (arith, e, many, few))

-- a long line is no statement
sim_long : (words : List Word) → 12 ≤ length words → sim_at words ≡ Err E3
sim_long words many = let no_count : (length words == 2) ≡ false = not_many _ 2 many (omega arith) in simp no_count

node_long : (known : Known) (words : List Word) → 12 ≤ length words → node_statement known words ≡ Err E3
node_long known words many = let no_count : (length words == 3) ≡ false = not_many _ 3 many (omega arith) in simp no_count

no_length : (t u a b : Bool) → a ≡ false → b ≡ false → (if t then a else (if u then b else (a || b))) ≡ false
no_length true u a b eight eleven = eight
no_length false true a b eight eleven = eleven
no_length false false a b eight eleven = rw (eight, eleven) refl

link_long : (known : Known) (words : List Word) → 12 ≤ length words → link_statement known words ≡ Err E3
link_long known words many =
    let no_count : has_link_length words ≡ false = no_length (is_drop_tail words) (is_codel words) _ _ (not_many _ 8 many (omega arith)) (not_many _ 11 many (omega arith)) in
    ap (λ b. judged_line b (link_verdicts known words) (nat_le MOST_LINKS (length known.links) || is_full_router known (number_of known (nth words 2))) (Link (nth words 1) (link_said known words))) no_count

no_flow_length : (words : List Word) → 12 ≤ length words → has_flow_length words ≡ false
no_flow_length words many = no_length false false _ _ (not_many _ 9 many (omega arith)) (not_many _ 11 many (omega arith))

flow_long : (known : Known) (words : List Word) → 12 ≤ length words → flow_at known words ≡ Err E3
flow_long known words many = ap (λ b. judged_line b (flow_verdicts known words) (nat_le MOST_FLOWS (length known.flows)) (Flow (nth words 1) (flow_said known words))) (no_flow_length words many)

route_long : (known : Known) (words : List Word) → 12 ≤ length words → route_at known words ≡ Err E3
route_long known words many = let no_count : (length words == 4) ≡ false = not_many _ 4 many (omega arith) in simp no_count

lose_long : (known : Known) (words : List Word) → 12 ≤ length words → lose_at known words ≡ Err E3
lose_long known words many = let no_count : (length words == 3) ≡ false = not_many _ 3 many (omega arith) in simp no_count

-- what a long line is answered
long_answer : {A : Type 0} (x y : A) (a b c d e f : Bool) (p q r s t u : A) → p ≡ x → q ≡ x → r ≡ x → s ≡ x → t ≡ x → u ≡ x → (if a then p else (if b then q else (if c then r else (if d then s else (if e then t else (if f then u else y)))))) ≡ (if a || (b || (c || (d || (e || f)))) then x else y)
long_answer x y true b c d e f p q r s t u g h i j k l = g
long_answer x y false true c d e f p q r s t u g h i j k l = h
long_answer x y false false true d e f p q r s t u g h i j k l = i
long_answer x y false false false true e f p q r s t u g h i j k l = j
long_answer x y false false false false true f p q r s t u g h i j k l = k
long_answer x y false false false false false true p q r s t u g h i j k l = l
long_answer x y false false false false false false p q r s t u g h i j k l = refl

abbrev is_statement : Word → Bool
is_statement word = bytes_eq word (codes "sim") || (bytes_eq word (codes "node") || (bytes_eq word (codes "link") || (bytes_eq word (codes "flow") || (bytes_eq word (codes "route") || bytes_eq word (codes "lose")))))

long_is : (known : Known) (words : List Word) → 12 ≤ length words → statement_at known words ≡ (if is_statement (nth words 0) then Err E3 else Err E2)
long_is known words many =
    long_answer (Err E3) (Err E2) (bytes_eq (nth words 0) (codes "sim")) (bytes_eq (nth words 0) (codes "node")) (bytes_eq (nth words 0) (codes "link")) (bytes_eq (nth words 0) (codes "flow")) (bytes_eq (nth words 0) (codes "route")) (bytes_eq (nth words 0) (codes "lose")) _ _ _ _ _ _ (sim_long words many) (node_long known words many) (link_long known words many) (flow_long known words many) (route_long known words many) (lose_long known words many)

-- no word of a long line is faulty but the first
no_word : (counted : Bool) (verdicts : List Verdict) → counted ≡ false → judged_word counted verdicts ≡ None
no_word counted verdicts wrong = ap (λ b. judged_word b verdicts) wrong

long_word : (known : Known) (words : List Word) → 12 ≤ length words → statement_word known words ≡ (if is_statement (nth words 0) then None else Some 0)
long_word known words many =
    long_answer None (Some 0) (bytes_eq (nth words 0) (codes "sim")) (bytes_eq (nth words 0) (codes "node")) (bytes_eq (nth words 0) (codes "link")) (bytes_eq (nth words 0) (codes "flow")) (bytes_eq (nth words 0) (codes "route")) (bytes_eq (nth words 0) (codes "lose")) _ _ _ _ _ _ (no_word _ (number_verdict 1 LATEST_END (nth words 1) ∷ []) (not_many _ 2 many (omega arith)))
    (no_word _ (node_verdicts known words) (not_many _ 3 many (omega arith)))
    (no_word _ (link_first_verdicts known words ++ codel_verdicts words) (no_length (is_drop_tail words) (is_codel words) _ _ (not_many _ 8 many (omega arith)) (not_many _ 11 many (omega arith))))
    (no_word _ (flow_verdicts known words) (no_flow_length words many))
    (no_word _ (route_verdicts known words) (not_many _ 4 many (omega arith)))
    (no_word _ (lose_verdicts known words) (not_many _ 3 many (omega arith)))

first_same : (words : List Word) → nth (take 12 words) 0 ≡ nth words 0
first_same [] = refl
first_same (word ∷ words) = refl

take_all : {X : Type 0} (xs : List X) (n : ℕ) → length xs ≤ n → take n xs ≡ xs
take_all [] n few = grind (arith, common_steps)
take_all (x ∷ xs) n few = grind (arith, common_steps)

pub first_words_say : (known : Known) (words : List Word) → statement_at known (take 12 words) ≡ statement_at known words
first_words_say known words =
    elim (cases_lt (length words) 12) [
      | inl few ↦ ap (λ l. statement_at known l) (take_all words 12 (omega arith))
      | inr many ↦
          let front : 12 ≤ length (take 12 words) = grind (arith, common_steps) in
          long_is known (take 12 words) front ∙ (ap (λ w. if is_statement w then Err E3 else Err E2) (first_same words) ∙ sym (long_is known words many))
    ]

same_word : (known : Known) (front words : List Word) → 12 ≤ length front → 12 ≤ length words → nth front 0 ≡ nth words 0 → statement_word known front ≡ statement_word known words
same_word known front words some many same = long_word known front some ∙ (ap (λ w. if is_statement w then None else Some 0) same ∙ sym (long_word known words many))

pub first_words_word : (known : Known) (words : List Word) → statement_word known (take 12 words) ≡ statement_word known words
first_words_word known words =
    elim (cases_lt (length words) 12) [
      | inl few ↦ ap (λ l. statement_word known l) (take_all words 12 (omega arith))
      | inr many ↦
          let front : 12 ≤ length (take 12 words) = grind (arith, common_steps) in
          same_word known (take 12 words) words front many (first_same words)
    ]

pub suc_not : (n : ℕ) → (suc n == 0) ≡ false
suc_not n = ne_eqb (suc n) 0 (λ e. omega (arith, e))

none_left : (words : List Word) → (length (take 12 words) == 0) ≡ (length words == 0)
none_left [] = refl
none_left (word ∷ words) = suc_not (length (take 11 words)) ∙ sym (suc_not (length words))

-- what a line says by its first words
pub line_says : (known : Known) (line : List ℕ) (words : List Word) → words ≡ take 12 (words_of line) → list_all is_printable line ≡ true → (length words == 0) ≡ false → line_at known line ≡ as_said (statement_at known words)
unfolding line_at
line_says known line words first clean some =
    let none : (length (words_of line) == 0) ≡ false = sym (none_left (words_of line)) ∙ (ap (λ l. length l == 0) (sym first) ∙ some) in
    simp (clean, none) (sym (ap as_said (ap (λ l. statement_at known l) first ∙ first_words_say known (words_of line))))

-- the faulty word of a line by its first words
pub line_word_is : (known : Known) (line : List ℕ) (words : List Word) → words ≡ take 12 (words_of line) → list_all is_printable line ≡ true → (length words == 0) ≡ false → line_word known line ≡ statement_word known words
unfolding line_word
line_word_is known line words first clean some =
    let none : (length (words_of line) == 0) ≡ false = sym (none_left (words_of line)) ∙ (ap (λ l. length l == 0) (sym first) ∙ some) in
    simp (clean, none) (sym (ap (λ l. statement_word known l) first ∙ first_words_word known (words_of line)))
