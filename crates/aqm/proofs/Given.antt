-- The packet that a take gives: the one behind those that are dropped.
use Rattle.std.proofs.Common.{◌≡◌, ◌≤◌, ◌-◌, ℕ, zero, suc, List, [], ◌∷◌, ◌++◌, length, Option, Some, None, refl, sym, ap, ◌∙◌, arith}
use Rattle.std.specs.Prelude.{slice_get, MatchOption}
use Rattle.std.specs.Option.{option_map}
use Rattle.std.specs.Iterator.{YieldsFirst, Yields, SkipsThenYields}
use Rattle.packet_chain.specs.Stamped.{Stamped}
use Rattle.aqm.specs.declared.queue.Queue.{Queue}
use Rattle.aqm.specs.Queue.{taken_from, waiting_in}
use Rattle.aqm.specs.Laws.{listed}
use Rattle.aqm.proofs.Front.{takes_the_front, gives_what_waits, none_of_none}

abbrev steps : List Stamped → Option Stamped → List Stamped → Type 0
steps = YieldsFirst {A = Stamped} (λ rest. rest)

-- what a walk gives that has passed over the first entries
nth_after : (xs s : List Stamped) (n : ℕ) (r : Option Stamped) (t u : List Stamped) → Yields steps s xs t → steps t r u → MatchOption r (length xs ≤ n) (λ _. length xs ≡ n) → r ≡ slice_get s n
nth_after [] s n None t u is last long = sym (ap (λ xs. slice_get xs n) (is ∙ last.0) ∙ none_of_none n)
nth_after [] s n (Some x) t u is last long = sym (ap (λ xs. slice_get xs n) (is ∙ last) ∙ ap (slice_get (x ∷ u)) (sym long))
nth_after (x ∷ xs) s zero None t u is last long = absurd (omega (arith, long))
nth_after (x ∷ xs) s zero (Some y) t u is last long = absurd (omega (arith, long))
nth_after (x ∷ xs) s (suc n) None t u is last long = nth_after xs is.0 n None t u is.2 last (omega (arith, long)) ∙ sym (ap (λ ys. slice_get ys (suc n)) is.1)
nth_after (x ∷ xs) s (suc n) (Some y) t u is last long = nth_after xs is.0 n (Some y) t u is.2 last (omega (arith, long)) ∙ sym (ap (λ ys. slice_get ys (suc n)) is.1)

nth_is : (s : List Stamped) (n : ℕ) (r : Option Stamped) (u : List Stamped) → SkipsThenYields steps s n r u → r ≡ slice_get s n
nth_is s n r u ran = nth_after ran.0 s n r ran.1.0 u ran.1.1 ran.1.2 ran.2

behind : (xs : List Stamped) (x : Stamped) (ys : List Stamped) → slice_get (xs ++ (x ∷ []) ++ ys) (length xs) ≡ Some x
behind [] x ys = refl
behind (z ∷ xs) x ys = behind xs x ys

given_by : (dropped : List Stamped) (given : Option Stamped) (rest all : List Stamped) → dropped ++ listed given ++ rest ≡ all → (given ≡ None → all ≡ []) → given ≡ slice_get all (length dropped)
given_by dropped None rest all front none = sym (ap (λ xs. slice_get xs (length dropped)) (none refl) ∙ none_of_none (length dropped))
given_by dropped (Some x) rest all front none = sym (ap (λ xs. slice_get xs (length dropped)) (sym front) ∙ behind dropped x rest)

pub given_is : (q : Queue) (now : ℕ) → (taken_from q now).given ≡ slice_get (waiting_in q) (length (taken_from q now).dropped)
given_is q now = let t = taken_from q now in given_by t.dropped t.given (waiting_in t.queue) (waiting_in q) (takes_the_front q now) (gives_what_waits q now).0

-- its wait is told by the entry that a walk gives
pub wait_is : (q : Queue) (now drops : ℕ) (all : List Stamped) (r : Option Stamped) (u : List Stamped) → all ≡ waiting_in q → drops ≡ length (taken_from q now).dropped → SkipsThenYields steps all drops r u →
    option_map {U = ℕ} (λ (cell : Stamped). now - cell.1) r ≡ option_map {U = ℕ} (λ (cell : Stamped). now - cell.1) (taken_from q now).given
wait_is q now drops all r u all_are drops_are ran =
    ap (option_map {U = ℕ} (λ (cell : Stamped). now - cell.1))
    (nth_is all drops r u ran ∙ ap (λ xs. slice_get xs drops) all_are ∙ ap (slice_get (waiting_in q)) drops_are ∙ sym (given_is q now))
