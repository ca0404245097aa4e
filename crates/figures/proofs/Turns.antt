-- What is counted of turns, with one more at the end.
use Rattle.std.proofs.Common.{◌≡◌, ℕ, ◌+◌, ◌-◌, ◌^◌, Bool, true, false, cond, List, [], ◌∷◌, ◌++◌, length, refl, sym, ap, subst, ◌∙◌, Option, Some, None}
use Rattle.std.specs.Prelude.{find, option_to_list}
use Rattle.std.specs.List.{sum_by, filter_map}
use Rattle.std.specs.Option.{option_map, option_or}
use Rattle.std.proofs.Math.Nat.{zero-add}
use Rattle.std.proofs.lemmas.List.{append_assoc}
use Rattle.std.proofs.lemmas.List.Sums.{sum_by-append}
use Rattle.std.proofs.lemmas.List.Folds.{find-append}
use Rattle.std.proofs.lemmas.List.Elements.{filter_map-append}
use Rattle.figures.specs.declared.sender.SenderFigures.{SenderFigures}
use Rattle.figures.specs.Turns.{Turn, planned_in, again_in, in_recovery, sample_in, is_timeout, is_complete}
use Rattle.figures.specs.Senders.{AreOfTurns, completed_of, trips_of}
use Rattle.figures.specs.Tallied.{IsTallyOf}
use Rattle.figures.specs.Classes.{least_from}
use Rattle.figures.proofs.Counts.{count_more, least_given}

pub sum_more : {A : Type 0} (f : A → ℕ) (xs : List A) (x : A) → sum_by f (xs ++ x ∷ []) ≡ sum_by f xs + f x
sum_more f xs x = sum_by-append f xs (x ∷ []) ∙ ap (λ n. sum_by f xs + n) (zero-add (f x))

pub given_more : {A B : Type 0} (f : A → Option B) (xs : List A) (x : A) → filter_map f (xs ++ x ∷ []) ≡ filter_map f xs ++ option_to_list (f x)
given_more f xs x = filter_map-append f xs (x ∷ []) ∙ ap (λ ys. filter_map f xs ++ ys) (one (f x))
  where
    one : {B : Type 0} (o : Option B) → filter_map (λ (y : Option B). y) (o ∷ []) ≡ option_to_list o
    one None = refl
    one (Some y) = refl

mapped_or : {A B : Type 0} (g : A → B) (o : Option A) (b : Bool) (x : A) → option_map g (option_or o (cond b (Some x) None)) ≡ option_or (option_map g o) (cond b (Some (g x)) None)
mapped_or g None true x = refl
mapped_or g None false x = refl
mapped_or g (Some y) b x = refl

pub first_more : {A B : Type 0} (g : A → B) (test : A → Bool) (xs : List A) (x : A) → option_map g (find test (xs ++ x ∷ [])) ≡ option_or (option_map g (find test xs)) (cond (test x) (Some (g x)) None)
first_more g test xs x = ap (option_map g) (find-append test xs (x ∷ [])) ∙ mapped_or g (find test xs) (test x) x

pub turn_more : (before ts : List Turn) (f g : SenderFigures) (t : Turn) → AreOfTurns before ts f → g.sent ≡ f.sent + length (planned_in t).sent →
    g.again_in_recovery ≡ f.again_in_recovery + cond (in_recovery t) (again_in t) 0 → g.again_otherwise ≡ f.again_otherwise + cond (in_recovery t) 0 (again_in t) →
    g.timeouts ≡ f.timeouts + cond (is_timeout t.cause) 1 0 → g.completed ≡ option_or f.completed (cond (is_complete (planned_in t).fields) (Some t.now) None) →
    IsTallyOf (trips_of ts ++ option_to_list (sample_in t)) g.trips → g.least ≡ least_from f.least (option_to_list (sample_in t)) → AreOfTurns before (ts ++ t ∷ []) g
turn_more before ts f g t is sent recovery otherwise timeouts completed trips least = record {
  sent = sent ∙ ap (λ n. n + length (planned_in t).sent) is.sent ∙ sym (sum_more (λ (u : Turn). length (planned_in u).sent) ts t);
  again_in_recovery = recovery ∙ ap (λ n. n + cond (in_recovery t) (again_in t) 0) is.again_in_recovery ∙ sym (sum_more (λ (u : Turn). cond (in_recovery u) (again_in u) 0) ts t);
  again_otherwise = otherwise ∙ ap (λ n. n + cond (in_recovery t) 0 (again_in t)) is.again_otherwise ∙ sym (sum_more (λ (u : Turn). cond (in_recovery u) 0 (again_in u)) ts t);
  timeouts = timeouts ∙ ap (λ n. n + cond (is_timeout t.cause) 1 0) is.timeouts ∙ sym (count_more (λ (u : Turn). is_timeout u.cause) ts t);
  completed = completed ∙ ap (λ o. option_or o (cond (is_complete (planned_in t).fields) (Some t.now) None)) is.completed
      ∙ sym (first_more (λ (u : Turn). u.now) (λ (u : Turn). is_complete (planned_in u).fields) (before ++ ts) t) ∙ ap completed_of (append_assoc before ts (t ∷ []));
  trips = subst (λ xs. IsTallyOf xs g.trips) (sym (given_more sample_in ts t)) trips;
  least = least ∙ ap (λ n. least_from n (option_to_list (sample_in t))) is.least ∙ sym (least_given (2 ^ 64 - 1) (trips_of ts) (sample_in t)) ∙ ap (least_from (2 ^ 64 - 1)) (sym (given_more sample_in ts t));
}
