-- Runs joined and taken apart: one step in front, one run after another, how many lines.
use Rattle.std.proofs.Common.{◌≡◌, ℕ, zero, suc, ◌+◌, List, [], ◌∷◌, ◌++◌, length, append-nil, append_assoc, refl, sym, ap, ◌∙◌, Option, Some, None, arith}
use Rattle.std.specs.Option.{option_map, option_and_then}
use Rattle.std.proofs.lemmas.Option.{option_and_then_some}
use Rattle.sim_time.specs.declared.key.Key.{Key}
use Rattle.node_core.specs.declared.event.Event.{Event}
use Rattle.node_core.specs.TraceLine.{TraceLine}
use Rattle.tournament.proofs.Maps.{not_some, same_some}
use Rattle.table_run.specs.State.{State, due, effect_of, line_of, stepped, step_at, step, one_step_more, run}
use Rattle.table_run.specs.Laws.{RunsGoOn, RunsPart}

-- what holds of each state that a run comes to
abbrev pub Along : (State → Type 0) → State → Type 0
Along P s = (n : ℕ) (lines : List TraceLine) (u : State) → run s n ≡ Some (lines, u) → P u

-- a step has an event that was due
pub of_step : {G : Type 0} (s : State) (line : TraceLine) (new : State) → step s ≡ Some (line, new)
    → ((k : Key) (v : Event) → due s ≡ Some (k, v) → new ≡ stepped s k (effect_of s (k, v)) → line ≡ line_of (k, v) (effect_of s (k, v)) → G) → G
of_step {G} s line new e from = go (due s) refl e
  where
    go : (d : Option (Key × Event)) → due s ≡ d → option_map {U = TraceLine × State} (step_at s) d ≡ Some (line, new) → G
    go None is e = absurd (not_some e)
    go (Some entry) is e =
        let both = same_some (step_at s entry) (line, new) e in
        from entry.0 entry.1 is (sym (ap (λ (p : TraceLine × State). p.1) both)) (sym (ap (λ (p : TraceLine × State). p.0) both))

-- one more step has a step
pub of_one_more : {G : Type 0} (so_far : List TraceLine × State) (lines : List TraceLine) (s : State) → one_step_more so_far ≡ Some (lines, s)
    → ((line : TraceLine) → step so_far.1 ≡ Some (line, s) → lines ≡ so_far.0 ++ line ∷ [] → G) → G
of_one_more {G} so_far lines s e from = go (step so_far.1) refl e
  where
    go : (d : Option (TraceLine × State)) → step so_far.1 ≡ d → option_map {U = List TraceLine × State} (λ next. (so_far.0 ++ next.0 ∷ [], next.1)) d ≡ Some (lines, s) → G
    go None is e = absurd (not_some e)
    go (Some next) is e =
        let both = same_some (so_far.0 ++ next.0 ∷ [], next.1) (lines, s) e in
        from next.0 (is ∙ ap (λ (p : List TraceLine × State). Some (next.0, p.1)) both) (sym (ap (λ (p : List TraceLine × State). p.0) both))

pub due_steps : (s : State) (k : Key) (v : Event) → due s ≡ Some (k, v) → step s ≡ Some (line_of (k, v) (effect_of s (k, v)), stepped s k (effect_of s (k, v)))
due_steps s k v e = ap (option_map {U = TraceLine × State} (step_at s)) e

-- the run of one step more, from its first step on
pub first_step : (s : State) (n : ℕ) → run s (suc n) ≡ option_and_then (λ (x : TraceLine × State). option_map {U = List TraceLine × State} (λ (rest : List TraceLine × State). (x.0 ∷ rest.0, rest.1)) (run x.1 n)) (step s)
first_step s zero = one (step s)
  where
    one : (o : Option (TraceLine × State)) → option_map {U = List TraceLine × State} (λ next. ([] ++ next.0 ∷ [], next.1)) o ≡ option_and_then (λ (x : TraceLine × State). option_map {U = List TraceLine × State} (λ (rest : List TraceLine × State). (x.0 ∷ rest.0, rest.1)) (Some ([], x.1))) o
    one None = refl
    one (Some x) = refl
first_step s (suc n) = ap (option_and_then one_step_more) (first_step s n) ∙ more (step s)
  where
    last : (line : TraceLine) (lines : List TraceLine) (o : Option (TraceLine × State)) → option_map {U = List TraceLine × State} (λ (next : TraceLine × State). ((line ∷ lines) ++ next.0 ∷ [], next.1)) o
        ≡ option_map {U = List TraceLine × State} (λ (rest : List TraceLine × State). (line ∷ rest.0, rest.1)) (option_map {U = List TraceLine × State} (λ (next : TraceLine × State). (lines ++ next.0 ∷ [], next.1)) o)
    last line lines None = refl
    last line lines (Some next) = refl

    then : (line : TraceLine) (o : Option (List TraceLine × State)) → option_and_then one_step_more (option_map {U = List TraceLine × State} (λ (rest : List TraceLine × State). (line ∷ rest.0, rest.1)) o)
        ≡ option_map {U = List TraceLine × State} (λ (rest : List TraceLine × State). (line ∷ rest.0, rest.1)) (option_and_then one_step_more o)
    then line None = refl
    then line (Some so_far) = last line so_far.0 (step so_far.1)

    more : (o : Option (TraceLine × State)) → option_and_then one_step_more (option_and_then (λ (x : TraceLine × State). option_map {U = List TraceLine × State} (λ (rest : List TraceLine × State). (x.0 ∷ rest.0, rest.1)) (run x.1 n)) o)
        ≡ option_and_then (λ (x : TraceLine × State). option_map {U = List TraceLine × State} (λ (rest : List TraceLine × State). (x.0 ∷ rest.0, rest.1)) (run x.1 (suc n))) o
    more None = refl
    more (Some x) = then x.0 (run x.1 n)

pub run_cons : (s t u : State) (line : TraceLine) (n : ℕ) (lines : List TraceLine) → step s ≡ Some (line, t) → run t n ≡ Some (lines, u) → run s (suc n) ≡ Some (line ∷ lines, u)
run_cons s t u line n lines e f =
    first_step s n
    ∙ ap (option_and_then (λ (x : TraceLine × State). option_map {U = List TraceLine × State} (λ (rest : List TraceLine × State). (x.0 ∷ rest.0, rest.1)) (run x.1 n))) e
    ∙ ap (option_map {U = List TraceLine × State} (λ (rest : List TraceLine × State). (line ∷ rest.0, rest.1))) f

-- what a run of one step more begins with
pub of_run : {G : Type 0} (s u : State) (n : ℕ) (lines : List TraceLine) → run s (suc n) ≡ Some (lines, u)
    → ((line : TraceLine) (t : State) (rest : List TraceLine) → step s ≡ Some (line, t) → run t n ≡ Some (rest, u) → lines ≡ line ∷ rest → G) → G
of_run {G} s u n lines e from =
    option_and_then_some (λ (x : TraceLine × State). option_map {U = List TraceLine × State} (λ (rest : List TraceLine × State). (x.0 ∷ rest.0, rest.1)) (run x.1 n)) (step s) (lines, u) (sym (first_step s n) ∙ e)
    (λ x is later. go x is (run x.1 n) refl later)
  where
    go : (x : TraceLine × State) → step s ≡ Some x → (o : Option (List TraceLine × State)) → run x.1 n ≡ o → option_map {U = List TraceLine × State} (λ (rest : List TraceLine × State). (x.0 ∷ rest.0, rest.1)) o ≡ Some (lines, u) → G
    go x is None o_is h = absurd (not_some h)
    go x is (Some rest) o_is h =
        let both = same_some (x.0 ∷ rest.0, rest.1) (lines, u) h in
        from x.0 x.1 rest.0 is (o_is ∙ ap (λ (p : List TraceLine × State). Some (rest.0, p.1)) both) (sym (ap (λ (p : List TraceLine × State). p.0) both))

-- the lines stand in front of those of a further run
abbrev after : List TraceLine → List TraceLine × State → List TraceLine × State
after before next = (before ++ next.0, next.1)

-- a run after a run
run_on : (s t : State) (m n : ℕ) (before : List TraceLine) → run s m ≡ Some (before, t) → run s (m + n) ≡ option_map {U = List TraceLine × State} (after before) (run t n)
run_on s t m zero before e = ap (run s) {x = m + zero} {y = m} (omega arith) ∙ e ∙ (λ i. Some (sym nil i, t))
  where
    nil : before ++ [] ≡ before
    nil = rw append-nil refl
run_on s t m (suc n) before e =
    ap (run s) {x = m + suc n} {y = suc (m + n)} (omega arith)
    ∙ ap (option_and_then one_step_more) (run_on s t m n before e)
    ∙ go (run t n)
  where
    last : (lines : List TraceLine) (o : Option (TraceLine × State)) → option_map {U = List TraceLine × State} (λ (next : TraceLine × State). ((before ++ lines) ++ next.0 ∷ [], next.1)) o
        ≡ option_map {U = List TraceLine × State} (after before) (option_map {U = List TraceLine × State} (λ (next : TraceLine × State). (lines ++ next.0 ∷ [], next.1)) o)
    last lines None = refl
    last lines (Some next) = ap (λ ls. Some (ls, next.1)) assoc
      where
        assoc : (before ++ lines) ++ next.0 ∷ [] ≡ before ++ (lines ++ next.0 ∷ [])
        assoc = rw append_assoc refl

    go : (o : Option (List TraceLine × State)) → option_and_then one_step_more (option_map {U = List TraceLine × State} (after before) o) ≡ option_map {U = List TraceLine × State} (after before) (option_and_then one_step_more o)
    go None = refl
    go (Some so_far) = last so_far.0 (step so_far.1)

pub run_add : RunsGoOn
run_add s t u m n before lines e f = run_on s t m n before e ∙ ap (option_map {U = List TraceLine × State} (after before)) f

-- as many lines as steps
pub run_length : (n : ℕ) (s t : State) (lines : List TraceLine) → run s n ≡ Some (lines, t) → length lines ≡ n
run_length zero s t lines e = ap length (sym (ap (λ (p : List TraceLine × State). p.0) (same_some ([], s) (lines, t) e)))
run_length (suc n) s t lines e = of_run s t n lines e (λ line u rest first others is. let l = run_length n u t rest others in ap length is ∙ omega (arith, l))

pub step_end : (s t : State) (line : TraceLine) → step s ≡ Some (line, t) → t.end ≡ s.end
step_end s t line e = of_step s line t e (λ k v is new_is _. ap (λ (u : State). u.end) new_is)

pub run_end : (n : ℕ) (s t : State) (lines : List TraceLine) → run s n ≡ Some (lines, t) → t.end ≡ s.end
run_end zero s t lines e = ap (λ (p : List TraceLine × State). p.1.end) (sym (same_some ([], s) (lines, t) e))
run_end (suc n) s t lines e = of_run s t n lines e (λ line u rest first others is. run_end n u t rest others ∙ step_end s u line first)

-- what holds along a run holds along its end
pub along_step : (P : State → Type 0) (s t : State) (line : TraceLine) → step s ≡ Some (line, t) → Along P s → Along P t
along_step P s t line e all n lines u f = all (suc n) (line ∷ lines) u (run_cons s t u line n lines e f)

pub along_run : (P : State → Type 0) (s t : State) (m : ℕ) (before : List TraceLine) → run s m ≡ Some (before, t) → Along P s → Along P t
along_run P s t m before e all n lines u f = all (m + n) (before ++ lines) u (run_add s t u m n before lines e f)

pub along_here : (P : State → Type 0) (s : State) → Along P s → P s
along_here P s all = all 0 [] s refl

-- a run of m + n steps passes the state after m
pub run_parts : RunsPart
run_parts s u m zero lines e = record { between = u; first = lines; rest = []; begins = ap (run s) {x = m} {y = m + zero} (omega arith) ∙ e; goes_on = refl; together = sym (append-nil lines) }
run_parts s u m (suc n) lines e =
    option_and_then_some one_step_more (run s (m + n)) (lines, u) (ap (run s) {x = suc (m + n)} {y = m + suc n} (omega arith) ∙ e) (λ so_far was now.
    of_one_more so_far lines u now (λ line step_is lines_are.
    let before = run_parts s so_far.1 m n so_far.0 was in
    record {
      between = before.between;
      first = before.first;
      rest = before.rest ++ line ∷ [];
      begins = before.begins;
      goes_on = ap (option_and_then one_step_more) before.goes_on ∙ ap (option_map {U = List TraceLine × State} (λ (next : TraceLine × State). (before.rest ++ next.0 ∷ [], next.1))) step_is;
      together = lines_are ∙ ap (λ ls. ls ++ line ∷ []) before.together ∙ append_assoc before.first before.rest (line ∷ []);
    }))
