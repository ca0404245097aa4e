-- Lines of whole windows: none, and those of windows one after another.
use Rattle.std.proofs.Common.{◌≡◌, ◌<◌, ◌≤◌, ℕ, List, [], ◌∷◌, ◌++◌, length, Option, Some, None, sym, ap, subst, ◌∙◌, ⊎_elim, arith, cond, append-nil, lt-ltb, le-ltb}
use Rattle.std.proofs.lemmas.Bool.{cases_lt}
use Rattle.sim_time.specs.declared.key.Key.{Key}
use Rattle.tournament.specs.Keyed.{least}
use Rattle.tournament.proofs.Maps.{not_some, same_some}
use Rattle.node_core.specs.declared.event.Event.{Event}
use Rattle.node_core.specs.TraceLine.{TraceLine}
use Rattle.table_run.specs.State.{State, below, run, step}
use Rattle.table_run.proofs.Runs.{of_step, of_run}
use Rattle.window_core.specs.Windows.{AreBelow}
use Rattle.window_law.proofs.Due.{late_none}
use Rattle.window_engine.specs.Engines.{AreWhole, NoneBelow}

-- no line is of no window
pub whole_none : (s : State) → AreWhole [] s
whole_none s = (0, record { early = tt; none_left = late_none 0 s.pending (λ q some. omega arith) })

-- what is due though nothing is below a moment is not before it
late_due : (o : Option (Key × Event)) (moment end : ℕ) (k : Key) (v : Event) → below moment o ≡ None → below end o ≡ Some (k, v) → moment ≤ k.time
late_due None moment end k v none some = absurd (not_some some)
late_due (Some x) moment end k v none some =
    ⊎_elim
    (λ (early : x.0.time < moment). absurd (not_some (sym none ∙ ap (λ b. cond b (Some x) None) (lt-ltb x.0.time moment early))))
    (λ (late : moment ≤ x.0.time).
    ⊎_elim
    (λ (soon : x.0.time < end).
    let is : x ≡ (k, v) = same_some x (k, v) (sym (ap (λ b. cond b (Some x) None) (lt-ltb x.0.time end soon)) ∙ some) in
    subst (λ (y : Key × Event). moment ≤ y.0.time) is late)
    (λ (past : end ≤ x.0.time). absurd (not_some (sym (ap (λ b. cond b (Some x) None) (le-ltb x.0.time end past)) ∙ some)))
    (cases_lt x.0.time end))
    (cases_lt x.0.time moment)

late_step : (s t : State) (line : TraceLine) (moment : ℕ) → NoneBelow moment s → step s ≡ Some (line, t) → moment ≤ line.key.time
late_step s t line moment none e =
    of_step s line t e (λ k v is_due _ line_is.
    let late = late_due (least s.pending) moment s.end k v none is_due in
    let time = ap (λ (l : TraceLine). l.key.time) line_is in
    omega (arith, late, time))

both_below : (a b : ℕ) (xs ys : List TraceLine) → a ≤ b → AreBelow a xs → AreBelow b ys → AreBelow b (xs ++ ys)
both_below a b [] ys upto early more = more
both_below a b (x ∷ xs) ys upto early more = (let first = early.0 in omega (arith, first, upto), both_below a b xs ys upto early.1 more)

-- lines below a moment are below a later one
pub below_later : (a b : ℕ) (xs : List TraceLine) → a ≤ b → AreBelow a xs → AreBelow b xs
below_later a b [] upto early = early
below_later a b (x ∷ xs) upto early = (let first = early.0 in omega (arith, first, upto), below_later a b xs upto early.1)

-- and with more such lines
pub below_more : (a : ℕ) (xs ys : List TraceLine) → AreBelow a xs → AreBelow a ys → AreBelow a (xs ++ ys)
below_more a xs ys early more = both_below a a xs ys (omega arith) early more

-- a window more
pub whole_more : (s t : State) (xs ys : List TraceLine) → run s (length ys) ≡ Some (ys, t) → AreWhole xs s → AreWhole ys t → AreWhole (xs ++ ys) t
whole_more s t xs [] e first more =
    let same : s ≡ t = ap (λ (p : List TraceLine × State). p.1) (same_some ([], s) ([], t) e) in
    subst (AreWhole (xs ++ [])) same (rw append-nil first)
whole_more s t xs (y ∷ ys) e first more =
    of_run s t (length ys) (y ∷ ys) e (λ line u rest is_step _ is.
    let from : first.0 ≤ line.key.time = late_step s u line first.0 first.1.none_left is_step in
    let early : AreBelow more.0 (line ∷ rest) = subst (AreBelow more.0) is more.1.early in
    let upto : first.0 ≤ more.0 = (let before = early.0 in omega (arith, from, before)) in
    (more.0, record { early = both_below first.0 more.0 xs (y ∷ ys) upto first.1.early more.1.early; none_left = more.1.none_left }))
