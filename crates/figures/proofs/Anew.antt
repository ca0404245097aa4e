-- A run that is counted anew where nothing was counted.
use Rattle.std.proofs.Common.{◌≡◌, ℕ, List, [], sym, ap, subst, ◌∙◌, Some, arith}
use Rattle.scenario_image.specs.declared.parts.ScenarioParts.{ScenarioParts}
use Rattle.node_core.specs.TraceLine.{TraceLine}
use Rattle.tournament.proofs.Maps.{same_some}
use Rattle.table_run.specs.State.{State, run, initial}
use Rattle.net_machine.specs.Run.{Reached}
use Rattle.figures.specs.declared.figures.Figures.{Figures}
use Rattle.figures.specs.Moments.{Base, moments}
use Rattle.figures.specs.Figures.{last_line, base_at, AreOfRun}

-- where nothing was counted from a moment on, the base is that from which on is counted
base_same : (p : ScenarioParts) (b : Base) (f : Figures) (r : Reached) (of : AreOfRun p b f r) → f.events ≡ 0 → b ≡ base_at p f.last r
base_same p b f r of none =
    let counts = of.events in
    let at = of.position in
    let zero_is : of.count ≡ 0 = omega (arith, counts, none) in
    let before : b.before ≡ r.position = omega (arith, at, counts, none) in
    let here : ([], b.state) ≡ (of.counted, r.state) = same_some ([], b.state) (of.counted, r.state) (subst (λ n. run b.state n ≡ Some (of.counted, r.state)) zero_is of.goes_on) in
    let state : b.state ≡ r.state = ap (λ (x : List TraceLine × State). x.1) here in
    let since : b.since ≡ f.last = ap (λ (x : List TraceLine × State). last_line b.since x.0) here ∙ sym of.last in
    let earlier : b.earlier ≡ moments (initial p) r.position = of.base.earlier ∙ ap (λ n. moments (initial p) n) before in
    λ i. record { since = since i; state = state i; before = before i; earlier = earlier i }

pub same_anew : (p : ScenarioParts) (b : Base) (f : Figures) (r : Reached) (since : ℕ) → f.events ≡ 0 → f.last ≡ since → AreOfRun p b f r → AreOfRun p (base_at p since r) f r
same_anew p b f r since none last of =
    subst (λ n. AreOfRun p (base_at p n r) f r) last (subst (λ x. AreOfRun p x f r) (base_same p b f r of none) of)
