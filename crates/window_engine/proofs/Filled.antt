-- A window that has an event in it has a line: no link is without delay.
use Rattle.std.proofs.Common.{◌≡◌, ◌<◌, ◌≤◌, ◌==◌, ℕ, min, List, [], ◌∷◌, length, All, Option, Some, None, true, false, cond, refl, sym, ap, subst, ◌∙◌, arith}
use Rattle.scenario_image.specs.declared.parts.LinkPart.{LinkPart}
use Rattle.scenario_image.specs.LinkLimits.{IsLinkInLimits}
use Rattle.node_core.specs.TraceLine.{TraceLine}
use Rattle.table_run.specs.State.{State, run}
use Rattle.net_machine.specs.Run.{Reached}
use Rattle.tournament.proofs.Maps.{same_some}
use Rattle.window_core.specs.Batches.{BatchValue}
use Rattle.window_core.specs.Lookahead.{lesser, lookahead}
use Rattle.window_core.specs.Partition.{group_in}
use Rattle.window_core.specs.Window.{WindowValue, IsFrom, IsWindow, HasGoneOn, HasTurned}
use Rattle.window_core.specs.Windows.{AreBelow, sum_of, at_most}
use Rattle.window_workers.specs.Laid.{IsDoneBy}
use Rattle.window_workers.specs.Edges.{IsAtEdge, edge_of, reached_in}
use Rattle.window_engine.specs.Engines.{GoesOn, IsNext, NoneBelow, net_up_to}
use Rattle.window_workers.proofs.Laying.{All-first, All-rest}
use Rattle.window_engine.specs.RunStates.{IsTurnedBy}
use Rattle.window_engine.proofs.Edge.{left_none, turned_below, turned_edge, went_on}
use Rattle.window_engine.proofs.Resting.{end_is, some_due}

-- a delay is not nothing, where there is one
IsMore : Option ℕ → Type 0
IsMore None = Unit {0}
IsMore (Some delay) = 1 ≤ delay

lesser_more : (a b : Option ℕ) → IsMore a → IsMore b → IsMore (lesser a b)
unfolding IsMore
lesser_more None b p q = q
lesser_more (Some a) None p q = p
lesser_more (Some a) (Some b) p q = omega (arith, p, q)

ahead_more : (group : ℕ → ℕ) (nodes : ℕ) (links : List LinkPart) → All (IsLinkInLimits nodes) links → IsMore (lookahead group links)
unfolding IsMore
ahead_more group nodes [] limits = tt
ahead_more group nodes (link ∷ links) limits =
    let rest : IsMore (lookahead group links) = ahead_more group nodes links (All-rest (IsLinkInLimits nodes) (link ∷ links) links link refl limits) in
    let first : IsMore (Some link.delay) = (All-first (IsLinkInLimits nodes) (link ∷ links) links link refl limits).delay_range.0 in
    elim (group link.from == group link.to) as (λ b. IsMore (cond b (lookahead group links) (lesser (Some link.delay) (lookahead group links)))) [
      | true ↦ rest
      | false ↦ lesser_more (Some link.delay) (lookahead group links) first rest
    ]

-- what is below the end and a moment is below the window's end
soon : (ahead : Option ℕ) (time end until : ℕ) → IsMore ahead → time < end → time < until → time < min (at_most (sum_of (Some time) ahead) end) until
unfolding IsMore
soon None time end until more before below = omega (arith, before, below)
soon (Some delay) time end until more before below = omega (arith, more, before, below)

some_line : (from : State) (to : State) (lines : List TraceLine) (moment time : ℕ) → run from (length lines) ≡ Some (lines, to) → IsNext moment (net_up_to moment from) time → NoneBelow moment to → 0 < length lines
some_line from to [] moment time ran next none =
    let same : to ≡ from = ap (λ (p : List TraceLine × State). p.1) (same_some ([], to) ([], from) (sym ran)) in
    absurd (some_due (net_up_to moment from) time next.least next.within (subst (NoneBelow moment) same none))
some_line from to (line ∷ lines) moment time ran next none = omega arith

-- where an event is left below a moment and the run's end, a window that ends by the moment has a line
pub has_line : (v : WindowValue) (until time : ℕ) (batch : BatchValue) (new : Reached) → IsAtEdge v → IsWindow v → GoesOn (reached_in v) batch new → NoneBelow (min v.until until) new.state → IsNext until (edge_of v) time → 0 < length batch.lines
has_line v until time batch new at is gone none next =
    let limits = is.from.in_run.is_scenario.in_limits in
    let more : IsMore v.ahead = subst IsMore (sym is.from.ahead_is) (ahead_more (group_in v.entries) (length is.from.scenario.nodes) is.from.scenario.links limits.each_link) in
    let inside : time < min (at_most (sum_of (Some time) v.ahead) v.end) until = soon v.ahead time v.end until more next.within next.below in
    let ends : v.until ≡ at_most (sum_of (Some time) v.ahead) v.end = end_is v at is ∙ ap (λ o. at_most (sum_of o v.ahead) v.end) next.least in
    let before : time < min v.until until = subst (λ e. time < min e until) (sym ends) inside in
    some_line (edge_of v) new.state batch.lines (min v.until until) time gone.is_run record { least = next.least; within = before; below = before } none

-- a window whose groups are done by the moment was turned
pub turned_by : (v w u : WindowValue) (until : ℕ) (batch : BatchValue) → IsAtEdge v → IsWindow v → IsDoneBy until v w → HasTurned w batch u → ((edge : State) → IsFrom edge w → HasGoneOn edge batch.lines u) → AreBelow w.until batch.lines → IsTurnedBy until v batch u
turned_by v w u until batch at is done has gone below =
    let on = went_on v w u until batch at is done has gone below in
    let none = left_none v w u until batch at is done has gone below in
    record {
      edge = turned_edge w u batch done.inside has;
      gone = on;
      none_left = none;
      early = turned_below v w u until batch at is done has gone below;
      some = λ time next. has_line v until time batch (reached_in u) at is on none next;
    }
