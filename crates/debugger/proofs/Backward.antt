-- The last line of a stretch of the run that a breakpoint matches.
use Rattle.std.proofs.Common.{◌≡◌, ◌<◌, ◌≤◌, ◌+◌, ◌-◌, ℕ, List, Option, Some, None, inl, inr, ⊎_elim, refl, subst, arith}
use Rattle.std.proofs.lemmas.Bool.{cases_lt}
use Rattle.node_core.specs.TraceLine.{TraceLine}
use Rattle.table_run.specs.State.{State}
use Rattle.net_machine.specs.Run.{Reached, Stepped}
use Rattle.breakpoints.specs.declared.breaks.Break.{Break}
use Rattle.debugger.specs.Backwards.{NoneStops, IsLastStop, FindsLast}
use Rattle.breakpoints.specs.Breaks.{IsHit}
use Rattle.debugger.specs.Moves.{Passes, StopsAt, ReverseGoesTo}
use Rattle.debugger.proofs.Walks.{gives_next, none_by_yet, none_by_next}

module _ (start : State) (breaks : List Break) where
  pub nothing_yet : (from : ℕ) → FindsLast start breaks from from None
  nothing_yet from = none_by_yet (IsHit breaks) start from

  module _ (from : ℕ) (old new : Reached) (line : TraceLine) (at : Passes start old) (next : Stepped old (Some line) new) where
    pub found_here : from ≤ old.position → IsHit breaks old.state line new.state → FindsLast start breaks from new.position (Some new.position)
    found_here upto hit = record {
      past = omega (arith, upto, next.1);
      within = omega arith;
      stops = record { line = line; given = gives_next start old new line at next; hit = hit };
      none_behind = none_by_yet (IsHit breaks) start new.position;
    }

    pub found_before : (found : Option ℕ) → FindsLast start breaks from old.position found → (IsHit breaks old.state line new.state → ⊥) → FindsLast start breaks from new.position found
    found_before None none missed = none_by_next (IsHit breaks) start from old new line none at next missed
    found_before (Some p) last missed = record {
      past = last.past;
      within = let within = last.within in omega (arith, within, next.1);
      stops = last.stops;
      none_behind = none_by_next (IsHit breaks) start p old new line last.none_behind at next missed;
    }

  -- from one stretch to that before it
  pub none_further : (from upto most : ℕ) → NoneStops start breaks from upto → NoneStops start breaks upto most → NoneStops start breaks from most
  none_further from upto most first second q past within stops =
      ⊎_elim (λ (behind : upto < q). second q behind within stops) (λ (before : q ≤ upto). first q past before stops) (cases_lt upto q)

  pub goes_there : (from upto most p : ℕ) → IsLastStop start breaks from upto p → upto ≤ most → NoneStops start breaks upto most → ReverseGoesTo start breaks (most + 1) p
  goes_there from upto most p last within none = record {
    holds = inr (let in_stretch = last.within in omega (arith, in_stretch, within), last.stops);
    greatest = λ q. ⊎_elim
        (λ (zero : q ≡ 0). omega (arith, zero))
        (λ (stops : (q < most + 1) × StopsAt start breaks q).
        ⊎_elim (λ (past : p < q). absurd (none_further p upto most last.none_behind none q past (let low = stops.0 in omega (arith, low)) stops.1)) (λ (upto_p : q ≤ p). upto_p) (cases_lt p q));
  }

  pub goes_to_0 : (most : ℕ) → NoneStops start breaks 0 most → ReverseGoesTo start breaks (most + 1) 0
  goes_to_0 most none = record {
    holds = inl refl;
    greatest = λ q. ⊎_elim
        (λ (zero : q ≡ 0). omega (arith, zero))
        (λ (stops : (q < most + 1) × StopsAt start breaks q).
        ⊎_elim (λ (past : 0 < q). absurd (none q past (let low = stops.0 in omega (arith, low)) stops.1)) (λ (h : q ≤ 0). h) (cases_lt 0 q));
  }

  -- and where it goes from a position, one before it given
  pub goes_before : (m before p : ℕ) → before ≡ m - 1 → ReverseGoesTo start breaks (before + 1) p → ReverseGoesTo start breaks m p
  goes_before m before p is goes = ⊎_elim
      (λ (some : 0 < m). subst (λ k. ReverseGoesTo start breaks k p) {x = before + 1} {y = m} (omega (arith, some, is)) goes)
      (λ (none : m ≤ 0).
      let one : before + 1 ≡ 1 = omega (arith, none, is) in
      let zero : p ≡ 0 = ⊎_elim (λ (e : p ≡ 0). e) (λ (stops : (p < before + 1) × StopsAt start breaks p). let low = stops.0 in omega (arith, low, one)) goes.holds in
      record {
        holds = inl zero;
        greatest = λ q. ⊎_elim (λ (e : q ≡ 0). omega (arith, e)) (λ (stops : (q < m) × StopsAt start breaks q). let low = stops.0 in omega (arith, low, none));
      })
      (cases_lt 0 m)

  pub not_past : (m p : ℕ) → ReverseGoesTo start breaks m p → p ≤ m
  not_past m p goes = ⊎_elim (λ (zero : p ≡ 0). omega (arith, zero)) (λ (stops : (p < m) × StopsAt start breaks p). let low = stops.0 in omega (arith, low)) goes.holds
