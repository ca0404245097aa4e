-- What was watched so far, and one event more.
use Rattle.std.proofs.Common.{◌≡◌, suc, Bool, true, if◌then◌else◌, List, [], ◌∷◌, ◌++◌, length, length-append, Some, None, refl, ap, subst, ◌∙◌, arith}
use Rattle.std.specs.Option.{option_map, option_and_then}
use Rattle.node_core.specs.TraceLine.{TraceLine}
use Rattle.table_run.specs.State.{State, run, one_step_more}
use Rattle.net_machine.specs.Run.{Reached, Stepped}
use Rattle.net_watch.specs.RunsOn.{RunsOn}
use Rattle.net_watch.specs.Watched.{Watched}

pub runs_nowhere : (at : Reached) → RunsOn at at
runs_nowhere at = record { lines = []; comes = refl; position = omega arith }

pub runs_more : (old mid new : Reached) (line : TraceLine) → RunsOn old mid → Stepped mid (Some line) new → RunsOn old new
runs_more old mid new line so stepped =
    let long = length-append so.lines (line ∷ []) in
    let longer : length (so.lines ++ line ∷ []) ≡ suc (length so.lines) = omega (arith, long) in
    record {
      lines = so.lines ++ line ∷ [];
      comes = ap (run old.state) longer ∙ ap (option_and_then one_step_more) so.comes ∙ ap (option_map {U = List TraceLine × State} (λ (x : TraceLine × State). (so.lines ++ x.0 ∷ [], x.1))) stepped.0;
      position = let p = stepped.1 in let q = so.position in omega (arith, p, q, longer);
    }

pub was_run : (mid new : Reached) (line : TraceLine) (fired : Bool) → fired ≡ true → Stepped mid (if fired then Some line else None) new → Stepped mid (Some line) new
was_run mid new line fired there stepped = subst (λ (b : Bool). Stepped mid (if b then Some line else None) new) there stepped

-- by what the loop's calls ensure: what was remembered of the net before the event, whether there was one, and what was answered
pub watched_next : {W : Type 0} (has : W → Reached → W → Reached → Bool → Type 0) (old mid new remembered : Reached) (was w is : W) (line : TraceLine) (fired result answer : Bool)
    → Watched has old was mid w true
    → fired ≡ true
    → Stepped mid (if fired then Some line else None) new
    → remembered ≡ mid
    → ((from : Reached) → RunsOn from remembered → has was from w remembered true → has was from is new result)
    → result ≡ answer
    → Watched has old was new is answer
watched_next {W} has old mid new remembered was w is line fired result answer so there stepped same sees answers =
    let seen = subst (λ (r : Reached). (from : Reached) → RunsOn from r → has was from w r true → has was from is new result) same sees in
    record {
      runs = runs_more old mid new line so.runs (was_run mid new line fired there stepped);
      holds = subst (λ (b : Bool). has was old is new b) answers (seen old so.runs so.holds);
    }
