-- Over every list of moves: each turn leaves a run's state and gives its lines, and between turns each group is the run's.
use Rattle.std.proofs.Common.{◌≡◌, ◌≢◌, ℕ, min, List, [], ◌∷◌, ◌++◌, length, set, Bool, true, false, cond, Option, Some, None, refl, ap, ◌∙◌, append-nil, length-append}
use Rattle.std.specs.Option.{option_map}
use Rattle.sim_time.specs.declared.key.Key.{Key}
use Rattle.node_core.specs.declared.event.Event.{Event}
use Rattle.table_run.specs.State.{State, due, run}
use Rattle.node_core.specs.TraceLine.{TraceLine}
use Rattle.window_law.specs.Groups.{GroupState, group_at, up_to, fire_on}
use Rattle.window_law.specs.Windows.{Setting, WindowState, Move, Fire, Turn, Limit, Course, in_order, all_lines, groups_delivered, all_done, none_fired, opened, moved, gone_on, went, course, course_begun}
use Rattle.window_law.specs.Standing.{Stands}
use Rattle.window_law.specs.Calls.{IsOpenFrom}
use Rattle.window_law.specs.Schedules.{Between}
use Rattle.window_law.proofs.Premises.{FairStep}
use Rattle.table_run.proofs.Runs.{Along, run_add, run_end, along_run}
use Rattle.window_law.proofs.Calls.{opens, fire_keeps, limit_keeps, turn_gives, inside}

-- after a turn: the groups hold the state after as many steps as lines were given, and those are the lines
pub record IsRunTo (group : ℕ → ℕ) (s : State) (c : Course) : Type 0 where
  pub state : State
  pub is_run : run s (length c.given) ≡ Some (c.given, state)
  pub stands : Stands group state c.window.groups

-- in the midst of a window
pub record Mid (x : Setting) (s0 : State) (c : Course) : Type 0 where
  pub edge : State
  pub is_run : run s0 (length c.given) ≡ Some (c.given, edge)
  pub is_open : IsOpenFrom x edge c.window

module _ (x : Setting) (maker : Key → ℕ) (s0 : State) (ends : s0.end ≡ x.end) (fair : Along (FairStep x.group maker x.ahead) s0) where
  fair_from : (c : Course) (m : Mid x s0 c) → Along (FairStep x.group maker x.ahead) m.edge
  fair_from c m = along_run (FairStep x.group maker x.ahead) s0 m.edge (length c.given) c.given m.is_run fair

  same_end : (c : Course) (m : Mid x s0 c) → m.edge.end ≡ x.end
  same_end c m = run_end (length c.given) s0 m.edge c.given m.is_run ∙ ends

  same_given : (edge : State) (given : List TraceLine) → run s0 (length given) ≡ Some (given, edge) → run s0 (length (given ++ [])) ≡ Some (given ++ [], edge)
  same_given edge given e = rw append-nil e

  -- a turn that is taken
  abbrev turned : Course → Course
  turned c = record { window = opened x (groups_delivered x.group c.window.groups); given = c.given ++ in_order (all_lines c.window.groups) }

  run_further : (given lines : List TraceLine) (edge t : State) → run s0 (length given) ≡ Some (given, edge) → run edge (length lines) ≡ Some (lines, t) → run s0 (length (given ++ lines)) ≡ Some (given ++ lines, t)
  run_further given lines edge t e f = ap (run s0) (length-append given lines) ∙ run_add s0 edge t (length given) (length lines) given lines e f

  turns : (c : Course) → Mid x s0 c → all_done c.window.until c.window.groups ≡ true → IsRunTo x.group s0 (turned c) × Mid x s0 (turned c)
  turns c m all =
      let t = turn_gives x m.edge c.window m.is_open maker (same_end c m) (fair_from c m) all in
      let is = run_further c.given (in_order (all_lines c.window.groups)) m.edge t.state m.is_run t.is_run in
      (record { state = t.state; is_run = is; stands = t.stands }, record { edge = t.state; is_run = is; is_open = t.is_open })

  fires_on : (c : Course) (m : Mid x s0 c) (h : ℕ) (o : Option (Key × Event)) → due (up_to c.window.until (group_at c.window.groups h)) ≡ o
      → Mid x s0 (gone_on c (option_map (λ (g : GroupState). (record { groups = set c.window.groups h g; until = c.window.until }, [])) (option_map (fire_on x.group h c.window.until (group_at c.window.groups h)) o)))
  fires_on c m h None e = m
  fires_on c m h (Some entry) e = record { edge = m.edge; is_run = same_given m.edge c.given m.is_run; is_open = fire_keeps x m.edge c.window m.is_open h entry e }

  keeps : (c : Course) (move : Move) → Mid x s0 c → Mid x s0 (went x c move)
  keeps c (Fire h) m = fires_on c m h (due (up_to c.window.until (group_at c.window.groups h))) refl
  keeps c Turn m =
      elim (all_done c.window.until c.window.groups) as (λ b. all_done c.window.until c.window.groups ≡ b → Mid x s0 (gone_on c (cond b (Some (opened x (groups_delivered x.group c.window.groups), in_order (all_lines c.window.groups))) None))) [
        | true ↦ λ all. (turns c m all).1
        | false ↦ λ _. m
      ] refl
  keeps c (Limit moment) m =
      elim (none_fired c.window.groups) as (λ b. none_fired c.window.groups ≡ b → Mid x s0 (gone_on c (cond b (Some (record { groups = c.window.groups; until = min c.window.until moment }, [])) None))) [
        | true ↦ λ none. record { edge = m.edge; is_run = same_given m.edge c.given m.is_run; is_open = limit_keeps x m.edge c.window m.is_open none moment }
        | false ↦ λ _. m
      ] refl

  all_keep : (moves : List Move) (c : Course) → Mid x s0 c → Mid x s0 (course x c moves)
  all_keep [] c m = m
  all_keep (move ∷ moves) c m = all_keep moves (went x c move) (keeps c move m)

  pub mid_of : (groups : List GroupState) → Stands x.group s0 groups → (moves : List Move) → Mid x s0 (course x (course_begun x groups) moves)
  mid_of groups st moves = all_keep moves (course_begun x groups) record { edge = s0; is_run = refl; is_open = opens x s0 groups st }

  abbrev turn_if : Course → Bool → Option (WindowState × List TraceLine)
  turn_if c b = cond b (Some (opened x (groups_delivered x.group c.window.groups), in_order (all_lines c.window.groups))) None

  -- whenever a turn was taken
  turned_stands : (c : Course) → Mid x s0 c → moved x c.window Turn ≢ None → IsRunTo x.group s0 (went x c Turn)
  turned_stands c m possible =
      elim (all_done c.window.until c.window.groups) as (λ b. all_done c.window.until c.window.groups ≡ b → turn_if c b ≢ None → IsRunTo x.group s0 (gone_on c (turn_if c b))) [
        | true ↦ λ all _. (turns c m all).0
        | false ↦ λ _ none. absurd (none refl)
      ] refl possible

  pub law : (groups : List GroupState) → Stands x.group s0 groups → (moves : List Move) → moved x (course x (course_begun x groups) moves).window Turn ≢ None → IsRunTo x.group s0 (went x (course x (course_begun x groups) moves) Turn)
  law groups st moves possible = turned_stands (course x (course_begun x groups) moves) (mid_of groups st moves) possible

  pub between : (groups : List GroupState) → Stands x.group s0 groups → (moves : List Move) → Between x.group s0 (course x (course_begun x groups) moves)
  between groups st moves =
      let c = course x (course_begun x groups) moves in
      let m = mid_of groups st moves in
      record { edge = m.edge; is_run = m.is_run; inside = λ j lines t e h a. inside x m.edge c.window m.is_open maker (same_end c m) (fair_from c m) j lines t e a.0 h a.1 }
