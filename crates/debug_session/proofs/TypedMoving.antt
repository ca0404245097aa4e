-- What is answered to a move that is typed, and to `lines`.
use Rattle.std.proofs.Common.{◌≡◌, ◌≢◌, ◌<◌, ◌≤◌, ◌+◌, ◌-◌, ◌⊎◌, ◌∙◌, ℕ, List, [], ◌∷◌, ◌++◌, Bool, true, false, min, length, drop, reverse, inl, inr, ⊎_elim, refl, sym, ap, subst, arith, append_assoc, append-nil, Option, None, Some, is_none, Result, Ok, Err, if◌then◌else◌, codes, true≢false}
use Rattle.std.proofs.lemmas.Bool.{cases_lt}
use Rattle.std.proofs.lemmas.List.{length-reverse, reverse-append}
use Rattle.std.specs.Prelude.{nat_lt}
use Rattle.std.specs.List.{concat}
use Rattle.std.specs.Result.{MatchResult, OnOk}
use borrow.Author.Tests.{lt-ltb, le-ltb}
use lib.Seq.{drop_at}
use Rattle.node_core.specs.TraceLine.{TraceLine}
use Rattle.table_run.specs.State.{State, due, step}
use Rattle.net_machine.specs.Run.{Reached}
use Rattle.debugger.specs.declared.passed.LastEvent.{LastEvent}
use Rattle.debugger.specs.declared.passed.LineOrder.TheVariants.{Rising, Falling}
use Rattle.debugger.specs.declared.passed.Stretch.{Stretch}
use Rattle.debugger.specs.Debugging.{Debugging, HasMoved}
use Rattle.debugger.specs.LastEvents.{IsLastEvent}
use Rattle.debugger.specs.Moves.{Passes, HasPosition, GivesAt, EndsAt, StepGoesTo}
use Rattle.debugger.specs.Passed.{lines_between, texts_between, stretch_texts}
use Rattle.debugger.proofs.Between.{one_line, length_between, between_parts}
use Rattle.debugger.proofs.Walks.{has_earlier, none_due, passes_next, step_done}
use Rattle.prompt_words.specs.declared.command.Move.{Move}
use Rattle.prompt_words.specs.declared.command.Typed.TheVariants.{Go}
use Rattle.prompt_words.specs.declared.memo.Extent.{Extent}
use Rattle.prompt_words.specs.declared.naming.Naming.{Naming}
use Rattle.prompt_words.specs.declared.refusal.Refusal.{Refusal}
use Rattle.prompt_words.specs.declared.refusal.Refusal.TheVariants.{M}
use Rattle.prompt_words.specs.declared.report.Report.{Report}
use Rattle.prompt_words.specs.Refusals.{answer_of}
use Rattle.debug_session.specs.Answers.{SessionState, session_state, GoesTo}
use Rattle.debug_session.specs.Reported.{GoesBack, CanBeUndone, AddsPlace, AddsMove, passed_count, reported_hit, reported_origin, shown_stretch}
use Rattle.prompt_words.specs.Reports.{report_of}
use Rattle.debug_session.specs.TypedMoves.{lowest, passed, more_line, last_ten, passed_lines, last_time, place_line, where_line, origin_text, origin_line, hit_line, next_text, known_line, where_text, TellsPast, MovesPast}
use Rattle.debug_session.specs.TypedAnswers.{TypedIsRefused, ObeysTyped}
use Rattle.debug_session.proofs.Moved.{start_of, breaks_of, start_again, state_again}

-- where the lines of a move backwards begin
lowest_upto : (bound p : ℕ) → lowest bound p ≤ p
lowest_upto bound p = elim (nat_lt bound p) as (λ b. (if b then p - 1 else p) ≤ p) [
  | true ↦ omega arith
  | false ↦ omega arith
]

module _ (start : State) (m bound : ℕ) (at : Reached) (has : HasPosition start m) (here : Passes start at) where
  abbrev from : Reached
  from = record { state = has.0; position = m }

  abbrev low : ℕ
  low = lowest bound at.position

  abbrev risen : List (List ℕ)
  risen = texts_between start m at.position

  abbrev fallen : List (List ℕ)
  fallen = reverse (texts_between start low m)

  forwards : m < at.position → passed start m bound at.position ≡ risen
  forwards under = ap (λ b. if b then risen else fallen) (lt-ltb m at.position under)

  backwards : at.position ≤ m → passed start m bound at.position ≡ fallen
  backwards past = ap (λ b. if b then risen else fallen) (le-ltb m at.position past)

  abbrev on_stretch : Stretch
  on_stretch = record { from = at.position - min (at.position - m) 10; count = min (at.position - m) 10; order = Rising }

  abbrev back_stretch : Stretch
  back_stretch = record { from = low; count = min (m - low) 10; order = Falling }

  stretch_on : m < at.position → shown_stretch m low at.position ≡ on_stretch
  stretch_on under = ap (λ b. if b then on_stretch else back_stretch) (lt-ltb m at.position under)

  stretch_back : at.position ≤ m → shown_stretch m low at.position ≡ back_stretch
  stretch_back past = ap (λ b. if b then on_stretch else back_stretch) (le-ltb m at.position past)

  -- the run has the stretch
  pub has_stretch : HasPosition start ((shown_stretch m low at.position).from + (shown_stretch m low at.position).count)
  has_stretch =
      let below = lowest_upto bound at.position in
      ⊎_elim
      (λ (under : m < at.position).
      subst (λ (s : Stretch). HasPosition start (s.from + s.count)) (sym (stretch_on under))
      (subst (HasPosition start) {x = at.position} {y = at.position - min (at.position - m) 10 + min (at.position - m) 10} (omega (arith, under)) (at.state, here)))
      (λ (past : at.position ≤ m).
      subst (λ (s : Stretch). HasPosition start (s.from + s.count)) (sym (stretch_back past)) (has_earlier start from (low + min (m - low) 10) has.1 (omega (arith, past, below))))
      (cases_lt m at.position)

  -- the last lines of those that a move forwards passed
  last_up : m < at.position → texts_between start (at.position - min (at.position - m) 10) (at.position - min (at.position - m) 10 + min (at.position - m) 10) ≡ drop (length risen - 10) risen
  last_up under =
      let k = min (at.position - m) 10 in
      let q = at.position - k in
      let whole : q + k ≡ at.position = omega (arith, under) in
      let there = has_earlier start at q here (omega arith) in
      let many : length (texts_between start m q) ≡ q - m = length_between start m (record { state = there.0; position = q }) there.1 in
      let count = length_between start m at here in
      let gap : length risen - 10 ≡ q - m = omega (arith, count, under) in
      ap (texts_between start q) whole
      ∙ sym (ap (λ n. drop n risen) gap ∙ ap (drop (q - m)) (between_parts start m q at (omega (arith, under)) (omega arith) here) ∙ drop_at (texts_between start m q) (texts_between start q at.position) (q - m) many)

  -- and the last of those that one backwards tells
  last_down : at.position ≤ m → reverse (texts_between start low (low + min (m - low) 10)) ≡ drop (length fallen - 10) fallen
  last_down past =
      let below = lowest_upto bound at.position in
      let q = low + min (m - low) 10 in
      let first = texts_between start low q in
      let last = texts_between start q m in
      let both : fallen ≡ reverse last ++ reverse first = ap reverse (between_parts start low q from (omega arith) (omega (arith, past, below)) has.1) ∙ reverse-append first last in
      let many : length (reverse last) ≡ m - q = length-reverse last ∙ length_between start q from has.1 in
      let count : length fallen ≡ m - low = length-reverse (texts_between start low m) ∙ length_between start low from has.1 in
      let gap : length fallen - 10 ≡ m - q = omega (arith, count, past, below) in
      sym (ap (λ n. drop n fallen) gap ∙ ap (drop (m - q)) both ∙ drop_at (reverse last) (reverse first) (m - q) many)

  pub shown_are : concat (stretch_texts start (shown_stretch m low at.position)) ≡ concat (drop (length (passed start m bound at.position) - 10) (passed start m bound at.position))
  shown_are =
      ⊎_elim
      (λ (under : m < at.position).
      ap (λ (s : Stretch). concat (stretch_texts start s)) (stretch_on under) ∙ ap concat (last_up under) ∙ ap (λ ts. concat (drop (length ts - 10) ts)) (sym (forwards under)))
      (λ (past : at.position ≤ m).
      ap (λ (s : Stretch). concat (stretch_texts start s)) (stretch_back past) ∙ ap concat (last_down past) ∙ ap (λ ts. concat (drop (length ts - 10) ts)) (sym (backwards past)))
      (cases_lt m at.position)

  so_many : length (passed start m bound at.position) ≡ passed_count m low at.position
  so_many =
      ⊎_elim
      (λ (under : m < at.position).
      ap length (forwards under) ∙ length_between start m at here ∙ sym (ap (λ b. if b then at.position - m else m - low) (lt-ltb m at.position under)))
      (λ (past : at.position ≤ m).
      ap length (backwards past) ∙ length-reverse (texts_between start low m) ∙ length_between start low from has.1 ∙ sym (ap (λ b. if b then at.position - m else m - low) (le-ltb m at.position past)))
      (cases_lt m at.position)

  -- how many more there are, and then the last lines
  pub passed_reported : (out made all : List ℕ) (count : ℕ) → made ≡ out ++ more_line count → count ≡ passed_count m low at.position → all ≡ made ++ concat (stretch_texts start (shown_stretch m low at.position)) → all ≡ out ++ last_ten (passed start m bound at.position)
  passed_reported out made all count more is lines =
      let texts = passed start m bound at.position in
      let shown = concat (stretch_texts start (shown_stretch m low at.position)) in
      lines ∙ ap (λ l. l ++ shown) (more ∙ ap (λ n. out ++ more_line n) (is ∙ sym so_many))
      ∙ append_assoc out (more_line (length texts)) shown
      ∙ ap (λ l. out ++ (more_line (length texts) ++ l)) shown_are

last_append : (time : ℕ) (lines : List TraceLine) (line : TraceLine) → last_time time (lines ++ line ∷ []) ≡ line.key.time
last_append time [] line = refl
last_append time (first ∷ lines) line = last_append first.key.time lines line

-- the moment of the event before a position
pub time_at : (start : State) (line : TraceLine) (p : ℕ) → GivesAt start line p → last_time 0 (lines_between start 0 p) ≡ line.key.time
time_at start line p given =
    ap (λ ls. last_time 0 (drop 0 ls)) (one_line start given.before (record { state = given.after; position = p }) line given.passes (given.gives, given.is_next)) ∙ last_append 0 given.passes.lines line

module _ (naming : Naming) (start : State) (m : ℕ) (at : SessionState) (out made : List ℕ) (at_end : Bool) (end_is : at_end ≡ is_none (due at.shown.state)) where
  -- at the beginning there is no event
  pub begin_reported : at.shown.position ≡ 0 → made ≡ out ++ place_line 0 0 at_end → AddsPlace naming start m at out made
  begin_reported none is =
      let place : place_line 0 0 at_end ≡ where_line start at.shown =
      ap (λ n. place_line n (last_time 0 (lines_between start 0 n)) at_end) (sym none) ∙ ap (place_line at.shown.position (last_time 0 (lines_between start 0 at.shown.position))) end_is in (
        [],
        [],
        record { past = λ under. absurd (omega (arith, under, none)); before = λ _. (refl, refl) },
        is ∙ ap (λ l. out ++ l) (place ∙ sym (append-nil (where_line start at.shown))),
      )

  pub event_reported : (event : LastEvent) → IsLastEvent start at.breaks at.shown.position event → made ≡ out ++ (reported_origin naming m at.shown.position event ++ (place_line at.shown.position event.time at_end ++ hit_line naming (reported_hit m at.shown.position event.hit))) → AddsPlace naming start m at out made
  event_reported event last is =
      let p = at.shown.position in
      let origin = reported_origin naming m p event in
      let matched = hit_line naming (reported_hit m p event.hit) in
      let here : origin_text naming event.node event.flow event.link ≡ origin_line naming last.line = λ i. origin_text naming (last.shows.node i) (last.shows.flow i) (last.shows.link i) in
      let time : event.time ≡ last_time 0 (lines_between start 0 p) = last.shows.time ∙ sym (time_at start last.line p last.given) in
      let place : place_line p event.time at_end ≡ where_line start at.shown = ap (λ t. place_line p t at_end) time ∙ ap (place_line p (last_time 0 (lines_between start 0 p))) end_is in (
        origin,
        matched,
        record {
          past = λ under.
              record {
                line = last.line;
                given = last.given;
                hit = event.hit;
                first = last.first;
                origin_is = ap (λ b. if b then origin_text naming event.node event.flow event.link else []) (lt-ltb m p under) ∙ here;
                matched_is = ap (λ b. hit_line naming (if b then event.hit else None)) (lt-ltb m p under);
              };
          before = λ past. (
            ap (λ b. if b then origin_text naming event.node event.flow event.link else []) (le-ltb m p past),
            ap (λ b. hit_line naming (if b then event.hit else None)) (le-ltb m p past),
          );
        },
        is ∙ ap (λ l. out ++ (origin ++ (l ++ matched))) place,
      )

-- what was passed, and then where that is
pub move_reported : (naming : Naming) (start : State) (m : ℕ) (report : Report) (at : SessionState) (out made all : List ℕ) → made ≡ out ++ passed_lines start m report at.shown.position → AddsPlace naming start report.bound at made all → AddsMove naming start m report at out all
move_reported naming start m report at out made all lines place =
    let texts = passed_lines start m report at.shown.position in
    let behind = place.0 ++ (where_line start at.shown ++ place.1) in
    (texts ++ behind, record { origin = place.0; matched = place.1; matches = place.2; reported = refl }, place.3 ∙ ap (λ l. l ++ behind) lines ∙ append_assoc out texts behind)

pub record GonePast (naming : Naming) (move : Move) (old new : Debugging) (result : Result (Unit {0}) Refusal) (out : List ℕ) : Type 0 where
  pub start : new.start ≡ old.start
  pub obeyed : ObeysTyped naming old.start (Go move) (session_state old) (session_state new) (answer_of result out)
  pub left : OnOk result (CanBeUndone old new)

-- where a move began the run has a position
pub has_from : (old between : Debugging) (p m : ℕ) → m ≡ old.shown.position → Passes old.start old.shown → HasMoved old between p → HasPosition between.start m
has_from old between p m is here has = subst (λ (s : State). HasPosition s m) (sym (start_of old between p has)) (subst (HasPosition old.start) (sym is) (old.shown.state, here))

-- the move is told, or memory was refused and it is undone
pub gone_past : (naming : Naming) (move : Move) (old between here new : Debugging) (m : ℕ) (w : Report) (p : ℕ) (told result : Result (Unit {0}) Refusal) (out : List ℕ) → m ≡ old.shown.position → w ≡ report_of move m
    → HasMoved old between p → GoesTo move old.start (session_state old) p → here ≡ between → MatchResult told (λ _. TellsPast naming between.start m w (session_state between) out) (λ why. why ≡ M)
    → result ≡ told → MatchResult told (λ _. new ≡ here) (λ _. GoesBack here new) → GonePast naming move old new result out
gone_past naming move old between here new m w p (Ok done) result out is report_is moved there looked told is_told same =
    let start : between.start ≡ old.start = start_of old between p moved in
    let past : MovesPast naming old.start (report_of move old.shown.position) (GoesTo move old.start (session_state old)) (session_state old) (session_state between) out = record {
      at = subst (GoesTo move old.start (session_state old)) (sym moved.at) there;
      on_run = subst (λ (s : State). Passes s between.shown) start moved.on_run;
      breaks = breaks_of old between p moved;
      reported =
          subst (λ n. TellsPast naming old.start n (report_of move n) (session_state between) out) is
          (subst (λ (v : Report). TellsPast naming old.start m v (session_state between) out) report_is (subst (λ (s : State). TellsPast naming s m w (session_state between) out) start told));
    } in
    subst (λ (r : Result (Unit {0}) Refusal). GonePast naming move old new r out) (sym is_told)
    (subst (λ (d : Debugging). GonePast naming move old d (Ok done) out) (sym (same ∙ looked)) (record { start = start; obeyed = past; left = moved.after }))
gone_past naming move old between here new m w p (Err why) result out is report_is moved there looked told is_told back =
    let gone : GoesBack between new = subst (λ (d : Debugging). GoesBack d new) looked back in
    subst (λ (r : Result (Unit {0}) Refusal). GonePast naming move old new r out) (sym is_told)
    (record { start = start_again old between new moved.after gone; obeyed = (state_again old between new moved.after gone, subst (λ (v : Refusal). TypedIsRefused v (Go move) (session_state old)) (sym told) tt); left = tt })

-- `where`: behind the place, where no breakpoint is told, the next event and how far the run is known to go
pub where_reported : (naming : Naming) (start : State) (at : SessionState) (known : Extent) (out made all : List ℕ) → AddsPlace naming start at.shown.position at out made → all ≡ made ++ (next_text start at.shown ++ known_line known) → all ≡ out ++ where_text start at.shown known
where_reported naming start at known out made all place more =
    let behind = next_text start at.shown ++ known_line known in
    let none = place.2.before (omega arith) in
    let here = where_line start at.shown in
    more ∙ ap (λ l. l ++ behind) (place.3 ∙ (λ i. out ++ (none.0 i ++ (here ++ none.1 i))) ∙ ap (λ l. out ++ l) (append-nil here)) ∙ append_assoc out here behind

-- the next event, and where there is none
pub next_none : (start : State) (at : Reached) → is_none (due at.state) ≡ true → next_text start at ≡ codes "next: none\n"
next_none start at none = ap (λ b. if b then codes "next: none\n" else codes "next: " ++ concat (texts_between start at.position (at.position + 1))) none

pub next_due : (start : State) (at : Reached) → is_none (due at.state) ≡ false → next_text start at ≡ codes "next: " ++ concat (texts_between start at.position (at.position + 1))
next_due start at some = ap (λ b. if b then codes "next: none\n" else codes "next: " ++ concat (texts_between start at.position (at.position + 1))) some

pub is_due_where : (at : Reached) → is_none (due at.state) ≡ false → due at.state ≢ None
is_due_where at some none = true≢false (sym (ap is_none none) ∙ some)

-- where an event is due, the run has one position more
pub has_next : (start : State) (at : Reached) → Passes start at → due at.state ≢ None → HasPosition start (at.position + 1)
has_next start at here more = go (step at.state) refl
  where
    go : (o : Option (TraceLine × State)) → step at.state ≡ o → HasPosition start (at.position + 1)
    go None none = absurd (more (none_due at.state none))
    go (Some next) is = (next.1, passes_next start at (record { state = next.1; position = at.position + 1 }) next.0 here (is, refl))

-- `goto`: back to a position, or on to it
pub went_back : (start : State) (at : Reached) (m target : ℕ) → Passes start at → target < m → at.position ≡ m - (m - target) → StepGoesTo start 0 target at.position
went_back start at m target here under is = step_done start at 0 target here (omega (arith, under, is))

pub went_on : (start : State) (m target p : ℕ) → m ≤ target → StepGoesTo start m (target - m) p → StepGoesTo start 0 target p
went_on start m target p from goes = record {
  holds = ⊎_elim (λ (e : p ≡ m + (target - m)). inl (omega (arith, e, from))) (λ (ends : EndsAt start p). inr ends) goes.holds;
  least = λ q. ⊎_elim (λ (e : q ≡ 0 + target). goes.least q (inl (omega (arith, e, from)))) (λ (ends : EndsAt start q). goes.least q (inr ends));
}
