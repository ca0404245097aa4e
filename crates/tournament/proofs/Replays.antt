-- The matches above a place, once its entry has changed.
use Rattle.std.proofs.Common.{◌≡◌, ◌≢◌, ℕ, zero, suc, ◌+◌, ◌-◌, ◌*◌, ◌/◌, ◌<◌, ◌≤◌, List, length, set, refl, sym, ap, subst, ◌∙◌, ⊎_elim, arith, cond}
use Rattle.std.proofs.lemmas.Bool.{cases_lt, cases_eq}
use Rattle.std.proofs.lemmas.List.{get_or-set_same, get_or-set_other, length-set, map-set}
use Rattle.std.specs.Ordering.{is_lt}
use Rattle.std.specs.Prelude.{slice_index}
use Rattle.tournament.specs.declared.entry.Entry.{Entry}
use Rattle.tournament.specs.Tournament.{entry_of_place, entry_cmp, first_place, won_below, IsWon, AllWon, AreOwn, AreWithin, AreDated, moment_of, moment_at, no_entry, IsTournament, rank_of, ranks_of}
use Rattle.tournament.specs.Replayed.{halves, IsOnPathUp, WonBut}
use Rattle.tournament.proofs.Winners.{one_place}

halves_first : (k x : ℕ) → halves k (x / 2) ≡ halves (suc k) x
halves_first zero x = refl
halves_first (suc k) x = ap (λ n. n / 2) (halves_first k x)

pub halves_least : (k x : ℕ) → halves k x ≤ x
halves_least zero x = omega arith
halves_least (suc k) x = omega (arith, halves_least k x)

-- what is on a node's way and not the node is on the way of its half
pub to_half : (x j : ℕ) → j ≢ x → IsOnPathUp x j → IsOnPathUp (x / 2) j
to_half x j apart (zero, e) = absurd (apart (sym e))
to_half x j apart (suc k, e) = (k, halves_first k x ∙ e)

module _ (leaves : List Entry) (winners : List ℕ) (place : ℕ) (size : length winners ≡ 2 * length leaves) (own : AreOwn (length leaves) winners) (won : AllWon leaves winners) where
  abbrev leaf : ℕ
  leaf = length leaves + place

  -- a node that has the place stands on its way
  on_way : (most j : ℕ) → length winners ≤ j + most → 0 < j → j < length winners → slice_index winners j ≡ place → IsOnPathUp leaf j
  on_way zero j few some within e = absurd (omega (arith, few, within))
  on_way (suc most) j few some within e =
      ⊎_elim
      (λ (inner : 2 * j < length winners).
      ⊎_elim
      (λ (left : won_below leaves winners j ≡ slice_index winners (2 * j)).
      let below = on_way most (2 * j) (omega (arith, few, some)) (omega (arith, some)) inner (sym (won j some inner ∙ left) ∙ e) in
      halved below (omega arith))
      (λ (right : won_below leaves winners j ≡ slice_index winners (2 * j + 1)).
      let below = on_way most (2 * j + 1) (omega (arith, few, some)) (omega arith) (omega (arith, inner, size)) (sym (won j some inner ∙ right) ∙ e) in
      halved below (omega arith))
      (one_place leaves (slice_index winners (2 * j)) (slice_index winners (2 * j + 1))))
      (λ (outer : length winners ≤ 2 * j).
      let q = j - length leaves in
      let at : slice_index winners (length leaves + q) ≡ q = own q (omega (arith, within, size, outer)) in
      let same : length leaves + q ≡ j = omega (arith, outer, size) in
      (0, omega (arith, ap (slice_index winners) (sym same), at, e, same)))
      (cases_lt (2 * j) (length winners))
    where
      halved : {i : ℕ} → IsOnPathUp leaf i → i / 2 ≡ j → IsOnPathUp leaf j
      halved below half = (suc below.0, ap (λ n. n / 2) below.1 ∙ half)

  -- once the place's entry has changed, only nodes above it may be wrong
  pub changed : (s : Entry) (at : ℕ) → at ≡ leaf / 2 → WonBut (set leaves place s) winners at
  changed s at is j some inner off =
      let left : slice_index winners (2 * j) ≢ place = λ e. off (above (2 * j) inner (omega (arith, some)) e (omega arith)) in
      let right : slice_index winners (2 * j + 1) ≢ place = λ e. off (above (2 * j + 1) (omega (arith, inner, size)) (omega arith) e (omega arith)) in
      let a = slice_index winners (2 * j) in
      let b = slice_index winners (2 * j + 1) in
      let at_a : entry_of_place (set leaves place s) a ≡ entry_of_place leaves a = get_or-set_other leaves place a s no_entry left in
      let at_b : entry_of_place (set leaves place s) b ≡ entry_of_place leaves b = get_or-set_other leaves place b s no_entry right in
      won j some inner ∙ ap (λ x. cond (is_lt (entry_cmp (entry_of_place leaves b) x)) b a) (sym at_a) ∙ ap (λ x. cond (is_lt (entry_cmp x (entry_of_place (set leaves place s) a))) b a) (sym at_b)
    where
      above : (i : ℕ) → i < length winners → 0 < i → slice_index winners i ≡ place → i / 2 ≡ j → IsOnPathUp at j
      above i within positive e half =
          let below = on_way (length winners) i (omega arith) positive within e in
          (below.0, ap (halves below.0) is ∙ halves_first below.0 leaf ∙ ap (λ n. n / 2) below.1 ∙ half)

-- a node's match is played: only those above it may still be wrong
pub played : (leaves : List Entry) (winners : List ℕ) (at : ℕ) → 0 < at → at < length winners → WonBut leaves winners at → WonBut leaves (set winners at (won_below leaves winners at)) (at / 2)
played leaves winners at some within won j positive inner off =
    let first = won_below leaves winners at in
    let new = set winners at first in
    let same : length new ≡ length winners = length-set winners at first in
    let below : (i : ℕ) → i ≢ at → slice_index new i ≡ slice_index winners i = λ i apart. get_or-set_other winners at i first 0 apart in
    let left : slice_index new (2 * j) ≡ slice_index winners (2 * j) = below (2 * j) (λ e. off (0, omega (arith, e))) in
    let right : slice_index new (2 * j + 1) ≡ slice_index winners (2 * j + 1) = below (2 * j + 1) (λ e. off (0, omega (arith, e))) in
    let both : won_below leaves winners j ≡ won_below leaves new j = ap (λ p. first_place leaves p (slice_index winners (2 * j + 1))) (sym left) ∙ ap (first_place leaves (slice_index new (2 * j))) (sym right) in
    ⊎_elim
    (λ (here : j ≡ at). ap (slice_index new) here ∙ get_or-set_same winners at first 0 within ∙ ap (won_below leaves winners) (sym here) ∙ both)
    (λ (apart : j ≢ at). below j apart ∙ won j positive (omega (arith, inner, same)) (λ way. off (to_half at j apart way)) ∙ both)
    (cases_eq j at)

-- nothing is above the root
pub all_played : (leaves : List Entry) (winners : List ℕ) (at : ℕ) → at ≡ 0 → WonBut leaves winners at → AllWon leaves winners
all_played leaves winners at root won j some inner = won j some inner (λ way. omega (arith, some, halves_least way.0 at, way.1, root))

-- another place of the tree at one node
pub within_still : (places at first : ℕ) (winners : List ℕ) → first < places → AreWithin places winners → AreWithin places (set winners at first)
within_still places at first winners under within j inside =
    let before : j < length winners = omega (arith, inside, length-set winners at first) in
    ⊎_elim
    (λ (here : j ≡ at). subst (λ n. n < places) (sym (ap (slice_index (set winners at first)) here ∙ get_or-set_same winners at first 0 (omega (arith, before, here)))) under)
    (λ (apart : j ≢ at). subst (λ n. n < places) (sym (get_or-set_other winners at j first 0 apart)) (within j before))
    (cases_eq j at)

-- what holds of the other places and of the one that has changed holds of all
at_each : (P : ℕ → Entry → Type 0) (leaves : List Entry) (place : ℕ) (s : Entry) → P place s → ((p : ℕ) → p < length leaves → P p (entry_of_place leaves p)) → (p : ℕ) → p < length (set leaves place s) → P p (entry_of_place (set leaves place s) p)
at_each P leaves place s one rest p under =
    let within : p < length leaves = omega (arith, under, length-set leaves place s) in
    ⊎_elim
    (λ (is : p ≡ place). subst (λ q. P q (entry_of_place (set leaves place s) q)) (sym is) (subst (P place) (sym (get_or-set_same leaves place s no_entry (omega (arith, within, is)))) one))
    (λ (apart : p ≢ place). subst (P p) (sym (get_or-set_other leaves place p s no_entry apart)) (rest p within))
    (cases_eq p place)

pub dated_anew : (leaves : List Entry) (moments : List ℕ) (place : ℕ) (s : Entry) (moment : ℕ) → AreDated leaves moments → moment ≡ moment_of s.key.time s.key.node s.place s.held → AreDated (set leaves place s) (set moments place moment)
dated_anew leaves moments place s moment dated is = record {
  size = length-set moments place moment ∙ dated.size ∙ sym (length-set leaves place s);
  each = λ p under.
      let within : p < length leaves = omega (arith, under, length-set leaves place s) in
      ⊎_elim
      (λ (here : p ≡ place).
      ap (slice_index (set moments place moment)) here ∙ get_or-set_same moments place moment 0 (omega (arith, within, here, dated.size)) ∙ is
      ∙ ap (λ (x : Entry). moment_of x.key.time x.key.node x.place x.held) (sym (get_or-set_same leaves place s no_entry (omega (arith, within, here))))
      ∙ ap (moment_at (set leaves place s)) (sym here))
      (λ (apart : p ≢ place).
      get_or-set_other moments place p moment 0 apart ∙ dated.each p within ∙ ap (λ (x : Entry). moment_of x.key.time x.key.node x.place x.held) (sym (get_or-set_other leaves place p s no_entry apart)))
      (cases_eq p place);
}

-- the tree, once the matches above are played
pub tournament_anew : (leaves : List Entry) (moments winners : List ℕ) (place : ℕ) (s : Entry) (moment : ℕ) (after : List ℕ) → IsTournament leaves moments winners → s.place ≡ place → moment ≡ moment_of s.key.time s.key.node s.place s.held → length after ≡ length winners
    → AreWithin (length (set leaves place s)) after → AreOwn (length (set leaves place s)) after → AllWon (set leaves place s) after → IsTournament (set leaves place s) (set moments place moment) after
tournament_anew leaves moments winners place s moment after t number dated same within own won = record {
  size = omega (arith, same, t.size, length-set leaves place s);
  few = omega (arith, t.few, length-set leaves place s);
  numbered = at_each (λ p (x : Entry). x.place ≡ p) leaves place s number t.numbered;
  dated = dated_anew leaves moments place s moment t.dated dated;
  own = own;
  within = within;
  won = won;
}

-- the keys, once a place's entry has changed
pub ranks_anew : (leaves : List Entry) (place : ℕ) (s : Entry) → ranks_of (set leaves place s) ≡ set (ranks_of leaves) place (rank_of s)
ranks_anew leaves place s = map-set rank_of leaves place s

-- a match that was just played
pub won_here : (leaves : List Entry) (winners : List ℕ) (at j first : ℕ) → 0 < at → 2 * at + 1 < length winners → j ≡ at → first ≡ won_below leaves winners at → IsWon leaves (set winners at first) j
won_here leaves winners at j first some inside here is =
    let new = set winners at first in
    let left : slice_index new (2 * j) ≡ slice_index winners (2 * at) = ap (λ i. slice_index new (2 * i)) here ∙ get_or-set_other winners at (2 * at) first 0 (λ e. absurd (omega (arith, e, some))) in
    let right : slice_index new (2 * j + 1) ≡ slice_index winners (2 * at + 1) = ap (λ i. slice_index new (2 * i + 1)) here ∙ get_or-set_other winners at (2 * at + 1) first 0 (λ e. absurd (omega (arith, e, some))) in
    ap (slice_index new) here ∙ get_or-set_same winners at first 0 (omega (arith, inside)) ∙ is ∙ ap (λ p. first_place leaves p (slice_index winners (2 * at + 1))) (sym left) ∙ ap (first_place leaves (slice_index new (2 * j))) (sym right)

-- a match behind it is as it was
pub won_still : (leaves : List Entry) (winners : List ℕ) (at j first : ℕ) → j ≢ at → at < j → 0 < at → IsWon leaves winners j → IsWon leaves (set winners at first) j
won_still leaves winners at j first apart behind some won =
    let new = set winners at first in
    let left : slice_index new (2 * j) ≡ slice_index winners (2 * j) = get_or-set_other winners at (2 * j) first 0 (λ e. absurd (omega (arith, e, behind))) in
    let right : slice_index new (2 * j + 1) ≡ slice_index winners (2 * j + 1) = get_or-set_other winners at (2 * j + 1) first 0 (λ e. absurd (omega (arith, e, behind))) in
    get_or-set_other winners at j first 0 apart ∙ won ∙ ap (λ p. first_place leaves p (slice_index winners (2 * j + 1))) (sym left) ∙ ap (first_place leaves (slice_index new (2 * j))) (sym right)
