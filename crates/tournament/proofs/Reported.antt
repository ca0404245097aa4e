-- What the words of a tree, and the late times apart, tell of the places.
use Rattle.std.proofs.Common.{◌≡◌, ◌≢◌, ℕ, ◌+◌, ◌*◌, ◌/◌, ◌<◌, ◌≤◌, List, Option, Some, None, length, set, replicate, refl, sym, ap, subst, ◌∙◌, ⊎_elim, arith}
use Rattle.std.proofs.lemmas.Bool.{cases_lt, cases_eq, lt-ltb, le-ltb}
use Rattle.std.proofs.lemmas.List.{length-set, get_or-set_same, get_or-set_other, get_or-replicate, length-replicate, ext_get_or}
use Rattle.std.proofs.lemmas.List.FromFn.{length-map-range_with_len, get_or-map-range_with_len}
use Rattle.std.specs.Prelude.{slice_index}
use Rattle.tournament.specs.Timed.{time_at}
use Rattle.tournament.specs.Words.{late_time, no_time, word_of, time_by, reported_at, time_reported, times_reported, AllLesser, AreSameLeaves, AreVacant, IsWordAt, IsTimetable}
use Rattle.tournament.proofs.Maps.{not_some, same_some}

pub early : (reported apart : ℕ) → reported < late_time → time_by reported apart ≡ Some reported
early reported apart before = search (arith, lt-ltb reported late_time before)

pub late : (reported apart : ℕ) → reported ≡ late_time → time_by reported apart ≡ Some apart
late reported apart is = subst (λ n. time_by n apart ≡ Some apart) (sym is) refl

pub none : (reported apart : ℕ) → late_time < reported → time_by reported apart ≡ None
none reported apart after = search (arith, le-ltb reported late_time (omega (arith, after)), lt-ltb late_time reported after)

-- no time is before what its word tells
pub upto : (reported apart time : ℕ) → (reported ≡ late_time → late_time ≤ apart) → time_by reported apart ≡ Some time → reported ≤ time
upto reported apart time least is = ⊎_elim
    (λ (before : reported < late_time).
    let same = same_some reported time (sym (early reported apart before) ∙ is) in
    omega (arith, same))
    (λ (most : late_time ≤ reported). ⊎_elim
    (λ (here : reported ≡ late_time).
    let same = same_some apart time (sym (late reported apart here) ∙ is) in
    omega (arith, same, here, least here))
    (λ (other : reported ≢ late_time). absurd (not_some (sym (none reported apart (omega (arith, most, other))) ∙ is)))
    (cases_eq reported late_time))
    (cases_lt reported late_time)

places : (late tree : List ℕ) → length (times_reported late tree) ≡ length late
places late tree = length-map-range_with_len (time_reported late tree) 0 (length late)

pub time-at : (late tree : List ℕ) (p : ℕ) → p < length late → time_at (times_reported late tree) p ≡ time_reported late tree p
time-at late tree p under = get_or-map-range_with_len (time_reported late tree) 0 (length late) p p None under (omega arith)

pub places_of : (late tree : List ℕ) (times : List (Option ℕ)) → times_reported late tree ≡ times → length late ≡ length times
places_of late tree times is = sym (places late tree) ∙ ap length is

-- places with no time
pub vacant : (late tree : List ℕ) (n : ℕ) → length late ≡ n → AreVacant n tree → times_reported late tree ≡ replicate {A = Option ℕ} n None
vacant late tree n many words = ext_get_or None (times_reported late tree) (replicate n None) (places late tree ∙ many ∙ sym (length-replicate n None))
    (λ p under.
    let before : p < n = omega (arith, under, places late tree, many) in
    let word : slice_index tree (length late + p) ≡ word_of no_time p = ap (λ m. slice_index tree (m + p)) many ∙ words p before in
    time-at late tree p (omega (arith, before, many)) ∙ none (reported_at tree (length late + p)) (slice_index late p) (omega (arith, word)) ∙ sym (get_or-replicate n p None None before))

-- a timetable, of as many words, in which one place's time is another
pub record IsAnew (late tree after : List ℕ) (times : List (Option ℕ)) (place : ℕ) (time : Option ℕ) : Type 0 where
  pub long : length after ≡ length tree
  pub kept : IsTimetable late after
  pub all : times_reported late after ≡ set times place time

-- a place's word has changed, and of the late times at most that of the place
module _ (late next tree held after : List ℕ) (times : List (Option ℕ)) (count place reported : ℕ) (t : IsTimetable late tree) (view : times_reported late tree ≡ times) (within : place < length times) (many : length next ≡ length late)
    (others : (p : ℕ) → p ≢ place → slice_index next p ≡ slice_index late p) (apart : reported ≡ late_time → late_time ≤ slice_index next place)
    (counted : count ≡ length late) (is : held ≡ tree) (changed : AreSameLeaves (set held (count + place) (word_of reported place)) after) (lesser : AllLesser after) where
  inside : place < length late
  inside = omega (arith, within, places_of late tree times view)

  leaves : AreSameLeaves (set tree (length late + place) (word_of reported place)) after
  leaves = subst (λ n. AreSameLeaves (set tree (n + place) (word_of reported place)) after) counted (subst (λ ws. AreSameLeaves (set ws (count + place) (word_of reported place)) after) is changed)

  size : length tree ≡ 2 * length late
  size = t.size (omega (arith, inside))

  same : length (set tree (length late + place) (word_of reported place)) ≡ length tree
  same = length-set tree (length late + place) (word_of reported place)

  as_long : length after ≡ length tree
  as_long = leaves.size ∙ same

  here : slice_index after (length next + place) ≡ word_of reported place
  here = ap (λ n. slice_index after (n + place)) many ∙ leaves.each (length late + place) (omega (arith, same, size)) ∙ get_or-set_same tree (length late + place) (word_of reported place) 0 (omega (arith, inside, size))

  there : (p : ℕ) → p ≢ place → slice_index after (length next + p) ≡ slice_index tree (length late + p)
  there p other = ap (λ n. slice_index after (n + p)) many ∙ leaves.each (length late + p) (omega (arith, same, size)) ∙ get_or-set_other tree (length late + place) (length late + p) (word_of reported place) 0 (λ e. other (omega (arith, e)))

  reported_here : reported_at after (length next + place) ≡ reported
  reported_here = omega (arith, here, inside, t.few)

  reported_there : (p : ℕ) → p ≢ place → reported_at after (length next + p) ≡ reported_at tree (length late + p)
  reported_there p other = ap (λ w. w / 4096) (there p other)

  kept : IsTimetable next after
  kept = record {
    rooted = omega (arith, as_long, t.rooted);
    size = λ _. omega (arith, as_long, size, many);
    none = λ empty. absurd (omega (arith, empty, many, inside));
    few = omega (arith, many, t.few);
    words = λ p under. ⊎_elim
        (λ (mine : p ≡ place). subst (λ q. IsWordAt next after q) (sym mine) (record {
          numbered = omega (arith, here, reported_here);
          is_late = λ is. apart (omega (arith, is, reported_here));
        }))
        (λ (other : p ≢ place).
        let old = t.words p (omega (arith, under, many)) in
        record {
          numbered = omega (arith, there p other, reported_there p other, old.numbered);
          is_late = λ is. omega (arith, others p other, old.is_late (omega (arith, is, reported_there p other)));
        })
        (cases_eq p place);
    lesser = lesser;
  }

  set_anew : times_reported next after ≡ set (times_reported late tree) place (time_by reported (slice_index next place))
  set_anew = ext_get_or None (times_reported next after) (set (times_reported late tree) place new)
      (places next after ∙ many ∙ sym (places late tree) ∙ sym (length-set (times_reported late tree) place new))
      (λ p under.
      let before : p < length next = omega (arith, under, places next after) in
      time-at next after p before ∙ ⊎_elim
      (λ (mine : p ≡ place).
      ap (time_reported next after) mine ∙ ap (λ n. time_by n (slice_index next place)) reported_here
      ∙ sym (get_or-set_same (times_reported late tree) place new None (omega (arith, inside, places late tree))) ∙ ap (time_at (set (times_reported late tree) place new)) (sym mine))
      (λ (other : p ≢ place).
      ap (λ n. time_by n (slice_index next p)) (reported_there p other) ∙ ap (time_by (reported_at tree (length late + p))) (others p other)
      ∙ sym (time-at late tree p (omega (arith, before, many))) ∙ sym (get_or-set_other (times_reported late tree) place p new None other))
      (cases_eq p place))
    where
      new : Option ℕ
      new = time_by reported (slice_index next place)

  pub anew : (time : Option ℕ) → time_by reported (slice_index next place) ≡ time → IsAnew next tree after times place time
  anew time now = record {
    long = as_long;
    kept = kept;
    all = set_anew ∙ ap (set (times_reported late tree) place) now ∙ ap (λ old. set old place time) view;
  }
