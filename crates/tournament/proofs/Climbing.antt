-- A word goes up the tree, node by node.
use Rattle.std.proofs.Common.{◌≡◌, ◌≢◌, ℕ, ◌+◌, ◌*◌, ◌/◌, ◌<◌, ◌≤◌, List, length, set, sym, ap, subst, ◌∙◌, ⊎_elim, arith, min}
use Rattle.std.proofs.lemmas.Bool.{cases_eq}
use Rattle.std.proofs.lemmas.List.{length-set, get_or-set_same, get_or-set_other}
use Rattle.std.specs.Prelude.{slice_index}
use Rattle.tournament.specs.Words.{IsLesser, AllLesser, LesserBut, AreSameLeaves, IsClimbing}
use Rattle.tournament.proofs.Replays.{halves_least, to_half}

-- a node's word was chosen: only those above it may still be wrong
pub chosen : (tree : List ℕ) (at word : ℕ) → 0 < at → 2 * at + 1 < length tree → word ≡ min (slice_index tree (2 * at)) (slice_index tree (2 * at + 1)) → LesserBut tree at → LesserBut (set tree at word) (at / 2)
chosen tree at word some inner is but j positive inside off =
    let new = set tree at word in
    let same : length new ≡ length tree = length-set tree at word in
    let below : (i : ℕ) → i ≢ at → slice_index new i ≡ slice_index tree i = λ i apart. get_or-set_other tree at i word 0 apart in
    let left : slice_index new (2 * j) ≡ slice_index tree (2 * j) = below (2 * j) (λ e. off (0, omega (arith, e))) in
    let right : slice_index new (2 * j + 1) ≡ slice_index tree (2 * j + 1) = below (2 * j + 1) (λ e. off (0, omega (arith, e))) in
    ⊎_elim
    (λ (here : j ≡ at).
    let l : slice_index tree (2 * at) ≡ slice_index tree (2 * j) = ap (λ i. slice_index tree (2 * i)) (sym here) in
    let r : slice_index tree (2 * at + 1) ≡ slice_index tree (2 * j + 1) = ap (λ i. slice_index tree (2 * i + 1)) (sym here) in
    let w : slice_index new j ≡ word = ap (slice_index new) here ∙ get_or-set_same tree at word 0 (omega (arith, inner)) in
    omega (arith, w, is, l, r, left, right))
    (λ (apart : j ≢ at).
    let w : slice_index new j ≡ slice_index tree j = below j apart in
    let old : IsLesser tree j = but j positive (omega (arith, inside, same)) (λ way. off (to_half at j apart way)) in
    omega (arith, w, old, left, right))
    (cases_eq j at)

-- the node above one, against the node beside it
pub climbed : (tree : List ℕ) (at word beside least : ℕ) → IsClimbing tree at word → 1 < at → beside ≢ at → beside / 2 ≡ at / 2
    → least ≡ min word (slice_index tree beside) → IsClimbing (set tree (at / 2) least) (at / 2) least
climbed tree at word beside least kept inner apart below is =
    let half = at / 2 in
    let same : length (set tree half least) ≡ length tree = length-set tree half least in
    let some : 0 < half = omega (arith, inner) in
    let inside : 2 * half + 1 < length tree = omega (arith, kept.inside, kept.paired) in
    record {
      paired = omega (arith, same, kept.paired);
      some = some;
      inside = omega (arith, same, inside);
      here = get_or-set_same tree half least 0 (omega (arith, inside));
      lesser = chosen tree half least some inside pair kept.lesser;
    }
  where
    pair : least ≡ min (slice_index tree (2 * (at / 2))) (slice_index tree (2 * (at / 2) + 1))
    pair = ⊎_elim
        (λ (even : at ≡ 2 * (at / 2)).
        let mine : slice_index tree (2 * (at / 2)) ≡ word = ap (slice_index tree) (sym even) ∙ kept.here in
        let other : slice_index tree (2 * (at / 2) + 1) ≡ slice_index tree beside = ap (slice_index tree) (omega (arith, even, apart, below)) in
        omega (arith, is, mine, other))
        (λ (odd : at ≢ 2 * (at / 2)).
        let mine : slice_index tree (2 * (at / 2) + 1) ≡ word = ap (slice_index tree) (omega (arith, odd)) ∙ kept.here in
        let other : slice_index tree (2 * (at / 2)) ≡ slice_index tree beside = ap (slice_index tree) (omega (arith, odd, apart, below)) in
        omega (arith, is, mine, other))
        (cases_eq at (2 * (at / 2)))

-- a word that has come to the root
pub at_root : (tree : List ℕ) (at word : ℕ) → at < 2 → IsClimbing tree at word → AllLesser tree
at_root tree at word root kept j some inner = kept.lesser j some inner (λ way. omega (arith, some, halves_least way.0 (at / 2), way.1, root))

-- a place's word has changed: only nodes above it may be wrong
pub begun : (tree : List ℕ) (places place word : ℕ) → length tree ≡ 2 * places → place < places → AllLesser tree → IsClimbing (set tree (places + place) word) (places + place) word
begun tree places place word size within old =
    let leaf = places + place in
    let new = set tree leaf word in
    let same : length new ≡ length tree = length-set tree leaf word in
    let inside : leaf < length tree = omega (arith, size, within) in
    record {
      paired = omega (arith, same, size);
      some = omega (arith, within);
      inside = omega (arith, same, inside);
      here = get_or-set_same tree leaf word 0 inside;
      lesser = λ j some inner off.
          let left : slice_index new (2 * j) ≡ slice_index tree (2 * j) = get_or-set_other tree leaf (2 * j) word 0 (λ e. off (0, omega (arith, e))) in
          let right : slice_index new (2 * j + 1) ≡ slice_index tree (2 * j + 1) = get_or-set_other tree leaf (2 * j + 1) word 0 (λ e. off (0, omega (arith, e))) in
          let here : slice_index new j ≡ slice_index tree j = get_or-set_other tree leaf j word 0 (λ e. absurd (omega (arith, e, inner, same, size))) in
          let chosen : IsLesser tree j = old j some (omega (arith, inner, same)) in
          omega (arith, left, right, here, chosen);
    }

-- leaves that stay, and stay again
pub leaves_on : (a b c : List ℕ) → AreSameLeaves a b → AreSameLeaves b c → AreSameLeaves a c
leaves_on a b c first then = record {
  size = then.size ∙ first.size;
  each = λ p outer. then.each p (omega (arith, outer, first.size)) ∙ first.each p outer;
}

-- the root's word is chosen
pub rooted : (tree : List ℕ) (at word beside least : ℕ) → IsClimbing tree at word → 2 ≤ at → at < 4 → beside ≢ at → beside / 2 ≡ at / 2 → least ≡ min word (slice_index tree beside) → AllLesser (set tree 1 least)
rooted tree at word beside least kept inner near apart below is =
    let half : at / 2 ≡ 1 = omega (arith, inner, near) in
    subst (λ node. AllLesser (set tree node least)) half
    (at_root (set tree (at / 2) least) (at / 2) least (omega (arith, half)) (climbed tree at word beside least kept (omega (arith, inner)) apart below is))
