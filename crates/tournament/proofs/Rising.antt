-- A place goes up the tree, match by match.
use Rattle.std.proofs.Common.{◌≡◌, ◌≢◌, ℕ, ◌+◌, ◌/◌, ◌<◌, ◌≤◌, List, length, set, sym, ap, subst, ◌∙◌, ⊎_elim, arith, min}
use Rattle.std.proofs.lemmas.Bool.{cases_lt}
use Rattle.std.proofs.lemmas.List.{length-set, get_or-set_same, get_or-set_other}
use Rattle.std.specs.Prelude.{slice_index}
use Rattle.tournament.specs.declared.entry.Entry.{Entry}
use Rattle.tournament.specs.Replayed.{WonBut, IsRisingMatch, IsReplayed}
use Rattle.tournament.specs.Tournament.{moment_at, won_below}
use Rattle.tournament.proofs.Moments.{first_beside}
use Rattle.tournament.proofs.Replays.{played, all_played, within_still}

-- the match above a node, against the node beside it, whose place has another moment
pub risen : (leaves : List Entry) (winners : List ℕ) (at first due beside other its won least : ℕ) → IsRisingMatch leaves winners at first due → 1 < at
    → beside ≢ at → beside / 2 ≡ at / 2 → other ≡ slice_index winners beside → its ≡ moment_at leaves other → its ≢ due
    → (its < due → won ≡ other) → (due ≤ its → won ≡ first) → least ≡ min due its → IsRisingMatch leaves (set winners (at / 2) won) (at / 2) won least
risen leaves winners at first due beside other its won least kept inner apart below theirs is differ less more lesser =
    let half = at / 2 in
    let same : length (set winners half won) ≡ length winners = length-set winners half won in
    let there : beside < length winners = omega (arith, below, kept.inside, kept.size) in
    let mine : due ≡ moment_at leaves (slice_index winners at) = kept.moment ∙ ap (moment_at leaves) (sym kept.here) in
    let his : its ≡ moment_at leaves (slice_index winners beside) = is ∙ ap (moment_at leaves) theirs in
    let chosen : (won ≡ won_below leaves winners half) × ((least ≡ moment_at leaves won) × (won < length leaves)) =
    ⊎_elim
    (λ (lower : its < due).
    let w = less lower in (
      w ∙ theirs ∙ first_beside leaves winners beside at apart below (omega (arith, mine, his, lower)) ∙ ap (won_below leaves winners) below,
      (omega (arith, lower, is, lesser) ∙ ap (moment_at leaves) (sym w), omega (arith, w, theirs, kept.within beside there)),
    ))
    (λ (upper : due ≤ its).
    let w = more upper in (
      w ∙ sym kept.here ∙ first_beside leaves winners at beside (λ e. apart (sym e)) (sym below) (omega (arith, mine, his, upper, differ)),
      (omega (arith, upper, kept.moment, lesser) ∙ ap (moment_at leaves) (sym w), omega (arith, w, kept.here, kept.within at kept.inside)),
    ))
    (cases_lt its due) in
    let some : 0 < half = omega (arith, inner) in
    let inside : half < length winners = omega (arith, kept.inside) in
    record {
      size = same ∙ kept.size;
      some = some;
      inside = omega (arith, same, inside);
      within = within_still (length leaves) half won winners chosen.1.1 kept.within;
      own = λ p under. get_or-set_other winners half (length leaves + p) won 0 (λ e. absurd (omega (arith, e, kept.inside, kept.size))) ∙ kept.own p under;
      won = subst (λ f. WonBut leaves (set winners half f) (half / 2)) (sym chosen.0) (played leaves winners half some inside kept.won);
      here = get_or-set_same winners half won 0 inside;
      moment = chosen.1.0;
    }

-- a place that has come to the root
pub risen_whole : (leaves : List Entry) (winners : List ℕ) (at first due : ℕ) → at < 2 → IsRisingMatch leaves winners at first due → IsReplayed leaves winners
risen_whole leaves winners at first due root kept = record {
  within = kept.within;
  own = kept.own;
  won = all_played leaves winners (at / 2) (omega (arith, root)) kept.won;
}
