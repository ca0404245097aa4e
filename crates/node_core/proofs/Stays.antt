-- Maps with the same next keys have, gathered, the same next key.
use Rattle.std.proofs.Common.{◌≡◌, ℕ, List, map, refl, sym, ap, ◌∙◌, Some, None, Option, false}
use Rattle.std.specs.FinMap as fin
use Rattle.std.specs.Option.{option_map}
use Rattle.std.specs.Ordering.{is_gt}
use Rattle.std.proofs.lemmas.Cmp.{upto}
use Rattle.sim_time.specs.declared.key.Key.{Key}
use Rattle.sim_time.specs.Keys.{key_cmp}
use Rattle.sim_time.proofs.Order.{keys_total}
use Rattle.tournament.specs.Leading.{rank_at}
use Rattle.tournament.specs.Keyed.{Keyed, least, next_key}
use Rattle.tournament.specs.Gathered.{gathered, map_at, AtHome}
use Rattle.tournament.proofs.Maps.{not_some, none_or, least_is, is_least, least_none, none_least, next_some}
use Rattle.tournament.proofs.Gathered.{rank-next, get-gathered, gathered_has, none_gathered}

module _ {E : Type 0} (home : Key → ℕ) (ms : List (Keyed E)) (at : AtHome home ms) where
  -- the least of all is the next key of its map
  next_there : (k : Key) (v : E) → least (gathered ms) ≡ Some (k, v) → next_key (map_at ms (home k)) ≡ Some k
  next_there k v is =
      let first = least_is (gathered ms) k v is in
      ap (option_map (λ (entry : Key × E). entry.0)) (is_least (map_at ms (home k)) k v (record {
        pending = sym (get-gathered home ms at k) ∙ first.pending;
        none_less = λ q w there. first.none_less q w (gathered_has home ms at (home k) q w there);
      }))

  -- and no next key is less
  none_lesser : (k : Key) (v : E) → least (gathered ms) ≡ Some (k, v) → (i : ℕ) (q : Key) → next_key (map_at ms i) ≡ Some q → is_gt (key_cmp k q) ≡ false
  none_lesser k v is i q next =
      let found = next_some (least (map_at ms i)) q next in
      (least_is (gathered ms) k v is).none_less q found.0 (gathered_has home ms at i q found.0 (least_is (map_at ms i) q found.0 found.1).pending)

  -- where nothing is least, no map has a next key
  none_next : least (gathered ms) ≡ None → (i : ℕ) → next_key (map_at ms i) ≡ None
  none_next none i =
      ap (option_map (λ (entry : Key × E). entry.0))
      (least_none (map_at ms i) (λ q. none_or (fin.get (map_at ms i) q) (λ v there. not_some (sym (none_least (gathered ms) none q) ∙ gathered_has home ms at i q v there))))

  -- a map that has a key has a next one, which is not greater
  next_upto : (i : ℕ) (q : Key) (w : E) → fin.get (map_at ms i) q ≡ Some w → (k : Key) × (next_key (map_at ms i) ≡ Some k) × (is_gt (key_cmp k q) ≡ false)
  next_upto i q w there = elim (least (map_at ms i)) as (λ o. least (map_at ms i) ≡ o → (k : Key) × (option_map (λ (entry : Key × E). entry.0) o ≡ Some k) × (is_gt (key_cmp k q) ≡ false)) [
    | None ↦ λ none. absurd (not_some (sym (none_least (map_at ms i) none q) ∙ there))
    | Some f ↦ λ is. (f.0, refl, (least_is (map_at ms i) f.0 f.1 is).none_less q w there)
  ] refl

  -- a next key than which none is less is that of all
  next_of_all : (i : ℕ) (k : Key) → next_key (map_at ms i) ≡ Some k → ((j : ℕ) (q : Key) → next_key (map_at ms j) ≡ Some q → is_gt (key_cmp k q) ≡ false) → next_key (gathered ms) ≡ Some k
  next_of_all i k next none =
      let found = next_some (least (map_at ms i)) k next in
      ap (option_map (λ (entry : Key × E). entry.0)) (is_least (gathered ms) k found.0 (record {
        pending = gathered_has home ms at i k found.0 (least_is (map_at ms i) k found.0 found.1).pending;
        none_less = λ q w there.
            let head = next_upto (home q) q w (sym (get-gathered home ms at q) ∙ there) in
            upto keys_total k head.0 q (none (home q) head.0 head.1) head.2;
      }))

pub same_next : {E : Type 0} (home home' : Key → ℕ) (ms ns : List (Keyed E)) → AtHome home ms → AtHome home' ns → map next_key ms ≡ map next_key ns → next_key (gathered ns) ≡ next_key (gathered ms)
same_next {E} home home' ms ns at at' same = elim (least (gathered ms)) as (λ o. least (gathered ms) ≡ o → next_key (gathered ns) ≡ option_map (λ (entry : Key × E). entry.0) o) [
  | None ↦ λ none. ap (option_map (λ (entry : Key × E). entry.0)) (none_gathered home' ns at' (λ i. rank-next ns i ∙ sym (same_there i) ∙ none_next home ms at none i))
  | Some f ↦ λ is. next_of_all home' ns at' (home f.0) f.0 (sym (same_there (home f.0)) ∙ next_there home ms at f.0 f.1 is) (λ i q next. none_lesser home ms at f.0 f.1 is i q (same_there i ∙ next))
] refl
  where
    same_there : (i : ℕ) → next_key (map_at ms i) ≡ next_key (map_at ns i)
    same_there i = sym (rank-next ms i) ∙ ap (λ (r : List (Option Key)). rank_at r i) same ∙ rank-next ns i
