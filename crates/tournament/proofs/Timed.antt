-- What the least of times says of keys that stand in their places.
use Rattle.std.proofs.Common.{◌≡◌, ◌≢◌, ℕ, ◌<◌, ◌≤◌, List, set, sym, ap, subst, ◌∙◌, Some, None, Option, ⊎_elim, arith, refl}
use Rattle.std.proofs.lemmas.Bool.{cases_lt}
use Rattle.std.proofs.lemmas.List.{map-set}
use Rattle.std.proofs.Math.ListN.{get_or-map}
use Rattle.std.proofs.lemmas.Cmp.{tied_itself}
use mathlib.Core.Bool.{false≢true}
use Rattle.std.specs.Ordering.{is_gt}
use Rattle.std.specs.declared.cmp.Ordering.{Ordering}
use Rattle.std.specs.declared.cmp.Ordering.TheVariants.{Less, Equal, Greater}
use Rattle.sim_time.specs.declared.key.Key.{Key}
use Rattle.sim_time.specs.Keys.{key_cmp}
use Rattle.sim_time.proofs.Order.{keys_total, earlier_less}
use Rattle.tournament.specs.Leading.{rank_at, Leads}
use Rattle.tournament.specs.Timed.{time_at, time_of, times_of, IsSoonest, AreInPlace}
use Rattle.tournament.proofs.Maps.{not_some, same_some}

-- the time at a place is that of its key
pub time-at : (ranks : List (Option Key)) (p : ℕ) → time_at (times_of ranks) p ≡ time_of (rank_at ranks p)
time-at ranks p = get_or-map time_of ranks p None

pub times_set : (ranks : List (Option Key)) (i : ℕ) (key : Option Key) → times_of (set ranks i key) ≡ set (times_of ranks) i (time_of key)
times_set ranks i key = map-set time_of ranks i key

-- a time is some key's
timed : (o : Option Key) (time : ℕ) → time_of o ≡ Some time → (key : Key) × ((o ≡ Some key) × (key.time ≡ time))
timed None time e = absurd (not_some e)
timed (Some key) time e = (key, (refl, same_some key.time time e))

untimed : (o : Option Key) → time_of o ≡ None → o ≡ None
untimed None e = refl
untimed (Some key) e = absurd (not_some (sym e))

pub none_led : (ranks : List (Option Key)) → ((place : ℕ) → time_at (times_of ranks) place ≡ None) → (place : ℕ) → rank_at ranks place ≡ None
none_led ranks none place = untimed (rank_at ranks place) (sym (time-at ranks place) ∙ none place)

-- keys in their places: the least time, at the lowest such place, is that of the least key
pub led : (ranks : List (Option Key)) → AreInPlace ranks → (place time : ℕ) → IsSoonest (times_of ranks) place time → (key : Key) × ((Leads ranks place key) × (key.time ≡ time))
led ranks ordered place time soonest = (key, (leads, found.1.1))
  where
    found : (key : Key) × ((rank_at ranks place ≡ Some key) × (key.time ≡ time))
    found = timed (rank_at ranks place) time (sym (time-at ranks place) ∙ soonest.held)

    key : Key
    key = found.0

    at_time : (other : ℕ) (k : Key) → rank_at ranks other ≡ Some k → time_at (times_of ranks) other ≡ Some k.time
    at_time other k there = time-at ranks other ∙ ap time_of there

    none_less : (other : ℕ) (k : Key) → rank_at ranks other ≡ Some k → key_cmp key k ≢ Greater
    none_less other k there = ⊎_elim
        (λ (later : time < k.time). less (key_cmp key k) (earlier_less key k (omega (arith, later, found.1.1))))
        (λ (most : k.time ≤ time).
        let same : key.time ≡ k.time = omega (arith, most, found.1.1, soonest.none_sooner other k.time (at_time other k there)) in
        ⊎_elim
        (λ (higher : place < other). ordered place other key k higher found.1.0 there same)
        (λ (upto : other ≤ place). ⊎_elim
        (λ (lower : other < place). absurd (soonest.none_lower other lower (at_time other k there ∙ ap (λ t. Some t) (sym same ∙ found.1.1))))
        (λ (least : place ≤ other).
        let here : other ≡ place = omega (arith, upto, least) in
        let itself : key ≡ k = same_some key k (sym found.1.0 ∙ ap (rank_at ranks) (sym here) ∙ there) in
        subst (λ q. key_cmp key q ≢ Greater) itself (tie (key_cmp key key) (tied_itself keys_total key)))
        (cases_lt other place))
        (cases_lt place other))
        (cases_lt time k.time)
      where
        less : (r : Ordering) → r ≡ Less → r ≢ Greater
        less r e g = absurd (apart (sym e ∙ g))
          where
            apart : Less ≢ Greater
            apart e = false≢true (ap is_gt e)

        tie : (r : Ordering) → r ≡ Equal → r ≢ Greater
        tie r e g = absurd (false≢true (ap is_gt (sym e ∙ g)))

    leads : Leads ranks place key
    leads = record {
      held = found.1.0;
      none_less = λ other k there. none_less other k there;
      none_lower = λ other lower there. soonest.none_lower other lower (at_time other key there ∙ ap (λ t. Some t) found.1.1);
    }
