-- Of lists whose next lines have moments, the one of the least moment has the line of the least key.
use Rattle.std.proofs.Common.{◌≡◌, ◌≢◌, ℕ, ◌+◌, ◌<◌, ◌≤◌, [], List, length, map, set, get_or, Option, Some, None, Less, Equal, Greater, refl, sym, ap, subst, ◌∙◌, ⊎_elim, arith}
use Rattle.std.proofs.lemmas.Bool.{cases_eq, cases_lt}
use Rattle.std.proofs.lemmas.Cmp.{tied_itself}
use Rattle.std.proofs.lemmas.List.{get_or-set_same, get_or-set_other, length-map}
use Rattle.std.proofs.Math.ListN.{get_or-eq_default, get_or-map}
use Rattle.std.specs.Prelude.{slice_index}
use Rattle.std.specs.List.{slice_get}
use Rattle.std.specs.Option.{option_map}
use Rattle.std.specs.declared.cmp.Ordering.{Ordering}
use Rattle.sim_time.specs.declared.key.Key.{Key}
use Rattle.sim_time.specs.Keys.{key_cmp}
use Rattle.sim_time.proofs.Order.{keys_total}
use Rattle.tournament.specs.Leading.{rank_at, Leads}
use Rattle.tournament.proofs.Maps.{same_some, not_some}
use Rattle.tournament.proofs.Moments.{sooner}
use Rattle.node_core.specs.TraceLine.{TraceLine}
use Rattle.line_merge.specs.Ahead.{HasNext, next_moment_in}
use Rattle.line_merge.specs.Merged.{AreApart, all_of, first_key, lines_of, rests}
use Rattle.line_merge.proofs.Rests.{IsTaken, first_drop, length_rests, none_left, rest_at, taken_next}

-- a later moment than that of any key
late : (place other : ℕ) (k : Key) → next_moment_in place None < next_moment_in other (Some k) → ⊥
late place other k less = omega (arith, less)

same_moment : (place other : ℕ) (k : Key) → next_moment_in place (Some k) < next_moment_in other (Some k) → ⊥
same_moment place other k less = omega (arith, less)

less_not_greater : (r : Ordering) → r ≡ Less → r ≢ Greater
less_not_greater r less greater = (cc)

equal_not_greater : (r : Ordering) → r ≡ Equal → r ≢ Greater
equal_not_greater r equal greater = (cc)

module _
    (ranks : List (Option Key)) (moments : List ℕ) (n list : ℕ) (size : length ranks ≡ n)
    (dated : (i : ℕ) → i < n → slice_index moments i ≡ next_moment_in i (rank_at ranks i))
    (within : list < n)
    (least : (i : ℕ) → i < n → i ≢ list → slice_index moments list < slice_index moments i)
  where
    earlier : (i : ℕ) → i < n → i ≢ list → next_moment_in list (rank_at ranks list) < next_moment_in i (rank_at ranks i)
    earlier i under off =
        subst (λ m. m < next_moment_in i (rank_at ranks i)) (dated list within)
        (subst (λ m. slice_index moments list < m) (dated i under) (least i under off))

    past : (i : ℕ) → n ≤ i → rank_at ranks i ≡ None
    past i over = get_or-eq_default ranks None (omega (arith, over, size))

    inside : (i : ℕ) (k : Key) → rank_at ranks i ≡ Some k → i < n
    inside i k at = ⊎_elim (λ (under : i < n). under) (λ (over : n ≤ i). absurd (not_some (sym (past i over) ∙ at))) (cases_lt i n)

    none_later : rank_at ranks list ≡ None → (i : ℕ) → i < n → i ≢ list → rank_at ranks i ≡ None
    none_later none i under off =
        elim (rank_at ranks i) as (λ o. rank_at ranks i ≡ o → o ≡ None) [
          | None ↦ λ e. refl
          | Some k ↦ λ e. absurd (late list i k (subst (λ o. next_moment_in list o < next_moment_in i (Some k)) none (subst (λ o. next_moment_in list (rank_at ranks list) < next_moment_in i o) e (earlier i under off))))
        ] refl

    -- where that list has no line left, none has
    all_none : rank_at ranks list ≡ None → (i : ℕ) → rank_at ranks i ≡ None
    all_none none i = ⊎_elim
        (λ (under : i < n). ⊎_elim (λ (is : i ≡ list). ap (rank_at ranks) is ∙ none) (λ (off : i ≢ list). none_later none i under off) (cases_eq i list))
        (λ (over : n ≤ i). past i over)
        (cases_lt i n)

    less_at : (key : Key) → rank_at ranks list ≡ Some key → (other : ℕ) (k : Key) → rank_at ranks other ≡ Some k → other ≢ list → next_moment_in list (Some key) < next_moment_in other (Some k)
    less_at key held other k at off =
        subst (λ o. next_moment_in list o < next_moment_in other (Some k)) held
        (subst (λ o. next_moment_in list (rank_at ranks list) < next_moment_in other o) at (earlier other (inside other k at) off))

    leads : (key : Key) → rank_at ranks list ≡ Some key → Leads ranks list key
    leads key held = record {
      held = held;
      none_less = λ other k at. ⊎_elim
          (λ (is : other ≡ list). subst (λ (z : Key). key_cmp key z ≢ Greater) (same_some key k (sym held ∙ ap (rank_at ranks) (sym is) ∙ at)) (equal_not_greater (key_cmp key key) (tied_itself keys_total key)))
          (λ (off : other ≢ list). less_not_greater (key_cmp key k) (sooner key k (less_at key held other k at off)))
          (cases_eq other list);
      none_lower = λ other lower at. same_moment list other key (less_at key held other key at (λ is. absurd (omega (arith, lower, is))));
    }

    pub least_leads : (((i : ℕ) → rank_at ranks i ≡ None) → ⊥) → (key : Key) × Leads ranks list key
    least_leads some =
        elim (rank_at ranks list) as (λ o. rank_at ranks list ≡ o → (key : Key) × Leads ranks list key) [
          | None ↦ λ e. absurd (some (all_none e))
          | Some key ↦ λ e. (key, leads key e)
        ] refl

-- ONE LINE LESS

pub taken_ahead : (lists : List (List TraceLine)) (nexts : List ℕ) (list : ℕ) → length nexts ≡ length lists → AreApart lists → HasNext (rests lists nexts) list → IsTaken lists nexts list
taken_ahead lists nexts list size are has = taken_next lists nexts list has.0 size are has.1

-- where a line is left, some list has a next one
pub some_ranked : (lists : List (List TraceLine)) (nexts : List ℕ) (ranks : List (Option Key)) → ranks ≡ map first_key (rests lists nexts) → 0 < length (all_of (rests lists nexts)) → ((i : ℕ) → rank_at ranks i ≡ None) → ⊥
some_ranked lists nexts ranks are some none =
    let empty : all_of (rests lists nexts) ≡ [] = none_left (rests lists nexts) (λ i. ap (λ (r : List (Option Key)). rank_at r i) (sym are) ∙ none i) in
    let size = ap length empty in
    omega (arith, some, size)

pub length_ranks : (lists : List (List TraceLine)) (nexts : List ℕ) → length (map first_key (rests lists nexts)) ≡ length lists
length_ranks lists nexts = length-map (rests lists nexts) first_key ∙ length_rests lists nexts

-- the key of a list's next line
pub rank_next : (lists : List (List TraceLine)) (nexts : List ℕ) (i : ℕ) → length nexts ≡ length lists → rank_at (map first_key (rests lists nexts)) i ≡ option_map (λ (line : TraceLine). line.key) (slice_get (lines_of lists i) (get_or nexts i 0))
rank_next lists nexts i size = get_or-map first_key (rests lists nexts) i [] ∙ ap first_key (rest_at lists nexts i size) ∙ ap (option_map (λ (line : TraceLine). line.key)) (first_drop (get_or nexts i 0) (lines_of lists i))

-- once a list's next line is gone, the moment of the one behind it is known
pub dated_anew : (lists : List (List TraceLine)) (nexts moments : List ℕ) (list n m : ℕ) → length moments ≡ length lists → IsTaken lists nexts list
    → ((i : ℕ) → i < length lists → slice_index moments i ≡ next_moment_in i (rank_at (map first_key (rests lists nexts)) i))
    → n ≡ get_or nexts list 0 + 1 → m ≡ next_moment_in list (option_map (λ (line : TraceLine). line.key) (slice_get (lines_of lists list) n))
    → (i : ℕ) → i < length lists → slice_index (set moments list m) i ≡ next_moment_in i (rank_at (map first_key (rests lists (set nexts list n))) i)
dated_anew lists nexts moments list n m size taken dated n_is m_is i under =
    let ranks = map first_key (rests lists nexts) in
    let key : Option Key = option_map (λ (line : TraceLine). line.key) (slice_get (lines_of lists list) n) in
    let now : set ranks list key ≡ map first_key (rests lists (set nexts list n)) = subst (λ j. set ranks list (option_map (λ (line : TraceLine). line.key) (slice_get (lines_of lists list) j)) ≡ map first_key (rests lists (set nexts list j))) (sym n_is) taken.ranked in
    let many = length_ranks lists nexts in
    ⊎_elim
    (λ (is : i ≡ list).
    subst (λ j. slice_index (set moments list m) j ≡ next_moment_in j (rank_at (map first_key (rests lists (set nexts list n))) j)) (sym is)
    (get_or-set_same moments list m 0 (omega (arith, taken.within, size)) ∙ m_is ∙ ap (next_moment_in list) (sym (get_or-set_same ranks list key None (omega (arith, taken.within, many))) ∙ ap (λ (r : List (Option Key)). rank_at r list) now)))
    (λ (off : i ≢ list).
    get_or-set_other moments list i m 0 off ∙ dated i under ∙ ap (next_moment_in i) (sym (get_or-set_other ranks list i key None off) ∙ ap (λ (r : List (Option Key)). rank_at r i) now))
    (cases_eq i list)
