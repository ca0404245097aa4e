-- Each kind of step keeps the rule of the board.
use Rattle.std.proofs.Common.{◌≡◌, ◌≢◌, ℕ, zero, suc, ◌<◌, List, [], ◌∷◌, ◌++◌, length, get_or, set, map, sym, refl, ap, ◌∙◌, subst, ◌⊎◌, inl, inr, ⊎_elim, arith, length-set, get_or-set_other, get_or-set_same, slice_get, Some, bit_or, replicate}
use Rattle.std.proofs.lemmas.List.{length-map, length-replicate}
use mathlib.Core.Option as opt
use mathlib.Core.Logic.{dite}
use native.Mathlib.Decide.{ℕ_discrete}
use lib.ListN.{get_elem?}
use lib.Seq.{set-get_or}
use Rattle.atomic_table.specs.Table.{State, step, Act, keeps, takes, gives, Valid, carried_after, stepped, opening, Allows, Splits}
use Rattle.atomic_table.proofs.Lists.{at_set, set_here, set_else, set_again, at_snoc}
use Rattle.work_board.specs.Pieces.{PieceState, BeganAs, IsSettled}
use Rattle.work_board.specs.Marks.{Has, fresh, holding, seeing, finishing}
use Rattle.work_board.specs.Rule.{Place, waiting, out, finished as at_end, Fits, IsBoard}
use Rattle.work_board.specs.Steps.{Sat, claimed, finished}
use Rattle.work_board.specs.declared.view.View.{View}

abbrev St : Type 0
St = State PieceState View

abbrev state : List ℕ → List (opt.Option PieceState) → List View → St
state ws hs vs = record { words = ws; homes = hs; views = vs }

-- the word of a piece is 0, 1 or 3
abbrev IsWord : ℕ → Type 0
IsWord n = (n ≡ 0) ⊎ ((n ≡ 1) ⊎ (n ≡ 3))

-- the fact at the piece i, and at each other piece
at_word : (P : ℕ → Type 0) (ws : List ℕ) (i j n : ℕ) → i < length ws → (j ≡ i → P n) → (j ≢ i → P (get_or ws j 0)) → P (get_or (set ws i n) j 0)
at_word P ws i j n inside here there = dite (ℕ_discrete j i)
    (λ e. subst P (sym (ap (λ (x : ℕ). get_or (set ws i n) x 0) e ∙ get_or-set_same ws i n 0 inside)) (here e))
    (λ ne. subst P (sym (get_or-set_other ws i j n 0 ne)) (there ne))

-- another view, where the word of a piece that it does not hold goes from 0 to 1 or from 1 to 3
fits_still : (laid : List PieceState) (ws : List ℕ) (i n : ℕ) (u : View) → i < length ws → Fits laid ws u → ¬ Has u.holds i
    → ((get_or ws i 0 ≡ 0) × (n ≡ 1)) ⊎ ((get_or ws i 0 ≡ 1) × (n ≡ 3)) → Fits laid (set ws i n) u
fits_still laid ws i n u inside f free go = record {
  reported = f.reported;
  held = λ j h. at_word (λ x. x ≡ 1) ws i j n inside (λ e. absurd (free (subst (λ (x : ℕ). Has u.holds x) e h))) (λ _. f.held j h);
  seen = λ j h. at_word (λ x. (x ≡ 1) ⊎ (x ≡ 3)) ws i j n inside
      (λ e. ⊎_elim (λ g. inl g.1) (λ g. inr g.1) go)
      (λ _. f.seen j h);
  done = λ j h. at_word (λ x. x ≡ 3) ws i j n inside
      (λ e. let was = f.done i (subst (λ (x : ℕ). Has u.finished x) e h) in ⊎_elim (λ g. absurd (omega arith)) (λ g. g.1) go)
      (λ _. f.done j h);
}

-- the seat id goes from v to w, and the word of the piece i to n
transit : (laid : List PieceState) (s : St) (o : IsBoard laid s) (i n id : ℕ) (v w : View) (hs : List (opt.Option PieceState)) → i < length laid
    → get_elem? s.views id ≡ opt.some v
    → Fits laid (set s.words i n) w
    → ((k : ℕ) (u : View) → k ≢ id → get_elem? s.views k ≡ opt.some u → ¬ Has u.holds i)
    → ((get_or s.words i 0 ≡ 0) × (n ≡ 1)) ⊎ ((get_or s.words i 0 ≡ 1) × (n ≡ 3))
    → ((j : ℕ) → Has w.holds j → j ≡ i)
    → length hs ≡ length s.homes
    → ((j : ℕ) → j ≢ i → get_elem? hs j ≡ get_elem? s.homes j)
    → Place (slice_get laid i) (get_elem? hs i) n
    → IsBoard laid (state (set s.words i n) hs (set s.views id w))
transit laid s o i n id v w hs inside me fit free go mine long same place =
    let near : i < length s.words = omega (arith, o.words) in record {
      words = length-set s.words i n ∙ o.words;
      homes = long ∙ o.homes;
      fits = λ j u at. ⊎_elim (λ t. subst (λ (x : View). Fits laid (set s.words i n) x) t.1 fit)
          (λ t. fits_still laid s.words i n u near (o.fits j u t.1) (free j u t.0 t.1) go) (at_set s.views id j w u at);
      once = λ p j k u x at to h g. ⊎_elim
          (λ t. ⊎_elim (λ r. t.0 ∙ sym r.0)
          (λ r. absurd (free k x r.0 r.1 (subst (λ (y : ℕ). Has x.holds y) (mine p (subst (λ (y : View). Has y.holds p) (sym t.1) h)) g))) (at_set s.views id k w x to))
          (λ t. ⊎_elim (λ r. absurd (free j u t.0 t.1 (subst (λ (y : ℕ). Has u.holds y) (mine p (subst (λ (y : View). Has y.holds p) (sym r.1) g)) h)))
          (λ r. o.once p j k u x t.1 r.1 h g) (at_set s.views id k w x to))
          (at_set s.views id j w u at);
      places = λ j below. at_word (λ x. Place (slice_get laid j) (get_elem? hs j) x) s.words i j n near
          (λ e. subst (λ (y : ℕ). Place (slice_get laid y) (get_elem? hs y) n) (sym e) place)
          (λ ne. subst (λ (h : opt.Option (opt.Option PieceState)). Place (slice_get laid j) h (get_or s.words j 0)) (sym (same j ne)) (o.places j below));
    }

-- a step that changes no word and no place, after which the seat has seen the piece claimed
saw : (laid : List PieceState) (s : St) (o : IsBoard laid s) (i id : ℕ) (v : View) → get_elem? s.views id ≡ opt.some v
    → (get_or s.words i 0 ≡ 1) ⊎ (get_or s.words i 0 ≡ 3)
    → IsBoard laid (state s.words s.homes (set s.views id (seeing v i)))
saw laid s o i id v me found = let f = o.fits id v me in record {
  words = o.words;
  homes = o.homes;
  fits = λ j u at. ⊎_elim (λ t. subst (λ (x : View). Fits laid s.words x) t.1 record {
    reported = f.reported;
    held = f.held;
    seen = λ p h. ⊎_elim (λ e. subst (λ (x : ℕ). (get_or s.words x 0 ≡ 1) ⊎ (get_or s.words x 0 ≡ 3)) e found) (λ g. f.seen p g) h;
    done = f.done;
  }) (λ t. o.fits j u t.1) (at_set s.views id j (seeing v i) u at);
  once = λ p j k u x at to h g. ⊎_elim
      (λ t. let h' : Has v.holds p = subst (λ (y : View). Has y.holds p) (sym t.1) h in ⊎_elim (λ r. t.0 ∙ sym r.0) (λ r. t.0 ∙ o.once p id k v x me r.1 h' g) (at_set s.views id k (seeing v i) x to))
      (λ t. ⊎_elim (λ r. let g' : Has v.holds p = subst (λ (y : View). Has y.holds p) (sym r.1) g in o.once p j id u v t.1 me h g' ∙ sym r.0) (λ r. o.once p j k u x t.1 r.1 h g) (at_set s.views id k (seeing v i) x to))
      (at_set s.views id j (seeing v i) u at);
  places = o.places;
}

abbrev Goes : List PieceState → St → ℕ → ℕ → Sat → (ℕ → Sat → Type 0) → ℕ → Type 0
Goes laid s i id m then n = (w : View) × (a : Act PieceState) × Valid s.homes m.1 a × IsBoard laid (stepped s i n id m.1 w a) × then (get_or s.words i 0) (w, carried_after m.1 a)

-- a claim that comes late
late : (laid : List PieceState) (slots id i k : ℕ) (m : Sat) (said : opt.Option PieceState) (s : St) (o : IsBoard laid s) → get_elem? s.views id ≡ opt.some m.0
    → (get_or s.words i 0 ≡ 1) ⊎ (get_or s.words i 0 ≡ 3)
    → Goes laid s i id m (claimed (step slots i k 0 said) m) (bit_or (get_or s.words i 0) 1)
late laid slots id i k m said s o me found =
    let same : bit_or (get_or s.words i 0) 1 ≡ get_or s.words i 0 = ⊎_elim (λ e. subst (λ (x : ℕ). bit_or x 1 ≡ x) (sym e) refl) (λ e. subst (λ (x : ℕ). bit_or x 1 ≡ x) (sym e) refl) found in
    let kept : set s.words i (bit_or (get_or s.words i 0) 1) ≡ s.words = ap (λ (x : ℕ). set s.words i x) same ∙ set-get_or s.words i 0 in (
      seeing m.0 i,
      keeps,
      tt,
      subst (λ (ws : List ℕ). IsBoard laid (state ws s.homes (set s.views id (seeing m.0 i)))) (sym kept) (saw laid s o i id m.0 me found),
      ((λ z. absurd (⊎_elim (λ e. omega arith) (λ e. omega arith) found)), λ _. refl),
    )

-- a claim that comes first
first : (laid : List PieceState) (slots id i k : ℕ) (m : Sat) (said : opt.Option PieceState) (s : St) (o : IsBoard laid s) → get_elem? s.views id ≡ opt.some m.0
    → i < length laid → m.0.holds ≡ [] → get_or s.words i 0 ≡ 0 → (p : PieceState) → slice_get laid i ≡ Some p → get_elem? s.homes i ≡ opt.some (opt.some p)
    → Goes laid s i id m (claimed (step slots i k 0 said) m) (bit_or (get_or s.words i 0) 1)
first laid slots id i k m said s o me inside idle none_yet p is there =
    let f = o.fits id m.0 me in let w : View = holding m.0 i in
    let near : i < length s.words = omega (arith, o.words) in
    let one : bit_or (get_or s.words i 0) 1 ≡ 1 = ap (λ (x : ℕ). bit_or x 1) none_yet in
    let close : i < length s.homes = omega (arith, o.homes) in
    let free : (j : ℕ) (u : View) → get_elem? s.views j ≡ opt.some u → ¬ Has u.holds i = λ j u at h. let x = (o.fits j u at).held i h in omega arith in (
      w,
      takes i p,
      there,
      subst (λ (x : ℕ). IsBoard laid (state (set s.words i x) (set s.homes i opt.none) (set s.views id w))) (sym one)
          (transit laid s o i 1 id m.0 w (set s.homes i opt.none) inside me
          record {
            reported = f.reported;
            held = λ j h. at_word (λ x. x ≡ 1) s.words i j 1 near (λ _. refl) (λ ne. ⊎_elim (λ e. absurd (ne (sym e))) (λ x. absurd x) h);
            seen = λ j h. at_word (λ x. (x ≡ 1) ⊎ (x ≡ 3)) s.words i j 1 near (λ _. inl refl) (λ _. f.seen j h);
            done = λ j h. at_word (λ x. x ≡ 3) s.words i j 1 near (λ e. let was = f.done i (subst (λ (x : ℕ). Has m.0.finished x) e h) in absurd (omega arith)) (λ _. f.done j h);
          }
          (λ j u _ at. free j u at)
          (inl (none_yet, refl))
          (λ j h. ⊎_elim (λ e. sym e) (λ x. absurd x) h)
          (length-set s.homes i opt.none)
          (λ j ne. set_else s.homes i j opt.none ne)
          (out refl (set_here s.homes i opt.none close))),
      ((λ _. (p, ap (λ (l : List PieceState). slice_get l i) f.reported ∙ is, refl)), λ ne. absurd (ne none_yet)),
    )

pub claims : (laid : List PieceState) (slots id i k : ℕ) (m : Sat) (said : opt.Option PieceState) → i < length laid → m.0.holds ≡ []
    → Allows (IsBoard laid) slots id m i (λ n. bit_or n 1) (claimed (step slots i k 0 said) m)
claims laid slots id i k m said inside idle s o wide me _ = elim (o.places i inside) [
  | waiting z p is there ↦ first laid slots id i k m said s o me inside idle z p is there
  | out one _ ↦ late laid slots id i k m said s o me (inl one)
  | at_end three p q _ _ _ _ ↦ late laid slots id i k m said s o me (inr three)
]

-- the seat gives a settled piece back, which began as the one laid
pub finishes : (laid : List PieceState) (slots id i k : ℕ) (v : View) (p q : PieceState) (said : opt.Option PieceState) → i < length laid → v.holds ≡ i ∷ []
    → slice_get v.laid i ≡ Some p → BeganAs p q → IsSettled q
    → Allows (IsBoard laid) slots id (v, (i, q) ∷ []) i (λ n. bit_or n 2) (finished (step slots i k 0 said) (v, (i, q) ∷ []))
finishes laid slots id i k v p q said inside mine is began settled s o wide me _ =
    let f = o.fits id v me in let w : View = finishing v i in
    let near : i < length s.words = omega (arith, o.words) in
    let close : i < length s.homes = omega (arith, o.homes) in
    let has : Has v.holds i = subst (λ (l : List ℕ). Has l i) (sym mine) (inl refl) in
    let one : get_or s.words i 0 ≡ 1 = f.held i has in
    let three : bit_or (get_or s.words i 0) 2 ≡ 3 = ap (λ (x : ℕ). bit_or x 2) one in (
      w,
      gives,
      tt,
      subst (λ (x : ℕ). IsBoard laid (state (set s.words i x) (set s.homes i (opt.some q)) (set s.views id w))) (sym three)
          (transit laid s o i 3 id v w (set s.homes i (opt.some q)) inside me
          record {
            reported = f.reported;
            held = λ j h. absurd h;
            seen = λ j h. at_word (λ x. (x ≡ 1) ⊎ (x ≡ 3)) s.words i j 3 near (λ _. inr refl) (λ _. f.seen j h);
            done = λ j h. at_word (λ x. x ≡ 3) s.words i j 3 near (λ _. refl) (λ ne. ⊎_elim (λ e. absurd (ne (sym e))) (λ x. f.done j x) h);
          }
          (λ j u ne at h. ne (o.once i j id u v at me h has))
          (inr (one, refl))
          (λ j h. absurd h)
          (length-set s.homes i (opt.some q))
          (λ j ne. set_else s.homes i j (opt.some q) ne)
          (at_end refl p q (ap (λ (l : List PieceState). slice_get l i) (sym f.reported) ∙ is) (set_here s.homes i (opt.some q) close) settled began)),
      refl,
    )

-- a seat's view stays, and the new seat knows the pieces as laid
pub splits : (laid : List PieceState) (id : ℕ) (v : View) → Splits (IsBoard laid) id v v (fresh v.laid)
splits laid id v s o me =
    let new : View = fresh v.laid in
    let back : set s.views id v ++ new ∷ [] ≡ s.views ++ new ∷ [] = ap (λ (l : List View). l ++ new ∷ []) (set_again s.views id v me) in
    subst (λ (l : List View). IsBoard laid (state s.words s.homes l)) (sym back) record {
      words = o.words;
      homes = o.homes;
      fits = λ j u at. ⊎_elim (λ t. o.fits j u t) (λ t. subst (λ (x : View). Fits laid s.words x) t record {
        reported = (o.fits id v me).reported;
        held = λ _ h. absurd h;
        seen = λ _ h. absurd h;
        done = λ _ h. absurd h;
      }) (at_snoc s.views new u j at);
      once = λ p j k u x at to h g. ⊎_elim
          (λ t. ⊎_elim (λ r. o.once p j k u x t r h g) (λ r. let none : Has new.holds p = subst (λ (y : View). Has y.holds p) (sym r) g in absurd none) (at_snoc s.views new x k to))
          (λ t. let none : Has new.holds p = subst (λ (y : View). Has y.holds p) (sym t) h in absurd none) (at_snoc s.views new u j at);
      places = o.places;
    }

pub finishes_at : (laid : List PieceState) (slots id i k : ℕ) (m : Sat) (p q : PieceState) (said : opt.Option PieceState) → m.1 ≡ (i, q) ∷ [] → i < length laid → m.0.holds ≡ i ∷ []
    → slice_get m.0.laid i ≡ Some p → BeganAs p q → IsSettled q
    → Allows (IsBoard laid) slots id m i (λ n. bit_or n 2) (finished (step slots i k 0 said) m)
finishes_at laid slots id i k m p q said has inside mine is began settled =
    let same : (m.0, (i, q) ∷ []) ≡ m = ap (λ (l : List (ℕ × PieceState)). (m.0, l)) (sym has) in
    let P : Sat → Type 0 = λ x. Allows (IsBoard laid) slots id x i (λ n. bit_or n 2) (finished (step slots i k 0 said) x) in
    subst P same (finishes laid slots id i k m.0 p q said inside mine is began settled)

-- the pieces as they are laid out
there : (laid : List PieceState) (i : ℕ) → i < length laid → (p : PieceState) × (slice_get laid i ≡ Some p) × (get_elem? (map opt.some laid) i ≡ opt.some (opt.some p))
there [] i h = absurd (omega arith)
there (x ∷ xs) zero h = (x, refl, refl)
there (x ∷ xs) (suc i) h = there xs i (omega arith)

abbrev all_zero : ℕ → List ℕ
all_zero n = replicate n 0

zeros : (n i : ℕ) → get_or (all_zero n) i 0 ≡ 0
zeros zero i = refl
zeros (suc n) zero = refl
zeros (suc n) (suc i) = zeros n i

only : (v u : View) (j : ℕ) → get_elem? (v ∷ []) j ≡ opt.some u → (j ≡ 0) × (v ≡ u)
only v u zero e = (refl, opt.some-injective v u e)
only v u (suc j) e = absurd (opt.some-ne-none u (sym e))

pub starts : (laid : List PieceState) (ws : List ℕ) (n : ℕ) → n ≡ length laid → ws ≡ all_zero n → IsBoard laid (opening ws laid (fresh laid))
starts laid ws n count quiet =
    let zero_at : (i : ℕ) → get_or ws i 0 ≡ 0 = λ i. ap (λ (l : List ℕ). get_or l i 0) quiet ∙ zeros n i in record {
      words = ap (λ (l : List ℕ). length l) quiet ∙ (length-replicate n 0 ∙ count);
      homes = length-map laid opt.some;
      fits = λ j u at. subst (λ (x : View). Fits laid ws x) (only (fresh laid) u j at).1 record {
        reported = refl;
        held = λ _ h. absurd h;
        seen = λ _ h. absurd h;
        done = λ _ h. absurd h;
      };
      once = λ p j k u x at to h g. (only (fresh laid) u j at).0 ∙ sym (only (fresh laid) x k to).0;
      places = λ i below. let t = there laid i below in waiting (zero_at i) t.0 t.1 t.2;
    }
