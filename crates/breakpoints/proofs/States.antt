-- What each breakpoint has seen of a state.
use Rattle.std.proofs.Common.{◌≡◌, ℕ, zero, suc, ◌+◌, ◌<◌, List, [], ◌∷◌, ◌++◌, length, get_or, set, take, map as each, refl, sym, ap, ◌∙◌, arith}
use Rattle.std.proofs.lemmas.List.{get_or-map, take_more, map-append, length-map}
use Rattle.table_run.specs.State.{State}
use Rattle.breakpoints.specs.declared.breaks.Break.{Break}
use Rattle.breakpoints.specs.declared.seen.Seen.{Seen}
use Rattle.breakpoints.specs.Seen.{seen_in, AreSeen}

-- as many as there are breakpoints
pub as_many : (breaks : List Break) (s : State) (seen : List Seen) → AreSeen breaks s seen → length seen ≡ length breaks
as_many breaks s seen are = ap length are ∙ length-map breaks (λ (b : Break). seen_in s b.values)

module _ (breaks : List Break) (s : State) (i : ℕ) (b : Break) (within : i < length breaks) (at : get_or breaks i b ≡ b) where
  abbrev sees : Break → Seen
  sees x = seen_in s x.values

  -- of the one at an index
  pub seen_at : (seen : List Seen) (w : Seen) → AreSeen breaks s seen → ((other : Seen) → get_or seen i other ≡ w) → w ≡ seen_in s b.values
  seen_at seen w are is = sym (is (sees b)) ∙ ap (λ (l : List Seen). get_or l i (sees b)) are ∙ get_or-map sees breaks i b (sees b) within ∙ ap sees at

  -- of one more
  one_more : each sees (take i breaks) ++ sees b ∷ [] ≡ each sees (take (i + 1) breaks)
  one_more = sym (map-append sees (take i breaks) (b ∷ [])) ∙ ap (λ (x : Break). each sees (take i breaks ++ x ∷ [])) (sym at) ∙ ap (each sees) (sym (take_more breaks i b within))

-- the first so many have seen the state after an event, and the others that before it
abbrev pub halves : State → State → List Break → ℕ → List Seen
halves s t [] n = []
halves s t (b ∷ breaks) zero = seen_in s b.values ∷ each (λ (x : Break). seen_in s x.values) breaks
halves s t (b ∷ breaks) (suc n) = seen_in t b.values ∷ halves s t breaks n

module _ (s t : State) where
  pub halves_begin : (breaks : List Break) (seen : List Seen) → AreSeen breaks s seen → seen ≡ halves s t breaks 0
  halves_begin [] seen are = are
  halves_begin (b ∷ breaks) seen are = are

  -- the next one has seen the state before the event
  pub halves_at : (breaks : List Break) (i : ℕ) (d : Break) (w : Seen) → i < length breaks → get_or (halves s t breaks i) i w ≡ seen_in s (get_or breaks i d).values
  halves_at [] i d w within = absurd (omega (arith, within))
  halves_at (b ∷ breaks) zero d w within = refl
  halves_at (b ∷ breaks) (suc i) d w within = halves_at breaks i d w (omega (arith, within))

  halves_all : (breaks : List Break) → halves s t breaks (length breaks) ≡ each (λ (x : Break). seen_in t x.values) breaks
  halves_all [] = refl
  halves_all (b ∷ breaks) = ap (λ l. seen_in t b.values ∷ l) (halves_all breaks)

  pub halves_end : (breaks : List Break) (seen : List Seen) (n : ℕ) → n ≡ length breaks → seen ≡ halves s t breaks n → AreSeen breaks t seen
  halves_end breaks seen n n_is is = is ∙ ap (halves s t breaks) n_is ∙ halves_all breaks

  -- one that sees the state after the event
  pub halves_set : (breaks : List Break) (i : ℕ) (d : Break) → i < length breaks → set (halves s t breaks i) i (seen_in t (get_or breaks i d).values) ≡ halves s t breaks (suc i)
  halves_set [] i d within = absurd (omega (arith, within))
  halves_set (b ∷ breaks) zero d within = ap (λ l. seen_in t b.values ∷ l) (halves_first breaks)
    where
      halves_first : (bs : List Break) → each (λ (x : Break). seen_in s x.values) bs ≡ halves s t bs 0
      halves_first [] = refl
      halves_first (x ∷ bs) = refl
  halves_set (b ∷ breaks) (suc i) d within = ap (λ l. seen_in t b.values ∷ l) (halves_set breaks i d (omega (arith, within)))

  -- one that sees the same in both
  pub halves_kept : (breaks : List Break) (i : ℕ) (d : Break) → i < length breaks → seen_in s (get_or breaks i d).values ≡ seen_in t (get_or breaks i d).values → halves s t breaks i ≡ halves s t breaks (suc i)
  halves_kept [] i d within same = absurd (omega (arith, within))
  halves_kept (b ∷ breaks) zero d within same = first breaks
    where
      first : (bs : List Break) → seen_in s b.values ∷ each (λ (x : Break). seen_in s x.values) bs ≡ seen_in t b.values ∷ halves s t bs 0
      first [] = ap (λ (w : Seen). w ∷ []) same
      first (x ∷ bs) = ap (λ (w : Seen). w ∷ seen_in s x.values ∷ each (λ (y : Break). seen_in s y.values) bs) same
  halves_kept (b ∷ breaks) (suc i) d within same = ap (λ l. seen_in t b.values ∷ l) (halves_kept breaks i d (omega (arith, within)) same)
