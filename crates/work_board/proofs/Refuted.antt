-- A store of 1 is no claim: a seat that another has overtaken would claim a finished piece.
use Rattle.std.proofs.Common.{◌≡◌, ℕ, zero, suc, ◌<◌, [], ◌∷◌, get_or, refl, sym, inl, inr, ◌⊎◌, ⊎_elim, arith, subst, slice_get}
use mathlib.Core.Option as opt
use lib.ListN.{get_elem?}
use Rattle.atomic_table.specs.Table.{State}
use Rattle.work_board.specs.Pieces.{PieceState, IsDone}
use Rattle.work_board.specs.Marks.{Has, view, fresh}
use Rattle.work_board.specs.Rule.{Place, finished, Fits, IsBoard}
use Rattle.work_board.specs.Laws.{StoreIsNoClaim}
use Rattle.work_board.specs.declared.view.View.{View}

abbrev three : ℕ
three = 3

-- the piece was claimed and finished by the seat 1, while the seat 0 knows nothing of it
abbrev overtaken : PieceState → State PieceState View
overtaken p = record { words = 3 ∷ []; homes = opt.some p ∷ []; views = fresh (p ∷ []) ∷ view (p ∷ []) [] [] (0 ∷ []) ∷ [] }

at_end : (p : PieceState) (j : ℕ) (v : View) → get_elem? (overtaken p).views j ≡ opt.some v → (fresh (p ∷ []) ≡ v) ⊎ (view (p ∷ []) [] [] (0 ∷ []) ≡ v)
at_end p zero v e = inl (opt.some-injective (fresh (p ∷ [])) v e)
at_end p (suc zero) v e = inr (opt.some-injective (view (p ∷ []) [] [] (0 ∷ [])) v e)
at_end p (suc (suc j)) v e = absurd (opt.some-ne-none v (sym e))

no_holds : (p : PieceState) (j i : ℕ) (v : View) → get_elem? (overtaken p).views j ≡ opt.some v → ¬ Has v.holds i
no_holds p j i v at h = let P : View → Type 0 = λ u. Has u.holds i → ⊥ in ⊎_elim (λ e. subst P e (λ x. x) h) (λ e. subst P e (λ x. x) h) (at_end p j v at)

stands : (p : PieceState) → IsDone p → IsBoard (p ∷ []) (overtaken p)
stands p done = record {
  words = refl;
  homes = refl;
  fits = λ j v at. let F : View → Type 0 = λ u. Fits (p ∷ []) (3 ∷ []) u in ⊎_elim
      (λ e. subst F e record { reported = refl; held = λ _ h. absurd h; seen = λ _ h. absurd h; done = λ _ h. absurd h })
      (λ e. subst F e record { reported = refl; held = λ _ h. absurd h; seen = λ _ h. absurd h; done = λ i h. ⊎_elim (λ z. subst (λ (x : ℕ). get_or (overtaken p).words x 0 ≡ three) z refl) (λ x. absurd x) h })
      (at_end p j v at);
  once = λ i j k v w at to h g. absurd (no_holds p j i v at h);
  places = λ i below. at_place i below;
}
  where
    at_place : (i : ℕ) → i < 1 → Place (slice_get (p ∷ []) i) (get_elem? (opt.some p ∷ []) i) (get_or (3 ∷ []) i 0)
    at_place zero below = finished refl p p refl refl (inl done) (refl, refl)
    at_place (suc i) below = absurd (omega arith)

pub store_refuted : StoreIsNoClaim
store_refuted p kind done allows =
    let t = allows (overtaken p) (stands p done) refl refl (omega arith) in
    let kept = (t.3.fits 1 (view (p ∷ []) [] [] (0 ∷ [])) refl).done 0 (inl refl) in omega arith
