-- Pieces that are laid out for groups, and groups that come back.
use Rattle.std.proofs.Common.{◌≡◌, ◌<◌, ◌&&◌, is_none, true, ℕ, zero, suc, List, [], ◌∷◌, ◌++◌, length, map, get_or, All, Option, Some, None, refl, sym, ap, subst, ◌∙◌, arith, slice_get, append_assoc}
use Rattle.std.proofs.lemmas.List.{length-map}
use Rattle.std.proofs.Math.ListN.{get_or-map}
use Rattle.std.proofs.lemmas.Option.{slice_get-get_or, get_or_from_slice_get}
use Rattle.sim_time.specs.declared.key.Key.{Key}
use Rattle.node_core.specs.declared.event.Event.{Event}
use Rattle.table_run.specs.State.{due}
use Rattle.window_core.specs.Groups.{up_to as group_up_to}
use Rattle.window_core.specs.Windows.{all_done}
use Rattle.window_core.specs.Group.{GroupValue, AfterFirings, state_of}
use Rattle.window_core.specs.Window.{states_of, value_at, no_value}
use Rattle.work_board.specs.Pieces.{PieceState}
use Rattle.window_workers.specs.WindowOutcomes.{AllDone}
use Rattle.window_workers.specs.Laid.{laid_for}

-- what holds of a list holds of its rest, and of its first element
pub All-rest : {X : Type 0} (P : X → Type 0) (xs more : List X) (x : X) → xs ≡ x ∷ more → All P xs → All P more
All-rest P xs more x is all = let h : All P (x ∷ more) = subst (All P) is all in λ i d l. h (suc i) d (omega (arith, l))

pub All-first : {X : Type 0} (P : X → Type 0) (xs more : List X) (x : X) → xs ≡ x ∷ more → All P xs → P x
All-first P xs more x is all = let h : All P (x ∷ more) = subst (All P) is all in h 0 x (omega arith)

pub All-more : {X : Type 0} (P : X → Type 0) (xs more : List X) (x : X) → xs ≡ x ∷ more → P x → All P more → All P xs
All-more {X} P xs more x is one all = subst (All P) (sym is) at
  where
    at : All P (x ∷ more)
    at zero d l = one
    at (suc i) d l = all i d (omega (arith, l))

-- a piece's group was added
pub map_step : {X Y : Type 0} (f : X → Y) (done all : List Y) (rest more : List X) (x : X) → rest ≡ x ∷ more → done ++ map f rest ≡ all → (done ++ f x ∷ []) ++ map f more ≡ all
map_step f done all rest more x is e = append_assoc done (f x ∷ []) (map f more) ∙ sym (ap (λ l. done ++ map f l) is) ∙ e

pub all_done_of : (end : ℕ) (groups : List GroupValue) → ((n : ℕ) → n < length groups → due (group_up_to end (state_of (value_at groups n))) ≡ None) → all_done end (states_of groups) ≡ true
all_done_of end [] each = refl
all_done_of end (g ∷ groups) each =
    ap (λ (o : Option (Key × Event)). is_none o && all_done end (states_of groups)) (each 0 (omega arith))
    ∙ all_done_of end groups (λ n l. each (suc n) (omega (arith, l)))

-- the piece that is laid in a group's place is that group's
pub laid_at : (end : ℕ) (lent : List GroupValue) (laid : List PieceState) → laid ≡ map (laid_for end) lent → (n : ℕ) (p : PieceState) → slice_get laid n ≡ Some p → p ≡ laid_for end (value_at lent n)
laid_at end lent laid laid_is n p e =
    let none = laid_for end no_value in
    sym (get_or_from_slice_get laid n p none e) ∙ ap (λ (l : List PieceState). get_or l n none) laid_is ∙ get_or-map (laid_for end) lent n no_value

module _ (end : ℕ) (lent : List GroupValue) (laid got : List PieceState) (back : List GroupValue) (laid_is : laid ≡ map (laid_for end) lent) (are : AllDone laid got) (back_is : back ≡ map (λ (p : PieceState). p.group) got) where
  abbrev none : PieceState
  none = laid_for end no_value

  abbrev piece : ℕ → PieceState
  piece n = get_or got n none

  many : length back ≡ length got
  many = ap length back_is ∙ length-map got (λ (p : PieceState). p.group)

  pub as_many : length back ≡ length lent
  as_many = many ∙ are.count ∙ ap length laid_is ∙ length-map lent (laid_for end)

  group_is : (n : ℕ) → value_at back n ≡ (piece n).group
  group_is n = ap (λ (l : List GroupValue). value_at l n) back_is ∙ get_or-map (λ (p : PieceState). p.group) got n none

  at : (n : ℕ) → n < length back → slice_get got n ≡ Some (piece n)
  at n l = slice_get-get_or got n none (omega (arith, l, many))

  -- each piece ends where it was laid to
  ends_at : (n : ℕ) → n < length back → (piece n).end ≡ end
  ends_at n l =
      let began = (are.each n (piece n) (at n l)).0 in
      began.2.0 ∙ ap (λ (p : PieceState). p.end) (laid_at end lent laid laid_is n began.0 began.1)

  -- each group that comes back is the one that was lent, after firings of its own below the end
  pub come_back : All (λ (p : PieceState). AfterFirings p.end p.began p.group) got → (n : ℕ) → n < length back → AfterFirings end (value_at lent n) (value_at back n)
  come_back after n l =
      let began = (are.each n (piece n) (at n l)).0 in
      let from : (piece n).began ≡ value_at lent n = began.2.1 ∙ ap (λ (p : PieceState). p.began) (laid_at end lent laid laid_is n began.0 began.1) in
      let fired : AfterFirings end (piece n).began (piece n).group = subst (λ (e : ℕ). AfterFirings e (piece n).began (piece n).group) (ends_at n l) (after n none (omega (arith, l, many))) in
      subst (AfterFirings end (value_at lent n)) (sym (group_is n)) (subst (λ (g : GroupValue). AfterFirings end g (piece n).group) from fired)

  -- and no group has an event left below the end
  pub all_are_done : all_done end (states_of back) ≡ true
  all_are_done = all_done_of end back (λ n l.
      ap (λ (g : GroupValue). due (group_up_to end (state_of g))) (group_is n)
      ∙ sym (ap (λ (e : ℕ). due (group_up_to e (state_of (piece n).group))) (ends_at n l))
      ∙ (are.each n (piece n) (at n l)).1)
