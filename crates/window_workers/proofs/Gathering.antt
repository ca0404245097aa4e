-- The slots of a board, one after another.
use Rattle.std.proofs.Common.{◌≡◌, ℕ, zero, suc, List, [], ◌∷◌, ◌++◌, ◌||◌, Bool, true, false, length, sym, refl, ap, ◌∙◌, subst, ◌⊎◌, inl, inr, ⊎_elim, arith, append_assoc, slice_get, All, map, Option, Some, None, unwrap_or, IsSome, option_map, if◌then◌else◌, IfOk, IfErr, OnOk, Result, Ok, Err, Vec, Global}
use Rattle.std.proofs.lemmas.Option.{slice_get_within}
use Rattle.std.specs.Option.{option_or}
use Rattle.node_group.specs.declared.group.GroupFault.{GroupFault}
use Rattle.window_core.specs.Group.{GroupValue, AfterFirings}
use Rattle.work_board.specs.Pieces.{PieceState, IsDone, IsSettled}
use Rattle.work_board.specs.Seats.{Tells}
use Rattle.work_board.specs.declared.view.View.{View}
use Rattle.work_board.specs.declared.slot.Slot.{Slot}
use Rattle.work_board.specs.declared.slot.Slot.TheVariants.{Finished, Waiting, Out}
use Rattle.work_board.specs.Boards.{SeatState}
use Rattle.window_workers.specs.Sweeps.{IsSwept}
use Rattle.window_workers.specs.WindowOutcomes.{AllDone, AllRan, any_out, first_refusal, finished_of, NoneWaits, slots_fault, as_fault, CameOf, StoppedBy}
use Rattle.window_workers.specs.declared.fault.WorkersFault.{WorkersFault}
use Rattle.window_workers.proofs.Laying.{All-more}
use Rattle.window_workers.specs.declared.fault.WorkersFault.TheVariants.{Failed, NoMemory}

-- a piece's group, and that it stands after firings of its own
abbrev pub group_in : PieceState → GroupValue
group_in p = p.group

abbrev pub HasFired : PieceState → Type 0
HasFired p = AfterFirings p.end p.began p.group

-- what was gathered, with the rest, is what all slots say
abbrev pub Goes : List Slot → List Slot → Bool → Option GroupFault → List GroupValue → Type 0
Goes all rest out refusal gs =
    ((out || any_out rest) ≡ any_out all)
    × (option_or refusal (first_refusal rest) ≡ first_refusal all)
    × (gs ++ map group_in (finished_of rest) ≡ map group_in (finished_of all))
    × NoneWaits rest
    × (All HasFired (finished_of rest) → All HasFired (finished_of all))

or_assoc : (a b c : Option GroupFault) → option_or (option_or a b) c ≡ option_or a (option_or b c)
or_assoc (Some f) b c = refl
or_assoc None b c = refl

or_true : (b c : Bool) → (b || true) ≡ c → true ≡ c
or_true true c e = e
or_true false c e = e

later : (x : Slot) (more : List Slot) → NoneWaits (x ∷ more) → NoneWaits more
later x more none i q at = none (suc i) q at

pub next_finished : (all rest more : List Slot) (x : Slot) (out : Bool) (refusal : Option GroupFault) (gs : List GroupValue) (q : PieceState) → rest ≡ x ∷ more → x ≡ Finished q → HasFired q
    → Goes all rest out refusal gs → Goes all more out (option_or refusal q.fault) (gs ++ q.group ∷ [])
next_finished all rest more x out refusal gs q is kind fired goes =
    let g : Goes all (Finished q ∷ more) out refusal gs = subst (λ (l : List Slot). Goes all l out refusal gs) (is ∙ ap (λ (y : Slot). y ∷ more) kind) goes in
    (g.0, or_assoc refusal q.fault (first_refusal more) ∙ g.1, append_assoc gs (q.group ∷ []) (map group_in (finished_of more)) ∙ g.2, later (Finished q) more g.3, λ rest_fired. g.4 (All-more HasFired (q ∷ finished_of more) (finished_of more) q refl fired rest_fired))

pub next_out : (all rest more : List Slot) (x : Slot) (out : Bool) (refusal : Option GroupFault) (gs : List GroupValue) → rest ≡ x ∷ more → x ≡ Out
    → Goes all rest out refusal gs → Goes all more true refusal gs
next_out all rest more x out refusal gs is kind goes =
    let g : Goes all (Out ∷ more) out refusal gs = subst (λ (l : List Slot). Goes all l out refusal gs) (is ∙ ap (λ (y : Slot). y ∷ more) kind) goes in
    (or_true out (any_out all) g.0, g.1, g.2, later Out more g.3, g.4)

pub never : (rest more : List Slot) (x : Slot) (q : PieceState) → rest ≡ x ∷ more → x ≡ Waiting q → NoneWaits rest → ⊥
never rest more x q is kind none = none 0 q (ap (λ (l : List Slot). slice_get l 0) is ∙ ap (λ (y : Slot). Some y) kind)

pub finished_count : (slots : List Slot) → any_out slots ≡ false → NoneWaits slots → length (finished_of slots) ≡ length slots
finished_count [] none waits = refl
finished_count (Finished q ∷ slots) none waits = ap suc (finished_count slots none (later (Finished q) slots waits))
finished_count (Waiting q ∷ slots) none waits = absurd (waits 0 q refl)
finished_count (Out ∷ slots) none waits = cc

or_none : (a b : Option GroupFault) → option_or a b ≡ None → (a ≡ None) × (b ≡ None)
or_none None b e = (refl, e)
or_none (Some f) b e = let x : ⊥ = cc in absurd x

-- with no refusal among them, a finished piece was finished in its place, and has no fault
pub finished_at : (slots : List Slot) (i : ℕ) (q : PieceState) → any_out slots ≡ false → NoneWaits slots → first_refusal slots ≡ None → slice_get (finished_of slots) i ≡ Some q
    → (slice_get slots i ≡ Some (Finished q)) × (q.fault ≡ None)
finished_at [] i q none waits quiet at = let h = slice_get_within [] i q at in absurd (omega arith)
finished_at (Finished p ∷ slots) zero q none waits quiet at =
    let same : p ≡ q = ap (λ o. unwrap_or o p) at in
    (ap (λ (y : PieceState). Some (Finished y)) same, ap (λ (y : PieceState). y.fault) (sym same) ∙ (or_none p.fault (first_refusal slots) quiet).0)
finished_at (Finished p ∷ slots) (suc i) q none waits quiet at = finished_at slots i q none (later (Finished p) slots waits) (or_none p.fault (first_refusal slots) quiet).1 at
finished_at (Waiting p ∷ slots) i q none waits quiet at = absurd (waits 0 p refl)
finished_at (Out ∷ slots) i q none waits quiet at = let x : ⊥ = cc in absurd x

-- a swept seat leaves no piece waiting
pub none_waits : (s : SeatState) (slots : List Slot) → IsSwept s → length slots ≡ length s.view.laid → ((i : ℕ) (x : Slot) → slice_get slots i ≡ Some x → Tells s.view i x) → NoneWaits slots
none_waits s slots swept count tells i q at =
    let h = slice_get_within slots i (Waiting q) at in let t : Tells s.view i (Waiting q) = tells i (Waiting q) at in
    ⊎_elim (λ f. t.2 f) (λ f. t.1 f) (swept.met i (omega arith))

quiet_if : (b : Bool) (r : Option GroupFault) → (if b then Some Failed else option_map as_fault r) ≡ None → (b ≡ false) × (r ≡ None)
quiet_if false None e = (refl, refl)
quiet_if false (Some f) e = let x : ⊥ = cc in absurd x
quiet_if true r e = let x : ⊥ = cc in absurd x

done_of : (q : PieceState) → IsSettled q → q.fault ≡ None → IsDone q
done_of q settled none = ⊎_elim (λ d. d) (λ r. let P : Option GroupFault → Type 0 = λ o. IsSome o in let e : false ≡ true = subst P none r in let x : ⊥ = cc in absurd x) settled

pub all_done : (v : View) (slots : List Slot) (got : List PieceState) → length slots ≡ length v.laid → NoneWaits slots → ((i : ℕ) (x : Slot) → slice_get slots i ≡ Some x → Tells v i x)
    → slots_fault slots ≡ None → got ≡ finished_of slots → AllDone v.laid got
all_done v slots got count waits tells quiet is = let q = quiet_if (any_out slots) (first_refusal slots) quiet in record {
  count = ap length is ∙ (finished_count slots q.0 waits ∙ count);
  each = λ i p at. let f = finished_at slots i p q.0 waits q.1 (ap (λ (l : List PieceState). slice_get l i) (sym is) ∙ at) in let t : Tells v i (Finished p) = tells i (Finished p) f.0 in (t.0, done_of p t.1 f.1);
}

-- what the last call answers
pub ends_done : {E : Type 0} (r : Result (Vec GroupValue Global) E) (laid : List PieceState) (v : View) (slots : List Slot) → v.laid ≡ laid → length slots ≡ length v.laid → NoneWaits slots
    → ((i : ℕ) (x : Slot) → slice_get slots i ≡ Some x → Tells v i x) → IfOk r (λ back. (slots_fault slots ≡ None) × (back.items ≡ map group_in (finished_of slots))) → OnOk r (All HasFired (finished_of slots)) → IfOk r (λ back. AllRan laid back.items)
ends_done (Ok back) laid v slots reported count waits tells ok after = record {
  got = finished_of slots;
  done = subst (λ (l : List PieceState). AllDone l (finished_of slots)) reported (all_done v slots (finished_of slots) count waits tells ok.0 refl);
  after = after;
  groups_are = ok.1;
}
ends_done (Err e) laid v slots reported count waits tells ok after = tt

came_at : (v : View) (i : ℕ) (x : Slot) → Tells v i x → ((q : PieceState) → x ≡ Waiting q → ⊥) → CameOf v.laid i x
came_at v i (Finished q) t waits = t
came_at v i (Waiting q) t waits = waits q refl
came_at v i Out t waits = tt

pub stops : {T : Type 0} (r : Result T WorkersFault) (laid : List PieceState) (v : View) (slots : List Slot) → v.laid ≡ laid → length slots ≡ length v.laid → NoneWaits slots
    → ((i : ℕ) (x : Slot) → slice_get slots i ≡ Some x → Tells v i x) → IfErr r (λ e. (e ≡ NoMemory) ⊎ (slots_fault slots ≡ Some e))
    → IfErr r (λ e. (e ≡ NoMemory) ⊎ StoppedBy laid e)
stops (Ok x) laid v slots reported count waits tells f = f
stops (Err e) laid v slots reported count waits tells f = ⊎_elim (λ m. inl m) (λ g. inr record {
  slots = slots;
  count = count ∙ ap (λ (l : List PieceState). length l) reported;
  each = λ i x at. let P : List PieceState → Type 0 = λ l. CameOf l i x in subst P reported (came_at v i x (tells i x at) (λ q is. waits i q (at ∙ ap (λ (y : Slot). Some y) is)));
  fault = g;
}) f
