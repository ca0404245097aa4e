-- Where the workers' fault is that the count is full, the run has more events than there may be.
use Rattle.std.proofs.Common.{◌≡◌, ◌<◌, ℕ, List, length, map, sym, ap, subst, ◌∙◌, arith}
use Rattle.std.proofs.lemmas.List.{length-map}
use Rattle.std.proofs.lemmas.Option.{slice_get_within}
use Rattle.node_group.specs.declared.group.GroupFault.TheVariants as group
use Rattle.table_run.specs.State.{State}
use Rattle.window_core.specs.GroupFaults.{IsFaultAt}
use Rattle.window_core.specs.Full.{HasTooMany, initial_at}
use Rattle.window_core.specs.Group.{GroupValue, AfterFirings}
use Rattle.window_core.specs.Window.{WindowValue, IsFrom, IsWindow, value_at}
use Rattle.window_core.proofs.TooMany.{full_group_has_too_many}
use Rattle.work_board.specs.Pieces.{PieceState}
use Rattle.window_workers.specs.Edges.{IsAtEdge, edge_of, reached_in}
use Rattle.window_workers.specs.Laid.{laid_for, HasFullGroup}
use Rattle.window_workers.specs.WindowOutcomes.{SomeLaidFull}
use Rattle.window_workers.proofs.Edge.{edge_is}
use Rattle.window_workers.proofs.Laying.{laid_at}

-- what holds of the state at which a window opened holds of its edge
pub at_edge : (v w : WindowValue) (is : IsWindow v) → IsAtEdge v → w.position ≡ v.position → HasTooMany (initial_at is.edge w) → HasTooMany (reached_in v)
at_edge v w is at position many =
    let state : is.edge ≡ edge_of v = sym (edge_is v is.edge is.from at.unfired) in
    subst (λ (s : State). HasTooMany (record { state = s; position = v.position })) state
    (subst (λ (n : ℕ). HasTooMany (record { state = is.edge; position = n })) position many)

-- a piece of a window's groups is full
pub pieces_full : (w : WindowValue) (end : ℕ) (lent : List GroupValue) (laid : List PieceState) → lent ≡ w.groups → end ≡ w.until → laid ≡ map (laid_for end) lent → SomeLaidFull laid → HasFullGroup w
pieces_full w end lent laid lent_is ends laid_is some =
    let p = some.piece in
    let n = some.place in
    let first = laid_at end lent laid laid_is n some.began.0 some.began.1 in
    let within : n < length laid = slice_get_within laid n some.began.0 some.began.1 in
    let many : length laid ≡ length w.groups = ap length laid_is ∙ length-map lent (laid_for end) ∙ ap length lent_is in
    let began : p.began ≡ value_at w.groups n = some.began.2.1 ∙ ap (λ (q : PieceState). q.began) first ∙ ap (λ (l : List GroupValue). value_at l n) lent_is in
    let same_end : p.end ≡ w.until = some.began.2.0 ∙ ap (λ (q : PieceState). q.end) first ∙ ends in
    record {
      number = n;
      group = p.group;
      within = omega (arith, within, many);
      after = subst (λ (e : ℕ). AfterFirings e (value_at w.groups n) p.group) same_end (subst (λ (g : GroupValue). AfterFirings p.end g p.group) began some.full.after);
      full = subst (λ (e : ℕ). IsFaultAt e p.group group.CountFull) same_end some.full.full;
    }

-- a group of a window that ends by a moment is full
pub group_full : (v w : WindowValue) → IsAtEdge v → IsWindow v → IsWindow w → ((edge : State) → IsFrom edge v → IsFrom edge w) → w.position ≡ v.position → HasFullGroup w → HasTooMany (reached_in v)
group_full v w at is is_w from position f =
    at_edge v w is at position (full_group_has_too_many is.edge w is_w (from is.edge is.from) f.number f.group f.within f.after w.until (omega arith) f.full)
