-- `held` hands on the piece that the seat lends.
use Rattle.std.proofs.Common.{List, [], ◌∷◌, refl, ap, w64}
use Rattle.atomic_table.proofs.Walks.{proved, leaves}
use base.Logic.{id⊢}
use base.Fml.{Fml, ftrue, flft}
use mir.Syntax.{named}
use mir.Val.{Val}
use contract.Running.{tables}
use types.Kit.{‵, raw, ◌⊛◌, some, later, ◌$◌, ◌∵◌, !, qed, move, keep, drop, use1, use2, split, join, fsplit3, fjoin, fjoin3, feq_i, feq_l, pick, await, by}
use types.Run.{enter, addr, stop, no_more, and_then, returns}
use types.ByLocal.{alloc_all, pass_all, free_all, look_at, get, through, sets, lands_as}
use denote.Builtin.{usize, RefOf, RefMutOf}
use denote.Exit.{yes, no}
use denote.Plain.{uint_vals, uint_Tells}
use denote.Ref.{mut_vals, mut_Tells, shr_vals, shr_Tells}
use denote.Signature.{plain, type_at}
use denote.Steps.{nothing, only}
use denote.Triple.Call.{calls_at}
use denote.Triple.Clauses.{Lasts, lasts, at_exit}
use denote.Triple.Entry.{Args, Res}
use denote.Triple.Spec.{triple_of}
use denote.Triple.Table.{framed}
use denote.Triple.Walked.{Stays, walk_of, stay_dropped, Goes-dropped, Goes-spent_ref}
use Rattle.work_board.specs.contracts.board.Board.{the_row as Br}
use Rattle.work_board.specs.contracts.seat.Seat.{the_row as Sr}
use Rattle.work_board.specs.contracts.board.Board.held as f
use Rattle.work_board.specs.contracts.seat.Seat.held as g
use Rattle.work_board.proofs.seat.Seat.held.Met.{met}
use Rattle.work_board.proofs.board.Board.held.Statement.{statement}
use Rattle.work_board.proofs.board.Board.held.Code as code

abbrev stayed : Stays f.ended.signature.params f.ended.kept
stayed = (stay_dropped _ yes, (stay_dropped _ no, (stay_dropped _ yes, tt)))

pub held_spec : {M : Type 1} → statement M
held_spec 𝓤 𝓛 𝓜 𝓡 wired =
    let c = f.clauses 𝓛 𝓜.mem 𝓡.returns in let W = walk_of 𝓛 f.ended stayed c in let 𝓣 = tables 𝓤 𝓛.H 𝓜 𝓡 𝓡.env in
    let G = triple_of 𝓛 g.signature (g.spec 𝓛 𝓜.mem 𝓡.returns) in
    let board = RefOf {n = 1} (0 ∷ []) (tt {0}) (plain (λ _. Br)) (λ _. tt) in let seat = RefMutOf {n = 1} (0 ∷ []) (tt {0}) (plain (λ _. Sr)) (λ _. tt) in
    proved 𝓛 f.ended stayed c 𝓜 𝓡 (Goes-dropped 𝓛 1 board yes (λ κs x w. refl), (Goes-spent_ref 𝓛 1 (0 ∷ []) tt (plain (λ _. Sr)), (Goes-dropped 𝓛 1 (plain (λ _. usize)) yes (λ κs x w. refl), tt)))
    f.Key.name code.function (code.unfolded 𝓤 𝓛.H 𝓜 𝓡 wired)
    (λ κs. (shr_vals, (mut_vals, (uint_vals w64, tt)))) (λ κs. (shr_Tells (named 0) κs.0 Br, (mut_Tells (named 0) κs.0 Sr, (uint_Tells w64, tt)))) (λ κs qs bounds a gh are.
    let κ = κs.0 in let q = qs.0 in
    let y : W.Ghost = ((κs, qs, bounds, a, (shr_vals a.0, (mut_vals a.1.0, (uint_vals w64 a.1.1.0, tt)))), gh) in
    let b : Args g.signature κs = (a.1.0, (a.0, (a.1.1.0, tt))) in
    let z : G.Ghost = ((κs, qs, bounds, b, (mut_vals a.1.0, (shr_vals a.0, (uint_vals w64 a.1.1.0, tt)))), tt) in
    let Bo : Fml = (type_at board κs).own_val a.0 (shr_vals a.0) in let So : Fml = (type_at seat κs).own_val a.1.0 (mut_vals a.1.0) in let Io : Fml = usize.own_val a.1.1.0 (uint_vals w64 a.1.1.0) in
    qed 𝓛 (((‵ (flft κ q) ⊛ ‵ ftrue) ⊛ ‵ Bo ⊛ ‵ So ⊛ ‵ Io ⊛ ‵ ftrue) ∷ raw ((c κs a).requires gh) ∷ []) ∵
    split ! $ split ! $ move ! (2 ∷ []) $ split ! $ move ! (1 ∷ []) $ split ! $ move ! (1 ∷ []) $ split ! $
    enter ! _ _ _ _ _ $ alloc_all ! (λ l. pass_all ! refl ((tt, tt), ((tt, tt), ((tt, record { fits = are.1.1.0.1 }), tt))) $
    -- [the number; nothing; the seat; the board; the token; nothing; the requires]
    sets ! (addr ! (through ! refl (stop !))) refl (tt, tt) $
    join ! $ move ! (2 ∷ 0 ∷ []) $ join ! $ move ! (1 ∷ 0 ∷ []) $ join ! $ move ! (1 ∷ 2 ∷ []) $ join ! $ join ! $
    use2 𝓛 (raw (G.pre z)) (id⊢ 𝓤 _) $
    calls_at ! (framed 𝓤 𝓛.H 𝓜 𝓣) G (met 𝓤 𝓛 𝓜 𝓡 (code.calls-work_board::seat::Seat::held 𝓡.env wired)) z
    (and_then ! (get ! refl) (and_then ! (get ! refl) (and_then ! (get ! refl) (no_more !)))) (λ v.
    use1 𝓛 (later (some (λ (r : Res g.signature κs). ((‵ (flft κ q) ⊛ ‵ ftrue) ⊛ ‵ ((type_at g.signature.result κs).own_val r (v ∷ []))) ⊛
    some (λ (ws : Lasts g.ended κs b). ‵ (lasts g.ended κs b ws) ⊛ raw ((g.clauses 𝓛 𝓜.mem 𝓡.returns κs b).ensures tt r (at_exit g.ended κs b ws)))))) (id⊢ 𝓤 _) $
    await ! tt $ pick ! (λ r. split ! $ split ! $ move ! (2 ∷ []) $ pick ! (λ ws. split ! $ drop ! $
    -- [the ensures; the token; the piece]
    move ! (2 ∷ []) $ fsplit3 ! $ feq_l ! (λ is. lands_as ! (ap only is) refl (tt, tt) $
    returns ! (look_at ! 0 refl) $ free_all ! refl $
    feq_i ! (List Val) (mut_vals r) (mut_vals r) refl $ fjoin3 ! $
    nothing ! $ nothing ! $ fjoin ! $ nothing ! $ fjoin ! $ nothing ! $ fjoin ! $
    keep ! (3 ∷ 0 ∷ 1 ∷ 2 ∷ []) $
    by ! (leaves 𝓛 f.ended stayed c y (only (mut_vals r)) r (tt, (tt, (tt, tt))) (tt, (tt, (tt, tt))))))))))
