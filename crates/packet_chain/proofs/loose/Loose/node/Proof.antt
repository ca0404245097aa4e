-- `node` reads the pointer, and lends the node behind it.
use Rattle.std.proofs.Common.{◌≡◌, ◌+◌, List, [], ◌∷◌, ◌++◌, refl, sym}
use mir.Val.{Val, vptr}
use mir.Syntax.{ty_ptr}
use base.Logic.{SProp, emp}
use base.Fml.{ftrue, fat, flft}
use prog.Wp.{Env, WpFn}
use contract.Monad.{fact, fact_i}
use contract.Running.{tables}
use types.Kit.{‵, raw, ◌⊛◌, prop, at_ret, ◌$◌, ◌∵◌, !, qed, by, move, keep, use0, split, join, fsplit, fjoin, feq_i, feq_l, regoal, rewrite}
use types.Run.{stop, fld, hop, look, addr, of_opd, first, blocks, exec, returns, enter}
use types.ByLocal.{alloc_all, pass_all, free_all, look_at, get, through, sets, sets_last, env}
use denote.Builtin.{RefOf}
use denote.Exit.{yes}
use denote.RattleType.{owns}
use denote.RawPtr.{Ptr, ptr_val}
use denote.Ref.{Bor}
use denote.Signature.{plain, types_at}
use denote.Steps.{nothing}
use denote.Triple.Walked.{Stays, stay_dropped, walk_of, Goes-dropped}
use Rattle.std.proofs.raw_atomic.Walks.{proved_at, leaves}
use Rattle.std_alloc.proofs.VecSteps.Shapes.{after}
use Rattle.packet_chain.specs.declared.node.ChainNode.{ChainNode}
use Rattle.packet_chain.specs.declared.loose.Loose.{Loose}
use Rattle.packet_chain.specs.contracts.loose.Loose.{the_row as L}
use Rattle.packet_chain.specs.contracts.loose.Loose.node as f
use Rattle.packet_chain.proofs.loose.Loose.node.Statement.{statement}
use Rattle.packet_chain.proofs.loose.Loose.node.Code as code
use Rattle.packet_chain.proofs.Steps.{loose_shown, pointer_in, pointer_out}

abbrev stayed : Stays f.ended.signature.params f.ended.kept
stayed = (stay_dropped (RefOf (0 ∷ []) tt (plain (λ _. L)) (λ _. tt)) yes, tt)

pub node_spec : {M : Type 1} → statement M
node_spec 𝓤 𝓛 𝓜 𝓡 wired =
    let c = f.clauses 𝓛 𝓜.mem 𝓡.returns in let 𝓣 = tables 𝓤 𝓛.H 𝓜 𝓡 𝓡.env in
    proved_at 𝓛 f.ended stayed c 𝓜 𝓡 (Goes-dropped 𝓛 1 (RefOf (0 ∷ []) tt (plain (λ _. L)) (λ _. tt)) yes (λ κs x w. refl), tt)
    f.Key.name code.function (code.unfolded 𝓤 𝓛.H 𝓜 𝓡 wired) (λ z are.
    let Post : Val → SProp 𝓤 = (walk_of 𝓛 f.ended stayed c).post z in
    let κ = z.0.0.0 in let q = z.0.1.0 in let self : Bor Loose = z.0.3.0 in let d = self.now in let b = self.ref_ptr.0 in let o = self.ref_ptr.1 in
    qed 𝓛 (((‵ (flft κ q) ⊛ ‵ ftrue) ⊛ ‵ (owns (types_at f.signature.params z.0.0) z.0.3 z.0.4)) ∷ ‵ ftrue ∷ []) ∵ split ! $ move ! (1 ∷ []) $
    fsplit ! $ fsplit ! $ feq_l ! (λ es. loose_shown ! d b o (λ nb no at.
    let r : Val = vptr nb no in let made : Bor ChainNode = record { ref_ptr = (nb, no); now = d.node } in
    -- [the pointer; the node; nothing; the token and nothing; nothing]
    move ! (3 ∷ []) $ split ! $ move ! (2 ∷ 0 ∷ []) $
    regoal ! (λ (us : List Val). prop (WpFn 𝓤 𝓛.H 𝓣.C 𝓣.Λ code.function us Post)) (λ j. es j ++ []) refl $
    enter ! 𝓣.C 𝓣.Λ code.function (vptr b o ∷ []) Post $ alloc_all ! (λ l. pass_all ! refl ((tt, tt), tt) $ let En : Env 𝓤 𝓛.H = env code.function.locals l in
    pointer_in ! tt d.at b (o + 0) (λ part.
    rewrite ! 0 (λ (p : Ptr). ‵ (fat part ty_ptr b (o + 0) (ptr_val p))) at refl $
    first ! $ blocks ! $ sets_last ! (addr ! (through ! refl (fld ! refl (hop ! (look ! 0 refl) (stop !))))) refl (tt, tt) $
    exec ! 𝓣.C 𝓣.Λ En (after 1 code.function.body) (at_ret En Post) $ sets ! (of_opd ! (get ! refl)) refl (tt, tt) $
    rewrite ! 0 (λ (p : Ptr). ‵ (fat part ty_ptr b (o + 0) (ptr_val p))) (sym at) refl $ pointer_out ! tt d.at b (o + 0) $
    returns ! (look_at ! 0 refl) $ free_all ! refl $
    use0 𝓛 (raw (fact 𝓤 (d.node ≡ d.node))) (fact_i 𝓤 (d.node ≡ d.node) (emp 𝓤) refl) $ move ! (3 ∷ []) $ feq_i ! (List Val) (r ∷ []) (r ∷ []) refl $ fjoin ! $
    nothing ! $ nothing ! $ fjoin ! $ nothing ! $ move ! (4 ∷ 0 ∷ []) $ join ! $ keep ! (0 ∷ 1 ∷ 2 ∷ 3 ∷ []) $
    by ! (leaves 𝓛 f.ended stayed c z r made (tt, tt) (tt, tt)))))))
