-- `node` shows a node that the chain lends.
use Rattle.std.proofs.Common.{◌≡◌, ℕ, ◌<◌, List, [], ◌∷◌, ◌++◌, length, Some, refl, sym, ap, ◌∙◌}
use Rattle.std.specs.Prelude.{slice_get}
use mir.Syntax.{w64}
use mir.Val.{Val, vint, vptr}
use base.Logic.{SProp, emp}
use base.Fml.{ftrue, flft}
use prog.Wp.{Env, WpFn}
use contract.Monad.{fact, fact_i}
use contract.Running.{tables}
use types.Kit.{‵, raw, ◌⊛◌, prop, at_ret, ◌$◌, ◌∵◌, !, qed, by, move, drop, keep, use0, split, fsplit, fjoin, feq_i, feq_l, flt_l, regoal}
use types.Part.{whole, sub}
use types.Run.{stop, hop, fld, from, of_opd, addr, first, blocks, exec, returns, enter}
use types.ByLocal.{alloc_all, pass_all, free_all, look_at, look_in_at, get, sets, sets_last, env}
use denote.Builtin.{RefOf, usize}
use denote.Exit.{yes}
use denote.RattleType.{owns}
use denote.RawPtr.{Ptr, block_ptr}
use denote.Ref.{Bor}
use denote.Signature.{plain, types_at}
use denote.Steps.{nothing, heard}
use denote.Triple.Walked.{Stays, stay_dropped, walk_of, Goes-dropped}
use Rattle.std.proofs.raw_atomic.Walks.{proved_at, leaves}
use Rattle.std_alloc.proofs.VecSteps.Shapes.{after}
use Rattle.packet_chain.specs.declared.node.ChainNode.{ChainNode}
use Rattle.packet_chain.specs.contracts.node.NodePointer as P
use Rattle.packet_chain.specs.declared.nodes.ChainNodes.{ChainNodes}
use Rattle.packet_chain.specs.contracts.nodes.ChainNodes.{the_row as R}
use Rattle.packet_chain.specs.contracts.nodes.ChainNodes.node as f
use Rattle.packet_chain.proofs.nodes.ChainNodes.node.Statement.{statement}
use Rattle.packet_chain.proofs.nodes.ChainNodes.node.Code as code
use Rattle.packet_chain.specs.Links.{Link, place_of}
use Rattle.packet_chain.proofs.Linked.{link_at}
use Rattle.packet_chain.proofs.Steps.{place_val, place_typed, place_had, node_shown}

abbrev stayed : Stays f.ended.signature.params f.ended.kept
stayed = (stay_dropped (RefOf (0 ∷ []) tt (plain (λ _. R)) (λ _. tt)) yes, (stay_dropped (plain (λ _. P.the_row)) yes, (stay_dropped (plain (λ _. usize)) yes, tt)))

pub node_spec : {M : Type 1} → statement M
node_spec 𝓤 𝓛 𝓜 𝓡 wired =
    let c = f.clauses 𝓛 𝓜.mem 𝓡.returns in let 𝓣 = tables 𝓤 𝓛.H 𝓜 𝓡 𝓡.env in
    proved_at 𝓛 f.ended stayed c 𝓜 𝓡 (
      Goes-dropped 𝓛 1 (RefOf (0 ∷ []) tt (plain (λ _. R)) (λ _. tt)) yes (λ κs x w. refl),
      (Goes-dropped 𝓛 1 (plain (λ _. P.the_row)) yes (λ κs x w. refl), (Goes-dropped 𝓛 1 (plain (λ _. usize)) yes (λ κs x w. refl), tt)),
    )
    f.Key.name code.function (code.unfolded 𝓤 𝓛.H 𝓜 𝓡 wired) (λ z are.
    let Post : Val → SProp 𝓤 = (walk_of 𝓛 f.ended stayed c).post z in
    let κ = z.0.0.0 in let q = z.0.1.0 in let self : Bor ChainNodes = z.0.3.0 in let d = self.now in let place = z.0.3.1.0 in let i : ℕ = z.0.3.1.1.0 in
    let Asked = (i < length d.links) × (place.at ≡ place_of d.links i) in
    qed 𝓛 (((‵ (flft κ q) ⊛ ‵ ftrue) ⊛ ‵ (owns (types_at f.signature.params z.0.0) z.0.3 z.0.4)) ∷ raw (fact 𝓤 Asked) ∷ []) ∵ move ! (1 ∷ []) $ heard ! Asked (λ asked. split ! $ move ! (1 ∷ []) $
    fsplit ! $ fsplit ! $ feq_l ! (λ es. move ! (1 ∷ []) $ fsplit ! $ place_had ! place z.0.4.1.0 (λ ps. fsplit ! $ fsplit ! $ feq_l ! (λ ns. flt_l ! (λ small. drop ! $
    let b = self.ref_ptr.0 in let o = self.ref_ptr.1 in let found = link_at d.links i asked.0 in let l : Link = found.0 in
    -- [what the `&` shows; the token]
    node_shown ! d b o i asked.0 (λ nb no at.
    let ep : place.at ≡ block_ptr nb no = asked.1 ∙ found.2 ∙ at in
    let shown : slice_get d.links i ≡ Some (place.at, l.1) = found.1 ∙ ap (λ (p : Ptr). Some (p, l.1)) (sym (asked.1 ∙ found.2)) in
    let made : Bor ChainNode = record { ref_ptr = (nb, no); now = l.1 } in let r : Val = vptr nb no in
    regoal ! (λ (us : List Val). prop (WpFn 𝓤 𝓛.H 𝓣.C 𝓣.Λ code.function us Post)) (λ j. es j ++ ((ps ∙ ap (λ (p : Ptr). place_val p ∷ []) ep) j ++ (ns j ++ []))) refl $
    enter ! 𝓣.C 𝓣.Λ code.function (vptr b o ∷ place_val (block_ptr nb no) ∷ vint w64 i ∷ []) Post $
    alloc_all ! (λ m. pass_all ! refl ((tt, tt), (place_typed (block_ptr nb no), ((tt, record { fits = small }), tt))) $ let En : Env 𝓤 𝓛.H = env code.function.locals m in
    first ! $ blocks ! $ sets_last ! (addr ! (from ! (fld ! refl (hop ! (look_in_at ! 2 (sub ! 0 refl (whole !))) (stop !))))) refl (tt, tt) $
    exec ! 𝓣.C 𝓣.Λ En (after 1 code.function.body) (at_ret En Post) $ sets ! (of_opd ! (get ! refl)) refl (tt, tt) $
    returns ! (look_at ! 0 refl) $ free_all ! refl $ feq_i ! (List Val) (r ∷ []) (r ∷ []) refl $ fjoin ! $
    use0 𝓛 (raw (fact 𝓤 (slice_get d.links i ≡ Some (place.at, l.1)))) (fact_i 𝓤 (slice_get d.links i ≡ Some (place.at, l.1)) (emp 𝓤) shown) $
    nothing ! $ nothing ! $ fjoin ! $ nothing ! $ fjoin ! $ nothing ! $ fjoin ! $ keep ! (3 ∷ 0 ∷ 2 ∷ 1 ∷ []) $
    by ! (leaves 𝓛 f.ended stayed c z r made (tt, (tt, (tt, tt))) (tt, (tt, (tt, tt))))))))))))
