-- `cut_front` parts the first node from the others.
use Rattle.std.proofs.Common.{◌≡◌, ◌<◌, List, [], ◌∷◌, ◌++◌, length, suc, refl, ap, subst, ◌∙◌, arith}
use mir.Val.{Val}
use base.Logic.{SProp, emp}
use base.Fml.{ftrue}
use prog.Wp.{Env, WpFn}
use contract.Monad.{fact, fact_i}
use contract.Running.{tables}
use types.Kit.{‵, raw, ◌⊛◌, prop, at_ret, ◌$◌, ◌∵◌, !, qed, by, move, drop, keep, use0, use2, split, fsplit, fjoin, regoal, rewrite}
use types.Part.{whole, sub, agg, look_in}
use types.Run.{stop, fld, load, of_opd, and_then, no_more, first as first_of, blocks, exec, returns, enter}
use types.ByLocal.{alloc_all, pass_all, free_all, look_at, get, get_in, through, sets, sets_last, is, env}
use denote.Exit.{yes}
use denote.RattleType.{owns}
use denote.RawPtr.{Ptr, block_ptr, ptr_val}
use denote.Signature.{plain, types_at}
use denote.Steps.{nothing, heard}
use denote.Triple.Walked.{Stays, stay_dropped, walk_of, Goes-dropped}
use Rattle.std.proofs.raw_atomic.Walks.{proved_at, leaves}
use Rattle.core.proofs.alloc.Calls.{α, handle_tells}
use Rattle.std_alloc.proofs.RcSteps.{Ptr-Good}
use Rattle.std_alloc.proofs.VecSteps.Shapes.{after}
use Rattle.std_alloc.proofs.Pairs.{pair_val, pair_Typed, pair_of}
use denote.Struct.Tuple.{Tuple}
use mir.Syntax.{Ty, ty_ptr, ty_struct, tcons, tnil}
use Rattle.std_heap.specs.contracts.Global as Heap
use Rattle.packet_chain.specs.declared.loose.Loose.{Loose}
use Rattle.packet_chain.specs.contracts.loose.Loose as L
use Rattle.packet_chain.specs.declared.nodes.ChainNodes.{ChainNodes}
use Rattle.packet_chain.specs.contracts.nodes.ChainNodes.{the_row as R, the_type}
use Rattle.packet_chain.specs.contracts.nodes.ChainNodes.cut_front as f
use Rattle.packet_chain.proofs.nodes.ChainNodes.cut_front.Statement.{statement}
use Rattle.packet_chain.proofs.nodes.ChainNodes.cut_front.Code as code
use Rattle.packet_chain.specs.Links.{Link, IsLinked}
use Rattle.packet_chain.specs.Ownership.{nodes_own}
use Rattle.packet_chain.proofs.Linked.{IsLinked-had, IsLinked-tail, head_is, uncons}
use Rattle.packet_chain.proofs.Steps.{heap, nodes_val, nodes_typed, nodes_had, nodes_made, loose_val, loose_typed, loose_made, link_out, link_in}

abbrev loose_ty : Ty
loose_ty = ty_struct L.the_type.name (tcons ty_ptr (tcons (α heap) tnil))

abbrev rest_ty : Ty
rest_ty = ty_struct the_type.name (tcons ty_ptr (tcons ty_ptr tnil))

abbrev stayed : Stays f.ended.signature.params f.ended.kept
stayed = (stay_dropped (plain (λ _. R)) yes, (stay_dropped (plain (λ _. Heap.the_row)) yes, tt))

pub cut_front_spec : {M : Type 1} → statement M
cut_front_spec 𝓤 𝓛 𝓜 𝓡 wired =
    let c = f.clauses 𝓛 𝓜.mem 𝓡.returns in let 𝓣 = tables 𝓤 𝓛.H 𝓜 𝓡 𝓡.env in
    proved_at 𝓛 f.ended stayed c 𝓜 𝓡 (Goes-dropped 𝓛 0 (plain (λ _. R)) yes (λ κs x w. refl), (Goes-dropped 𝓛 0 (plain (λ _. Heap.the_row)) yes (λ κs x w. refl), tt))
    f.Key.name code.function (code.unfolded 𝓤 𝓛.H 𝓜 𝓡 wired) (λ z are.
    let Post : Val → SProp 𝓤 = (walk_of 𝓛 f.ended stayed c).post z in
    let d : ChainNodes = z.0.3.0 in let a = z.0.3.1.0 in
    let Asked = 1 < length d.links in
    qed 𝓛 ((‵ ftrue ⊛ ‵ (owns (types_at f.signature.params tt) z.0.3 z.0.4)) ∷ raw (fact 𝓤 Asked) ∷ []) ∵ move ! (1 ∷ []) $ heard ! Asked (λ asked. split ! $ drop ! $
    fsplit ! $ nodes_had ! d z.0.4.0 (λ ds. move ! (1 ∷ []) $ fsplit ! $ handle_tells heap ! a z.0.4.1.0 (λ hv hs fa. move ! (1 ∷ []) $ drop ! $
    let ms = uncons d.links (omega (arith, asked)) in let m = ms.0 in let p = m.1.next in
    let long : length d.links ≡ suc (length ms.1) = ap length ms.2 in
    let linked : IsLinked d.head d.tail (m ∷ ms.1) = subst (IsLinked d.head d.tail) ms.2 (IsLinked-had d.head d.tail d.links d.linked) in
    let first = head_is d.head d.tail (m ∷ ms.1) linked in
    let rest : ChainNodes = record { head = p; tail = d.tail; links = ms.1; linked = ∣ IsLinked-tail d.head d.tail m ms.1 (omega (arith, asked, long)) linked ∣₁ } in
    -- [the handle; the nodes]
    move ! (1 ∷ []) $ rewrite ! 0 (λ (ls : List Link). ‵ (nodes_own ls)) ms.2 refl $ fsplit ! $ link_out ! m (λ b o at fits.
    -- [the node's memory; its right; the others; the handle]
    regoal ! (λ (us : List Val). prop (WpFn 𝓤 𝓛.H 𝓣.C 𝓣.Λ code.function us Post)) (λ i. ds i ++ (hs i ++ [])) refl $
    enter ! 𝓣.C 𝓣.Λ code.function (nodes_val d.head d.tail ∷ hv ∷ []) Post $
    alloc_all ! (λ l. pass_all ! refl (nodes_typed d.head d.tail, (fa, tt)) $ let En : Env 𝓤 𝓛.H = env code.function.locals l in
    sets ! (is ! (of_opd ! (get_in ! (fld ! refl (stop !)) (sub ! 0 refl (whole !)))) (ap ptr_val (first ∙ at))) refl (tt, tt) $
    sets ! (of_opd ! (get_in ! (fld ! refl (stop !)) (sub ! 1 refl (whole !)))) refl (Ptr-Good d.tail) $
    first_of ! $ blocks ! $ sets_last ! (of_opd ! (load ! (through ! refl (fld ! refl (stop !))) (look_in ! 0 (sub ! 0 refl (whole !))))) refl (Ptr-Good p) $
    exec ! 𝓣.C 𝓣.Λ En (after 3 code.function.body) (at_ret En Post) $
    sets ! (of_opd ! (get ! refl)) refl (Ptr-Good p) $
    let cut_good = loose_typed (block_ptr b o) hv fa in let rest_good = nodes_typed p d.tail in
    sets ! (agg ! (and_then ! (get ! refl) (and_then ! (get ! refl) (no_more !)))) refl cut_good $
    sets ! (agg ! (and_then ! (get ! refl) (and_then ! (get ! refl) (no_more !)))) refl rest_good $
    sets ! (agg ! (and_then ! (get ! refl) (and_then ! (get ! refl) (no_more !)))) refl (pair_Typed loose_ty rest_ty (loose_val (block_ptr b o) hv) (nodes_val p d.tail) cut_good rest_good) $
    returns ! (look_at ! 0 refl) $ free_all ! refl $
    let made : Loose = record { at = block_ptr b o; alloc = a; node = m.1 } in
    let parts : d.links ≡ (block_ptr b o, m.1) ∷ ms.1 = ms.2 ∙ ap (λ (r : Ptr). (r, m.1) ∷ ms.1) at in
    -- [the node's memory; its right; the others; the handle]
    link_in ! (block_ptr b o, m.1) b o refl fits $ move ! (0 ∷ 2 ∷ []) $ loose_made ! made $ move ! (1 ∷ []) $ nodes_made ! rest $ move ! (1 ∷ 0 ∷ []) $
    use2 𝓛 (‵ ((Tuple (L.the_row ∷ R ∷ [])).own_val (made, rest) (pair_val (loose_val (block_ptr b o) hv) (nodes_val p d.tail) ∷ []))) (pair_of 𝓛 L.the_row R made rest (loose_val (block_ptr b o) hv) (nodes_val p d.tail)) $
    use0 𝓛 (raw (fact 𝓤 (d.links ≡ (block_ptr b o, m.1) ∷ ms.1))) (fact_i 𝓤 (d.links ≡ (block_ptr b o, m.1) ∷ ms.1) (emp 𝓤) parts) $
    nothing ! $ nothing ! $ nothing ! $ fjoin ! $ nothing ! $ fjoin ! $ keep ! (1 ∷ 0 ∷ 3 ∷ 2 ∷ []) $
    by ! (leaves 𝓛 f.ended stayed c z (pair_val (loose_val (block_ptr b o) hv) (nodes_val p d.tail)) (made, rest) (tt, (tt, tt)) (tt, (tt, tt)))))))))
