-- `join` makes the last node of one chain lead to the first of the other.
use Rattle.std.proofs.Common.{◌≡◌, ◌<◌, List, [], ◌∷◌, ◌++◌, length, refl, sym, ap, subst, ◌∙◌}
use mir.Val.{Val}
use base.Logic.{SProp, emp}
use base.Fml.{ftrue}
use prog.Wp.{Env, WpFn}
use contract.Monad.{fact, fact_i}
use contract.Running.{tables}
use types.Kit.{‵, raw, ◌⊛◌, prop, at_ret, ◌$◌, ◌∵◌, !, qed, by, move, drop, keep, use0, use1, use2, split, fsplit, fjoin, regoal, rewrite}
use types.Part.{whole, sub, agg, store_in}
use types.Run.{stop, fld, of_opd, and_then, no_more, assigns_last, first, blocks, exec, returns, enter}
use types.ByLocal.{alloc_all, pass_all, free_all, look_at, get, get_in, through, sets, is, env}
use denote.Exit.{yes}
use denote.RattleType.{owns}
use denote.RawPtr.{ptr_val}
use denote.Signature.{plain, types_at}
use denote.Steps.{nothing, heard}
use denote.Triple.Walked.{Stays, stay_dropped, walk_of, Goes-dropped}
use Rattle.std.proofs.raw_atomic.Walks.{proved_at, leaves}
use Rattle.std_alloc.proofs.VecSteps.Shapes.{after}
use Rattle.std_alloc.proofs.RcSteps.{Ptr-Good}
use Rattle.packet_chain.specs.declared.nodes.ChainNodes.{ChainNodes}
use Rattle.packet_chain.specs.contracts.nodes.ChainNodes.{the_row as R}
use Rattle.packet_chain.specs.contracts.nodes.ChainNodes.join as f
use Rattle.packet_chain.proofs.nodes.ChainNodes.join.Statement.{statement}
use Rattle.packet_chain.proofs.nodes.ChainNodes.join.Code as code
use Rattle.packet_chain.specs.Links.{Link, stamped_of, IsLinked}
use Rattle.packet_chain.specs.Ownership.{nodes_own}
use Rattle.packet_chain.proofs.Linked.{IsLinked-had, leading, tail_is, IsLinked-join, stamped_of-join, unsnoc, uncons}
use Rattle.packet_chain.proofs.Steps.{nodes_val, nodes_typed, nodes_had, nodes_made, Fits-leading, append_out, append_in, link_out, link_in}

abbrev stayed : Stays f.ended.signature.params f.ended.kept
stayed = (stay_dropped (plain (λ _. R)) yes, (stay_dropped (plain (λ _. R)) yes, tt))

pub join_spec : {M : Type 1} → statement M
join_spec 𝓤 𝓛 𝓜 𝓡 wired =
    let c = f.clauses 𝓛 𝓜.mem 𝓡.returns in let 𝓣 = tables 𝓤 𝓛.H 𝓜 𝓡 𝓡.env in
    let goes = Goes-dropped 𝓛 0 (plain (λ _. R)) yes (λ κs x w. refl) in
    proved_at 𝓛 f.ended stayed c 𝓜 𝓡 (goes, (goes, tt)) f.Key.name code.function (code.unfolded 𝓤 𝓛.H 𝓜 𝓡 wired) (λ z are.
    let Post : Val → SProp 𝓤 = (walk_of 𝓛 f.ended stayed c).post z in
    let d : ChainNodes = z.0.3.0 in let e : ChainNodes = z.0.3.1.0 in
    let Asked = (0 < length d.links) × (0 < length e.links) in
    qed 𝓛 ((‵ ftrue ⊛ ‵ (owns (types_at f.signature.params tt) z.0.3 z.0.4)) ∷ raw (fact 𝓤 Asked) ∷ []) ∵ move ! (1 ∷ []) $ heard ! Asked (λ asked. split ! $ drop ! $
    fsplit ! $ nodes_had ! d z.0.4.0 (λ ds. move ! (1 ∷ []) $ fsplit ! $ nodes_had ! e z.0.4.1.0 (λ es. move ! (1 ∷ []) $ drop ! $
    let ms = unsnoc d.links asked.0 in let ks = uncons e.links asked.1 in let m = ms.1 in let p = e.head in
    let front : IsLinked d.head d.tail (ms.0 ++ m ∷ []) = subst (IsLinked d.head d.tail) ms.2 (IsLinked-had d.head d.tail d.links d.linked) in
    let behind : IsLinked p e.tail (ks.0 ∷ ks.1) = subst (IsLinked p e.tail) ks.2 (IsLinked-had p e.tail e.links e.linked) in
    let links = ms.0 ++ leading m p ∷ e.links in
    let linked : IsLinked d.head e.tail links = subst (λ (ys : List Link). IsLinked d.head e.tail (ms.0 ++ leading m p ∷ ys)) (sym ks.2) (IsLinked-join d.head d.tail p e.tail ms.0 m ks.0 ks.1 front behind) in
    let made : ChainNodes = record { head = d.head; tail = e.tail; links = links; linked = ∣ linked ∣₁ } in
    let stamped : stamped_of links ≡ stamped_of d.links ++ stamped_of e.links = stamped_of-join ms.0 m p e.links ∙ ap (λ (xs : List Link). stamped_of xs ++ stamped_of e.links) (sym ms.2) in
    -- [the other's nodes; this one's]
    move ! (1 ∷ []) $ rewrite ! 0 (λ (ls : List Link). ‵ (nodes_own ls)) ms.2 refl $ use1 𝓛 (‵ (nodes_own ms.0) ⊛ ‵ (nodes_own (m ∷ []))) (append_out 𝓛 ms.0 (m ∷ [])) $ split ! $
    move ! (1 ∷ []) $ fsplit ! $ link_out ! m (λ b o at fits.
    -- [the last node's memory; its right; nothing; those before it; the other's nodes]
    regoal ! (λ (us : List Val). prop (WpFn 𝓤 𝓛.H 𝓣.C 𝓣.Λ code.function us Post)) (λ i. ds i ++ (es i ++ [])) refl $
    enter ! 𝓣.C 𝓣.Λ code.function (nodes_val d.head d.tail ∷ nodes_val p e.tail ∷ []) Post $
    alloc_all ! (λ l. pass_all ! refl (nodes_typed d.head d.tail, (nodes_typed p e.tail, tt)) $ let En : Env 𝓤 𝓛.H = env code.function.locals l in
    sets ! (of_opd ! (get_in ! (fld ! refl (stop !)) (sub ! 0 refl (whole !)))) refl (Ptr-Good d.head) $
    sets ! (is ! (of_opd ! (get_in ! (fld ! refl (stop !)) (sub ! 1 refl (whole !)))) (ap ptr_val (tail_is d.head d.tail ms.0 m front ∙ at))) refl (tt, tt) $
    sets ! (of_opd ! (get_in ! (fld ! refl (stop !)) (sub ! 0 refl (whole !)))) refl (Ptr-Good p) $
    sets ! (of_opd ! (get_in ! (fld ! refl (stop !)) (sub ! 1 refl (whole !)))) refl (Ptr-Good e.tail) $
    first ! $ blocks ! $ assigns_last ! (of_opd ! (get ! refl)) (through ! refl (fld ! refl (stop !))) (store_in ! 0 (sub ! 0 refl (whole !)) (Ptr-Good p)) $
    exec ! 𝓣.C 𝓣.Λ En (after 5 code.function.body) (at_ret En Post) $
    sets ! (agg ! (and_then ! (get ! refl) (and_then ! (get ! refl) (no_more !)))) refl (nodes_typed d.head e.tail) $
    returns ! (look_at ! 0 refl) $ free_all ! refl $
    link_in ! (leading m p) b o at (Fits-leading m.1 p fits) $ move ! (0 ∷ 3 ∷ []) $ fjoin ! $ move ! (2 ∷ 0 ∷ []) $
    use2 𝓛 (‵ (nodes_own links)) (append_in 𝓛 ms.0 (leading m p ∷ e.links)) $ nodes_made ! made $
    use0 𝓛 (raw (fact 𝓤 (stamped_of links ≡ stamped_of d.links ++ stamped_of e.links))) (fact_i 𝓤 (stamped_of links ≡ stamped_of d.links ++ stamped_of e.links) (emp 𝓤) stamped) $
    nothing ! $ nothing ! $ nothing ! $ fjoin ! $ nothing ! $ fjoin ! $ keep ! (1 ∷ 0 ∷ 3 ∷ 2 ∷ []) $
    by ! (leaves 𝓛 f.ended stayed c z (nodes_val d.head e.tail) made (tt, (tt, tt)) (tt, (tt, tt)))))))))
