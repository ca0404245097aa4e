-- `head` reads the first pointer.
use Rattle.std.proofs.Common.{◌≡◌, ◌+◌, List, [], ◌∷◌, ◌++◌, refl}
use mir.Val.{Val, vptr}
use base.Logic.{SProp, emp}
use base.Fml.{ftrue, flft}
use prog.Wp.{WpFn}
use contract.Monad.{fact, fact_i}
use contract.Running.{tables}
use types.Kit.{‵, raw, ◌⊛◌, prop, ◌$◌, ◌∵◌, !, qed, by, move, keep, use0, split, join, fsplit, fjoin, feq_l, regoal}
use types.Part.{agg}
use types.Run.{look, stop, fld, load, of_opd, and_then, no_more, returns, enter}
use types.ByLocal.{alloc_all, pass_all, free_all, look_at, get, through, sets}
use denote.Builtin.{RefOf}
use denote.Exit.{yes}
use denote.RattleType.{owns}
use denote.Ref.{Bor}
use denote.Signature.{plain, types_at}
use denote.Steps.{nothing}
use denote.Triple.Walked.{Stays, stay_dropped, walk_of, Goes-dropped}
use Rattle.std.proofs.raw_atomic.Walks.{proved_at, leaves}
use Rattle.std_alloc.proofs.RcSteps.{Ptr-Good}
use Rattle.packet_chain.specs.declared.node.NodePointer.{NodePointer}
use Rattle.packet_chain.specs.declared.nodes.ChainNodes.{ChainNodes}
use Rattle.packet_chain.specs.contracts.nodes.ChainNodes.{the_row as R}
use Rattle.packet_chain.specs.contracts.nodes.ChainNodes.head as f
use Rattle.packet_chain.proofs.nodes.ChainNodes.head.Statement.{statement}
use Rattle.packet_chain.proofs.nodes.ChainNodes.head.Code as code
use Rattle.packet_chain.specs.Links.{place_of}
use Rattle.packet_chain.proofs.Linked.{IsLinked-had, head_is}
use Rattle.packet_chain.proofs.Steps.{place_val, place_typed, place_made, head_shown, pointer_in, pointer_out}

abbrev stayed : Stays f.ended.signature.params f.ended.kept
stayed = (stay_dropped (RefOf (0 ∷ []) tt (plain (λ _. R)) (λ _. tt)) yes, tt)

pub head_spec : {M : Type 1} → statement M
head_spec 𝓤 𝓛 𝓜 𝓡 wired =
    let c = f.clauses 𝓛 𝓜.mem 𝓡.returns in let 𝓣 = tables 𝓤 𝓛.H 𝓜 𝓡 𝓡.env in
    proved_at 𝓛 f.ended stayed c 𝓜 𝓡 (Goes-dropped 𝓛 1 (RefOf (0 ∷ []) tt (plain (λ _. R)) (λ _. tt)) yes (λ κs x w. refl), tt)
    f.Key.name code.function (code.unfolded 𝓤 𝓛.H 𝓜 𝓡 wired) (λ z are.
    let Post : Val → SProp 𝓤 = (walk_of 𝓛 f.ended stayed c).post z in
    let κ = z.0.0.0 in let q = z.0.1.0 in let self : Bor ChainNodes = z.0.3.0 in let d = self.now in let b = self.ref_ptr.0 in let o = self.ref_ptr.1 in
    let made : NodePointer = record { at = d.head } in
    let first : d.head ≡ place_of d.links 0 = head_is d.head d.tail d.links (IsLinked-had d.head d.tail d.links d.linked) in
    qed 𝓛 (((‵ (flft κ q) ⊛ ‵ ftrue) ⊛ ‵ (owns (types_at f.signature.params z.0.0) z.0.3 z.0.4)) ∷ ‵ ftrue ∷ []) ∵ split ! $ move ! (1 ∷ []) $
    fsplit ! $ fsplit ! $ feq_l ! (λ es. head_shown ! d b o $ move ! (2 ∷ []) $ split ! $ move ! (2 ∷ 0 ∷ []) $
    regoal ! (λ (us : List Val). prop (WpFn 𝓤 𝓛.H 𝓣.C 𝓣.Λ code.function us Post)) (λ j. es j ++ []) refl $
    enter ! 𝓣.C 𝓣.Λ code.function (vptr b o ∷ []) Post $ alloc_all ! (λ m. pass_all ! refl ((tt, tt), tt) $
    pointer_in ! tt d.head b (o + 0) (λ part.
    sets ! (of_opd ! (load ! (through ! refl (fld ! refl (stop !))) (look ! 0 refl))) refl (Ptr-Good d.head) $
    sets ! (agg ! (and_then ! (get ! refl) (no_more !))) refl (place_typed d.head) $ pointer_out ! tt d.head b (o + 0) $
    returns ! (look_at ! 0 refl) $ free_all ! refl $
    use0 𝓛 (raw (fact 𝓤 (d.head ≡ place_of d.links 0))) (fact_i 𝓤 (d.head ≡ place_of d.links 0) (emp 𝓤) first) $ place_made ! made $
    nothing ! $ nothing ! $ fjoin ! $ nothing ! $ move ! (4 ∷ 0 ∷ []) $ join ! $ keep ! (0 ∷ 1 ∷ 2 ∷ 3 ∷ []) $
    by ! (leaves 𝓛 f.ended stayed c z (place_val d.head) made (tt, tt) (tt, tt))))))
