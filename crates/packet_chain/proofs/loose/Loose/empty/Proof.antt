-- `empty` gives the node up.
use Rattle.std.proofs.Common.{List, [], ◌∷◌, ◌++◌, refl, ap}
use mir.Val.{Val}
use base.Logic.{SProp, id⊢}
use base.Fml.{ftrue}
use prog.Wp.{WpFn}
use contract.Running.{tables}
use types.Kit.{‵, ◌⊛◌, prop, ◌$◌, ◌∵◌, !, qed, by, drop, keep, use1, split, fsplit, fjoin, regoal}
use types.Part.{whole, sub, agg}
use types.Run.{stop, fld, of_opd, and_then, no_more, returns, enter}
use types.ByLocal.{alloc_all, pass_all, free_all, look_at, get, get_in, sets, is}
use denote.Exit.{yes}
use denote.RattleType.{RattleType, owns}
use denote.RawPtr.{block_ptr, ptr_val}
use denote.Signature.{plain, types_at}
use denote.Steps.{nothing}
use denote.Triple.Walked.{Stays, stay_dropped, walk_of, Goes-dropped}
use Rattle.std.proofs.raw_atomic.Walks.{proved_at, leaves}
use Rattle.std_alloc.proofs.OfVacant.{vacant_val, vacant_typed, Vacant-made}
use Rattle.std_alloc.specs.contracts.room.vacant.Vacant as V
use Rattle.std_heap.specs.contracts.Global as Heap
use Rattle.std_heap.specs.contracts.GlobalAllocator.TheImpl.{ghosts}
use Rattle.packet_chain.specs.contracts.node.ChainNode as N
use Rattle.packet_chain.specs.declared.loose.Loose.{Loose}
use Rattle.packet_chain.specs.contracts.loose.Loose.{the_row as L}
use Rattle.packet_chain.specs.contracts.loose.Loose.empty as f
use Rattle.packet_chain.proofs.loose.Loose.empty.Statement.{statement}
use Rattle.packet_chain.proofs.loose.Loose.empty.Code as code
use Rattle.packet_chain.proofs.Steps.{heap, loose_val, loose_typed, loose_had, link_out, emptied}

abbrev Room : RattleType
Room = V.the_row N.the_row Heap.the_row ghosts

abbrev stayed : Stays f.ended.signature.params f.ended.kept
stayed = (stay_dropped (plain (λ _. L)) yes, tt)

pub empty_spec : {M : Type 1} → statement M
empty_spec 𝓤 𝓛 𝓜 𝓡 wired =
    let c = f.clauses 𝓛 𝓜.mem 𝓡.returns in let 𝓣 = tables 𝓤 𝓛.H 𝓜 𝓡 𝓡.env in
    proved_at 𝓛 f.ended stayed c 𝓜 𝓡 (Goes-dropped 𝓛 0 (plain (λ _. L)) yes (λ κs x w. refl), tt)
    f.Key.name code.function (code.unfolded 𝓤 𝓛.H 𝓜 𝓡 wired) (λ z are.
    let Post : Val → SProp 𝓤 = (walk_of 𝓛 f.ended stayed c).post z in
    let d : Loose = z.0.3.0 in
    qed 𝓛 ((‵ ftrue ⊛ ‵ (owns (types_at f.signature.params tt) z.0.3 z.0.4)) ∷ ‵ ftrue ∷ []) ∵ split ! $ drop ! $
    fsplit ! $ loose_had ! d z.0.4.0 (λ hv ds fa. link_out ! (d.at, d.node) (λ b o at fits.
    -- [the node's memory; its right; the handle]
    regoal ! (λ (us : List Val). prop (WpFn 𝓤 𝓛.H 𝓣.C 𝓣.Λ code.function us Post)) (λ i. ds i ++ []) refl $
    enter ! 𝓣.C 𝓣.Λ code.function (loose_val d.at hv ∷ []) Post $ alloc_all ! (λ l. pass_all ! refl (loose_typed d.at hv fa, tt) $
    sets ! (is ! (of_opd ! (get_in ! (fld ! refl (stop !)) (sub ! 0 refl (whole !)))) (ap ptr_val at)) refl (tt, tt) $
    sets ! (of_opd ! (get_in ! (fld ! refl (stop !)) (sub ! 1 refl (whole !)))) refl fa $
    sets ! (agg ! (and_then ! (get ! refl) (and_then ! (get ! refl) (no_more !)))) refl (vacant_typed heap N.the_row hv b o fa) $
    returns ! (look_at ! 0 refl) $ free_all ! refl $
    emptied ! d.node b o $ Vacant-made heap N.the_row ! d.alloc b o $
    let made : Room.Denot = record { ptr = block_ptr b o; alloc = d.alloc } in
    use1 𝓛 (‵ (Room.own_val made (vacant_val hv b o ∷ []))) (id⊢ 𝓤 _) $
    nothing ! $ nothing ! $ nothing ! $ nothing ! $ fjoin ! $ keep ! (1 ∷ 0 ∷ 3 ∷ 2 ∷ []) $
    by ! (leaves 𝓛 f.ended stayed c z (vacant_val hv b o) made (tt, tt) (tt, tt))))))
