-- `fill` puts the node into the block.
use Rattle.std.proofs.Common.{◌≡◌, List, [], ◌∷◌, ◌++◌, refl, subst}
use mir.Val.{Val}
use base.Logic.{SProp, emp, id⊢}
use base.Fml.{ftrue}
use prog.Wp.{Env, WpFn}
use contract.Monad.{fact, fact_i}
use contract.Running.{tables}
use types.Kit.{‵, raw, ◌⊛◌, prop, at_ret, ◌$◌, ◌∵◌, !, qed, by, move, drop, keep, use0, use1, split, fsplit, fjoin, regoal}
use types.Part.{whole, sub, agg}
use types.Run.{init, stop, fld, of_opd, and_then, no_more, assigns_last, first, blocks, exec, returns, enter}
use types.ByLocal.{alloc_all, pass_all, free_all, look_at, get, get_in, through, sets, env}
use denote.Exit.{yes}
use denote.Memory.{lone}
use denote.RattleType.{RattleType, owns}
use denote.RawPtr.{Ptr, block_ptr}
use denote.Signature.{plain, types_at}
use denote.Steps.{nothing, facts}
use denote.Laws.{Is, Typed, shows}
use denote.Struct.Laws.{lawful, tells}
use denote.Triple.Walked.{Stays, stay_dropped, walk_of, Goes-dropped}
use Rattle.std.proofs.raw_atomic.Walks.{proved_at, leaves}
use Rattle.std_alloc.proofs.VecSteps.Shapes.{after}
use Rattle.std_alloc.proofs.RawLayout.{as_written}
use Rattle.std_alloc.proofs.OfVacant.{Vacant, vacant_val, vacant_typed, Vacant-had}
use Rattle.std_alloc.specs.contracts.room.vacant.Vacant as V
use Rattle.std_heap.specs.contracts.Global as Heap
use Rattle.std_heap.specs.contracts.GlobalAllocator.TheImpl.{ghosts}
use Rattle.packet_chain.specs.declared.node.ChainNode.{ChainNode}
use Rattle.packet_chain.specs.contracts.node.ChainNode as N
use Rattle.packet_chain.proofs.node.ChainNode.TheLaws as node
use Rattle.packet_chain.specs.declared.loose.Loose.{Loose}
use Rattle.packet_chain.specs.contracts.loose.Loose.fill as f
use Rattle.packet_chain.proofs.loose.Loose.fill.Statement.{statement}
use Rattle.packet_chain.proofs.loose.Loose.fill.Code as code
use Rattle.packet_chain.proofs.Steps.{heap, loose_val, loose_typed, loose_made, node_val, Fits, link_in}

abbrev Room : RattleType
Room = V.the_row N.the_row Heap.the_row ghosts

abbrev stayed : Stays f.ended.signature.params f.ended.kept
stayed = (stay_dropped (plain (λ _. Room)) yes, (stay_dropped (plain (λ _. N.the_row)) yes, tt))

pub fill_spec : {M : Type 1} → statement M
fill_spec 𝓤 𝓛 𝓜 𝓡 wired =
    let c = f.clauses 𝓛 𝓜.mem 𝓡.returns in let 𝓣 = tables 𝓤 𝓛.H 𝓜 𝓡 𝓡.env in
    proved_at 𝓛 f.ended stayed c 𝓜 𝓡 (Goes-dropped 𝓛 0 (plain (λ _. Room)) yes (λ κs x w. refl), (Goes-dropped 𝓛 0 (plain (λ _. N.the_row)) yes (λ κs x w. refl), tt))
    f.Key.name code.function (code.unfolded 𝓤 𝓛.H 𝓜 𝓡 wired) (λ z are.
    let Post : Val → SProp 𝓤 = (walk_of 𝓛 f.ended stayed c).post z in
    let room : Room.Denot = z.0.3.0 in let n : ChainNode = z.0.3.1.0 in
    qed 𝓛 ((‵ ftrue ⊛ ‵ (owns (types_at f.signature.params tt) z.0.3 z.0.4)) ∷ ‵ ftrue ∷ []) ∵ split ! $ drop ! $
    fsplit ! $ use1 𝓛 (‵ ((Vacant heap N.the_row).own_val room z.0.4.0)) (id⊢ 𝓤 _) $ Vacant-had heap N.the_row ! room z.0.4.0 (λ b o hv at rs fa. move ! (3 ∷ []) $
    fsplit ! $ facts ! N.the_row (Is N.the_row) (shows 𝓛 N.the_row) n z.0.4.1.0 (λ it.
    let ns = tells N.the_type node.the_laws n z.0.4.1.0 it in
    let good = (subst (Typed N.the_row.mir) ns ((lawful N.the_type node.the_laws 𝓛).typed n z.0.4.1.0 it)).0 in
    let fits : Fits n = subst (Is N.the_row n) ns it in
    let p : Ptr = block_ptr b o in
    let made : Loose = record { at = p; alloc = room.alloc; node = n } in
    drop ! $ as_written ! (lone N.the_row.mir) b o $
    -- [the room; the right to it; the handle; nothing]
    regoal ! (λ (us : List Val). prop (WpFn 𝓤 𝓛.H 𝓣.C 𝓣.Λ code.function us Post)) (λ i. rs i ++ (ns i ++ [])) refl $
    enter ! 𝓣.C 𝓣.Λ code.function (vacant_val hv b o ∷ node_val n ∷ []) Post $
    alloc_all ! (λ l. pass_all ! refl (vacant_typed heap N.the_row hv b o fa, (good, tt)) $ let En : Env 𝓤 𝓛.H = env code.function.locals l in
    sets ! (of_opd ! (get_in ! (fld ! refl (stop !)) (sub ! 0 refl (whole !)))) refl (tt, tt) $
    sets ! (of_opd ! (get_in ! (fld ! refl (stop !)) (sub ! 1 refl (whole !)))) refl fa $
    first ! $ blocks ! $ assigns_last ! (of_opd ! (get ! refl)) (through ! refl (stop !)) (init ! 0 refl good) $
    exec ! 𝓣.C 𝓣.Λ En (after 3 code.function.body) (at_ret En Post) $
    sets ! (agg ! (and_then ! (get ! refl) (and_then ! (get ! refl) (no_more !)))) refl (loose_typed p hv fa) $
    returns ! (look_at ! 0 refl) $ free_all ! refl $
    link_in ! (p, n) b o refl fits $ loose_made ! made $
    use0 𝓛 (raw (fact 𝓤 (n ≡ n))) (fact_i 𝓤 (n ≡ n) (emp 𝓤) refl) $
    nothing ! $ nothing ! $ nothing ! $ fjoin ! $ nothing ! $ fjoin ! $ keep ! (1 ∷ 0 ∷ 3 ∷ 2 ∷ []) $
    by ! (leaves 𝓛 f.ended stayed c z (loose_val p hv) made (tt, (tt, tt)) (tt, (tt, tt)))))))
