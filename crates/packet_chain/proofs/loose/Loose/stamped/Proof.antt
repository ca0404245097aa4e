-- `stamped` writes the stamp in the node.
use Rattle.std.proofs.Common.{◌≡◌, ℕ, List, [], ◌∷◌, ◌++◌, refl, ap}
use mir.Val.{Val, vint}
use mir.Syntax.{w64}
use base.Logic.{SProp, emp}
use base.Fml.{ftrue}
use prog.Wp.{Env, WpFn}
use contract.Monad.{fact, fact_i}
use contract.Running.{tables}
use types.Kit.{‵, raw, ◌⊛◌, prop, at_ret, ◌$◌, ◌∵◌, !, qed, by, drop, keep, use0, split, fsplit, fjoin, regoal}
use types.Part.{whole, sub, agg, store_in}
use types.Run.{stop, fld, of_opd, and_then, no_more, assigns_last, first, blocks, exec, returns, enter}
use types.ByLocal.{alloc_all, pass_all, free_all, look_at, get, get_in, through, sets, is, env}
use denote.Builtin.{u64}
use denote.Exit.{yes}
use denote.RattleType.{owns}
use denote.RawPtr.{block_ptr, ptr_val}
use denote.Signature.{plain, types_at}
use denote.Steps.{nothing}
use denote.Triple.Walked.{Stays, stay_dropped, walk_of, Goes-dropped}
use Rattle.std.proofs.raw_atomic.Walks.{proved_at, leaves}
use Rattle.std_alloc.proofs.VecSteps.Shapes.{after}
use Rattle.packet_chain.specs.declared.node.ChainNode.{ChainNode}
use Rattle.packet_chain.specs.declared.loose.Loose.{Loose}
use Rattle.packet_chain.specs.contracts.loose.Loose.{the_row as L}
use Rattle.packet_chain.specs.contracts.loose.Loose.stamped as f
use Rattle.packet_chain.proofs.loose.Loose.stamped.Statement.{statement}
use Rattle.packet_chain.proofs.loose.Loose.stamped.Code as code
use Rattle.packet_chain.proofs.Steps.{loose_val, loose_typed, loose_had, loose_made, link_out, link_in, Fits-stamped}

abbrev stayed : Stays f.ended.signature.params f.ended.kept
stayed = (stay_dropped (plain (λ _. L)) yes, (stay_dropped (plain (λ _. u64)) yes, tt))

pub stamped_spec : {M : Type 1} → statement M
stamped_spec 𝓤 𝓛 𝓜 𝓡 wired =
    let c = f.clauses 𝓛 𝓜.mem 𝓡.returns in let 𝓣 = tables 𝓤 𝓛.H 𝓜 𝓡 𝓡.env in
    proved_at 𝓛 f.ended stayed c 𝓜 𝓡 (Goes-dropped 𝓛 0 (plain (λ _. L)) yes (λ κs x w. refl), (Goes-dropped 𝓛 0 (plain (λ _. u64)) yes (λ κs x w. refl), tt))
    f.Key.name code.function (code.unfolded 𝓤 𝓛.H 𝓜 𝓡 wired) (λ z are.
    let Post : Val → SProp 𝓤 = (walk_of 𝓛 f.ended stayed c).post z in
    let d : Loose = z.0.3.0 in let t : ℕ = z.0.3.1.0 in let ts = are.1.0.0 in let small = are.1.0.1 in
    let n : ChainNode = record d.node { stamp = t } in
    qed 𝓛 ((‵ ftrue ⊛ ‵ (owns (types_at f.signature.params tt) z.0.3 z.0.4)) ∷ ‵ ftrue ∷ []) ∵ split ! $ drop ! $
    fsplit ! $ loose_had ! d z.0.4.0 (λ hv ds fa. link_out ! (d.at, d.node) (λ b o at fits.
    -- [the node's memory; its right; the handle; the stamp]
    regoal ! (λ (us : List Val). prop (WpFn 𝓤 𝓛.H 𝓣.C 𝓣.Λ code.function us Post)) (λ i. ds i ++ (ts i ++ [])) refl $
    enter ! 𝓣.C 𝓣.Λ code.function (loose_val d.at hv ∷ vint w64 t ∷ []) Post $
    alloc_all ! (λ l. pass_all ! refl (loose_typed d.at hv fa, ((tt, record { fits = small }), tt)) $ let En : Env 𝓤 𝓛.H = env code.function.locals l in
    sets ! (is ! (of_opd ! (get_in ! (fld ! refl (stop !)) (sub ! 0 refl (whole !)))) (ap ptr_val at)) refl (tt, tt) $
    sets ! (of_opd ! (get_in ! (fld ! refl (stop !)) (sub ! 1 refl (whole !)))) refl fa $
    first ! $ blocks ! $ assigns_last ! (of_opd ! (get ! refl)) (through ! refl (fld ! refl (stop !))) (store_in ! 0 (sub ! 2 refl (whole !)) (tt, record { fits = small })) $
    exec ! 𝓣.C 𝓣.Λ En (after 3 code.function.body) (at_ret En Post) $
    sets ! (agg ! (and_then ! (get ! refl) (and_then ! (get ! refl) (no_more !)))) refl (loose_typed (block_ptr b o) hv fa) $
    returns ! (look_at ! 0 refl) $ free_all ! refl $
    let made : Loose = record { at = block_ptr b o; alloc = d.alloc; node = n } in
    link_in ! (block_ptr b o, n) b o refl (Fits-stamped d.node t small fits) $ loose_made ! made $
    use0 𝓛 (raw (fact 𝓤 (n ≡ n))) (fact_i 𝓤 (n ≡ n) (emp 𝓤) refl) $
    nothing ! $ nothing ! $ nothing ! $ fjoin ! $ nothing ! $ fjoin ! $ keep ! (1 ∷ 0 ∷ 3 ∷ 2 ∷ []) $
    by ! (leaves 𝓛 f.ended stayed c z (loose_val (block_ptr b o) hv) made (tt, (tt, tt)) (tt, (tt, tt)))))))
