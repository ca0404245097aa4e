-- `one` takes the node over.
use Rattle.std.proofs.Common.{◌≡◌, List, [], ◌∷◌, ◌++◌, refl}
use mir.Val.{Val}
use base.Logic.{SProp, emp}
use base.Fml.{ftrue}
use prog.Wp.{WpFn}
use contract.Monad.{fact, fact_i}
use contract.Running.{tables}
use types.Kit.{‵, raw, ◌⊛◌, prop, ◌$◌, ◌∵◌, !, qed, by, move, drop, keep, use0, split, fsplit, fjoin, regoal}
use types.Part.{whole, sub, agg}
use types.Run.{stop, fld, of_opd, and_then, no_more, returns, enter}
use types.ByLocal.{alloc_all, pass_all, free_all, look_at, get, get_in, sets}
use denote.Exit.{yes}
use denote.RattleType.{owns}
use denote.Signature.{plain, types_at}
use denote.Steps.{nothing}
use denote.Triple.Walked.{Stays, stay_dropped, walk_of, Goes-dropped}
use Rattle.std.proofs.raw_atomic.Walks.{proved_at, leaves}
use Rattle.std_alloc.proofs.RcSteps.{Ptr-Good}
use Rattle.packet_chain.specs.declared.loose.Loose.{Loose}
use Rattle.packet_chain.specs.contracts.loose.Loose.{the_row as L}
use Rattle.packet_chain.specs.contracts.nodes.ChainNodes.one as f
use Rattle.packet_chain.proofs.nodes.ChainNodes.one.Statement.{statement}
use Rattle.packet_chain.proofs.nodes.ChainNodes.one.Code as code
use Rattle.packet_chain.specs.declared.nodes.ChainNodes.{ChainNodes}
use Rattle.packet_chain.specs.Links.{Link}
use Rattle.packet_chain.proofs.Steps.{loose_val, loose_typed, loose_had, nodes_val, nodes_typed, nodes_made}

abbrev stayed : Stays f.ended.signature.params f.ended.kept
stayed = (stay_dropped (plain (λ _. L)) yes, tt)

pub one_spec : {M : Type 1} → statement M
one_spec 𝓤 𝓛 𝓜 𝓡 wired =
    let c = f.clauses 𝓛 𝓜.mem 𝓡.returns in let 𝓣 = tables 𝓤 𝓛.H 𝓜 𝓡 𝓡.env in
    proved_at 𝓛 f.ended stayed c 𝓜 𝓡 (Goes-dropped 𝓛 0 (plain (λ _. L)) yes (λ κs x w. refl), tt)
    f.Key.name code.function (code.unfolded 𝓤 𝓛.H 𝓜 𝓡 wired) (λ z are.
    let Post : Val → SProp 𝓤 = (walk_of 𝓛 f.ended stayed c).post z in
    let d : Loose = z.0.3.0 in let links : List Link = (d.at, d.node) ∷ [] in
    let made : ChainNodes = record { head = d.at; tail = d.at; links = links; linked = ∣ (refl, refl) ∣₁ } in
    qed 𝓛 ((‵ ftrue ⊛ ‵ (owns (types_at f.signature.params tt) z.0.3 z.0.4)) ∷ ‵ ftrue ∷ []) ∵ split ! $ drop ! $
    fsplit ! $ loose_had ! d z.0.4.0 (λ hv ds fa.
    -- [the node; the handle]
    regoal ! (λ (us : List Val). prop (WpFn 𝓤 𝓛.H 𝓣.C 𝓣.Λ code.function us Post)) (λ i. ds i ++ []) refl $
    enter ! 𝓣.C 𝓣.Λ code.function (loose_val d.at hv ∷ []) Post $ alloc_all ! (λ l. pass_all ! refl (loose_typed d.at hv fa, tt) $
    sets ! (of_opd ! (get_in ! (fld ! refl (stop !)) (sub ! 0 refl (whole !)))) refl (Ptr-Good d.at) $
    sets ! (agg ! (and_then ! (get ! refl) (and_then ! (get ! refl) (no_more !)))) refl (nodes_typed d.at d.at) $
    returns ! (look_at ! 0 refl) $ free_all ! refl $
    nothing ! $ move ! (1 ∷ 0 ∷ []) $ fjoin ! $ nodes_made ! made $
    use0 𝓛 (raw (fact 𝓤 (links ≡ (d.at, d.node) ∷ []))) (fact_i 𝓤 (links ≡ (d.at, d.node) ∷ []) (emp 𝓤) refl) $
    nothing ! $ nothing ! $ nothing ! $ fjoin ! $ keep ! (1 ∷ 0 ∷ 3 ∷ 2 ∷ []) $
    by ! (leaves 𝓛 f.ended stayed c z (nodes_val d.at d.at) made (tt, tt) (tt, tt)))))
