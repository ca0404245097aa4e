-- `new` owns nothing.
use Rattle.std.proofs.Common.{◌≡◌, [], ◌∷◌, refl, lit<}
use base.Logic.{emp}
use base.Fml.{ftrue}
use contract.Monad.{fact, fact_i}
use contract.Running.{tables}
use types.Kit.{‵, raw, ◌$◌, ◌∵◌, !, qed, by, move, drop, use0}
use types.Part.{agg}
use types.Run.{lit, and_then, no_more, returns, enter}
use types.ByLocal.{alloc_all, pass_all, free_all, look_at, sets}
use denote.RawPtr.{null_ptr}
use denote.Steps.{nothing}
use denote.Triple.Entry.{on_entry}
use Rattle.std.proofs.raw_atomic.Walks.{proved_at, leaves}
use Rattle.packet_chain.specs.declared.nodes.ChainNodes.{ChainNodes}
use Rattle.packet_chain.specs.contracts.nodes.ChainNodes.new as f
use Rattle.packet_chain.proofs.nodes.ChainNodes.new.Statement.{statement}
use Rattle.packet_chain.proofs.nodes.ChainNodes.new.Code as code
use Rattle.packet_chain.proofs.Steps.{nodes_val, nodes_made}

pub new_spec : {M : Type 1} → statement M
new_spec 𝓤 𝓛 𝓜 𝓡 wired =
    let c = f.clauses 𝓛 𝓜.mem 𝓡.returns in let 𝓣 = tables 𝓤 𝓛.H 𝓜 𝓡 𝓡.env in
    let made : ChainNodes = record { head = null_ptr; tail = null_ptr; links = []; linked = ∣ (refl, refl) ∣₁ } in
    proved_at 𝓛 f.ended tt c 𝓜 𝓡 tt f.Key.name code.function (code.unfolded 𝓤 𝓛.H 𝓜 𝓡 wired) (λ z are.
    qed 𝓛 (raw (on_entry 𝓛 f.signature tt tt tt tt) ∷ ‵ ftrue ∷ []) ∵ drop ! $ drop ! $
    enter ! 𝓣.C 𝓣.Λ code.function [] _ $ alloc_all ! (λ l. pass_all ! refl tt $
    sets ! (agg ! (and_then ! (lit ! tt) (and_then ! (lit ! tt) (no_more !)))) refl (tt, (record { fits = lit< tt }, (record { fits = lit< tt }, tt))) $
    returns ! (look_at ! 0 refl) $ free_all ! refl $ nothing ! $ nodes_made ! made $
    use0 𝓛 (raw (fact 𝓤 (made.links ≡ []))) (fact_i 𝓤 (made.links ≡ []) (emp 𝓤) refl) $ nothing ! $ nothing ! $ move ! (0 ∷ 1 ∷ 3 ∷ 2 ∷ []) $
    by ! (leaves 𝓛 f.ended tt c z (nodes_val null_ptr null_ptr) made tt tt)))
