-- Packets that come over a link, at one key.
use Rattle.std.proofs.Common.{◌≡◌, ◌≤◌, ◌+◌, ℕ, List, [], ◌∷◌, true, false, cond, Option, Some, None, refl, sym, ap, ◌∙◌, arith}
use Rattle.std.specs.Option.{option_or}
use Rattle.std.specs.FinMap.{get, find, get-from_entries}
use Rattle.sim_time.specs.declared.key.Key.{Key}
use Rattle.sim_time.specs.Keys.{key_cmp}
use Rattle.sim_time.proofs.Order.{keys_total}
use Rattle.packet_chain.specs.Stamped.{Stamped}
use Rattle.tournament.specs.Keyed.{apply, entering}
use Rattle.tournament.proofs.Maps.{untied}
use Rattle.node_core.specs.declared.event.Event.{Event}
use Rattle.node_core.specs.declared.event.Event.TheVariants.{Arrive}
use Rattle.node_core.specs.Timers.{arrival_key}
use Rattle.node_core.specs.Pending.{Events}
use Rattle.node_core.specs.WireState.{WireState, arrivals, arrivals_on, pending_on}
use Rattle.window_law.proofs.Changes.{same, same_is, over, get-apply}

-- keys of later numbers
none_before : (node link before : ℕ) (q : List Stamped) (k : Key) → k.number ≤ before → find key_cmp k (arrivals node link before q) ≡ None
none_before node link before [] k upto = refl
none_before node link before (a ∷ q) k upto =
    ap (λ b. cond b (Some (Arrive a.0)) (find key_cmp k (arrivals node link (before + 1) q))) (untied k (arrival_key node link a.1 (before + 1)) (λ e. let n : k.number ≡ before + 1 = ap (λ (z : Key). z.number) e in absurd (omega (arith, n, upto))))
    ∙ none_before node link (before + 1) q k (omega (arith, upto))

over_arrivals : (node link before : ℕ) (q : List Stamped) (k : Key) (x : Option Event) → over (entering (arrivals node link before q)) k x ≡ option_or (find key_cmp k (arrivals node link before q)) x
over_arrivals node link before [] k x = refl
over_arrivals node link before (a ∷ q) k x =
    let key = arrival_key node link a.1 (before + 1) in
    elim (same k key) as (λ b. same k key ≡ b → over (entering (arrivals node link (before + 1) q)) k (cond b (Some (Arrive a.0)) x) ≡ option_or (cond b (Some (Arrive a.0)) (find key_cmp k (arrivals node link (before + 1) q))) x) [
      | true ↦ λ t.
          over_arrivals node link (before + 1) q k (Some (Arrive a.0))
          ∙ ap (λ o. option_or o (Some (Arrive a.0))) (none_before node link (before + 1) q k (let n : k.number ≡ before + 1 = ap (λ (z : Key). z.number) (same_is k key t) in omega (arith, n)))
      | false ↦ λ t. over_arrivals node link (before + 1) q k x
    ] refl

pub get_arriving : (w : WireState) (m : Events) (k : Key) → get (apply (entering (arrivals_on w)) m) k ≡ option_or (get (pending_on w) k) (get m k)
get_arriving w m k =
    get-apply (entering (arrivals_on w)) m k
    ∙ over_arrivals w.node w.link w.taken w.under_way k (get m k)
    ∙ ap (λ o. option_or o (get m k)) (sym (get-from_entries keys_total (arrivals_on w) k))
