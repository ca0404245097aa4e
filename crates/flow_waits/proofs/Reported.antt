-- A flow is told to be stalled exactly where it is.
use Rattle.std.proofs.Common.{◌≡◌, ℕ, Bool, true, false, not, ◌&&◌, ◌||◌, Option, None, Some, refl, sym, subst}
use Rattle.std.specs.Prelude.{◌↔◌, if◌then◌else◌, is_none}
use Rattle.std.specs.FinMap as map
use Rattle.reno_sender.specs.declared.fields.SenderFields.{SenderFields}
use Rattle.flow_waits.specs.declared.flow_status.FlowStatus.{FlowStatus}
use Rattle.flow_waits.specs.declared.flow_status.FlowStatus.TheVariants.{NotStarted, Complete, Stalled, SentAll, SendsNoMore, MaySend}
use Rattle.flow_waits.specs.Stalled.{start_due, is_waiting, is_under_way, is_left_alone, is_unfinished, is_some_unfinished}
use Rattle.flow_waits.specs.FlowStatus.{sending_status, flow_status_of}
use Rattle.flow_waits.specs.Laws.{StalledIsReported, flow_status_in}

-- a flow that may send or not is not told to be stalled
never : (sent full : Bool) → (if sent then SentAll else (if full then SendsNoMore else MaySend)) ≡ Stalled → ⊥
never true full h = cc
never false true h = cc
never false false h = cc

-- how a flow stands by when it starts, whether bytes are to be acknowledged, and whether packets are in the net
abbrev stands : Option ℕ → Bool → Bool → FlowStatus → FlowStatus
stands (Some time) unfinished packets sending = NotStarted time
stands None unfinished packets sending = if unfinished then (if packets then sending else Stalled) else Complete

by_facts : (start : Option ℕ) (unfinished waits comes : Bool) (sending : FlowStatus) → (sending ≡ Stalled → ⊥)
    → (stands start unfinished (waits || comes) sending ≡ Stalled) ↔ (((unfinished && not waits) && (is_none start && not comes)) ≡ true)
by_facts (Some time) true true comes sending other = (λ h. cc, λ h. cc)
by_facts (Some time) true false comes sending other = (λ h. cc, λ h. cc)
by_facts (Some time) false waits comes sending other = (λ h. cc, λ h. cc)
by_facts None true true comes sending other = (λ h. absurd (other h), λ h. cc)
by_facts None true false true sending other = (λ h. absurd (other h), λ h. cc)
by_facts None true false false sending other = (λ h. refl, λ h. refl)
by_facts None false waits comes sending other = (λ h. cc, λ h. cc)

by_start : (start : Option ℕ) (waits comes : Bool) (f : SenderFields)
    → (flow_status_of start (waits || comes) f ≡ Stalled) ↔ (((is_unfinished f && not waits) && (is_none start && not comes)) ≡ true)
by_start (Some time) waits comes f = by_facts (Some time) (is_unfinished f) waits comes (sending_status f) (never _ _)
by_start None waits comes f = by_facts None (is_unfinished f) waits comes (sending_status f) (never _ _)

pub stalled_is_reported : StalledIsReported
stalled_is_reported flow state f sends =
    let pending = map.entries state.pending in
    subst (λ (o : Option SenderFields). (flow_status_in flow state f ≡ Stalled) ↔ (((is_some_unfinished o && not (is_waiting flow state.parts)) && is_left_alone flow pending) ≡ true)) (sym sends)
    (by_start (start_due flow pending) (is_waiting flow state.parts) (is_under_way flow pending) f)
