-- The laws of every state, from its soundness.
use Rattle.std.proofs.Common.{◌≡◌, ℕ, ◌*◌, ◌%◌, ◌<◌, ◌≤◌, true, false, sym, ap, subst, ◌∙◌, Some, arith, ⊎_elim, true≢false}
use Rattle.std.specs.Option.{IfSome}
use Rattle.std.proofs.lemmas.Bool.{cases_Bool}
use Rattle.std.specs.FinMap as finmap
use Rattle.scenario_image.specs.declared.parts.FlowPart.{FlowPart}
use Rattle.reno_receiver.specs.Received.{ReceiverState, IsReceived, is_received, next_of}
use Rattle.reno_receiver.proofs.Laws.{next_holds}
use Rattle.node_core.specs.declared.timer.Timer.TheVariants.{Retransmission}
use Rattle.node_core.specs.declared.event.Event.TheVariants.{Rto}
use Rattle.node_core.specs.Timers.{timer_key}
use Rattle.node_core.specs.Part.{LinkState, no_link}
use Rattle.table_run.specs.State.{State, part_at}
use Rattle.table_run.specs.Flow.{deadline_of, IsSoundFlow}
use Rattle.table_run.specs.Sound.{IsSoundLink}
use Rattle.table_run.proofs.Lists.{all_here}
use Rattle.table_run.proofs.Moved.{node_there}
use Rattle.table_run.proofs.RunLaws.{sound_run}
use Rattle.run_laws.specs.Laws.{bytes_of_flow, IsDelivered, AcknowledgedWasReceived, WindowsHold, TimersRun, ArrivalsKeepOrder, IdleLinksAreEmpty}
use Rattle.run_laws.proofs.Acknowledged.{all_received, una_received}

-- what is below the least number that is missing is there
below_next : (r : ReceiverState) (mss : ℕ) → r.mss ≡ mss → ((m : ℕ) → m % r.mss ≡ 0 → (IsReceived r m → ⊥) → next_of r ≤ m) → (seq : ℕ) → seq % mss ≡ 0 → seq < next_of r → IsReceived r seq
below_next r mss same least seq whole below =
    ⊎_elim
    (λ (there : is_received r seq ≡ true). there)
    (λ (missing : is_received r seq ≡ false).
    let most = least seq (subst (λ m. seq % m ≡ 0) (sym same) whole) (λ there. true≢false (sym there ∙ missing)) in
    absurd (omega (arith, below, most)))
    (cases_Bool (is_received r seq))

delivered : (s : State) (now number : ℕ) (flow : FlowPart) (F : IsSoundFlow s now number flow) → F.fields.una ≤ next_of F.received → IsDelivered flow F.fields F.received
delivered s now number flow F acknowledged =
    let whole : F.fields.segments * F.fields.mss ≡ bytes_of_flow flow = λ i. F.its_segments i * F.its_mss i in
    let most = F.sound.high_total in
    let next = F.next_sent in
    record {
      una_nxt = F.sound.una_nxt;
      nxt_high = F.sound.nxt_high;
      high_most = omega (arith, most, whole);
      acknowledged = acknowledged;
      received = next;
      in_order = below_next F.received flow.mss F.same_mss (next_holds F.received F.well_formed).least.least;
      sent = F.received_sent;
      complete = λ all. omega (arith, all, acknowledged, next, most, whole);
    }

pub acknowledged_was_received : AcknowledgedWasReceived
acknowledged_was_received p n lines s is_scenario e number flow its =
    let sound = sound_run p n lines s is_scenario e in
    let F = sound.sound.each_flow number flow its in
    record {
      sender = F.fields;
      receiver = F.received;
      sends = F.sender_role;
      receives = F.receiver_role;
      holds = delivered s sound.moment number flow F (una_received p s number flow F.fields F.received (all_received p n lines s is_scenario e) its F.sender_role F.receiver_role);
    }

pub windows_hold : WindowsHold
windows_hold p n lines s is_scenario e number flow its =
    let F = (sound_run p n lines s is_scenario e).sound.each_flow number flow its in
    record {
      sender = F.fields;
      receiver = F.received;
      sends = F.sender_role;
      receives = F.receiver_role;
      holds = record {
        cwnd_least = (let a = F.sound.cwnd_least in let b = F.its_mss in omega (arith, a, b));
        ssthresh_least = (let a = F.sound.ssthresh_least in let b = F.its_mss in omega (arith, a, b));
        in_flight = (let a = F.sound.in_window in let b = F.its_rwnd in omega (arith, a, b));
      };
    }

pub timers_run : TimersRun
timers_run p n lines s is_scenario e number flow its =
    let sound = (sound_run p n lines s is_scenario e).sound in
    let F = sound.each_flow number flow its in
    record {
      sender = F.fields;
      receiver = F.received;
      sends = F.sender_role;
      receives = F.receiver_role;
      holds = record {
        runs = F.sound.deadline_flight;
        pending = subst (λ o. IfSome o (λ t. finmap.get s.pending (timer_key flow.sender Retransmission t) ≡ Some (Rto number))) (ap deadline_of F.sender_role) (sound.timers.rto_timers number flow its);
        rto_least = F.sound.rto_least;
        rto_most = F.sound.rto_most;
      };
    }

pub arrivals_keep_order : ArrivalsKeepOrder
arrivals_keep_order p n lines s is_scenario e = (sound_run p n lines s is_scenario e).sound.in_order

pub idle_links_are_empty : IdleLinksAreEmpty
idle_links_are_empty p n lines s is_scenario e node index within =
    let sound = (sound_run p n lines s is_scenario e).sound in
    let there = subst (λ n. node < n) sound.nodes_are (node_there s node index within) in
    let link = all_here (λ (l : LinkState). IsSoundLink p s _ l.port) (part_at s node).links index no_link within (sound.each_node node there).each_link in
    record { idle_empty = link.idle_empty; room = link.room }
