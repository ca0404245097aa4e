-- Loss recovery: when it begins and ends, and what is sent (RFC 5681 section 3.2, RFC 3042, and with NewReno RFC 6582 section 3.2). One equation a row. What cwnd and ssthresh become is in CongestionControl, whose rows these call.
use Rattle.std.specs.Prelude.{◌+◌, ◌-◌, ◌*◌, ℕ, Bool, true, false, min, max, not, nat_lt, nat_le, ◌==◌, ◌&&◌, ◌||◌, if◌then◌else◌, [], ◌∷◌, Option, Some, None}
use Rattle.reno_sender.specs.declared.fields.SenderFields.{SenderFields}
use Rattle.reno_sender.specs.declared.loss_recovery.TheConstants.{MOST_DUPLICATES}
use Rattle.reno_sender.specs.declared.congestion_control.Progress.TheVariants.{NewData, FurtherDuplicate, PartialData, RecoveryEnd}
use Rattle.reno_sender.specs.declared.congestion_control.Loss.TheVariants.{ByDuplicates, ByTimer}
use Rattle.reno_sender.specs.Fields.{total, is_newreno}
use Rattle.reno_sender.specs.Timer.{backed_off, measured_by, restarted}
use Rattle.reno_sender.specs.Sending.{Planned, sending, filling}
use Rattle.reno_sender.specs.CongestionControl.{window_at, lowered_at}

-- the count of duplicates stops at 4,294,967,295
abbrev pub one_more : ℕ → ℕ
one_more dups = if nat_lt dups MOST_DUPLICATES then dups + 1 else dups

-- new data may follow: all is sent once only, the flow goes on, and one more segment ends within the given byte
abbrev pub may_send_new : SenderFields → ℕ → Bool
may_send_new f end = (f.nxt == f.high) && (nat_lt f.nxt (total f) && nat_le (f.nxt + f.mss) end)

abbrev pub nothing_sent : SenderFields → Planned
nothing_sent f = record { fields = f; sent = [] }

-- the first and the second duplicate, limited transmit (RFC 5681 section 3.2 step 1): cwnd stays, and up to two segments more than it may be in flight
abbrev pub early_duplicate : SenderFields → ℕ → Planned
early_duplicate f now =
    if may_send_new f (f.una + min (f.cwnd + 2 * f.mss) f.rwnd)
    then sending (record f { dups = one_more f.dups; lt = f.lt + f.mss }) (f.nxt ∷ []) (f.nxt + f.mss) now
    else nothing_sent (record f { dups = one_more f.dups })

-- una has passed recover, or no loss was found yet (RFC 6582 section 3.2 step 2)
abbrev pub is_past : Option ℕ → ℕ → Bool
is_past None una = true
is_past (Some recover) una = nat_lt recover una

-- Reno finds a loss at each third duplicate, NewReno only above recover
abbrev pub enters : SenderFields → Bool
enters f = not (is_newreno f) || is_past f.recover f.una

-- a loss that is found sets recover with NewReno (RFC 6582 section 3.2 steps 2 and 4)
abbrev pub recover_at_loss : SenderFields → Option ℕ
recover_at_loss f = if is_newreno f then Some f.high else f.recover

-- fast retransmit (RFC 5681 section 3.2 steps 2 and 3): ssthresh = max ((FlightSize - lt) / 2, 2 * SMSS), cwnd = ssthresh + 3 * SMSS, una is sent again, the deadline stays
abbrev pub fast_retransmit : SenderFields → ℕ → Planned
fast_retransmit f now =
    let lowered = lowered_at f ByDuplicates in
    sending (record f { dups = 3; ssthresh = lowered.ssthresh; cwnd = lowered.cwnd; recovery = true; recover = recover_at_loss f; partial = false }) (f.una ∷ []) f.nxt now

-- the third duplicate
abbrev pub third_duplicate : SenderFields → ℕ → Planned
third_duplicate f now = if enters f then fast_retransmit f now else nothing_sent (record f { dups = 3 })

-- a further duplicate where the third didn't enter recovery is counted alone
abbrev pub repeated_duplicate : SenderFields → Planned
repeated_duplicate f = nothing_sent (record f { dups = one_more f.dups })

-- a further duplicate, fast recovery: cwnd + SMSS (RFC 5681 section 3.2 step 4)
abbrev pub inflated : SenderFields → SenderFields
inflated f = record f { dups = one_more f.dups; cwnd = window_at f FurtherDuplicate }

-- then a new segment, where cwnd and the receiver's window allow it (step 5)
abbrev pub further_duplicate : SenderFields → ℕ → Planned
further_duplicate f now =
    if may_send_new f (f.una + min (window_at f FurtherDuplicate) f.rwnd)
    then sending (inflated f) (f.nxt ∷ []) (f.nxt + f.mss) now
    else nothing_sent (inflated f)

-- cwnd after a new acknowledgement of so many bytes: in recovery, which it ends, ssthresh (RFC 5681 section 3.2 step 6); else it grows by slow start or congestion avoidance (section 3.1)
abbrev pub window_after : SenderFields → ℕ → ℕ
window_after f bytes = if f.recovery then window_at f RecoveryEnd else window_at f (NewData bytes)

-- what a new acknowledgement does before anything is sent
abbrev pub advanced : SenderFields → ℕ → ℕ → SenderFields
advanced f ack now =
    let g = measured_by f.timing f ack now in
    record g {
      una = ack;
      nxt = max f.nxt ack;
      cwnd = window_after f (ack - f.una);
      dups = 0;
      lt = 0;
      recovery = false;
      resent = false;
      deadline = restarted ack (max f.nxt ack) (now + g.rto);
    }

abbrev pub new_acknowledgement : SenderFields → ℕ → ℕ → Planned
new_acknowledgement f ack now = filling (advanced f ack now) now

-- an acknowledgement below a number, where there is one
abbrev pub is_below : ℕ → Option ℕ → Bool
is_below ack None = false
is_below ack (Some recover) = nat_lt ack recover

-- in recovery NewReno takes a new acknowledgement below recover for a partial one (RFC 6582 section 3.2 step 3)
abbrev pub is_partial : SenderFields → ℕ → Bool
is_partial f ack = is_newreno f && (f.recovery && is_below ack f.recover)

-- what it does before anything is sent: cwnd falls by the bytes acknowledged and grows by SMSS, recovery goes on, and the first in a recovery starts the timer anew
abbrev pub partly : SenderFields → ℕ → ℕ → SenderFields
partly f ack now =
    let g = measured_by f.timing f ack now in
    record g {
      una = ack;
      nxt = max f.nxt ack;
      cwnd = window_at f (PartialData (ack - f.una));
      lt = 0;
      resent = false;
      deadline = if f.partial then f.deadline else Some (now + g.rto);
      partial = true;
    }

-- una is sent again, and then one new segment where the windows allow it
abbrev pub partial_acknowledgement : SenderFields → ℕ → ℕ → Planned
partial_acknowledgement f ack now =
    let h = partly f ack now in
    if may_send_new h (h.una + min h.cwnd h.rwnd)
    then sending h (h.una ∷ h.nxt ∷ []) (h.nxt + h.mss) now
    else sending h (h.una ∷ []) h.nxt now

-- a timeout (RFC 5681 section 3.1, RFC 6298 sections 5.4 to 5.6, RFC 6582 section 3.2 step 4): ssthresh = max (FlightSize / 2, 2 * SMSS) at the first of a segment, cwnd = SMSS, recovery ends, each doubles the rto, and una is sent again
abbrev pub timeout : SenderFields → ℕ → Planned
timeout f now =
    let lowered = lowered_at f ByTimer in
    sending (record f {
      ssthresh = lowered.ssthresh;
      cwnd = lowered.cwnd;
      rto = backed_off f.rto;
      dups = 0;
      lt = 0;
      recovery = false;
      recover = recover_at_loss f;
      resent = true;
      timing = None;
      deadline = Some (now + backed_off f.rto);
    }) (f.una ∷ []) (f.una + f.mss) now
