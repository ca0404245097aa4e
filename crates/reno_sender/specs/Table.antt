-- The sender's table: what each event does, from the fields, the event and the moment to the new fields and the whole list of byte numbers sent. Its rows are LossRecovery's.
use Rattle.std.specs.Prelude.{ℕ, false, nat_lt, ◌==◌, ◌||◌, if◌then◌else◌, None}
use Rattle.reno_sender.specs.declared.fields.SenderFields.{SenderFields}
use Rattle.reno_sender.specs.Sending.{Planned, filling}
use Rattle.reno_sender.specs.LossRecovery.{third_duplicate, timeout}
use Rattle.sim_time.specs.InitialWindow.{initial_window_of}
use Rattle.sim_time.specs.declared.settings.SenderSettings.{SenderSettings}
pub use Rattle.reno_sender.specs.Timer.{measured_by, with_sample}
pub use Rattle.reno_sender.specs.LossRecovery.{nothing_sent, one_more, early_duplicate, enters, fast_retransmit, repeated_duplicate, inflated, further_duplicate, advanced, new_acknowledgement, is_below, is_partial, partly, partial_acknowledgement}

-- at first: nothing sent, the initial window, no round trip measured (RFC 5681 section 3.1, RFC 6298 section 2.1)
abbrev pub initial_fields : SenderSettings → SenderFields
initial_fields s = record {
  mss = s.mss;
  segments = s.segments;
  rwnd = s.rwnd;
  variant = s.variant;
  una = 0;
  nxt = 0;
  high = 0;
  cwnd = initial_window_of s.mss s.variant.iw;
  ssthresh = s.rwnd;
  dups = 0;
  lt = 0;
  recovery = false;
  recover = None;
  partial = false;
  timing = None;
  srtt = None;
  rttvar = 0;
  rto = 1000000000;
  deadline = None;
  resent = false;
}

-- the flow starts: as much as the windows allow
unfoldable pub started : SenderFields → ℕ → Planned
started f now = filling f now

-- an acknowledgement of new data: in NewReno's recovery it may be a partial one
abbrev pub newly_acknowledged : SenderFields → ℕ → ℕ → Planned
newly_acknowledged f ack now = if is_partial f ack then partial_acknowledgement f ack now else new_acknowledgement f ack now

-- a duplicate: in recovery, or the third, the first or second, or a further one
abbrev pub duplicated : SenderFields → ℕ → Planned
duplicated f now =
    if f.recovery then further_duplicate f now
    else (if f.dups == 2 then third_duplicate f now
    else (if nat_lt f.dups 2 then early_duplicate f now
    else repeated_duplicate f))

-- an acknowledgement: of new data, or an old one or one with nothing in flight, which does nothing, or a duplicate
unfoldable pub acknowledged : SenderFields → ℕ → ℕ → Planned
acknowledged f ack now =
    if nat_lt f.una ack then newly_acknowledged f ack now
    else (if nat_lt ack f.una || (f.una == f.nxt) then nothing_sent f
    else duplicated f now)

-- the deadline has come
unfoldable pub timed_out : SenderFields → ℕ → Planned
timed_out f now = timeout f now
