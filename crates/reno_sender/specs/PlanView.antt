-- What a plan holds: the fields that a commit sets, and what is to be sent.
use Rattle.std.specs.Prelude.{◌≡◌, ◌≤◌, ◌+◌, ◌*◌, ℕ, List, ◌++◌, Option, IfSome, option_to_list}
use Rattle.reno_sender.specs.declared.fields.SenderFields.{SenderFields}
use Rattle.reno_sender.specs.Fields.{IsSound}
use Rattle.reno_sender.specs.Sending.{Planned, spaced}
use Rattle.reno_sender.specs.Table.{started, acknowledged, timed_out}

-- the byte number that is sent again, if one is, then count segments from first on
pub record PlanView : Type 0 where
  pub fields : SenderFields
  pub resent : Option ℕ
  pub first : ℕ
  pub count : ℕ

abbrev pub plan_view : SenderFields → Option ℕ → ℕ → ℕ → PlanView
plan_view fields resent first count = record { fields = fields; resent = resent; first = first; count = count }

-- the whole list of byte numbers that a plan sends
abbrev pub sent_of : PlanView → List ℕ
sent_of p = option_to_list p.resent ++ spaced p.first p.fields.mss p.count

abbrev pub planned_of : PlanView → Planned
planned_of p = record { fields = p.fields; sent = sent_of p }

-- the fields are sound, what is sent again is their first byte not acknowledged, and the run ends where their next byte is
pub record IsWellMade (p : PlanView) : Type 0 where
  pub sound : IsSound p.fields
  pub resends_una : IfSome p.resent (λ x. x ≡ p.fields.una)
  pub run_ends : p.first + p.count * p.fields.mss ≡ p.fields.nxt
  pub few : p.count ≤ 1073741825

-- the plan is what some row gives from these fields
pub data IsPlanOf : SenderFields → PlanView → Type 0 where
  by_start : {f : SenderFields} {p : PlanView} (now : ℕ) → planned_of p ≡ started f now → IsPlanOf f p
  by_acknowledgement : {f : SenderFields} {p : PlanView} (ack now : ℕ) → planned_of p ≡ acknowledged f ack now → IsPlanOf f p
  by_timeout : {f : SenderFields} {p : PlanView} (now : ℕ) → planned_of p ≡ timed_out f now → IsPlanOf f p
