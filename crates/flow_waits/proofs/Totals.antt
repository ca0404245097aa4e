-- A sender that has all bytes acknowledged has so after each row.
use Rattle.std.proofs.Common.{◌≡◌, ℕ, ◌≤◌, ◌==◌, Bool, true, false, cond, refl, sym, ap, ◌∙◌, Option, Some, None, arith, List, [], ◌∷◌, set, get_or, zero, suc}
use Rattle.std.specs.Prelude.{nat_lt, is_some}
use Rattle.std.specs.Option.{option_or}
use borrow.Author.Tests.{ltb-false}
use Rattle.std.proofs.lemmas.Bool.{cond_both}
use Rattle.std.proofs.lemmas.Bool.Decides.{nat_tests}
use Rattle.sim_time.specs.declared.key.Key.{Key}
use Rattle.packet_chain.specs.declared.packet.Packet.{Packet}
use Rattle.packet_chain.specs.declared.packet.Kind.{Kind}
use Rattle.packet_chain.specs.declared.packet.Kind.TheVariants.{Data, Ack}
use Rattle.reno_sender.specs.declared.fields.SenderFields.{SenderFields}
use Rattle.reno_sender.specs.declared.fields.Timing.{Timing}
use Rattle.reno_sender.specs.Fields.{total}
use Rattle.reno_sender.specs.Sending.{Planned}
use Rattle.reno_sender.specs.Table.{started, acknowledged, timed_out, measured_by}
use Rattle.reno_sender.proofs.RowLaws.{by_rows}
use Rattle.reno_sender.proofs.Samples.{by_sample}
use Rattle.reno_receiver.specs.Received.{ReceiverState}
use Rattle.node_core.specs.declared.event.Event.{Event}
use Rattle.node_core.specs.declared.event.Event.TheVariants.{Start, Rto, DelAck, Free, Arrive}
use Rattle.node_core.specs.declared.role.Role.{Role}
use Rattle.node_core.specs.declared.role.Role.TheVariants.{Sends, Receives, Routes}
use Rattle.node_core.specs.Part.{PartState, sender_in}
use Rattle.node_core.specs.RouteTable.{exit_for}
use Rattle.node_core.specs.Row.{row, start_row, rto_row, delack_row, arrival_row, at_sender, at_receiver, passed_on}
use Rattle.table_run.specs.Laws.{RoleRises}
use Rattle.flow_waits.specs.Stalled.{sender_if, sender_for, sender_of, is_unfinished, is_some_unfinished}

-- the bytes of a sender's flow; 0 at other nodes
abbrev pub total_at : Role → ℕ
total_at (Sends flow f) = total f
total_at _ = 0

abbrev SameTotal : SenderFields → Planned → Type 0
SameTotal f planned = total planned.fields ≡ total f

measured : (o : Option Timing) (f : SenderFields) (ack now : ℕ) → total (measured_by o f ack now) ≡ total f
measured o f ack now = by_sample (λ g. total g ≡ total f) o f ack now refl (λ r. refl)

start_total : (f : SenderFields) (now : ℕ) → SameTotal f (started f now)
unfolding started
start_total f now = refl

timeout_total : (f : SenderFields) (now : ℕ) → SameTotal f (timed_out f now)
unfolding timed_out
timeout_total f now = refl

ack_total : (f : SenderFields) (ack now : ℕ) → SameTotal f (acknowledged f ack now)
ack_total f ack now =
    by_rows (SameTotal f) f ack now
    (λ _ _. measured f.timing f ack now) (λ _ _. cond_both _ _ _ (SameTotal f) (λ _. measured f.timing f ack now) (λ _. measured f.timing f ack now)) refl
    (λ _. cond_both _ _ _ (SameTotal f) (λ _. refl) (λ _. refl)) (λ _ _ _. refl) (λ _ _. refl)
    (λ _ _. cond_both _ _ _ (SameTotal f) (λ _. refl) (λ _. refl)) (λ _ _. refl)

module _ (part : PartState) (key : Key) where
  starts : (ρ : Role) → part.role ≡ ρ → total_at (start_row part ρ key).part.role ≡ total_at ρ
  starts (Sends n f) is = start_total f key.time
  starts _ is = ap total_at is

  ends : (ρ : Role) → part.role ≡ ρ → total_at (rto_row part ρ key).part.role ≡ total_at ρ
  ends (Sends n f) is = timeout_total f key.time
  ends _ is = ap total_at is

  answers : (ρ : Role) → part.role ≡ ρ → total_at (delack_row part ρ key).part.role ≡ total_at ρ
  answers (Receives n b) is = refl
  answers _ is = ap total_at is

  to_sender : (n : ℕ) (f : SenderFields) (c : Kind) (number : ℕ) → part.role ≡ Sends n f → total_at (at_sender part key n f c number).part.role ≡ total f
  to_sender n f Data number is = ap total_at is
  to_sender n f Ack number is = ack_total f number key.time

  to_receiver : (n : ℕ) (b : ReceiverState) (c : Kind) (number : ℕ) → part.role ≡ Receives n b → total_at (at_receiver part key n b c number).part.role ≡ 0
  to_receiver n b Data number is = refl
  to_receiver n b Ack number is = ap total_at is

  passes : (x : Packet) (o : Option ℕ) → total_at (passed_on part key x o).part.role ≡ total_at part.role
  passes x None = refl
  passes x (Some index) = refl

  arrives : (x : Packet) (ρ : Role) → part.role ≡ ρ → total_at (arrival_row part ρ key x).part.role ≡ total_at ρ
  arrives x (Sends n f) is = to_sender n f x.kind x.number is
  arrives x (Receives n b) is = to_receiver n b x.kind x.number is
  arrives x (Routes table) is = passes x (exit_for table x) ∙ ap total_at is

  -- a row leaves the bytes of the flow as they are
  pub same_total : (event : Event) → total_at (row part key event).part.role ≡ total_at part.role
  same_total (Start own) = starts part.role refl
  same_total (Rto own) = ends part.role refl
  same_total (DelAck own) = answers part.role refl
  same_total (Free link) = refl
  same_total (Arrive x) = arrives x part.role refl

-- a node's sender of a flow: there before and after, and with nothing to be acknowledged after where it was so before
pub record SenderGoesOn (flow : ℕ) (ρ σ : Role) : Type 0 where
  pub same : is_some (sender_for flow (sender_in σ)) ≡ is_some (sender_for flow (sender_in ρ))
  pub finished : is_some_unfinished (sender_for flow (sender_in ρ)) ≡ false → is_some_unfinished (sender_for flow (sender_in σ)) ≡ false

not_below : (a b c d : ℕ) → a ≤ c → d ≡ b → nat_lt a b ≡ false → nat_lt c d ≡ false
not_below a b c d rises same e = let most = ltb-false a b e in grind (arith, nat_tests)

if_same : (a b : Bool) (f g : SenderFields) → b ≡ a → is_some (sender_if b g) ≡ is_some (sender_if a f)
if_same true b f g e = ap (λ x. is_some (sender_if x g)) e
if_same false b f g e = ap (λ x. is_some (sender_if x g)) e

if_finished : (a b : Bool) (f g : SenderFields) → b ≡ a → (is_unfinished f ≡ false → is_unfinished g ≡ false) → is_some_unfinished (sender_if a f) ≡ false → is_some_unfinished (sender_if b g) ≡ false
if_finished true b f g e keeps is = ap (λ x. is_some_unfinished (sender_if x g)) e ∙ keeps is
if_finished false b f g e keeps is = ap (λ x. is_some_unfinished (sender_if x g)) e

pub goes_on : (flow : ℕ) (ρ σ : Role) → RoleRises ρ σ → total_at σ ≡ total_at ρ → SenderGoesOn flow ρ σ
goes_on flow (Sends n f) (Sends m g) rises same =
    let its : (m == flow) ≡ (n == flow) = ap (λ k. k == flow) rises.0 in
    record {
      same = if_same (n == flow) (m == flow) f g its;
      finished = if_finished (n == flow) (m == flow) f g its (not_below f.una (total f) g.una (total g) rises.1.una_rises same);
    }
goes_on flow (Receives n a) (Receives m b) rises same = record { same = refl; finished = λ _. refl }
goes_on flow (Routes table) (Routes later) rises same = record { same = refl; finished = λ _. refl }
goes_on flow _ _ rises same = absurd rises

-- the sender of a flow among nodes of which one changes
first_else : (o rest : Option SenderFields) → is_some_unfinished (option_or o rest) ≡ cond (is_some o) (is_some_unfinished o) (is_some_unfinished rest)
first_else None rest = refl
first_else (Some f) rest = refl

choose : (b u u' r : Bool) → (u ≡ false → u' ≡ false) → cond b u r ≡ false → cond b u' r ≡ false
choose true u u' r keeps e = keeps e
choose false u u' r keeps e = e

rest_of : (b u r r' : Bool) → (r ≡ false → r' ≡ false) → cond b u r ≡ false → cond b u r' ≡ false
rest_of true u r r' keeps e = e
rest_of false u r r' keeps e = keeps e

pub still_finished : (flow : ℕ) (parts : List PartState) (i : ℕ) (new d : PartState) → SenderGoesOn flow (get_or parts i d).role new.role
    → is_some_unfinished (sender_of flow parts) ≡ false → is_some_unfinished (sender_of flow (set parts i new)) ≡ false
still_finished flow [] i new d on e = e
still_finished flow (part ∷ parts) zero new d on e =
    let old_one = sender_for flow (sender_in part.role) in
    let new_one = sender_for flow (sender_in new.role) in
    let rest = is_some_unfinished (sender_of flow parts) in
    first_else new_one (sender_of flow parts) ∙ ap (λ b. cond b (is_some_unfinished new_one) rest) on.same
    ∙ choose (is_some old_one) (is_some_unfinished old_one) (is_some_unfinished new_one) rest on.finished (sym (first_else old_one (sender_of flow parts)) ∙ e)
still_finished flow (part ∷ parts) (suc i) new d on e =
    let one = sender_for flow (sender_in part.role) in
    first_else one (sender_of flow (set parts i new))
    ∙ rest_of (is_some one) (is_some_unfinished one) (is_some_unfinished (sender_of flow parts)) (is_some_unfinished (sender_of flow (set parts i new))) (still_finished flow parts i new d on)
    (sym (first_else one (sender_of flow parts)) ∙ e)
