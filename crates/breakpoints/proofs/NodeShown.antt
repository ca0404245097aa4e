-- A line shows the node of its event as it is after the event.
use Rattle.std.proofs.Common.{◌≡◌, ℕ, refl, sym, ap, subst, ◌∙◌, Option, Some, None}
use Rattle.std.proofs.lemmas.List.{get_or-set_same}
use Rattle.sim_time.specs.declared.key.Key.{Key}
use Rattle.packet_chain.specs.declared.packet.Packet.{Packet}
use Rattle.packet_chain.specs.declared.packet.Kind.{Kind}
use Rattle.packet_chain.specs.declared.packet.Kind.TheVariants.{Data, Ack}
use Rattle.node_core.specs.declared.event.Event.{Event}
use Rattle.node_core.specs.declared.event.Event.TheVariants.{Start, Rto, DelAck, Free, Arrive}
use Rattle.node_core.specs.declared.role.Role.{Role}
use Rattle.node_core.specs.declared.role.Role.TheVariants.{Sends, Receives, Routes}
use Rattle.node_core.specs.Part.{PartState}
use Rattle.node_core.specs.RouteTable.{exit_for}
use Rattle.node_core.specs.Row.{Effect, after_of, row, start_row, rto_row, delack_row, arrival_row, at_sender, at_receiver, passed_on}
use Rattle.node_core.specs.TraceLine.{TraceLine}
use Rattle.table_run.specs.State.{State, part_at, no_part, effect_of, stepped}
use Rattle.table_run.proofs.Ready.{node_within}
use Rattle.table_run.proofs.Runs.{of_step}
use Rattle.net_machine.specs.Run.{Reached, IsRun, Stepped}

-- an effect shows the node that it leaves
abbrev Shows : Effect → Type 0
Shows effect = effect.after ≡ after_of effect.part.role

module _ (part : PartState) (k : Key) where
  starts : (ρ : Role) → Shows (start_row part ρ k)
  starts (Sends flow fields) = refl
  starts (Receives flow state) = refl
  starts (Routes table) = refl

  times_out : (ρ : Role) → Shows (rto_row part ρ k)
  times_out (Sends flow fields) = refl
  times_out (Receives flow state) = refl
  times_out (Routes table) = refl

  acknowledges : (ρ : Role) → Shows (delack_row part ρ k)
  acknowledges (Sends flow fields) = refl
  acknowledges (Receives flow state) = refl
  acknowledges (Routes table) = refl

  passes : (x : Packet) (exit : Option ℕ) → Shows (passed_on part k x exit)
  passes x None = refl
  passes x (Some index) = refl

  comes : (x : Packet) (kind : Kind) (ρ : Role) → x.kind ≡ kind → Shows (arrival_row part ρ k x)
  comes x Data (Sends flow fields) is = subst (λ c. Shows (at_sender part k flow fields c x.number)) (sym is) refl
  comes x Ack (Sends flow fields) is = subst (λ c. Shows (at_sender part k flow fields c x.number)) (sym is) refl
  comes x Data (Receives flow state) is = subst (λ c. Shows (at_receiver part k flow state c x.number)) (sym is) refl
  comes x Ack (Receives flow state) is = subst (λ c. Shows (at_receiver part k flow state c x.number)) (sym is) refl
  comes x kind (Routes table) is = passes x (exit_for table x)

  row_shows : (v : Event) → Shows (row part k v)
  row_shows (Start flow) = starts part.role
  row_shows (Rto flow) = times_out part.role
  row_shows (DelAck flow) = acknowledges part.role
  row_shows (Free link) = refl
  row_shows (Arrive x) = comes x x.kind part.role refl

pub node_shown : (before after : Reached) (line : TraceLine) → IsRun before → Stepped before (Some line) after → line.after ≡ after_of (part_at after.state line.key.node).role
node_shown before after line is stepped_to =
    let s = before.state in
    of_step s line after.state stepped_to.0 (λ k v due_is new_is line_is.
    let there = node_within is.scenario before.position is.lines s is.is_scenario is.is k v due_is in
    let effect = effect_of s (k, v) in
    let here : line.after ≡ after_of (part_at (stepped s k effect) k.node).role =
    ap (λ (l : TraceLine). l.after) line_is ∙ row_shows (part_at s k.node) k v ∙ ap (λ (p : PartState). after_of p.role) (sym (get_or-set_same s.parts k.node effect.part no_part there)) in
    let at : line.key.node ≡ k.node = ap (λ (l : TraceLine). l.key.node) line_is in
    subst (λ (t : State). line.after ≡ after_of (part_at t line.key.node).role) (sym new_is) (subst (λ n. line.after ≡ after_of (part_at (stepped s k effect) n).role) (sym at) here))
