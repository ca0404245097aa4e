-- What a sender sends is offered to its link.
use Rattle.std.proofs.Common.{◌≡◌, ◌≢◌, ℕ, ◌+◌, ◌-◌, ◌<◌, length, map, sym, ap, subst, ◌∙◌, arith, ⊎_elim}
use Rattle.std.proofs.lemmas.Bool.{cases_eq}
use Rattle.std.proofs.lemmas.List.{get_or-set_same, get_or-set_other, length-map}
use Rattle.sim_time.specs.declared.key.Key.{Key}
use Rattle.packet_chain.specs.declared.packet.Packet.{Packet}
use Rattle.packet_chain.specs.declared.packet.Kind.{Kind}
use Rattle.packet_chain.specs.declared.packet.Kind.TheVariants.{Data, Ack}
use Rattle.reno_sender.specs.declared.fields.SenderFields.{SenderFields}
use Rattle.reno_sender.specs.Sending.{Planned}
use Rattle.reno_sender.specs.Table.{started, acknowledged, timed_out}
use Rattle.scenario_image.specs.Paths.{data_path}
use Rattle.scenario_image.proofs.Arrivals.{paths_begin}
use Rattle.port.specs.Port.{taken, offered_all}
use Rattle.node_core.specs.declared.event.Event.{Event}
use Rattle.node_core.specs.declared.event.Event.TheVariants.{Start, Rto, DelAck, Free, Arrive}
use Rattle.node_core.specs.declared.role.Role.TheVariants.{Sends}
use Rattle.node_core.specs.Part.{LinkState, PartState, link_at, no_link}
use Rattle.node_core.specs.Row.{Effect, data_packet, sender_row, start_row, rto_row, delack_row, free_row, arrival_row, at_sender, row}
use Rattle.table_run.specs.State.{part_at, effect_of, stepped}
use Rattle.table_run.proofs.RowLinks.{flow_limits, first_link}
use Rattle.table_run.proofs.RunLaws.{sound_run}
use Rattle.run_laws.specs.Links.{port_of_link}
use Rattle.run_laws.specs.Senders.{for_packet, row_of, SendersOfferWhatTheySend}
use Rattle.run_laws.proofs.Events.{here}
use Rattle.run_laws.proofs.Ports.{taken_balances, all_balance}

module _ (part : PartState) (key : Key) (number : ℕ) (f : SenderFields) (is : part.role ≡ Sends number f) (within : 0 < length part.links) where
  abbrev offered : Effect → ℕ
  offered effect = (link_at effect.part.links 0).port.offered

  abbrev was : ℕ
  was = (link_at part.links 0).port.offered

  by_row : (planned : Planned) → offered (sender_row part key number f planned) ≡ was + length planned.sent
  by_row planned =
      let packets = map (data_packet number planned.fields.mss) planned.sent in
      let step = offered_all key.time (link_at part.links 0).port packets in
      let same = get_or-set_same part.links 0 (record (link_at part.links 0) { port = step.port }) no_link within in
      let a = ap (λ (l : LinkState). l.port.offered) same in
      let b = (all_balance key.time (link_at part.links 0).port packets).offered in
      let c = length-map planned.sent (data_packet number planned.fields.mss) in
      omega (arith, a, b, c)

  by_kind : (x : Packet) (kind : Kind) → offered (at_sender part key number f kind x.number) ≡ was + length (for_packet f kind x.number key.time).sent
  by_kind x Data = omega arith
  by_kind x Ack = by_row (acknowledged f x.number key.time)

  by_free : (index : ℕ) → offered (free_row part key index) ≡ was + 0
  by_free index =
      let step = taken key.time (link_at part.links index).port in
      let changed = record (link_at part.links index) { port = step.port } in
      ⊎_elim
      (λ (same : 0 ≡ index).
      let a = ap (λ i. offered (free_row part key i)) (sym same) in
      let b = ap (λ (l : LinkState). l.port.offered) (get_or-set_same part.links 0 (record (link_at part.links 0) { port = (taken key.time (link_at part.links 0).port).port }) no_link within) in
      let c = (taken_balances key.time (link_at part.links 0).port).offered in
      omega (arith, a, b, c))
      (λ (other : 0 ≢ index). let a = ap (λ (l : LinkState). l.port.offered) (get_or-set_other part.links index 0 changed no_link other) in omega (arith, a))
      (cases_eq 0 index)

  row_offers : (v : Event) → offered (row part key v) ≡ was + length (row_of f v key.time).sent
  row_offers (Start flow) = ap (λ ρ. offered (start_row part ρ key)) is ∙ by_row (started f key.time)
  row_offers (Rto flow) = ap (λ ρ. offered (rto_row part ρ key)) is ∙ by_row (timed_out f key.time)
  row_offers (DelAck flow) = let same = ap (λ ρ. offered (delack_row part ρ key)) is in omega (arith, same)
  row_offers (Free link) = by_free (key.number - 3)
  row_offers (Arrive x) = ap (λ ρ. offered (arrival_row part ρ key x)) is ∙ by_kind x x.kind

pub senders_offer_what_they_send : SendersOfferWhatTheySend
senders_offer_what_they_send p n lines s is_scenario e k v is number flow its at f role =
    let sound = sound_run p n lines s is_scenario e in
    let t = stepped s k (effect_of s (k, v)) in
    let first = first_link p lines sound.moment s sound.sound (data_path flow) (flow_limits p is_scenario number flow its).sender_node (paths_begin p is_scenario number flow its).0 in
    let within = subst (λ n. 0 < length (part_at s n).links) at first.within in
    let role_is : (part_at s k.node).role ≡ Sends number f = ap (λ n. (part_at s n).role) (sym at) ∙ role in
    ap (λ n. (port_of_link t n 0).offered) at
    ∙ ap (λ (x : PartState). (link_at x.links 0).port.offered) (here p is_scenario lines s k v sound is)
    ∙ row_offers (part_at s k.node) k number f role_is within v
    ∙ ap (λ n. (port_of_link s n 0).offered + length (row_of f v k.time).sent) (sym at)
