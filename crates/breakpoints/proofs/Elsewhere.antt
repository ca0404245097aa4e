-- An event changes the node at which it is, and no other: what breakpoints see of a flow or a link that this node doesn't have stays as it was.
use Rattle.std.proofs.Common.{◌≡◌, ◌≢◌, ℕ, zero, suc, ◌-◌, ◌<◌, ◌≤◌, ◌==◌, ◌||◌, Bool, true, false, cond, List, [], ◌∷◌, length, length-set, get_or, set, map as each, refl, sym, ap, subst, ◌∙◌, arith, Option, Some, None, true≢false}
use Rattle.std.specs.Prelude.{is_some}
use Rattle.std.specs.Option.{option_map, option_or}
use Rattle.std.proofs.lemmas.Bool.{eqb-false}
use Rattle.std.proofs.lemmas.List.{get_or-map, get_or_past, get_or-set_other, length-map}
use Rattle.sim_time.specs.declared.key.Key.{Key}
use Rattle.packet_chain.specs.declared.packet.Packet.{Packet}
use Rattle.packet_chain.specs.declared.packet.Kind.{Kind}
use Rattle.packet_chain.specs.declared.packet.Kind.TheVariants.{Data, Ack}
use Rattle.port.specs.Port.{PortState, PortStep, taken, offered_one, offered_all}
use Rattle.port.proofs.StepLaws.{taken_counts, one_counts}
use Rattle.reno_sender.specs.declared.fields.SenderFields.{SenderFields}
use Rattle.reno_sender.specs.Sending.{Planned}
use Rattle.reno_sender.specs.Table.{started, acknowledged, timed_out}
use Rattle.reno_receiver.specs.Received.{ReceiverState, Answered, data_came, timer_came}
use Rattle.node_core.specs.declared.event.Event.{Event}
use Rattle.node_core.specs.declared.event.Event.TheVariants.{Start, Rto, DelAck, Free, Arrive}
use Rattle.node_core.specs.declared.role.Role.{Role}
use Rattle.node_core.specs.declared.role.Role.TheVariants.{Sends, Receives, Routes}
use Rattle.node_core.specs.Part.{LinkState, PartState, link_at, sender_in, receiver_in}
use Rattle.node_core.specs.RouteTable.{exit_for}
use Rattle.node_core.specs.Row.{Effect, data_packet, ack_of, sender_row, receiver_row, row, start_row, rto_row, delack_row, arrival_row, at_sender, at_receiver, passed_on}
use Rattle.node_core.specs.TraceLine.{TraceLine}
use Rattle.node_core.specs.Node.{NodeState}
use Rattle.table_run.specs.State.{State, part_at, no_part, effect_of, stepped}
use Rattle.table_run.proofs.Ready.{node_within}
use Rattle.table_run.proofs.Runs.{of_step}
use Rattle.net_machine.specs.Nodes.{parts_of}
use Rattle.net_machine.specs.Run.{Reached, IsRun, Stepped}
use Rattle.flow_waits.specs.Stalled.{sender_if, sender_for, sender_of}
use Rattle.breakpoints.specs.declared.values.Asked.{Asked}
use Rattle.breakpoints.specs.declared.values.Reading.{Reading}
use Rattle.breakpoints.specs.declared.values.Reading.TheVariants.{Nothing}
use Rattle.breakpoints.specs.declared.values.Value.{Value as AnyValue}
use Rattle.breakpoints.specs.declared.values.Value.TheVariants.{Queue, Wait, Count}
use Rattle.breakpoints.specs.declared.values.ValueOf.{ValueOf}
use Rattle.breakpoints.specs.declared.values.Values.{Values}
use Rattle.breakpoints.specs.declared.seen.SeenLink.{SeenLink}
use Rattle.breakpoints.specs.declared.seen.SeenValue.{SeenValue}
use Rattle.breakpoints.specs.declared.seen.Seen.{Seen}
use Rattle.breakpoints.specs.declared.seen.Sought.{Sought}
use Rattle.breakpoints.specs.declared.seen.Sought.TheVariants.{Link, Value}
use Rattle.breakpoints.specs.Values.{asked_of, is_next, number_or_nothing}
use Rattle.breakpoints.specs.Seen.{link_among, link_in, offered_in, next_if, next_for, next_in, read_sender, value_for, value_in, has_link, has_asked, first_with, node_of, seen_link, seen_value, seen_in, sees_at, HasSameNodes}

-- THE FLOW OF A NODE

-- a node goes on to send a flow, or to receive it, as before
record StaysEnd (flow : ℕ) (new old : Role) : Type 0 where
  sends : is_some (sender_for flow (sender_in new)) ≡ is_some (sender_for flow (sender_in old))
  receives : is_some (next_for flow (receiver_in new)) ≡ is_some (next_for flow (receiver_in old))

some_sender : (b : Bool) (f g : SenderFields) → is_some (sender_if b f) ≡ is_some (sender_if b g)
some_sender true f g = refl
some_sender false f g = refl

some_next : (b : Bool) (f g : ReceiverState) → is_some (next_if b f) ≡ is_some (next_if b g)
some_next true f g = refl
some_next false f g = refl

module _ (flow : ℕ) (part : PartState) (k : Key) where
  abbrev Stays : Effect → Type 0
  Stays effect = StaysEnd flow effect.part.role part.role

  same : StaysEnd flow part.role part.role
  same = record { sends = refl; receives = refl }

  sends_on : (own : ℕ) (f g : SenderFields) → part.role ≡ Sends own f → StaysEnd flow (Sends own g) part.role
  sends_on own f g is = subst (λ r. StaysEnd flow (Sends own g) r) (sym is) (record { sends = some_sender (own == flow) g f; receives = refl })

  receives_on : (own : ℕ) (f g : ReceiverState) → part.role ≡ Receives own f → StaysEnd flow (Receives own g) part.role
  receives_on own f g is = subst (λ r. StaysEnd flow (Receives own g) r) (sym is) (record { sends = refl; receives = some_next (own == flow) g f })

  starts : (ρ : Role) → part.role ≡ ρ → Stays (start_row part ρ k)
  starts (Sends own f) is = sends_on own f _ is
  starts (Receives own b) is = same
  starts (Routes table) is = same

  times_out : (ρ : Role) → part.role ≡ ρ → Stays (rto_row part ρ k)
  times_out (Sends own f) is = sends_on own f _ is
  times_out (Receives own b) is = same
  times_out (Routes table) is = same

  acknowledges : (ρ : Role) → part.role ≡ ρ → Stays (delack_row part ρ k)
  acknowledges (Sends own f) is = same
  acknowledges (Receives own b) is = receives_on own b _ is
  acknowledges (Routes table) is = same

  to_sender : (own : ℕ) (f : SenderFields) (c : Kind) (number : ℕ) → part.role ≡ Sends own f → Stays (at_sender part k own f c number)
  to_sender own f Data number is = same
  to_sender own f Ack number is = sends_on own f _ is

  to_receiver : (own : ℕ) (b : ReceiverState) (c : Kind) (number : ℕ) → part.role ≡ Receives own b → Stays (at_receiver part k own b c number)
  to_receiver own b Data number is = receives_on own b _ is
  to_receiver own b Ack number is = same

  passes : (x : Packet) (exit : Option ℕ) → Stays (passed_on part k x exit)
  passes x None = same
  passes x (Some index) = same

  comes : (x : Packet) (ρ : Role) → part.role ≡ ρ → Stays (arrival_row part ρ k x)
  comes x (Sends own f) is = to_sender own f x.kind x.number is
  comes x (Receives own b) is = to_receiver own b x.kind x.number is
  comes x (Routes table) is = passes x (exit_for table x)

  end_stays : (v : Event) → Stays (row part k v)
  end_stays (Start own) = starts part.role refl
  end_stays (Rto own) = times_out part.role refl
  end_stays (DelAck own) = acknowledges part.role refl
  end_stays (Free link) = same
  end_stays (Arrive x) = comes x part.role refl

-- THE LINKS OF A NODE

-- packets that are offered, and one that is taken, leave a link its number
taken_link : (now : ℕ) (port : PortState) → (taken now port).port.link ≡ port.link
taken_link now port = (taken_counts now port).link

one_link : (now : ℕ) (port : PortState) (x : Packet) → (offered_one now port x).port.link ≡ port.link
one_link now port x = (one_counts now port x).link

all_link : (now : ℕ) (port : PortState) (xs : List Packet) → (offered_all now port xs).port.link ≡ port.link
all_link now port [] = refl
all_link now port (x ∷ xs) = all_link now (offered_one now port x).port xs ∙ one_link now port x

some_first : {X : Type 0} (b : Bool) (x y : X) (r : Option X) → is_some (cond b (Some x) r) ≡ is_some (cond b (Some y) r)
some_first true x y r = refl
some_first false x y r = refl

some_rest : {X : Type 0} (b : Bool) (x : X) (r s : Option X) → is_some r ≡ is_some s → is_some (cond b (Some x) r) ≡ is_some (cond b (Some x) s)
some_rest true x r s e = refl
some_rest false x r s e = e

-- a link in the place of one of its number
link_stays : (number : ℕ) (links : List LinkState) (i : ℕ) (link : LinkState) → link.port.link ≡ (link_at links i).port.link → is_some (link_among number (set links i link)) ≡ is_some (link_among number links)
link_stays number [] i link is = refl
link_stays number (l ∷ links) zero link is =
    ap (λ n. is_some (cond (n == number) (Some link) (link_among number links))) is ∙ some_first (l.port.link == number) link l (link_among number links)
link_stays number (l ∷ links) (suc i) link is = some_rest (l.port.link == number) l (link_among number (set links i link)) (link_among number links) (link_stays number links i link is)

module _ (number : ℕ) (part : PartState) (k : Key) where
  abbrev Leaves : Effect → Type 0
  Leaves effect = has_link number effect.part ≡ has_link number part

  by_step : (i : ℕ) (step : PortStep) → step.port.link ≡ (link_at part.links i).port.link → is_some (link_among number (set part.links i (record (link_at part.links i) { port = step.port }))) ≡ has_link number part
  by_step i step is = link_stays number part.links i (record (link_at part.links i) { port = step.port }) is

  by_offers : (xs : List Packet) → is_some (link_among number (set part.links 0 (record (link_at part.links 0) { port = (offered_all k.time (link_at part.links 0).port xs).port }))) ≡ has_link number part
  by_offers xs = by_step 0 (offered_all k.time (link_at part.links 0).port xs) (all_link k.time (link_at part.links 0).port xs)

  by_sender : (own : ℕ) (old : SenderFields) (planned : Planned) → Leaves (sender_row part k own old planned)
  by_sender own old planned = by_offers (each (data_packet own planned.fields.mss) planned.sent)

  by_receiver : (own : ℕ) (old : ReceiverState) (answered : Answered) → Leaves (receiver_row part k own old answered)
  by_receiver own old answered = by_offers (ack_of own answered.reply)

  starts_on : (ρ : Role) → Leaves (start_row part ρ k)
  starts_on (Sends own f) = by_sender own f (started f k.time)
  starts_on (Receives own b) = refl
  starts_on (Routes table) = refl

  times_out_on : (ρ : Role) → Leaves (rto_row part ρ k)
  times_out_on (Sends own f) = by_sender own f (timed_out f k.time)
  times_out_on (Receives own b) = refl
  times_out_on (Routes table) = refl

  acknowledges_on : (ρ : Role) → Leaves (delack_row part ρ k)
  acknowledges_on (Sends own f) = refl
  acknowledges_on (Receives own b) = by_receiver own b (timer_came b)
  acknowledges_on (Routes table) = refl

  to_sender_on : (own : ℕ) (f : SenderFields) (c : Kind) (n : ℕ) → Leaves (at_sender part k own f c n)
  to_sender_on own f Data n = refl
  to_sender_on own f Ack n = by_sender own f (acknowledged f n k.time)

  to_receiver_on : (own : ℕ) (b : ReceiverState) (c : Kind) (n : ℕ) → Leaves (at_receiver part k own b c n)
  to_receiver_on own b Data n = by_receiver own b (data_came b n k.time)
  to_receiver_on own b Ack n = refl

  passes_on : (x : Packet) (exit : Option ℕ) → Leaves (passed_on part k x exit)
  passes_on x None = refl
  passes_on x (Some i) = by_step i (offered_one k.time (link_at part.links i).port x) (one_link k.time (link_at part.links i).port x)

  comes_on : (x : Packet) (ρ : Role) → Leaves (arrival_row part ρ k x)
  comes_on x (Sends own f) = to_sender_on own f x.kind x.number
  comes_on x (Receives own b) = to_receiver_on own b x.kind x.number
  comes_on x (Routes table) = passes_on x (exit_for table x)

  links_stay : (v : Event) → Leaves (row part k v)
  links_stay (Start own) = starts_on part.role
  links_stay (Rto own) = times_out_on part.role
  links_stay (DelAck own) = acknowledges_on part.role
  links_stay (Free link) = by_step (k.number - 3) (taken k.time (link_at part.links (k.number - 3)).port) (taken_link k.time (link_at part.links (k.number - 3)).port)
  links_stay (Arrive x) = comes_on x part.role

-- THE FIRST NODE THAT HAS SOMETHING

-- another node in the place of one: both have it or neither has
stays : (holds : PartState → Bool) (parts : List PartState) (i : ℕ) (new : PartState) → holds new ≡ holds (get_or parts i no_part) → first_with holds (set parts i new) ≡ first_with holds parts
stays holds [] i new both = refl
stays holds (part ∷ parts) zero new both = ap (λ b. cond b 0 (suc (first_with holds parts))) both
stays holds (part ∷ parts) (suc i) new both = ap (λ n. cond (holds part) 0 (suc n)) (stays holds parts i new both)

-- what the first node has that has something
module _ {X : Type 0} (found : PartState → Option X) where
  abbrev has : PartState → Bool
  has part = is_some (found part)

  abbrev first : List PartState → Option X
  first [] = None
  first (part ∷ parts) = option_or (found part) (first parts)

  there_by : (part : PartState) (parts : List PartState) (o : Option X) → found part ≡ o → first parts ≡ found (get_or parts (first_with has parts) no_part)
      → option_or o (first parts) ≡ found (get_or (part ∷ parts) (cond (is_some o) 0 (suc (first_with has parts))) no_part)
  there_by part parts (Some x) is rest = sym is
  there_by part parts None is rest = rest

  first_there : found no_part ≡ None → (parts : List PartState) → first parts ≡ found (get_or parts (first_with has parts) no_part)
  first_there none [] = sym none
  first_there none (part ∷ parts) = there_by part parts (found part) refl (first_there none parts)

  -- another node in the place of one that isn't the first
  first_elsewhere : found no_part ≡ None → (parts : List PartState) (i : ℕ) (new : PartState) → has new ≡ has (get_or parts i no_part) → first_with has parts ≢ i → first (set parts i new) ≡ first parts
  first_elsewhere none parts i new same other =
      first_there none (set parts i new)
      ∙ ap (λ n. found (get_or (set parts i new) n no_part)) (stays has parts i new same)
      ∙ ap found (get_or-set_other parts i (first_with has parts) new no_part other)
      ∙ sym (first_there none parts)

-- links, senders and receivers are found so
module _ (number : ℕ) where
  abbrev own_link : PartState → Option LinkState
  own_link part = link_among number part.links

  abbrev own_sender : PartState → Option SenderFields
  own_sender part = sender_for number (sender_in part.role)

  abbrev own_next : PartState → Option ℕ
  own_next part = next_for number (receiver_in part.role)

  link_first : (parts : List PartState) → link_in number parts ≡ first own_link parts
  link_first [] = refl
  link_first (part ∷ parts) = ap (option_or (own_link part)) (link_first parts)

  sender_first : (parts : List PartState) → sender_of number parts ≡ first own_sender parts
  sender_first [] = refl
  sender_first (part ∷ parts) = ap (option_or (own_sender part)) (sender_first parts)

  next_first : (parts : List PartState) → next_in number parts ≡ first own_next parts
  next_first [] = refl
  next_first (part ∷ parts) = ap (option_or (own_next part)) (next_first parts)

-- a link, and a value, is that of the first node that has it
pub link_there : (number : ℕ) (s : State) → link_in number s.parts ≡ link_among number (part_at s (node_of (Link number) s)).links
link_there number s = link_first number s.parts ∙ first_there (own_link number) refl s.parts

value_of : (next : Bool) (value : AnyValue) (flow : ℕ) (s : State) →
    cond next (number_or_nothing (next_in flow s.parts)) (read_sender value (sender_of flow s.parts))
    ≡ cond next
    (number_or_nothing (own_next flow (part_at s (first_with (λ part. cond next (is_some (own_next flow part)) (is_some (own_sender flow part))) s.parts))))
    (read_sender value (own_sender flow (part_at s (first_with (λ part. cond next (is_some (own_next flow part)) (is_some (own_sender flow part))) s.parts))))
value_of true value flow s = ap number_or_nothing (next_first flow s.parts ∙ first_there (own_next flow) refl s.parts)
value_of false value flow s = ap (read_sender value) (sender_first flow s.parts ∙ first_there (own_sender flow) refl s.parts)

pub value_there : (asked : ValueOf) (s : State) → value_in asked.value asked.of s ≡ value_for asked.value asked.of (part_at s (node_of (Value asked) s))
value_there asked s = value_of (is_next asked.value) asked.value asked.of s

-- no value lies past the last node
none_past : (next : Bool) (value : AnyValue) (flow : ℕ) → cond next (number_or_nothing (own_next flow no_part)) (read_sender value (own_sender flow no_part)) ≡ Nothing
none_past true value flow = refl
none_past false value flow = refl

pub no_value : (value : AnyValue) (flow : ℕ) → value_for value flow no_part ≡ Nothing
no_value value flow = none_past (is_next value) value flow

-- the part at a node of a net, and past its last
module _ (s : State) (nodes : List NodeState) (parts : parts_of nodes ≡ s.parts) (node : ℕ) where
  pub part_here : (n : NodeState) → node < length nodes → n ≡ get_or nodes node n → part_at s node ≡ n.part
  part_here n within is = ap (λ l. get_or l node no_part) (sym parts) ∙ get_or-map (λ (m : NodeState). m.part) nodes node n no_part within ∙ ap (λ (m : NodeState). m.part) (sym is)

  pub part_past : length nodes ≤ node → part_at s node ≡ no_part
  part_past past =
      let size = length-map nodes (λ (m : NodeState). m.part) in
      ap (λ l. get_or l node no_part) (sym parts) ∙ get_or_past (parts_of nodes) node no_part (omega (arith, size, past))

-- A LINE OF A RUN

-- what the node of a line was before it, and the state after it
module _ (s : State) (k : Key) (v : Event) (there : k.node < length s.parts) where
  abbrev effect : Effect
  effect = effect_of s (k, v)

  abbrev new : State
  new = stepped s k effect

  keeps_on : (next : Bool) (flow : ℕ) →
      cond next (is_some (own_next flow effect.part)) (is_some (own_sender flow effect.part))
      ≡ cond next (is_some (own_next flow (part_at s k.node))) (is_some (own_sender flow (part_at s k.node)))
  keeps_on true flow = (end_stays flow (part_at s k.node) k v).receives
  keeps_on false flow = (end_stays flow (part_at s k.node) k v).sends

  has_on : (what : Sought) → has_asked what effect.part ≡ has_asked what (part_at s k.node)
  has_on (Link number) = links_stay number (part_at s k.node) k v
  has_on (Value asked) = keeps_on (is_next asked.value) asked.of

  node_stays : (what : Sought) → node_of what s ≡ node_of what new
  node_stays what = sym (stays (has_asked what) s.parts k.node effect.part (has_on what))

  offered_stays : (number : ℕ) → node_of (Link number) s ≢ k.node → offered_in number s ≡ offered_in number new
  offered_stays number other =
      ap (option_map (λ (link : LinkState). link.port.offered))
      (link_first number s.parts
      ∙ sym (first_elsewhere (own_link number) refl s.parts k.node effect.part (links_stay number (part_at s k.node) k v) other)
      ∙ sym (link_first number new.parts))

  value_stays : (next : Bool) (value : AnyValue) (flow : ℕ) → first_with (λ part. cond next (is_some (own_next flow part)) (is_some (own_sender flow part))) s.parts ≢ k.node →
      cond next (number_or_nothing (next_in flow s.parts)) (read_sender value (sender_of flow s.parts))
      ≡ cond next (number_or_nothing (next_in flow new.parts)) (read_sender value (sender_of flow new.parts))
  value_stays true value flow other =
      ap number_or_nothing
      (next_first flow s.parts
      ∙ sym (first_elsewhere (own_next flow) refl s.parts k.node effect.part (end_stays flow (part_at s k.node) k v).receives other)
      ∙ sym (next_first flow new.parts))
  value_stays false value flow other =
      ap (read_sender value)
      (sender_first flow s.parts
      ∙ sym (first_elsewhere (own_sender flow) refl s.parts k.node effect.part (end_stays flow (part_at s k.node) k v).sends other)
      ∙ sym (sender_first flow new.parts))

-- what holds of each event of a node that is there
pub of_line : (G : State → State → ℕ → Type 0) (before after : Reached) (line : TraceLine) → IsRun before → Stepped before (Some line) after
    → ((s : State) (k : Key) (v : Event) → k.node < length s.parts → G s (stepped s k (effect_of s (k, v))) k.node) → G before.state after.state line.key.node
of_line G before after line is stepped_to from =
    let s = before.state in
    of_step s line after.state stepped_to.0 (λ k v due_is new_is line_is.
    let there = node_within is.scenario before.position is.lines s is.is_scenario is.is k v due_is in
    subst (λ (t : State). G s t line.key.node) (sym new_is) (subst (λ n. G s (stepped s k (effect_of s (k, v))) n) (sym (ap (λ (l : TraceLine). l.key.node) line_is)) (from s k v there)))

pub node_same : (before after : Reached) (line : TraceLine) (what : Sought) → IsRun before → Stepped before (Some line) after → node_of what before.state ≡ node_of what after.state
node_same before after line what is stepped_to =
    of_line (λ s t n. node_of what s ≡ node_of what t) before after line is stepped_to (λ s k v there. node_stays s k v there what)

pub offered_elsewhere : (before after : Reached) (line : TraceLine) (number : ℕ) → IsRun before → Stepped before (Some line) after → node_of (Link number) before.state ≢ line.key.node → offered_in number before.state ≡ offered_in number after.state
offered_elsewhere before after line number is stepped_to =
    of_line (λ s t n. node_of (Link number) s ≢ n → offered_in number s ≡ offered_in number t) before after line is stepped_to (λ s k v there. offered_stays s k v there number)

pub value_elsewhere : (before after : Reached) (line : TraceLine) (asked : ValueOf) → IsRun before → Stepped before (Some line) after → node_of (Value asked) before.state ≢ line.key.node → value_in asked.value asked.of before.state ≡ value_in asked.value asked.of after.state
value_elsewhere before after line asked is stepped_to =
    of_line (λ s t n. node_of (Value asked) s ≢ n → value_in asked.value asked.of s ≡ value_in asked.value asked.of t) before after line is stepped_to (λ s k v there. value_stays s k v there (is_next asked.value) asked.value asked.of)

-- ALL THAT A BREAKPOINT SEES

neither : (a b : Bool) → (a || b) ≡ false → (a ≡ false) × (b ≡ false)
neither true b e = absurd (true≢false e)
neither false b e = (refl, e)

same_link : {n n' : ℕ} {o o' : Option ℕ} → n ≡ n' → o ≡ o' → ◌≡◌ {A = SeenLink} (record { node = n; offered = o }) (record { node = n'; offered = o' })
same_link e f i = record { node = e i; offered = f i }

same_value : {n n' : ℕ} {o o' : Reading} → n ≡ n' → o ≡ o' → ◌≡◌ {A = SeenValue} (record { node = n; value = o }) (record { node = n'; value = o' })
same_value e f i = record { node = e i; value = f i }

same_seen : {a b c a' b' c' : SeenLink} {d d' : SeenValue} → a ≡ a' → b ≡ b' → c ≡ c' → d ≡ d' → ◌≡◌ {A = Seen} (record { queue = a; wait = b; count = c; change = d }) (record { queue = a'; wait = b'; count = c'; change = d' })
same_seen e f g h i = record { queue = e i; wait = f i; count = g i; change = h i }

module _ (before after : Reached) (line : TraceLine) (is : IsRun before) (stepped_to : Stepped before (Some line) after) where
  as_many : length before.state.parts ≡ length after.state.parts
  as_many = of_line (λ s t n. length s.parts ≡ length t.parts) before after line is stepped_to (λ s k v there. sym (length-set s.parts k.node (effect_of s (k, v)).part))

  link_node : (asked : Option Asked) → (seen_link before.state asked).node ≡ (seen_link after.state asked).node
  link_node None = as_many
  link_node (Some asked) = node_same before after line (Link asked.of) is stepped_to

  value_node : (asked : Option ValueOf) → (seen_value before.state asked).node ≡ (seen_value after.state asked).node
  value_node None = as_many
  value_node (Some asked) = node_same before after line (Value asked) is stepped_to

  -- it stays at the nodes at which it was
  pub same_nodes : (v : Values) → HasSameNodes (seen_in before.state v) (seen_in after.state v)
  same_nodes v = record { queue = link_node (asked_of v Queue); wait = link_node (asked_of v Wait); count = link_node (asked_of v Count); change = value_node v.change }

  other_link : (asked : Option Asked) → ((seen_link before.state asked).node == line.key.node) ≡ false → seen_link before.state asked ≡ seen_link after.state asked
  other_link None none = same_link as_many refl
  other_link (Some asked) none =
      same_link (link_node (Some asked)) (offered_elsewhere before after line asked.of is stepped_to (eqb-false (node_of (Link asked.of) before.state) line.key.node none))

  other_value : (asked : Option ValueOf) → ((seen_value before.state asked).node == line.key.node) ≡ false → seen_value before.state asked ≡ seen_value after.state asked
  other_value None none = same_value as_many refl
  other_value (Some asked) none =
      same_value (value_node (Some asked)) (value_elsewhere before after line asked is stepped_to (eqb-false (node_of (Value asked) before.state) line.key.node none))

  -- none of what a breakpoint asks for is at the node of the line: it sees what it saw
  pub seen_elsewhere : (v : Values) → sees_at (seen_in before.state v) line.key.node ≡ false → seen_in before.state v ≡ seen_in after.state v
  seen_elsewhere v none =
      let seen = seen_in before.state v in
      let n = line.key.node in
      let halves = neither (seen.queue.node == n || seen.wait.node == n) (seen.count.node == n || seen.change.node == n) none in
      let first = neither (seen.queue.node == n) (seen.wait.node == n) halves.0 in
      let last = neither (seen.count.node == n) (seen.change.node == n) halves.1 in
      same_seen (other_link (asked_of v Queue) first.0) (other_link (asked_of v Wait) first.1) (other_link (asked_of v Count) last.0) (other_value v.change last.1)
