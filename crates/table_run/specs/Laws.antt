-- What is said of every run of every scenario.
use Rattle.std.specs.Prelude.{◌≡◌, ℕ, ◌+◌, ◌<◌, ◌≤◌, ◌⊎◌, List, ◌++◌, length, None, Some, IfSome}
use Rattle.std.specs.List.{slice_get, AllByRecursion}
use Rattle.std.specs.FinMap as finmap
use Rattle.std.specs.declared.cmp.Ordering.TheVariants.{Less}
use Rattle.sim_time.specs.declared.key.Key.{Key}
use Rattle.sim_time.specs.Keys.{key_cmp}
use Rattle.packet_chain.specs.declared.packet.Packet.{Packet}
use Rattle.scenario_image.specs.declared.parts.LinkPart.{LinkPart}
use Rattle.scenario_image.specs.declared.parts.ScenarioParts.{ScenarioParts}
use Rattle.scenario_image.specs.Scenario.{IsScenario}
use Rattle.reno_sender.specs.declared.fields.SenderFields.{SenderFields}
use Rattle.reno_receiver.specs.Received.{next_of}
use Rattle.node_core.specs.declared.event.Event.{Event}
use Rattle.node_core.specs.declared.event.Event.TheVariants.{Arrive}
use Rattle.node_core.specs.declared.role.Role.{Role}
use Rattle.node_core.specs.declared.role.Role.TheVariants.{Sends, Receives, Routes}
use Rattle.node_core.specs.declared.routes.FlowExits.{FlowExits}
use Rattle.node_core.specs.Pending.{EventChange}
use Rattle.node_core.specs.RouteTable.{exit_for}
use Rattle.node_core.specs.Row.{changes_of}
use Rattle.node_core.specs.TraceLine.{TraceLine}
use Rattle.table_run.specs.State.{State, initial, part_at, due, effect_of, stepped, run}
use Rattle.table_run.specs.Sound.{IsSoundAt}

-- the run of a scenario comes to this state after so many steps, and gave these lines
abbrev pub ComesTo : ScenarioParts → ℕ → List TraceLine → State → Type 0
ComesTo p n lines s = run (initial p) n ≡ Some (lines, s)

-- all is as it should be at a moment before which no event is left, and after which none was run
pub record IsSoundRun (p : ScenarioParts) (lines : List TraceLine) (s : State) : Type 0 where
  pub moment : ℕ
  pub none_later : AllByRecursion (λ line. line.key.time ≤ moment) lines
  pub sound : IsSoundAt p lines moment s

-- every state of every run of every scenario is sound
abbrev pub RunsAreSound : Type 0
RunsAreSound = (p : ScenarioParts) (n : ℕ) (lines : List TraceLine) (s : State) → IsScenario p → ComesTo p n lines s → IsSoundRun p lines s

-- a router's table has a route for a packet, over a link that leaves the router
pub record HasRoute (s : State) (node : ℕ) (table : List FlowExits) (x : Packet) : Type 0 where
  pub index : ℕ
  pub exit : exit_for table x ≡ Some index
  pub within : index < length (part_at s node).links

-- in every state of every run each router has a route for each packet that is on its way to it, so that none comes to a router without one
abbrev pub RoutersHaveRoutes : Type 0
RoutersHaveRoutes = (p : ScenarioParts) (n : ℕ) (lines : List TraceLine) (s : State) → IsScenario p → ComesTo p n lines s → (k : Key) (x : Packet) → finmap.get s.pending k ≡ Some (Arrive x)
    → (table : List FlowExits) → (part_at s k.node).role ≡ Routes table → HasRoute s k.node table x

-- P holds of each event that is due in a run, with the state before it
abbrev pub AtEachEvent : (ScenarioParts → State → Key → Event → Type 0) → Type 0
AtEachEvent P = (p : ScenarioParts) (n : ℕ) (lines : List TraceLine) (s : State) → IsScenario p → ComesTo p n lines s → (k : Key) (v : Event) → due s ≡ Some (k, v) → P p s k v

-- what the event makes: the changes to the pending events
abbrev pub made_by : State → Key → Event → List EventChange
made_by s k v = changes_of k.node (effect_of s (k, v))

-- the next event's key is greater
abbrev pub NextIsGreater : ScenarioParts → State → Key → Event → Type 0
NextIsGreater p s k v = (next : Key) (w : Event) → due (stepped s k (effect_of s (k, v))) ≡ Some (next, w) → key_cmp k next ≡ Less

-- in every run the keys of the events strictly rise
abbrev pub KeysRise : Type 0
KeysRise = AtEachEvent NextIsGreater

-- later than a moment, by at most 100 seconds
abbrev pub IsDueSoon : ℕ → Key → Type 0
IsDueSoon now k = (now < k.time) × (k.time ≤ now + 100000000000)

-- in every run all that an event sets or sends is due soon after it
abbrev pub EffectsAreSoon : Type 0
EffectsAreSoon = AtEachEvent (λ p s k v. AllByRecursion (λ (c : EventChange). IfSome c.1 (λ _. IsDueSoon k.time c.0)) (made_by s k v))

-- an arrival over a link that leaves a node: it is at the link's end, more than the link's delay after a moment
pub record ComesOver (p : ScenarioParts) (node now : ℕ) (k : Key) : Type 0 where
  pub number : ℕ
  pub link : LinkPart
  pub its_link : slice_get p.links number ≡ Some link
  pub over : k.source ≡ number + 1
  pub leaves : link.from ≡ node
  pub ends : link.to ≡ k.node
  pub late : now + link.delay < k.time

-- a change that an event at a node makes: to a timer of that node, or an arrival over one of its links
abbrev pub IsMadeAt : ScenarioParts → Key → EventChange → Type 0
IsMadeAt p k c = ((c.0.node ≡ k.node) × (c.0.source ≡ 0)) ⊎ ComesOver p k.node k.time c.0

-- in every run an event sets timers of its own node and sends over its own links, and nothing else; what it sends comes later by more than the link's delay
abbrev pub EffectsAreLocal : Type 0
EffectsAreLocal = AtEachEvent (λ p s k v. AllByRecursion (IsMadeAt p k) (made_by s k v))

-- a flow's sender has no fewer bytes acknowledged, and no fewer sent
pub record SenderRises (f g : SenderFields) : Type 0 where
  pub una_rises : f.una ≤ g.una
  pub high_rises : f.high ≤ g.high

-- a node keeps its role and its flow, and what it counts of the flow doesn't fall: una and high of a sender, the next byte of a receiver; a router keeps its routes
abbrev pub RoleRises : Role → Role → Type 0
RoleRises (Sends flow f) (Sends later g) = (later ≡ flow) × SenderRises f g
RoleRises (Sends flow f) (Receives later b) = ⊥
RoleRises (Sends flow f) (Routes later) = ⊥
RoleRises (Receives flow a) (Sends later g) = ⊥
RoleRises (Receives flow a) (Receives later b) = (later ≡ flow) × (next_of a ≤ next_of b)
RoleRises (Receives flow a) (Routes later) = ⊥
RoleRises (Routes table) (Sends later g) = ⊥
RoleRises (Routes table) (Receives later b) = ⊥
RoleRises (Routes table) (Routes later) = later ≡ table

-- from each state of a run to each later one no number of a flow falls, at any node
abbrev pub NumbersNeverFall : Type 0
NumbersNeverFall = (p : ScenarioParts) (n m : ℕ) (lines more : List TraceLine) (s t : State) → IsScenario p → n ≤ m → ComesTo p n lines s → ComesTo p m more t
    → (node : ℕ) → RoleRises (part_at s node).role (part_at t node).role

-- a run goes on from any state on its way, with the lines put together
abbrev pub RunsGoOn : Type 0
RunsGoOn = (s t u : State) (m n : ℕ) (first rest : List TraceLine) → run s m ≡ Some (first, t) → run t n ≡ Some (rest, u) → run s (m + n) ≡ Some (first ++ rest, u)

-- the state after the first steps of a run, and the run from there
pub record Parted (s u : State) (m n : ℕ) (lines : List TraceLine) : Type 0 where
  pub between : State
  pub first : List TraceLine
  pub rest : List TraceLine
  pub begins : run s m ≡ Some (first, between)
  pub goes_on : run between n ≡ Some (rest, u)
  pub together : lines ≡ first ++ rest

-- each longer run passes the states of the shorter ones
abbrev pub RunsPart : Type 0
RunsPart = (s u : State) (m n : ℕ) (lines : List TraceLine) → run s (m + n) ≡ Some (lines, u) → Parted s u m n lines

-- a run that is at its end: no event below the end is left
pub record RunEnded (p : ScenarioParts) : Type 0 where
  pub steps : ℕ
  pub lines : List TraceLine
  pub last : State
  pub comes : ComesTo p steps lines last
  pub none_due : due last ≡ None

-- every run of every scenario ends
abbrev pub RunsEnd : Type 0
RunsEnd = (p : ScenarioParts) → IsScenario p → RunEnded p
