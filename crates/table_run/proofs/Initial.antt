-- The initial state of every scenario is sound.
use Rattle.std.proofs.Common.{◌≡◌, ◌≢◌, ℕ, zero, suc, ◌+◌, ◌<◌, Bool, true, false, cond, List, [], ◌∷◌, length, map, refl, sym, ap, subst, ◌∙◌, Some, None, arith, ⊎_elim}
use Rattle.std.specs.Prelude.{find}
use Rattle.std.proofs.lemmas.List.{get_or-map}
use Rattle.std.proofs.lemmas.List.FromFn.{get_or-enumerate_from, length-enumerate_from}
use Rattle.std.proofs.lemmas.Option.{slice_get_within, get_or_from_slice_get}
use Rattle.std.specs.List.{slice_get, enumerate_from, AllByRecursion}
use Rattle.std.specs.Option.{IfSome}
use Rattle.std.specs.FinMap as finmap
use Rattle.sim_time.specs.declared.key.Key.{Key}
use Rattle.packet_chain.specs.declared.packet.Packet.{Packet}
use Rattle.scenario_image.specs.declared.parts.NodeKind.{NodeKind}
use Rattle.scenario_image.specs.declared.parts.FlowPart.{FlowPart}
use Rattle.scenario_image.specs.declared.parts.LinkPart.{LinkPart}
use Rattle.scenario_image.specs.declared.parts.ScenarioParts.{ScenarioParts}
use Rattle.aqm.proofs.Stays.{queues_open_empty}
use Rattle.port.specs.Port.{initial_port}
use Rattle.node_core.specs.declared.timer.Timer.TheVariants.{Start as FlowStarts}
use Rattle.node_core.specs.declared.event.Event.{Event}
use Rattle.node_core.specs.declared.event.Event.TheVariants.{Start}
use Rattle.node_core.specs.Timers.{timer_key}
use Rattle.node_core.specs.Initial.{initial_link, initial_part, start_of}
use Rattle.node_core.specs.Part.{LinkState}
use Rattle.node_core.specs.Pending.{Events, EventChange}
use Rattle.tournament.specs.Keyed.{apply, changed}
use Rattle.tournament.proofs.Maps.{not_some, same_some, get_here}
use Rattle.table_run.specs.State.{State, initial, part_at, no_part}
use Rattle.table_run.specs.Flow.{IsUnderWay}
use Rattle.table_run.specs.Sound.{EachEvent, IsStart, afresh, IsSoundLink}
use Rattle.table_run.proofs.Changes.{of_changed, applied_elsewhere}

-- the only element that passes is found
pub find_only : {A : Type 0} (test : ℕ × A → Bool) (base : ℕ) (xs : List A) (place : ℕ) (x : A) → slice_get xs place ≡ Some x → test (base + place, x) ≡ true
    → ((j : ℕ) (y : A) → slice_get xs j ≡ Some y → test (base + j, y) ≡ true → j ≡ place) → find test (enumerate_from base xs) ≡ Some (base + place, x)
find_only test base [] place x e passes only = absurd (not_some e)
find_only {A} test base (a ∷ xs) zero x e passes only =
    let is : a ≡ x = same_some a x e in
    let number : base + 0 ≡ base = omega arith in
    let here : test (base, a) ≡ true = (λ i. test (sym number i, is i)) ∙ passes in
    ap (λ b. cond b (Some (base, a)) (find test (enumerate_from (base + 1) xs))) here ∙ (λ i. Some (sym number i, is i))
find_only {A} test base (a ∷ xs) (suc place) x e passes only =
    let number : base + 1 + place ≡ base + suc place = omega arith in
    let first : test (base, a) ≡ false = fails (test (base, a)) (λ yes'. let zero_is : base + 0 ≡ base = omega arith in first_not (only 0 a refl (ap (λ n. test (n, a)) zero_is ∙ yes'))) in
    ap (λ b. cond b (Some (base, a)) (find test (enumerate_from (base + 1) xs))) first
    ∙ find_only test (base + 1) xs place x e (ap (λ n. test (n, x)) number ∙ passes) (λ j y f g. let is : suc j ≡ suc place = only (suc j) y f (let same : base + suc j ≡ base + 1 + j = omega arith in ap (λ n. test (n, y)) same ∙ g) in omega (arith, is))
    ∙ ap (λ n. Some (n, x)) number
  where
    first_not : zero ≡ suc place → ⊥
    first_not e = omega (arith, e)

    fails : (b : Bool) → (b ≡ true → ⊥) → b ≡ false
    fails true h = absurd (h refl)
    fails false h = refl

-- a node of the initial state
pub opened_part : (p : ScenarioParts) (node : ℕ) (kind : NodeKind) → slice_get p.nodes node ≡ Some kind → part_at (initial p) node ≡ initial_part p (node, kind)
opened_part p node kind is =
    let within : node < length p.nodes = slice_get_within p.nodes node kind is in
    let numbered_within : node < length (enumerate_from 0 p.nodes) = subst (λ l. node < l) (sym (length-enumerate_from 0 p.nodes)) within in
    get_or-map (initial_part p) (enumerate_from 0 p.nodes) node (0, kind) no_part numbered_within
    ∙ ap (initial_part p) (get_or-enumerate_from 0 p.nodes node (0, kind) within ∙ (λ i. (zero_plus node i, get_or_from_slice_get p.nodes node kind kind is i)))
  where
    zero_plus : (x : ℕ) → 0 + x ≡ x
    zero_plus x = omega arith

-- an initial link is as it was before anything was offered to it
pub afresh_all : (xs : List (ℕ × LinkPart)) → map afresh (map initial_link xs) ≡ map initial_link xs
afresh_all [] = refl
afresh_all (x ∷ xs) = λ i. record { to = x.1.to; port = initial_port x.0 x.1.rate x.1.delay x.1.lose ((queues_open_empty x.1.queue x.1.capacity).afresh i) } ∷ afresh_all xs i

pub all_opened : (p : ScenarioParts) (s : State) (xs : List (ℕ × LinkPart)) → AllByRecursion (λ (l : LinkState). IsSoundLink p s 0 l.port) (map initial_link xs)
all_opened p s [] = tt
all_opened p s (x ∷ xs) =
    let empty = (queues_open_empty x.1.queue x.1.capacity).empty in (
      record {
        sent_most = omega arith;
        offered_most = omega arith;
        queued = subst (AllByRecursion (λ (y : Packet × ℕ). IsUnderWay p s x.0 y.0)) (sym empty) tt;
        idle_empty = λ _. empty;
        room = (let none = ap length empty in omega (arith, none));
      },
      all_opened p s xs,
    )

pub all_idle : (xs : List (ℕ × LinkPart)) → AllByRecursion (λ (l : LinkState). l.port.next_free ≡ None) (map initial_link xs)
all_idle [] = tt
all_idle (x ∷ xs) = (refl, all_idle xs)

-- what is pending at first
pub record IsInitial (p : ScenarioParts) (k : Key) (v : Event) : Type 0 where
  pub number : ℕ
  pub is_start : v ≡ Start number
  pub start : IsStart p k number

pub each_applied : (P : Key → Event → Type 0) (cs : List EventChange) (m : Events) → AllByRecursion (λ (c : EventChange). IfSome c.1 (P c.0)) cs → EachEvent P m → EachEvent P (apply cs m)
each_applied P [] m all each = each
each_applied P (c ∷ cs) m all each = each_applied P cs (changed m c.0 c.1) all.1 (λ q w e.
    ⊎_elim
    (λ (h : (q ≡ c.0) × (c.1 ≡ Some w)). subst (λ j. P j w) (sym h.0) (subst (λ o. IfSome o (P c.0)) h.1 all.0))
    (λ (h : (q ≢ c.0) × (finmap.get m q ≡ Some w)). each q w h.1)
    (of_changed m c.0 c.1 q w e))

pub all_starts : (p : ScenarioParts) (base : ℕ) (xs : List FlowPart) → ((j : ℕ) (f : FlowPart) → slice_get xs j ≡ Some f → slice_get p.flows (base + j) ≡ Some f) → AllByRecursion (λ (c : EventChange). IfSome c.1 (IsInitial p c.0)) (map start_of (enumerate_from base xs))
all_starts p base [] at = tt
all_starts p base (x ∷ xs) at = (
  record { number = base; is_start = refl; start = record { flow = x; its_flow = (let same : base + 0 ≡ base = omega arith in ap (slice_get p.flows) (sym same) ∙ at 0 x refl); is_key = refl } },
  all_starts p (base + 1) xs (λ j f e. let same : base + 1 + j ≡ base + suc j = omega arith in ap (slice_get p.flows) same ∙ at (suc j) f e),
)

-- a start of a flow is pending, where no other flow has its key
pub start_pending : (base : ℕ) (xs : List FlowPart) (m : Events) (place : ℕ) (x : FlowPart) → slice_get xs place ≡ Some x → ((j : ℕ) (y : FlowPart) → slice_get xs j ≡ Some y → y.sender ≡ x.sender → j ≡ place)
    → finmap.get (apply (map start_of (enumerate_from base xs)) m) (timer_key x.sender FlowStarts x.start) ≡ Some (Start (base + place))
start_pending base [] m place x e only = absurd (not_some e)
start_pending base (a ∷ xs) m zero x e only =
    let is : a ≡ x = same_some a x e in
    let number : base ≡ base + 0 = omega arith in
    applied_elsewhere (timer_key x.sender FlowStarts x.start) (map start_of (enumerate_from (base + 1) xs)) (changed m (start_of (base, a)).0 (start_of (base, a)).1) (others (base + 1) xs (λ j y f same. later j (only (suc j) y f same)))
    ∙ ap (λ (f : FlowPart). finmap.get (changed m (start_of (base, a)).0 (start_of (base, a)).1) (timer_key f.sender FlowStarts f.start)) (sym is)
    ∙ get_here m (start_of (base, a)).0 (start_of (base, a)).1 ∙ ap (λ n. Some (Start n)) number
  where
    later : (j : ℕ) → suc j ≡ zero → ⊥
    later j e = omega (arith, e)

    others : (base : ℕ) (ys : List FlowPart) → ((j : ℕ) (y : FlowPart) → slice_get ys j ≡ Some y → y.sender ≡ x.sender → ⊥) → AllByRecursion (λ (c : EventChange). timer_key x.sender FlowStarts x.start ≢ c.0) (map start_of (enumerate_from base ys))
    others base [] none = tt
    others base (y ∷ ys) none = ((λ same. none 0 y refl (sym (ap (λ (q : Key). q.node) same))), others (base + 1) ys (λ j z f. none (suc j) z f))
start_pending base (a ∷ xs) m (suc place) x e only =
    start_pending (base + 1) xs (changed m (start_of (base, a)).0 (start_of (base, a)).1) place x e (λ j y f same. let is : suc j ≡ suc place = only (suc j) y f same in omega (arith, is))
    ∙ (let number : base + 1 + place ≡ base + suc place = omega arith in ap (λ n. Some (Start n)) number)
