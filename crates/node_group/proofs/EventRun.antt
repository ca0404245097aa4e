-- An event of a group: what it leaves as it was, and how it ends where nothing leaves the node.
use Rattle.std.proofs.Common.{◌≡◌, ◌≢◌, ℕ, ◌+◌, ◌<◌, ◌≤◌, List, [], ◌∷◌, ◌++◌, length, set, refl, sym, ap, subst, ◌∙◌, Some, None, Option, arith, length-append}
use Rattle.sim_time.specs.declared.key.Key.{Key}
use Rattle.sim_time.specs.declared.limits.TheConstants.{MOST_EVENTS}
use Rattle.tournament.specs.Keyed.{apply, least}
use Rattle.tournament.proofs.Maps.{not_some}
use Rattle.node_core.specs.declared.event.Event.{Event}
use Rattle.node_core.specs.Pending.{EventChange}
use Rattle.node_core.specs.EventQueueState.{Incoming, incoming_at}
use Rattle.node_core.specs.Part.{link_at}
use Rattle.node_core.specs.Row.{Leaving, sent_away}
use Rattle.node_core.specs.TraceLine.{TraceLine}
use Rattle.node_core.specs.Node.{NodeState}
use Rattle.node_core.specs.WireState.{WireState}
use Rattle.table_run.proofs.Ready.{IsSameLink}
use Rattle.net_machine.specs.Nodes.{node_at, net_pending, IsPlaced, IsFirst}
use Rattle.net_machine.specs.Wiring.{place_at}
use Rattle.net_machine.specs.Region.{node_after}
use Rattle.node_group.proofs.Seated.{seated_set}
use Rattle.net_partition.specs.Partition.{group_in}
use Rattle.node_group.specs.Seats.{Seats, seated, taken_nodes}
use Rattle.node_group.specs.Held.{held_on}
use Rattle.window_law.specs.Groups.{own_of, others_of}
use Rattle.node_group.specs.Group.{GroupValue, member, exit_at, came_in, IsGroup, IsOnRun, IsFiring}
use Rattle.node_group.proofs.DueHere.{in_run}
use Rattle.net_machine.proofs.AfterEvent.{same_link, same_count, same_sent}
use Rattle.node_group.proofs.GroupKept.{kept}
use Rattle.node_group.proofs.Come.{came_at, AreCounted}
use Rattle.node_group.proofs.Firing.{is_due, own_place, eff, line, seats, others, placed_ns, same_seats, stay_here, parts_ns, coming_ns, came_ns, counted_ns, new, fires_by, on_run_new, one_firing}
use Rattle.node_core.specs.Row.{Effect}
use Rattle.window_law.specs.Calls.{IsDueInRun}
use Rattle.node_group.specs.Group.{state_of}

-- the least event of a group's node, which is below a moment, can be run
pub record HasRun (g : GroupValue) (end place : ℕ) (k : Key) (v : Event) : Type 0 where
  pub is : IsGroup g
  pub on : IsOnRun g
  pub below : end ≤ g.until
  pub first : IsFirst (seated g.seats) place
  pub here : least (member g place).pending ≡ Some (k, v)
  pub early : k.time < end
  pub fits : g.position + length g.lines < MOST_EVENTS

module _ {g : GroupValue} {end place : ℕ} {k : Key} {v : Event} (e : HasRun g end place k v) where
  -- what the event does
  abbrev pub effect : Effect
  effect = eff g e.is e.on end e.below place e.first k v e.here e.early

  -- the state of the run at which it is due
  abbrev pub due_here : IsDueInRun e.on.edge g.until (group_in g.entries) g.number (state_of g) k v
  due_here = in_run g e.on k v (is_due g e.is e.on end e.below place e.first k v e.here e.early)

  -- the group afterwards, with these nodes, and these outgoing messages
  abbrev pub next : Seats → List WireState → GroupValue
  next last held = new g e.is e.on end e.below place e.first k v e.here e.early last held

  abbrev pub nodes : List NodeState
  nodes = seated g.seats

  -- its nodes once it has run, and the line that tells of it
  abbrev pub ran : Seats
  ran = seats g e.is e.on end e.below place e.first k v e.here e.early

  abbrev pub ns : List NodeState
  ns = seated ran

  abbrev pub after : NodeState
  after = node_after nodes place k v

  abbrev pub reported : TraceLine
  reported = line g e.is e.on end e.below place e.first k v e.here e.early

  pub placed : IsPlaced ns
  placed = placed_ns g e.is e.on end e.below place e.first k v e.here e.early

  pub seats_stay : taken_nodes ran ≡ taken_nodes g.seats
  seats_stay = same_seats g e.is e.on end e.below place e.first k v e.here e.early

  pub others_stay : ns ≡ set nodes place (node_at ns place)
  others_stay = others g e.is e.on end e.below place e.first k v e.here e.early

  abbrev pub left : Option Leaving
  left = effect.leaving

  abbrev pub away : List EventChange
  away = sent_away effect.part.links left

  abbrev pub group : ℕ → ℕ
  group = group_in g.entries

  pub links_stay : (i j : ℕ) → IsSameLink (exit_at g i j) (link_at (node_at ns i).part.links j)
  links_stay = same_link nodes ns place e.first.within after (seated_set g.seats place after) refl left (stay_here g e.is e.on end e.below place e.first k v e.here e.early)

  pub count_stays : (i : ℕ) → length (node_at ns i).part.links ≡ length (member g i).part.links
  count_stays = same_count nodes ns place e.first.within after (seated_set g.seats place after) refl left (stay_here g e.is e.on end e.below place e.first k v e.here e.early)

  pub sent_stays : (i j : ℕ) → ((l : Leaving) → left ≡ Some l → i ≡ place → j ≢ l.index) → (link_at (node_at ns i).part.links j).port.sent ≡ (exit_at g i j).port.sent
  sent_stays = same_sent nodes ns place e.first.within after (seated_set g.seats place after) refl left (stay_here g e.is e.on end e.below place e.first k v e.here e.early)

  pub comes_same : (i : ℕ) → (node_at ns i).incoming ≡ (member g i).incoming
  comes_same = coming_ns g e.is e.on end e.below place e.first k v e.here e.early

  pub came_same : (link : ℕ) → came_at g.links ns link ≡ came_in g link
  came_same = came_ns g e.is e.on end e.below place e.first k v e.here e.early

  pub counted : AreCounted g.links ns
  counted = counted_ns g e.is e.on end e.below place e.first k v e.here e.early

  pub mine : group place ≡ g.number
  mine = own_place g e.is e.on end e.below place e.first k v e.here e.early

  pub fits_more : g.position + length (g.lines ++ reported ∷ []) ≤ MOST_EVENTS
  fits_more = let more = length-append g.lines (reported ∷ []) in omega (arith, e.fits, more)

  -- NOTHING LEFT

  module _ (none : left ≡ None) where
    none_away : own_of group g.number away ≡ []
    none_away = ap (λ o. own_of group g.number (sent_away effect.part.links o)) none

    none_others : others_of group g.number away ≡ []
    none_others = ap (λ o. others_of group g.number (sent_away effect.part.links o)) none

    unsent : (i j : ℕ) → (link_at (node_at ns i).part.links j).port.sent ≡ (exit_at g i j).port.sent
    unsent i j = sent_stays i j (λ l some. absurd (not_some (sym none ∙ some)))

    pub ends_quiet : IsFiring end g (next ran g.held)
    ends_quiet =
        let pending : net_pending ns ≡ apply (own_of group g.number away) (net_pending ns) = sym (ap (λ (cs : List EventChange). apply cs (net_pending ns)) none_away) in
        let waits : held_on g.held ≡ apply (others_of group g.number away) (held_on g.held) = sym (ap (λ (cs : List EventChange). apply cs (held_on g.held)) none_others) in
        let parts = parts_ns g e.is e.on end e.below place e.first k v e.here e.early in
        record {
          fires = fires_by g e.is e.on end e.below place e.first k v e.here e.early ran g.held parts pending waits end e.early;
          is_group = kept g e.is ran g.held (g.lines ++ reported ∷ []) record {
            same_seats = seats_stay;
            placed = placed;
            count = count_stays;
            same = links_stay;
            balanced = λ i j under. record {
              inside = λ own. came_same (exit_at g i j).port.link ∙ (e.is.exits i j under).inside own ∙ sym (unsent i j);
              across = λ off. (e.is.exits i j under).across off ∙ sym (unsent i j);
            };
            entries = λ link under own. record {
              within = subst (λ (all : List Incoming). (place_at g.links link).index < length all) (sym (comes_same (place_at g.links link).node)) (e.is.entries_are link under own).within;
              over = ap (λ (all : List Incoming). (incoming_at all (place_at g.links link).index).link) (comes_same (place_at g.links link).node) ∙ (e.is.entries_are link under own).over;
            };
            counted = counted;
            wires = refl;
            by_link = e.is.by_link;
            there = λ link. refl;
            fits = fits_more;
          };
          on_run = on_run_new g e.is e.on end e.below place e.first k v e.here e.early ran g.held parts pending waits;
          after = record {
            times = 1;
            state = one_firing g e.is e.on end e.below place e.first k v e.here e.early ran g.held parts pending waits;
            rest = refl;
            seats_stay = seats_stay;
            from_others = λ link under apart. came_same link;
            wires_stay = refl;
          };
        }
