-- The links join the nodes also after an event, and after its packet has come to the end of its link.
use Rattle.std.proofs.Common.{◌≡◌, ◌≢◌, ℕ, ◌+◌, ◌<◌, ◌≤◌, List, length, set, refl, sym, ap, subst, ◌∙◌, Some, None, Option, ⊎_elim}
use Rattle.std.proofs.lemmas.Bool.{cases_eq}
use Rattle.std.proofs.lemmas.List.{get_or-set_same, length-set}
use Rattle.scenario_image.specs.declared.parts.LinkPart.{LinkPart}
use Rattle.packet_chain.specs.Stamped.{Stamped}
use Rattle.tournament.proofs.Maps.{not_some, same_some}
use Rattle.node_core.specs.EventQueueState.{Incoming, incoming_at}
use Rattle.node_core.specs.Part.{LinkState, PartState, link_at}
use Rattle.node_core.specs.Row.{Leaving}
use Rattle.node_core.specs.Node.{NodeState, delivered}
use Rattle.net_machine.specs.Nodes.{no_node, node_at}
use Rattle.net_machine.proofs.AfterEvent.{same_link as link_after, same_count as count_after, same_coming as coming_after, same_sent as sent_after, same_part as part_come, coming_count, coming_link, coming_others, coming_here}
use Rattle.net_machine.specs.Wiring.{from_of, exit_of, to_of, entry_of, leaving_at, coming_at, IsNetWire, IsExit, IsWired}
use Rattle.table_run.proofs.Ready.{IsSameLink, LinksStay}

module _ (links : List LinkPart) (nodes : List NodeState) (wired : IsWired links nodes) where
  -- a link's number tells where it leaves
  same_exit : (a b : ℕ) → a < length links → b < length links → from_of links a ≡ from_of links b → exit_of links a ≡ exit_of links b → a ≡ b
  same_exit a b under_a under_b from exit =
      sym (wired.wires a under_a).leaves
      ∙ ap (λ n. (link_at (node_at nodes n).part.links (exit_of links a)).port.link) from
      ∙ ap (λ j. (link_at (node_at nodes (from_of links b)).part.links j).port.link) exit
      ∙ (wired.wires b under_b).leaves

  -- and where it ends
  same_entry : (a b : ℕ) → a < length links → b < length links → to_of links a ≡ to_of links b → entry_of links a ≡ entry_of links b → a ≡ b
  same_entry a b under_a under_b to entry =
      sym (wired.wires a under_a).over
      ∙ ap (λ n. (incoming_at (node_at nodes n).incoming (entry_of links a)).link) to
      ∙ ap (λ j. (incoming_at (node_at nodes (to_of links b)).incoming j).link) entry
      ∙ (wired.wires b under_b).over

  -- an event changes the links of its node
  module _ (place : ℕ) (inside : place < length nodes) (x : NodeState) (same_in : x.incoming ≡ (node_at nodes place).incoming) (leaving : Option Leaving) (stay : LinksStay (node_at nodes place).part.links x.part.links leaving) where
    same_link : (i j : ℕ) → IsSameLink (link_at (node_at nodes i).part.links j) (link_at (node_at (set nodes place x) i).part.links j)
    same_link = link_after nodes (set nodes place x) place inside x refl same_in leaving stay

    same_count : (i : ℕ) → length (node_at (set nodes place x) i).part.links ≡ length (node_at nodes i).part.links
    same_count = count_after nodes (set nodes place x) place inside x refl same_in leaving stay

    same_coming : (i : ℕ) → (node_at (set nodes place x) i).incoming ≡ (node_at nodes i).incoming
    same_coming = coming_after nodes (set nodes place x) place inside x refl same_in leaving stay

    few_stay : (i : ℕ) → length (node_at (set nodes place x) i).part.links ≤ 16
    few_stay i = subst (λ n. n ≤ 16) (sym (same_count i)) (wired.few i)

    exits_stay : (i j : ℕ) → j < length (node_at (set nodes place x) i).part.links → IsExit links (set nodes place x) i j
    exits_stay i j under =
        let old = wired.exits i j (subst (λ n. j < n) (same_count i) under) in
        let number = (same_link i j).same_number in
        record {
          known = subst (λ n. n < length links) (sym number) old.known;
          from_here = ap (from_of links) number ∙ old.from_here;
          exit_here = ap (exit_of links) number ∙ old.exit_here;
        }

    -- a link over which nothing left has sent no more
    sent_stays : (number : ℕ) → ((l : Leaving) → leaving ≡ Some l → from_of links number ≡ place → exit_of links number ≢ l.index)
        → (leaving_at links (set nodes place x) number).port.sent ≡ (leaving_at links nodes number).port.sent
    sent_stays number other = sent_after nodes (set nodes place x) place inside x refl same_in leaving stay (from_of links number) (exit_of links number) other

    wire_stays : (number : ℕ) → number < length links → (leaving_at links (set nodes place x) number).port.sent ≡ (leaving_at links nodes number).port.sent → IsNetWire links (set nodes place x) number
    wire_stays number under sent =
        let old = wired.wires number under in
        let link = same_link (from_of links number) (exit_of links number) in
        let coming = same_coming (to_of links number) in
        record {
          leaves = link.same_number ∙ old.leaves;
          ends = link.same_to ∙ old.ends;
          within = subst (λ n. to_of links number < n) (sym (length-set nodes place x)) old.within;
          entry = subst (λ (all : List Incoming). entry_of links number < length all) (sym coming) old.entry;
          over = ap (λ (all : List Incoming). (incoming_at all (entry_of links number)).link) coming ∙ old.over;
          came = ap (λ (all : List Incoming). (incoming_at all (entry_of links number)).came) coming ∙ old.came ∙ sym sent;
        }

    -- where nothing left
    pub wired_fired : leaving ≡ None → IsWired links (set nodes place x)
    wired_fired none = record {
      few = few_stay;
      exits = exits_stay;
      wires = λ number under. wire_stays number under (sent_stays number (λ l is. absurd (not_some (sym none ∙ is))));
    }

    -- where a packet left over a link
    module _ (l : Leaving) (left : leaving ≡ Some l) (number : ℕ) (known : number < length links) (from : from_of links number ≡ place) (exit : exit_of links number ≡ l.index)
        (next : (link_at x.part.links l.index).port.sent ≡ (link_at (node_at nodes place).part.links l.index).port.sent + 1) where
      -- it comes to the link's end
      module _ (packets : List Stamped) (one : length packets ≡ 1) (y : NodeState) (is : y ≡ delivered (node_at (set nodes place x) (to_of links number)) (entry_of links number) packets) where
        there : to_of links number < length (set nodes place x)
        there = subst (λ n. to_of links number < n) (sym (length-set nodes place x)) (wired.wires number known).within

        its_entry : entry_of links number < length (node_at (set nodes place x) (to_of links number)).incoming
        its_entry = subst (λ (all : List Incoming). entry_of links number < length all) (sym (same_coming (to_of links number))) (wired.wires number known).entry

        abbrev ran : List NodeState
        ran = set nodes place x

        abbrev last : List NodeState
        last = set ran (to_of links number) y

        come : last ≡ set ran (to_of links number) (delivered (node_at ran (to_of links number)) (entry_of links number) packets)
        come = ap (set ran (to_of links number)) is

        same_part : (i : ℕ) → (node_at last i).part ≡ (node_at ran i).part
        same_part = part_come ran last (to_of links number) (entry_of links number) packets there its_entry come

        in_count : (i : ℕ) → length (node_at last i).incoming ≡ length (node_at nodes i).incoming
        in_count i = coming_count ran last (to_of links number) (entry_of links number) packets there its_entry come i ∙ ap length (same_coming i)

        in_link : (i j : ℕ) → (incoming_at (node_at last i).incoming j).link ≡ (incoming_at (node_at nodes i).incoming j).link
        in_link i j = coming_link ran last (to_of links number) (entry_of links number) packets there its_entry come i j ∙ ap (λ (all : List Incoming). (incoming_at all j).link) (same_coming i)

        came_others : (other : ℕ) → other < length links → other ≢ number → (coming_at links last other).came ≡ (coming_at links nodes other).came
        came_others other under apart =
            coming_others ran last (to_of links number) (entry_of links number) packets there its_entry come (to_of links other) (entry_of links other) (λ both. apart (same_entry other number under known both.0 both.1))
            ∙ ap (λ (all : List Incoming). (incoming_at all (entry_of links other)).came) (same_coming (to_of links other))

        came_here : (coming_at links last number).came ≡ (coming_at links nodes number).came + 1
        came_here =
            coming_here ran last (to_of links number) (entry_of links number) packets there its_entry come
            ∙ ap (λ n. (incoming_at (node_at ran (to_of links number)).incoming (entry_of links number)).came + n) one
            ∙ ap (λ (all : List Incoming). (incoming_at all (entry_of links number)).came + 1) (same_coming (to_of links number))

        sent_here : (leaving_at links (set nodes place x) number).port.sent ≡ (leaving_at links nodes number).port.sent + 1
        sent_here =
            ap (λ n. (link_at (node_at (set nodes place x) n).part.links (exit_of links number)).port.sent) from
            ∙ ap (λ (z : NodeState). (link_at z.part.links (exit_of links number)).port.sent) (get_or-set_same nodes place x no_node inside)
            ∙ ap (λ j. (link_at x.part.links j).port.sent) exit
            ∙ next
            ∙ ap (λ j. (link_at (node_at nodes place).part.links j).port.sent + 1) (sym exit)
            ∙ ap (λ n. (link_at (node_at nodes n).part.links (exit_of links number)).port.sent + 1) (sym from)

        sent_others : (other : ℕ) → other < length links → other ≢ number → (leaving_at links (set nodes place x) other).port.sent ≡ (leaving_at links nodes other).port.sent
        sent_others other under apart =
            sent_stays other (λ other_l is from_there exit_there. apart (same_exit other number under known (from_there ∙ sym from) (exit_there ∙ ap (λ (m : Leaving). m.index) (same_some other_l l (sym is ∙ left)) ∙ sym exit)))

        -- what has come is what was sent
        all_came : (other : ℕ) → other < length links → (coming_at links (set (set nodes place x) (to_of links number) y) other).came ≡ (leaving_at links (set nodes place x) other).port.sent
        all_came other under =
            ⊎_elim
            (λ (at : other ≡ number). subst (λ n. (coming_at links (set (set nodes place x) (to_of links number) y) n).came ≡ (leaving_at links (set nodes place x) n).port.sent) (sym at) (came_here ∙ ap (λ n. n + 1) (wired.wires number known).came ∙ sym sent_here))
            (λ (apart : other ≢ number). came_others other under apart ∙ (wired.wires other under).came ∙ sym (sent_others other under apart))
            (cases_eq other number)

        same_leaving : (i j : ℕ) → link_at (node_at (set (set nodes place x) (to_of links number) y) i).part.links j ≡ link_at (node_at (set nodes place x) i).part.links j
        same_leaving i j = ap (λ (p : PartState). link_at p.links j) (same_part i)

        pub wired_delivered : IsWired links (set (set nodes place x) (to_of links number) y)
        wired_delivered = record {
          few = λ i. subst (λ (p : PartState). length p.links ≤ 16) (sym (same_part i)) (few_stay i);
          exits = λ i j under.
              let old = exits_stay i j (subst (λ (p : PartState). j < length p.links) (same_part i) under) in
              let same = ap (λ (link : LinkState). link.port.link) (same_leaving i j) in
              record { known = subst (λ n. n < length links) (sym same) old.known; from_here = ap (from_of links) same ∙ old.from_here; exit_here = ap (exit_of links) same ∙ old.exit_here };
          wires = λ other under.
              let old = wired.wires other under in
              let link = same_link (from_of links other) (exit_of links other) in
              let same = same_leaving (from_of links other) (exit_of links other) in
              record {
                leaves = ap (λ (z : LinkState). z.port.link) same ∙ link.same_number ∙ old.leaves;
                ends = ap (λ (z : LinkState). z.to) same ∙ link.same_to ∙ old.ends;
                within = subst (λ n. to_of links other < n) (sym (length-set (set nodes place x) (to_of links number) y ∙ length-set nodes place x)) old.within;
                entry = subst (λ n. entry_of links other < n) (sym (in_count (to_of links other))) old.entry;
                over = in_link (to_of links other) (entry_of links other) ∙ old.over;
                came = all_came other under ∙ sym (ap (λ (z : LinkState). z.port.sent) same);
              };
        }
