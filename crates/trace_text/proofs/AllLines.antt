-- The lines of nodes, of links and of events, appended one behind the other.
use Rattle.std.proofs.Common.{◌≡◌, ◌++◌, ◌∙◌, ℕ, List, Option, ap, append_assoc}
use Rattle.std.specs.List.{flat_map, enumerate_from}
use Rattle.std.specs.FinMap as map
use Rattle.node_core.specs.Node.{NodeState}
use Rattle.table_run.specs.State.{State}
use Rattle.net_machine.specs.Nodes.{parts_of, net_pending}
use Rattle.trace_text.specs.Chosen.{chosen_node, chosen_link, chosen_event}
use Rattle.trace_text.specs.ChosenLines.{chosen_bytes}
use Rattle.trace_text.specs.Dump.{links_in_order}

pub all_chosen : (flow : Option ℕ) (first second third : List NodeState) (state : State) (old one two three : List ℕ)
    → parts_of first ≡ state.parts → parts_of second ≡ state.parts → net_pending third ≡ state.pending
    → one ≡ old ++ flat_map (chosen_node flow) (enumerate_from 0 (parts_of first))
    → two ≡ one ++ flat_map (chosen_link flow) (links_in_order (parts_of second))
    → three ≡ two ++ flat_map (chosen_event flow) (map.entries (net_pending third))
    → three ≡ old ++ chosen_bytes flow state
all_chosen flow first second third state old one two three nodes links events is_one is_two is_three =
    is_three
    ∙ ap (λ l. l ++ flat_map (chosen_event flow) (map.entries (net_pending third))) (is_two ∙ ap (λ l. l ++ flat_map (chosen_link flow) (links_in_order (parts_of second))) is_one)
    ∙ append_assoc (old ++ flat_map (chosen_node flow) (enumerate_from 0 (parts_of first))) (flat_map (chosen_link flow) (links_in_order (parts_of second))) (flat_map (chosen_event flow) (map.entries (net_pending third)))
    ∙ append_assoc old (flat_map (chosen_node flow) (enumerate_from 0 (parts_of first))) (flat_map (chosen_link flow) (links_in_order (parts_of second)) ++ flat_map (chosen_event flow) (map.entries (net_pending third)))
    ∙ (λ i. old ++ (flat_map (chosen_node flow) (enumerate_from 0 (nodes i)) ++ (flat_map (chosen_link flow) (links_in_order (links i)) ++ flat_map (chosen_event flow) (map.entries (events i)))))
