use Rattle.std.proofs.Common.{◌≡◌, ◌==◌, ℕ, ◌<◌, ◌≤◌, length, get_or, sym, ap, subst, ◌∙◌, arith, List}
use Rattle.std.proofs.lemmas.List.{length-map}
use Rattle.std.proofs.lemmas.List.Sums.{count_by-le-length}
use Rattle.std.specs.List.Sorted.{IsStrictlyIncreasing}
use Rattle.scenario_image.specs.declared.parts.LinkPart.{LinkPart}
use Rattle.scenario_image.specs.declared.parts.FlowPart.{FlowPart}
use Rattle.node_core.specs.EventQueueState.{EventQueueState, fresh_event_queue}
use Rattle.node_core.specs.Initial.{coming_links}
use Rattle.node_core.specs.InitialEventQueue.{numbers_of, start_at}
use Rattle.node_core.proofs.Numbered.{all_at, numbers_within, numbers_rising, passing_count}
use Rattle.node_core.proofs.AtFirst.{opened_event_queue, with_start, same_owner}
use Rattle.node_core.proofs.initial.initial_event_queue.Goals as goal

come : (links parts_links : List LinkPart) (node : ℕ) (numbers slice : List ℕ) → slice ≡ numbers → numbers ≡ numbers_of (coming_links links node) → links ≡ parts_links → slice ≡ numbers_of (coming_links parts_links node)
come links parts_links node numbers slice e f g = e ∙ f ∙ ap (λ ls. numbers_of (coming_links ls node)) g

within : (links : List LinkPart) (node : ℕ) → length links ≤ 1024 → (i : ℕ) → i < length (numbers_of (coming_links links node)) → get_or (numbers_of (coming_links links node)) i 0 < 65535
within links node few i under =
    let at = all_at (λ n. (0 ≤ n) × (n < 1024)) (numbers_of (coming_links links node)) (numbers_within (λ (link : LinkPart). link.to == node) 0 1024 links (omega (arith, few))) i under in
    let below : get_or (numbers_of (coming_links links node)) i 0 < 1024 = at.1 in
    omega (arith, below)

few_come : (links : List LinkPart) (node : ℕ) → length (numbers_of (coming_links links node)) ≤ length links
few_come links node =
    let count = passing_count (λ (link : LinkPart). link.to == node) 0 links in
    omega (arith, length-map (coming_links links node) (λ (x : ℕ × LinkPart). x.0), count, count_by-le-length (λ (link : LinkPart). link.to == node) links)

pub new-requires : goal.new-requires
new-requires c =
    let all = c.args.parts.now.links in
    let links = c.requires.at.scenario.in_limits.counts.link_count.1 in
    let same = come c.as_slice.result.now all c.args.node _ _ c.deref.ensures.value c.in_ok-coming.ensures c.as_slice.ensures.value in
    record {
      few = (let numbers = ap length same in omega (arith, numbers, few_come all c.args.node, links, c.requires.at.few, c.args.leaving.ok.0));
      fit = subst (λ (ns : List ℕ). (i : ℕ) → i < length ns → get_or ns i 0 < 65535) (sym same) (within all c.args.node links);
      rising = subst IsStrictlyIncreasing (sym same) (numbers_rising (λ (link : LinkPart). link.to == c.args.node) 0 all);
    }

pub returns : goal.returns
returns c =
    let all = c.args.parts.now.links in
    let coming = c.deref.result.now in
    c.set_timer.ensures
    ∙ ap (λ (event_queue : EventQueueState). with_start event_queue c.start_at.result) (c.in_ok-event_queue.ensures ∙ ap (λ o. fresh_event_queue o coming) (same_owner c.requires.flow c.requires.at.leave_it))
    ∙ opened_event_queue c.args.parts.now c.requires.at.scenario c.args.node c.requires.at.within coming c.start_at.result
    (come c.as_slice.result.now all c.args.node _ _ c.deref.ensures.value c.in_ok-coming.ensures c.as_slice.ensures.value)
    (c.start_at.ensures ∙ ap (λ (flows : List FlowPart). start_at flows c.args.node) c.as_slice-2.ensures.value)
