use Rattle.std.proofs.Common.{◌≡◌, ◌+◌, ◌-◌, ◌*◌, ◌<◌, ◌++◌, ℕ, List, Option, map, sym, ap, ◌∙◌, arith}
use Rattle.std.specs.Prelude.{option_to_list}
use Rattle.packet_chain.specs.Stamped.{Stamped}
use Rattle.reno_sender.specs.declared.fields.SenderFields.{SenderFields}
use Rattle.node_core.specs.Links.{packets_of}
use Rattle.node_core.specs.Row.{data_packet}
use Rattle.node_core.proofs.Runs.{all_but_last, none_but_again, read_most, read_run}
use Rattle.node_core.proofs.cells.but_last.Goals as goal

pub again-requires : goal.again-requires
again-requires c = omega (arith, ap (λ (s : SenderFields). s.mss) c.as_fields.ensures.value, c.as_fields.ensures.well_made.sound.mss_most)

pub returns-then-count-eq0 : goal.returns-then-count-eq0
returns-then-count-eq0 c =
    let plan = c.args.plan.now in
    let flow = c.args.origin.flow in
    let again = option_to_list c.again.result in
    ap (λ (cells : List Stamped). packets_of cells ++ again) c.new-cells.ensures
    ∙ none_but_again (data_packet flow plan.fields.mss) plan again (sym c.count-count.ensures.value ∙ c.if-count-eq0.true)
    (c.again.ensures ∙ ap (λ (s : SenderFields). map (data_packet flow s.mss) (option_to_list c.resent.result)) c.as_fields.ensures.value ∙ ap (λ (r : Option ℕ). map (data_packet flow plan.fields.mss) (option_to_list r)) c.resent.ensures.value)

pub overflow_sub-count : goal.overflow_sub-count
overflow_sub-count c = omega (arith, c.if-count-eq0.false)

pub segments-requires-clause-mss : goal.segments-requires-clause-mss
segments-requires-clause-mss c = omega (arith, ap (λ (s : SenderFields). s.mss) c.as_fields.ensures.value, c.as_fields.ensures.well_made.sound.mss_most)

pub segments-requires-clause-numbers : goal.segments-requires-clause-numbers
segments-requires-clause-numbers c =
    let most = read_most c.args.plan.now c.as_fields.ensures.well_made c.as_fields.result.now.mss c.first-first.result c.count-count.result (ap (λ (s : SenderFields). s.mss) c.as_fields.ensures.value) c.first-first.ensures.value c.count-count.ensures.value (omega (arith, c.if-count-eq0.false)) in
    omega (arith, most)

pub segments-requires-clause-few : goal.segments-requires-clause-few
segments-requires-clause-few c = omega (arith, c.count-count.ensures.value, c.as_fields.ensures.well_made.few)

pub overflow_sub-count-2 : goal.overflow_sub-count-2
overflow_sub-count-2 c = omega (arith, c.if-count-eq0.false)

pub overflow_mul-count : goal.overflow_mul-count
overflow_mul-count c =
    let most = read_most c.args.plan.now c.as_fields.ensures.well_made c.as_fields.result.now.mss c.first-first.result c.count-count.result (ap (λ (s : SenderFields). s.mss) c.as_fields.ensures.value) c.first-first.ensures.value c.count-count.ensures.value (omega (arith, c.if-count-eq0.false)) in
    omega (arith, most)

pub overflow_add-first : goal.overflow_add-first
overflow_add-first c =
    let most = read_most c.args.plan.now c.as_fields.ensures.well_made c.as_fields.result.now.mss c.first-first.result c.count-count.result (ap (λ (s : SenderFields). s.mss) c.as_fields.ensures.value) c.first-first.ensures.value c.count-count.ensures.value (omega (arith, c.if-count-eq0.false)) in
    omega (arith, most)

pub segment-last-requires : goal.segment-last-requires
segment-last-requires c = omega (arith, ap (λ (s : SenderFields). s.mss) c.as_fields.ensures.value, c.as_fields.ensures.well_made.sound.mss_most)

pub returns : goal.returns
returns c =
    let plan = c.args.plan.now in
    let flow = c.args.origin.flow in
    let f = data_packet flow plan.fields.mss in
    let some : 0 < plan.count = omega (arith, c.if-count-eq0.false, c.count-count.ensures.value) in
    let cells = c.in_ok-cells.ensures ∙ read_run flow plan c.as_fields.result.now c.resent-2.result c.first-first.result c.count-count.result (λ n. n - 1) c.as_fields.ensures.value c.resent-2.ensures.value c.first-first.ensures.value c.count-count.ensures.value in
    let last : c.segment-last.result ≡ f (plan.first + (plan.count - 1) * plan.fields.mss) =
    c.segment-last.ensures
    ∙ ap (λ (s : SenderFields). data_packet flow s.mss (c.first-first.result + (c.count-count.result - 1) * s.mss)) c.as_fields.ensures.value
    ∙ ap (λ n. f (n + (c.count-count.result - 1) * plan.fields.mss)) c.first-first.ensures.value
    ∙ ap (λ n. f (plan.first + (n - 1) * plan.fields.mss)) c.count-count.ensures.value in
    all_but_last f plan c.in_ok-cells.cells c.segment-last.result some cells last
