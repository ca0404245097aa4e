use mathlib.Core.Bool.{false≢true}
use Rattle.std.proofs.Common.{◌<◌, length, arith, refl, ap, sym, subst, below_more}
use Rattle.std.proofs.lemmas.Option.{slice_get_within}
use Rattle.scenario_image.specs.Paths.{data_path, ack_path, IsSimple}
use Rattle.scenario_image.proofs.Courses.{flow_at, at_place}
use Rattle.scenario_image.proofs.paths.paths_are_simple.Goals as goal
use Rattle.scenario_image.proofs.paths.paths_are_simple.Goals.{then-not-is_simple-via-then-not-is_simple, then-not-is_simple-via-else-not-is_simple+then-not-is_simple-2}

pub loop-flow-preserved : goal.loop-flow-preserved
loop-flow-preserved c =
    below_more _ _ c.loop-flow.invariant
    (λ flow found. flow_at (λ f. IsSimple c.args.parts.now (data_path f) × IsSimple c.args.parts.now (ack_path f)) c.args.parts.now.flows c.as_slice-flow-items.result.now c.loop-flow.flow-index flow _
    c.as_slice-flow-items.ensures.value found
    (subst (IsSimple c.args.parts.now) c.of_data.ensures (c.if-not-is_simple.ensures.0 refl), subst (IsSimple c.args.parts.now) c.of_acks.ensures (c.if-not-is_simple-2.ensures.0 refl)))

pub returns-then-not-is_simple : goal.returns-then-not-is_simple
returns-then-not-is_simple c = (
  λ never. absurd (false≢true never),
  λ each. let both = at_place (λ f. IsSimple c.args.parts.now (data_path f) × IsSimple c.args.parts.now (ack_path f)) c.args.parts.now.flows c.as_slice-flow-items.result.now c.loop-flow.flow-index _ c.as_slice-flow-items.ensures.value c.loop-flow-test.true each in
      elim c.then-not-is_simple.branch [
        | then-not-is_simple-via-then-not-is_simple w ↦ w.if-not-is_simple.ensures.1 (subst (IsSimple c.args.parts.now) (sym c.of_data.ensures) both.0)
        | then-not-is_simple-via-else-not-is_simple+then-not-is_simple-2 w ↦ w.if-not-is_simple-2.ensures.1 (subst (IsSimple c.args.parts.now) (sym w.of_acks.ensures) both.1)
      ],
)

pub returns : goal.returns
returns c = (
  (λ _ number flow found. let within : number < length c.args.parts.now.flows = slice_get_within _ number flow found in
      c.loop-flow.invariant number (omega (arith, ap length c.as_slice-flow-items.ensures.value)) flow found),
  λ _. refl,
)
