use Rattle.std.proofs.Common.{refl, sym, ◌∙◌, inl, inr, arith}
use Rattle.std.proofs.lemmas.Result.{err_from_is_err_and}
use Rattle.std.proofs.lemmas.Bool.{eqb-true}
use Rattle.scenario_image.proofs.Judged.{not_in_limits, begins, left_over, whole, some_left, read_fault, loaded_image, loaded_scenario, loaded_fault}
use Rattle.scenario_image.proofs.loading.judged.Goals as goal

pub returns-then-not-has_its_layout-clause-fault : goal.returns-then-not-has_its_layout-clause-fault
returns-then-not-has_its_layout-clause-fault c = inr (inl (refl, λ enough. let holds = c.if-not-has_its_layout.ensures.1 enough in cc))

pub has_magic-requires : goal.has_magic-requires
has_magic-requires c = let enough = c.if-not-has_its_layout.ensures.0 refl in omega (arith, enough)

pub returns-then-not-has_magic-clause-fault : goal.returns-then-not-has_magic-clause-fault
returns-then-not-has_magic-clause-fault c = inr (inr (c.if-not-has_its_layout.ensures.0 refl, inl (refl, λ start. let holds = c.if-not-has_magic.ensures.1 start in cc)))

pub parts_of-requires : goal.parts_of-requires
parts_of-requires c = c.if-not-has_its_layout.ensures.0 refl

pub returns-in_err-parts-clause-ok : goal.returns-in_err-parts-clause-ok
returns-in_err-parts-clause-ok c = let p = err_from_is_err_and c.from_residual.result c.from_residual.ensures.1 in rw p.1 tt

pub returns-in_err-parts-clause-scenario : goal.returns-in_err-parts-clause-scenario
returns-in_err-parts-clause-scenario c = let p = err_from_is_err_and c.from_residual.result c.from_residual.ensures.1 in rw p.1 tt

pub returns-in_err-parts-clause-fault : goal.returns-in_err-parts-clause-fault
returns-in_err-parts-clause-fault c =
    let p = err_from_is_err_and c.from_residual.result c.from_residual.ensures.1 in
    rw (p.1, p.2) (read_fault c.args.bytes.now c.in_err-parts.field-0.0 (c.if-not-has_its_layout.ensures.0 refl) (c.if-not-has_magic.ensures.0 refl) c.in_err-parts.ensures)

pub returns-then-not-is_in_limits-clause-fault : goal.returns-then-not-is_in_limits-clause-fault
returns-then-not-is_in_limits-clause-fault c =
    inr (inr (
      c.if-not-has_its_layout.ensures.0 refl,
      inr (
        c.if-not-has_magic.ensures.0 refl,
        inl (
          refl,
          not_in_limits c.args.bytes.now (c.in_ok-parts.parts, c.in_ok-parts.left_over.now) c.in_ok-parts.ensures (λ limits. let holds = c.if-not-is_in_limits.ensures.1 limits in cc),
        ),
      ),
    ))

pub returns-then-not-is_empty-clause-fault : goal.returns-then-not-is_empty-clause-fault
returns-then-not-is_empty-clause-fault c =
    inr (left_over c.args.bytes.now (c.in_ok-parts.parts, c.in_ok-parts.left_over.now)
    (begins c.args.bytes.now (c.in_ok-parts.parts, c.in_ok-parts.left_over.now) (λ i. omega (arith, c.type_inv.bytes i)) c.in_ok-parts.ensures (c.if-not-has_its_layout.ensures.0 refl) (c.if-not-has_magic.ensures.0 refl) (c.if-not-is_in_limits.ensures.0 refl))
    (some_left _ (sym c.is_empty.ensures ∙ c.if-not-is_empty.true)))

pub returns-clause-ok : goal.returns-clause-ok
returns-clause-ok c =
    loaded_image c.args.bytes.now c.in_ok-parts.parts c.of_parts.result
    (whole c.args.bytes.now (c.in_ok-parts.parts, c.in_ok-parts.left_over.now)
    (begins c.args.bytes.now (c.in_ok-parts.parts, c.in_ok-parts.left_over.now) (λ i. omega (arith, c.type_inv.bytes i)) c.in_ok-parts.ensures (c.if-not-has_its_layout.ensures.0 refl) (c.if-not-has_magic.ensures.0 refl) (c.if-not-is_in_limits.ensures.0 refl))
    (eqb-true _ _ (sym c.is_empty.ensures ∙ c.if-not-is_empty.false)))
    c.of_parts.ensures.ok

pub returns-clause-scenario : goal.returns-clause-scenario
returns-clause-scenario c = loaded_scenario c.in_ok-parts.parts c.of_parts.result c.of_parts.ensures.ok c.of_parts.ensures.scenario.0

pub returns-clause-fault : goal.returns-clause-fault
returns-clause-fault c =
    loaded_fault c.args.bytes.now (c.in_ok-parts.parts, c.in_ok-parts.left_over.now) c.of_parts.result
    (begins c.args.bytes.now (c.in_ok-parts.parts, c.in_ok-parts.left_over.now) (λ i. omega (arith, c.type_inv.bytes i)) c.in_ok-parts.ensures (c.if-not-has_its_layout.ensures.0 refl) (c.if-not-has_magic.ensures.0 refl) (c.if-not-is_in_limits.ensures.0 refl))
    (eqb-true _ _ (sym c.is_empty.ensures ∙ c.if-not-is_empty.false))
    c.of_parts.ensures.fault
