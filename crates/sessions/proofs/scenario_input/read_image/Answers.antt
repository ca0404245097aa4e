use Rattle.std.proofs.Common.{◌≡◌, Err, Result, sym, subst, rules}
use Rattle.scenario_image.specs.declared.parts.ScenarioParts.{ScenarioParts}
use Rattle.sessions.specs.declared.fault.SessionFault.{SessionFault}
use Rattle.sessions.specs.Faults.{of_image}
use Rattle.sessions.specs.Input.{IsImageOf, IsImageFault, Reads}
use Rattle.sessions.proofs.Readings.{image_read, image_refused}
use Rattle.sessions.proofs.scenario_input.read_image.Goals as goal

pub returns-in_err-scenario : goal.returns-in_err-scenario
returns-in_err-scenario c =
    let bytes = c.args.bytes.now in
    let says = c.load.ensures in
    let fault = c.in_err-scenario.field-0.0 in
    let is : c.from_residual.result ≡ Err (of_image fault) = search rules in
    let P : Result ScenarioParts SessionFault → Type 0 = Reads (IsImageOf bytes) (IsImageFault bytes) in
    subst P (sym is) (image_refused bytes fault c.load.result c.in_err-scenario.was (record { ok = says.ok; only = says.only; fault = says.fault; only_fault = says.only_fault }))

pub returns : goal.returns
returns c =
    let says = c.load.ensures in
    image_read c.args.bytes.now c.in_ok-scenario.scenario c.load.result c.in_ok-scenario.was c.parts-parts.ensures.scenario (record { ok = says.ok; only = says.only; fault = says.fault; only_fault = says.only_fault })
