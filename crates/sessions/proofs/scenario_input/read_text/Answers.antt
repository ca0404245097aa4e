use Rattle.std.proofs.Common.{◌≡◌, Err, Result, sym, subst, rules}
use Rattle.scenario_image.specs.declared.parts.ScenarioParts.{ScenarioParts}
use Rattle.scenario_asm.specs.Meaning.{MeansScenario}
use Rattle.sessions.specs.declared.fault.SessionFault.{SessionFault}
use Rattle.sessions.specs.Faults.{of_text}
use Rattle.sessions.specs.Input.{IsTextFault, Reads}
use Rattle.sessions.proofs.Readings.{text_read, text_refused}
use Rattle.sessions.proofs.scenario_input.read_text.Goals as goal

pub returns-in_err-scenario : goal.returns-in_err-scenario
returns-in_err-scenario c =
    let text = c.args.text.now in
    let says = c.assemble.ensures in
    let fault = c.in_err-scenario.field-0.0 in
    let is : c.from_residual.result ≡ Err (of_text fault) = search rules in
    let P : Result ScenarioParts SessionFault → Type 0 = Reads (MeansScenario text) (IsTextFault text) in
    subst P (sym is)
    (text_refused text fault c.assemble.result c.in_err-scenario.was (record { scenario = says.scenario; only_scenario = says.only_scenario; fault = says.fault; only_fault = says.only_fault }))

pub returns : goal.returns
returns c =
    let says = c.assemble.ensures in
    text_read c.args.text.now c.in_ok-scenario.scenario c.assemble.result c.in_ok-scenario.was
    (record { scenario = says.scenario; only_scenario = says.only_scenario; fault = says.fault; only_fault = says.only_fault })
