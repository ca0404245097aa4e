use Rattle.std.proofs.Common.{◌≡◌, Result, Err, IfErr, sym, subst, rules}
use Rattle.prompt_words.specs.Namings.{limits_of}
use Rattle.prompt_words.specs.declared.naming.Naming.{Naming}
use Rattle.sessions.specs.declared.fault.SessionFault.{SessionFault}
use Rattle.sessions.specs.declared.fault.SessionFault.TheVariants.{NoMemory}
use Rattle.sessions.specs.declared.prompt.Prompt.{Prompt}
use Rattle.sessions.specs.Done.{IsRefused}
use Rattle.sessions.specs.Namings.{IsNamingOf}
use Rattle.sessions.proofs.PromptEnds.{groups_refused, input_refused, scenario_of, short_refused}
use Rattle.sessions.proofs.prompt.begin_prompt.Goals as goal

pub returns-in_err-scenario-clause-refused : goal.returns-in_err-scenario-clause-refused
returns-in_err-scenario-clause-refused g c =
    let fault = c.in_err-scenario.field-0.0 in
    let groups = c.args.sharing.now.groups in
    let input = c.args.input.now in
    let is : c.from_residual.result ≡ Err fault = search rules in
    subst (λ (r : Result Prompt SessionFault). IfErr r (IsRefused groups input)) (sym is) (input_refused groups input fault c.reported_scenario.result c.requires c.in_err-scenario.was c.reported_scenario.ensures)

pub returns-in_err-partition-clause-refused : goal.returns-in_err-partition-clause-refused
returns-in_err-partition-clause-refused g c =
    let fault = c.in_err-partition.field-0.0 in
    let groups = c.args.sharing.now.groups in
    let input = c.args.input.now in
    let p = c.in_ok-scenario.scenario in
    let is : c.from_residual-in_err-partition.result ≡ Err fault = search rules in
    let means = scenario_of input c.reported_scenario.result p c.in_ok-scenario.was c.reported_scenario.ensures in
    subst (λ (r : Result Prompt SessionFault). IfErr r (IsRefused groups input)) (sym is) (groups_refused groups input p fault c.requires means c.in_err-partition.ensures.faults)

pub returns-in_err-naming-clause-refused : goal.returns-in_err-naming-clause-refused
returns-in_err-naming-clause-refused g c =
    let is : c.from_residual-in_err-naming.result ≡ Err NoMemory = search rules in
    subst (λ (r : Result Prompt SessionFault). IfErr r (IsRefused c.args.sharing.now.groups c.args.input.now)) (sym is) (short_refused c.args.sharing.now.groups c.args.input.now)

pub naming_of-requires : goal.naming_of-requires
naming_of-requires g c = scenario_of c.args.input.now c.reported_scenario.result c.in_ok-scenario.scenario c.in_ok-scenario.was c.reported_scenario.ensures

pub returns-in_err-prompt-clause-refused : goal.returns-in_err-prompt-clause-refused
returns-in_err-prompt-clause-refused g c =
    let is : c.from_residual-in_err-prompt.result ≡ Err NoMemory = search rules in
    subst (λ (r : Result Prompt SessionFault). IfErr r (IsRefused c.args.sharing.now.groups c.args.input.now)) (sym is) (short_refused c.args.sharing.now.groups c.args.input.now)

pub returns-clause-opened : goal.returns-clause-opened
returns-clause-opened g c =
    let input = c.args.input.now in
    let p = c.in_ok-scenario.scenario in
    let opens = c.in_ok-prompt.ensures in
    record {
      p = p;
      workers = c.workers.result;
      has_scenario = scenario_of input c.reported_scenario.result p c.in_ok-scenario.was c.reported_scenario.ensures;
      has_groups = c.in_ok-partition.ensures.named;
      naming = subst (λ (n : Naming). IsNamingOf input (limits_of p) n) (sym opens.naming) c.in_ok-naming.ensures;
      debugger = opens.debugger;
      memo = opens.memo;
      displays = opens.displays;
    }
