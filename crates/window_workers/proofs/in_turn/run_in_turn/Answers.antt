use Rattle.std.proofs.Common.{ap, ◌∙◌, arith, ◌≡◌, ◌<◌, ◌≤◌, ℕ, length, subst}
use Rattle.std.proofs.lemmas.Result.{IfErr-at_err}
use Rattle.node_group.specs.declared.group.GroupFault.TheVariants as group
use Rattle.window_core.specs.GroupFaults.{IsFaultAt}
use Rattle.window_core.specs.Group.{GroupValue, AfterFirings}
use Rattle.window_core.specs.Window.{WindowValue, states_of, value_at}
use Rattle.window_core.specs.Windows.{all_done}
use Rattle.window_workers.specs.Laid.{HasFullGroup}
use Rattle.window_workers.proofs.Meant.{group_meant}
use Rattle.window_workers.proofs.Laying.{all_done_of}
use Rattle.window_workers.proofs.in_turn.run_in_turn.Goals as goal

pub returns-clause-done : goal.returns-clause-done
returns-clause-done c =
    let was = c.loop-i.invariant in
    let until_is = ap (λ (w : WindowValue). w.until) was.0 in
    let past : length c.loop-i.window.groups ≤ c.loop-i.i = omega (arith, was.1, c.groups-i-end.ensures, c.loop-i-test.false) in
    record {
      inside = ap (λ (w : WindowValue). w.out) was.0 ∙ c.requires.inside;
      until = until_is;
      position = ap (λ (w : WindowValue). w.position) was.0;
      from = was.2;
      done =
          ap (λ (e : ℕ). all_done e (states_of c.loop-i.window.groups)) until_is
          ∙ all_done_of c.args.window.now.until c.loop-i.window.groups (λ n l. was.4 n (omega (arith, l, past)));
    }

pub returns-in-Err-clause-fault : goal.returns-in-Err-clause-fault
returns-in-Err-clause-fault c =
    let was = c.loop-i.invariant in
    let v = c.args.window.now in
    let u = c.loop-i.window in
    let i = c.loop-i.i in
    let ran = c.run_group-ran.new.self in
    let it = value_at ran.groups i in
    let until : u.until ≡ v.until = ap (λ (w : WindowValue). w.until) was.0 in
    let same : value_at u.groups i ≡ value_at v.groups i = was.3 i (omega arith) in
    let below : i < length v.groups = omega (arith, was.1, c.groups-i-end.ensures, c.loop-i-test.true) in
    let at : IsFaultAt u.until it c.in-Err.fault = IfErr-at_err (IsFaultAt u.until it) c.in-Err.is c.run_group-ran.ensures.fault in
    rw c.group_fault.ensures (group_meant 1 (HasFullGroup v) c.in-Err.fault (λ is. record {
      number = i;
      group = it;
      within = below;
      after = subst (λ (e : ℕ). AfterFirings e (value_at v.groups i) it) until (subst (λ (h : GroupValue). AfterFirings u.until h it) same c.run_group-ran.ensures.after);
      full = subst (λ (e : ℕ). IsFaultAt e it group.CountFull) until (subst (IsFaultAt u.until it) is at);
    }))
