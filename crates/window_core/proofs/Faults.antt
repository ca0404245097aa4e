-- What a group's fault means for its window.
use Rattle.std.proofs.Common.{◌<◌, ℕ, length, Result, Ok, Err, IfErr, arith}
use Rattle.node_group.specs.declared.group.GroupFault.{GroupFault}
use Rattle.node_group.specs.declared.group.GroupFault.TheVariants.{NoMemory, CountFull}
use Rattle.node_group.specs.Faults.{IsFaultAt}
use Rattle.window_core.specs.declared.window.acting.Action.TheVariants.{Fire as FireOf}
use Rattle.window_core.specs.Acting.{IsFaultOf, fault_of}
use Rattle.window_core.specs.Window.{WindowValue, value_at, IsWindow}

-- a group's fault is that of the firing that was asked for
pub fault_fired : {T : Type 0} (r : Result T GroupFault) (v : WindowValue) → IsWindow v → (number : ℕ) → number < length v.groups → IfErr r (IsFaultAt v.until (value_at v.groups number))
    → IfErr r (λ f. IsFaultOf v (FireOf number) (fault_of f))
fault_fired (Ok x) v is number under at = tt
fault_fired (Err CountFull) v is number under at = let part = (is.split.parts number under).position_is in let many = at.1 in (record { within = under; one_due = at.0 }, omega (arith, part, many))
fault_fired (Err NoMemory) v is number under at = let part = (is.split.parts number under).position_is in let few = at.1 in (record { within = under; one_due = at.0 }, omega (arith, part, few))
