-- What a fault means: of a group, of pieces, and of workers.
use Rattle.std.proofs.Common.{◌≡◌, ◌<◌, ◌≤◌, ℕ, refl, arith}
use Rattle.node_group.specs.declared.group.GroupFault.{GroupFault}
use Rattle.node_group.specs.declared.group.GroupFault.TheVariants as group
use Rattle.window_workers.specs.declared.fault.WorkersFault.{WorkersFault}
use Rattle.window_workers.specs.declared.fault.WorkersFault.TheVariants.{NoMemory, CountFull, Failed}
use Rattle.window_workers.specs.WindowOutcomes.{IsWorkersFault, as_fault}

-- a group's, as the workers tell it
pub group_meant : (workers : ℕ) (Full : Type 0) (fault : GroupFault) → (fault ≡ group.CountFull → Full) → IsWorkersFault workers Full (as_fault fault)
group_meant workers Full group.NoMemory full = tt
group_meant workers Full group.CountFull full = full refl

-- of some workers it means what it means of fewer
pub meant_more : (v w : ℕ) (Full More : Type 0) (fault : WorkersFault) → v ≤ w → (Full → More) → IsWorkersFault v Full fault → IsWorkersFault w More fault
meant_more v w Full More NoMemory few more is = tt
meant_more v w Full More CountFull few more is = more is
meant_more v w Full More Failed few more is = omega (arith, few, is)

-- several workers may have that of pieces
pub pieces_meant : (workers : ℕ) (Full : Type 0) (fault : WorkersFault) → 1 < workers → (fault ≡ CountFull → Full) → IsWorkersFault workers Full fault
pieces_meant workers Full NoMemory several full = tt
pieces_meant workers Full CountFull several full = full refl
pieces_meant workers Full Failed several full = several
