use Rattle.std.proofs.Common.{sym, subst, refl}
use Rattle.debugger.specs.Moves.{Passes}
use Rattle.debugger.specs.declared.checkpoints.Checkpoints.TheInside.{Inside}
use Rattle.debugger.proofs.Thinned.{Held, all_of, with_copy}
use Rattle.debugger.proofs.checkpoints.Checkpoints.keep.Goals as goal
use Rattle.debugger.proofs.checkpoints.Checkpoints.keep.Goals.{then-len-self, else-len-self}

pub invariant_of-self : goal.invariant_of-self
invariant_of-self c =
    let held : Held c.args.self.now c.if-len-self.self-inside.initial c.if-len-self.self-inside.later.items =
    elim c.if-len-self.branch [
      | then-len-self w ↦
          subst (λ (x : Inside). Held c.args.self.now x.initial x.later.items) (sym w.self-inside-is)
          (record { checkpoints = record { at_start = c.self.invariant.at_start; on_run = all_of (Passes c.self.inside.initial.state) _ _ c.self.invariant.on_run w.thin.ensures }; begins = c.self.view_is })
      | else-len-self w ↦ subst (λ (x : Inside). Held c.args.self.now x.initial x.later.items) (sym w.self-inside-is) (record { checkpoints = c.self.invariant; begins = c.self.view_is })
    ] in
    with_copy c.args.self.now c.if-len-self.self-inside.initial c.args.net.now c.args.net.now c.if-len-self.self-inside.later.items c.put_copy.new.nets.items c.put_copy.ensures.0 held refl c.requires c.put_copy.ensures.1
