use Rattle.std.proofs.Common.{◌<◌, length, sym, subst}
use Rattle.breakpoints.specs.Breaks.{IsTakenOut}
use Rattle.breakpoints.proofs.TakenOut.{taken_out}
use Rattle.breakpoints.proofs.breaks.Breaks.delete.Goals as goal

pub returns : goal.returns
returns c =
    let within = subst (λ l. c.args.index < length l) (sym c.self.view_is) c.requires in
    subst (λ l. IsTakenOut l c.remove.new.self.items c.args.index c.remove.result) c.self.view_is
    (taken_out c.self.inside.items.items c.remove.new.self.items c.args.index c.remove.result within c.remove.ensures.value c.remove.ensures.items)
