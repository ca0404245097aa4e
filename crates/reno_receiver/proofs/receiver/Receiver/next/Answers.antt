use Rattle.std.proofs.Common.{sym}
use Rattle.reno_receiver.proofs.Kept.{next_of_kept, least_kept, well_formed_kept}
use Rattle.reno_receiver.proofs.receiver.Receiver.next.Goals as goal

pub returns : goal.returns
returns c = record {
  value = rw (← c.self.view_is) (sym (next_of_kept c.self.inside c.self.invariant));
  least = rw (← c.self.view_is) (least_kept c.self.inside c.self.invariant);
  well_formed = rw (← c.self.view_is) (well_formed_kept c.self.inside c.self.invariant);
}
