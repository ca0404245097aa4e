-- When the packet entered its queue that a link is given once it is free.
use Rattle.std.proofs.Common.{◌≡◌, ℕ, ◌-◌, false, List, [], sym, subst, ◌∙◌, Option, Some, None, IfSome}
use Rattle.std.specs.Option.{option_map}
use Rattle.tournament.proofs.Maps.{not_some}
use Rattle.packet_chain.specs.Stamped.{Stamped}
use Rattle.aqm.specs.declared.queue.Queue.{Queue}
use Rattle.aqm.specs.Queue.{may_drop, taken_from, waiting_in}
use Rattle.aqm.proofs.Front.{gives_what_waits}

pub no_wait : (now entered : ℕ) (given : Option Stamped) → None ≡ option_map {U = ℕ} (λ (cell : Stamped). now - cell.1) given → IfSome given (λ (cell : Stamped). now - entered ≡ now - cell.1)
no_wait now entered None is = tt
no_wait now entered (Some cell) is = absurd (not_some is)

pub none_given : (q : Queue) (all : List Stamped) (entered now : ℕ) → may_drop q ≡ false → all ≡ waiting_in q → all ≡ [] → IfSome (taken_from q now).given (λ (c : Stamped). entered ≡ c.1)
none_given q all entered now keeps all_are empty = subst (λ (o : Option Stamped). IfSome o (λ (c : Stamped). entered ≡ c.1)) (sym ((gives_what_waits q now).1 (sym all_are ∙ empty))) tt
