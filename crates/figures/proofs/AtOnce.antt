-- A packet that is sent as it is offered has waited for 0.
use Rattle.std.proofs.Common.{◌≡◌, ℕ, ◌-◌, cond, List, [], ◌∷◌, ◌++◌, length, sym, ap, ◌∙◌, Some, arith}
use Rattle.std.specs.Prelude.{is_none, slice_get}
use Rattle.std.specs.Option.{option_map}
use Rattle.packet_chain.specs.Stamped.{Stamped}
use Rattle.aqm.specs.Queue.{waiting_in, taken_from}
use Rattle.aqm.proofs.Stays.{enters_last}
use Rattle.port.specs.Port.{with_packet}
use Rattle.port.specs.Room.{drops_at}
use Rattle.port.proofs.CodelLaws.{offerings_drop_nothing}
use Rattle.figures.specs.Laws.{SentAsOffered}
use Rattle.aqm.proofs.Given.{given_is}

pub sent_as_offered : SentAsOffered
sent_as_offered now port packet nothing idle room =
    let q = (with_packet now port packet).queue in
    let none : length (taken_from q now).dropped ≡ 0 = sym (ap (λ b. cond b (drops_at now (with_packet now port packet)) 0) (ap is_none idle)) ∙ offerings_drop_nothing now port packet nothing in
    ap (option_map {U = ℕ} (λ (cell : Stamped). now - cell.1))
    (given_is q now ∙ ap (slice_get (waiting_in q)) none ∙ ap (λ (xs : List Stamped). slice_get xs 0) (enters_last port.queue (packet, now) now room ∙ ap (λ (xs : List Stamped). xs ++ (packet, now) ∷ []) (nothing idle)))
    ∙ ap Some {x = now - now} {y = 0} (omega arith)
