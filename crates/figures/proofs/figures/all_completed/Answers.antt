use Rattle.std.proofs.Common.{◌≡◌, ◌+◌, ◌++◌, ◌∷◌, [], length, get_or, sym, ap, subst, ◌∙◌}
use Rattle.std.specs.Option.{option_and_then}
use Rattle.std.proofs.lemmas.List.{get_or_read, length_push}
use Rattle.std.proofs.lemmas.Option.{slice_get-get_or}
use Rattle.figures.specs.Senders.{completed_in}
use Rattle.figures.specs.declared.sender.SenderFigures.{SenderFigures}
use Rattle.figures.proofs.Pushed.{one_pushed}
use Rattle.figures.proofs.figures.all_completed.Goals as goal

pub loop-counted-preserved : goal.loop-counted-preserved
loop-counted-preserved c =
    let senders = c.args.senders.now in
    let so_far = c.loop-counted.all.items in
    let at = c.loop-counted.counted-index in
    let counted : SenderFigures = c.counted-item.result in
    let items : c.push.new.self.items ≡ so_far ++ counted.completed ∷ [] = c.in_ok-push.ensures.items in
    let read : counted ≡ get_or senders at counted = get_or_read senders at counted c.loop-counted-test.true c.counted-item.is counted in
    let here : counted.completed ≡ completed_in senders at =
    ap (λ (f : SenderFigures). f.completed) read ∙ sym (ap (option_and_then (λ (f : SenderFigures). f.completed)) (slice_get-get_or senders at counted c.loop-counted-test.true)) in
    record {
      size = ap length items ∙ length_push so_far counted.completed ∙ ap (λ n. n + 1) c.loop-counted.invariant.size;
      completed = λ place other under. subst (λ all. get_or all place other ≡ completed_in senders place) (sym items)
          (one_pushed (λ i o. o ≡ completed_in senders i) so_far counted.completed at c.loop-counted.invariant.size c.loop-counted.invariant.completed here place other under);
    }
