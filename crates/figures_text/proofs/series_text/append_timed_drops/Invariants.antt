-- The lines of the reasons behind are still to be appended.
use Rattle.std.proofs.Common.{◌≡◌, ◌++◌, map, drop}
use Rattle.std.specs.Prelude.{slice_index}
use Rattle.aqm.specs.declared.drop_reason.DropReason.{DropReason}
use Rattle.aqm.specs.DropReasons.{reason_index}
use Rattle.figures_text.specs.declared.figure.Figure.TheVariants.{Dropped}
use Rattle.figures_text.specs.Table.{always_counted}
use Rattle.figures_text.specs.SeriesText.{timed_rows}
use Rattle.figures_text.proofs.series_text.append_timed_drops.Given as goal

abbrev pub invariant-loop-reason : goal.invariant-loop-reason
invariant-loop-reason l =
    l.text.items ++ timed_rows l.begin l.column l.subject (map (λ (reason : DropReason). always_counted (Dropped reason) (slice_index l.counts (reason_index reason))) (drop l.reason-index l.reasons))
    ≡ l.initial.text.items ++ timed_rows l.begin l.column l.subject (map (λ (reason : DropReason). always_counted (Dropped reason) (slice_index l.counts (reason_index reason))) l.reasons)
