-- How a batch's value is stored.
use Rattle.std.specs.Prelude.{ℕ, List, refl}
use Rattle.std.specs.Coded.{Coded, code_by, coded×, coded_ℕ, coded_list}
use Rattle.node_core.specs.TraceLine.{TraceLine}
use Rattle.window_law.specs.LineCode.{line_code}
use Rattle.line_merge.specs.Batches.{BatchValue}

abbrev pub batch_code : Coded BatchValue
batch_code = code_by (ℕ × List TraceLine) (coded× coded_ℕ (coded_list line_code)) (λ b. (b.first, b.lines)) (λ t. record { first = t.0; lines = t.1 }) (λ _. refl)
