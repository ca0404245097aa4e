-- How the values of a sheaf and of a cursor are stored.
use Rattle.std.specs.Prelude.{ℕ, List, Option, refl}
use Rattle.std.specs.Coded.{Coded, code_by, coded×, coded_ℕ, coded_list, coded_option}
use Rattle.sim_time.specs.declared.key.Key.{Key}
use Rattle.sim_time.specs.Keys.{key_code}
use Rattle.node_core.specs.TraceLine.{TraceLine}
use Rattle.window_law.specs.LineCode.{line_code}
use Rattle.line_merge.specs.Sheaves.{SheafValue, CursorValue}

abbrev pub sheaf_code : Coded SheafValue
sheaf_code = code_by (ℕ × List (List TraceLine)) (coded× coded_ℕ (coded_list (coded_list line_code))) (λ s. (s.first, s.lists)) (λ t. record { first = t.0; lists = t.1 }) (λ _. refl)

abbrev pub cursor_code : Coded CursorValue
cursor_code =
    code_by (ℕ × (List ℕ × (List ℕ × List (Option Key)))) (coded× coded_ℕ (coded× (coded_list coded_ℕ) (coded× (coded_list coded_ℕ) (coded_list (coded_option key_code))))) (λ c. (c.at, (c.nexts, (c.moments, c.ranks))))
    (λ t. record { at = t.0; nexts = t.1.0; moments = t.1.1.0; ranks = t.1.1.1 }) (λ _. refl)
