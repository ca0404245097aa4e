-- How an engine's value is stored.
use Rattle.std.specs.Prelude.{ℕ, Bool, List, Option, refl}
use Rattle.std.specs.Coded.{Coded, code_by, coded×, coded_ℕ, coded_bool, coded_list, coded_option}
use Rattle.net_machine.specs.Run.{Reached}
use Rattle.net_machine.specs.Codes.{reached_code}
use Rattle.window_engine.specs.Engines.{EngineValue}

abbrev pub engine_code : Coded EngineValue
engine_code =
    code_by (List ℕ × (Option ℕ × (Reached × Bool))) (coded× (coded_list coded_ℕ) (coded× (coded_option coded_ℕ) (coded× reached_code coded_bool))) (λ e. (e.entries, (e.ahead, (e.net, e.failed))))
    (λ t. record { entries = t.0; ahead = t.1.0; net = t.1.1.0; failed = t.1.1.1 }) (λ _. refl)
