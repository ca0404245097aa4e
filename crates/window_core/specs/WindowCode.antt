-- How a window's value is stored.
use Rattle.std.specs.Prelude.{ℕ, Bool, List, Option, refl}
use Rattle.std.specs.Coded.{Coded, code_by, coded×, coded_ℕ, coded_bool, coded_list, coded_option}
use Rattle.net_machine.specs.declared.places.LinkEnds.{LinkEnds}
use Rattle.net_machine.specs.contracts.places.LinkEnds as link_ends
use Rattle.line_merge.specs.Batches.{BatchValue}
use Rattle.line_merge.specs.BatchCode.{batch_code}
use Rattle.node_group.specs.Group.{GroupValue}
use Rattle.node_group.specs.GroupCode.{group_code}
use Rattle.window_core.specs.Window.{WindowValue}

abbrev pub window_code : Coded WindowValue
window_code =
    code_by (List ℕ × (List LinkEnds × (Option ℕ × (ℕ × (ℕ × (ℕ × (List GroupValue × (Bool × BatchValue))))))))
    (coded× (coded_list coded_ℕ) (coded× (coded_list link_ends.the_row.coded) (coded× (coded_option coded_ℕ) (coded× coded_ℕ (coded× coded_ℕ (coded× coded_ℕ (coded× (coded_list group_code) (coded× coded_bool batch_code))))))))
    (λ v. (v.entries, (v.links, (v.ahead, (v.end, (v.until, (v.position, (v.groups, (v.out, v.taken)))))))))
    (λ t. record { entries = t.0; links = t.1.0; ahead = t.1.1.0; end = t.1.1.1.0; until = t.1.1.1.1.0; position = t.1.1.1.1.1.0; groups = t.1.1.1.1.1.1.0; out = t.1.1.1.1.1.1.1.0; taken = t.1.1.1.1.1.1.1.1 }) (λ _. refl)
