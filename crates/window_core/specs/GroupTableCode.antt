-- How a group table's value is stored.
use Rattle.std.specs.Prelude.{Bool, List, refl}
use Rattle.std.specs.Coded.{Coded, code_by, coded×, coded_bool, coded_list}
use Rattle.node_group.specs.Group.{GroupValue}
use Rattle.node_group.specs.GroupCode.{group_code}
use Rattle.window_core.specs.GroupTables.{GroupTableValue}

abbrev pub group_table_code : Coded GroupTableValue
group_table_code = code_by (List GroupValue × Bool) (coded× (coded_list group_code) coded_bool) (λ r. (r.groups, r.out)) (λ t. record { groups = t.0; out = t.1 }) (λ _. refl)
