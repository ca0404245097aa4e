-- What the table of names knows.
use Rattle.std.specs.Prelude.{map}
use Rattle.std.specs.HashMap.{get_by}
use Rattle.std.specs.Str.{bytes_eq}
use Rattle.scenario_asm.specs.declared.table.Table.{Table}
use Rattle.scenario_asm.specs.Names.{Known}
use Rattle.scenario_asm.specs.Routes.{as_route}

-- what a table knows
abbrev pub known_in : Table → Known
known_in table =
    record { item = λ word. get_by (λ name. bytes_eq word name.now) table.items; kinds = table.kinds.items; links = table.links.items; flows = table.flows.items; routes = map as_route table.routes.entries }
