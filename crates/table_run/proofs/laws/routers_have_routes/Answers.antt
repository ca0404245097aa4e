use Rattle.table_run.proofs.RunLaws.{routers_have_routes}
use Rattle.table_run.proofs.laws.routers_have_routes.Goals as goal

pub returns : goal.returns
returns c = routers_have_routes
