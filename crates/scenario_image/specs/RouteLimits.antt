-- The ranges and the order of routes.
use Rattle.std.specs.Prelude.{◌≡◌, ℕ, ◌+◌, ◌*◌, ◌<◌, ◌⊎◌}
use Rattle.scenario_image.specs.declared.parts.RoutePart.{RoutePart}

-- a route between nodes below a number, over a link below another
pub record IsRouteInLimits (node_count link_count : ℕ) (route : RoutePart) : Type 0 where
  pub router_node : route.router < node_count
  pub destination_node : route.destination < node_count
  pub link_number : route.link < link_count

-- a's router is below b's, or they have one router, and a's destination is below b's
abbrev pub IsRouteBefore : RoutePart → RoutePart → Type 0
IsRouteBefore a b = (a.router < b.router) ⊎ ((a.router ≡ b.router) × (a.destination < b.destination))

-- a number that rises as routes do, since nodes are below 65,536
abbrev pub route_key : ℕ → ℕ → ℕ
route_key router destination = router * 65536 + destination
