-- Routes in the order of their router and destination.
use Rattle.std.specs.Prelude.{ℕ, Bool, ◌&&◌, ◌||◌, ◌==◌, nat_lt, List, [], ◌∷◌, if◌then◌else◌}
use Rattle.std.specs.List.{fold}
use Rattle.scenario_image.specs.declared.parts.RoutePart.{RoutePart}

-- a's router is below b's, or they have one router, and a's destination is below b's
abbrev pub is_before : RoutePart → RoutePart → Bool
is_before a b = nat_lt a.router b.router || (a.router == b.router && nat_lt a.destination b.destination)

-- a route at its place among routes that rise
abbrev pub placed : List RoutePart → RoutePart → List RoutePart
placed [] route = route ∷ []
placed (r ∷ rs) route = if is_before route r then route ∷ r ∷ rs else r ∷ placed rs route

-- routes sorted: rising by router and destination
abbrev pub rising : List RoutePart → List RoutePart
rising routes = fold placed [] routes

-- a route as a map keeps it: its link, by router and destination
abbrev pub as_route : (ℕ × ℕ) × ℕ → RoutePart
as_route entry = record { router = entry.0.0; destination = entry.0.1; link = entry.1 }
