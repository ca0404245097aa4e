use Rattle.std.proofs.Common.{◌≡◌, ◌≤◌, ℕ, suc, min, List, [], ◌∷◌, ◌++◌, map, All, sym, ap, subst, ◌∙◌, arith}
use Rattle.std.specs.Option.{option_to_list}
use Rattle.std.proofs.lemmas.List.Elements.{All-map}
use Rattle.window_core.specs.Group.{GroupValue}
use Rattle.window_core.specs.Window.{WindowValue}
use Rattle.tests_nets.proofs.boards.laid.whole.Goals as goal

last : (until : ℕ) (before : List GroupValue) (g : GroupValue) → All (λ (x : GroupValue). until ≤ x.until) (before ++ g ∷ []) → until ≤ g.until
last until [] g all = all 0 g (omega arith)
last until (x ∷ before) g all =
    let h : All (λ (y : GroupValue). until ≤ y.until) (x ∷ before ++ g ∷ []) = all in last until before g (λ i d l. h (suc i) d (omega (arith, l)))

-- the last of some groups that all have one end
last_until : (until end : ℕ) (groups lent before : List GroupValue) (g : GroupValue) → lent ≡ map (λ (x : GroupValue). record x { until = until }) groups → end ≡ until → lent ≡ before ++ g ∷ [] → end ≤ g.until
last_until until end groups lent before g is ends split =
    let P : List GroupValue → Type 0 = All (λ (x : GroupValue). until ≤ x.until) in
    let all : P (map (λ (x : GroupValue). record x { until = until }) groups) = All-map (λ (x : GroupValue). until ≤ x.until) (λ (x : GroupValue). record x { until = until }) groups (λ i d l. omega arith) in
    subst (λ (e : ℕ). e ≤ g.until) (sym ends) (last until before g (subst P (sym is ∙ split) all))

pub returns : goal.returns
returns g c =
    let v = c.grouped-window.result in
    last_until (min v.until 500000000) c.end-end.result v.groups c.take_groups-groups.result.items c.pop.new.self.items c.expect-group.result
    (c.take_groups-groups.ensures.groups ∙ ap (λ (w : WindowValue). w.groups) c.limit.ensures.state) (c.end-end.ensures ∙ ap (λ (w : WindowValue). w.until) c.limit.ensures.state)
    (c.pop.ensures.items ∙ ap (λ o. c.pop.new.self.items ++ option_to_list o) c.expect-group.ensures)
