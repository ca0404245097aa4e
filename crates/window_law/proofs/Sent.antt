-- What an event changes at other nodes is what it sends there: its timers and its links are at home.
use Rattle.std.proofs.Common.{◌≡◌, ◌≢◌, ℕ, List, sym, ◌∙◌, false, eq-eqb, ap, true≢false, Some, None, Option}
use Rattle.std.specs.List.{AllByRecursion}
use Rattle.sim_time.specs.declared.key.Key.{Key}
use Rattle.tournament.proofs.Maps.{not_some}
use Rattle.node_core.specs.declared.event.Event.{Event}
use Rattle.node_core.specs.Pending.{EventChange}
use Rattle.node_core.specs.Part.{LinkState}
use Rattle.node_core.specs.Row.{Leaving, home_changes, sent_away}
use Rattle.table_run.specs.State.{State, part_at, effect_of}
use Rattle.table_run.specs.Laws.{made_by}
use Rattle.table_run.proofs.AtHome.{home_at}
use Rattle.table_run.proofs.Lists.{all_append, all_map}
use Rattle.window_law.specs.Groups.{is_own}

-- of what an event changes, that at another group's nodes is put in
abbrev pub IsSent : (ℕ → ℕ) → ℕ → EventChange → Type 0
IsSent group number c = is_own group number c.0 ≡ false → c.1 ≢ None

home_sent : (group : ℕ → ℕ) (node : ℕ) (c : EventChange) → c.0.node ≡ node → IsSent group (group node) c
unfolding is_own
home_sent group node c here off none = true≢false (sym (eq-eqb (group c.0.node) (group node) (ap group here)) ∙ off)

away_sent : (group : ℕ → ℕ) (number : ℕ) (links : List LinkState) (leaving : Option Leaving) → AllByRecursion (IsSent group number) (sent_away links leaving)
away_sent group number links None = tt
away_sent group number links (Some leaving) = ((λ off none. not_some (sym none)), tt)

pub crossing_sent : (group : ℕ → ℕ) (s : State) (k : Key) (v : Event) → AllByRecursion (IsSent group (group k.node)) (made_by s k v)
crossing_sent group s k v =
    let effect = effect_of s (k, v) in
    all_append (IsSent group (group k.node)) (home_changes k.node effect) (sent_away effect.part.links effect.leaving)
    (all_map (λ (c : EventChange). c.0.node ≡ k.node) (IsSent group (group k.node)) (home_sent group k.node) (home_changes k.node effect) (home_at (part_at s k.node) k v))
    (away_sent group (group k.node) effect.part.links effect.leaving)
