-- For how long the packet has waited that a freed link is given, by when it entered the queue.
use Rattle.std.proofs.Common.{◌≡◌, ℕ, ◌-◌, Bool, true, cond, nat_lt, List, length, sym, ap, ◌∙◌, Option, Some, None, IfSome, true≢false, inl, inr}
use Rattle.std.specs.Prelude.{option_to_list}
use Rattle.std.specs.Option.{option_map}
use Rattle.packet_chain.specs.Stamped.{Stamped}
use Rattle.aqm.specs.Queue.{take_reason, taken_from}
use Rattle.sim_time.specs.Moment.{IsMoment}
use Rattle.port.specs.declared.acts.Act.{Act}
use Rattle.port.specs.Port.{PortState, taken}
use Rattle.scenario_image.specs.declared.parts.ScenarioParts.{ScenarioParts}
use Rattle.scenario_image.specs.Scenario.{IsScenario}
use Rattle.node_core.specs.TraceLine.{TraceLine}
use Rattle.table_run.specs.State.{State, step}
use Rattle.table_run.specs.Laws.{ComesTo}
use Rattle.net_machine.specs.Run.{Reached}
use Rattle.figures.specs.declared.figures.Figures.{Figures}
use Rattle.figures.specs.Figures.{AreOfSomeRun}
use Rattle.figures.specs.Links.{port_at, frees, tx_in, acts_between, wait_of_given, IsNextEntry, TellsWait}
use Rattle.figures.proofs.Along.{is_moment}
use Rattle.figures.proofs.Balance.{taken_sends_given}
use Rattle.figures.proofs.Freed.{in_time}
use Rattle.figures.proofs.Passages.{Passage, passage}

-- as many are sent as are given, and each has waited since it entered
by_given : (now entered sent : ℕ) (given : Option Stamped) → length (option_to_list (option_map {U = ℕ} (λ (cell : Stamped). now - cell.1) given)) ≡ sent → IfSome given (λ (cell : Stamped). now - entered ≡ now - cell.1) →
    cond (nat_lt 0 sent) (Some (now - entered)) None ≡ option_map {U = ℕ} (λ (cell : Stamped). now - cell.1) given
by_given now entered sent None count same = ap (λ n. cond (nat_lt 0 n) (Some (now - entered)) None) (sym count)
by_given now entered sent (Some cell) count same = ap (λ n. cond (nat_lt 0 n) (Some (now - entered)) None) (sym count) ∙ ap Some same

-- a freed link takes from its queue
taken_tells : (now entered : ℕ) (port : PortState) (acts : List Act) → acts ≡ (taken now port).acts → IsMoment now → port.next_free ≡ Some now → IsNextEntry port entered → cond (nat_lt 0 (tx_in acts)) (Some (now - entered)) None ≡ wait_of_given now port
taken_tells now entered port acts acts_are moment free is =
    by_given now entered (tx_in acts) (taken_from port.queue now).given
    (taken_sends_given now (record port { queue = (taken_from port.queue now).queue }) (take_reason port.queue) (taken_from port.queue now).dropped (taken_from port.queue now).given ∙ ap tx_in (sym acts_are))
    (is now moment free)

freed_tells : (now entered : ℕ) (old new : PortState) (freed : Bool) (acts : List Act) → Passage now old new freed acts → freed ≡ true → IsMoment now → old.next_free ≡ Some now → IsNextEntry old entered →
    cond (nat_lt 0 (tx_in acts)) (Some (cond freed (now - entered) 0)) None ≡ wait_of_given now old
freed_tells now entered old new freed acts (inl is) test moment free entry =
    ap (λ b. cond (nat_lt 0 (tx_in acts)) (Some (cond b (now - entered) 0)) None) test ∙ taken_tells now entered old acts is.acts_are moment free entry
freed_tells now entered old new freed acts (inr is) test moment free entry = absurd (true≢false (sym test ∙ is.test))

pub tells : (p : ScenarioParts) (is_scenario : IsScenario p) (n : ℕ) (lines : List TraceLine) (s : State) (comes : ComesTo p n lines s) (line : TraceLine) (t : State) (next : step s ≡ Some (line, t)) → IsMoment line.key.time → TellsWait s line t
tells p is_scenario n lines s comes line t next moment i entered inside entry test =
    freed_tells line.key.time entered (port_at s line.key.node i) (port_at t line.key.node i) (frees (port_at t line.key.node i).link line.event) (acts_between (port_at s line.key.node i).offered (port_at t line.key.node i) line)
    (passage p is_scenario n lines s comes line t next i inside) test moment (in_time p is_scenario n lines s comes line t next i inside test) entry

pub tells_in_run : (f : Figures) (r : Reached) (line : TraceLine) (t : State) → AreOfSomeRun f r → step r.state ≡ Some (line, t) → TellsWait r.state line t
tells_in_run f r line t some next = tells some.scenario some.is_scenario r.position some.of.lines r.state some.of.comes line t next (is_moment f r line t some next)
