use Rattle.std.proofs.Common.{◌≡◌, [], ◌∷◌, ◌++◌, sym, ap, subst, ◌∙◌, arith, Ok, IfOk, OnErr, length}
use Rattle.std.specs.List.{Contains}
use Rattle.std.proofs.lemmas.Result.{on_err_weaker}
use Rattle.debugger.specs.Debugging.{Debugging}
use Rattle.debugger.proofs.moves.Debugger.add_break.Goals as goal

pub invariant_of-self : goal.invariant_of-self
invariant_of-self c = record { moves = record { shown = c.self.invariant.moves.shown; left = c.self.invariant.moves.left }; nodes = c.self.invariant.nodes }

pub returns-clause-same : goal.returns-clause-same
returns-clause-same c =
    let start = ap (λ (d : Debugging). d.start) c.self.view_is in
    let shown = ap (λ (d : Debugging). d.shown) c.self.view_is in
    let left = ap (λ (d : Debugging). d.left) c.self.view_is in
    let workers = ap (λ (d : Debugging). d.workers) c.self.view_is in
    λ i. record { start = start i; shown = shown i; left = left i; breaks = c.add.new.self; workers = workers i }

pub returns-clause-count : goal.returns-clause-count
returns-clause-count c = c.add.ensures.count

pub returns-clause-again : goal.returns-clause-again
returns-clause-again c =
    λ h.
    let a = c.add.ensures.again (subst (λ (d : Debugging). Contains d.breaks c.args.b) (sym c.self.view_is) h) in
    subst (λ (d : Debugging). (◌≡◌ {A = Debugging} (record { start = c.self.inside.checkpoints; shown = c.self.inside.net; left = c.self.inside.left; breaks = c.add.new.self; workers = c.self.inside.window_settings.workers }) d) × (c.add.result ≡ Ok (length d.breaks))) c.self.view_is ((λ i. record { start = c.self.inside.checkpoints; shown = c.self.inside.net; left = c.self.inside.left; breaks = a.0 i; workers = c.self.inside.window_settings.workers }), a.1)

pub returns-clause-fresh : goal.returns-clause-fresh
returns-clause-fresh c = λ h. subst (λ (d : Debugging). IfOk c.add.result (λ _. c.add.new.self ≡ d.breaks ++ c.args.b ∷ [])) c.self.view_is (c.add.ensures.fresh (λ k. h (subst (λ (d : Debugging). Contains d.breaks c.args.b) c.self.view_is k)))

pub returns-clause-full : goal.returns-clause-full
returns-clause-full c = λ h e. c.add.ensures.full (λ k. h (subst (λ (d : Debugging). Contains d.breaks c.args.b) c.self.view_is k)) (ap (λ (d : Debugging). length d.breaks) c.self.view_is ∙ e)

pub returns-clause-room : goal.returns-clause-room
returns-clause-room c = λ h. c.add.ensures.room (let same : length c.self.inside.breaks ≡ length c.args.self.now.breaks = ap (λ (d : Debugging). length d.breaks) c.self.view_is in omega (arith, h, same))

pub returns-clause-err : goal.returns-clause-err
returns-clause-err c = subst (λ (d : Debugging). OnErr c.add.result (◌≡◌ {A = Debugging} (record { start = c.self.inside.checkpoints; shown = c.self.inside.net; left = c.self.inside.left; breaks = c.add.new.self; workers = c.self.inside.window_settings.workers }) d)) c.self.view_is (on_err_weaker c.add.result (λ e. λ i. record { start = c.self.inside.checkpoints; shown = c.self.inside.net; left = c.self.inside.left; breaks = e i; workers = c.self.inside.window_settings.workers }) c.add.ensures.err)
