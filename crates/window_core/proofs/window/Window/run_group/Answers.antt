use Rattle.std.proofs.Common.{◌≡◌, ℕ, List, sym, ap, subst}
use Rattle.node_group.specs.Group.{GroupValue, AfterFirings, IsOnRun}
use Rattle.window_core.specs.Window.{WindowValue, value_at, IsWindow, IsFrom}
use Rattle.window_core.proofs.FiredAt.{from_fired, window_fired}
use Rattle.window_core.proofs.WindowFields.{groups_are, fired_view}
use Rattle.window_core.proofs.Windowed.{on_run_at}
use Rattle.window_core.proofs.window.Window.run_group.Goals as goal

pub run-requires-clause-on_run : goal.run-requires-clause-on_run
run-requires-clause-on_run c =
    let w = c.self.inside in
    let v = c.args.self.now in
    let number = c.args.group in
    let is : IsWindow v = subst IsWindow c.self.view_is c.self.invariant.window in
    let same = groups_are w v c.self.view_is in
    subst (λ (gs : List GroupValue). IsOnRun (value_at gs number)) (sym same) (on_run_at v is number c.requires.within)

pub invariant_of-self : goal.invariant_of-self
invariant_of-self c =
    let w = c.self.inside in
    let v = c.args.self.now in
    let number = c.args.group in
    let is : IsWindow v = subst IsWindow c.self.view_is c.self.invariant.window in
    let same = groups_are w v c.self.view_is in
    let g = value_at c.run.new.self.groups number in
    let until : w.until ≡ v.until = ap (λ (x : WindowValue). x.until) c.self.view_is in
    let after : AfterFirings v.until (value_at v.groups number) g = subst (λ (n : ℕ). AfterFirings n (value_at v.groups number) g) until (subst (λ (gs : List GroupValue). AfterFirings w.until (value_at gs number) g) same c.run.ensures.after) in
    let view = fired_view w v c.self.view_is c.run.new.self number g c.run.ensures.state c.requires.inside in
    record {
      window = subst IsWindow (sym view) (window_fired v is number c.requires.within g after);
      nexts = c.self.invariant.nexts;
      ranks = c.self.invariant.ranks;
    }

pub returns-clause-from : goal.returns-clause-from
returns-clause-from c edge from =
    let w = c.self.inside in
    let v = c.args.self.now in
    let number = c.args.group in
    let is : IsWindow v = subst IsWindow c.self.view_is c.self.invariant.window in
    let same = groups_are w v c.self.view_is in
    let g = value_at c.run.new.self.groups number in
    let until : w.until ≡ v.until = ap (λ (x : WindowValue). x.until) c.self.view_is in
    let after : AfterFirings v.until (value_at v.groups number) g = subst (λ (n : ℕ). AfterFirings n (value_at v.groups number) g) until (subst (λ (gs : List GroupValue). AfterFirings w.until (value_at gs number) g) same c.run.ensures.after) in
    let view = fired_view w v c.self.view_is c.run.new.self number g c.run.ensures.state c.requires.inside in
    subst (IsFrom edge) (sym view) (from_fired v is number c.requires.within g after edge from)
