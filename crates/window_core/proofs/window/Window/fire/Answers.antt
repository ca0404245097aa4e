use Rattle.std.proofs.Common.{IfErr, ◌≡◌, ◌≤◌, ◌<◌, ℕ, List, length, refl, sym, ap, subst, arith}
use Rattle.std.specs.Result.{IfOk}
use Rattle.node_group.specs.Group.{GroupValue, AfterFirings, Fired, IsOnRun}
use Rattle.node_group.specs.Faults.{IsFaultAt}
use Rattle.window_core.specs.Window.{WindowValue, value_at, IsWindow, IsFrom, HasFiredOr}
use Rattle.window_core.proofs.Faults.{fault_fired}
use Rattle.window_core.proofs.FiredAt.{none_past, from_fired, window_fired, has_fired, has_room}
use Rattle.window_core.proofs.WindowFields.{groups_are, fired_view}
use Rattle.window_core.proofs.Windowed.{on_run_at}
use Rattle.window_core.proofs.window.Window.fire.Goals as goal

pub returns-then-group-len-clause-ok : goal.returns-then-group-len-clause-ok
returns-then-group-len-clause-ok c =
    let v = c.args.self.now in
    let past : length v.groups ≤ c.args.group = (let size = c.len.ensures in let beyond = c.if-group-len.true in let known = ap length (groups_are c.self.inside v c.self.view_is) in omega (arith, size, beyond, known)) in
    (none_past v c.args.group past, refl)

pub fire-requires-clause-on_run : goal.fire-requires-clause-on_run
fire-requires-clause-on_run c =
    let w = c.self.inside in
    let v = c.args.self.now in
    let number = c.args.group in
    let is : IsWindow v = subst IsWindow c.self.view_is c.self.invariant.window in
    let same = groups_are w v c.self.view_is in
    let under : number < length v.groups = (let size = c.len.ensures in let below = c.if-group-len.false in let known = ap length same in omega (arith, size, below, known)) in
    subst (λ (gs : List GroupValue). IsOnRun (value_at gs number)) (sym same) (on_run_at v is number under)

pub invariant_of-self : goal.invariant_of-self
invariant_of-self c =
    let w = c.self.inside in
    let v = c.args.self.now in
    let number = c.args.group in
    let is : IsWindow v = subst IsWindow c.self.view_is c.self.invariant.window in
    let same = groups_are w v c.self.view_is in
    let under : number < length v.groups = (let size = c.len.ensures in let below = c.if-group-len.false in let known = ap length same in omega (arith, size, below, known)) in
    let g = value_at c.fire.new.self.groups number in
    let until : w.until ≡ v.until = ap (λ (x : WindowValue). x.until) c.self.view_is in
    let after : AfterFirings v.until (value_at v.groups number) g = subst (λ (n : ℕ). AfterFirings n (value_at v.groups number) g) until (subst (λ (gs : List GroupValue). AfterFirings w.until (value_at gs number) g) same c.fire.ensures.after) in
    let view = fired_view w v c.self.view_is c.fire.new.self number g c.fire.ensures.state c.requires in
    record {
      window = subst IsWindow (sym view) (window_fired v is number under g after);
      nexts = c.self.invariant.nexts;
      ranks = c.self.invariant.ranks;
    }

pub returns-clause-ok : goal.returns-clause-ok
returns-clause-ok c =
    let w = c.self.inside in
    let v = c.args.self.now in
    let number = c.args.group in
    let is : IsWindow v = subst IsWindow c.self.view_is c.self.invariant.window in
    let same = groups_are w v c.self.view_is in
    let under : number < length v.groups = (let size = c.len.ensures in let below = c.if-group-len.false in let known = ap length same in omega (arith, size, below, known)) in
    let g = value_at c.fire.new.self.groups number in
    let until : w.until ≡ v.until = ap (λ (x : WindowValue). x.until) c.self.view_is in
    let after : AfterFirings v.until (value_at v.groups number) g = subst (λ (n : ℕ). AfterFirings n (value_at v.groups number) g) until (subst (λ (gs : List GroupValue). AfterFirings w.until (value_at gs number) g) same c.fire.ensures.after) in
    let view = fired_view w v c.self.view_is c.fire.new.self number g c.fire.ensures.state c.requires in
    let fired : IfOk c.fire.result (λ b. Fired v.until (value_at v.groups number) b g) = subst (λ (n : ℕ). IfOk c.fire.result (λ b. Fired n (value_at v.groups number) b g)) until (subst (λ (gs : List GroupValue). IfOk c.fire.result (λ b. Fired w.until (value_at gs number) b g)) same c.fire.ensures.ok) in
    subst (λ (x : WindowValue). IfOk c.fire.result (λ b. HasFiredOr b v number x)) (sym view) (has_fired v is number under g c.fire.result c.requires fired)

pub returns-clause-from : goal.returns-clause-from
returns-clause-from c edge from =
    let w = c.self.inside in
    let v = c.args.self.now in
    let number = c.args.group in
    let is : IsWindow v = subst IsWindow c.self.view_is c.self.invariant.window in
    let same = groups_are w v c.self.view_is in
    let under : number < length v.groups = (let size = c.len.ensures in let below = c.if-group-len.false in let known = ap length same in omega (arith, size, below, known)) in
    let g = value_at c.fire.new.self.groups number in
    let until : w.until ≡ v.until = ap (λ (x : WindowValue). x.until) c.self.view_is in
    let after : AfterFirings v.until (value_at v.groups number) g = subst (λ (n : ℕ). AfterFirings n (value_at v.groups number) g) until (subst (λ (gs : List GroupValue). AfterFirings w.until (value_at gs number) g) same c.fire.ensures.after) in
    let view = fired_view w v c.self.view_is c.fire.new.self number g c.fire.ensures.state c.requires in
    subst (IsFrom edge) (sym view) (from_fired v is number under g after edge from)

pub returns-clause-room : goal.returns-clause-room
returns-clause-room c =
    let w = c.self.inside in
    let v = c.args.self.now in
    let number = c.args.group in
    let is : IsWindow v = subst IsWindow c.self.view_is c.self.invariant.window in
    let same = groups_are w v c.self.view_is in
    let under : number < length v.groups = (let size = c.len.ensures in let below = c.if-group-len.false in let known = ap length same in omega (arith, size, below, known)) in
    let g = value_at c.fire.new.self.groups number in
    let until : w.until ≡ v.until = ap (λ (x : WindowValue). x.until) c.self.view_is in
    let after : AfterFirings v.until (value_at v.groups number) g = subst (λ (n : ℕ). AfterFirings n (value_at v.groups number) g) until (subst (λ (gs : List GroupValue). AfterFirings w.until (value_at gs number) g) same c.fire.ensures.after) in
    let fired : IfOk c.fire.result (λ b. Fired v.until (value_at v.groups number) b g) = subst (λ (n : ℕ). IfOk c.fire.result (λ b. Fired n (value_at v.groups number) b g)) until (subst (λ (gs : List GroupValue). IfOk c.fire.result (λ b. Fired w.until (value_at gs number) b g)) same c.fire.ensures.ok) in
    has_room v is number under g c.fire.result after fired c.fire.ensures.fits

pub returns-clause-fault : goal.returns-clause-fault
returns-clause-fault c =
    let w = c.self.inside in
    let v = c.args.self.now in
    let number = c.args.group in
    let is : IsWindow v = subst IsWindow c.self.view_is c.self.invariant.window in
    let same = groups_are w v c.self.view_is in
    let under : number < length v.groups = (let size = c.len.ensures in let below = c.if-group-len.false in let known = ap length same in omega (arith, size, below, known)) in
    let until : w.until ≡ v.until = ap (λ (x : WindowValue). x.until) c.self.view_is in
    let at : IfErr c.fire.result (IsFaultAt v.until (value_at v.groups number)) = subst (λ (n : ℕ). IfErr c.fire.result (IsFaultAt n (value_at v.groups number))) until (subst (λ (gs : List GroupValue). IfErr c.fire.result (IsFaultAt w.until (value_at gs number))) same c.fire.ensures.fault) in
    fault_fired c.fire.result v is number under at
