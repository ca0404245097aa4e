use Rattle.std.proofs.Common.{◌≡◌, ◌<◌, ◌+◌, ℕ, List, length, map, true, false, Option, Result, Ok, Err, sym, ap, subst, ◌∙◌, true≢false}
use Rattle.std.specs.Result.{OnOk, OnErr, is_err}
use Rattle.net_machine.specs.declared.places.LinkEnds.{LinkEnds}
use Rattle.line_merge.specs.Batches.{BatchValue}
use Rattle.node_group.specs.Group.{GroupValue, IsGroup}
use Rattle.line_merge.specs.Merged.{all_of}
use Rattle.window_core.specs.GroupTables.{GroupTableValue}
use Rattle.line_merge.specs.Sheaves.{SheafValue, merged}
use Rattle.window_core.specs.Turning.{CanTurn, AreReady, HasHanded}
use Rattle.window_core.specs.Window.{WindowValue, no_value, value_at, states_of, setting_in, IsWindow, IsFrom, HasGoneOn, HasTurned}
use Rattle.window_core.specs.WindowOf.{window_of}
use Rattle.window_law.specs.Windows.{AreBelow, in_order, soonest, sum_of, at_most, window_end}
use Rattle.window_core.proofs.Readings.{lines_of_groups}
use Rattle.line_merge.proofs.Sheaves.{length_in_order}
use Rattle.window_core.proofs.TurnReady.{ready, lists_apart, cleared}
use Rattle.window_core.proofs.Turned.{lines_early, window_next, gone_on, has_turned}
use Rattle.window_core.proofs.Windowed.{bounded}
use Rattle.window_core.proofs.window.Window.turn_with.Goals as goal

on_ok : {A E P : Type 0} (r : Result A E) → is_err r ≡ false → OnOk r P → P
on_ok (Ok x) e h = h
on_ok (Err x) e h = absurd (true≢false e)

on_err : {A E P : Type 0} (r : Result A E) → is_err r ≡ true → OnErr r P → P
on_err (Ok x) e h = absurd (true≢false (sym e))
on_err (Err x) e h = h

pub gather-gathered-requires-clause-apart : goal.gather-gathered-requires-clause-apart
gather-gathered-requires-clause-apart c =
    let w = c.self.inside in
    let n = w.position + c.args.count in
    let v : WindowValue = window_of w in
    let v_is : v ≡ c.args.self.now = c.self.view_is in
    let is : IsWindow v = c.self.invariant.window in
    let can : CanTurn v c.args.count = subst (λ (x : WindowValue). CanTurn x c.args.count) (sym v_is) c.requires.can in
    let are : (h : ℕ) → h < length v.groups → IsGroup (value_at v.groups h) = λ h here. can.are_groups h no_value here in
    lists_apart v is are can.done

pub gather-gathered-requires-clause-count : goal.gather-gathered-requires-clause-count
gather-gathered-requires-clause-count c =
    let w = c.self.inside in
    let n = w.position + c.args.count in
    let v : WindowValue = window_of w in
    let v_is : v ≡ c.args.self.now = c.self.view_is in
    let is : IsWindow v = c.self.invariant.window in
    let can : CanTurn v c.args.count = subst (λ (x : WindowValue). CanTurn x c.args.count) (sym v_is) c.requires.can in
    let are : (h : ℕ) → h < length v.groups → IsGroup (value_at v.groups h) = λ h here. can.are_groups h no_value here in
    can.count_is ∙ ap length (lines_of_groups v.groups)

pub hand_all-requires-clause-ready : goal.hand_all-requires-clause-ready
hand_all-requires-clause-ready c =
    let w = c.self.inside in
    let n = w.position + c.args.count in
    let v : WindowValue = window_of w in
    let v_is : v ≡ c.args.self.now = c.self.view_is in
    let is : IsWindow v = c.self.invariant.window in
    let can : CanTurn v c.args.count = subst (λ (x : WindowValue). CanTurn x c.args.count) (sym v_is) c.requires.can in
    let are : (h : ℕ) → h < length v.groups → IsGroup (value_at v.groups h) = λ h here. can.are_groups h no_value here in
    let good = sym c.is_err.ensures.value ∙ c.if-is_err.false in
    let r1 = c.gather-gathered.new.self in
    let gathered : r1 ≡ record w.group_table { groups = map (cleared n) v.groups } = on_ok c.gather-gathered.result good c.gather-gathered.ensures.groups in
    let mid : r1.groups ≡ map (cleared n) v.groups = ap (λ (r : GroupTableValue). r.groups) gathered in
    subst (λ (links : List LinkEnds). AreReady w.partition links r1.groups) (sym c.deref.ensures.value) (subst (AreReady w.partition w.links.items) (sym mid) (ready v is are can.done n))

pub invariant_of-self : goal.invariant_of-self
invariant_of-self c =
    let w = c.self.inside in
    let same : c.gather-gathered.new.self ≡ w.group_table = on_err c.gather-gathered.result (sym c.is_err.ensures.value ∙ c.if-is_err.true) c.gather-gathered.ensures.err in
    record {
      window = subst (λ (r : GroupTableValue). IsWindow (window_of (record w { group_table = r }))) (sym same) c.self.invariant.window;
      nexts = c.self.invariant.nexts;
      ranks = c.self.invariant.ranks;
    }

pub invariant_of-self-2 : goal.invariant_of-self-2
invariant_of-self-2 c =
    let w = c.self.inside in
    let n = w.position + c.args.count in
    let v : WindowValue = window_of w in
    let v_is : v ≡ c.args.self.now = c.self.view_is in
    let is : IsWindow v = c.self.invariant.window in
    let can : CanTurn v c.args.count = subst (λ (x : WindowValue). CanTurn x c.args.count) (sym v_is) c.requires.can in
    let are : (h : ℕ) → h < length v.groups → IsGroup (value_at v.groups h) = λ h here. can.are_groups h no_value here in
    let good = sym c.is_err.ensures.value ∙ c.if-is_err.false in
    let r1 = c.gather-gathered.new.self in
    let gathered : r1 ≡ record w.group_table { groups = map (cleared n) v.groups } = on_ok c.gather-gathered.result good c.gather-gathered.ensures.groups in
    let mid : r1.groups ≡ map (cleared n) v.groups = ap (λ (r : GroupTableValue). r.groups) gathered in
    let r2 = c.hand_all.new.self in
    let after = r2.groups in
    let handed : HasHanded w.partition w.links.items (map (cleared n) v.groups) after = subst (λ (links : List LinkEnds). HasHanded w.partition links (map (cleared n) v.groups) after) c.deref.ensures.value (subst (λ (gs : List GroupValue). HasHanded w.partition c.deref.result.now gs after) mid c.hand_all.ensures.handed) in
    let u = c.window_end-self-inside.result in
    let u_is : u ≡ window_end (setting_in v) (states_of after) = c.window_end-self-inside.ensures ∙ ap (λ (o : Option ℕ). at_most (sum_of o w.ahead) w.end) (c.soonest.ensures ∙ ap (λ (r : GroupTableValue). soonest (states_of r.groups)) c.read_least.ensures) in
    let next : WindowValue = record v { until = u; position = n; groups = map (bounded u) after } in
    let rest : c.set_until.new.self ≡ record w.group_table { groups = map (bounded u) after } = c.set_until.ensures ∙ ap (λ (r : GroupTableValue). record r { groups = map (bounded u) r.groups }) c.read_least.ensures ∙ ap (λ (r : GroupTableValue). record r { groups = map (bounded u) after }) (c.hand_all.ensures.rest ∙ ap (λ (r : GroupTableValue). record r { groups = after }) gathered) in
    let view : window_of (record w { until = u; position = n; group_table = c.set_until.new.self }) ≡ next = ap (λ (r : GroupTableValue). window_of (record w { until = u; position = n; group_table = r })) rest in
    let s = c.gather-gathered.new.sheaf in
    let s_is : s ≡ record { first = w.position + 1; lists = map (λ (g : GroupValue). g.lines) v.groups } = on_ok c.gather-gathered.result good c.gather-gathered.ensures.sheaf in
    let lines_are : (merged s).lines ≡ in_order (all_of (map (λ (g : GroupValue). g.lines) v.groups)) = ap (λ (x : SheafValue). (merged x).lines) s_is in
    let many : length (merged s).lines ≡ c.args.count =
    ap length lines_are ∙ length_in_order (map (λ (g : GroupValue). g.lines) v.groups) (lists_apart v is are can.done) ∙ sym (can.count_is ∙ ap length (lines_of_groups v.groups)) in
    record {
      window = subst IsWindow (sym view) (window_next v is can.done c.args.count can.fits after handed u u_is (merged s).lines lines_are many);
      nexts = c.self.invariant.nexts;
      ranks = c.self.invariant.ranks;
    }

pub returns-clause-ok : goal.returns-clause-ok
returns-clause-ok c =
    let w = c.self.inside in
    let n = w.position + c.args.count in
    let v : WindowValue = window_of w in
    let v_is : v ≡ c.args.self.now = c.self.view_is in
    let is : IsWindow v = c.self.invariant.window in
    let can : CanTurn v c.args.count = subst (λ (x : WindowValue). CanTurn x c.args.count) (sym v_is) c.requires.can in
    let are : (h : ℕ) → h < length v.groups → IsGroup (value_at v.groups h) = λ h here. can.are_groups h no_value here in
    let good = sym c.is_err.ensures.value ∙ c.if-is_err.false in
    let r1 = c.gather-gathered.new.self in
    let gathered : r1 ≡ record w.group_table { groups = map (cleared n) v.groups } = on_ok c.gather-gathered.result good c.gather-gathered.ensures.groups in
    let mid : r1.groups ≡ map (cleared n) v.groups = ap (λ (r : GroupTableValue). r.groups) gathered in
    let r2 = c.hand_all.new.self in
    let after = r2.groups in
    let handed : HasHanded w.partition w.links.items (map (cleared n) v.groups) after = subst (λ (links : List LinkEnds). HasHanded w.partition links (map (cleared n) v.groups) after) c.deref.ensures.value (subst (λ (gs : List GroupValue). HasHanded w.partition c.deref.result.now gs after) mid c.hand_all.ensures.handed) in
    let u = c.window_end-self-inside.result in
    let u_is : u ≡ window_end (setting_in v) (states_of after) = c.window_end-self-inside.ensures ∙ ap (λ (o : Option ℕ). at_most (sum_of o w.ahead) w.end) (c.soonest.ensures ∙ ap (λ (r : GroupTableValue). soonest (states_of r.groups)) c.read_least.ensures) in
    let next : WindowValue = record v { until = u; position = n; groups = map (bounded u) after } in
    let rest : c.set_until.new.self ≡ record w.group_table { groups = map (bounded u) after } = c.set_until.ensures ∙ ap (λ (r : GroupTableValue). record r { groups = map (bounded u) r.groups }) c.read_least.ensures ∙ ap (λ (r : GroupTableValue). record r { groups = map (bounded u) after }) (c.hand_all.ensures.rest ∙ ap (λ (r : GroupTableValue). record r { groups = after }) gathered) in
    let view : window_of (record w { until = u; position = n; group_table = c.set_until.new.self }) ≡ next = ap (λ (r : GroupTableValue). window_of (record w { until = u; position = n; group_table = r })) rest in
    let s = c.gather-gathered.new.sheaf in
    let s_is : s ≡ record { first = w.position + 1; lists = map (λ (g : GroupValue). g.lines) v.groups } = on_ok c.gather-gathered.result good c.gather-gathered.ensures.sheaf in
    let lines_are : (merged s).lines ≡ in_order (all_of (map (λ (g : GroupValue). g.lines) v.groups)) = ap (λ (x : SheafValue). (merged x).lines) s_is in
    let many : length (merged s).lines ≡ c.args.count =
    ap length lines_are ∙ length_in_order (map (λ (g : GroupValue). g.lines) v.groups) (lists_apart v is are can.done) ∙ sym (can.count_is ∙ ap length (lines_of_groups v.groups)) in
    let turned : HasTurned v (record { first = w.position + 1; lines = (merged s).lines }) next = has_turned v is can.done c.args.count can.fits after handed u u_is (merged s).lines lines_are many in
    let batch : record { first = w.position + 1; lines = (merged s).lines } ≡ merged s = λ i. record { first = (sym s_is i).first; lines = (merged s).lines } in
    subst (λ (x : WindowValue). HasTurned x (merged s) (window_of (record w { until = u; position = n; group_table = c.set_until.new.self }))) v_is
    (subst (λ (x : WindowValue). HasTurned v (merged s) x) (sym view) (subst (λ (x : BatchValue). HasTurned v x next) batch turned))

pub returns-clause-run : goal.returns-clause-run
returns-clause-run c edge from =
    let w = c.self.inside in
    let n = w.position + c.args.count in
    let v : WindowValue = window_of w in
    let v_is : v ≡ c.args.self.now = c.self.view_is in
    let is : IsWindow v = c.self.invariant.window in
    let can : CanTurn v c.args.count = subst (λ (x : WindowValue). CanTurn x c.args.count) (sym v_is) c.requires.can in
    let are : (h : ℕ) → h < length v.groups → IsGroup (value_at v.groups h) = λ h here. can.are_groups h no_value here in
    let good = sym c.is_err.ensures.value ∙ c.if-is_err.false in
    let r1 = c.gather-gathered.new.self in
    let gathered : r1 ≡ record w.group_table { groups = map (cleared n) v.groups } = on_ok c.gather-gathered.result good c.gather-gathered.ensures.groups in
    let mid : r1.groups ≡ map (cleared n) v.groups = ap (λ (r : GroupTableValue). r.groups) gathered in
    let r2 = c.hand_all.new.self in
    let after = r2.groups in
    let handed : HasHanded w.partition w.links.items (map (cleared n) v.groups) after = subst (λ (links : List LinkEnds). HasHanded w.partition links (map (cleared n) v.groups) after) c.deref.ensures.value (subst (λ (gs : List GroupValue). HasHanded w.partition c.deref.result.now gs after) mid c.hand_all.ensures.handed) in
    let u = c.window_end-self-inside.result in
    let u_is : u ≡ window_end (setting_in v) (states_of after) = c.window_end-self-inside.ensures ∙ ap (λ (o : Option ℕ). at_most (sum_of o w.ahead) w.end) (c.soonest.ensures ∙ ap (λ (r : GroupTableValue). soonest (states_of r.groups)) c.read_least.ensures) in
    let next : WindowValue = record v { until = u; position = n; groups = map (bounded u) after } in
    let rest : c.set_until.new.self ≡ record w.group_table { groups = map (bounded u) after } = c.set_until.ensures ∙ ap (λ (r : GroupTableValue). record r { groups = map (bounded u) r.groups }) c.read_least.ensures ∙ ap (λ (r : GroupTableValue). record r { groups = map (bounded u) after }) (c.hand_all.ensures.rest ∙ ap (λ (r : GroupTableValue). record r { groups = after }) gathered) in
    let view : window_of (record w { until = u; position = n; group_table = c.set_until.new.self }) ≡ next = ap (λ (r : GroupTableValue). window_of (record w { until = u; position = n; group_table = r })) rest in
    let s = c.gather-gathered.new.sheaf in
    let s_is : s ≡ record { first = w.position + 1; lists = map (λ (g : GroupValue). g.lines) v.groups } = on_ok c.gather-gathered.result good c.gather-gathered.ensures.sheaf in
    let lines_are : (merged s).lines ≡ in_order (all_of (map (λ (g : GroupValue). g.lines) v.groups)) = ap (λ (x : SheafValue). (merged x).lines) s_is in
    let many : length (merged s).lines ≡ c.args.count =
    ap length lines_are ∙ length_in_order (map (λ (g : GroupValue). g.lines) v.groups) (lists_apart v is are can.done) ∙ sym (can.count_is ∙ ap length (lines_of_groups v.groups)) in
    subst (HasGoneOn edge (merged s).lines) (sym view) (gone_on v is can.done c.args.count can.fits after handed u u_is (merged s).lines lines_are many edge (subst (IsFrom edge) (sym v_is) from))

pub returns-clause-below : goal.returns-clause-below
returns-clause-below c =
    let w = c.self.inside in
    let v : WindowValue = window_of w in
    let v_is : v ≡ c.args.self.now = c.self.view_is in
    let can : CanTurn v c.args.count = subst (λ (x : WindowValue). CanTurn x c.args.count) (sym v_is) c.requires.can in
    let s = c.gather-gathered.new.sheaf in
    let s_is : s ≡ record { first = w.position + 1; lists = map (λ (g : GroupValue). g.lines) v.groups } = on_ok c.gather-gathered.result (sym c.is_err.ensures.value ∙ c.if-is_err.false) c.gather-gathered.ensures.sheaf in
    subst (λ (x : WindowValue). AreBelow x.until (merged s).lines) v_is (lines_early v c.self.invariant.window can.done (merged s).lines (ap (λ (x : SheafValue). (merged x).lines) s_is))
