-- Events that are run one after another: their text, and where they lead.
use Rattle.std.proofs.Common.{◌≡◌, ◌≢◌, ◌≤◌, ◌<◌, ◌+◌, ◌-◌, ◌++◌, ◌^◌, ℕ, zero, suc, max, List, [], ◌∷◌, length, Option, Some, None, Err, option_map, refl, sym, ap, subst, ◌∙◌, inl, inr, ⊎_elim, arith, cond, append-nil, length-append, lt-ltb, le-ltb}
use Rattle.std.proofs.lemmas.Bool.{cases_lt}
use Rattle.sim_time.specs.declared.key.Key.{Key}
use Rattle.sim_time.specs.declared.limits.TheConstants.{MOST_EVENTS}
use Rattle.tournament.specs.Keyed.{least}
use Rattle.tournament.proofs.Maps.{not_some, same_some}
use Rattle.node_core.specs.declared.event.Event.{Event}
use Rattle.node_core.specs.TraceLine.{TraceLine}
use Rattle.table_run.specs.State.{State, below, due, run, step}
use Rattle.table_run.proofs.Runs.{of_step, run_cons, run_end}
use Rattle.net_machine.specs.declared.due.Due.{Due}
use Rattle.net_machine.specs.Due.{due_of}
use Rattle.net_machine.specs.Run.{Reached, Stepped}
use Rattle.trace_text.specs.Line.{line_bytes}
use Rattle.window_core.specs.Full.{HasTooMany}
use Rattle.window_core.specs.Partition.{groups_of}
use Rattle.window_core.specs.Windows.{AreBelow}
use Rattle.window_engine.specs.declared.run_state.RunState.{RunState}
use Rattle.window_engine.specs.declared.run_state.WriteFault.{WriteFault}
use Rattle.window_engine.specs.declared.run_state.WriteFault.TheVariants.{Workers}
use Rattle.window_workers.specs.declared.fault.WorkersFault.TheVariants.{CountFull}
use Rattle.window_engine.specs.RunStates.{AtRest, HasEnded, Opens, WindowsRest, RunsIn, Broke, Wrote, WroteFirst, fails_after, reported_as}
use Rattle.window_core.specs.Window.{WindowValue}
use Rattle.window_workers.specs.Edges.{edge_of, reached_in}
use Rattle.window_engine.specs.Engines.{GoesOn}
use Rattle.window_text.specs.Puts.{TakesFirst}
use Rattle.window_engine.specs.Singly.{CanStop, HasGone, IsBefore, IsGoing, IsOn, key_of}
use Rattle.window_text.specs.Text.{text_from}
use Rattle.window_engine.proofs.Called.{broken_at}
use Rattle.window_engine.proofs.Grouped.{runs_on, same_ahead}
use Rattle.window_engine.proofs.TooMany.{earlier_full}
use Rattle.window_engine.proofs.Whole.{below_later, below_more}
use Rattle.window_engine.proofs.Writing.{broke_batch, broke_later, run_more, text_more, wrote_later, wrote_more, wrote_none}

-- the line is of the event that was due
line_before : (s t : State) (line : TraceLine) (until : ℕ) → step s ≡ Some (line, t) → IsBefore until s → line.key.time < until
line_before s t line until e before =
    of_step s line t e (λ k v is_due _ line_is.
    let soon : k.time < until = before k (ap key_of is_due) in
    let time = ap (λ (l : TraceLine). l.key.time) line_is in
    omega (arith, soon, time))

-- one more was run
pub going_on : (until last next : ℕ) (old mid new : Reached) (line : TraceLine) (text more : List ℕ) (n : ℕ) → IsGoing until last old mid text → IsBefore until mid.state → Stepped mid (Some line) new → n ≡ new.position → more ≡ text ++ line_bytes n line → next ≡ max last line.key.time
    → IsGoing until next old new more
going_on until last next old mid new line text more n g before stepped number more_is next_is =
    let ys : List TraceLine = line ∷ [] in
    let soon = line_before mid.state new.state line until stepped.0 before in
    let one : run mid.state (suc zero) ≡ Some (ys, new.state) = run_cons mid.state new.state new.state line zero [] stepped.0 refl in
    let count : length (g.lines ++ ys) ≡ length g.lines + 1 = length-append g.lines ys in
    record {
      lines = g.lines ++ ys;
      is_run = run_more old.state mid.state new.state g.lines ys g.is_run one;
      position = (let p = g.position in let q = stepped.1 in omega (arith, p, q, count));
      early = below_more until g.lines ys g.early (soon, tt);
      upto = below_more (next + 1) g.lines ys (below_later (last + 1) (next + 1) g.lines (omega (arith, next_is)) g.upto) (omega (arith, next_is), tt);
      text_is =
          more_is
          ∙ ap (λ (k : ℕ). text ++ line_bytes k line) (number ∙ stepped.1)
          ∙ ap (λ (t : List ℕ). t ++ line_bytes (mid.position + 1) line) g.text_is
          ∙ ap (λ (t : List ℕ). text_from (old.position + 1) g.lines ++ t) (sym (append-nil (line_bytes (mid.position + 1) line)))
          ∙ sym (text_more old mid g.lines ys g.position);
    }

-- none is left below a moment
sooner : (o : Option (Key × Event)) (end moment : ℕ) → below end o ≡ None → moment ≤ end → below moment o ≡ None
sooner None end moment none upto = refl
sooner (Some x) end moment none upto =
    ⊎_elim
    (λ (early : x.0.time < moment). absurd (not_some (sym none ∙ ap (λ b. cond b (Some x) None) (lt-ltb x.0.time end (omega (arith, early, upto))))))
    (λ (late : moment ≤ x.0.time). ap (λ b. cond b (Some x) None) (le-ltb x.0.time moment late))
    (cases_lt x.0.time moment)

before_due : (o : Option (Key × Event)) (end moment : ℕ) (key : Key) → key_of (below end o) ≡ Some key → moment ≤ key.time → below moment o ≡ None
before_due None end moment key is upto = absurd (not_some is)
before_due (Some x) end moment key is upto =
    ⊎_elim
    (λ (soon : x.0.time < end).
    let same : x.0 ≡ key = same_some x.0 key (sym (ap (λ b. key_of (cond b (Some x) None)) (lt-ltb x.0.time end soon)) ∙ is) in
    let late : moment ≤ x.0.time = subst (λ (k : Key). moment ≤ k.time) (sym same) upto in
    ap (λ b. cond b (Some x) None) (le-ltb x.0.time moment late))
    (λ (past : end ≤ x.0.time). absurd (not_some (sym (ap (λ b. key_of (cond b (Some x) None)) (le-ltb x.0.time end past)) ∙ is)))
    (cases_lt x.0.time end)

no_key : (o : Option (Key × Event)) → key_of o ≡ None → o ≡ None
no_key None e = refl
no_key (Some x) e = absurd (not_some (sym e))

-- what is due is not before the moment
pub stops_until : (s : State) (until last : ℕ) (key : Key) → key_of (due s) ≡ Some key → until ≤ key.time → CanStop until last s
stops_until s until last key is late = record { moment = until; none_left = before_due (least s.pending) s.end until key is late; after = inl (omega arith) }

-- it is later than the last one
pub stops_behind : (s : State) (until last : ℕ) (key : Key) → key_of (due s) ≡ Some key → last < key.time → CanStop until last s
stops_behind s until last key is later = record { moment = key.time; none_left = before_due (least s.pending) s.end key.time key is (omega arith); after = inr later }

module _ (until last : ℕ) (old new : Reached) (text : List ℕ) (g : IsGoing until last old new text) where
  -- a net may stop there
  pub gone : CanStop until last new.state → HasGone until old new text
  gone stop =
      let early : AreBelow stop.moment g.lines =
      ⊎_elim
      (λ (upto : until ≤ stop.moment). below_later until stop.moment g.lines upto g.early)
      (λ (later : last < stop.moment). below_later (last + 1) stop.moment g.lines (omega (arith, later)) g.upto)
      stop.after in
      record { lines = g.lines; is_run = g.is_run; position = g.position; early = g.early; whole = (stop.moment, record { early = early; none_left = stop.none_left }); text_is = g.text_is }

  -- as many were run as there may be
  pub gone_full : due new.state ≢ None → new.position ≡ MOST_EVENTS → HasTooMany old
  gone_full some full =
      let none : MOST_EVENTS - new.position ≡ 0 = omega (arith, full) in
      earlier_full old new g.lines g.is_run g.position (omega (arith, full))
      (record { lines = []; last = new.state; is_run = ap (run new.state) none; one_due = some })

-- a step keeps the run's end
pub step_end : (s t : State) (line : TraceLine) → step s ≡ Some (line, t) → t.end ≡ s.end
step_end s t line is = run_end (suc zero) s t (line ∷ []) (run_cons s t t line zero [] is refl)

-- the key of what is due, by where and when it is
pub record IsKeyOf (o : Option (Key × Event)) (next : Due) : Type 0 where
  pub key : Key
  pub is : key_of o ≡ Some key
  pub at : key.time ≡ next.time

pub key_by : (o : Option (Key × Event)) (next : Due) → Some next ≡ option_map due_of o → IsKeyOf o next
key_by None next is = absurd (not_some (sym is))
key_by (Some x) next is = record { key = x.0; is = refl; at = sym (ap (λ (d : Due). d.time) (same_some next (due_of x) is)) }

-- their text was taken
module _ (until : ℕ) (old new : Reached) (text : List ℕ) (count : ℕ) (a b : Option (List ℕ)) (gone : HasGone until old new text) (few : count < 2 ^ 71) where
  goes : GoesOn old (record { first = old.position + 1; lines = gone.lines }) new
  goes = record { first = refl; is_run = gone.is_run; position = gone.position; whole = gone.whole }

  pub broke_gone : (position : ℕ) → position ≡ new.position → TakesFirst count text a b → WroteFirst until old position count a b
  broke_gone position at took = broke_batch until old new position count (record { first = old.position + 1; lines = gone.lines }) text a b gone.early goes at gone.text_is took few

-- events that are run one after another by a net, which has gone on to here
pub on_first : (until : ℕ) (c : RunState) (net : Reached) (written : ℕ) (a : Option (List ℕ)) → AtRest c → net ≡ reached_in c.window → IsOn until c c net written written a a
on_first until c net written a r is =
    let at : net.position ≡ c.window.position = ap (λ (n : Reached). n.position) is in
    let few = r.few in
    let here = r.committed in
    record {
      rest = ap (λ (n : ℕ). record c { position = n }) (r.committed ∙ sym at);
      count = 0;
      written_is = omega arith;
      wrote = subst (λ (n : Reached). Wrote until (reached_in c.window) n 0 a a) (sym is) (wrote_none until (reached_in c.window) a);
      few = omega (arith, few, at, here);
    }

module _ (until : ℕ) (old c : RunState) (net : Reached) (written now : ℕ) (a b : Option (List ℕ)) (o : IsOn until old c net written now a b) where
  -- it stands where the net does
  pub on_at : c.position ≡ net.position
  on_at = ap (λ (x : RunState). x.position) o.rest

  -- its end is that of the run
  pub on_end : AtRest old → net.state.end ≡ old.end
  on_end r = let w = o.wrote in run_end (length w.lines) (edge_of old.window) net.state w.lines w.is_run ∙ sym r.end

  -- some events more
  pub on_more : (bound : ℕ) (d : RunState) (to : Reached) (more total : ℕ) (e : Option (List ℕ)) → bound ≤ until → Wrote bound net to more b e → d ≡ record c { position = to.position; granularity = d.granularity } → total ≡ now + more → to.position ≤ MOST_EVENTS → IsOn until old d to written total a e
  on_more bound d to more total e upto wrote rest total_is few =
      let count = o.count in
      let was = o.written_is in
      record {
        rest = rest ∙ ap (λ (x : RunState). record x { position = to.position; granularity = d.granularity }) o.rest;
        count = count + more;
        written_is = omega (arith, was, total_is);
        wrote = wrote_more until (reached_in old.window) net to count more a b e o.wrote (wrote_later bound until net to more b e upto wrote);
        few = few;
      }

-- what a call has written, where windows before that were written too
module _ (until : ℕ) (began old c : RunState) (net : Reached) (written now : ℕ) (known a b : Option (List ℕ)) (r : WindowsRest until began old written known a) (o : IsOn until old c net written now a b) where
  abbrev from : Reached
  from = reached_in began.window

  pub all_written : Wrote until from net now known b
  all_written =
      subst (λ (n : ℕ). Wrote until from net n known b) (sym o.written_is)
      (wrote_more until from (reached_in old.window) net written o.count known a b r.wrote o.wrote)

  -- the call ends by a fault in those that follow
  pub broken_on : (workers bound : ℕ) (d : RunState) (e : Option (List ℕ)) (fault : WriteFault) (f g h : ℕ) → 0 < workers → bound ≤ until → Broke 1 bound net d.position b e fault → (fault ≡ Workers CountFull → HasTooMany net) → g ≡ f → h ≡ fails_after {T = ℕ} (Err fault) g
      → d.groups ≡ c.groups → d.ahead ≡ c.ahead → HasEnded workers until began d (Err (reported_as now fault)) known e f h
  broken_on workers bound d e fault f g h some upto broke full same fails groups ahead =
      let all_groups : d.groups ≡ began.groups = groups ∙ ap (λ (x : RunState). x.groups) o.rest ∙ r.groups in
      let all_ahead : d.ahead ≡ began.ahead = ahead ∙ ap (λ (x : RunState). x.ahead) o.rest ∙ r.ahead in
      let later = broke_later 1 workers bound until net d.position b e fault (omega (arith, some)) upto broke in
      broken_at workers until began d net now known b e fault f g h all_written o.few later full same fails all_groups all_ahead

  -- the nodes are in the groups that were asked for
  pub runs_there : RunsIn c.groups c.ahead net
  runs_there =
      let w = o.wrote in
      let there = runs_on old.groups old.ahead (reached_in old.window) net w.lines r.has.run w.is_run w.position_is in
      subst (λ (x : RunState). RunsIn x.groups x.ahead net) (sym o.rest) there

  few_there : groups_of c.groups ≤ 64
  few_there =
      let few : groups_of old.groups ≤ 64 = subst (λ (l : List ℕ). groups_of l ≤ 64) r.has.apart.0 r.rest.groups in
      subst (λ (x : RunState). groups_of x.groups ≤ 64) (sym o.rest) few

  -- a window is open again
  pub taken_up : (w : WindowValue) → Opens net c.groups w → WindowsRest until began (record c { window = w }) now known b
  taken_up w opens =
      let at : c.position ≡ net.position = ap (λ (x : RunState). x.position) o.rest in
      let window_at : w.position ≡ net.position = ap (λ (n : Reached). n.position) opens.net_is in
      let gone = o.wrote in
      let ends : net.state.end ≡ old.window.end = run_end (length gone.lines) (edge_of old.window) net.state gone.lines gone.is_run in
      let few = o.few in
      record {
        rest = record {
          edge = opens.edge;
          committed = at ∙ sym window_at;
          few = omega (arith, few, at);
          end = ap (λ (x : RunState). x.end) o.rest ∙ r.rest.end ∙ sym ends ∙ sym opens.end;
          groups = subst (λ (l : List ℕ). groups_of l ≤ 64) (sym opens.entries) few_there;
        };
        has = record {
          run = subst (λ (n : Reached). RunsIn c.groups c.ahead n) (sym opens.net_is) runs_there;
          apart = (opens.entries, same_ahead c.groups c.ahead w.ahead net runs_there opens.ahead);
        };
        wrote = subst (λ (n : Reached). Wrote until from n now known b) (sym opens.net_is) all_written;
        groups = ap (λ (x : RunState). x.groups) o.rest ∙ r.groups;
        ahead = ap (λ (x : RunState). x.ahead) o.rest ∙ r.ahead;
      }
