-- The end of a window: the state of the run that its groups have come to.
use Rattle.std.proofs.Common.{◌≡◌, ◌≢◌, ◌<◌, ◌+◌, ◌==◌, ℕ, zero, suc, List, [], ◌∷◌, ◌++◌, length, map, get_or, true, cond, T, Some, None, refl, sym, ap, subst, ◌∙◌, ⊎_elim, arith, ne_eqb}
use Rattle.std.proofs.lemmas.Bool.{cases_eq}
use Rattle.std.specs.FinMap.{find, is_sorted}
use Rattle.std.specs.FinMap.Entries.{find-where_key, is_sorted-where_key}
use Rattle.sim_time.specs.declared.key.Key.{Key}
use Rattle.sim_time.specs.Keys.{key_cmp}
use Rattle.sim_time.proofs.Order.{exact_keys}
use Rattle.packet_chain.specs.Stamped.{Stamped}
use Rattle.packet_chain.specs.declared.packet.Packet.{Packet}
use Rattle.scenario_image.specs.declared.parts.ScenarioParts.{ScenarioParts}
use Rattle.tournament.proofs.Maps.{tied, untied}
use Rattle.node_core.specs.declared.event.Event.{Event}
use Rattle.node_core.specs.declared.event.Event.TheVariants.{Start, Rto, DelAck, Free, Arrive}
use Rattle.node_core.specs.Timers.{arrival_key}
use Rattle.node_core.specs.TraceLine.{TraceLine}
use Rattle.node_core.specs.WireState.{arrivals, stamps_of}
use Rattle.table_run.specs.State.{State, initial, run}
use Rattle.table_run.specs.Laws.{IsSoundRun}
use Rattle.table_run.specs.Sound.{Belongs}
use Rattle.table_run.proofs.Runs.{run_add}
use Rattle.table_run.proofs.RunLaws.{sound_run}
use Rattle.window_law.specs.Calls.{IsInRun}
use Rattle.window_law.specs.Groups.{GroupState, no_group, group_at}
use Rattle.window_law.specs.Lookahead.{lookahead}
use Rattle.line_merge.specs.Merged.{lines_of, HasKey, AreApart}
use Rattle.window_law.specs.Windows.{WindowState, all_done, setting_of, keyed}
use Rattle.window_law.proofs.Brought.{Done, window}
use Rattle.window_law.proofs.Calls.{done_at, below_end, initial_matches}
use Rattle.window_law.proofs.EveryRun.{same_end}
use Rattle.window_law.proofs.Fair.{maker_of, every_run_is_fair}
use Rattle.window_law.proofs.Matches.{Matches}
use Rattle.window_law.proofs.Tidy.{Tidy, run_tidy}
use Rattle.window_law.proofs.Turn.{keyed_filter}

-- the run has come to a state that the groups hold together
pub record IsAtEnd (p : ScenarioParts) (group : ℕ → ℕ) (edge : State) (w : WindowState) : Type 0 where
  pub steps : ℕ
  pub lines : List TraceLine
  pub before : List TraceLine
  pub state : State
  pub is_run : run edge steps ≡ Some (lines, state)
  pub matches : Matches group (maker_of p.links) (lookahead group p.links) w.until state lines w.groups
  pub sorted : T (is_sorted key_cmp (map keyed lines))
  pub sound : IsSoundRun p before state

pub at_end : (p : ScenarioParts) (group : ℕ → ℕ) (m : ℕ) (before : List TraceLine) (edge : State) (w : WindowState) → IsInRun p group m before edge w → all_done w.until w.groups ≡ true → IsAtEnd p group edge w
at_end p group m before edge w r all =
    let x = setting_of group p in
    let maker = maker_of p.links in
    let ahead = lookahead group p.links in
    let until = w.until in
    let o = r.is_open in
    let fair = every_run_is_fair p m before edge r.is_scenario r.comes group in
    let done : (h : ℕ) → Done group until (group_at (Rattle.window_law.specs.Groups.fires group until o.firings o.start) h) = λ h. subst (λ (g : List GroupState). Done group until (group_at g h)) o.groups_are (done_at until w.groups all h) in
    let c = window group maker ahead until (length o.firings) o.firings edge [] o.start refl (below_end x edge w o maker (same_end p m before edge r.comes) fair) fair (initial_matches x edge w o maker) done in
    let tidy : Tidy c.state c.more = run_tidy group maker ahead c.n edge c.state [] c.more c.is_run fair record { sorted = tt; before = λ q v e. tt } in
    record {
      steps = c.n;
      lines = c.more;
      before = before ++ c.more;
      state = c.state;
      is_run = c.is_run;
      matches = subst (Matches group maker ahead until c.state c.more) (sym o.groups_are) c.matches;
      sorted = tidy.sorted;
      sound = sound_run p (m + c.n) (before ++ c.more) c.state r.is_scenario (run_add (initial p) edge c.state m c.n before c.more r.comes c.is_run);
    }

-- an event under a key of a link is an arrival
pub arrives : (p : ScenarioParts) (s : State) (now : ℕ) (k : Key) (v : Event) → Belongs p s now k v → k.source ≢ 0 → (x : Packet) × (v ≡ Arrive x)
arrives p s now k (Start flow) b off = absurd (off (ap (λ (z : Key). z.source) b.is_key))
arrives p s now k (Rto flow) b off = absurd (off (ap (λ (z : Key). z.source) b.timer.is_key))
arrives p s now k (DelAck flow) b off = absurd (off (ap (λ (z : Key). z.source) b.timer.is_key))
arrives p s now k (Free link) b off = absurd (off (ap (λ (z : Key). z.source) b.timer.is_key))
arrives p s now k (Arrive x) b off = (x, refl)

-- LINES APART

module _ (p : ScenarioParts) (group : ℕ → ℕ) (edge : State) (w : WindowState) (e : IsAtEnd p group edge w) where
  found_at : (h : ℕ) (k : Key) → find key_cmp k (map keyed (group_at w.groups h).lines) ≡ cond (group k.node == h) (find key_cmp k (map keyed e.lines)) None
  found_at h k =
      ap (λ ls. find key_cmp k (map keyed ls)) (e.matches.lines_are h)
      ∙ ap (find key_cmp k) (keyed_filter (λ z. group z.node == h) e.lines)
      ∙ find-where_key key_cmp (λ z. group z.node == h) k (λ z q. ap (λ (y : Key). group y.node == h) (sym (exact_keys k z q))) (map keyed e.lines)

  pub lines_rise : (h : ℕ) → T (is_sorted key_cmp (map keyed (group_at w.groups h).lines))
  lines_rise h = subst (λ es. T (is_sorted key_cmp es)) (sym (ap (map keyed) (e.matches.lines_are h) ∙ keyed_filter (λ z. group z.node == h) e.lines)) (is_sorted-where_key key_cmp (λ z. group z.node == h) (map keyed e.lines) e.sorted)

  pub line_home : (h : ℕ) (k : Key) → HasKey (group_at w.groups h).lines k → group k.node ≡ h
  line_home h k has = ⊎_elim
      (λ (at : group k.node ≡ h). at)
      (λ (off : group k.node ≢ h). absurd (has (found_at h k ∙ ap (λ b. cond b (find key_cmp k (map keyed e.lines)) None) (ne_eqb (group k.node) h off))))
      (cases_eq (group k.node) h)

  lists_at : (groups : List GroupState) (h : ℕ) → lines_of (map (λ (g : GroupState). g.lines) groups) h ≡ (group_at groups h).lines
  lists_at [] h = refl
  lists_at (g ∷ groups) zero = refl
  lists_at (g ∷ groups) (suc h) = lists_at groups h

  pub are_apart : AreApart (map (λ (g : GroupState). g.lines) w.groups)
  are_apart = record {
    rising = λ h. subst (λ ls. T (is_sorted key_cmp (map keyed ls))) (sym (lists_at w.groups h)) (lines_rise h);
    apart = λ i j key a b. sym (line_home i key (subst (λ ls. HasKey ls key) (lists_at w.groups i) a)) ∙ line_home j key (subst (λ ls. HasKey ls key) (lists_at w.groups j) b);
  }

-- THE PACKETS OF A WIRE

-- one packet, by its stamp
pub record IsPacket (node link before : ℕ) (q : List Stamped) (j d : ℕ) : Type 0 where
  pub packet : Packet
  pub found : find key_cmp (arrival_key node link (get_or (stamps_of q) j d) (before + 1 + j)) (arrivals node link before q) ≡ Some (Arrive packet)

pub packet_at : (node link before : ℕ) (q : List Stamped) (j d : ℕ) → j < length (stamps_of q) → IsPacket node link before q j d
packet_at node link before [] j d under = absurd (omega (arith, under))
packet_at node link before (a ∷ q) zero d under =
    let key = arrival_key node link a.1 (before + 1) in
    let at : find key_cmp key (arrivals node link before (a ∷ q)) ≡ Some (Arrive a.0) = ap (λ b. cond b (Some (Arrive a.0)) (find key_cmp key (arrivals node link (before + 1) q))) (tied key) in
    record { packet = a.0; found = subst (λ n. find key_cmp (arrival_key node link a.1 n) (arrivals node link before (a ∷ q)) ≡ Some (Arrive a.0)) {x = before + 1} {y = before + 1 + 0} (omega arith) at }
packet_at node link before (a ∷ q) (suc j) d under =
    let rest = packet_at node link (before + 1) q j d (omega (arith, under)) in
    let stamp = get_or (stamps_of q) j d in
    let number : before + 1 + 1 + j ≡ before + 1 + suc j = omega arith in
    let key = arrival_key node link stamp (before + 1 + suc j) in
    record {
      packet = rest.packet;
      found =
          ap (λ b. cond b (Some (Arrive a.0)) (find key_cmp key (arrivals node link (before + 1) q))) (untied key (arrival_key node link a.1 (before + 1)) (λ e. let n : before + 1 + suc j ≡ before + 1 = ap (λ (z : Key). z.number) e in absurd (omega (arith, n))))
          ∙ subst (λ n. find key_cmp (arrival_key node link stamp n) (arrivals node link (before + 1) q) ≡ Some (Arrive rest.packet)) number rest.found;
    }
