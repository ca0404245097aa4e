-- The figures of a link, one event on.
use Rattle.std.proofs.Common.{◌≡◌, ◌≢◌, ℕ, zero, suc, ◌+◌, ◌-◌, ◌*◌, ◌≤◌, Bool, true, false, cond, not, ◌||◌, ◌==◌, nat_lt, max, List, [], ◌∷◌, ◌++◌, length, length-append, map, refl, sym, ap, subst, ◌∙◌, arith, eq-eqb, is_some, Option, Some, None}
use Rattle.std.specs.Prelude.{option_to_list, slice_index}
use Rattle.std.proofs.Math.Nat.{mul-add, zero-mul, one-mul, mul-zero}
use Rattle.std.proofs.lemmas.List.{map-append, append-nil}
use Rattle.aqm.specs.declared.drop_reason.DropReason.{DropReason}
use Rattle.aqm.specs.DropReasons.{all_reasons}
use Rattle.port.specs.Port.{PortState}
use Rattle.node_core.specs.Part.{PartState, link_at}
use Rattle.node_core.specs.TraceLine.{TraceLine}
use Rattle.table_run.specs.State.{State, part_at}
use Rattle.figures.specs.declared.link.LinkFigures.{LinkFigures}
use Rattle.figures.specs.Classes.{greatest}
use Rattle.figures.specs.Moments.{Moment, Base}
use Rattle.figures.specs.Tallied.{IsTallyOf}
use Rattle.figures.specs.Links.{port_at, waiting_at, busy_at, frees, acts_between, wait_of_given, wait_in, wait_by, IsNextEntry, wait_at, waits_of, acts_at, with_drops, tx_in, bytes_in, drops_of, tx_of, bytes_of_moments, last_from, summed_over, waited_of, busy_of, waited_so_far, IsFew, IsLinkBegun, AreOfLink, IsLinkAfter}
use Rattle.figures.proofs.Counts.{greatest_more, test_no}
use Rattle.figures.proofs.ByReason.{drops_more}
use Rattle.figures.proofs.Turns.{sum_more, given_more}

pub last_more : (since : ℕ) (ms : List Moment) (m : Moment) → last_from since (ms ++ m ∷ []) ≡ m.line.key.time
last_more since [] m = refl
last_more since (n ∷ ms) m = last_more n.line.key.time ms m

summed_more : (value : State → ℕ) (since : ℕ) (ms : List Moment) (m : Moment) → summed_over value since (ms ++ m ∷ []) ≡ summed_over value since ms + value m.before * (m.line.key.time - last_from since ms)
summed_more value since [] m = let x = value m.before * (m.line.key.time - since) in omega arith
summed_more value since (n ∷ ms) m =
    let rest = summed_more value n.line.key.time ms m in
    let x = value n.before * (n.line.key.time - since) in
    let y = value m.before * (m.line.key.time - last_from n.line.key.time ms) in
    omega (arith, rest)

-- so long a time is two, one after the other
passed : (w a b c : ℕ) → a ≤ b → b ≤ c → w * (b - a) + w * (c - b) ≡ w * (c - a)
passed w a b c first second = sym (mul-add w (b - a) (c - b)) ∙ ap (λ n. w * n) (omega (arith, first, second))

passed_on : (x w a b c : ℕ) → a ≤ b → b ≤ c → x + w * (c - a) ≡ x + w * (b - a) + w * (c - b)
passed_on x w a b c first second = let both = passed w a b c first second in omega (arith, both)

-- a wait is known by the packets that are sent, where the link is freed and where it is not
reported_where : (sends freed : Bool) (given : Option ℕ) (wait : ℕ) → (freed ≡ true → cond sends (Some (cond freed wait 0)) None ≡ given) → cond freed given (cond sends (Some 0) None) ≡ cond sends (Some (cond freed wait 0)) None
reported_where sends true given wait is = sym (is refl)
reported_where sends false given wait is = refl

chosen : (b : Bool) (n : ℕ) → cond b n 0 ≡ cond {A = ℕ} b 1 0 * n
chosen true n = sym (one-mul n)
chosen false n = sym (zero-mul n)

greatest_before : (node index : ℕ) (ms : List Moment) (m : Moment) → greatest (map (λ (n : Moment). waiting_at (port_at n.before node index)) (ms ++ m ∷ [])) ≡ max (greatest (map (λ (n : Moment). waiting_at (port_at n.before node index)) ms)) (waiting_at (port_at m.before node index))
greatest_before node index ms m =
    ap greatest (map-append (λ (n : Moment). waiting_at (port_at n.before node index)) ms (m ∷ []))
    ∙ greatest_more (map (λ (n : Moment). waiting_at (port_at n.before node index)) ms) (waiting_at (port_at m.before node index))

-- what so many events count at most more events do
pub few_more : (n k : ℕ) (f : LinkFigures) → n ≤ k → IsFew n f → IsFew k f
few_more n k f most is =
    let bytes = is.bytes in
    let waits = is.waits in
    record { dropped = λ i. (let dropped = is.dropped i in omega (arith, most, dropped)); bytes = omega (arith, most, bytes); waits = omega (arith, most, waits) }

-- the figures of a link before any event
pub link_begun : (since before : ℕ) (s : State) (earlier : List Moment) (node index : ℕ) (f : LinkFigures) → IsLinkBegun since (port_at s node index) f → AreOfLink (record { since = since; state = s; before = before; earlier = earlier }) [] s node index f
link_begun since before s earlier node index f is = record {
  first = is.first;
  offered = is.offered;
  waiting = is.waiting;
  busy = is.busy;
  since = let at = is.since in omega (arith, at);
  dropped = is.dropped;
  sent = is.waits.count_is;
  bytes = is.bytes;
  waited =
      let gone : since - f.since ≡ 0 = (let at = is.since in omega (arith, at)) in
      let none = ap (λ n. f.waiting * n) gone in
      let zero_is = mul-zero f.waiting in
      let w = is.waited in
      omega (arith, none, zero_is, w);
  busy_for = ap (λ n. n + cond f.busy (since - f.since) 0) is.busy_for ∙ nothing f.busy f.since is.since;
  longest = let long = is.longest in omega (arith, long);
  next_entry_is = is.next_entry_is;
  waits = is.waits;
  few = (let bytes = is.bytes in let waits = is.waits.count_is in
      record { dropped = λ i. (let none = ap (λ (counts : List ℕ). slice_index counts i) is.dropped in let zeros = none_at i all_reasons in omega (arith, none, zeros)); bytes = omega (arith, bytes); waits = omega (arith, waits) });
}
  where
    none_at : (i : ℕ) (xs : List DropReason) → slice_index (map (λ (reason : DropReason). 0) xs) i ≡ 0
    none_at i [] = refl
    none_at zero (x ∷ xs) = refl
    none_at (suc i) (x ∷ xs) = none_at i xs

    nothing : (b : Bool) (n : ℕ) → n ≡ since → 0 + cond b (since - n) 0 ≡ 0
    nothing true n e = omega (arith, e)
    nothing false n e = omega arith

module _ (base : Base) (ms : List Moment) (s : State) (line : TraceLine) (t : State) (node index : ℕ) (order : last_from base.since ms ≤ line.key.time) where
  abbrev m : Moment
  m = record { before = s; line = line; after = t }

  -- the integrals of a link's numbers
  waited_more : (f : LinkFigures) → AreOfLink base ms s node index f → waited_so_far f + f.waiting * (line.key.time - f.since) ≡ waited_of node index base.since (ms ++ m ∷ [])
  waited_more f is =
      passed_on (waited_so_far f) f.waiting f.since (last_from base.since ms) line.key.time is.since order
      ∙ ap (λ n. n + f.waiting * (line.key.time - last_from base.since ms)) is.waited
      ∙ ap (λ w. waited_of node index base.since ms + w * (line.key.time - last_from base.since ms)) is.waiting
      ∙ sym (summed_more (λ (u : State). waiting_at (port_at u node index)) base.since ms m)

  busy_more : (f : LinkFigures) → AreOfLink base ms s node index f → f.busy_for + cond f.busy (line.key.time - f.since) 0 ≡ busy_of node index base.since (ms ++ m ∷ [])
  busy_more f is =
      ap (λ n. f.busy_for + n) (chosen f.busy (line.key.time - f.since))
      ∙ passed_on f.busy_for (cond f.busy 1 0) f.since (last_from base.since ms) line.key.time is.since order
      ∙ ap (λ n. f.busy_for + n + cond f.busy 1 0 * (line.key.time - last_from base.since ms)) (sym (chosen f.busy (last_from base.since ms - f.since)))
      ∙ ap (λ n. n + cond f.busy 1 0 * (line.key.time - last_from base.since ms)) is.busy_for
      ∙ ap (λ b. busy_of node index base.since ms + cond b 1 0 * (line.key.time - last_from base.since ms)) is.busy
      ∙ sym (summed_more (λ (u : State). busy_at (port_at u node index)) base.since ms m)

  -- an event at the link's node
  module _ (here : line.key.node ≡ node) (f g : LinkFigures) (tells : frees (port_at t node index).link line.event ≡ true → wait_by f.offered (port_at t node index) line f.next_entry ≡ wait_of_given line.key.time (port_at s node index))
      (is : AreOfLink base ms s node index f) (after : IsLinkAfter f (port_at t node index) line g) where
    acts : acts_at node index m ≡ acts_between f.offered (port_at t node index) line
    acts = ap (λ b. cond b (acts_between (port_at s node index).offered (port_at t node index) line) []) (eq-eqb line.key.node node here) ∙ ap (λ n. acts_between n (port_at t node index) line) (sym is.offered)

    dropped : g.dropped ≡ drops_of node index (ms ++ m ∷ [])
    dropped =
        after.dropped ∙ ap (λ counts. with_drops counts (acts_between f.offered (port_at t node index) line)) is.dropped
        ∙ ap (λ list. with_drops (drops_of node index ms) list) (sym acts)
        ∙ drops_more node index ms m

    wait : wait_at node index m ≡ wait_by f.offered (port_at t node index) line f.next_entry
    wait =
        ap (λ b. cond b (wait_in (port_at s node index).offered (port_at t node index) line (wait_of_given line.key.time (port_at s node index))) None) (eq-eqb line.key.node node here)
        ∙ ap (λ n. wait_in n (port_at t node index) line (wait_of_given line.key.time (port_at s node index))) (sym is.offered)
        ∙ reported_where (nat_lt 0 (tx_in (acts_between f.offered (port_at t node index) line))) (frees (port_at t node index).link line.event) (wait_of_given line.key.time (port_at s node index)) (line.key.time - f.next_entry) tells

    nothing_since : g.since ≡ last_from base.since (ms ++ m ∷ [])
    nothing_since = after.since ∙ sym (last_more base.since ms m)

    pub link_here : AreOfLink base (ms ++ m ∷ []) t node index g
    link_here = record {
      first = after.first ∙ is.first;
      offered = after.offered;
      waiting = after.waiting;
      busy = after.busy;
      since = let at = nothing_since in omega (arith, at);
      dropped = dropped;
      sent = after.sent ∙ ap (λ n. n + tx_in (acts_between f.offered (port_at t node index) line)) is.sent
          ∙ ap (λ list. tx_of node index ms + tx_in list) (sym acts) ∙ sym (sum_more (λ (n : Moment). tx_in (acts_at node index n)) ms m);
      bytes = after.bytes ∙ ap (λ n. n + bytes_in (acts_between f.offered (port_at t node index) line)) is.bytes
          ∙ ap (λ list. bytes_of_moments node index ms + bytes_in list) (sym acts) ∙ sym (sum_more (λ (n : Moment). bytes_in (acts_at node index n)) ms m);
      waited = ap (λ n. waited_so_far g + g.waiting * n) {x = last_from base.since (ms ++ m ∷ []) - g.since} {y = 0} (let at = nothing_since in omega (arith, at)) ∙ ap (λ n. waited_so_far g + n) (mul-zero g.waiting) ∙ plus_none (waited_so_far g) ∙ after.waited ∙ waited_more f is;
      busy_for = ap (λ n. g.busy_for + cond g.busy n 0) {x = last_from base.since (ms ++ m ∷ []) - g.since} {y = 0} (let at = nothing_since in omega (arith, at)) ∙ ap (λ n. g.busy_for + n) (either g.busy) ∙ plus_none g.busy_for ∙ after.busy_for ∙ busy_more f is;
      longest = after.longest ∙ ap (λ n. max n (waiting_at (port_at t node index))) (is.longest ∙ sym (greatest_before node index ms m));
      next_entry_is = after.next_entry_is;
      waits = subst (λ xs. IsTallyOf xs g.waits) (sym (given_more (wait_at node index) ms m ∙ ap (λ o. waits_of node index ms ++ option_to_list o) wait)) (after.waits (waits_of node index ms) is.waits);
      few = subst (λ n. IsFew n g) (sym (length-append ms (m ∷ []))) (after.few (length ms) is.few);
    }
      where
        plus_none : (n : ℕ) → n + 0 ≡ n
        plus_none n = omega arith

        either : (b : Bool) → cond {A = ℕ} b 0 0 ≡ 0
        either true = refl
        either false = refl

  -- an event that does nothing at the link
  module _ (no_acts : acts_at node index m ≡ []) (no_wait : wait_at node index m ≡ None) (port_same : port_at t node index ≡ port_at s node index) (f : LinkFigures) (is : AreOfLink base ms s node index f) where
    pub link_kept : AreOfLink base (ms ++ m ∷ []) t node index f
    link_kept = record {
      first = is.first;
      offered = is.offered ∙ ap (λ (p : PortState). p.offered) (sym port_same);
      waiting = is.waiting ∙ ap (λ (p : PortState). waiting_at p) (sym port_same);
      busy = is.busy ∙ ap (λ (p : PortState). is_some p.next_free) (sym port_same);
      since = let at = last_more base.since ms m in let before = is.since in omega (arith, at, before, order);
      dropped = is.dropped ∙ sym (ap (with_drops (drops_of node index ms)) no_acts) ∙ drops_more node index ms m;
      sent = (let more = sum_more (λ (n : Moment). tx_in (acts_at node index n)) ms m in let none : tx_in (acts_at node index m) ≡ 0 = ap tx_in no_acts in let before = is.sent in omega (arith, before, more, none));
      bytes = (let more = sum_more (λ (n : Moment). bytes_in (acts_at node index n)) ms m in let none : bytes_in (acts_at node index m) ≡ 0 = ap bytes_in no_acts in let before = is.bytes in omega (arith, before, more, none));
      waited = ap (λ n. waited_so_far f + f.waiting * (n - f.since)) (last_more base.since ms m) ∙ waited_more f is;
      busy_for = ap (λ n. f.busy_for + cond f.busy (n - f.since) 0) (last_more base.since ms m) ∙ busy_more f is;
      longest = (let before = greatest_before node index ms m in let long = is.longest in let still : waiting_at (port_at t node index) ≡ waiting_at (port_at s node index) = ap (λ (p : PortState). waiting_at p) port_same in omega (arith, before, long, still));
      next_entry_is = subst (λ (p : PortState). IsNextEntry p f.next_entry) (sym port_same) is.next_entry_is;
      waits = subst (λ xs. IsTallyOf xs f.waits)
          (sym (given_more (wait_at node index) ms m ∙ ap (λ o. waits_of node index ms ++ option_to_list o) no_wait ∙ append-nil (waits_of node index ms))) is.waits;
      few = few_more (length ms) (length (ms ++ m ∷ [])) f (let count = length-append ms (m ∷ []) in omega (arith, count)) is.few;
    }

  -- an event at another node
  module _ (apart : node ≢ line.key.node) (same : part_at t node ≡ part_at s node) where
    no_acts : acts_at node index m ≡ []
    no_acts = ap (λ b. cond b (acts_between (port_at s node index).offered (port_at t node index) line) []) (test_no line.key.node node (λ e. apart (sym e)))

    no_wait : wait_at node index m ≡ None
    no_wait =
        ap (λ b. cond b (wait_in (port_at s node index).offered (port_at t node index) line (wait_of_given line.key.time (port_at s node index))) None) (test_no line.key.node node (λ e. apart (sym e)))

    pub link_elsewhere : (f : LinkFigures) → AreOfLink base ms s node index f → AreOfLink base (ms ++ m ∷ []) t node index f
    link_elsewhere = link_kept no_acts no_wait (ap (λ (p : PartState). (link_at p.links index).port) same)

  -- an event at the link's node that is not counted of the link
  module _ (here : line.key.node ≡ node) (same : port_at t node index ≡ port_at s node index) (unfreed : frees (port_at t node index).link line.event ≡ false) where
    none_between : acts_between (port_at s node index).offered (port_at t node index) line ≡ []
    none_between =
        ap (λ b. cond (b || not ((port_at t node index).offered == (port_at s node index).offered)) line.acts []) unfreed
        ∙ ap (λ b. cond (not b) line.acts []) (eq-eqb (port_at t node index).offered (port_at s node index).offered (ap (λ (p : PortState). p.offered) same))

    no_acts_here : acts_at node index m ≡ []
    no_acts_here = ap (λ b. cond b (acts_between (port_at s node index).offered (port_at t node index) line) []) (eq-eqb line.key.node node here) ∙ none_between

    no_wait_here : wait_at node index m ≡ None
    no_wait_here =
        ap (λ b. cond b (wait_in (port_at s node index).offered (port_at t node index) line (wait_of_given line.key.time (port_at s node index))) None) (eq-eqb line.key.node node here)
        ∙ ap (λ b. cond b (wait_of_given line.key.time (port_at s node index)) (cond (nat_lt 0 (tx_in (acts_between (port_at s node index).offered (port_at t node index) line))) (Some 0) None)) unfreed
        ∙ ap (λ acts. cond (nat_lt 0 (tx_in acts)) (Some 0) None) none_between

    pub link_untouched : (f : LinkFigures) → AreOfLink base ms s node index f → AreOfLink base (ms ++ m ∷ []) t node index f
    link_untouched = link_kept no_acts_here no_wait_here same
