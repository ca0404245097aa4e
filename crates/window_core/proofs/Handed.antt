-- What groups are when their outgoing messages were handed over, link by link.
use Rattle.std.proofs.Common.{◌≡◌, ◌≢◌, ◌≤◌, ◌<◌, ◌==◌, ℕ, List, [], length, map, set, Bool, true, false, cond, Option, Some, None, refl, sym, ap, subst, ◌∙◌, ⊎_elim, arith, eq-eqb, ne_eqb, true≢false, ext_get_or}
use Rattle.std.proofs.lemmas.Bool.{cases_eq, cases_lt, cases_Bool}
use Rattle.std.proofs.lemmas.List.{get_or_past, length-map, get_or-set_same, get_or-set_other, length-set}
use Rattle.std.specs.Option.{option_or}
use Rattle.std.specs.FinMap.{get, get-empty, retain_keys, get-retain_keys, entries as entries_of}
use Rattle.sim_time.proofs.Order.{exact_keys}
use Rattle.sim_time.specs.declared.key.Key.{Key}
use Rattle.tournament.specs.Keyed.{apply, entering, nothing_due}
use Rattle.tournament.specs.Gathered.{map_at}
use Rattle.tournament.proofs.Gathered.{get-gathered}
use Rattle.tournament.proofs.Maps.{not_some, none_or, same_at}
use Rattle.node_core.specs.declared.event.Event.{Event}
use Rattle.node_core.specs.Pending.{Events}
use Rattle.node_core.specs.WireState.{WireState, pending_on, came_over}
use Rattle.net_machine.specs.declared.places.LinkEnds.{LinkEnds}
use Rattle.net_machine.specs.Nodes.{parts_of}
use Rattle.net_machine.specs.Wiring.{ends_at, place_at}
use Rattle.node_group.specs.Group.{GroupValue, state_of, came_in, group_from, group_to}
use Rattle.window_law.specs.Groups.{GroupState, no_group}
use Rattle.node_group.specs.Held.{no_wire, wire_at, held_on}
use Rattle.net_partition.specs.Partition.{group_in}
use Rattle.node_group.specs.Seats.{seated, taken_nodes}
use Rattle.window_core.specs.Turning.{from_group, to_group, held_over, pending_in, AreReady, CanHand, WasHanded, HasHanded, handed, ComesLater}
use Rattle.window_core.specs.Window.{value_at, states_of}
use Rattle.window_law.specs.Windows.{groups_delivered, delivered_to}
use Rattle.window_core.proofs.Arriving.{get_arriving}
use Rattle.node_group.proofs.HeldBack.{over_link, wire_map}
use Rattle.window_law.proofs.Changes.{get-entering}
use Rattle.window_law.proofs.Turn.{length_delivered, delivered_at}
use Rattle.window_core.proofs.Windowed.{state_at, length_states}
use Rattle.window_core.proofs.HeldForOthers.{held, no_key, in_range, crossing, on_wire, off_wire}

module _ (entries : List ℕ) (links : List LinkEnds) (old : List GroupValue) (ready : AreReady entries links old) where
  -- SO FAR

  -- the outgoing messages of some links were handed over, and of the others none yet
  pub record HandedOver (now : List GroupValue) (done : ℕ → Bool) : Type 0 where
    pub size : length now ≡ length old
    pub same : (h : ℕ) → value_at now h ≡ record (value_at old h) { seats = (value_at now h).seats; held = (value_at now h).held }
    pub seats_stay : (h : ℕ) → taken_nodes (value_at now h).seats ≡ taken_nodes (value_at old h).seats
    pub parts : (h : ℕ) → parts_of (seated (value_at now h).seats) ≡ parts_of (seated (value_at old h).seats)
    pub wires : (h : ℕ) → length (value_at now h).held ≡ length (value_at old h).held
    pub waits : (h link : ℕ) → done link ≡ false → held_over now h link ≡ held_over old h link
    pub gone : (h link : ℕ) → h < length old → done link ≡ true → link < length links → (held_over now h link).under_way ≡ []
    pub across : (link : ℕ) → link < length links → from_group entries links link ≢ to_group entries links link → came_in (value_at now (to_group entries links link)) link ≡ (held_over now (from_group entries links link) link).taken
    pub pending_waits : (h : ℕ) → h < length old → (k : Key) → done (over_link k) ≡ false → get (pending_in (value_at now h)) k ≡ get (pending_in (value_at old h)) k
    pub pending_came : (h : ℕ) → h < length old → (k : Key) → done (over_link k) ≡ true → get (pending_in (value_at now h)) k ≡ option_or (cond (group_in entries k.node == h) (get (held ready) k) None) (get (pending_in (value_at old h)) k)

  -- nothing at a key is put in
  nothing_more : (h : ℕ) (k : Key) (x : Option Event) → ((v : Event) → get (held ready) k ≡ Some v → group_in entries k.node ≢ h) → x ≡ option_or (cond (group_in entries k.node == h) (get (held ready) k) None) x
  nothing_more h k x off = at (get (held ready) k) refl
    where
      at : (o : Option Event) → get (held ready) k ≡ o → x ≡ option_or (cond (group_in entries k.node == h) (get (held ready) k) None) x
      at None e = ap (λ o. option_or o x) (sym (ap (λ o. cond (group_in entries k.node == h) o None) e ∙ both (group_in entries k.node == h)))
        where
          both : (b : Bool) → let none : Option Event = None in cond b none none ≡ none
          both true = refl
          both false = refl
      at (Some v) e = ap (λ b. option_or (cond b (get (held ready) k) None) x) (sym (ne_eqb (group_in entries k.node) h (off v e)))

  -- a link
  module _ (now : List GroupValue) (done : ℕ → Bool) (is : HandedOver now done) (i : ℕ) (to_i : i < length links) (fresh : done i ≡ false) where
    -- a link to another group
    module _ (crosses : from_group entries links i ≢ to_group entries links i) where
      abbrev f : ℕ
      f = from_group entries links i

      abbrev t : ℕ
      t = to_group entries links i

      f_in : f < length old
      f_in = (in_range ready) (ends_at links i).from

      t_in : t < length old
      t_in = (in_range ready) (place_at links i).node

      its : (h : ℕ) → h < length old → (value_at now h).links ≡ links
      its h here = ap (λ (g : GroupValue). g.links) (is.same h) ∙ (ready.shapes h here).links_are

      theirs : (h : ℕ) → h < length old → (value_at now h).entries ≡ entries
      theirs h here = ap (λ (g : GroupValue). g.entries) (is.same h) ∙ (ready.shapes h here).entries_are

      its_number : (h : ℕ) → h < length old → (value_at now h).number ≡ h
      its_number h here = ap (λ (g : GroupValue). g.number) (is.same h) ∙ (ready.shapes h here).number_is

      ends_to : (h : ℕ) → h < length old → (l : ℕ) → group_to (value_at now h) l ≡ to_group entries links l
      ends_to h here l = (λ j. group_in (theirs h here j) (place_at (its h here j) l).node)

      leaves_from : (h : ℕ) → h < length old → (l : ℕ) → group_from (value_at now h) l ≡ from_group entries links l
      leaves_from h here l = (λ j. group_in (theirs h here j) (ends_at (its h here j) l).from)

      same_wire : held_over now f i ≡ held_over old f i
      same_wire = is.waits f i fresh

      to_wires : i < length (value_at old f).held
      to_wires = let wires = (ready.shapes f f_in).wires in omega (arith, to_i, wires)

      wire_number : (held_over old f i).link ≡ i
      wire_number = (ready.shapes f f_in).by_link i to_wires

      pub can_hand : CanHand now f t i
      can_hand = record {
        from_in = (let size = is.size in let here = f_in in omega (arith, size, here));
        to_in = (let size = is.size in let here = t_in in omega (arith, size, here));
        apart = crosses;
        leaves = subst (λ (ls : List LinkEnds). i < length ls) (sym (its f f_in)) to_i;
        comes = subst (λ (ls : List LinkEnds). i < length ls) (sym (its t t_in)) to_i;
        from_another = λ e. crosses (sym (leaves_from t t_in i) ∙ e ∙ its_number t t_in);
        to_it = ends_to t t_in i ∙ sym (its_number t t_in);
        number = ap (λ (w : WireState). w.link) same_wire ∙ wire_number;
        node = ap (λ (w : WireState). w.node) same_wire ∙ (ready.shapes f f_in).ends_there i to_i ∙ ap (λ (ls : List LinkEnds). (place_at ls i).node) (sym (its t t_in));
        came = is.across i to_i crosses;
        later = subst (λ (w : WireState). ComesLater w (value_at now t)) (sym same_wire)
            (λ j d below k v there source. ready.later i to_i crosses j d below k v
            (sym (is.pending_waits t t_in k (ap done (let number = wire_number in omega (arith, source, number)) ∙ fresh)) ∙ there) source);
      }

      module _ (new : List GroupValue) (was : WasHanded now new f t i) where
        -- the groups are each one of three
        by_group : {P : ℕ → Type 0} → P f → P t → ((h : ℕ) → h ≢ f → h ≢ t → P h) → (h : ℕ) → P h
        by_group {P} at_f at_t other h =
            ⊎_elim
            (λ (e : h ≡ f). subst P (sym e) at_f)
            (λ (off : h ≢ f). ⊎_elim (λ (e : h ≡ t). subst P (sym e) at_t) (λ (away : h ≢ t). other h off away) (cases_eq h t))
            (cases_eq h f)

        to_now : i < length (value_at now f).held
        to_now = let wires = is.wires f in let here = to_wires in omega (arith, wires, here)

        held_other : (h link : ℕ) → link ≢ i → held_over new h link ≡ held_over now h link
        held_other h link off =
            by_group {P = λ h. held_over new h link ≡ held_over now h link}
            (ap (λ (g : GroupValue). wire_at g.held link) was.from_is ∙ get_or-set_other (value_at now f).held i link (handed (held_over now f i)) no_wire off)
            (ap (λ (g : GroupValue). wire_at g.held link) was.to_is)
            (λ h a b. ap (λ (g : GroupValue). wire_at g.held link) (was.others h a b))
            h

        held_away : (h : ℕ) → h ≢ f → held_over new h i ≡ held_over now h i
        held_away h off = ⊎_elim
            (λ (e : h ≡ t). subst (λ n. held_over new n i ≡ held_over now n i) (sym e) (ap (λ (g : GroupValue). wire_at g.held i) was.to_is))
            (λ (away : h ≢ t). ap (λ (g : GroupValue). wire_at g.held i) (was.others h off away))
            (cases_eq h t)

        held_here : held_over new f i ≡ handed (held_over now f i)
        held_here = ap (λ (g : GroupValue). wire_at g.held i) was.from_is ∙ get_or-set_same (value_at now f).held i (handed (held_over now f i)) no_wire to_now

        pending_away : (h : ℕ) → h ≢ t → pending_in (value_at new h) ≡ pending_in (value_at now h)
        pending_away h off = ⊎_elim
            (λ (e : h ≡ f). subst (λ n. pending_in (value_at new n) ≡ pending_in (value_at now n)) (sym e) (ap pending_in was.from_is))
            (λ (away : h ≢ f). ap pending_in (was.others h away off))
            (cases_eq h f)

        pending_here : (k : Key) → get (pending_in (value_at new t)) k ≡ option_or (get (pending_on (held_over old f i)) k) (get (pending_in (value_at now t)) k)
        pending_here k =
            ap (λ (m : Events). get m k) was.pending
            ∙ get_arriving (held_over now f i) (pending_in (value_at now t)) k
            ∙ ap (λ (w : WireState). option_or (get (pending_on w) k) (get (pending_in (value_at now t)) k)) same_wire

        not_here : (h : ℕ) → (k : Key) → over_link k ≢ i → get (pending_in (value_at new h)) k ≡ get (pending_in (value_at now h)) k
        not_here h k off = ⊎_elim
            (λ (e : h ≡ t). subst (λ n. get (pending_in (value_at new n)) k ≡ get (pending_in (value_at now n)) k) (sym e)
            (pending_here k ∙ ap (λ o. option_or o (get (pending_in (value_at now t)) k)) ((off_wire ready) f f_in i to_i k off)))
            (λ (away : h ≢ t). ap (λ (m : Events). get m k) (pending_away h away))
            (cases_eq h t)

        came_new : (link : ℕ) → link < length links → came_in (value_at new (to_group entries links link)) link ≡ cond (link == i) (came_over (held_over now f i)) (came_in (value_at now (to_group entries links link)) link)
        came_new link under = ⊎_elim
            (λ (e : to_group entries links link ≡ t).
            ap (λ h. came_in (value_at new h) link) e
            ∙ was.came link (subst (λ (ls : List LinkEnds). link < length ls) (sym (its t t_in)) under) (ends_to t t_in link ∙ e ∙ sym (its_number t t_in))
            ∙ ap (λ h. cond (link == i) (came_over (held_over now f i)) (came_in (value_at now h) link)) (sym e))
            (λ (off : to_group entries links link ≢ t).
            came_away (to_group entries links link) off link
            ∙ ap (λ b. cond b (came_over (held_over now f i)) (came_in (value_at now (to_group entries links link)) link)) (sym (ne_eqb link i (λ e. off (ap (to_group entries links) e)))))
            (cases_eq (to_group entries links link) t)
          where
            came_away : (h : ℕ) → h ≢ t → (link : ℕ) → came_in (value_at new h) link ≡ came_in (value_at now h) link
            came_away h off link = ⊎_elim
                (λ (e : h ≡ f). subst (λ n. came_in (value_at new n) link ≡ came_in (value_at now n) link) (sym e) (ap (λ (g : GroupValue). came_in g link) was.from_is))
                (λ (away : h ≢ f). ap (λ (g : GroupValue). came_in g link) (was.others h away off))
                (cases_eq h f)

        -- the rest of a group is as it was
        shape : (x y : GroupValue) → x.number ≡ y.number → x.entries ≡ y.entries → x.links ≡ y.links → x.lines ≡ y.lines → x.until ≡ y.until → x.position ≡ y.position → x ≡ record y { seats = x.seats; held = x.held }
        shape x y number its_entries its_links lines until position = λ j. record { number = number j; entries = its_entries j; links = its_links j; seats = x.seats; held = x.held; lines = lines j; until = until j; position = position j }

        of_same : (x y z : GroupValue) → x ≡ record y { seats = z.seats; held = z.held } → x ≡ record y { seats = x.seats; held = x.held }
        of_same x y z e = shape x y (ap (λ (g : GroupValue). g.number) e) (ap (λ (g : GroupValue). g.entries) e) (ap (λ (g : GroupValue). g.links) e) (ap (λ (g : GroupValue). g.lines) e) (ap (λ (g : GroupValue). g.until) e) (ap (λ (g : GroupValue). g.position) e)

        same_new : (h : ℕ) → value_at new h ≡ record (value_at now h) { seats = (value_at new h).seats; held = (value_at new h).held }
        same_new h = by_group {P = λ h. value_at new h ≡ record (value_at now h) { seats = (value_at new h).seats; held = (value_at new h).held }}
            (of_same (value_at new f) (value_at now f) (record (value_at now f) { held = set (value_at now f).held i (handed (held_over now f i)) }) was.from_is)
            (of_same (value_at new t) (value_at now t) (record (value_at now t) { seats = (value_at new t).seats }) was.to_is)
            (λ h a b. of_same (value_at new h) (value_at now h) (value_at now h) (was.others h a b))
            h

        wires_new : (h : ℕ) → length (value_at new h).held ≡ length (value_at now h).held
        wires_new h = by_group {P = λ h. length (value_at new h).held ≡ length (value_at now h).held}
            (ap (λ (g : GroupValue). length g.held) was.from_is ∙ length-set (value_at now f).held i (handed (held_over now f i)))
            (ap (λ (g : GroupValue). length g.held) was.to_is)
            (λ h a b. ap (λ (g : GroupValue). length g.held) (was.others h a b))
            h

        at_end : {A : Type 0} (read : GroupValue → A) → read (value_at new f) ≡ read (value_at now f) → read (value_at new t) ≡ read (value_at now t) → (h : ℕ) → read (value_at new h) ≡ read (value_at now h)
        at_end read at_f at_t h = by_group {P = λ h. read (value_at new h) ≡ read (value_at now h)} at_f at_t (λ h a b. ap read (was.others h a b)) h

        -- that link too
        abbrev pub more : ℕ → Bool
        more link = cond (link == i) true (done link)

        more_here : more i ≡ true
        more_here = ap (λ b. cond b true (done i)) (eq-eqb i i refl)

        more_away : (link : ℕ) → link ≢ i → more link ≡ done link
        more_away link off = ap (λ b. cond b true (done link)) (ne_eqb link i off)

        -- one that is not among them
        not_here_yet : (link : ℕ) → more link ≡ false → link ≢ i
        not_here_yet link not at = true≢false (sym more_here ∙ ap more (sym at) ∙ not)

        pub handed_across : HandedOver new more
        handed_across = record {
          size = was.size ∙ is.size;
          same = λ h. same_new h ∙ ap (λ (g : GroupValue). record g { seats = (value_at new h).seats; held = (value_at new h).held }) (is.same h);
          seats_stay = λ h. at_end (λ g. taken_nodes g.seats) (ap (λ (g : GroupValue). taken_nodes g.seats) was.from_is) was.seats_stay h ∙ is.seats_stay h;
          parts = λ h. at_end (λ g. parts_of (seated g.seats)) (ap (λ (g : GroupValue). parts_of (seated g.seats)) was.from_is) was.parts h ∙ is.parts h;
          wires = λ h. wires_new h ∙ is.wires h;
          waits = λ h link not. let off = not_here_yet link not in held_other h link off ∙ is.waits h link (sym (more_away link off) ∙ not);
          gone = λ h link here among under. ⊎_elim
              (λ (at : link ≡ i). subst (λ l. (held_over new h l).under_way ≡ []) (sym at) (gone_here h here))
              (λ (off : link ≢ i). ap (λ (w : WireState). w.under_way) (held_other h link off) ∙ is.gone h link here (sym (more_away link off) ∙ among) under)
              (cases_eq link i);
          across = λ link under off. came_new link under ∙ ⊎_elim
              (λ (at : link ≡ i).
              ap (λ b. cond b (came_over (held_over now f i)) (came_in (value_at now (to_group entries links link)) link)) (eq-eqb link i at)
              ∙ sym (ap (λ (w : WireState). w.taken) held_here)
              ∙ ap (λ l. (held_over new (from_group entries links l) l).taken) (sym at))
              (λ (away : link ≢ i).
              ap (λ b. cond b (came_over (held_over now f i)) (came_in (value_at now (to_group entries links link)) link)) (ne_eqb link i away)
              ∙ is.across link under off
              ∙ sym (ap (λ (w : WireState). w.taken) (held_other (from_group entries links link) link away)))
              (cases_eq link i);
          pending_waits = λ h here k not. let off = not_here_yet (over_link k) not in not_here h k off ∙ is.pending_waits h here k (sym (more_away (over_link k) off) ∙ not);
          pending_came = λ h here k among. ⊎_elim
              (λ (at : over_link k ≡ i). came_at h here k at)
              (λ (off : over_link k ≢ i). not_here h k off ∙ is.pending_came h here k (sym (more_away (over_link k) off) ∙ among))
              (cases_eq (over_link k) i);
        }
          where
            gone_here : (h : ℕ) → h < length old → (held_over new h i).under_way ≡ []
            gone_here h here = ⊎_elim
                (λ (e : h ≡ f). subst (λ n. (held_over new n i).under_way ≡ []) (sym e) (ap (λ (w : WireState). w.under_way) held_here))
                (λ (off : h ≢ f). ap (λ (w : WireState). w.under_way) (held_away h off ∙ is.waits h i fresh) ∙ ready.own h i here (λ e. off (sym e)))
                (cases_eq h f)

            put_in : (k : Key) → over_link k ≡ i → (x : Option Event) → option_or (get (held ready) k) x ≡ option_or (cond (group_in entries k.node == t) (get (held ready) k) None) x
            put_in k at x = go (get (held ready) k) refl
              where
                go : (o : Option Event) → get (held ready) k ≡ o → option_or (get (held ready) k) x ≡ option_or (cond (group_in entries k.node == t) (get (held ready) k) None) x
                go None e = ap (λ o. option_or o x) e ∙ nothing_more t k x (λ v there. absurd (not_some (sym e ∙ there)))
                go (Some v) e = ap (λ b. option_or (cond b (get (held ready) k) None) x) (sym (eq-eqb (group_in entries k.node) t (((crossing ready) k v e).its_end ∙ ap (to_group entries links) at)))

            came_at : (h : ℕ) → h < length old → (k : Key) → over_link k ≡ i → get (pending_in (value_at new h)) k ≡ option_or (cond (group_in entries k.node == h) (get (held ready) k) None) (get (pending_in (value_at old h)) k)
            came_at h here k at = ⊎_elim
                (λ (e : h ≡ t). subst (λ n. get (pending_in (value_at new n)) k ≡ option_or (cond (group_in entries k.node == n) (get (held ready) k) None) (get (pending_in (value_at old n)) k)) (sym e)
                (pending_here k
                ∙ ap (λ o. option_or o (get (pending_in (value_at now t)) k)) ((on_wire ready) i to_i k at)
                ∙ ap (option_or (get (held ready) k)) (is.pending_waits t t_in k (ap done at ∙ fresh))
                ∙ put_in k at (get (pending_in (value_at old t)) k)))
                (λ (away : h ≢ t).
                ap (λ (m : Events). get m k) (pending_away h away)
                ∙ is.pending_waits h here k (ap done at ∙ fresh)
                ∙ nothing_more h k (get (pending_in (value_at old h)) k) (λ v there e. away (sym e ∙ ((crossing ready) k v there).its_end ∙ ap (to_group entries links) at)))
                (cases_eq h t)

  -- where the others held nothing back, of all
  module _ (now : List GroupValue) (done : ℕ → Bool) (is : HandedOver now done) (none : (h link : ℕ) → h < length old → link < length links → (held_over now h link).under_way ≡ []) where
    nothing_came : (h : ℕ) (k : Key) → done (over_link k) ≡ false → (v : Event) → get (held ready) k ≡ Some v → group_in entries k.node ≢ h
    nothing_came h k not v there _ =
        let under = ((crossing ready) k v there).known in
        let f = from_group entries links (over_link k) in
        let empty : (held_over old f (over_link k)).under_way ≡ [] = ap (λ (w : WireState). w.under_way) (sym (is.waits f (over_link k) not)) ∙ none f (over_link k) ((in_range ready) (ends_at links (over_link k)).from) under in
        (no_key ready) (held_over old f (over_link k)) empty k v ((on_wire ready) (over_link k) under k refl ∙ there)

    pub handed_rest : HandedOver now (λ _. true)
    handed_rest = record {
      size = is.size;
      same = is.same;
      seats_stay = is.seats_stay;
      parts = is.parts;
      wires = is.wires;
      waits = λ h link not. absurd (true≢false not);
      gone = λ h link here _ under. none h link here under;
      across = is.across;
      pending_waits = λ h here k not. absurd (true≢false not);
      pending_came = λ h here k _. ⊎_elim
          (λ (among : done (over_link k) ≡ true). is.pending_came h here k among)
          (λ (not : done (over_link k) ≡ false). is.pending_waits h here k not ∙ nothing_more h k (get (pending_in (value_at old h)) k) (nothing_came h k not))
          (cases_Bool (done (over_link k)));
    }

  -- AT THE END

  module _ (now : List GroupValue) (is : HandedOver now (λ _. true)) where
    no_wires : (ws : List WireState) → ((link : ℕ) → link < length ws → (wire_at ws link).under_way ≡ []) → held_on ws ≡ nothing_due Event
    no_wires ws none = same_at (held_on ws) (nothing_due Event) (λ k. get-gathered (λ _. 0) (map pending_on ws) (λ j q v there. absurd (empty j q v there)) k ∙ first k ∙ sym (get-empty _ k))
      where
        empty : (j : ℕ) (q : Key) (v : Event) → get (map_at (map pending_on ws) j) q ≡ Some v → ⊥
        empty j q v there = ⊎_elim
            (λ (under : j < length ws). (no_key ready) (wire_at ws j) (none j under) q v (ap (λ (m : Events). get m q) (sym (wire_map ws j under)) ∙ there))
            (λ (past : length ws ≤ j). not_some (sym (get-empty _ q) ∙ ap (λ (m : Events). get m q) (sym (get_or_past (map pending_on ws) j (nothing_due Event) (let size = length-map ws pending_on in omega (arith, past, size)))) ∙ there))
            (cases_lt j (length ws))

        first : (k : Key) → get (map_at (map pending_on ws) 0) k ≡ None
        first k = none_or _ (λ v there. empty 0 k v there)

    held_gone : (h : ℕ) → h < length old → held_on (value_at now h).held ≡ nothing_due Event
    held_gone h here = no_wires (value_at now h).held (λ link under.
        let many = is.wires h in
        let wires = (ready.shapes h here).wires in
        let below : link < length links = omega (arith, under, many, wires) in
        is.gone h link here refl below)

    pending_all : (h : ℕ) → h < length old → pending_in (value_at now h) ≡ apply (entering (entries_of (retain_keys (held ready) (λ k. group_in entries k.node == h)))) (pending_in (value_at old h))
    pending_all h here = same_at _ _ (λ k. is.pending_came h here k refl
        ∙ sym (get-entering (retain_keys (held ready) (λ q. group_in entries q.node == h)) (pending_in (value_at old h)) k
        ∙ ap (λ o. option_or o (get (pending_in (value_at old h)) k)) (get-retain_keys (held ready) (λ q. group_in entries q.node == h) k (λ q e. ap (λ (y : Key). group_in entries y.node == h) (sym (exact_keys k q e))))))

    state_now : (h : ℕ) → h < length old → state_of (value_at now h) ≡ delivered_to (group_in entries) (held ready) (h, state_of (value_at old h))
    state_now h here = λ j. record {
      parts = is.parts h j;
      pending = pending_all h here j;
      held = held_gone h here j;
      lines = (ap (λ (g : GroupValue). g.lines) (is.same h) ∙ (ready.shapes h here).no_lines) j;
    }

    pub has_handed : HasHanded entries links old now
    has_handed = record {
      size = is.size;
      same = is.same;
      states = ext_get_or no_group (states_of now) (groups_delivered (group_in entries) (states_of old))
          (length_states now ∙ is.size ∙ sym (length_states old) ∙ sym (length_delivered (group_in entries) (states_of old)))
          (λ h under.
          let size = length_states now in
          let many = is.size in
          let here : h < length old = omega (arith, under, size, many) in
          let all = length_states old in
          state_at now h (omega (arith, under, size))
          ∙ state_now h here
          ∙ ap (λ (s : GroupState). delivered_to (group_in entries) (held ready) (h, s)) (sym (state_at old h here))
          ∙ sym (delivered_at (group_in entries) (states_of old) h (omega (arith, here, all))));
      across = is.across;
    }
