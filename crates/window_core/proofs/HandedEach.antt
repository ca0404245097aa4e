-- The outgoing messages are handed over, group by group.
use Rattle.std.proofs.Common.{◌≡◌, ◌≢◌, ◌≤◌, ◌<◌, ◌+◌, ◌==◌, ℕ, List, [], ◌∷◌, length, Bool, true, false, cond, refl, sym, ap, subst, ◌∙◌, ⊎_elim, arith, eq-eqb, ne_eqb, true≢false}
use Rattle.std.proofs.lemmas.Bool.{cases_eq, cases_lt, cases_Bool}
use Rattle.std.proofs.lemmas.List.Sums.{sum_by-set}
use Rattle.std.specs.List.{sum_by}
use Rattle.packet_chain.specs.Stamped.{Stamped}
use Rattle.node_core.specs.WireState.{WireState}
use Rattle.net_machine.specs.declared.places.LinkEnds.{LinkEnds}
use Rattle.node_group.specs.Group.{GroupValue}
use Rattle.node_group.specs.Held.{no_wire, wire_at, is_idle, WiresAreEmpty}
use Rattle.window_core.specs.Turning.{from_group, to_group, held_over, handed, AreReady, CanHand, CanHandEach, WasHanded, HasHanded, HasHandedOne}
use Rattle.window_core.specs.Window.{value_at}
use Rattle.window_core.proofs.Handed.{HandedOver, can_hand, more, handed_across, handed_rest, has_handed}

none_in : (packets : List Stamped) → (length packets == 0) ≡ true → packets ≡ []
none_in [] e = refl
none_in (first ∷ packets) e = absurd (true≢false (sym e ∙ ne_eqb (length (first ∷ packets)) 0 (λ none. absurd (omega (arith, none)))))

-- a wire that has something under way is not empty
not_none : (w : WireState) → is_idle w ≡ false → w.under_way ≢ []
not_none w busy none = true≢false (sym (eq-eqb 0 0 refl) ∙ ap (λ (packets : List Stamped). length packets == 0) (sym none) ∙ busy)

-- over how many links there are outgoing messages
abbrev weight : WireState → ℕ
weight w = cond (is_idle w) 0 1

abbrev pub left_over : List WireState → ℕ
left_over wires = sum_by weight wires

module _ (entries : List ℕ) (links : List LinkEnds) (old : List GroupValue) (ready : AreReady entries links old) where
  -- the groups before one hold nothing back any more
  pub record HandedFrom (now : List GroupValue) (from : ℕ) : Type 0 where
    pub done : ℕ → Bool
    pub is : HandedOver entries links old ready now done
    pub before : (h link : ℕ) → h < from → link < length links → (held_over now h link).under_way ≡ []

  pub none_yet : HandedFrom old 0
  none_yet = record {
    done = λ _. false;
    is = record {
      size = refl;
      same = λ h. refl;
      seats_stay = λ h. refl;
      parts = λ h. refl;
      wires = λ h. refl;
      waits = λ h link _. refl;
      gone = λ h link here among under. absurd (true≢false (sym among));
      across = ready.across;
      pending_waits = λ h here k _. refl;
      pending_came = λ h here k among. absurd (true≢false (sym among));
    };
    before = λ h link below under. absurd (omega (arith, below));
  }

  module _ (now : List GroupValue) (from : ℕ) (is : HandedFrom now from) (here : from < length old) where
    wires_many : length (value_at now from).held ≡ length links
    wires_many = is.is.wires from ∙ (ready.shapes from here).wires

    -- the next group
    pub handed_next : WiresAreEmpty (value_at now from).held → HandedFrom now (from + 1)
    handed_next none = record {
      done = is.done;
      is = is.is;
      before = λ h link below under. ⊎_elim
          (λ (earlier : h < from). is.before h link earlier under)
          (λ (upto : from ≤ h).
          let at : from ≡ h = omega (arith, below, upto) in
          subst (λ n. (held_over now n link).under_way ≡ []) at (none_in (held_over now from link).under_way (none link (let many = wires_many in omega (arith, under, many)))))
          (cases_lt h from);
    }

    module _ (link : ℕ) (under : link < length links) (busy : is_idle (held_over now from link) ≡ false) where
      fresh : is.done link ≡ false
      fresh = ⊎_elim
          (λ (among : is.done link ≡ true). absurd (not_none (held_over now from link) busy (is.is.gone from link here among under)))
          (λ (not : is.done link ≡ false). not)
          (cases_Bool (is.done link))

      busy_old : is_idle (held_over old from link) ≡ false
      busy_old = ap is_idle (sym (is.is.waits from link fresh)) ∙ busy

      its_from : from_group entries links link ≡ from
      its_from = ⊎_elim
          (λ (same : from_group entries links link ≡ from). same)
          (λ (off : from_group entries links link ≢ from). absurd (not_none (held_over old from link) busy_old (ready.own from link here off)))
          (cases_eq (from_group entries links link) from)

      crosses : from_group entries links link ≢ to_group entries links link
      crosses e = not_none (held_over old from link) busy_old (ready.inside from link here (sym e))

      pub can_one : CanHand now from (to_group entries links link) link
      can_one = subst (λ f. CanHand now f (to_group entries links link) link) its_from (can_hand entries links old ready now is.done is.is link under fresh crosses)

      module _ (new : List GroupValue) (was : WasHanded now new from (to_group entries links link) link) where
        was_links : WasHanded now new (from_group entries links link) (to_group entries links link) link
        was_links = subst (λ f. WasHanded now new f (to_group entries links link) link) (sym its_from) was

        stays : (h l : ℕ) → h ≢ from → held_over new h l ≡ held_over now h l
        stays h l off = ⊎_elim
            (λ (e : h ≡ to_group entries links link). subst (λ n. held_over new n l ≡ held_over now n l) (sym e) (ap (λ (g : GroupValue). wire_at g.held l) was.to_is))
            (λ (away : h ≢ to_group entries links link). ap (λ (g : GroupValue). wire_at g.held l) (was.others h off away))
            (cases_eq h (to_group entries links link))

        pub handed_more : HandedFrom new from
        handed_more = record {
          done = more entries links old ready now is.done is.is link under fresh crosses new was_links;
          is = handed_across entries links old ready now is.done is.is link under fresh crosses new was_links;
          before = λ h l below inside. ap (λ (w : WireState). w.under_way) (stays h l (λ e. absurd (omega (arith, below, e)))) ∙ is.before h l below inside;
        }

        pub fewer_left : left_over (value_at new from).held < left_over (value_at now from).held
        fewer_left =
            let wires = (value_at now from).held in
            let within : link < length wires = (let many = wires_many in omega (arith, under, many)) in
            let changed = sum_by-set weight wires link (handed (wire_at wires link)) no_wire within in
            let was_one : weight (wire_at wires link) ≡ 1 = ap (λ b. cond b 0 1) busy in
            let is_none : weight (handed (wire_at wires link)) ≡ 0 = ap (λ b. cond b 0 1) (eq-eqb 0 0 refl) in
            let left = ap (λ (g : GroupValue). left_over g.held) was.from_is in
            omega (arith, changed, was_one, is_none, left)

    pub can_each : CanHandEach entries links now from
    can_each = record {
      within = (let size = is.is.size in omega (arith, size, here));
      comes = ready.comes;
      wires = wires_many;
      can = can_one;
    }

    pub handed_one : (new : List GroupValue) (link : ℕ) → HasHandedOne entries links now new from link → HandedFrom new from
    handed_one new link one = handed_more link one.within one.busy new one.was

    pub fewer : (new : List GroupValue) (link : ℕ) → HasHandedOne entries links now new from link → left_over (value_at new from).held < left_over (value_at now from).held
    fewer new link one = fewer_left link one.within one.busy new one.was

  pub handed_all : (now : List GroupValue) → HandedFrom now (length old) → HasHanded entries links old now
  handed_all now is = has_handed entries links old ready now (handed_rest entries links old ready now is.done is.is is.before)
