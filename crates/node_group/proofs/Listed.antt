-- The links of which a group holds something back are in its list.
use Rattle.std.proofs.Common.{◌≡◌, ◌≢◌, ◌<◌, ◌+◌, ℕ, List, [], ◌∷◌, ◌++◌, length, length-append, set, All, Bool, true, false, cond, refl, sym, ap, subst, ◌∙◌, ⊎_elim, arith, eq-eqb, ne_eqb, true≢false, ◌==◌}
use Rattle.std.proofs.lemmas.Bool.{cases_eq, cases_Bool}
use Rattle.std.proofs.lemmas.List.{get_or-set_same, get_or-set_other, get_or_append_left, get_or_push, length-set, set-get_or}
use Rattle.std.proofs.lemmas.List.Elements.{All-push, Contains-push, Contains-push_cases, Contains-append_left}
use Rattle.std.proofs.lemmas.List.Sums.{sum_by-set}
use Rattle.std.specs.List.{Contains, count_by}
use Rattle.packet_chain.specs.Stamped.{Stamped}
use Rattle.node_core.specs.WireState.{WireState}
use Rattle.node_group.specs.Held.{no_wire, wire_at, is_idle, AreByLink, AreListed}

module _ (wires : List WireState) (link : ℕ) (within : link < length wires) (new : WireState) (number : new.link ≡ (wire_at wires link).link) where
  abbrev back : List WireState
  back = set wires link new

  many : length back ≡ length wires
  many = length-set wires link new

  here : wire_at back link ≡ new
  here = get_or-set_same wires link new no_wire within

  away : (h : ℕ) → h ≢ link → wire_at back h ≡ wire_at wires h
  away h off = get_or-set_other wires link h new no_wire off

  by_link_still : AreByLink wires → AreByLink back
  by_link_still is h under = ⊎_elim
      (λ (e : h ≡ link). subst (λ n. (wire_at back n).link ≡ n) (sym e) (ap (λ (w : WireState). w.link) here ∙ number ∙ is link within))
      (λ (off : h ≢ link). ap (λ (w : WireState). w.link) (away h off) ∙ is h (let size = many in omega (arith, under, size)))
      (cases_eq h link)

  known_still : (links : List ℕ) → All (λ l. l < length wires) links → All (λ l. l < length back) links
  known_still links is = subst (λ n. All (λ l. l < n) links) (sym many) is

  counted : (a b : Bool) → is_idle (wire_at wires link) ≡ a → is_idle new ≡ b → count_by is_idle back + cond a 1 0 ≡ count_by is_idle wires + cond b 1 0
  counted a b was is =
      ap (λ x. count_by is_idle back + cond x 1 0) (sym was)
      ∙ sum_by-set (λ (w : WireState). cond (is_idle w) 1 0) wires link new no_wire within
      ∙ ap (λ x. count_by is_idle wires + cond x 1 0) is

  -- over which as much is under way or as little
  pub listed_still : (links : List ℕ) (room : ℕ) → is_idle new ≡ is_idle (wire_at wires link) → AreListed wires links room → AreListed back links room
  listed_still links room same is = record {
    by_link = by_link_still is.by_link;
    known = known_still links is.known;
    listed = λ h under busy. ⊎_elim
        (λ (e : h ≡ link). subst (Contains links) (sym e) (is.listed link within (sym same ∙ ap is_idle (sym here) ∙ subst (λ n. is_idle (wire_at back n) ≡ false) e busy)))
        (λ (off : h ≢ link). is.listed h (let size = many in omega (arith, under, size)) (ap is_idle (sym (away h off)) ∙ busy))
        (cases_eq h link);
    fits = (let count = counted (is_idle (wire_at wires link)) (is_idle (wire_at wires link)) refl same in let fits = is.fits in omega (arith, count, fits));
  }

  -- over which something is under way, and nothing was
  pub listed_more : (links : List ℕ) (room : ℕ) → is_idle (wire_at wires link) ≡ true → is_idle new ≡ false → AreListed wires links room → AreListed back (links ++ link ∷ []) room
  listed_more links room was busy_now is = record {
    by_link = by_link_still is.by_link;
    known = known_still (links ++ link ∷ []) (All-push (λ l. l < length wires) links link is.known within);
    listed = λ h under busy. ⊎_elim
        (λ (e : h ≡ link). subst (Contains (links ++ link ∷ [])) (sym e) (Contains-push links link))
        (λ (off : h ≢ link). Contains-append_left links (link ∷ []) h (is.listed h (let size = many in omega (arith, under, size)) (ap is_idle (sym (away h off)) ∙ busy)))
        (cases_eq h link);
    fits = (let count = counted true false was busy_now in let fits = is.fits in let longer = length-append links (link ∷ []) in omega (arith, count, fits, longer));
  }

  -- over which nothing is under way any more
  pub listed_less : (links : List ℕ) (room : ℕ) → is_idle new ≡ true → AreListed wires (links ++ link ∷ []) room → AreListed back links room
  listed_less links room idle is = record {
    by_link = by_link_still is.by_link;
    known = known_still links (λ k d under. subst (λ l. l < length wires) (get_or_append_left links (link ∷ []) d k under) (is.known k d (let longer = length-append links (link ∷ []) in omega (arith, under, longer))));
    listed = λ h under busy. ⊎_elim
        (λ (e : h ≡ link). absurd (true≢false (sym idle ∙ ap is_idle (sym here) ∙ subst (λ n. is_idle (wire_at back n) ≡ false) e busy)))
        (λ (off : h ≢ link). ⊎_elim
        (λ (in_rest : Contains links h). in_rest)
        (λ (e : link ≡ h). absurd (off (sym e)))
        (Contains-push_cases links link h (is.listed h (let size = many in omega (arith, under, size)) (ap is_idle (sym (away h off)) ∙ busy))))
        (cases_eq h link);
    fits = (let fits = is.fits in let longer = length-append links (link ∷ []) in ⊎_elim
        (λ (was : is_idle (wire_at wires link) ≡ true). let count = counted true true was idle in omega (arith, count, fits, longer))
        (λ (was : is_idle (wire_at wires link) ≡ false). let count = counted false true was idle in omega (arith, count, fits, longer))
        (cases_Bool (is_idle (wire_at wires link))));
  }

-- the same list in other words
pub listed_as : (wires back : List WireState) (links others : List ℕ) (room roomy : ℕ) → back ≡ wires → others ≡ links → roomy ≡ room → AreListed wires links room → AreListed back others roomy
listed_as wires back links others room roomy same list size is = subst (λ n. AreListed back others n) (sym size) (subst (λ ls. AreListed back ls room) (sym list) (subst (λ ws. AreListed ws links room) (sym same) is))

module _ (wires : List WireState) (links : List ℕ) (link room : ℕ) (is : AreListed wires (links ++ link ∷ []) room) where
  pub last_known : link < length wires
  last_known = subst (λ l. l < length wires) (get_or_push links link 0 (length links) refl) (is.known (length links) 0 (let longer = length-append links (link ∷ []) in omega (arith, longer)))

  -- nothing is under way over it
  pub listed_without : is_idle (wire_at wires link) ≡ true → AreListed wires links room
  listed_without idle = subst (λ ws. AreListed ws links room) (set-get_or wires link no_wire) (listed_less wires link last_known (wire_at wires link) refl links room idle is)

idle_with : (w : WireState) (sent : List Stamped) (b : Bool) → ((length w.under_way + length sent) == 0) ≡ b → is_idle (record w { under_way = w.under_way ++ sent }) ≡ b
idle_with w sent b e = ap (λ n. n == 0) (length-append w.under_way sent) ∙ e

module _ (wires : List WireState) (links : List ℕ) (room : ℕ) (is : AreListed wires links room) (link : ℕ) (within : link < length wires) (sent : List Stamped) where
  abbrev held_more : WireState
  held_more = record (wire_at wires link) { under_way = (wire_at wires link).under_way ++ sent }

  -- the first over a link
  pub listed_first : is_idle (wire_at wires link) ≡ true → 0 < length sent → AreListed (set wires link held_more) (links ++ link ∷ []) room
  listed_first was some = listed_more wires link within held_more refl links room was (idle_with (wire_at wires link) sent false (ne_eqb (length (wire_at wires link).under_way + length sent) 0 (λ e. absurd (omega (arith, e, some))))) is

  -- none
  pub listed_none : is_idle (wire_at wires link) ≡ true → length sent ≡ 0 → AreListed (set wires link held_more) links room
  listed_none was none =
      let n = length (wire_at wires link).under_way in
      let empty : n ≡ 0 = ⊎_elim (λ (e : n ≡ 0). e) (λ (off : n ≢ 0). absurd (true≢false (sym was ∙ ne_eqb n 0 off))) (cases_eq n 0) in
      listed_still wires link within held_more refl links room (idle_with (wire_at wires link) sent true (eq-eqb (length (wire_at wires link).under_way + length sent) 0 (omega (arith, empty, none))) ∙ sym was) is

  -- behind others
  pub listed_behind : is_idle (wire_at wires link) ≡ false → AreListed (set wires link held_more) links room
  listed_behind busy =
      listed_still wires link within held_more refl links room
      (idle_with (wire_at wires link) sent false (ne_eqb (length (wire_at wires link).under_way + length sent) 0 (λ e. true≢false (sym (eq-eqb (length (wire_at wires link).under_way) 0 (omega (arith, e))) ∙ busy))) ∙ sym busy) is
