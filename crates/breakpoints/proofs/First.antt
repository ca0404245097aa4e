-- The first breakpoint that matches a line.
use Rattle.std.proofs.Common.{◌≡◌, ◌<◌, ◌≤◌, ◌+◌, ◌∙◌, ℕ, List, ◌∷◌, ◌++◌, Bool, true, false, true≢false, length, length-append, take, drop, get_or, sym, ap, subst, arith, Option, None, Some}
use Rattle.std.specs.Prelude.{◌↔◌, IsTrue, is_some}
use Rattle.std.proofs.Math.Seq.{get_or-append_seam}
use Rattle.std.proofs.lemmas.List.{drop_more, length-take-le, take-append-drop, get_or-take}
use Rattle.node_core.specs.TraceLine.{TraceLine}
use Rattle.table_run.specs.State.{State}
use Rattle.breakpoints.specs.declared.breaks.Break.{Break}
use Rattle.breakpoints.specs.declared.breaks.Hit.{Hit}
use Rattle.breakpoints.specs.declared.seen.Seen.{Seen}
use Rattle.breakpoints.specs.Seen.{seen_in}
use Rattle.breakpoints.specs.Breaks.{Matches, IsHit, HitsFirst, IsFirstHit}

module _ (breaks : List Break) (old : State) (line : TraceLine) (new : State) where
  -- none of the first so many matches
  abbrev pub NoneOfFirst : ℕ → Type 0
  NoneOfFirst n = (k : ℕ) (d : Break) → k < n → Matches (get_or breaks k d) old line new → ⊥

  pub hits_first : (i : ℕ) (b : Break) (w : Seen) → i < length breaks → b ≡ get_or breaks i b → w ≡ seen_in old b.values → NoneOfFirst i → Matches b old line new → HitsFirst breaks old line new (record { number = i + 1; breakpoint = b; was = w.change.value })
  hits_first i b w within value sees none hit =
      let here : drop i breaks ≡ b ∷ drop (i + 1) breaks = drop_more breaks i b within ∙ ap (λ x. x ∷ drop (i + 1) breaks) (sym value) in
      let size : length (take i breaks) ≡ i = length-take-le i breaks (omega (arith, within)) in
      record {
        before = take i breaks;
        after = drop (i + 1) breaks;
        parted = sym (take-append-drop i breaks) ∙ ap (λ l. take i breaks ++ l) here;
        at = omega (arith, size);
        was = ap (λ (x : Seen). x.change.value) sees;
        missed = λ has.
            let under : has.0 < i = omega (arith, has.2, size) in
            none has.0 has.1 under (subst (λ (c : Break). Matches c old line new) (sym (sym (get_or-take i breaks has.0 has.1 under) ∙ has.3)) has.4);
        matches = hit;
      }

  pub hits_none : (n : ℕ) → length breaks ≤ n → NoneOfFirst n → ¬ IsHit breaks old line new
  hits_none n all none = λ has. none has.0 has.1 (omega (arith, has.2, all)) (subst (λ (c : Break). Matches c old line new) (sym has.3) has.4)

  -- one matches where there is a first
  pub is_hit : (first : Option Hit) (found : Bool) → found ≡ is_some first → IsFirstHit breaks old line new first → IsTrue found ↔ IsHit breaks old line new
  is_hit None found is none = (λ t. absurd (true≢false (sym t ∙ is)), λ has. absurd (none has))
  is_hit (Some hit) found is first = (
    λ _.
        let b = hit.breakpoint in
        let size = ap length first.parted ∙ length-append first.before (b ∷ first.after) in
        let here = ap (λ l. get_or l (length first.before) b) first.parted ∙ get_or-append_seam first.before b first.after b in
        (length first.before, b, omega (arith, size), here, first.matches),
    λ _. is,
  )
