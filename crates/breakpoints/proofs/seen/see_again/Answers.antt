use Rattle.std.proofs.Common.{◌≡◌, ◌<◌, ◌+◌, ℕ, suc, false, Some, List, [], ◌∷◌, Vec, Global, length, get_or, set, sym, ap, subst, ◌∙◌, arith}
use Rattle.node_core.specs.TraceLine.{TraceLine, shown}
use Rattle.net_machine.specs.Run.{Reached, IsRun, Stepped}
use Rattle.breakpoints.specs.declared.breaks.Break.{Break}
use Rattle.breakpoints.specs.declared.seen.Seen.{Seen}
use Rattle.breakpoints.specs.Seen.{seen_in, sees_at, HasSameNodes}
use Rattle.breakpoints.proofs.Elsewhere.{seen_elsewhere, same_nodes}
use Rattle.breakpoints.proofs.States.{halves, halves_begin, halves_end, halves_at, halves_set, halves_kept}
use Rattle.breakpoints.proofs.seen.see_again.Goals.{then-is_at, else-is_at}
use Rattle.breakpoints.proofs.seen.see_again.Goals as goal

pub loop-index-init : goal.loop-index-init
loop-index-init c = halves_begin c.args.before.now.value.state c.args.net.now.state c.args.breaks.now c.args.seen.now.items c.requires.seen

module _ (before after : Reached) (line : TraceLine) (is : IsRun before) (stepped_to : Stepped before (Some line) after) where
  abbrev at_turn : List Break → ℕ → List Seen
  at_turn breaks i = halves before.state after.state breaks i

  -- one that has something at the node of the line
  again : (breaks : List Break) (i : ℕ) (d : Break) (was now : Seen) → i < length breaks → was ≡ get_or (at_turn breaks i) i was
      → (HasSameNodes was (seen_in after.state (get_or breaks i d).values) → now ≡ seen_in after.state (get_or breaks i d).values)
      → set (at_turn breaks i) i now ≡ at_turn breaks (suc i)
  again breaks i d was now within at sees =
      let values = (get_or breaks i d).values in
      let seen : was ≡ seen_in before.state values = at ∙ halves_at before.state after.state breaks i d was within in
      let nodes = subst (λ (w : Seen). HasSameNodes w (seen_in after.state values)) (sym seen) (same_nodes before after line is stepped_to values) in
      ap (set (at_turn breaks i) i) (sees nodes) ∙ halves_set before.state after.state breaks i d within

  -- and one that has nothing there
  kept : (breaks : List Break) (i : ℕ) (was : Seen) → i < length breaks → was ≡ get_or (at_turn breaks i) i was → sees_at was line.key.node ≡ false → at_turn breaks i ≡ at_turn breaks (suc i)
  kept [] i was within at none = absurd (omega (arith, within))
  kept (b ∷ breaks) i was within at none =
      let all = b ∷ breaks in
      let values = (get_or all i b).values in
      let seen : was ≡ seen_in before.state values = at ∙ halves_at before.state after.state all i b was within in
      halves_kept before.state after.state all i b within (seen_elsewhere before after line is stepped_to values (ap (λ (w : Seen). sees_at w line.key.node) (sym seen) ∙ none))

pub loop-index-preserved : goal.loop-index-preserved
loop-index-preserved c =
    let before = c.args.before.now.value in
    let after = c.args.net.now in
    let line = shown c.args.line.now in
    let breaks = c.args.breaks.now in
    let i = c.loop-index.index in
    let next : suc i ≡ i + 1 = omega arith in
    let within : i < length breaks = c.loop-index-test.true in
    elim c.if-is_at.branch [
      | then-is_at w ↦
          ap (λ (v : Vec Seen Global). v.items) w.seen-is
          ∙ ap (λ (l : List Seen). set l i w.seen_again-again.result) c.loop-index.invariant
          ∙ again before after line c.requires.is_run c.requires.stepped breaks i _ w.index-then-is_at.result.now w.seen_again-again.result within (w.index-then-is_at.ensures ∙ ap (λ (l : List Seen). get_or l i w.index-then-is_at.result.now) c.loop-index.invariant) w.seen_again-again.ensures
          ∙ ap (halves before.state after.state breaks) next
      | else-is_at w ↦
          ap (λ (v : Vec Seen Global). v.items) w.seen-is
          ∙ c.loop-index.invariant
          ∙ kept before after line c.requires.is_run c.requires.stepped breaks i c.index.result.now within (c.index.ensures ∙ ap (λ (l : List Seen). get_or l i c.index.result.now) c.loop-index.invariant) (sym c.is_at.ensures ∙ w.if-is_at.false)
          ∙ ap (halves before.state after.state breaks) next
    ]

pub returns : goal.returns
returns c = halves_end c.args.before.now.value.state c.args.net.now.state c.args.breaks.now c.loop-index.seen.items c.loop-index.index (let end = c.loop-index.auto.index-end in let not = c.loop-index-test.false in omega (arith, end, not)) c.loop-index.invariant
