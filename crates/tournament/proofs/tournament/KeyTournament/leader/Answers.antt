use Rattle.std.proofs.Common.{◌≡◌, ◌<◌, ℕ, Bool, true, false, List, [], ◌∷◌, None, refl, sym, ap, subst, ◌∙◌, length, arith}
use Rattle.std.proofs.lemmas.List.{get_or_read}
use Rattle.std.specs.Prelude.{slice_index}
use Rattle.tournament.specs.declared.entry.Entry.{Entry}
use Rattle.tournament.specs.Leading.{rank_at, Leads}
use Rattle.tournament.specs.Tournament.{no_entry, entry_of_place, ranks_of}
use Rattle.tournament.proofs.Winners.{leads_root, none_ranked}
use Rattle.tournament.proofs.tournament.KeyTournament.leader.Goals as goal

some_leaf : (leaves : List Entry) → (((place : ℕ) → rank_at (ranks_of leaves) place ≡ None) → ⊥) → 0 < length leaves
some_leaf [] some = absurd (some (λ place. refl))
some_leaf (leaf ∷ leaves) some = omega arith

not_false : (b : Bool) → (b ≡ false → ⊥) → b ≡ true
not_false true is = refl
not_false false is = absurd (is refl)

pub returns : goal.returns
returns c =
    let leaves = c.self.inside.leaves.items in
    let winners = c.self.inside.winners.items in
    let t = c.self.invariant in
    let ranked : ((place : ℕ) → rank_at (ranks_of leaves) place ≡ None) → ⊥ = λ none. c.requires (λ place. ap (λ ranks. rank_at ranks place) (sym c.self.view_is) ∙ none place) in
    let some : 0 < length leaves = some_leaf leaves ranked in
    let place : c.index.result.now ≡ slice_index winners 1 = get_or_read winners 1 c.index.result.now (omega (arith, some, t.size)) c.index.ensures 0 in
    let within : c.index.result.now < length leaves = subst (λ p. p < length leaves) (sym place) (t.within 1 (omega (arith, some, t.size))) in
    let leaf : c.index-leaf.result.now ≡ entry_of_place leaves (slice_index winners 1) = get_or_read leaves c.index.result.now c.index-leaf.result.now within c.index-leaf.ensures no_entry ∙ ap (entry_of_place leaves) place in
    let held = not_false (entry_of_place leaves (slice_index winners 1)).held (λ none. ranked (none_ranked leaves c.self.inside.moments.items winners t none)) in
    subst (λ ranks. Leads ranks c.index.result.now c.index-leaf.result.now.key) c.self.view_is
    (subst (λ p. Leads (ranks_of leaves) p c.index-leaf.result.now.key) (sym place)
    (subst (λ (s : Entry). Leads (ranks_of leaves) (slice_index winners 1) s.key) (sym leaf) (leads_root leaves c.self.inside.moments.items winners t some held)))
