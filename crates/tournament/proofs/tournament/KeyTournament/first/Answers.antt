use Rattle.std.proofs.Common.{◌≡◌, ◌<◌, sym, ap, subst, ◌∙◌, length, arith}
use Rattle.std.proofs.lemmas.Bool.Decides.{nat_tests}
use Rattle.std.proofs.lemmas.List.{get_or_read}
use Rattle.std.specs.Prelude.{slice_index, vec_len}
use Rattle.tournament.specs.declared.entry.Entry.{Entry}
use Rattle.tournament.specs.Leading.{rank_at, Leads}
use Rattle.tournament.specs.Tournament.{no_entry, entry_of_place, ranks_of}
use Rattle.tournament.proofs.Winners.{leads_root, none_ranked}
use Rattle.tournament.proofs.tournament.KeyTournament.first.Goals as goal

pub returns-then-leaf : goal.returns-then-leaf
returns-then-leaf c =
    let leaves = c.self.inside.leaves.items in
    let winners = c.self.inside.winners.items in
    let t = c.self.invariant in
    let positive : 0 < vec_len c.self.inside.leaves = grind (arith, nat_tests) in
    let some : 0 < length leaves = omega (arith, positive, c.self.inside.leaves.ok.0) in
    let place : c.index.result.now ≡ slice_index winners 1 = get_or_read winners 1 c.index.result.now (omega (arith, some, t.size)) c.index.ensures 0 in
    let within : c.index.result.now < length leaves = subst (λ p. p < length leaves) (sym place) (t.within 1 (omega (arith, some, t.size))) in
    let leaf : c.index-leaf.result.now ≡ entry_of_place leaves (slice_index winners 1) = get_or_read leaves c.index.result.now c.index-leaf.result.now within c.index-leaf.ensures no_entry ∙ ap (entry_of_place leaves) place in
    subst (λ ranks. Leads ranks c.index.result.now c.index-leaf.result.now.key) c.self.view_is
    (subst (λ p. Leads (ranks_of leaves) p c.index-leaf.result.now.key) (sym place)
    (subst (λ (s : Entry). Leads (ranks_of leaves) (slice_index winners 1) s.key) (sym leaf) (leads_root leaves c.self.inside.moments.items winners t some (ap (λ (s : Entry). s.held) (sym leaf) ∙ c.if-leaf.true))))

pub returns-else-leaf : goal.returns-else-leaf
returns-else-leaf c = λ place.
    let leaves = c.self.inside.leaves.items in
    let winners = c.self.inside.winners.items in
    let t = c.self.invariant in
    let positive : 0 < vec_len c.self.inside.leaves = grind (arith, nat_tests) in
    let some : 0 < length leaves = omega (arith, positive, c.self.inside.leaves.ok.0) in
    let number : c.index.result.now ≡ slice_index winners 1 = get_or_read winners 1 c.index.result.now (omega (arith, some, t.size)) c.index.ensures 0 in
    let within : c.index.result.now < length leaves = subst (λ p. p < length leaves) (sym number) (t.within 1 (omega (arith, some, t.size))) in
    let leaf : c.index-leaf.result.now ≡ entry_of_place leaves (slice_index winners 1) = get_or_read leaves c.index.result.now c.index-leaf.result.now within c.index-leaf.ensures no_entry ∙ ap (entry_of_place leaves) number in
    ap (λ ranks. rank_at ranks place) (sym c.self.view_is) ∙ none_ranked leaves c.self.inside.moments.items winners t (ap (λ (s : Entry). s.held) (sym leaf) ∙ c.if-leaf.false) place
