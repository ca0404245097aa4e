use Rattle.std.proofs.Common.{◌≡◌, ◌+◌, ◌/◌, ◌<◌, List, length, set, sym, ap, ◌∙◌, subst, rules, arith}
use Rattle.std.proofs.lemmas.List.{length-map, length-set, with_items_is}
use Rattle.std.specs.Vec.{with_items}
use Rattle.tournament.specs.declared.entry.Entry.{Entry}
use Rattle.tournament.specs.Tournament.{rank_of, ranks_of, moment_of, entry_of_place, AreOwn, AreWithin, AllWon, IsTournament}
use Rattle.tournament.specs.Replayed.{WonBut}
use Rattle.tournament.proofs.Replays.{changed, tournament_anew, ranks_anew}
use Rattle.tournament.proofs.tournament.KeyTournament.put.Goals as goal

pub matches_above-requires-clause-won : goal.matches_above-requires-clause-won
matches_above-requires-clause-won c =
    let t = c.self.invariant in
    let old = c.self.inside.leaves.items in
    let place = c.args.place in
    let anew : List Entry → List Entry = λ l. set l place (record { key = c.args.key; place = (entry_of_place l place).place; held = c.args.held }) in
    let entry : Entry = record { key = c.args.key; place = (entry_of_place old place).place; held = c.args.held } in
    subst (λ l. WonBut (anew l) c.deref_mut.result.now ((length (anew l) + place) / 2)) (sym c.deref_mut-leaves.ensures.value)
    (subst (λ w. WonBut (set old place entry) w ((length (set old place entry) + place) / 2)) (sym c.deref_mut.ensures.value)
    (changed old c.self.inside.winners.items place t.size t.own t.won entry ((length (set old place entry) + place) / 2) (ap (λ n. (n + place) / 2) (length-set old place entry))))

pub invariant_of-self : goal.invariant_of-self
invariant_of-self c =
    let t = c.self.invariant in
    let old = c.self.inside.leaves.items in
    let moments = c.self.inside.moments.items in
    let moment = c.moment_of-moment.result in
    let place = c.args.place in
    let anew : List Entry → List Entry = λ l. set l place (record { key = c.args.key; place = (entry_of_place l place).place; held = c.args.held }) in
    let entry : Entry = record { key = c.args.key; place = (entry_of_place old place).place; held = c.args.held } in
    let here = c.deref_mut-leaves.result.now in
    let is : here ≡ old = c.deref_mut-leaves.ensures.value in
    let within : place < length old = subst (λ n. place < n) (ap length (sym c.self.view_is) ∙ length-map old rank_of) c.requires in
    let number = t.numbered place within in
    let dated : moment ≡ moment_of c.args.key.time c.args.key.node entry.place c.args.held = c.moment_of-moment.ensures ∙ ap (λ p. moment_of c.args.key.time c.args.key.node p c.args.held) (sym number) in
    let before = c.self.inside.winners in
    let after = c.matches_above.new.winners in
    let same : length after ≡ length c.deref_mut.result.now = search rules in
    let len : length after ≡ before.len = same ∙ ap length c.deref_mut.ensures.value ∙ omega (arith, before.ok.0) in
    let many : length (anew here) ≡ c.self.inside.leaves.len = length-set here place (record { key = c.args.key; place = (entry_of_place here place).place; held = c.args.held }) ∙ ap length is ∙ omega (arith, c.self.inside.leaves.ok.0) in
    let all : IsTournament (set old place entry) (set moments place moment) after =
    tournament_anew old moments before.items place entry moment after t number dated (same ∙ ap length c.deref_mut.ensures.value)
    (subst (λ l. AreWithin (length (anew l)) after) is c.matches_above.ensures.within) (subst (λ l. AreOwn (length (anew l)) after) is c.matches_above.ensures.own) (subst (λ l. AllWon (anew l) after) is c.matches_above.ensures.won) in
    subst (λ l. IsTournament l (set moments place moment) (with_items before after).items) (sym (with_items_is c.self.inside.leaves (anew here) many))
    (subst (IsTournament (anew here) (set moments place moment)) (sym (with_items_is before after len)) (subst (λ l. IsTournament (anew l) (set moments place moment) after) (sym is) all))

pub returns : goal.returns
returns c =
    let old = c.self.inside.leaves.items in
    let place = c.args.place in
    let anew : List Entry → List Entry = λ l. set l place (record { key = c.args.key; place = (entry_of_place l place).place; held = c.args.held }) in
    let here = c.deref_mut-leaves.result.now in
    let is : here ≡ old = c.deref_mut-leaves.ensures.value in
    let many : length (anew here) ≡ c.self.inside.leaves.len = length-set here place (record { key = c.args.key; place = (entry_of_place here place).place; held = c.args.held }) ∙ ap length is ∙ omega (arith, c.self.inside.leaves.ok.0) in
    ap ranks_of (with_items_is c.self.inside.leaves (anew here) many ∙ ap anew is) ∙ ranks_anew old place (record { key = c.args.key; place = (entry_of_place old place).place; held = c.args.held })
    ∙ ap (λ r. set r place (rank_of (record { key = c.args.key; place = (entry_of_place old place).place; held = c.args.held }))) c.self.view_is
