use Rattle.std.proofs.Common.{◌++◌, ◌∙◌, ℕ, List, ap, append_assoc, codes, decimal}
use Rattle.debug_session.proofs.typed_move.append_place.Goals as goal

pub returns : goal.returns
returns c =
    let out = c.args.out.now.items in
    let position = decimal c.args.position in
    let behind = decimal c.args.time ++ c.end_words.result.now in
    c.in_ok-append_counted-2.ensures
    ∙ ap (λ (l : List ℕ). l ++ behind) c.in_ok-append_counted.ensures
    ∙ append_assoc out (codes "at " ++ (position ++ codes " of the run, time ")) behind
    ∙ ap (λ (l : List ℕ). out ++ (codes "at " ++ l)) (append_assoc position (codes " of the run, time ") behind)
    ∙ ap (λ (words : List ℕ). out ++ (codes "at " ++ (position ++ (codes " of the run, time " ++ (decimal c.args.time ++ words))))) c.end_words.ensures
