use Rattle.std.proofs.Common.{◌<◌, ◌^◌, ◌∷◌, [], length-append, get_or, refl, sym, arith}
use Rattle.std.proofs.lemmas.List.Elements.{All-append, All-cons, All-nil}
use Rattle.figures.proofs.Counts.{class_more, greatest_more}
use Rattle.figures.proofs.Doublings.{each_doubling}
use Rattle.figures.proofs.tally.Tally.note_zero.Goals as goal

pub returns-clause-tally : goal.returns-clause-tally
returns-clause-tally c = λ xs is. record {
  each = λ whole class some under. let count = get_or c.args.self.now.counts.items class 0 in
      class_more xs count count 0 0 class (sym (each_doubling.0 0 (omega arith))) (λ none. absurd (omega (arith, some, none))) (λ other. refl) (is.each whole class some under);
  count_is = (let many = is.count_is in let more = length-append xs (0 ∷ []) in omega (arith, many, more));
  greatest_is = (let most = is.greatest_is in let more = greatest_more xs 0 in omega (arith, most, more));
  below = All-append (λ x. x < 2 ^ 50) xs (0 ∷ []) is.below (All-cons (λ x. x < 2 ^ 50) 0 [] (omega arith) (All-nil (λ x. x < 2 ^ 50)));
}
