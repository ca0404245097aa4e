use Rattle.std.proofs.Common.{◌<◌, ◌+◌, ◌^◌, ◌∷◌, [], length-append, arith, get_or, sym, ap, ◌∙◌}
use Rattle.std.specs.Prelude.{max}
use Rattle.std.proofs.lemmas.List.Elements.{All-append, All-cons, All-nil}
use Rattle.figures.proofs.Counts.{class_more, greatest_more}
use Rattle.figures.proofs.tally.Tally.note_first.Goals as goal

pub returns-clause-tally : goal.returns-clause-tally
returns-clause-tally c = λ xs is. record {
  each = λ whole class some under.
      class_more xs (get_or c.args.self.now.counts.items class 0) (get_or c.count_first.new.counts.items class 0) c.args.value c.class_of-class.result class c.class_of-class.ensures.class
      (λ same. ap (λ i. get_or c.count_first.new.counts.items i 0) same ∙ c.count_first.ensures.here whole ∙ ap (λ i. get_or c.args.self.now.counts.items i 0 + 1) (sym same)) (c.count_first.ensures.others class)
      (is.each (c.count_first.ensures.before whole) class some under);
  count_is = (let many = is.count_is in let more = length-append xs (c.args.value ∷ []) in omega (arith, many, more));
  greatest_is = c.raise.ensures ∙ ap (λ n. max n c.args.value) is.greatest_is ∙ sym (greatest_more xs c.args.value);
  below = All-append (λ x. x < 2 ^ 50) xs (c.args.value ∷ []) is.below (All-cons (λ x. x < 2 ^ 50) c.args.value [] c.requires.value (All-nil (λ x. x < 2 ^ 50)));
}
