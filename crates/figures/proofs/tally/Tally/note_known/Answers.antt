use Rattle.std.proofs.Common.{◌≡◌, ◌<◌, ◌+◌, ◌^◌, ◌∷◌, [], length, length-append, arith, get_or, set, sym, ap, subst, ◌∙◌}
use Rattle.std.specs.Prelude.{max}
use Rattle.std.proofs.lemmas.List.{get_or_read, get_or-set_same, get_or-set_other}
use Rattle.std.proofs.lemmas.List.Elements.{All-append, All-cons, All-nil}
use Rattle.figures.proofs.Counts.{class_more, greatest_more}
use Rattle.figures.proofs.tally.Tally.note_known.Goals as goal

pub returns-clause-tally : goal.returns-clause-tally
returns-clause-tally c = λ xs is. record {
  each = λ whole class some under.
      let counts = c.args.self.now.counts.items in
      let at = c.class_of-class.result in
      let within : at < length counts = subst (λ k. k < length counts) (sym c.class_of-class.ensures.class) c.requires.known in
      let read = get_or_read counts at c.index_mut.result.now within c.index_mut.ensures.value 0 in
      let one : get_or (set counts at (c.index_mut.result.now + 1)) at 0 ≡ get_or counts at 0 + 1 = get_or-set_same counts at (c.index_mut.result.now + 1) 0 within ∙ ap (λ n. n + 1) read in
      class_more xs (get_or counts class 0) (get_or (set counts at (c.index_mut.result.now + 1)) class 0) c.args.value at class c.class_of-class.ensures.class
      (λ same. ap (λ i. get_or (set counts at (c.index_mut.result.now + 1)) i 0) same ∙ one ∙ ap (λ i. get_or counts i 0 + 1) (sym same)) (λ other. get_or-set_other counts at class (c.index_mut.result.now + 1) 0 other)
      (is.each whole class some under);
  count_is = (let many = is.count_is in let more = length-append xs (c.args.value ∷ []) in omega (arith, many, more));
  greatest_is = c.raise.ensures ∙ ap (λ n. max n c.args.value) is.greatest_is ∙ sym (greatest_more xs c.args.value);
  below = All-append (λ x. x < 2 ^ 50) xs (c.args.value ∷ []) is.below (All-cons (λ x. x < 2 ^ 50) c.args.value [] c.requires.value (All-nil (λ x. x < 2 ^ 50)));
}
