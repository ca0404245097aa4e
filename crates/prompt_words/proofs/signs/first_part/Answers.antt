use Rattle.std.proofs.Common.{◌≡◌, ◌∷◌, ◌∙◌, ◌-◌, take, drop, length, sym, ap, arith}
use Rattle.std.proofs.lemmas.List.{take_all, length-drop}
use Rattle.prompt_words.specs.Signs.{parts_of_word}
use Rattle.prompt_words.proofs.Parting.{parts_first}
use Rattle.prompt_words.proofs.signs.first_part.Goals as goal

pub returns : goal.returns
returns c =
    let word = c.args.word.now in
    let end = c.first_length-end.result in
    let all : take (length word - end) (drop end word) ≡ drop end word = take_all (length word - end) (drop end word) (omega (arith, length-drop end word)) in
    parts_first word c.requires ∙ ap (λ n. take n word ∷ parts_of_word (drop n word)) (sym c.first_length-end.ensures.value) ∙ ap (λ l. take end word ∷ parts_of_word l) (sym all)
