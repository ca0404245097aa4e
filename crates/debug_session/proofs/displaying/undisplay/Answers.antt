use Rattle.std.proofs.Common.{◌≡◌, ◌<◌, List, length, get_or, refl, ap, arith, subst}
use Rattle.prompt_words.specs.declared.display.DisplayItem.{DisplayItem}
use Rattle.prompt_words.specs.Numbered.{HasNumber}
use Rattle.debug_session.proofs.displaying.undisplay.Goals as goal

pub returns-in-None : goal.returns-in-None
returns-in-None c = λ now. (refl, subst (λ (items : List DisplayItem). ¬ HasNumber items c.args.number) c.as_slice.ensures.value c.in-None.ensures)

pub remove-taken-requires : goal.remove-taken-requires
remove-taken-requires c = let same = ap length c.as_slice.ensures.value in omega (arith, same, c.as_slice.ensures.len, c.in-Some.ensures.1)

pub returns-in-Ok : goal.returns-in-Ok
returns-in-Ok c = λ now.
    let item = c.in-Some.item in
    record {
      index = c.in-Some.index;
      item = item;
      number = c.in-Some.ensures.0;
      within = subst (λ (items : List DisplayItem). c.in-Some.index < length items) c.as_slice.ensures.value c.in-Some.ensures.1;
      there = subst (λ (items : List DisplayItem). get_or items c.in-Some.index item ≡ item) c.as_slice.ensures.value c.in-Some.ensures.2;
      left = c.remove-taken.ensures.items;
      reported = c.in-Ok.ensures;
    }

pub returns-in-Err : goal.returns-in-Err
returns-in-Err c = λ now. (refl, tt)
