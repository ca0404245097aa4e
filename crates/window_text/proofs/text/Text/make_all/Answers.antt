use Rattle.std.proofs.Common.{◌++◌, [], ◌∷◌, All, List, ap, arith, length, set, subst, sym, ◌∙◌}
use Rattle.window_text.specs.declared.text.TextPlace.{TextPlace}
use Rattle.window_text.specs.Parts.{IsInside, text_of}
use Rattle.window_text.proofs.Parted.{first_inside, first_text}
use Rattle.window_text.proofs.text.Text.make_all.Goals as goal

pub returns : goal.returns
returns c =
    let s = c.args.sheaf.now in
    let ss = c.need_one.new.formatters.items in
    let formatter = c.make_all.new.self in
    let part = c.in_ok-part.part in
    let made = c.in_ok-part.ensures in
    let some = c.in_ok-need_one.ensures in
    let news = set ss 0 formatter in
    let place : TextPlace = record { formatter = 0; part = part } in
    let items = c.in_ok-push.ensures.items ∙ ap (λ (l : List TextPlace). l ++ place ∷ []) c.clear.ensures.items in
    record {
      ready = record { inside = subst (All (IsInside news)) (sym items) (first_inside s ss formatter part some made.part); few = omega (arith, ap length items) };
      is = ap (text_of news) items ∙ first_text s ss formatter part some made.part made.from made.count;
    }
