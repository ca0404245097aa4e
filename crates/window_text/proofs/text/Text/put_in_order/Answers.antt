use Rattle.std.proofs.Common.{[], ◌∷◌, All, List, ap, arith, length, length-append, subst, sym, ◌∙◌}
use Rattle.std.proofs.lemmas.List.Elements.{All-nil, All-push}
use Rattle.window_text.specs.declared.formatter.TextFormatter.{TextFormatter}
use Rattle.window_text.specs.Parts.{IsInside, IsPlaceAt, text_of}
use Rattle.window_text.proofs.Parted.{text_up_to}
use Rattle.window_text.proofs.text.Text.put_in_order.Goals as goal

pub loop-init : goal.loop-init
loop-init c =
    let ss = c.args.self.now.formatters.items in
    let empty = c.clear.ensures.items in
    (c.requires.right, subst (All (IsInside ss)) (sym empty) (All-nil (IsInside ss)), omega (arith, ap length empty), omega arith, ap (text_of ss) empty)

pub overflow_add-at : goal.overflow_add-at
overflow_add-at c =
    let is = subst (λ (ss : List TextFormatter). IsPlaceAt c.args.sheaf.now ss c.loop.at c.in-Some.place) c.as_slice.ensures.value c.in-Some.ensures in
    let within = is.within in
    omega (arith, within, c.len-lines.ensures, c.len-lines.type_inv)

pub loop-preserved : goal.loop-preserved
loop-preserved c =
    let was = c.loop.invariant in
    let s = c.args.sheaf.now in
    let ss = c.loop.self.formatters.items in
    let places = c.loop.self.places.items in
    let is : IsPlaceAt s ss c.loop.at c.in-Some.place = subst (λ (l : List TextFormatter). IsPlaceAt s l c.loop.at c.in-Some.place) c.as_slice.ensures.value c.in-Some.ensures in
    let items = c.in_ok-push.ensures.items in (
      was.0,
      subst (All (IsInside ss)) (sym items) (All-push (IsInside ss) places c.in-Some.place was.1 is.inside),
      omega (arith, was.2, ap length items, length-append places (c.in-Some.place ∷ [])),
      is.within,
      ap (text_of ss) items ∙ text_up_to s ss places c.loop.at c.in-Some.place was.4 is,
    )
