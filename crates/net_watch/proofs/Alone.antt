-- What two watchers have become, where one of them always goes on.
use Rattle.std.proofs.Common.{◌≡◌, ◌∙◌, ◌&&◌, Bool, true, false, refl, sym, ap, subst}
use Rattle.net_watch.specs.BothHave.{BothHave}

and_true : (b : Bool) → (b && true) ≡ b
and_true true = refl
and_true false = refl

pub first_alone : (one other : Bool → Type 0) (on : Bool) → BothHave one other on → ((b : Bool) → other b → b ≡ true) → one on
first_alone one other on h goes = subst one (sym (h.both ∙ ap (λ b. h.first && b) (goes h.second h.second_has) ∙ and_true h.first)) h.first_has

pub second_alone : (one other : Bool → Type 0) (on : Bool) → BothHave one other on → ((b : Bool) → one b → b ≡ true) → other on
second_alone one other on h goes = subst other (sym (h.both ∙ ap (λ b. b && h.second) (goes h.first h.first_has))) h.second_has
