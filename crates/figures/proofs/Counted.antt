-- What is counted of a link by the acts of an event, where these are at it.
use Rattle.std.proofs.Common.{◌≡◌, ◌≢◌, ℕ, ◌-◌, false, cond, not, nat_lt, List, [], sym, ap, subst, ◌∙◌, refl, Option, Some, None, true≢false}
use Rattle.port.specs.declared.acts.Act.{Act}
use Rattle.port.specs.Port.{PortState}
use Rattle.node_core.specs.declared.event.Event.{Event}
use Rattle.node_core.specs.declared.event.Event.TheVariants.{Start, Rto, DelAck, Free, Arrive}
use Rattle.node_core.specs.TraceLine.{TraceLine}
use Rattle.figures.specs.declared.link.LinkFigures.{LinkFigures}
use Rattle.figures.specs.Links.{frees, is_free, tx_in, acts_between, wait_by, IsLinkCounted, IsLinkAfter}

-- an event that frees no link frees not this one
pub unfreed : (link : ℕ) (v : Event) → is_free v ≡ false → frees link v ≡ false
unfreed link (Start flow) none = refl
unfreed link (Rto flow) none = refl
unfreed link (DelAck flow) none = refl
unfreed link (Free number) none = absurd (true≢false none)
unfreed link (Arrive packet) none = refl

module _ (f g : LinkFigures) (port : PortState) (line : TraceLine) (acts : List Act) (are : acts ≡ line.acts) where
  both : (wait : Option ℕ) → acts ≡ acts_between f.offered port line → wait ≡ wait_by f.offered port line f.next_entry → IsLinkCounted f port line.key.time acts wait g → IsLinkAfter f port line g
  both wait acts_are wait_is is =
      subst (λ w. IsLinkCounted f port line.key.time (acts_between f.offered port line) w g) wait_is (subst (λ (xs : List Act). IsLinkCounted f port line.key.time xs wait g) acts_are is)

  -- nothing is sent
  none_sent : acts ≡ acts_between f.offered port line → acts ≡ [] → IsLinkCounted f port line.key.time [] None g → IsLinkAfter f port line g
  none_sent at empty is =
      both None at (ap (λ n. cond (nat_lt 0 n) (Some (cond (frees port.link line.event) (line.key.time - f.next_entry) 0)) None) (ap tx_in (sym empty) ∙ ap tx_in at))
      (subst (λ (xs : List Act). IsLinkCounted f port line.key.time xs None g) (sym empty) is)
  -- the event frees the link
  -- it frees none, and offers packets to the link
