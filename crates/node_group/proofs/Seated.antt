-- What is seated at a number, and after a node took its seat.
use Rattle.std.proofs.Common.{◌≡◌, ℕ, zero, suc, ◌+◌, ◌<◌, [], ◌∷◌, length, set, get_or, refl, sym, ap, ◌∙◌, Some, None, Option, is_some, arith}
use Rattle.std.specs.Option.{unwrap_or}
use Rattle.node_core.specs.Node.{NodeState}
use Rattle.net_machine.specs.Nodes.{node_at}
use Rattle.node_group.specs.Seats.{Seats, absent, seated_from, seated, taken_nodes}

pub length-seated_from : (n : ℕ) (seats : Seats) → length (seated_from n seats) ≡ length seats
length-seated_from n [] = refl
length-seated_from n (s ∷ seats) = ap suc (length-seated_from (n + 1) seats)

pub length-seated : (seats : Seats) → length (seated seats) ≡ length seats
length-seated seats = length-seated_from 0 seats

seated_from_at : (n : ℕ) (seats : Seats) (i : ℕ) → i < length seats → node_at (seated_from n seats) i ≡ unwrap_or (get_or seats i None) (absent (n + i))
seated_from_at n [] i under = absurd (omega (arith, under))
seated_from_at n (s ∷ seats) zero under = let e : n ≡ n + 0 = omega arith in ap (λ m. unwrap_or s (absent m)) e
seated_from_at n (s ∷ seats) (suc i) under =
    let e : n + 1 + i ≡ n + suc i = omega arith in
    seated_from_at (n + 1) seats i (omega (arith, under)) ∙ ap (λ m. unwrap_or (get_or seats i None) (absent m)) e

pub seated_at : (seats : Seats) (i : ℕ) → i < length seats → node_at (seated seats) i ≡ unwrap_or (get_or seats i None) (absent i)
seated_at seats i under = let e : 0 + i ≡ i = omega arith in seated_from_at 0 seats i under ∙ ap (λ m. unwrap_or (get_or seats i None) (absent m)) e

seated_from_set : (n : ℕ) (seats : Seats) (i : ℕ) (x : NodeState) → seated_from n (set seats i (Some x)) ≡ set (seated_from n seats) i x
seated_from_set n [] i x = refl
seated_from_set n (s ∷ seats) zero x = refl
seated_from_set n (s ∷ seats) (suc i) x = ap (λ rest. unwrap_or s (absent n) ∷ rest) (seated_from_set (n + 1) seats i x)

pub seated_set : (seats : Seats) (i : ℕ) (x : NodeState) → seated (set seats i (Some x)) ≡ set (seated seats) i x
seated_set seats i x = seated_from_set 0 seats i x

-- a seat that is taken stays so
pub taken_set : (seats : Seats) (i : ℕ) (x y : NodeState) → get_or seats i None ≡ Some y → taken_nodes (set seats i (Some x)) ≡ taken_nodes seats
taken_set [] i x y e = refl
taken_set (s ∷ seats) zero x y e = ap (λ (o : Option NodeState). is_some o ∷ taken_nodes seats) (sym e)
taken_set (s ∷ seats) (suc i) x y e = ap (λ rest. is_some s ∷ rest) (taken_set seats i x y e)

-- who is seated where there is not nobody
pub is_seated : (seats : Seats) (i : ℕ) → i < length seats → (get_or seats i None ≡ None → ⊥) → (x : NodeState) × ((get_or seats i None ≡ Some x) × (node_at (seated seats) i ≡ x))
is_seated seats i under off = by (get_or seats i None) refl
  where
    by : (o : Option NodeState) → get_or seats i None ≡ o → (x : NodeState) × ((get_or seats i None ≡ Some x) × (node_at (seated seats) i ≡ x))
    by None e = absurd (off e)
    by (Some x) e = (x, (e, seated_at seats i under ∙ ap (λ (o : Option NodeState). unwrap_or o (absent i)) e))

-- nobody there: no link, nothing pending
pub nobody : (seats : Seats) (i : ℕ) → i < length seats → get_or seats i None ≡ None → node_at (seated seats) i ≡ absent i
nobody seats i under e = seated_at seats i under ∙ ap (λ (o : Option NodeState). unwrap_or o (absent i)) e
