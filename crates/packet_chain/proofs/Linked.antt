-- What stays linked where nodes come and go.
use Rattle.std.proofs.Common.{◌≡◌, ℕ, ◌<◌, List, [], ◌∷◌, ◌++◌, length, Some, zero, suc, refl, sym, ap, ◌∙◌, arith}
use Rattle.std.proofs.lemmas.Bool.{false≢true}
use Rattle.std.specs.Prelude.{slice_get, drop, unwrap_or, is_some}
use base.Stored.{Coded-set}
use denote.RawPtr.{Ptr, null_ptr, coded_ptr}
use Rattle.packet_chain.specs.declared.node.ChainNode.{ChainNode}
use Rattle.packet_chain.specs.Links.{Link, stamped_of, stamped_in, place_of, IsLinked}
use mathlib.Core.Logic.{∥∥₁_elim}

same : (p q : Ptr) → IsProp (p ≡ q)
same p q = Coded-set coded_ptr p q

IsLinked-prop : (h t : Ptr) (ls : List Link) → IsProp (IsLinked h t ls)
IsLinked-prop h t [] = λ a b i. (same h null_ptr a.0 b.0 i, same t null_ptr a.1 b.1 i)
IsLinked-prop h t (l ∷ []) = λ a b i. (same h l.0 a.0 b.0 i, same t l.0 a.1 b.1 i)
IsLinked-prop h t (l ∷ m ∷ ls) = λ a b i. (same h l.0 a.0 b.0 i, IsLinked-prop l.1.next t (m ∷ ls) a.1 b.1 i)

-- the fact that a chain keeps
pub IsLinked-had : (h t : Ptr) (ls : List Link) → ∥ IsLinked h t ls ∥₁ → IsLinked h t ls
IsLinked-had h t ls c = ∥∥₁_elim c (IsLinked-prop h t ls) (λ p. p)

-- head leads to the first node
pub head_is : (h t : Ptr) (ls : List Link) → IsLinked h t ls → h ≡ place_of ls 0
head_is h t [] c = c.0
head_is h t (l ∷ []) c = c.0
head_is h t (l ∷ m ∷ ls) c = c.0

-- without the first node, its `next` leads to the others
pub IsLinked-tail : (h t : Ptr) (l : Link) (ls : List Link) → 0 < length ls → IsLinked h t (l ∷ ls) → IsLinked l.1.next t ls
IsLinked-tail h t l [] p c = absurd (omega arith)
IsLinked-tail h t l (m ∷ ls) p c = c.1

-- the node l, leading to p
abbrev pub leading : Link → Ptr → Link
leading l p = (l.0, record l.1 { next = p })

-- tail leads to the last node
pub tail_is : (h t : Ptr) (ls : List Link) (l : Link) → IsLinked h t (ls ++ l ∷ []) → t ≡ l.0
tail_is h t [] l c = c.1
tail_is h t (k ∷ []) l c = c.1.1
tail_is h t (k ∷ m ∷ ls) l c = tail_is k.1.next t (m ∷ ls) l c.1

-- the last node is made to lead to other nodes, which are then behind it
pub IsLinked-join : (h t p u : Ptr) (ls : List Link) (l m : Link) (ms : List Link) → IsLinked h t (ls ++ l ∷ []) → IsLinked p u (m ∷ ms) → IsLinked h u (ls ++ leading l p ∷ m ∷ ms)
IsLinked-join h t p u [] l m ms c d = (c.0, d)
IsLinked-join h t p u (k ∷ []) l m ms c d = (c.0, (c.1.0, d))
IsLinked-join h t p u (k ∷ j ∷ ls) l m ms c d = (c.0, IsLinked-join k.1.next t p u (j ∷ ls) l m ms c.1 d)

-- what the nodes hold does not depend on where they lead
pub stamped_of-join : (ls : List Link) (l : Link) (p : Ptr) (ms : List Link) → stamped_of (ls ++ leading l p ∷ ms) ≡ stamped_of (ls ++ l ∷ []) ++ stamped_of ms
stamped_of-join [] l p ms = refl
stamped_of-join (k ∷ ls) l p ms = ap (λ hs. stamped_in k ∷ hs) (stamped_of-join ls l p ms)

last_of : {X : Type 0} (x : X) (xs : List X) → (ys : List X) × (y : X) × (x ∷ xs ≡ ys ++ y ∷ [])
last_of x [] = ([], x, refl)
last_of x (z ∷ zs) = let on = last_of z zs in (x ∷ on.0, on.1, ap (λ l. x ∷ l) on.2)

-- a list with something in it has a last element
pub unsnoc : {X : Type 0} (xs : List X) → 0 < length xs → (ys : List X) × (y : X) × (xs ≡ ys ++ y ∷ [])
unsnoc [] p = absurd (omega arith)
unsnoc (x ∷ xs) p = last_of x xs

-- and a first
pub uncons : {X : Type 0} (xs : List X) → 0 < length xs → (y : X) × (ys : List X) × (xs ≡ y ∷ ys)
uncons [] p = absurd (omega arith)
uncons (x ∷ xs) p = (x, xs, refl)

pub empty_of : {X : Type 0} (xs : List X) → length xs ≡ 0 → xs ≡ []
empty_of [] p = refl
empty_of (x ∷ xs) p = absurd (omega arith)

-- the i-th node, and where it lies
unfoldable pub link_at : (ls : List Link) (i : ℕ) → i < length ls → (l : Link) × (slice_get ls i ≡ Some l) × (place_of ls i ≡ l.0)
link_at [] i p = absurd (omega arith)
link_at (l ∷ ls) zero p = (l, refl, refl)
link_at (l ∷ ls) (suc i) p = link_at ls i (omega arith)

some_is : {X : Type 0} (x y : X) → Some x ≡ Some y → x ≡ y
some_is x y e = ap (λ o. unwrap_or o x) e

-- what is left from the i-th node on begins with what that node holds
pub held_from : (ls : List Link) (i : ℕ) (p : Ptr) (n : ChainNode) → slice_get ls i ≡ Some (p, n) → drop i (stamped_of ls) ≡ (n.packet, n.stamp) ∷ drop (suc i) (stamped_of ls)
held_from [] i p n e = absurd (false≢true (ap is_some e))
held_from (l ∷ ls) zero p n e = ap (λ k. stamped_in k ∷ stamped_of ls) (some_is l (p, n) e)
held_from (l ∷ ls) (suc i) p n e = held_from ls i p n e

-- the i-th node leads to the one behind it
pub next_is : (h t : Ptr) (ls : List Link) (i : ℕ) (p : Ptr) (n : ChainNode) → IsLinked h t ls → slice_get ls i ≡ Some (p, n) → suc i < length ls → n.next ≡ place_of ls (suc i)
next_is h t [] i p n c e more = absurd (omega arith)
next_is h t (l ∷ []) i p n c e more = absurd (omega arith)
next_is h t (l ∷ m ∷ ls) zero p n c e more = ap (λ k. k.1.next) (sym (some_is l (p, n) e)) ∙ head_is l.1.next t (m ∷ ls) c.1
next_is h t (l ∷ m ∷ ls) (suc i) p n c e more = next_is l.1.next t (m ∷ ls) i p n c.1 e (omega arith)
