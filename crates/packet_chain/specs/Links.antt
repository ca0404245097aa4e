-- How the nodes of a chain lead to one another.
use Rattle.std.specs.Prelude.{◌≡◌, ℕ, List, [], ◌∷◌, map, slice_index_or}
use denote.RawPtr.{Ptr, null_ptr}
use Rattle.packet_chain.specs.declared.node.ChainNode.{ChainNode}
use Rattle.packet_chain.specs.Stamped.{Stamped}

-- where a node lies, and the node
abbrev pub Link : Type 0
Link = Ptr × ChainNode

-- the packet and the stamp in a node
abbrev pub stamped_in : Link → Stamped
stamped_in l = (l.1.packet, l.1.stamp)

-- those of all the nodes, in order
abbrev pub stamped_of : List Link → List Stamped
stamped_of = map stamped_in

-- where the i-th node lies, and null past the last
abbrev pub place_of : List Link → ℕ → Ptr
place_of ls i = slice_index_or (map (λ l. l.0) ls) i null_ptr

-- head leads to the first node, each `next` but the last one's to the node behind, and tail to the last; with no node both are null
abbrev pub IsLinked : Ptr → Ptr → List Link → Type 0
IsLinked head tail [] = (head ≡ null_ptr) × (tail ≡ null_ptr)
IsLinked head tail (l ∷ []) = (head ≡ l.0) × (tail ≡ l.0)
IsLinked head tail (l ∷ m ∷ ls) = (head ≡ l.0) × IsLinked l.1.next tail (m ∷ ls)
