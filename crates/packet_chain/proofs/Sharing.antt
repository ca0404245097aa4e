-- A `&` to the nodes is made where one to each node is. Assumes `Logic`.
use Rattle.std.proofs.Common.{List, [], ◌∷◌}
use seplogic.Ra.Ura.{Ura}
use base.Fraction.{full_share}
use base.Fml.{Lft, ftrue}
use contract.BorrowLft.{⊑_static}
use types.Logic.{Logic}
use mir.Raw.{raw}
use denote.Memory.{lone}
use denote.RawPtr.{lies_at}
use denote.Sharing.{ShrLaws}
use denote.SharingLaws.{beside_shr_laws, nothing_shr_laws}
use denote.Shares.{Shares-less}
use denote.Struct.Lending.{lent_at, lent_at_shr_laws, Lends-lies, Lends-first, Lends, Lends-both, Lends-nothing}
use Rattle.packet_chain.specs.contracts.node.ChainNode.{the_row as N}
use Rattle.packet_chain.proofs.node.ChainNode.TheLaws.{the_row_laws as L}
use Rattle.packet_chain.specs.Links.{Link}
use Rattle.packet_chain.specs.Ownership.{freeing, link_owns, link_lent, nodes_own, nodes_lent}

pub nodes_lent_laws : (ls : List Link) → ShrLaws (nodes_lent ls)
nodes_lent_laws [] = nothing_shr_laws
nodes_lent_laws (l ∷ ls) = beside_shr_laws _ _ (lent_at_shr_laws N L.shr_laws l.0 l.1) (nodes_lent_laws ls)

module _ {M : Type 1} {𝓤 : Ura M} (𝓛 : Logic 𝓤) (κ : Lft) where
  pub Lends-link : (l : Link) → Lends 𝓛 (link_owns l) (link_lent l) κ
  Lends-link l =
      Lends-first 𝓛 (lies_at N full_share l.0 l.1) (freeing (raw (lone N.mir)) l.0) (lent_at N l.0 l.1) κ
      (Lends-lies 𝓛 N κ l.0 l.1 (Shares-less 𝓛 N N.lives κ (⊑_static κ) (L.shares 𝓛) l.1))

  pub Lends-nodes : (ls : List Link) → Lends 𝓛 (nodes_own ls) (nodes_lent ls) κ
  Lends-nodes [] = Lends-nothing 𝓛 ftrue κ
  Lends-nodes (l ∷ ls) = Lends-both 𝓛 (link_owns l) (nodes_own ls) (link_lent l) (nodes_lent ls) κ (Lends-link l) (Lends-nodes ls)
