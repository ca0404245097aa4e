-- A `&` to the nodes is made where one to each node is. Assumes `Logic`.
use denote.Param.Shared.{copy_shared}
use denote.Struct.Field.{RawPtr-field}
use denote.Struct.Laws.{RawPtr-copy}
use denote.Struct.Lending.{of_Lends}
use Rattle.packet_chain.specs.contracts.nodes.ChainNodes as C
use Rattle.packet_chain.proofs.nodes.ChainNodes.TheLaw.Statement.{statement}
use Rattle.packet_chain.proofs.Sharing.{nodes_lent_laws, Lends-nodes}

pub shares : statement
shares = of_Lends C.struct C.the_codes C.the_heap C.the_lent
    (λ d p. nodes_lent_laws d.links) (copy_shared RawPtr-field RawPtr-copy, (copy_shared RawPtr-field RawPtr-copy, tt))
    (λ M 𝓤 𝓛 d p. Lends-nodes 𝓛 C.the_row.lives d.links)
