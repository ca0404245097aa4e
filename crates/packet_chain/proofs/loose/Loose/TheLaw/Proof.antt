-- A `&` to a loose node is made where one to the node is. Assumes `Logic`.
use denote.Param.Shared.{copy_shared}
use denote.Struct.Field.{RawPtr-field}
use denote.Struct.Laws.{RawPtr-copy}
use denote.Struct.Lending.{lent_at_shr_laws, of_Lends}
use Rattle.std_heap.specs.contracts.Global as Heap
use Rattle.std_heap.proofs.Global.TheLaws as heap
use Rattle.packet_chain.specs.contracts.node.ChainNode.{the_row as N}
use Rattle.packet_chain.proofs.node.ChainNode.TheLaws.{the_row_laws as L}
use Rattle.packet_chain.specs.contracts.loose.Loose as C
use Rattle.packet_chain.proofs.loose.Loose.TheLaw.Statement.{statement}
use Rattle.packet_chain.proofs.Sharing.{Lends-link}

pub shares : statement
shares = of_Lends C.struct (C.the_codes Heap.the_row.coded) C.the_heap C.the_lent
    (λ d p. lent_at_shr_laws N L.shr_laws d.at d.node) (copy_shared RawPtr-field RawPtr-copy, (heap.the_field_shared, tt))
    (λ M 𝓤 𝓛 d p. Lends-link 𝓛 C.the_row.lives (d.at, d.node))
