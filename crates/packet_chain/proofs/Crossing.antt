-- The nodes of a chain may cross threads.
use Rattle.std.proofs.Common.{List, [], ◌∷◌}
use mir.Raw.{raw}
use base.Shift.{Keyless}
use denote.Memory.{lone}
use denote.Builtin.{RawPtr}
use denote.Struct.Struct.{exits_of}
use denote.Struct.Owning.{shape, fields, to}
use denote.Param.Send.{IsSend, IsSync, Common, AllSend, owning_send, struct_send, struct_sync, sendable}
use Rattle.std.proofs.Crossing as heap
use Rattle.std_alloc.proofs.SendSync.{quiet, lies, seen}
use Rattle.packet_chain.specs.contracts.node.ChainNode.{the_row as N}
use Rattle.std_heap.proofs.Global.TheSendSync as handle
use Rattle.packet_chain.specs.contracts.loose.Loose as Loose
use Rattle.packet_chain.specs.contracts.nodes.ChainNodes as Nodes
use Rattle.packet_chain.specs.Links.{Link}
use Rattle.packet_chain.specs.Ownership.{link_owns, nodes_own, nodes_lent}

pointer_send : IsSend RawPtr
pointer_send = search sendable

pointer_sync : IsSync RawPtr
pointer_sync = search sendable

node_send : IsSend N
node_send = search sendable depth 20

node_sync : IsSync N
node_sync = search sendable depth 20

link-Keyless : (l : Link) → Keyless (link_owns l)
link-Keyless l = (lies N node_send l.0 l.1, heap.frees.frees (record { memory = record { seal = tt } }) (raw (lone N.mir)) l.0)

nodes-Keyless : (ls : List Link) → Keyless (nodes_own ls)
nodes-Keyless [] = tt
nodes-Keyless (l ∷ ls) = (link-Keyless l, nodes-Keyless ls)

lent-Common : (ls : List Link) → Common (nodes_lent ls)
lent-Common [] κ = tt
lent-Common (l ∷ ls) κ = (seen N node_sync l.0 l.1 κ, lent-Common ls κ)

pub Nodes-send : IsSend Nodes.the_row
Nodes-send =
    let O = Nodes.the_type in let all : AllSend (fields O) = (pointer_send, (pointer_send, tt)) in
    owning_send O all (λ d. nodes-Keyless d.links) (λ k. quiet (to O) (exits_of k (fields O)) ((struct_send (shape O) all).leaving k))

pub Nodes-sync : IsSync Nodes.the_row
Nodes-sync = let O = Nodes.the_type in record {
  shared = λ d b o κ. ((struct_sync (shape O) (pointer_sync, (pointer_sync, tt))).shared (to O d) b o κ, lent-Common d.links κ);
}

pub Loose-send : IsSend Loose.the_row
Loose-send =
    let O = Loose.the_type in let all : AllSend (fields O) = (pointer_send, (handle.the_field_send, tt)) in
    owning_send O all (λ d. link-Keyless (d.at, d.node)) (λ k. quiet (to O) (exits_of k (fields O)) ((struct_send (shape O) all).leaving k))

pub Loose-sync : IsSync Loose.the_row
Loose-sync = let O = Loose.the_type in record {
  shared = λ d b o κ. ((struct_sync (shape O) (pointer_sync, (handle.the_field_sync, tt))).shared (to O d) b o κ, seen N node_sync d.at d.node κ);
}
