-- What a node is: what it does, and its outgoing links.
use Rattle.std.specs.Prelude.{ℕ, List, [], slice_index_or, Option, None, Some}
use Rattle.reno_sender.specs.declared.fields.SenderFields.{SenderFields}
use Rattle.reno_receiver.specs.Received.{ReceiverState}
use Rattle.aqm.specs.declared.queue.Queue.TheVariants.{DropTail}
use Rattle.port.specs.Port.{PortState, initial_port}
use Rattle.node_core.specs.declared.role.Role.{Role}
use Rattle.node_core.specs.declared.role.Role.TheVariants.{Sends, Receives, Routes}

-- an outgoing link: the node at which it ends, and its sending side
pub record LinkState : Type 0 where
  pub to : ℕ
  pub port : PortState

-- a node: what it does, and its outgoing links in rising number
pub record PartState : Type 0 where
  pub role : Role
  pub links : List LinkState

abbrev pub no_link : LinkState
no_link = record { to = 0; port = initial_port 0 0 0 [] (DropTail (record { waiting = []; capacity = 0 })) }

-- the outgoing link of an index
abbrev pub link_at : List LinkState → ℕ → LinkState
link_at links index = slice_index_or links index no_link

-- the sender of a sender's node, with its flow's number
abbrev pub sender_in : Role → Option (ℕ × SenderFields)
sender_in (Sends flow fields) = Some (flow, fields)
sender_in (Receives flow state) = None
sender_in (Routes table) = None

-- the receiver of a receiver's node, with its flow's number
abbrev pub receiver_in : Role → Option (ℕ × ReceiverState)
receiver_in (Sends flow fields) = None
receiver_in (Receives flow state) = Some (flow, state)
receiver_in (Routes table) = None
