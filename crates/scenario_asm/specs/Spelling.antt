-- How statements are spelt in the canonical text.
use Rattle.std.specs.Prelude.{ℕ, List, [], ◌∷◌, ◌++◌, codes, decimal, flat_map}
use Rattle.std.specs.List.{join_by}
use Rattle.sim_time.specs.declared.variant.Iw.{Iw}
use Rattle.sim_time.specs.declared.variant.Iw.TheVariants.{Iw3, Iw10}
use Rattle.scenario_image.specs.declared.parts.NodeKind.{NodeKind}
use Rattle.scenario_image.specs.declared.parts.NodeKind.TheVariants.{Sender, Receiver, Router}
use Rattle.sim_time.specs.declared.queue_kind.QueueKind.{QueueKind}
use Rattle.sim_time.specs.declared.queue_kind.QueueKind.TheVariants.{DropTail, Codel}
use Rattle.scenario_asm.specs.declared.statement.Statement.{Statement}
use Rattle.scenario_asm.specs.declared.statement.Statement.TheVariants.{Sim, Node, Link, Flow, Route, Lose}
use Rattle.scenario_asm.specs.Lines.{Word}
use Rattle.scenario_asm.specs.TcpWords.{tcp_word}

-- the name of the node of a number: n0, n1, ..
abbrev pub node_label : ℕ → Word
node_label number = codes "n" ++ decimal number

-- the name of the link of a number: l0, l1, ..
abbrev pub link_label : ℕ → Word
link_label number = codes "l" ++ decimal number

-- the name of the flow of a number: f0, f1, ..
abbrev pub flow_label : ℕ → Word
flow_label number = codes "f" ++ decimal number

-- the word for what a node does
abbrev pub kind_word : NodeKind → Word
kind_word Sender = codes "sender"
kind_word Receiver = codes "receiver"
kind_word Router = codes "router"

-- the words for how a queue of this capacity drops
abbrev pub queue_words : ℕ → QueueKind → List Word
queue_words capacity DropTail = codes "droptail" ∷ decimal capacity ∷ []
queue_words capacity (Codel codel) = codes "codel" ∷ decimal capacity ∷ decimal codel.target ∷ decimal codel.interval ∷ decimal codel.maxpacket ∷ []

-- the word for how large its initial window is
abbrev pub iw_word : Iw → Word
iw_word Iw3 = codes "iw3"
iw_word Iw10 = codes "iw10"

-- a statement's words; nodes and links that it names have the names of their numbers
abbrev pub spelling : Statement → List Word
spelling (Sim end) = codes "sim" ∷ decimal end ∷ []
spelling (Node name kind) = codes "node" ∷ name ∷ kind_word kind ∷ []
spelling (Link name link) = codes "link" ∷ name ∷ node_label link.from ∷ node_label link.to ∷ decimal link.rate ∷ decimal link.delay ∷ queue_words link.capacity link.queue
spelling (Flow name flow) =
    codes "flow" ∷ name ∷ node_label flow.sender ∷ node_label flow.receiver ∷ decimal flow.mss ∷ decimal flow.segments ∷ decimal flow.start ∷ decimal flow.rwnd ∷ decimal flow.delack
    ∷ tcp_word flow.variant ∷ iw_word flow.variant.iw ∷ []
spelling (Route route) = codes "route" ∷ node_label route.router ∷ node_label route.destination ∷ link_label route.link ∷ []
spelling (Lose lose) = codes "lose" ∷ link_label lose.link ∷ decimal lose.number ∷ []

-- one space between two words
abbrev pub line_for : Statement → List ℕ
line_for statement = join_by (λ word. word) (codes " ") (spelling statement)

-- a line for each statement, ended by a line feed
abbrev pub text_for : List Statement → List ℕ
text_for statements = flat_map (λ statement. line_for statement ++ codes "\n") statements
