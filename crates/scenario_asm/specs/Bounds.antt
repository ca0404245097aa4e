-- The greatest of a text's numbers, and how many of a kind there may be.
use Rattle.std.specs.Prelude.{ℕ, ◌^◌}

-- nanoseconds: the end, a delay, a target and an interval, and what delays an acknowledgement
abbrev pub LATEST_END : ℕ
LATEST_END = 10 ^ 15

abbrev pub LONGEST_DELAY : ℕ
LONGEST_DELAY = 10 ^ 10

abbrev pub LONGEST_DELACK : ℕ
LONGEST_DELACK = 500000000

-- bits a second
abbrev pub LEAST_RATE : ℕ
LEAST_RATE = 1000

abbrev pub GREATEST_RATE : ℕ
GREATEST_RATE = 10 ^ 12

-- bytes
abbrev pub GREATEST_MSS : ℕ
GREATEST_MSS = 9000

abbrev pub GREATEST_RWND : ℕ
GREATEST_RWND = 2 ^ 30

-- a flow's segments, and the number of a lost packet
abbrev pub MOST_SEGMENTS : ℕ
MOST_SEGMENTS = 10 ^ 9

-- of a scenario, and of a router
abbrev pub MOST_NODES : ℕ
MOST_NODES = 256

abbrev pub MOST_LINKS : ℕ
MOST_LINKS = 1024

abbrev pub MOST_ROUTER_LINKS : ℕ
MOST_ROUTER_LINKS = 16

abbrev pub MOST_FLOWS : ℕ
MOST_FLOWS = 128

-- lost packets of a link
abbrev pub MOST_LOSE : ℕ
MOST_LOSE = 64
