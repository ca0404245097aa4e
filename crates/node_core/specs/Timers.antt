-- The keys of a node's events: its timers, by their numbers, and the packets that arrive.
use Rattle.std.specs.Prelude.{ℕ, ◌+◌, ◌-◌, List, [], ◌∷◌, Option, None, Some}
use Rattle.sim_time.specs.declared.key.Key.{Key}
use Rattle.node_core.specs.declared.timer.Timer.{Timer}
use Rattle.node_core.specs.declared.timer.Timer.TheVariants.{Start, Retransmission, DelayedAcknowledgement, Free}
use Rattle.node_core.specs.declared.event.Event.{Event}
use Rattle.node_core.specs.Pending.{EventChange}

-- the number of the timer of a node's first outgoing link
abbrev pub first_free : ℕ
first_free = 3

-- the flow's start is 0, the retransmission timer 1, the delayed acknowledgement 2, and then come the links that become free
abbrev pub timer_number : Timer → ℕ
timer_number Start = 0
timer_number Retransmission = 1
timer_number DelayedAcknowledgement = 2
timer_number (Free index) = first_free + index

-- which of a node's links becomes free, by the number of its timer
abbrev pub freed_index : ℕ → ℕ
freed_index number = number - first_free

-- the key of the timer of a number, set for a time
abbrev pub numbered_key : ℕ → ℕ → ℕ → Key
numbered_key node number time = record { time = time; node = node; source = 0; number = number }

-- the key of a timer of a node, set for a time
abbrev pub timer_key : ℕ → Timer → ℕ → Key
timer_key node timer time = numbered_key node (timer_number timer) time

-- the key of a packet that arrives at a node over a link: by its number among those that the link sent
abbrev pub arrival_key : ℕ → ℕ → ℕ → ℕ → Key
arrival_key node link time number = record { time = time; node = node; source = link + 1; number = number }

-- the timer that was set, if one was, is taken out
abbrev pub timer_cleared : (ℕ → Key) → Option ℕ → List EventChange
timer_cleared key_at None = []
timer_cleared key_at (Some old) = (key_at old, None) ∷ []

-- the timer is set, if it is to be
abbrev pub timer_set : (ℕ → Key) → Event → Option ℕ → List EventChange
timer_set key_at event None = []
timer_set key_at event (Some new) = (key_at new, Some event) ∷ []
