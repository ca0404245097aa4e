use Rattle.debug_session.proofs.Showing.{none_shown}
use Rattle.debug_session.proofs.typed_reply.go_showing.Goals as goal

pub go-requires : goal.go-requires
go-requires g c = record { ready = c.requires.ready }

pub go_behind-requires : goal.go_behind-requires
go_behind-requires g c = record { ready = c.requires.ready }

pub returns-then-is_bare-clause-obeyed : goal.returns-then-is_bare-clause-obeyed
returns-then-is_bare-clause-obeyed g c = none_shown c.args.naming.now c.args.displays.now c.args.asked c.args.debugger.now c.go.new.debugger c.go.result c.go.new.said c.if-is_bare.ensures c.go.ensures.obeyed

pub returns-then-is_bare-clause-start : goal.returns-then-is_bare-clause-start
returns-then-is_bare-clause-start g c = c.go.ensures.start

pub returns-else-is_bare-clause-obeyed : goal.returns-else-is_bare-clause-obeyed
returns-else-is_bare-clause-obeyed g c = c.go_behind.ensures.obeyed

pub returns-else-is_bare-clause-start : goal.returns-else-is_bare-clause-start
returns-else-is_bare-clause-start g c = c.go_behind.ensures.start
