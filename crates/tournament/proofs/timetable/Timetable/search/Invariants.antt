use Rattle.tournament.proofs.Searched.{IsSought}
use Rattle.tournament.proofs.timetable.Timetable.search.Given as goal

-- the first of the places so far
abbrev pub invariant-loop-place : goal.invariant-loop-place
invariant-loop-place l = IsSought l.self l.place l.first
