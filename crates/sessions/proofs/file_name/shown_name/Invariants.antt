use Rattle.std.proofs.Common.{◌≡◌, flat_map, string_bytes}
use Rattle.sessions.specs.FileName.{shown_char}
use Rattle.sessions.proofs.file_name.shown_name.Given as goal

-- the characters so far are shown
abbrev pub invariant-loop-c : goal.invariant-loop-c
invariant-loop-c l = string_bytes l.name ≡ flat_map shown_char l.yielded
