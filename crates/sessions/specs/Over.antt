-- What is seen of a reader that is read through.
use Rattle.std.specs.Prelude.{ℕ}
use Rattle.sessions.specs.declared.source.OverRead.{OverRead}

abbrev pub read_through : {R : Type 0} → OverRead R → R
read_through source = source.reader

-- how often the reader failed
abbrev pub read_failures : {R : Type 0} → OverRead R → ℕ
read_failures source = source.failures
