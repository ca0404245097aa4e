-- What is seen of a writer that is written through.
use Rattle.std.specs.Prelude.{ℕ}
use Rattle.window_text.specs.declared.sink.OverWrite.{OverWrite}

abbrev pub written_through : {W : Type 0} → OverWrite W → W
written_through sink = sink.writer

-- how often the writer failed
abbrev pub write_failures : {W : Type 0} → OverWrite W → ℕ
write_failures sink = sink.failures
