-- What a session at a prompt keeps in mind from line to line: the last move, and how far the run is known to go.
use Rattle.std.specs.Prelude.{false, None}
use Rattle.prompt_words.specs.declared.command.Typed.{Typed}
use Rattle.prompt_words.specs.declared.command.Typed.TheVariants.{Show}
use Rattle.prompt_words.specs.declared.command.Shown.TheVariants.{Where}
use Rattle.prompt_words.specs.declared.memo.Extent.{Extent}
use Rattle.prompt_words.specs.declared.memo.Memo.{Memo}

-- the run begins
abbrev pub nothing_known : Extent
nothing_known = record { upto = 0; ends = false }

-- no line was typed yet
abbrev pub no_memo : Memo
no_memo = record { last = None; known = nothing_known }

-- `where` is asked with what is known
abbrev pub knowing : Extent → Typed → Typed
knowing known (Show (Where before)) = Show (Where known)
knowing known asked = asked
