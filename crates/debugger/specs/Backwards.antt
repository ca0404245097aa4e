-- Which line of a stretch of the run is the last that a breakpoint matches.
use Rattle.std.specs.Prelude.{◌<◌, ◌≤◌, ℕ, List, Option, None, Some}
use Rattle.table_run.specs.State.{State}
use Rattle.breakpoints.specs.declared.breaks.Break.{Break}
use Rattle.debugger.specs.Moves.{StopsAt}

-- no line from past one position up to another matches
abbrev pub NoneStops : State → List Break → ℕ → ℕ → Type 0
NoneStops start breaks from upto = (q : ℕ) → from < q → q ≤ upto → StopsAt start breaks q → ⊥

-- the last of them that matches
pub record IsLastStop (start : State) (breaks : List Break) (from upto p : ℕ) : Type 0 where
  pub past : from < p
  pub within : p ≤ upto
  pub stops : StopsAt start breaks p
  pub none_behind : NoneStops start breaks p upto

abbrev pub FindsLast : State → List Break → ℕ → ℕ → Option ℕ → Type 0
FindsLast start breaks from upto None = NoneStops start breaks from upto
FindsLast start breaks from upto (Some p) = IsLastStop start breaks from upto p

-- a stretch up to a position, which has a line at least, was searched for the last that matches
pub record IsSearched (start : State) (breaks : List Break) (from upto : ℕ) (found : Option ℕ) : Type 0 where
  pub before : from < upto
  pub last : FindsLast start breaks from upto found
