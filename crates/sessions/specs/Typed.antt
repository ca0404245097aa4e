-- What is known of who types after a line was asked for.
use Rattle.std.specs.Prelude.{◌≡◌, ℕ, List, [], ◌∷◌, length, take, Option, None, Some, Result, Ok, Err}
use Rattle.debug_session.specs.Prompt.{Typing, Typed, IsTypedOut}

-- the room begins with a line, or as much of it as there is room for
abbrev pub IsCut : List ℕ → ℕ → List ℕ → Type 0
IsCut room count line = take count room ≡ take (length room) line

-- one line more was asked for, and the sink held this
abbrev pub TypesOne : Option Typing → Option Typing → ℕ → List ℕ → Option (List ℕ) → Type 0
TypesOne None new count room shown = Unit {0}
TypesOne (Some old) new count room shown = (line : List ℕ) × IsCut room count line × Typed (Some old) new (record { line = line; seen = shown } ∷ [])

-- what asking for a line does: one is typed, or none is left; where that fails, none was typed
abbrev pub TypesLine : {E : Type 0} → Option Typing → Option Typing → Result (Option ℕ) E → List ℕ → Option (List ℕ) → Type 0
TypesLine old new (Ok (Some count)) room shown = TypesOne old new count room shown
TypesLine old new (Ok None) room shown = Typed old new [] × IsTypedOut new
TypesLine old new (Err fail) room shown = Typed old new []
