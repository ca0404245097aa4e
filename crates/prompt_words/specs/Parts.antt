-- The parts of a breakpoint that are still to be read, and what is read of them.
use Rattle.std.specs.Prelude.{◌≡◌, ◌||◌, Bool, if◌then◌else◌, List, [], ◌∷◌, Option, None, Some, is_none, Result, Ok, Err, MatchResult}
use Rattle.breakpoints.specs.declared.values.Phase.TheVariants.{SlowStart}
use Rattle.breakpoints.specs.declared.values.Sign.TheVariants.{Less}
use Rattle.breakpoints.specs.declared.values.Test.{Test}
use Rattle.breakpoints.specs.declared.values.Test.TheVariants.{Within, Is}
use Rattle.breakpoints.specs.declared.values.Value.{Value}
use Rattle.prompt_words.specs.declared.refusal.Refusal.{Refusal}
use Rattle.prompt_words.specs.declared.refusal.Refusal.TheVariants.{B1, B2}
use Rattle.prompt_words.specs.declared.refusal.Refused.{Refused}
use Rattle.prompt_words.specs.Grammar.{Word}
use Rattle.prompt_words.specs.Refusals.{and_then}
use Rattle.prompt_words.specs.Signs.{sign_named}
use Rattle.prompt_words.specs.ValueNames.{value_named, phase_named, bound_named, is_phase, may_change}

-- the parts that are left, and whether one of those before was wrong
pub record Left : Type 0 where
  pub parts : List Word
  pub is_wrong : Bool

-- what is left behind the next part
abbrev pub behind : Left → List Word → Left
behind l words = record { parts = words; is_wrong = l.is_wrong }

-- what is read, and what is left then
abbrev pub Reads : Type 0 → Type 0
Reads X = Result (X × Left) Refusal

-- what was read, and what is left, are these; or it is refused with this code
abbrev pub ReadsAs : {X : Type 0} → Reads X → Result X Refused → Left → Type 0
ReadsAs reading result rest = MatchResult result (λ x. reading ≡ Ok (x, rest)) (λ why. reading ≡ Err why.code)

-- what is read, made into another
abbrev pub read_as : {X Y : Type 0} → (X → Y) → Reads X → Reads Y
read_as make (Ok r) = Ok (make r.0, r.1)
read_as make (Err refusal) = Err refusal

abbrev pub value_or : {X : Type 0} → Option X → X → X
value_or None other = other
value_or (Some x) other = x

-- one part; another stands for what means nothing, so that the parts behind it are read too
abbrev pub one_of : {X : Type 0} → (Word → Option X) → X → Bool → List Word → Reads X
one_of means other wrong [] = Err B2
one_of means other wrong (word ∷ words) = Ok (value_or (means word) other, record { parts = words; is_wrong = is_none (means word) || wrong })

abbrev pub one_part : {X : Type 0} → (Word → Option X) → X → Left → Reads X
one_part means other l = one_of means other l.is_wrong l.parts

-- a sign, and what a value is compared with
abbrev pub within_in : Value → Left → Reads Test
within_in value l =
    and_then (one_part sign_named Less l) (λ sign. read_as (λ number. Within (record { sign = sign.0; number = number })) (one_part (bound_named value) 0 sign.1))

-- what is asked of a value: a phase, or a bound
abbrev pub test_in : Value → Left → Reads Test
test_in value l = if is_phase value then read_as Is (one_part phase_named SlowStart l) else within_in value l

-- a value that can be asked to change
abbrev pub changing : Option Value → Option Value
changing None = None
changing (Some value) = if may_change value then Some value else None

abbrev pub value_or_refused : Option Value → Left → Reads Value
value_or_refused None l = Err B1
value_or_refused (Some value) l = Ok (value, l)

abbrev pub flow_value_in : Left → List Word → Reads Value
flow_value_in l [] = Err B2
flow_value_in l (word ∷ words) = value_or_refused (changing (value_named word)) (behind l words)
