-- Conditions on values, as they are told at a prompt.
use Rattle.std.specs.Prelude.{ℕ, Bool, true, false, if◌then◌else◌, List, [], ◌++◌, codes, decimal, Option, None, Some}
use Rattle.std.specs.List.{flat_map}
use Rattle.breakpoints.specs.declared.values.Asked.{Asked}
use Rattle.breakpoints.specs.declared.values.Owner.{Owner}
use Rattle.breakpoints.specs.declared.values.Owner.TheVariants as owner
use Rattle.breakpoints.specs.declared.values.Reading.{Reading}
use Rattle.breakpoints.specs.declared.values.Reading.TheVariants.{Number, Phase as InPhase, Nothing}
use Rattle.breakpoints.specs.declared.values.Test.{Test}
use Rattle.breakpoints.specs.declared.values.Test.TheVariants.{Within, Is}
use Rattle.breakpoints.specs.declared.values.Value.{Value}
use Rattle.breakpoints.specs.declared.values.ValueOf.{ValueOf}
use Rattle.breakpoints.specs.declared.values.Values.{Values}
use Rattle.breakpoints.specs.Values.{asked_of, owner_of}
use Rattle.flow_waits.specs.Names.{part_name}
use Rattle.prompt_words.specs.declared.naming.Naming.{Naming}
use Rattle.prompt_words.specs.Signs.{sign_text}
use Rattle.prompt_words.specs.ValueNames.{all_values, phase_word, value_name, value_unit}

-- what is read, with a unit
abbrev pub reading_text : List ℕ → Reading → List ℕ
reading_text unit (Number n) = decimal n ++ unit
reading_text unit (InPhase phase) = phase_word phase
reading_text unit Nothing = codes "-"

-- what is asked of a value with a unit
abbrev pub test_text : List ℕ → Test → List ℕ
test_text unit (Within bound) = sign_text bound.sign ++ reading_text unit (Number bound.number)
test_text unit (Is phase) = codes " " ++ phase_word phase

-- the link that a value is of
abbrev pub of_text : Naming → Owner → ℕ → List ℕ
of_text naming owner.Link of = codes " " ++ part_name naming.names.links of
of_text naming other of = []

-- a value, where something is asked of it
abbrev pub value_text : Naming → Value → Option Asked → List ℕ
value_text naming value None = []
value_text naming value (Some asked) = codes " " ++ (value_name value ++ (of_text naming (owner_of value) asked.of ++ test_text (value_unit value) asked.test))

abbrev pub asked_text : Naming → Values → Value → List ℕ
asked_text naming v value = value_text naming value (asked_of v value)

-- which value of which flow has to change
abbrev pub change_text : Naming → Option ValueOf → List ℕ
change_text naming None = []
change_text naming (Some asked) = codes " change " ++ (value_name asked.value ++ (codes " " ++ part_name naming.names.flows asked.of))

-- all of them, by their indices
abbrev pub values_text : Naming → Values → List ℕ
values_text naming v = flat_map (asked_text naming v) all_values ++ change_text naming v.change

-- what a value was before it changed
abbrev pub changed_text : Reading → Value → List ℕ
changed_text was value = codes " (" ++ (value_name value ++ (codes " from " ++ (reading_text (value_unit value) was ++ codes ")")))

-- where that is known
abbrev pub is_there : Reading → Bool
is_there Nothing = false
is_there reading = true

abbrev pub was_text : Reading → Option ValueOf → List ℕ
was_text was None = []
was_text was (Some asked) = if is_there was then changed_text was asked.value else []
