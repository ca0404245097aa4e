-- The codes of the faults.
use Rattle.std.specs.Prelude.{ℕ, List, codes}
use Rattle.scenario_asm.specs.declared.fault.Fault.{Fault}
use Rattle.scenario_asm.specs.declared.fault.Fault.TheVariants.{E1, E2, E3, E4, E5, E6, E7, E8, E9, E10, L3, L5, L7, L8}

-- a fault's code, as the program prints it
abbrev pub code_of : Fault → List ℕ
code_of E1 = codes "E1"
code_of E2 = codes "E2"
code_of E3 = codes "E3"
code_of E4 = codes "E4"
code_of E5 = codes "E5"
code_of E6 = codes "E6"
code_of E7 = codes "E7"
code_of E8 = codes "E8"
code_of E9 = codes "E9"
code_of E10 = codes "E10"
code_of L3 = codes "L3"
code_of L5 = codes "L5"
code_of L7 = codes "L7"
code_of L8 = codes "L8"
