-- What `names` tells: the names of nodes, links and flows with their numbers.
use Rattle.std.specs.Prelude.{ℕ, ◌+◌, ◌==◌, if◌then◌else◌, List, [], ◌∷◌, ◌++◌, length, codes, decimal}
use Rattle.trace_text.specs.Words.{line_of_words}
use Rattle.prompt_words.specs.declared.naming.Naming.{Naming}
use Rattle.prompt_words.specs.Grammar.{Word}

-- a line for each part of a sort that has a name, from a number on
abbrev pub names_from : List ℕ → ℕ → List Word → List ℕ
names_from sort n [] = []
names_from sort n (name ∷ names) = line_of_words (sort ∷ decimal n ∷ name ∷ []) ++ names_from sort (n + 1) names

abbrev pub all_named : Naming → List ℕ
all_named naming = names_from (codes "node") 0 naming.names.nodes ++ (names_from (codes "link") 0 naming.names.links ++ names_from (codes "flow") 0 naming.names.flows)

-- an image has none; and where a link or a flow has a name, a node has one too
abbrev pub names_text : Naming → List ℕ
names_text naming = if length naming.names.nodes == 0 then codes "this scenario has no names\n" else all_named naming
