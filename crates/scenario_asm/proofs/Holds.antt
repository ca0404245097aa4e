-- What statements say together, after one more.
use mathlib.Core.Path.{fun_ext}
use Rattle.std.proofs.Common.{◌≡◌, ◌≢◌, ◌≤◌, ◌<◌, ℕ, zero, suc, ◌+◌, ◌==◌, ◌||◌, Bool, true, false, cond, if◌then◌else◌, is_some, option_map, inl, inr, List, [], ◌∷◌, ◌++◌, length, set, Option, Some, None, ap, sym, ◌∙◌, refl, arith, length-append}
use Rattle.std.proofs.lemmas.List.{append-nil, length-map}
use Rattle.std.proofs.lemmas.List.Elements.{filter_map-append}
use Rattle.std.proofs.lemmas.List.FromFn.{length-enumerate_from}
use Rattle.std.proofs.lemmas.List.Folds.{list_any-append}
use Rattle.std.proofs.lemmas.List.Sums.{fold-append}
use Rattle.std.proofs.lemmas.Bool.{cases_Bool, eq-eqb, ne_eqb}
use Rattle.std.proofs.lemmas.Slice.Eq.{bytes_eq-Decides}
use Rattle.std.proofs.lemmas.Option.{slice_get_within}
use Rattle.std.specs.List.{filter_map, cons_option, slice_get, enumerate_from, list_any, position_from}
use Rattle.std.specs.Map.{update}
use Rattle.std.specs.Option.{option_or}
use Rattle.std.specs.Str.{bytes_eq}
use Rattle.scenario_image.specs.declared.parts.NodeKind.{NodeKind}
use Rattle.scenario_image.specs.declared.parts.LinkPart.{LinkPart}
use Rattle.scenario_image.specs.declared.parts.FlowPart.{FlowPart}
use Rattle.scenario_image.specs.declared.parts.RoutePart.{RoutePart}
use Rattle.scenario_asm.specs.declared.statement.LinkLine.{LinkLine}
use Rattle.scenario_asm.specs.declared.statement.LoseLine.{LoseLine}
use Rattle.scenario_asm.specs.declared.statement.Statement.{Statement}
use Rattle.scenario_asm.specs.declared.statement.Statement.TheVariants.{Sim, Node, Link, Flow, Route, Lose}
use Rattle.scenario_asm.specs.declared.table.Item.{Item}
use Rattle.scenario_asm.specs.declared.table.Item.TheVariants.{Node as node_item, Link as link_item, Flow as flow_item}
use Rattle.scenario_asm.specs.Lines.{Word}
use Rattle.scenario_asm.specs.Names.{is_taken, with_node, with_link, with_flow}
use Rattle.scenario_asm.specs.Routes.{placed, rising}
use Rattle.scenario_asm.specs.Draft.{AreLostOfLinks}
use Rattle.scenario_asm.specs.Meaning.{statements_of}
use Rattle.scenario_asm.specs.Text.{said_end, node_name, node_kind, link_name, link_line, lost_number, lost_numbers, losing_link_part, numbered_links, links_of, flow_name, flow_part, route_part, routes_of, number_among, flow_among, items_by, item_of, known_of}

-- what is added by a statement that h gives something of, and by one that it gives nothing of
some_more : {X Y : Type 0} (h : X → Option Y) (xs : List X) (x : X) (y : Y) → h x ≡ Some y → filter_map h (xs ++ x ∷ []) ≡ filter_map h xs ++ y ∷ []
some_more h xs x y is = filter_map-append h xs (x ∷ []) ∙ ap (λ o. filter_map h xs ++ cons_option o []) is

none_more : {X Y : Type 0} (h : X → Option Y) (xs : List X) (x : X) → h x ≡ None → filter_map h (xs ++ x ∷ []) ≡ filter_map h xs
none_more h xs x is = filter_map-append h xs (x ∷ []) ∙ (ap (λ o. filter_map h xs ++ cons_option o []) is ∙ append-nil (filter_map h xs))

some_is : (a b : LinkPart) → Some a ≡ Some b → a ≡ b
some_is a b is = cc

none_not : (part : LinkPart) → None ≡ Some part → ⊥
none_not part is = cc

-- what is lost of a link after a statement that speaks of no loss
same_lost : (statements : List Statement) (s : Statement) → ((link : ℕ) → lost_number link s ≡ None) → (link : ℕ) → lost_numbers link statements ≡ lost_numbers link (statements ++ s ∷ [])
same_lost statements s none link = sym (none_more (lost_number link) statements s (none link))

-- a link's loss, and another's
lost_here : (link : ℕ) (lose : LoseLine) → lose.link ≡ link → lost_number link (Lose lose) ≡ Some lose.number
lost_here link lose here = let same = eq-eqb lose.link link here in simp same

lost_there : (link : ℕ) (lose : LoseLine) → lose.link ≢ link → lost_number link (Lose lose) ≡ None
lost_there link lose there = let apart = ne_eqb lose.link link there in simp apart

more_lost : (statements : List Statement) (lose : LoseLine) (link : ℕ) → lose.link ≡ link → lost_numbers link statements ++ lose.number ∷ [] ≡ lost_numbers link (statements ++ Lose lose ∷ [])
more_lost statements lose link here = sym (some_more (lost_number link) statements (Lose lose) lose.number (lost_here link lose here))

other_lost : (statements : List Statement) (lose : LoseLine) (link : ℕ) → lose.link ≢ link → lost_numbers link statements ≡ lost_numbers link (statements ++ Lose lose ∷ [])
other_lost statements lose link there = sym (none_more (lost_number link) statements (Lose lose) (lost_there link lose there))

-- links that lose the same packets are the same
same_numbered : (first : ℕ) (lines : List LinkLine) (a b : List Statement) → ((link : ℕ) → first ≤ link → lost_numbers link a ≡ lost_numbers link b) → numbered_links first lines a ≡ numbered_links first lines b
same_numbered first [] a b same = refl
same_numbered first (line ∷ lines) a b same =
    let here : lost_numbers first a ≡ lost_numbers first b = same first (omega arith) in
    let rest : numbered_links (first + 1) lines a ≡ numbered_links (first + 1) lines b = same_numbered (first + 1) lines a b (λ link le. same link (omega arith)) in
    ap (λ lose. losing_link_part line lose ∷ numbered_links (first + 1) lines a) here ∙ ap (λ links. losing_link_part line (lost_numbers first b) ∷ links) rest

-- one more link
more_numbered : (first : ℕ) (lines : List LinkLine) (line : LinkLine) (statements : List Statement) → numbered_links first (lines ++ line ∷ []) statements ≡ numbered_links first lines statements ++ losing_link_part line (lost_numbers (first + length lines) statements) ∷ []
more_numbered first [] line statements = let place : first ≡ first + 0 = omega arith in ap (λ k. losing_link_part line (lost_numbers k statements) ∷ []) place
more_numbered first (l ∷ lines) line statements =
    let place : (first + 1) + length lines ≡ first + suc (length lines) = omega arith in
    let rest : numbered_links (first + 1) (lines ++ line ∷ []) statements ≡ numbered_links (first + 1) lines statements ++ losing_link_part line (lost_numbers ((first + 1) + length lines) statements) ∷ [] = more_numbered (first + 1) lines line statements in
    ap (λ links. losing_link_part l (lost_numbers first statements) ∷ links) (rest ∙ ap (λ k. numbered_links (first + 1) lines statements ++ losing_link_part line (lost_numbers k statements) ∷ []) place)

-- one more lost packet
lose_numbered : (first : ℕ) (lines : List LinkLine) (statements : List Statement) (lose : LoseLine) (place : ℕ) (part : LinkPart) → lose.link ≡ first + place → slice_get (numbered_links first lines statements) place ≡ Some part → set (numbered_links first lines statements) place (record part { lose = part.lose ++ lose.number ∷ [] }) ≡ numbered_links first lines (statements ++ Lose lose ∷ [])
lose_numbered first [] statements lose place part here found = absurd (none_not part found)
lose_numbered first (line ∷ lines) statements lose zero part here found =
    let is : losing_link_part line (lost_numbers first statements) ≡ part = some_is _ _ found in
    let rest : numbered_links (first + 1) lines statements ≡ numbered_links (first + 1) lines (statements ++ Lose lose ∷ []) = same_numbered (first + 1) lines statements (statements ++ Lose lose ∷ []) (λ link le. other_lost statements lose link (omega arith)) in
    rw (← is) (ap (λ numbers. losing_link_part line numbers ∷ numbered_links (first + 1) lines statements) (more_lost statements lose first (omega arith)) ∙ ap (λ links. losing_link_part line (lost_numbers first (statements ++ Lose lose ∷ [])) ∷ links) rest)
lose_numbered first (line ∷ lines) statements lose (suc place) part here found =
    let same : lost_numbers first statements ≡ lost_numbers first (statements ++ Lose lose ∷ []) = other_lost statements lose first (omega arith) in
    let rest : set (numbered_links (first + 1) lines statements) place (record part { lose = part.lose ++ lose.number ∷ [] }) ≡ numbered_links (first + 1) lines (statements ++ Lose lose ∷ []) = lose_numbered (first + 1) lines statements lose place part (omega arith) found in
    ap (λ numbers. losing_link_part line numbers ∷ set (numbered_links (first + 1) lines statements) place (record part { lose = part.lose ++ lose.number ∷ [] })) same ∙ ap (λ links. losing_link_part line (lost_numbers first (statements ++ Lose lose ∷ [])) ∷ links) rest

-- the links after a statement that speaks of none
same_links : (statements : List Statement) (s : Statement) → link_line s ≡ None → ((link : ℕ) → lost_number link s ≡ None) → links_of (statements ++ s ∷ []) ≡ links_of statements
same_links statements s no_line no_loss =
    ap (λ lines. numbered_links 0 lines (statements ++ s ∷ [])) (none_more link_line statements s no_line)
    ∙ sym (same_numbered 0 (filter_map link_line statements) statements (statements ++ s ∷ []) (λ link le. same_lost statements s no_loss link))

-- the links after one more
more_links : (statements : List Statement) (name : Word) (line : LinkLine) → AreLostOfLinks statements → links_of (statements ++ Link name line ∷ []) ≡ links_of statements ++ losing_link_part line [] ∷ []
more_links statements name line lost =
    let lines : List LinkLine = filter_map link_line statements in
    let none : lost_numbers (0 + length lines) (statements ++ Link name line ∷ []) ≡ [] = sym (same_lost statements (Link name line) (λ link. refl) (0 + length lines)) ∙ lost (0 + length lines) (omega arith) in
    ap (λ all. numbered_links 0 all (statements ++ Link name line ∷ [])) (some_more link_line statements (Link name line) line refl)
    ∙ (more_numbered 0 lines line (statements ++ Link name line ∷ [])
    ∙ (ap (λ numbers. numbered_links 0 lines (statements ++ Link name line ∷ []) ++ losing_link_part line numbers ∷ []) none
    ∙ ap (λ links. links ++ losing_link_part line [] ∷ []) (sym (same_numbered 0 lines statements (statements ++ Link name line ∷ []) (λ link le. same_lost statements (Link name line) (λ k. refl) link)))))

-- the links after one more lost packet
lose_links : (statements : List Statement) (lose : LoseLine) (part : LinkPart) → slice_get (links_of statements) lose.link ≡ Some part → set (links_of statements) lose.link (record part { lose = part.lose ++ lose.number ∷ [] }) ≡ links_of (statements ++ Lose lose ∷ [])
lose_links statements lose part found =
    lose_numbered 0 (filter_map link_line statements) statements lose lose.link part (omega arith) found
    ∙ ap (λ lines. numbered_links 0 lines (statements ++ Lose lose ∷ [])) (sym (none_more link_line statements (Lose lose) refl))

-- no packet is lost but of a declared link, after each sort of statement
pub still_lost : (statements : List Statement) (s : Statement) → link_line s ≡ None → ((link : ℕ) → lost_number link s ≡ None) → AreLostOfLinks statements → AreLostOfLinks (statements ++ s ∷ [])
still_lost statements s no_line no_loss lost link past = sym (same_lost statements s no_loss link) ∙ lost link (omega (arith, ap length (none_more link_line statements s no_line)))

pub link_lost : (statements : List Statement) (name : Word) (line : LinkLine) → AreLostOfLinks statements → AreLostOfLinks (statements ++ Link name line ∷ [])
link_lost statements name line lost link past =
    sym (same_lost statements (Link name line) (λ k. refl) link)
    ∙ lost link (omega (arith, ap length (some_more link_line statements (Link name line) line refl), length-append (filter_map link_line statements) (line ∷ [])))

pub lose_lost : (statements : List Statement) (lose : LoseLine) → lose.link < length (filter_map link_line statements) → AreLostOfLinks statements → AreLostOfLinks (statements ++ Lose lose ∷ [])
lose_lost statements lose declared lost link past =
    let same : length (filter_map link_line (statements ++ Lose lose ∷ [])) ≡ length (filter_map link_line statements) = ap length (none_more link_line statements (Lose lose) refl) in
    sym (other_lost statements lose link (omega arith)) ∙ lost link (omega arith)

-- a link for each line
length_links : (statements : List Statement) → length (links_of statements) ≡ length (filter_map link_line statements)
length_links statements = length-map (enumerate_from 0 (filter_map link_line statements)) _ ∙ length-enumerate_from 0 (filter_map link_line statements)

-- a link that is there has a line
pub lose_declared : (statements : List Statement) (link : ℕ) (part : LinkPart) → slice_get (links_of statements) link ≡ Some part → link < length (filter_map link_line statements)
lose_declared statements link part found =
    let within : link < length (links_of statements) = slice_get_within (links_of statements) link part found in
    omega (arith, length_links statements)

-- as many nodes as names of nodes, and as many links as names of links
as_many_nodes : (statements : List Statement) → length (filter_map node_kind statements) ≡ length (filter_map node_name statements)
as_many_nodes [] = refl
as_many_nodes (Sim end ∷ statements) = as_many_nodes statements
as_many_nodes (Node name kind ∷ statements) = ap suc (as_many_nodes statements)
as_many_nodes (Link name link ∷ statements) = as_many_nodes statements
as_many_nodes (Flow name flow ∷ statements) = as_many_nodes statements
as_many_nodes (Route route ∷ statements) = as_many_nodes statements
as_many_nodes (Lose lose ∷ statements) = as_many_nodes statements

as_many_links : (statements : List Statement) → length (filter_map link_line statements) ≡ length (filter_map link_name statements)
as_many_links [] = refl
as_many_links (Sim end ∷ statements) = as_many_links statements
as_many_links (Node name kind ∷ statements) = as_many_links statements
as_many_links (Link name link ∷ statements) = ap suc (as_many_links statements)
as_many_links (Flow name flow ∷ statements) = as_many_links statements
as_many_links (Route route ∷ statements) = as_many_links statements
as_many_links (Lose lose ∷ statements) = as_many_links statements

-- the number of a name among names, and one more
among_from : (first : ℕ) (names : List Word) (name word : Word) → position_from (λ n. bytes_eq n word) first (names ++ name ∷ []) ≡ option_or (position_from (λ n. bytes_eq n word) first names) (if bytes_eq name word then Some (first + length names) else None)
among_from first [] name word = let place : first ≡ first + 0 = omega arith in ap (λ k. cond (bytes_eq name word) (Some k) None) place
among_from first (n ∷ names) name word =
    let place : (first + 1) + length names ≡ first + suc (length names) = omega arith in
    elim (cases_Bool (bytes_eq n word)) [
      | inl is ↦ simp is
      | inr isn't ↦ let rest = among_from (first + 1) names name word in simp isn't (rest ∙ ap (λ k. option_or (position_from (λ m. bytes_eq m word) (first + 1) names) (if bytes_eq name word then Some k else None)) place)
    ]

among_push : (names : List Word) (name word : Word) → number_among (names ++ name ∷ []) word ≡ option_or (number_among names word) (if bytes_eq name word then Some (length names) else None)
among_push names name word = let place : 0 + length names ≡ length names = omega arith in among_from 0 names name word ∙ ap (λ k. option_or (number_among names word) (if bytes_eq name word then Some k else None)) place

-- a free name is that of nothing
none_of : (o : Option Item) → is_some o ≡ false → o ≡ None
none_of None free = refl
none_of (Some item) free = absurd (let never : true ≡ false = free in cc)

free_at : (statements : List Statement) (name word : Word) → is_some (item_of statements name) ≡ false → bytes_eq name word ≡ true → item_of statements word ≡ None
free_at statements name word free same =
    let is : name ≡ word = (bytes_eq-Decides name word).0 same in
    ap (item_of statements) (sym is) ∙ none_of (item_of statements name) free

-- an item is what it was, or the one that is declared
node_case : (t : Bool) (number : Option ℕ) (rest : Option Item) (n : ℕ) → (t ≡ true → option_or (option_map (λ k. node_item k) number) rest ≡ None) → cond t (Some (node_item n)) (option_or (option_map (λ k. node_item k) number) rest) ≡ option_or (option_map (λ k. node_item k) (option_or number (if t then Some n else None))) rest
node_case true None None n free = refl
node_case true None (Some item) n free = absurd (let never : Some item ≡ None = free refl in cc)
node_case true (Some k) rest n free = absurd (let never : Some (node_item k) ≡ None = free refl in cc)
node_case false None rest n free = refl
node_case false (Some k) rest n free = refl

link_case : (t : Bool) (first : Option Item) (number : Option ℕ) (rest : Option Item) (n : ℕ) → (t ≡ true → option_or first (option_or (option_map (λ k. link_item k) number) rest) ≡ None) → cond t (Some (link_item n)) (option_or first (option_or (option_map (λ k. link_item k) number) rest)) ≡ option_or first (option_or (option_map (λ k. link_item k) (option_or number (if t then Some n else None))) rest)
link_case true None None None n free = refl
link_case true None None (Some item) n free = absurd (let never : Some item ≡ None = free refl in cc)
link_case true None (Some k) rest n free = absurd (let never : Some (link_item k) ≡ None = free refl in cc)
link_case true (Some item) number rest n free = absurd (let never : Some item ≡ None = free refl in cc)
link_case false first None rest n free = refl
link_case false first (Some k) rest n free = refl

flow_case : (t known : Bool) (first second : Option Item) → (t ≡ true → option_or first (option_or second (if known then Some flow_item else None)) ≡ None) → cond t (Some flow_item) (option_or first (option_or second (if known then Some flow_item else None))) ≡ option_or first (option_or second (if known || (t || false) then Some flow_item else None))
flow_case true known (Some item) second free = absurd (let never : Some item ≡ None = free refl in cc)
flow_case true known None (Some item) free = absurd (let never : Some item ≡ None = free refl in cc)
flow_case true true None None free = refl
flow_case true false None None free = refl
flow_case false true first second free = refl
flow_case false false first second free = refl

-- what names are the names of, after one more statement
same_item : (statements : List Statement) (s : Statement) → node_name s ≡ None → link_name s ≡ None → flow_name s ≡ None → item_of statements ≡ item_of (statements ++ s ∷ [])
same_item statements s no_node no_link no_flow =
    let nodes = none_more node_name statements s no_node in
    let links = none_more link_name statements s no_link in
    let flows = none_more flow_name statements s no_flow in
    sym (ap (λ names. items_by names (filter_map link_name (statements ++ s ∷ [])) (filter_map flow_name (statements ++ s ∷ []))) nodes
    ∙ (ap (λ names. items_by (filter_map node_name statements) names (filter_map flow_name (statements ++ s ∷ []))) links
    ∙ ap (λ names. items_by (filter_map node_name statements) (filter_map link_name statements) names) flows))

node_item_of : (statements : List Statement) (name : Word) (kind : NodeKind) → is_some (item_of statements name) ≡ false → update bytes_eq (item_of statements) name (Some (node_item (length (filter_map node_kind statements)))) ≡ item_of (statements ++ Node name kind ∷ [])
node_item_of statements name kind free =
    let s : Statement = Node name kind in
    let nodes = some_more node_name statements s name refl in
    let links = none_more link_name statements s refl in
    let flows = none_more flow_name statements s refl in
    fun_ext (λ word.
    node_case (bytes_eq name word) (number_among (filter_map node_name statements) word) _ (length (filter_map node_kind statements)) (free_at statements name word free)
    ∙ (ap (λ k. option_or (option_map (λ n. node_item n) (option_or (number_among (filter_map node_name statements) word) (if bytes_eq name word then Some k else None))) (option_or (option_map (λ n. link_item n) (number_among (filter_map link_name statements) word)) (flow_among (filter_map flow_name statements) word))) (as_many_nodes statements)
    ∙ (ap (λ o. option_or (option_map (λ n. node_item n) o) (option_or (option_map (λ n. link_item n) (number_among (filter_map link_name statements) word)) (flow_among (filter_map flow_name statements) word))) (sym (among_push (filter_map node_name statements) name word))
    ∙ (ap (λ names. items_by names (filter_map link_name statements) (filter_map flow_name statements) word) (sym nodes)
    ∙ (ap (λ names. items_by (filter_map node_name (statements ++ s ∷ [])) names (filter_map flow_name statements) word) (sym links)
    ∙ ap (λ names. items_by (filter_map node_name (statements ++ s ∷ [])) (filter_map link_name (statements ++ s ∷ [])) names word) (sym flows))))))

link_item_of : (statements : List Statement) (name : Word) (line : LinkLine) → is_some (item_of statements name) ≡ false → update bytes_eq (item_of statements) name (Some (link_item (length (links_of statements)))) ≡ item_of (statements ++ Link name line ∷ [])
link_item_of statements name line free =
    let s : Statement = Link name line in
    let nodes = none_more node_name statements s refl in
    let links = some_more link_name statements s name refl in
    let flows = none_more flow_name statements s refl in
    fun_ext (λ word.
    link_case (bytes_eq name word) (option_map (λ n. node_item n) (number_among (filter_map node_name statements) word)) (number_among (filter_map link_name statements) word) _ (length (links_of statements)) (free_at statements name word free)
    ∙ (ap (λ k. option_or (option_map (λ n. node_item n) (number_among (filter_map node_name statements) word)) (option_or (option_map (λ n. link_item n) (option_or (number_among (filter_map link_name statements) word) (if bytes_eq name word then Some k else None))) (flow_among (filter_map flow_name statements) word))) (length_links statements ∙ as_many_links statements)
    ∙ (ap (λ o. option_or (option_map (λ n. node_item n) (number_among (filter_map node_name statements) word)) (option_or (option_map (λ n. link_item n) o) (flow_among (filter_map flow_name statements) word))) (sym (among_push (filter_map link_name statements) name word))
    ∙ (ap (λ names. items_by names (filter_map link_name statements ++ name ∷ []) (filter_map flow_name statements) word) (sym nodes)
    ∙ (ap (λ names. items_by (filter_map node_name (statements ++ s ∷ [])) names (filter_map flow_name statements) word) (sym links)
    ∙ ap (λ names. items_by (filter_map node_name (statements ++ s ∷ [])) (filter_map link_name (statements ++ s ∷ [])) names word) (sym flows))))))

flow_item_of : (statements : List Statement) (name : Word) (part : FlowPart) → is_some (item_of statements name) ≡ false → update bytes_eq (item_of statements) name (Some flow_item) ≡ item_of (statements ++ Flow name part ∷ [])
flow_item_of statements name part free =
    let s : Statement = Flow name part in
    let nodes = none_more node_name statements s refl in
    let links = none_more link_name statements s refl in
    let flows = some_more flow_name statements s name refl in
    fun_ext (λ word.
    flow_case (bytes_eq name word) (list_any (λ n. bytes_eq n word) (filter_map flow_name statements)) _ _ (free_at statements name word free)
    ∙ (ap (λ t. option_or (option_map (λ n. node_item n) (number_among (filter_map node_name statements) word)) (option_or (option_map (λ n. link_item n) (number_among (filter_map link_name statements) word)) (if t then Some flow_item else None))) (sym (list_any-append (λ n. bytes_eq n word) (filter_map flow_name statements) (name ∷ [])))
    ∙ (ap (λ names. items_by names (filter_map link_name statements) (filter_map flow_name statements ++ name ∷ []) word) (sym nodes)
    ∙ (ap (λ names. items_by (filter_map node_name (statements ++ s ∷ [])) names (filter_map flow_name statements ++ name ∷ []) word) (sym links)
    ∙ ap (λ names. items_by (filter_map node_name (statements ++ s ∷ [])) (filter_map link_name (statements ++ s ∷ [])) names word) (sym flows)))))

-- what statements declare, field by field
known_is : (statements : List Statement) (item : Word → Option Item) (kinds : List NodeKind) (links : List LinkPart) (flows : List FlowPart) (routes : List RoutePart) → item ≡ item_of statements → kinds ≡ filter_map node_kind statements → links ≡ links_of statements → flows ≡ filter_map flow_part statements → routes ≡ routes_of statements → record { item = item; kinds = kinds; links = links; flows = flows; routes = routes } ≡ known_of statements
known_is statements item kinds links flows routes a b c d e =
    ap (λ f. record { item = f; kinds = kinds; links = links; flows = flows; routes = routes }) a
    ∙ (ap (λ l. record { item = item_of statements; kinds = l; links = links; flows = flows; routes = routes }) b
    ∙ (ap (λ l. record { item = item_of statements; kinds = filter_map node_kind statements; links = l; flows = flows; routes = routes }) c
    ∙ (ap (λ l. record { item = item_of statements; kinds = filter_map node_kind statements; links = links_of statements; flows = l; routes = routes }) d
    ∙ ap (λ l. record { item = item_of statements; kinds = filter_map node_kind statements; links = links_of statements; flows = filter_map flow_part statements; routes = l }) e)))

-- the routes after a statement that is none, and after one that is
same_routes : (statements : List Statement) (s : Statement) → route_part s ≡ None → routes_of statements ≡ routes_of (statements ++ s ∷ [])
same_routes statements s none = ap rising (sym (none_more route_part statements s none))

more_routes : (statements : List Statement) (route : RoutePart) → placed (routes_of statements) route ≡ routes_of (statements ++ Route route ∷ [])
more_routes statements route = sym (fold-append placed [] (filter_map route_part statements) (route ∷ [])) ∙ ap rising (sym (some_more route_part statements (Route route) route refl))

-- what is known after each sort of statement
pub sim_known : (statements : List Statement) (end : ℕ) → known_of statements ≡ known_of (statements ++ Sim end ∷ [])
sim_known statements end =
    let s : Statement = Sim end in
    known_is (statements ++ s ∷ []) _ _ _ _ _ (same_item statements s refl refl refl) (sym (none_more node_kind statements s refl)) (sym (same_links statements s refl (λ k. refl))) (sym (none_more flow_part statements s refl)) (same_routes statements s refl)

pub node_known : (statements : List Statement) (name : Word) (kind : NodeKind) → is_taken (known_of statements) name ≡ false → with_node (known_of statements) name kind ≡ known_of (statements ++ Node name kind ∷ [])
node_known statements name kind free =
    let s : Statement = Node name kind in
    known_is (statements ++ s ∷ []) _ _ _ _ _ (node_item_of statements name kind free) (sym (some_more node_kind statements s kind refl)) (sym (same_links statements s refl (λ k. refl))) (sym (none_more flow_part statements s refl)) (same_routes statements s refl)

pub link_known : (statements : List Statement) (name : Word) (line : LinkLine) → is_taken (known_of statements) name ≡ false → AreLostOfLinks statements → with_link (known_of statements) name (losing_link_part line []) ≡ known_of (statements ++ Link name line ∷ [])
link_known statements name line free lost =
    let s : Statement = Link name line in
    known_is (statements ++ s ∷ []) _ _ _ _ _ (link_item_of statements name line free) (sym (none_more node_kind statements s refl)) (sym (more_links statements name line lost)) (sym (none_more flow_part statements s refl)) (same_routes statements s refl)

pub flow_known : (statements : List Statement) (name : Word) (part : FlowPart) → is_taken (known_of statements) name ≡ false → with_flow (known_of statements) name part ≡ known_of (statements ++ Flow name part ∷ [])
flow_known statements name part free =
    let s : Statement = Flow name part in
    known_is (statements ++ s ∷ []) _ _ _ _ _ (flow_item_of statements name part free) (sym (none_more node_kind statements s refl)) (sym (same_links statements s refl (λ k. refl))) (sym (some_more flow_part statements s part refl)) (same_routes statements s refl)

pub route_known : (statements : List Statement) (route : RoutePart) → record (known_of statements) { routes = placed (routes_of statements) route } ≡ known_of (statements ++ Route route ∷ [])
route_known statements route =
    let s : Statement = Route route in
    known_is (statements ++ s ∷ []) _ _ _ _ _ (same_item statements s refl refl refl) (sym (none_more node_kind statements s refl)) (sym (same_links statements s refl (λ k. refl))) (sym (none_more flow_part statements s refl)) (more_routes statements route)

pub lose_known : (statements : List Statement) (lose : LoseLine) (part : LinkPart) → slice_get (links_of statements) lose.link ≡ Some part → record (known_of statements) { links = set (links_of statements) lose.link (record part { lose = part.lose ++ lose.number ∷ [] }) } ≡ known_of (statements ++ Lose lose ∷ [])
lose_known statements lose part found =
    let s : Statement = Lose lose in
    known_is (statements ++ s ∷ []) _ _ _ _ _ (same_item statements s refl refl refl) (sym (none_more node_kind statements s refl)) (lose_links statements lose part found) (sym (none_more flow_part statements s refl)) (same_routes statements s refl)

-- the ends after a statement that is none, and after one that is
pub same_ends : (statements : List Statement) (s : Statement) → said_end s ≡ None → filter_map said_end statements ≡ filter_map said_end (statements ++ s ∷ [])
same_ends statements s none = sym (none_more said_end statements s none)

pub more_ends : (statements : List Statement) (s : Statement) (end : ℕ) → said_end s ≡ Some end → filter_map said_end statements ++ end ∷ [] ≡ filter_map said_end (statements ++ s ∷ [])
more_ends statements s end some = sym (some_more said_end statements s end some)

-- the statements after a line without one, and after a line with one
pub statements_blank : (said : List (Option Statement)) → statements_of (said ++ None ∷ []) ≡ statements_of said
statements_blank said = none_more (λ s. s) said None refl

pub statements_more : (said : List (Option Statement)) (statement : Statement) → statements_of (said ++ Some statement ∷ []) ≡ statements_of said ++ statement ∷ []
statements_more said statement = some_more (λ s. s) said (Some statement) statement refl
