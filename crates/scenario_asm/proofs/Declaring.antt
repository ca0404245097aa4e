-- The names of a text are the second words of its lines.
use Rattle.std.proofs.Common.{◌≡◌, ◌≤◌, ◌<◌, ℕ, suc, ◌==◌, ◌||◌, Bool, true, false, if◌then◌else◌, List, [], ◌∷◌, ◌++◌, length, take, get_or, Option, Some, None, Result, Ok, Err, refl, ap, sym, ◌∙◌, subst, arith, inl, inr, append_assoc}
use Rattle.std.specs.Prelude.{codes, nat_le, unwrap_or, map, is_some, IfSome, IfNone}
use Rattle.std.specs.Option.{option_and_then}
use Rattle.std.specs.List.{filter_map, cons_option, slice_get, list_all}
use Rattle.std.proofs.lemmas.List.{append-nil}
use Rattle.std.specs.Str.{bytes_eq}
use Rattle.std.proofs.lemmas.Bool.{cases_Bool, eqb-true}
use Rattle.std.proofs.lemmas.Slice.Eq.{bytes_eq-Decides}
use Rattle.sim_time.specs.declared.limits.TheConstants.{LATEST_END}
use Rattle.scenario_image.specs.declared.limits.TheConstants.{MOST_NODES, MOST_LINKS, MOST_FLOWS, MOST_LOSE}
use Rattle.scenario_image.specs.declared.parts.NodeKind.TheVariants.{Router}
use Rattle.scenario_asm.specs.declared.fault.Fault.{Fault}
use Rattle.scenario_asm.specs.declared.fault.Fault.TheVariants.{E1, E2, E3}
use Rattle.scenario_asm.specs.declared.statement.Statement.{Statement}
use Rattle.scenario_asm.specs.declared.statement.Statement.TheVariants.{Sim, Node, Link, Flow, Route, Lose}
use Rattle.scenario_asm.specs.Lines.{Word, words_of, lines_of_text, is_printable}
use Rattle.scenario_asm.specs.Numbers.{number, number_verdict}
use Rattle.scenario_asm.specs.Names.{Known, number_of, lost_of, is_full_router}
use Rattle.scenario_asm.specs.Statements.{nth, is_drop_tail, is_codel, kind_named, link_said, flow_said, node_verdicts, link_verdicts, flow_verdicts, route_verdicts, lose_verdicts, sim_at, node_statement, link_statement, flow_at, route_at, lose_at, statement_at, as_said, line_at}
use Rattle.scenario_asm.specs.Text.{node_name, link_name, flow_name, known_of, parts_of_statements}
use Rattle.scenario_asm.specs.Meaning.{AreRead, statements_of, HaveEnd}
use Rattle.scenario_asm.specs.Verdicts.{Verdict, judged_line}
use Rattle.scenario_asm.specs.Declarations.{second_after, seconds_after, MakeParts, GiveParts, DeclaresParts, Declares}
use Rattle.scenario_image.specs.declared.parts.ScenarioParts.{ScenarioParts}
use Rattle.scenario_asm.specs.declared.draft.Draft.{Draft}
use Rattle.scenario_asm.specs.declared.lines.RefusedLine.{RefusedLine}
use Rattle.scenario_asm.specs.declared.named_parts.NamedParts.{NamedParts}
use Rattle.scenario_asm.specs.Draft.{Holds}
use Rattle.scenario_asm.specs.Refusals.{fault_in, AllRead, IsRefusedLine}
use Rattle.scenario_asm.proofs.OneMeaning.{none_faulty, all_said, one_end}
use Rattle.scenario_asm.proofs.Right.{judged_says, ok_is, err_not}

-- a statement of these words: the first is its own, and the second is the name that it declares
abbrev IsOf : List Word → Statement → Type 0
IsOf words (Sim end) = nth words 0 ≡ codes "sim"
IsOf words (Node name kind) = (nth words 0 ≡ codes "node") × (slice_get words 1 ≡ Some name)
IsOf words (Link name line) = (nth words 0 ≡ codes "link") × (slice_get words 1 ≡ Some name)
IsOf words (Flow name part) = (nth words 0 ≡ codes "flow") × (slice_get words 1 ≡ Some name)
IsOf words (Route route) = nth words 0 ≡ codes "route"
IsOf words (Lose lose) = nth words 0 ≡ codes "lose"

word_is : (word other : Word) → bytes_eq word other ≡ true → word ≡ other
word_is word other same = (bytes_eq-Decides word other).0 same

second_there : (words : List Word) → 2 ≤ length words → slice_get words 1 ≡ Some (nth words 1)
second_there [] many = absurd (omega arith)
second_there (word ∷ []) many = absurd (omega arith)
second_there (word ∷ other ∷ words) many = refl

counted_says : {A : Type 0} (counted : Bool) (verdicts : List Verdict) (full : Bool) (value x : A) → judged_line counted verdicts full value ≡ Ok x → counted ≡ true
counted_says true verdicts full value x is = refl
counted_says false verdicts full value x is = absurd (err_not E3 x is)

-- as many words as there are to be are two at least
many_are : (n k : ℕ) → 2 ≤ k → (n == k) ≡ true → 2 ≤ n
many_are n k many is = subst (λ m. 2 ≤ m) (sym (eqb-true n k is)) many

either_many : (a b : Bool) (n : ℕ) → (a ≡ true → 2 ≤ n) → (b ≡ true → 2 ≤ n) → (a || b) ≡ true → 2 ≤ n
either_many true b n first second is = first refl
either_many false b n first second is = second is

length_many : (t u : Bool) (n : ℕ) → (if t then n == 8 else (if u then n == 11 else (n == 8 || n == 11))) ≡ true → 2 ≤ n
length_many true u n is = many_are n 8 (omega arith) is
length_many false true n is = many_are n 11 (omega arith) is
length_many false false n is = either_many (n == 8) (n == 11) n (many_are n 8 (omega arith)) (many_are n 11 (omega arith)) is

node_of : (known : Known) (words : List Word) (s : Statement) → nth words 0 ≡ codes "node" → node_statement known words ≡ Ok s → IsOf words s
node_of known words s first says =
    let full = nat_le MOST_NODES (length known.kinds) in
    let value = Node (nth words 1) (unwrap_or (kind_named (nth words 2)) Router) in
    let many = many_are (length words) 3 (omega arith) (counted_says _ (node_verdicts known words) full value s says) in
    let it : IsOf words value = (first, second_there words many) in
    subst (IsOf words) (judged_says _ (node_verdicts known words) full value s says).1 it

link_of : (known : Known) (words : List Word) (s : Statement) → nth words 0 ≡ codes "link" → link_statement known words ≡ Ok s → IsOf words s
link_of known words s first says =
    let full = nat_le MOST_LINKS (length known.links) || is_full_router known (number_of known (nth words 2)) in
    let value = Link (nth words 1) (link_said known words) in
    let many = length_many (is_drop_tail words) (is_codel words) (length words) (counted_says _ (link_verdicts known words) full value s says) in
    let it : IsOf words value = (first, second_there words many) in
    subst (IsOf words) (judged_says _ (link_verdicts known words) full value s says).1 it

flow_of : (known : Known) (words : List Word) (s : Statement) → nth words 0 ≡ codes "flow" → flow_at known words ≡ Ok s → IsOf words s
flow_of known words s first says =
    let full = nat_le MOST_FLOWS (length known.flows) in
    let value = Flow (nth words 1) (flow_said known words) in
    let many = either_many (length words == 9) (length words == 11) (length words) (many_are (length words) 9 (omega arith)) (many_are (length words) 11 (omega arith)) (counted_says _ (flow_verdicts known words) full value s says) in
    let it : IsOf words value = (first, second_there words many) in
    subst (IsOf words) (judged_says _ (flow_verdicts known words) full value s says).1 it

route_of : (known : Known) (words : List Word) (s : Statement) → nth words 0 ≡ codes "route" → route_at known words ≡ Ok s → IsOf words s
route_of known words s first says =
    let value = Route (record { router = number_of known (nth words 1); destination = number_of known (nth words 2); link = number_of known (nth words 3) }) in
    let it : IsOf words value = first in
    subst (IsOf words) (judged_says (length words == 4) (route_verdicts known words) false value s says).1 it

lose_of : (known : Known) (words : List Word) (s : Statement) → nth words 0 ≡ codes "lose" → lose_at known words ≡ Ok s → IsOf words s
lose_of known words s first says =
    let value = Lose (record { link = number_of known (nth words 1); number = number (nth words 2) }) in
    let it : IsOf words value = first in
    subst (IsOf words) (judged_says (length words == 3) (lose_verdicts known words) (nat_le MOST_LOSE (length (lost_of known (number_of known (nth words 1))))) value s says).1 it

sim_of : (words : List Word) (s : Statement) → nth words 0 ≡ codes "sim" → sim_at words ≡ Ok s → IsOf words s
sim_of words s first says =
    let value = Sim (number (nth words 1)) in
    let it : IsOf words value = first in
    subst (IsOf words) (judged_says (length words == 2) (number_verdict 1 LATEST_END (nth words 1) ∷ []) false value s says).1 it

if_says : {P : Type 0} (word other : Word) (a b : Result Statement Fault) (s : Statement) → (word ≡ other → a ≡ Ok s → P) → (b ≡ Ok s → P) → (if bytes_eq word other then a else b) ≡ Ok s → P
if_says word other a b s first second is =
    elim (cases_Bool (bytes_eq word other)) [
      | inl same ↦ first (word_is word other same) (sym (ap (λ t. if t then a else b) same) ∙ is)
      | inr apart ↦ second (sym (ap (λ t. if t then a else b) apart) ∙ is)
    ]

statement_of : (known : Known) (words : List Word) (s : Statement) → statement_at known words ≡ Ok s → IsOf words s
statement_of known words s =
    if_says (nth words 0) (codes "sim") _ _ s (sim_of words s)
    (if_says (nth words 0) (codes "node") _ _ s (node_of known words s)
    (if_says (nth words 0) (codes "link") _ _ s (link_of known words s)
    (if_says (nth words 0) (codes "flow") _ _ s (flow_of known words s)
    (if_says (nth words 0) (codes "route") _ _ s (route_of known words s) (if_says (nth words 0) (codes "lose") _ _ s (lose_of known words s) (λ is. absurd (err_not E2 s is)))))))

-- the second word behind a first one
second_by : (first word : Word) (words : List Word) → nth words 0 ≡ word → second_after first words ≡ (if bytes_eq word first then slice_get words 1 else None)
second_by first word words is = ap (λ w. if bytes_eq w first then slice_get words 1 else None) is

node_second : (words : List Word) (s : Statement) → IsOf words s → second_after (codes "node") words ≡ node_name s
node_second words (Sim end) is = second_by (codes "node") _ words is
node_second words (Node name kind) is = second_by (codes "node") _ words is.0 ∙ is.1
node_second words (Link name line) is = second_by (codes "node") _ words is.0
node_second words (Flow name part) is = second_by (codes "node") _ words is.0
node_second words (Route route) is = second_by (codes "node") _ words is
node_second words (Lose lose) is = second_by (codes "node") _ words is

link_second : (words : List Word) (s : Statement) → IsOf words s → second_after (codes "link") words ≡ link_name s
link_second words (Sim end) is = second_by (codes "link") _ words is
link_second words (Node name kind) is = second_by (codes "link") _ words is.0
link_second words (Link name line) is = second_by (codes "link") _ words is.0 ∙ is.1
link_second words (Flow name part) is = second_by (codes "link") _ words is.0
link_second words (Route route) is = second_by (codes "link") _ words is
link_second words (Lose lose) is = second_by (codes "link") _ words is

flow_second : (words : List Word) (s : Statement) → IsOf words s → second_after (codes "flow") words ≡ flow_name s
flow_second words (Sim end) is = second_by (codes "flow") _ words is
flow_second words (Node name kind) is = second_by (codes "flow") _ words is.0
flow_second words (Link name line) is = second_by (codes "flow") _ words is.0
flow_second words (Flow name part) is = second_by (codes "flow") _ words is.0 ∙ is.1
flow_second words (Route route) is = second_by (codes "flow") _ words is
flow_second words (Lose lose) is = second_by (codes "flow") _ words is

-- what a line's second word is, by what the line says
abbrev Seconds : Word → (Statement → Option Word) → Type 0
Seconds first name = (words : List Word) (s : Statement) → IsOf words s → second_after first words ≡ name s

either_none : (t : Bool) → ◌≡◌ {A = Option Word} (if t then None else None) None
either_none true = refl
either_none false = refl

no_words : (words : List Word) (first : Word) → (length words == 0) ≡ true → second_after first words ≡ None
no_words [] first none = either_none (bytes_eq [] first)
no_words (word ∷ words) first none = absurd (let same : suc (length words) ≡ 0 = eqb-true (suc (length words)) 0 none in omega arith)

said_second : (first : Word) (name : Statement → Option Word) → Seconds first name → (known : Known) (words : List Word) (read : Result Statement Fault) (said : Option Statement) → ((s : Statement) → read ≡ Ok s → IsOf words s) → as_said read ≡ Ok said → second_after first words ≡ option_and_then name said
said_second first name seconds known words (Ok s) said right is = seconds words s (right s refl) ∙ ap (λ o. option_and_then name o) (ok_is (Some s) said is)
said_second first name seconds known words (Err fault) said right is = absurd (err_not fault said is)

line_second : (first : Word) (name : Statement → Option Word) → Seconds first name → (known : Known) (line : List ℕ) (said : Option Statement) → line_at known line ≡ Ok said → second_after first (words_of line) ≡ option_and_then name said
unfolding line_at
line_second first name seconds known line said is =
    elim (cases_Bool (list_all is_printable line)) [
      | inl clean ↦
          elim (cases_Bool (length (words_of line) == 0)) [
            | inl none ↦
                let nothing : ◌≡◌ {A = Result (Option Statement) Fault} (Ok None) (Ok said) = sym (simp (clean, none)) ∙ is in
                no_words (words_of line) first none ∙ ap (λ o. option_and_then name o) (ok_is None said nothing)
            | inr some ↦
                let says : line_at known line ≡ as_said (statement_at known (words_of line)) = simp (clean, some) in
                said_second first name seconds known (words_of line) (statement_at known (words_of line)) said (statement_of known (words_of line)) (sym says ∙ is)
          ]
      | inr unclean ↦ let faulty : ◌≡◌ {A = Result (Option Statement) Fault} (Err E1) (Ok said) = sym (simp unclean) ∙ is in absurd (err_not E1 said faulty)
    ]

-- the first twelve words have the second that all have
first_two : (first : Word) (words : List Word) → second_after first (take 12 words) ≡ second_after first words
first_two first [] = refl
first_two first (word ∷ []) = refl
first_two first (word ∷ other ∷ words) = refl

line_two : (first : Word) (line : List ℕ) (words : List Word) → words ≡ take 12 (words_of line) → second_after first words ≡ second_after first (words_of line)
line_two first line words is = ap (λ l. second_after first l) is ∙ first_two first (words_of line)

cons_before : (o : Option Word) (xs : List Word) → cons_option o [] ++ xs ≡ cons_option o xs
cons_before None xs = refl
cons_before (Some x) xs = refl

-- after one more line
pub seconds_more : (first : Word) (found new whole : List Word) (all : List (List ℕ)) (line : List ℕ) (rest : List (List ℕ)) (words : List Word) → found ++ seconds_after first all ≡ whole → all ≡ line ∷ rest → words ≡ take 12 (words_of line) → new ≡ found ++ cons_option (second_after first words) [] → new ++ seconds_after first rest ≡ whole
seconds_more first found new whole all line rest words so is front more =
    let here : new ≡ found ++ cons_option (second_after first (words_of line)) [] = more ∙ ap (λ o. found ++ cons_option o []) (line_two first line words front) in
    ap (λ l. l ++ seconds_after first rest) here ∙ (append_assoc found (cons_option (second_after first (words_of line)) []) (seconds_after first rest) ∙ (ap (λ l. found ++ l) (cons_before (second_after first (words_of line)) (seconds_after first rest)) ∙ (ap (λ l. found ++ seconds_after first l) (sym is) ∙ so)))

-- all of them
pub seconds_all : (first : Word) (found whole : List Word) (all : List (List ℕ)) → found ++ seconds_after first all ≡ whole → all ≡ [] → found ≡ whole
seconds_all first found whole all so is = sym (append-nil found) ∙ (ap (λ l. found ++ seconds_after first l) (sym is) ∙ so)

-- lines that are read, and what is made of each and of what it says
read_same : (lines : List (List ℕ)) (said : List (Option Statement)) (f : List ℕ → Option Word) (g : Option Statement → Option Word) → length said ≡ length lines → ((k : ℕ) → k < length lines → f (get_or lines k []) ≡ g (get_or said k None)) → filter_map f lines ≡ filter_map g said
read_same [] [] f g many same = refl
read_same [] (says ∷ said) f g many same = absurd (omega arith)
read_same (line ∷ lines) [] f g many same = absurd (omega arith)
read_same (line ∷ lines) (says ∷ said) f g many same =
    let first : f line ≡ g says = same 0 (omega arith) in
    let rest : filter_map f lines ≡ filter_map g said = read_same lines said f g (omega arith) (λ k lt. same (suc k) (omega arith)) in
    ap (λ o. cons_option o (filter_map f lines)) first ∙ ap (λ l. cons_option (g says) l) rest

-- of what is said, and of the statements among it
said_names : (name : Statement → Option Word) (said : List (Option Statement)) → filter_map (λ says. option_and_then name says) said ≡ filter_map name (statements_of said)
said_names name [] = refl
said_names name (None ∷ said) = said_names name said
said_names name (Some s ∷ said) = ap (λ l. cons_option (name s) l) (said_names name said)

text_names : (first : Word) (name : Statement → Option Word) → Seconds first name → (lines : List (List ℕ)) (said : List (Option Statement)) → AreRead lines said → seconds_after first lines ≡ filter_map name (statements_of said)
text_names first name seconds lines said read =
    read_same lines said (λ line. second_after first (words_of line)) (λ says. option_and_then name says) read.as_many (λ k lt. line_second first name seconds (known_of (statements_of (take k said))) (get_or lines k []) (get_or said k None) (read.each k lt))
    ∙ said_names name said

pub node_names : (lines : List (List ℕ)) (said : List (Option Statement)) → AreRead lines said → seconds_after (codes "node") lines ≡ filter_map node_name (statements_of said)
node_names = text_names (codes "node") node_name node_second

pub link_names : (lines : List (List ℕ)) (said : List (Option Statement)) → AreRead lines said → seconds_after (codes "link") lines ≡ filter_map link_name (statements_of said)
link_names = text_names (codes "link") link_name link_second

pub flow_names : (lines : List (List ℕ)) (said : List (Option Statement)) → AreRead lines said → seconds_after (codes "flow") lines ≡ filter_map flow_name (statements_of said)
flow_names = text_names (codes "flow") flow_name flow_second

-- where a line is refused, nothing is declared
pub none_declared : (text : List ℕ) (found : Option RefusedLine) → is_some found ≡ true → IfSome found (IsRefusedLine text) → (parts : ScenarioParts) → DeclaresParts text parts → ⊥
none_declared text (Some refused) some is parts declares = none_faulty text refused.number (fault_in refused.refusal) declares.said is.first declares.all_read
none_declared text None some is parts declares = let never : false ≡ true = some in cc

-- and where none is, all are read
pub all_declare : (text : List ℕ) (draft : Draft) (found : Option RefusedLine) → is_some found ≡ false → IfNone found (AllRead text draft) → AllRead text draft
all_declare text draft (Some refused) none all = absurd (let never : true ≡ false = none in cc)
all_declare text draft None none all = all

-- what is declared with one end, and that nothing is with another number of ends
abbrev Gives : Draft → Option ScenarioParts → Type 0
Gives draft found = (statements : List Statement) → Holds draft statements → GiveParts statements found

given : (draft : Draft) (found : Option ScenarioParts) (parts : ScenarioParts) (statements : List Statement) → found ≡ Some parts → Gives draft found → Holds draft statements → MakeParts statements parts
given draft found parts statements is gives held = let P : Option ScenarioParts → Type 0 = λ o. GiveParts statements o in let there : P (Some parts) = subst P is (gives statements held) in there

pub declared : (text : List ℕ) (draft : Draft) (found : Option ScenarioParts) (parts : ScenarioParts) → found ≡ Some parts → Gives draft found → AllRead text draft → DeclaresParts text parts
declared text draft found parts is gives all = record { said = all.said; all_read = all.read; made = given draft found parts (statements_of all.said) is gives all.holds }

pub no_end : (text : List ℕ) (draft : Draft) (found : Option ScenarioParts) → found ≡ None → Gives draft found → AllRead text draft → (parts : ScenarioParts) → DeclaresParts text parts → ⊥
no_end text draft found is gives all parts declares =
    let P : Option ScenarioParts → Type 0 = λ o. GiveParts (statements_of all.said) o in
    let none : P None = subst P is (gives (statements_of all.said) all.holds) in
    let same : declares.said ≡ all.said = all_said (lines_of_text text) declares.said all.said declares.all_read all.read in
    let Q : List (Option Statement) → Type 0 = λ s. HaveEnd (statements_of s) declares.made.end in
    none declares.made.end (subst Q same declares.made.one_end)

-- a text declares one thing
pub one_declared : (text : List ℕ) (p q : ScenarioParts) → DeclaresParts text p → DeclaresParts text q → p ≡ q
one_declared text p q a b =
    let same : a.said ≡ b.said = all_said (lines_of_text text) a.said b.said a.all_read b.all_read in
    let Q : List (Option Statement) → Type 0 = λ s. HaveEnd (statements_of s) a.made.end in
    let ends : a.made.end ≡ b.made.end = one_end (statements_of b.said) a.made.end b.made.end (subst Q same a.made.one_end) b.made.one_end in
    a.made.parts_are ∙ (ap (λ s. parts_of_statements a.made.end (statements_of s)) same ∙ (ap (λ e. parts_of_statements e (statements_of b.said)) ends ∙ sym b.made.parts_are))

-- the parts with the names
pub names_declared : (text : List ℕ) (named : NamedParts) → DeclaresParts text named.parts → map (λ name. name.now) named.nodes.items ≡ seconds_after (codes "node") (lines_of_text text) → map (λ name. name.now) named.links.items ≡ seconds_after (codes "link") (lines_of_text text) → map (λ name. name.now) named.flows.items ≡ seconds_after (codes "flow") (lines_of_text text) → Declares text named
names_declared text named parts nodes links flows =
    record {
      parts = parts;
      nodes = nodes ∙ node_names (lines_of_text text) parts.said parts.all_read;
      links = links ∙ link_names (lines_of_text text) parts.said parts.all_read;
      flows = flows ∙ flow_names (lines_of_text text) parts.said parts.all_read;
    }
