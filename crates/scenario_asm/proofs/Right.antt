-- What a line says without a fault is right.
use Rattle.std.proofs.Common.{◌≡◌, ◌<◌, ℕ, ◌==◌, ◌&&◌, ◌||◌, not, nat_le, Bool, true, false, if◌then◌else◌, List, [], ◌∷◌, ◌++◌, length, is_some, option_map, Option, Some, None, Result, Ok, Err, ap, sym, ◌∙◌, refl, arith, subst, inl, inr}
use Rattle.std.proofs.lemmas.Bool.{cases_Bool, eqb-true, eqb-false, leb-false, not-true}
use Rattle.std.specs.Option.{option_or, ForSome}
use Rattle.std.specs.List.{slice_get, list_all}
use Rattle.sim_time.specs.declared.limits.TheConstants.{LATEST_END}
use Rattle.scenario_image.specs.declared.limits.TheConstants.{MOST_NODES, MOST_LINKS, MOST_FLOWS, MOST_LOSE}
use Rattle.scenario_image.specs.declared.parts.NodeKind.{NodeKind}
use Rattle.scenario_image.specs.declared.parts.NodeKind.TheVariants.{Sender, Receiver, Router}
use Rattle.scenario_image.specs.declared.parts.LinkPart.{LinkPart}
use Rattle.scenario_asm.specs.declared.fault.Fault.{Fault}
use Rattle.scenario_asm.specs.declared.fault.Fault.TheVariants.{E1, E2, E3, E4, E6, E7, E8, E9}
use Rattle.scenario_asm.specs.declared.table.Item.{Item}
use Rattle.scenario_asm.specs.declared.table.Item.TheVariants.{Node as node_item, Link as link_item, Flow as flow_item}
use Rattle.scenario_asm.specs.declared.statement.Statement.{Statement}
use Rattle.scenario_asm.specs.declared.statement.Statement.TheVariants.{Sim}
use Rattle.scenario_asm.specs.Lines.{Word, words_of, is_printable}
use Rattle.scenario_asm.specs.Numbers.{is_name, number, number_verdict}
use Rattle.scenario_asm.specs.Names.{Known, item_number, item_kind, item_link, number_of, kind_of_word, is_taken, is_sender, is_receiver, is_router, is_end, is_from, is_full_router, lost_of, is_routed, used_verdict, new_name_verdict}
use Rattle.scenario_asm.specs.Verdicts.{Verdict, first_fault, faulty_if, faulty_unless, unless, judged_line}
use Rattle.scenario_asm.specs.Right.{IsRight, IsNodeRight, IsLinkRight}
use Rattle.scenario_asm.specs.Statements.{nth, has_link_length, has_flow_length, link_said, node_verdicts, link_verdicts, flow_verdicts, route_verdicts, lose_verdicts, sim_at, node_statement, link_statement, flow_at, route_at, lose_at, statement_at, as_said, line_at}

-- a list of verdicts without a fault
both_none : (a b : Verdict) → option_or a b ≡ None → (a ≡ None) × (b ≡ None)
both_none None b none = (refl, none)
both_none (Some fault) b none = absurd (let never : Some fault ≡ None = none in cc)

-- each of these verdicts is none
abbrev pub AreNone : List Verdict → Type 0
AreNone [] = Unit {0}
AreNone (verdict ∷ verdicts) = (verdict ≡ None) × AreNone verdicts

all_none : (verdicts : List Verdict) → first_fault verdicts ≡ None → AreNone verdicts
all_none [] none = tt
all_none (verdict ∷ verdicts) none = let both = both_none verdict (first_fault verdicts) none in (both.0, all_none verdicts both.1)

unless_true : (t : Bool) (fault : Fault) → faulty_unless t fault ≡ None → t ≡ true
unless_true true fault none = refl
unless_true false fault none = absurd (let never : Some fault ≡ None = none in cc)

if_false : (t : Bool) (fault : Fault) → faulty_if t fault ≡ None → t ≡ false
if_false true fault none = absurd (let never : Some fault ≡ None = none in cc)
if_false false fault none = refl

pub ok_is : {A : Type 0} (value x : A) → ◌≡◌ {A = Result A Fault} (Ok value) (Ok x) → value ≡ x
ok_is value x is = cc

pub err_not : {A : Type 0} (fault : Fault) (x : A) → ◌≡◌ {A = Result A Fault} (Err fault) (Ok x) → ⊥
err_not fault x is = cc

unless_ok : {A : Type 0} (verdict : Verdict) (value x : A) → unless verdict value ≡ Ok x → (verdict ≡ None) × (value ≡ x)
unless_ok None value x is = (refl, ok_is value x is)
unless_ok (Some fault) value x is = absurd (err_not fault x is)

-- a line that says something has the right number of words, and no word of it has a fault
pub judged_says : {A : Type 0} (counted : Bool) (verdicts : List Verdict) (full : Bool) (value x : A) → judged_line counted verdicts full value ≡ Ok x → AreNone (verdicts ++ faulty_if full E9 ∷ []) × (value ≡ x)
judged_says true verdicts full value x is = let both = unless_ok (first_fault (verdicts ++ faulty_if full E9 ∷ [])) value x is in (all_none _ both.0, both.1)
judged_says false verdicts full value x is = absurd (err_not E3 x is)

-- what a used name is
used_right : (word : Word) (item : Option Item) (right : Bool) → used_verdict word item right ≡ None → right ≡ true
used_right word item right none =
    let rest = both_none (faulty_unless (is_name word) E4) _ none in
    let last = both_none (faulty_unless (is_some item) E7) _ rest.1 in
    unless_true right E8 (both_none (faulty_unless right E8) None last.1).0

new_free : (known : Known) (word : Word) → new_name_verdict known word ≡ None → is_taken known word ≡ false
new_free known word none =
    let rest = both_none (faulty_unless (is_name word) E4) _ none in
    if_false (is_taken known word) E6 (both_none (faulty_if (is_taken known word) E6) None rest.1).0

some_is : (s t : Statement) → Some s ≡ Some t → s ≡ t
some_is s t is = cc

none_not : (s : Statement) → None ≡ Some s → ⊥
none_not s is = cc

false_not : false ≡ true → ⊥
false_not is = cc

sender_is : (o : Option NodeKind) → is_sender o ≡ true → o ≡ Some Sender
sender_is (Some Sender) is = refl
sender_is (Some Receiver) is = absurd (false_not is)
sender_is (Some Router) is = absurd (false_not is)
sender_is None is = absurd (false_not is)

receiver_is : (o : Option NodeKind) → is_receiver o ≡ true → o ≡ Some Receiver
receiver_is (Some Sender) is = absurd (false_not is)
receiver_is (Some Receiver) is = refl
receiver_is (Some Router) is = absurd (false_not is)
receiver_is None is = absurd (false_not is)

pub router_is : (o : Option NodeKind) → is_router o ≡ true → o ≡ Some Router
router_is (Some Sender) is = absurd (false_not is)
router_is (Some Receiver) is = absurd (false_not is)
router_is (Some Router) is = refl
router_is None is = absurd (false_not is)

from_is : (node : ℕ) (o : Option LinkPart) → is_from node o ≡ true → option_map (λ link. link.from) o ≡ Some node
from_is node (Some part) is = ap (λ n. Some n) (eqb-true part.from node is)
from_is node None is = absurd (false_not is)

link_is : (o : Option LinkPart) → is_some o ≡ true → (part : LinkPart) × (o ≡ Some part)
link_is (Some part) is = (part, refl)
link_is None is = absurd (false_not is)

or_no : (a b : Bool) → (a || b) ≡ false → (a ≡ false) × (b ≡ false)
or_no true b is = absurd (let never : true ≡ false = is in cc)
or_no false b is = (refl, is)

and_yes : (a b : Bool) → (a && b) ≡ true → (a ≡ true) × (b ≡ true)
and_yes true b is = (refl, is)
and_yes false b is = absurd (false_not is)

differs : (m n : ℕ) → not (m == n) ≡ true → m ≡ n → ⊥
differs m n apart same = eqb-false m n (not-true (m == n) apart) same

below_most : (n most : ℕ) → nat_le most n ≡ false → n < most
below_most n most full = leb-false most n full

-- the node that a sender's, a receiver's, a router's name means
sender_there : (kinds : List NodeKind) (item : Option Item) → is_sender (item_kind kinds item) ≡ true → slice_get kinds (item_number item) ≡ Some Sender
sender_there kinds (Some (node_item number)) is = sender_is (slice_get kinds number) is
sender_there kinds (Some (link_item number)) is = absurd (false_not is)
sender_there kinds (Some flow_item) is = absurd (false_not is)
sender_there kinds None is = absurd (false_not is)

receiver_there : (kinds : List NodeKind) (item : Option Item) → is_receiver (item_kind kinds item) ≡ true → slice_get kinds (item_number item) ≡ Some Receiver
receiver_there kinds (Some (node_item number)) is = receiver_is (slice_get kinds number) is
receiver_there kinds (Some (link_item number)) is = absurd (false_not is)
receiver_there kinds (Some flow_item) is = absurd (false_not is)
receiver_there kinds None is = absurd (false_not is)

router_there : (kinds : List NodeKind) (item : Option Item) → is_router (item_kind kinds item) ≡ true → slice_get kinds (item_number item) ≡ Some Router
router_there kinds (Some (node_item number)) is = router_is (slice_get kinds number) is
router_there kinds (Some (link_item number)) is = absurd (false_not is)
router_there kinds (Some flow_item) is = absurd (false_not is)
router_there kinds None is = absurd (false_not is)

end_there : (kinds : List NodeKind) (item : Option Item) → is_end (item_kind kinds item) ≡ true → is_end (slice_get kinds (item_number item)) ≡ true
end_there kinds (Some (node_item number)) is = is
end_there kinds (Some (link_item number)) is = absurd (false_not is)
end_there kinds (Some flow_item) is = absurd (false_not is)
end_there kinds None is = absurd (false_not is)

from_there : (links : List LinkPart) (node : ℕ) (item : Option Item) → is_from node (item_link links item) ≡ true → option_map (λ link. link.from) (slice_get links (item_number item)) ≡ Some node
from_there links node (Some (link_item number)) is = from_is node (slice_get links number) is
from_there links node (Some (node_item number)) is = absurd (false_not is)
from_there links node (Some flow_item) is = absurd (false_not is)
from_there links node None is = absurd (false_not is)

link_there : (links : List LinkPart) (item : Option Item) → is_some (item_link links item) ≡ true → (part : LinkPart) × (slice_get links (item_number item) ≡ Some part)
link_there links (Some (link_item number)) is = link_is (slice_get links number) is
link_there links (Some (node_item number)) is = absurd (false_not is)
link_there links (Some flow_item) is = absurd (false_not is)
link_there links None is = absurd (false_not is)

-- the statements, each right where it says something
node_right : (known : Known) (words : List Word) (s : Statement) → node_statement known words ≡ Ok s → IsRight known s
node_right known words s says =
    let read = judged_says (length words == 3) (node_verdicts known words) (nat_le MOST_NODES (length known.kinds)) _ s says in
    let right : IsNodeRight known (nth words 1) = record { free = new_free known (nth words 1) read.0.0; room = below_most _ MOST_NODES (if_false _ E9 read.0.1.1.0) } in
    subst (IsRight known) read.1 right

link_right : (known : Known) (words : List Word) (s : Statement) → link_statement known words ≡ Ok s → IsRight known s
link_right known words s says =
    let read = judged_says (has_link_length words) (link_verdicts known words) (nat_le MOST_LINKS (length known.links) || is_full_router known (number_of known (nth words 2))) _ s says in
    let later = read.0.1.1.1.1.1.1.1 in
    let room = or_no (nat_le MOST_LINKS (length known.links)) _ (if_false _ E9 later.1.0) in
    let other = and_yes (is_some (kind_of_word known (nth words 3))) _ (used_right (nth words 3) _ _ read.0.1.1.0) in
    let right : IsLinkRight known (nth words 1) (link_said known words) = record {
      free = new_free known (nth words 1) read.0.0;
      room = below_most _ MOST_LINKS room.0;
      apart = λ same. differs _ _ other.1 (sym same);
    } in
    subst (IsRight known) read.1 right

flow_right : (known : Known) (words : List Word) (s : Statement) → flow_at known words ≡ Ok s → IsRight known s
flow_right known words s says =
    let read = judged_says (has_flow_length words) (flow_verdicts known words) (nat_le MOST_FLOWS (length known.flows)) _ s says in
    subst (IsRight known) read.1 (record {
      free = new_free known (nth words 1) read.0.0;
      kinds = record { sender = sender_there known.kinds _ (used_right (nth words 2) _ _ read.0.1.0); receiver = receiver_there known.kinds _ (used_right (nth words 3) _ _ read.0.1.1.0) };
    })

route_right : (known : Known) (words : List Word) (s : Statement) → route_at known words ≡ Ok s → IsRight known s
route_right known words s says =
    let read = judged_says (length words == 4) (route_verdicts known words) false _ s says in
    let destination = all_none (used_verdict (nth words 2) (known.item (nth words 2)) (is_end (kind_of_word known (nth words 2))) ∷ faulty_if (is_routed known.routes (number_of known (nth words 1)) (number_of known (nth words 2))) E6 ∷ []) read.0.1.0 in
    subst (IsRight known) read.1 (record {
      first = if_false _ E6 destination.1.0;
      kinds = record {
        router = router_there known.kinds _ (used_right (nth words 1) _ _ read.0.0);
        destination = end_there known.kinds _ (used_right (nth words 2) _ _ destination.0);
        leaves = from_there known.links _ _ (used_right (nth words 3) _ _ read.0.1.1.0);
      };
    })

lose_right : (known : Known) (words : List Word) (s : Statement) → lose_at known words ≡ Ok s → IsRight known s
lose_right known words s says =
    let read = judged_says (length words == 3) (lose_verdicts known words) (nat_le MOST_LOSE (length (lost_of known (number_of known (nth words 1))))) _ s says in
    let there = link_there known.links _ (used_right (nth words 1) _ _ read.0.0) in
    subst (IsRight known) read.1 (record { part = there.0; declared = there.1 })

sim_right : (known : Known) (words : List Word) (s : Statement) → sim_at words ≡ Ok s → IsRight known s
sim_right known words s says =
    let read = judged_says (length words == 2) (number_verdict 1 LATEST_END (nth words 1) ∷ []) false (Sim (number (nth words 1))) s says in
    let right : IsRight known (Sim (number (nth words 1))) = tt in
    subst (IsRight known) read.1 right

if_ok : {P : Type 0} (t : Bool) (a b : Result Statement Fault) (s : Statement) → (a ≡ Ok s → P) → (b ≡ Ok s → P) → (if t then a else b) ≡ Ok s → P
if_ok true a b s first second is = first is
if_ok false a b s first second is = second is

statement_right : (known : Known) (words : List Word) (s : Statement) → statement_at known words ≡ Ok s → IsRight known s
statement_right known words s =
    if_ok _ _ _ s (sim_right known words s)
    (if_ok _ _ _ s (node_right known words s)
    (if_ok _ _ _ s (link_right known words s)
    (if_ok _ _ _ s (flow_right known words s) (if_ok _ _ _ s (route_right known words s) (if_ok _ _ _ s (lose_right known words s) (λ is. absurd (err_not E2 s is)))))))

said_right : (known : Known) (read : Result Statement Fault) (said : Option Statement) → ((s : Statement) → read ≡ Ok s → IsRight known s) → as_said read ≡ Ok said → ForSome said (IsRight known)
said_right known (Ok statement) said right is = λ s some. right s (ap (λ t. Ok t) (some_is statement s (ok_is (Some statement) said is ∙ some)))
said_right known (Err fault) said right is = absurd (err_not fault said is)

pub line_right_says : (known : Known) (line : List ℕ) (said : Option Statement) → line_at known line ≡ Ok said → ForSome said (IsRight known)
unfolding line_at
line_right_says known line said is =
    elim (cases_Bool (list_all is_printable line)) [
      | inl clean ↦
          elim (cases_Bool (length (words_of line) == 0)) [
            | inl none ↦ let nothing : ◌≡◌ {A = Result (Option Statement) Fault} (Ok None) (Ok said) = sym (simp (clean, none)) ∙ is in λ s some. absurd (none_not s (ok_is None said nothing ∙ some))
            | inr some ↦ said_right known (statement_at known (words_of line)) said (statement_right known (words_of line)) (let says : line_at known line ≡ as_said (statement_at known (words_of line)) = simp (clean, some) in sym says ∙ is)
          ]
      | inr unclean ↦ let faulty : ◌≡◌ {A = Result (Option Statement) Fault} (Err E1) (Ok said) = sym (simp unclean) ∙ is in absurd (err_not E1 said faulty)
    ]
