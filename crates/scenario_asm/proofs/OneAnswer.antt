-- A text has one answer.
use Rattle.std.proofs.Common.{◌≡◌, ◌⊎◌, inl, inr, ℕ, ◌+◌, List, [], ◌∷◌, ◌++◌, length, Option, Some, None, Result, Ok, Err, refl, sym, ◌∙◌, subst, arith, append_assoc}
use Rattle.std.proofs.lemmas.List.{append-nil}
use Rattle.std.specs.List.{filter_map}
use Rattle.std.specs.Option.{ForSome}
use Rattle.scenario_image.specs.Fault.{IsFreeOf, judged_faults, IsFirstOf, IsFirstFault}
use Rattle.scenario_image.specs.declared.fault.LoadFault.{LoadFault}
use Rattle.scenario_image.specs.declared.fault.LoadFault.TheVariants.{L1 as image_L1, L2 as image_L2, L3 as image_L3, L4 as image_L4, L5 as image_L5, L6 as image_L6, L7 as image_L7, L8 as image_L8, NoMemory as image_NoMemory}
use Rattle.scenario_image.specs.declared.parts.ScenarioParts.{ScenarioParts}
use Rattle.scenario_asm.specs.declared.fault.Fault.{Fault}
use Rattle.scenario_asm.specs.declared.fault.Fault.TheVariants.{E10, L3, L5, L7, L8}
use Rattle.scenario_asm.specs.declared.statement.Statement.{Statement}
use Rattle.scenario_asm.specs.declared.statement.Statement.TheVariants.{Sim, Node, Link, Flow, Route, Lose}
use Rattle.scenario_asm.specs.Draft.{AreLostOfLinks}
use Rattle.scenario_asm.specs.Right.{IsRight, AreOfKinds}
use Rattle.scenario_asm.specs.Lines.{lines_of_text}
use Rattle.scenario_asm.specs.Statements.{line_at}
use Rattle.scenario_asm.specs.Text.{said_end, losing_link_part, known_of, parts_of_statements}
use Rattle.scenario_asm.specs.Meaning.{AreRead, statements_of, HaveEnd, IsWholeFault, IsLineFault, MeansFault, MeansScenario}
use Rattle.scenario_asm.specs.OneAnswer.{TextsHaveOneAnswer}
use Rattle.scenario_asm.proofs.Holds.{sim_known, node_known, link_known, flow_known, route_known, lose_known, still_lost, link_lost, lose_lost, lose_declared, statements_blank, statements_more}
use Rattle.scenario_asm.proofs.OfKinds.{node_kinds, link_kinds, flow_kinds, route_kinds, lose_kinds}
use Rattle.scenario_asm.proofs.OneMeaning.{one_fault, not_both, one_scenario}
use Rattle.scenario_asm.proofs.Read.{read_none, read_more}
use Rattle.scenario_asm.proofs.Right.{line_right_says}
use Rattle.scenario_asm.proofs.Whole.{not_free, no_wrong_kind}

-- what is kept of statements that are right
record IsKept (statements : List Statement) : Type 0 where
  kinds : AreOfKinds (known_of statements)
  lost : AreLostOfLinks statements

kept_more : (statements : List Statement) (s : Statement) → IsRight (known_of statements) s → IsKept statements → IsKept (statements ++ s ∷ [])
kept_more statements (Sim end) right kept = record { kinds = subst AreOfKinds (sim_known statements end) kept.kinds; lost = still_lost statements (Sim end) refl (λ k. refl) kept.lost }
kept_more statements (Node name kind) right kept =
    record { kinds = subst AreOfKinds (node_known statements name kind right.free) (node_kinds (known_of statements) name kind kept.kinds); lost = still_lost statements (Node name kind) refl (λ k. refl) kept.lost }
kept_more statements (Link name line) right kept =
    record {
      kinds = subst AreOfKinds (link_known statements name line right.free kept.lost) (link_kinds (known_of statements) name (losing_link_part line []) right.apart kept.kinds);
      lost = link_lost statements name line kept.lost;
    }
kept_more statements (Flow name part) right kept =
    record {
      kinds = subst AreOfKinds (flow_known statements name part right.free) (flow_kinds (known_of statements) name part right.kinds kept.kinds);
      lost = still_lost statements (Flow name part) refl (λ k. refl) kept.lost;
    }
kept_more statements (Route route) right kept =
    record {
      kinds = subst AreOfKinds (route_known statements route) (route_kinds (known_of statements) route right.kinds kept.kinds);
      lost = still_lost statements (Route route) refl (λ k. refl) kept.lost;
    }
kept_more statements (Lose lose) right kept =
    record {
      kinds = subst AreOfKinds (lose_known statements lose right.part right.declared) (lose_kinds (known_of statements) lose.link right.part (right.part.lose ++ lose.number ∷ []) right.declared kept.kinds);
      lost = lose_lost statements lose (lose_declared statements lose.link right.part right.declared) kept.lost;
    }

kept_said : (all : List (Option Statement)) (said : Option Statement) → ForSome said (IsRight (known_of (statements_of all))) → IsKept (statements_of all) → IsKept (statements_of (all ++ said ∷ []))
kept_said all None right kept = subst IsKept (sym (statements_blank all)) kept
kept_said all (Some s) right kept = subst IsKept (sym (statements_more all s)) (kept_more (statements_of all) s (right s refl) kept)

-- lines below some that are read: all are read, or one of them is the first that is faulty
record AreJudged (text : List ℕ) : Type 0 where
  said : List (Option Statement)
  read : AreRead (lines_of_text text) said
  kept : IsKept (statements_of said)

line_cases : (read : Result (Option Statement) Fault) → ((says : Option Statement) × (read ≡ Ok says)) ⊎ ((fault : Fault) × (read ≡ Err fault))
line_cases (Ok says) = inl (says, refl)
line_cases (Err fault) = inr (fault, refl)

read_or_faulty : (text : List ℕ) (above rest : List (List ℕ)) (said : List (Option Statement)) → lines_of_text text ≡ above ++ rest → AreRead above said → IsKept (statements_of said) → AreJudged text ⊎ ((number : ℕ) × (fault : Fault) × IsLineFault text number fault)
read_or_faulty text above [] said is read kept =
    let all : above ≡ lines_of_text text = sym (is ∙ append-nil above) in
    inl (record { said = said; read = (let P : List (List ℕ) → Type 0 = λ l. AreRead l said in subst P all read); kept = kept })
read_or_faulty text above (line ∷ rest) said is read kept =
    elim (line_cases (line_at (known_of (statements_of said)) line)) [
      | inl ok ↦
          let next : lines_of_text text ≡ (above ++ line ∷ []) ++ rest = rw append_assoc is in
          read_or_faulty text (above ++ line ∷ []) rest (said ++ ok.0 ∷ []) next (read_more above said line ok.0 read ok.1) (kept_said said ok.0 (line_right_says _ line ok.0 ok.1) kept)
      | inr bad ↦ inr (length above + 1, bad.0, record { above = above; line = line; below = rest; said = said; lines = is; counted = refl; above_read = read; faulty = bad.1 })
    ]

whole_at : (text : List ℕ) (judged : AreJudged text) (fault : Fault) → IsWholeFault (statements_of judged.said) fault → MeansFault text 0 fault
whole_at text judged fault faulty = inr (record { said = judged.said; all_read = judged.read; no_line = refl; faulty = faulty })

no_kinds : AreOfKinds (known_of [])
no_kinds = record { each_link = λ k d lt. absurd (omega arith); each_flow = λ k d lt. absurd (omega arith); each_route = λ k d lt. absurd (omega arith) }

-- parts are free of all these faults
abbrev AreFreeOf : ScenarioParts → List LoadFault → Type 0
AreFreeOf parts [] = Unit {0}
AreFreeOf parts (next ∷ later) = IsFreeOf parts next × AreFreeOf parts later

-- parts are not without a first fault and yet not free of all
not_neither : (parts : ScenarioParts) (faults : List LoadFault) → ((fault : LoadFault) → IsFirstOf parts faults fault → ⊥) → (AreFreeOf parts faults → ⊥) → ⊥
not_neither parts [] none free = free tt
not_neither parts (next ∷ later) none free = none next (inl (refl, λ is. not_neither parts later (λ fault first. none fault (inr (is, first))) (λ all. free (is, all))))

-- the first fault of the parts that a text makes is a fault of the text
parts_fault : (text : List ℕ) (judged : AreJudged text) (end : ℕ) → HaveEnd (statements_of judged.said) end → (load : LoadFault) → IsFirstFault (parts_of_statements end (statements_of judged.said)) load → ((number : ℕ) (fault : Fault) → MeansFault text number fault → ⊥) → ⊥
parts_fault text judged end one_end image_L6 first none =
    no_wrong_kind end (known_of (statements_of judged.said)) (parts_of_statements end (statements_of judged.said)) image_L6 judged.kept.kinds refl first refl
parts_fault text judged end one_end image_NoMemory first none = not_free (parts_of_statements end (statements_of judged.said)) judged_faults image_NoMemory first tt
parts_fault text judged end one_end image_L1 first none = not_free (parts_of_statements end (statements_of judged.said)) judged_faults image_L1 first tt
parts_fault text judged end one_end image_L2 first none = not_free (parts_of_statements end (statements_of judged.said)) judged_faults image_L2 first tt
parts_fault text judged end one_end image_L4 first none = not_free (parts_of_statements end (statements_of judged.said)) judged_faults image_L4 first tt
parts_fault text judged end one_end image_L3 first none = none 0 L3 (whole_at text judged L3 (inr (record { end = end; one_end = one_end; load = image_L3; first = first; same = refl })))
parts_fault text judged end one_end image_L5 first none = none 0 L5 (whole_at text judged L5 (inr (record { end = end; one_end = one_end; load = image_L5; first = first; same = refl })))
parts_fault text judged end one_end image_L7 first none = none 0 L7 (whole_at text judged L7 (inr (record { end = end; one_end = one_end; load = image_L7; first = first; same = refl })))
parts_fault text judged end one_end image_L8 first none = none 0 L8 (whole_at text judged L8 (inr (record { end = end; one_end = one_end; load = image_L8; first = first; same = refl })))

one_or_not : (statements : List Statement) (ends : List ℕ) → filter_map said_end statements ≡ ends → ((end : ℕ) × HaveEnd statements end) ⊎ ((end : ℕ) → HaveEnd statements end → ⊥)
one_or_not statements [] is = inr (λ end have. let never : [] ≡ end ∷ [] = sym is ∙ have.one_end in cc)
one_or_not statements (e ∷ []) is = inl (e, record { one_end = is })
one_or_not statements (e ∷ f ∷ ends) is = inr (λ end have. let never : e ∷ f ∷ ends ≡ end ∷ [] = sym is ∙ have.one_end in cc)

judged_text : (text : List ℕ) → AreJudged text → ((parts : ScenarioParts) → MeansScenario text parts → ⊥) → ((number : ℕ) (fault : Fault) → MeansFault text number fault → ⊥) → ⊥
judged_text text judged no_meaning no_fault =
    elim (one_or_not (statements_of judged.said) (filter_map said_end (statements_of judged.said)) refl) [
      | inl one ↦
          let parts : ScenarioParts = parts_of_statements one.0 (statements_of judged.said) in
          not_neither parts judged_faults (λ fault first. parts_fault text judged one.0 one.1 fault first no_fault)
          (λ free. no_meaning parts (record { said = judged.said; all_read = judged.read; made = record { end = one.0; one_end = one.1; parts_are = refl; right = record { in_limits = free.0; ends = free.1.0; kinds = free.1.1.0; unbroken = free.1.1.1.0; simple = free.1.1.1.1.0 } } }))
      | inr none ↦ no_fault 0 E10 (whole_at text judged E10 (inl (refl, none)))
    ]

some_answer : (text : List ℕ) → ((parts : ScenarioParts) → MeansScenario text parts → ⊥) → ((number : ℕ) (fault : Fault) → MeansFault text number fault → ⊥) → ⊥
some_answer text no_meaning no_fault =
    elim (read_or_faulty text [] (lines_of_text text) [] refl read_none (record { kinds = no_kinds; lost = λ link past. refl })) [
      | inl judged ↦ judged_text text judged no_meaning no_fault
      | inr faulty ↦ no_fault faulty.0 faulty.1 (inl faulty.2)
    ]

pub one_answer : TextsHaveOneAnswer
one_answer text =
    record {
      some = some_answer text;
      not_both = λ parts number fault means faulty. not_both text number fault parts faulty means;
      one_scenario = one_scenario text;
      one_line = λ m n a b this that. (one_fault text m n a b this that).0;
      one_fault = λ m n a b this that. (one_fault text m n a b this that).1;
    }
