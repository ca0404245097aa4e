-- A text has one meaning.
use Rattle.std.proofs.Common.{◌≡◌, ◌⊎◌, inl, inr, ℕ, zero, suc, ◌+◌, ◌<◌, ◌≤◌, List, [], ◌∷◌, ◌++◌, length, take, get_or, Option, Some, None, Result, Ok, Err, IfOk, IsErrOf, refl, ap, sym, ◌∙◌, subst, arith, add-one, length-append}
use Rattle.std.proofs.lemmas.Bool.{cases_lt}
use Rattle.std.proofs.lemmas.List.{take_more, take_at, append-nil, get_or_append_left, get_or_at}
use Rattle.scenario_image.specs.declared.parts.ScenarioParts.{ScenarioParts}
use Rattle.scenario_image.specs.Scenario.{IsScenario}
use Rattle.scenario_image.specs.Fault.{IsFreeOf, judged_faults, IsFirstOf, IsFirstFault}
use Rattle.scenario_image.specs.declared.fault.LoadFault.{LoadFault}
use Rattle.scenario_image.specs.declared.fault.LoadFault.TheVariants.{L1 as image_L1, L2 as image_L2, L3 as image_L3, L4 as image_L4, L5 as image_L5, L6 as image_L6, L7 as image_L7, L8 as image_L8, NoMemory as image_NoMemory}
use Rattle.scenario_asm.specs.declared.fault.AsmFault.{AsmFault}
use Rattle.scenario_asm.specs.declared.fault.AsmFault.TheVariants.{At, NoMemory}
use Rattle.scenario_asm.specs.declared.fault.Fault.{Fault}
use Rattle.scenario_asm.specs.declared.statement.Statement.{Statement}
use Rattle.scenario_asm.specs.Lines.{lines_of_text}
use Rattle.scenario_asm.specs.Statements.{line_at}
use Rattle.scenario_asm.specs.Text.{known_of, parts_of_statements}
use Rattle.scenario_asm.specs.Draft.{WholeGives}
use Rattle.scenario_asm.specs.Meaning.{AreRead, statements_of, HaveEnd, as_text_fault, IsWholeFault, IsLineFault, MeansFault, MakeScenario, MeansScenario}

-- a list has these lines at its front
record IsFront (all xs : List (List ℕ)) : Type 0 where
  within : length xs ≤ length all
  each : (k : ℕ) → k < length xs → get_or xs k [] ≡ get_or all k []

front_all : (all : List (List ℕ)) → IsFront all all
front_all all = record { within = omega arith; each = λ k lt. refl }

front_of : (all above : List (List ℕ)) (line : List ℕ) (below : List (List ℕ)) → all ≡ above ++ line ∷ below → IsFront all above
front_of all above line below is =
    record {
      within = omega (arith, ap length is, length-append above (line ∷ below));
      each = λ k lt. sym (ap (λ l. get_or l k []) is ∙ get_or_append_left above (line ∷ below) [] k lt);
    }

reads_is : (read : Result (Option Statement) Fault) (x y : Option Statement) → read ≡ Ok x → read ≡ Ok y → x ≡ y
reads_is read x y this that = cc

reads_not : (read : Result (Option Statement) Fault) (fault : Fault) (x : Option Statement) → read ≡ Err fault → read ≡ Ok x → ⊥
reads_not read fault x this that = cc

-- lines are read in one way
same_said : (all xs zs : List (List ℕ)) (a b : List (Option Statement)) → IsFront all xs → IsFront all zs → AreRead xs a → AreRead zs b → (n : ℕ) → n ≤ length xs → n ≤ length zs → take n a ≡ take n b
same_said all xs zs a b fx fz ra rb zero lx lz = refl
same_said all xs zs a b fx fz ra rb (suc n) lx lz =
    let before : take n a ≡ take n b = same_said all xs zs a b fx fz ra rb n (omega arith) (omega arith) in
    let nx : n < length xs = omega arith in
    let nz : n < length zs = omega arith in
    let na : n < length a = omega (arith, ra.as_many) in
    let nb : n < length b = omega (arith, rb.as_many) in
    let line : get_or xs n [] ≡ get_or zs n [] = fx.each n nx ∙ sym (fz.each n nz) in
    let says : line_at (known_of (statements_of (take n a))) (get_or xs n []) ≡ line_at (known_of (statements_of (take n b))) (get_or zs n []) = ap (λ s. line_at (known_of (statements_of s)) (get_or xs n [])) before ∙ ap (λ l. line_at (known_of (statements_of (take n b))) l) line in
    let same : get_or a n None ≡ get_or b n None = reads_is _ _ _ (ra.each n nx) (says ∙ rb.each n nz) in
    let more_a : take (n + 1) a ≡ take n a ++ get_or a n None ∷ [] = take_more a n None na in
    let more_b : take (n + 1) b ≡ take n b ++ get_or b n None ∷ [] = take_more b n None nb in
    rw (← add-one n, more_a, more_b, before, same) refl

-- a faulty line is below all lines that are read
fault_stops : (all xs zs : List (List ℕ)) (a b : List (Option Statement)) (fault : Fault) → IsFront all xs → IsFront all zs → AreRead xs a → AreRead zs b → line_at (known_of (statements_of a)) (get_or all (length xs) []) ≡ Err fault → length zs ≤ length xs
fault_stops all xs zs a b fault fx fz ra rb faulty =
    elim (cases_lt (length xs) (length zs)) [
      | inl lt ↦
          let same : take (length xs) a ≡ take (length xs) b = same_said all xs zs a b fx fz ra rb (length xs) (omega arith) (omega arith) in
          let whole : take (length xs) a ≡ a = ap (λ l. take (length xs) l) (sym (append-nil a)) ∙ take_at a [] (length xs) ra.as_many in
          let here : line_at (known_of (statements_of (take (length xs) b))) (get_or zs (length xs) []) ≡ Ok (get_or b (length xs) None) = rb.each (length xs) lt in
          let line : get_or zs (length xs) [] ≡ get_or all (length xs) [] = fz.each (length xs) lt in
          let names : line_at (known_of (statements_of (take (length xs) b))) (get_or zs (length xs) []) ≡ line_at (known_of (statements_of a)) (get_or all (length xs) []) = ap (λ l. line_at (known_of (statements_of (take (length xs) b))) l) line ∙ ap (λ s. line_at (known_of (statements_of s)) (get_or all (length xs) [])) (sym same ∙ whole) in
          absurd (reads_not _ fault _ faulty (sym names ∙ here))
      | inr le ↦ le
    ]

whole_take : {X : Type 0} (xs : List X) (n : ℕ) → length xs ≡ n → take n xs ≡ xs
whole_take xs n is = ap (λ l. take n l) (sym (append-nil xs)) ∙ take_at xs [] n is

line_is : (all above : List (List ℕ)) (line : List ℕ) (below : List (List ℕ)) → all ≡ above ++ line ∷ below → get_or all (length above) [] ≡ line
line_is all above line below is = ap (λ l. get_or l (length above) []) is ∙ get_or_at above line below [] (length above) refl

-- the faulty line, in the lines of the text
faulty_at : (text : List ℕ) (number : ℕ) (fault : Fault) → (first : IsLineFault text number fault) → line_at (known_of (statements_of first.said)) (get_or (lines_of_text text) (length first.above) []) ≡ Err fault
faulty_at text number fault first = ap (λ l. line_at (known_of (statements_of first.said)) l) (line_is (lines_of_text text) first.above first.line first.below first.lines) ∙ first.faulty

above_front : (text : List ℕ) (number : ℕ) (fault : Fault) → (first : IsLineFault text number fault) → IsFront (lines_of_text text) first.above
above_front text number fault first = front_of (lines_of_text text) first.above first.line first.below first.lines

err_is : (read : Result (Option Statement) Fault) (f g : Fault) → read ≡ Err f → read ≡ Err g → f ≡ g
err_is read f g this that = cc

-- no line is below itself
first_le : (text : List ℕ) (m n : ℕ) (f g : Fault) → (a : IsLineFault text m f) → (b : IsLineFault text n g) → length b.above ≤ length a.above
first_le text m n f g a b = fault_stops (lines_of_text text) a.above b.above a.said b.said f (above_front text m f a) (above_front text n g b) a.above_read b.above_read (faulty_at text m f a)

first_line : (text : List ℕ) (m n : ℕ) (f g : Fault) → (a : IsLineFault text m f) → (b : IsLineFault text n g) → length a.above ≡ length b.above
first_line text m n f g a b = omega (arith, first_le text m n f g a b, first_le text n m g f b a)

first_said : (text : List ℕ) (m n : ℕ) (f g : Fault) → (a : IsLineFault text m f) → (b : IsLineFault text n g) → a.said ≡ b.said
first_said text m n f g a b =
    let many : length a.above ≡ length b.above = first_line text m n f g a b in
    sym (whole_take a.said (length a.above) a.above_read.as_many)
    ∙ (same_said (lines_of_text text) a.above b.above a.said b.said (above_front text m f a) (above_front text n g b) a.above_read b.above_read (length a.above) (omega arith) (omega arith)
    ∙ whole_take b.said (length a.above) (b.above_read.as_many ∙ sym many))

first_fault : (text : List ℕ) (m n : ℕ) (f g : Fault) → (a : IsLineFault text m f) → (b : IsLineFault text n g) → f ≡ g
first_fault text m n f g a b =
    err_is (line_at (known_of (statements_of b.said)) (get_or (lines_of_text text) (length b.above) [])) f g
    (ap (λ s. line_at (known_of (statements_of s)) (get_or (lines_of_text text) (length b.above) [])) (sym (first_said text m n f g a b))
    ∙ (ap (λ k. line_at (known_of (statements_of a.said)) (get_or (lines_of_text text) k [])) (sym (first_line text m n f g a b)) ∙ faulty_at text m f a))
    (faulty_at text n g b)

-- where all lines are read, none is faulty
pub none_faulty : (text : List ℕ) (n : ℕ) (f : Fault) (said : List (Option Statement)) → IsLineFault text n f → AreRead (lines_of_text text) said → ⊥
none_faulty text n f said first read =
    let le : length (lines_of_text text) ≤ length first.above = fault_stops (lines_of_text text) first.above (lines_of_text text) first.said said f (above_front text n f first) (front_all (lines_of_text text)) first.above_read read (faulty_at text n f first) in
    omega (arith, ap length first.lines, length-append first.above (first.line ∷ first.below))

-- all lines say one thing
pub all_said : (lines : List (List ℕ)) (a b : List (Option Statement)) → AreRead lines a → AreRead lines b → a ≡ b
all_said lines a b ra rb =
    sym (whole_take a (length lines) ra.as_many)
    ∙ (same_said lines lines lines a b (front_all lines) (front_all lines) ra rb (length lines) (omega arith) (omega arith) ∙ whole_take b (length lines) rb.as_many)

pub one_end : (statements : List Statement) (d e : ℕ) → HaveEnd statements d → HaveEnd statements e → d ≡ e
one_end statements d e hd he =
    let both : d ∷ [] ≡ e ∷ [] = sym hd.one_end ∙ he.one_end in
    cc

-- what holds of the parts with one end holds with the other
parts_both : (P : ScenarioParts → Type 0) (statements : List Statement) (d e : ℕ) → HaveEnd statements d → HaveEnd statements e → P (parts_of_statements d statements) → P (parts_of_statements e statements)
parts_both P statements d e hd he holds = let Q : ℕ → Type 0 = λ n. P (parts_of_statements n statements) in subst Q (one_end statements d e hd he) holds

-- parts have one first fault
one_first : (parts : ScenarioParts) (faults : List LoadFault) (a b : LoadFault) → IsFirstOf parts faults a → IsFirstOf parts faults b → a ≡ b
one_first parts [] a b this that = absurd this
one_first parts (next ∷ later) a b (inl this) (inl that) = this.0 ∙ sym that.0
one_first parts (next ∷ later) a b (inl this) (inr that) = absurd (this.1 that.0)
one_first parts (next ∷ later) a b (inr this) (inl that) = absurd (that.1 this.0)
one_first parts (next ∷ later) a b (inr this) (inr that) = one_first parts later a b this.1 that.1

-- parts that are free of all faults have no first one
none_first : (parts : ScenarioParts) (faults : List LoadFault) (fault : LoadFault) → ((other : LoadFault) → IsFreeOf parts other) → IsFirstOf parts faults fault → ⊥
none_first parts [] fault free first = first
none_first parts (next ∷ later) fault free (inl first) = first.1 (free next)
none_first parts (next ∷ later) fault free (inr first) = none_first parts later fault free first.1

free_of : (parts : ScenarioParts) → IsScenario parts → (fault : LoadFault) → IsFreeOf parts fault
free_of parts is image_L1 = tt
free_of parts is image_L2 = tt
free_of parts is image_L3 = is.in_limits
free_of parts is image_L4 = tt
free_of parts is image_L5 = is.ends
free_of parts is image_L6 = is.kinds
free_of parts is image_L7 = is.unbroken
free_of parts is image_L8 = is.simple
free_of parts is image_NoMemory = tt

some_one : (f g : Fault) → Some f ≡ Some g → f ≡ g
some_one f g is = cc

-- the whole has one fault
whole_fault : (statements : List Statement) (f g : Fault) → IsWholeFault statements f → IsWholeFault statements g → f ≡ g
whole_fault statements f g (inl a) (inl b) = a.0 ∙ sym b.0
whole_fault statements f g (inl a) (inr b) = absurd (a.1 b.end b.one_end)
whole_fault statements f g (inr a) (inl b) = absurd (b.1 a.end a.one_end)
whole_fault statements f g (inr a) (inr b) =
    let there : IsFirstFault (parts_of_statements b.end statements) a.load = parts_both (λ p. IsFirstFault p a.load) statements a.end b.end a.one_end b.one_end a.first in
    let same : a.load ≡ b.load = one_first (parts_of_statements b.end statements) judged_faults a.load b.load there b.first in
    some_one f g (sym a.same ∙ (ap as_text_fault same ∙ b.same))

-- what makes a scenario has no fault
whole_none : (statements : List Statement) (f : Fault) (parts : ScenarioParts) → IsWholeFault statements f → MakeScenario statements parts → ⊥
whole_none statements f parts (inl a) made = a.1 made.end made.one_end
whole_none statements f parts (inr a) made =
    let there : IsFirstFault (parts_of_statements made.end statements) a.load = parts_both (λ p. IsFirstFault p a.load) statements a.end made.end a.one_end made.one_end a.first in
    let right : IsScenario (parts_of_statements made.end statements) = let P : ScenarioParts → Type 0 = λ p. IsScenario p in subst P made.parts_are made.right in
    none_first (parts_of_statements made.end statements) judged_faults a.load (free_of (parts_of_statements made.end statements) right) there

made_one : (statements : List Statement) (p q : ScenarioParts) → MakeScenario statements p → MakeScenario statements q → p ≡ q
made_one statements p q a b = a.parts_are ∙ (ap (λ e. parts_of_statements e statements) (one_end statements a.end b.end a.one_end b.one_end) ∙ sym b.parts_are)

-- a text has one fault
pub one_fault : (text : List ℕ) (m n : ℕ) (f g : Fault) → MeansFault text m f → MeansFault text n g → (m ≡ n) × (f ≡ g)
one_fault text m n f g (inl a) (inl b) = (a.counted ∙ (ap (λ k. k + 1) (first_line text m n f g a b) ∙ sym b.counted), first_fault text m n f g a b)
one_fault text m n f g (inl a) (inr b) = absurd (none_faulty text m f b.said a b.all_read)
one_fault text m n f g (inr a) (inl b) = absurd (none_faulty text n g a.said b a.all_read)
one_fault text m n f g (inr a) (inr b) =
    let same : a.said ≡ b.said = all_said (lines_of_text text) a.said b.said a.all_read b.all_read in
    let there : IsWholeFault (statements_of b.said) f = let P : List (Option Statement) → Type 0 = λ s. IsWholeFault (statements_of s) f in subst P same a.faulty in
    (a.no_line ∙ sym b.no_line, whole_fault (statements_of b.said) f g there b.faulty)

-- or it means a scenario
pub not_both : (text : List ℕ) (n : ℕ) (f : Fault) (parts : ScenarioParts) → MeansFault text n f → MeansScenario text parts → ⊥
not_both text n f parts (inl a) means = none_faulty text n f means.said a means.all_read
not_both text n f parts (inr a) means =
    let same : a.said ≡ means.said = all_said (lines_of_text text) a.said means.said a.all_read means.all_read in
    let there : IsWholeFault (statements_of means.said) f = let P : List (Option Statement) → Type 0 = λ s. IsWholeFault (statements_of s) f in subst P same a.faulty in
    whole_none (statements_of means.said) f parts there means.made

-- one scenario
pub one_scenario : (text : List ℕ) (p q : ScenarioParts) → MeansScenario text p → MeansScenario text q → p ≡ q
one_scenario text p q a b =
    let same : a.said ≡ b.said = all_said (lines_of_text text) a.said b.said a.all_read b.all_read in
    let there : MakeScenario (statements_of b.said) p = let P : List (Option Statement) → Type 0 = λ s. MakeScenario (statements_of s) p in subst P same a.made in
    made_one (statements_of b.said) p q there b.made

-- a result that is right
pub record IsRight (text : List ℕ) (result : Result ScenarioParts AsmFault) : Type 0 where
  pub scenario : IfOk result (MeansScenario text)
  pub fault : (number : ℕ) (fault : Fault) → IsErrOf result (At number fault) → MeansFault text number fault

pub right_scenario : (text : List ℕ) (result : Result ScenarioParts AsmFault) → IsRight text result → (parts : ScenarioParts) → MeansScenario text parts → (result ≡ Ok parts) ⊎ (result ≡ Err NoMemory)
right_scenario text (Ok p) right parts means = inl (ap (λ s. Ok s) (one_scenario text p parts right.scenario means))
right_scenario text (Err (At number fault)) right parts means = absurd (not_both text number fault parts (right.fault number fault refl) means)
right_scenario text (Err NoMemory) right parts means = inr refl

pub right_fault : (text : List ℕ) (result : Result ScenarioParts AsmFault) → IsRight text result → (number : ℕ) (fault : Fault) → MeansFault text number fault → (result ≡ Err (At number fault)) ⊎ (result ≡ Err NoMemory)
right_fault text (Ok p) right number fault means = absurd (not_both text number fault p means right.scenario)
right_fault text (Err (At n f)) right number fault means =
    let same : (n ≡ number) × (f ≡ fault) = one_fault text n number f fault (right.fault n f refl) means in
    inl (let n_is = same.0 in let f_is = same.1 in cc)
right_fault text (Err NoMemory) right number fault means = inr refl

at_number : (m n : ℕ) (f g : Fault) → IsErrOf {T = ScenarioParts} (Err (At m f)) (At n g) → m ≡ n
at_number m n f g is = cc

at_fault : (m n : ℕ) (f g : Fault) → IsErrOf {T = ScenarioParts} (Err (At m f)) (At n g) → f ≡ g
at_fault m n f g is = cc

ok_not : (parts : ScenarioParts) (fault : AsmFault) → IsErrOf (Ok parts) fault → ⊥
ok_not parts fault is = cc

memory_not : (n : ℕ) (f : Fault) → IsErrOf {T = ScenarioParts} (Err NoMemory) (At n f) → ⊥
memory_not n f is = cc

-- a fault that the text has
pub right_at : (text : List ℕ) (number : ℕ) (fault : Fault) → MeansFault text number fault → IsRight text (Err (At number fault))
right_at text number fault means =
    record {
      scenario = tt;
      fault = λ n f is.
          let n_is : number ≡ n = at_number number n fault f is in
          let f_is : fault ≡ f = at_fault number n fault f is in
          (let P : Fault → Type 0 = λ g. MeansFault text n g in subst P f_is (let Q : ℕ → Type 0 = λ m. MeansFault text m fault in subst Q n_is means));
    }

-- what all lines together give
pub right_whole : (text : List ℕ) (said : List (Option Statement)) (result : Result ScenarioParts AsmFault) → AreRead (lines_of_text text) said → WholeGives (statements_of said) result → IsRight text result
right_whole text said (Ok parts) read gives =
    record { scenario = record { said = said; all_read = read; made = gives }; fault = λ n f is. absurd (ok_not parts (At n f) is) }
right_whole text said (Err (At number fault)) read gives =
    right_at text number fault (inr (record { said = said; all_read = read; no_line = gives.0; faulty = gives.1 }))
right_whole text said (Err NoMemory) read gives = record { scenario = tt; fault = λ n f is. absurd (memory_not n f is) }
