-- Lines between two positions of a run, as they are told one after another.
use Rattle.std.proofs.Common.{◌≡◌, ◌≤◌, ◌+◌, ◌-◌, ◌∙◌, ℕ, suc, List, [], ◌∷◌, ◌++◌, length, take, drop, reverse, refl, sym, ap, subst, arith, append_assoc, append-nil, length-append, length-drop, Some, Result, Ok, Err, OnOk}
use Rattle.std.proofs.lemmas.List.{drop_all, drop-append-le, reverse-append, length-take-le}
use Rattle.std.specs.List.{concat}
use Rattle.std.specs.Option.{option_map, option_and_then}
use lib.Seq.{drop_at, take-append_seam, drop-append_seam}
use Rattle.node_core.specs.TraceLine.{TraceLine}
use Rattle.table_run.specs.State.{State, one_step_more, run}
use Rattle.table_run.proofs.Runs.{run_parts, run_length}
use Rattle.net_machine.specs.Run.{Reached, Stepped}
use Rattle.trace_text.specs.Line.{line_bytes}
use Rattle.debugger.specs.declared.fault.MoveFault.{MoveFault}
use Rattle.debugger.specs.declared.passed.LineOrder.{LineOrder}
use Rattle.debugger.specs.declared.passed.LineOrder.TheVariants.{Rising, Falling}
use Rattle.debugger.specs.Moves.{Passes}
use Rattle.debugger.specs.Passed.{lines_of_steps, lines_between, texts_from, texts_between, ordered_texts, beside, AreReportedFrom}

-- the lines to a state of the run, and how many they are
pub lines_to : (start : State) (at : Reached) (here : Passes start at) → lines_of_steps (run start at.position) ≡ here.lines
lines_to start at here = ap lines_of_steps here.comes

pub as_many : (start : State) (at : Reached) (here : Passes start at) → length here.lines ≡ at.position
as_many start at here = run_length at.position start at.state here.lines here.comes

-- the lines after one more step
pub one_line : (start : State) (old new : Reached) (line : TraceLine) (at : Passes start old) → Stepped old (Some line) new → lines_of_steps (run start new.position) ≡ at.lines ++ line ∷ []
one_line start old new line at next =
    ap lines_of_steps (subst (λ n. run start n ≡ Some (at.lines ++ line ∷ [], new.state)) {x = suc old.position} {y = new.position} (omega (arith, next.1))
    (ap (option_and_then one_step_more) at.comes ∙ ap (option_map {U = List TraceLine × State} (λ (more : TraceLine × State). (at.lines ++ more.0 ∷ [], more.1))) next.0))

pub none_between : (start : State) (at : Reached) → Passes start at → texts_between start at.position at.position ≡ []
none_between start at here =
    let many = as_many start at here in
    ap (texts_from (at.position + 1)) (ap (drop at.position) (lines_to start at here) ∙ drop_all at.position here.lines (omega (arith, many)))

pub texts_append : (n : ℕ) (xs ys : List TraceLine) → texts_from n (xs ++ ys) ≡ texts_from n xs ++ texts_from (n + length xs) ys
texts_append n [] ys = let e : n ≡ n + 0 = omega arith in ap (λ k. texts_from k ys) e
texts_append n (x ∷ xs) ys =
    let e : n + 1 + length xs ≡ n + suc (length xs) = omega arith in
    ap (λ ts. line_bytes n x ∷ ts) (texts_append (n + 1) xs ys ∙ ap (λ k. texts_from (n + 1) xs ++ texts_from k ys) e)

texts_length : (n : ℕ) (xs : List TraceLine) → length (texts_from n xs) ≡ length xs
texts_length n [] = refl
texts_length n (x ∷ xs) = ap suc (texts_length (n + 1) xs)

lines_length : (start : State) (m : ℕ) (at : Reached) → Passes start at → length (lines_between start m at.position) ≡ at.position - m
lines_length start m at here =
    let many = as_many start at here in
    let rest = length-drop m here.lines in
    ap (λ ls. length (drop m ls)) (lines_to start at here) ∙ omega (arith, many, rest)

-- how many there are between two positions
pub length_between : (start : State) (m : ℕ) (at : Reached) → Passes start at → length (texts_between start m at.position) ≡ at.position - m
length_between start m at here = texts_length (m + 1) (lines_between start m at.position) ∙ lines_length start m at here

-- one text more
pub text_next : (start : State) (m : ℕ) (old new : Reached) (line : TraceLine) → m ≤ old.position → Passes start old → Stepped old (Some line) new
    → texts_between start m new.position ≡ texts_between start m old.position ++ line_bytes new.position line ∷ []
text_next start m old new line from at next =
    let many = as_many start old at in
    let before = lines_between start m old.position in
    let more : lines_between start m new.position ≡ before ++ line ∷ [] =
    ap (drop m) (one_line start old new line at next) ∙ drop-append-le m at.lines (line ∷ []) (omega (arith, from, many)) ∙ ap (λ ls. drop m ls ++ line ∷ []) (sym (lines_to start old at)) in
    let so_many = lines_length start m old at in
    let number : m + 1 + length before ≡ new.position = omega (arith, so_many, from, next.1) in
    ap (texts_from (m + 1)) more ∙ texts_append (m + 1) before (line ∷ []) ∙ ap (λ k. texts_from (m + 1) before ++ line_bytes k line ∷ []) number

pub concat_append : (xs ys : List (List ℕ)) → concat (xs ++ ys) ≡ concat xs ++ concat ys
concat_append [] ys = refl
concat_append (x ∷ xs) ys = ap (λ l. x ++ l) (concat_append xs ys) ∙ sym (append_assoc x (concat xs) (concat ys))

reported_beside : (order : LineOrder) (texts : List (List ℕ)) (text : List ℕ) → concat (ordered_texts order (texts ++ text ∷ [])) ≡ beside order (concat (ordered_texts order texts)) text
reported_beside Rising texts text = concat_append texts (text ∷ []) ∙ ap (λ l. concat texts ++ l) (append-nil text)
reported_beside Falling texts text = ap concat (reverse-append texts (text ∷ []))

pub reported_none : (start : State) (order : LineOrder) (at : Reached) (out : List ℕ) → Passes start at → AreReportedFrom start order at.position at.position out out
reported_none start Rising at out here = sym (append-nil out) ∙ ap (λ ts. out ++ concat ts) (sym (none_between start at here))
reported_none start Falling at out here = sym (append-nil out) ∙ ap (λ ts. out ++ concat (reverse ts)) (sym (none_between start at here))

-- a line more
pub reported_more : (start : State) (order : LineOrder) (m n size : ℕ) (old new : Reached) (line : TraceLine) (before out made : List ℕ) → m ≤ old.position → Passes start old → Stepped old (Some line) new → n ≡ new.position → size ≡ length before
    → AreReportedFrom start order m old.position before out → made ≡ take size out ++ beside order (drop size out) (line_bytes n line) → AreReportedFrom start order m new.position before made
reported_more start order m n size old new line before out made from at next count whole reported is =
    let texts = texts_between start m old.position in
    let so_far = concat (ordered_texts order texts) in
    let text = line_bytes new.position line in
    let front : take size out ≡ before = ap (λ k. take k out) whole ∙ ap (take (length before)) reported ∙ take-append_seam before so_far in
    let back : drop size out ≡ so_far = ap (λ k. drop k out) whole ∙ ap (drop (length before)) reported ∙ drop-append_seam before so_far in
    is ∙ ap (λ l. l ++ beside order (drop size out) (line_bytes n line)) front
    ∙ ap (λ l. before ++ beside order l (line_bytes n line)) back
    ∙ ap (λ k. before ++ beside order so_far (line_bytes k line)) count
    ∙ ap (λ l. before ++ l) (sym (reported_beside order texts text))
    ∙ ap (λ ts. before ++ concat (ordered_texts order ts)) (sym (text_next start m old new line from at next))

-- a place that stays within what is put from it on
pub still_within : (out made more : List ℕ) (n : ℕ) → n ≤ length out → made ≡ take n out ++ more → n ≤ length made
still_within out made more n within is =
    let all = ap length is in
    let parts = length-append (take n out) more in
    let front = length-take-le n out within in
    omega (arith, all, parts, front)

-- what holds where a call was made holds of what follows from it
pub on_ok : {P Q : Type 0} (r : Result (Unit {0}) MoveFault) → (P → Q) → OnOk r P → OnOk r Q
on_ok (Ok x) follows h = follows h
on_ok (Err fault) follows h = tt

-- the lines of a stretch, and those behind it
pub between_parts : (start : State) (a b : ℕ) (at : Reached) → a ≤ b → b ≤ at.position → Passes start at → texts_between start a at.position ≡ texts_between start a b ++ texts_between start b at.position
between_parts start a b at low high here =
    let parted = run_parts start at.state b (at.position - b) here.lines (ap (run start) {x = b + (at.position - b)} {y = at.position} (omega (arith, high)) ∙ here.comes) in
    let many : length parted.first ≡ b = run_length b start parted.between parted.first parted.begins in
    let all : lines_of_steps (run start at.position) ≡ parted.first ++ parted.rest = lines_to start at here ∙ parted.together in
    let front : lines_of_steps (run start b) ≡ parted.first = ap lines_of_steps parted.begins in
    let rest : lines_between start b at.position ≡ parted.rest = ap (drop b) all ∙ drop_at parted.first parted.rest b many in
    let both : lines_between start a at.position ≡ lines_between start a b ++ lines_between start b at.position =
    ap (drop a) all ∙ drop-append-le a parted.first parted.rest (omega (arith, low, many)) ∙ ap (λ ls. drop a ls ++ parted.rest) (sym front) ∙ ap (λ ls. lines_between start a b ++ ls) (sym rest) in
    let so_many : length (lines_between start a b) ≡ b - a = lines_length start a (record { state = parted.between; position = b }) (record { lines = parted.first; comes = parted.begins }) in
    let number : a + 1 + length (lines_between start a b) ≡ b + 1 = omega (arith, so_many, low) in
    ap (texts_from (a + 1)) both ∙ texts_append (a + 1) (lines_between start a b) (lines_between start b at.position) ∙ ap (λ k. texts_between start a b ++ texts_from k (lines_between start b at.position)) number
