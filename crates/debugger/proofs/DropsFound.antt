-- The drops among the lines of a run, as they are found one line after another.
use Rattle.std.proofs.Common.{◌≡◌, ◌+◌, ◌∙◌, ℕ, suc, List, [], ◌∷◌, ◌++◌, length, sym, ap, arith, append_assoc, append-nil, Some}
use Rattle.node_core.specs.TraceLine.{TraceLine}
use Rattle.table_run.specs.State.{State}
use Rattle.net_machine.specs.Run.{Reached, Stepped}
use Rattle.debugger.specs.declared.drops.DropsOf.{DropsOf}
use Rattle.debugger.specs.declared.drops.PastDrop.{PastDrop}
use Rattle.debugger.specs.Moves.{Passes}
use Rattle.debugger.specs.Drops.{drops_in, drops_from, past_drops}
use Rattle.debugger.proofs.Between.{lines_to, as_many, one_line}

drops_append : (asked : DropsOf) (n : ℕ) (xs ys : List TraceLine) → drops_from asked n (xs ++ ys) ≡ drops_from asked n xs ++ drops_from asked (n + length xs) ys
drops_append asked n [] ys = let e : n ≡ n + 0 = omega arith in ap (λ k. drops_from asked k ys) e
drops_append asked n (x ∷ xs) ys =
    let e : n + 1 + length xs ≡ n + suc (length xs) = omega arith in
    ap (λ ds. drops_in asked n x.acts ++ ds) (drops_append asked (n + 1) xs ys ∙ ap (λ k. drops_from asked (n + 1) xs ++ drops_from asked k ys) e)
    ∙ sym (append_assoc (drops_in asked n x.acts) (drops_from asked (n + 1) xs) (drops_from asked (n + suc (length xs)) ys))

-- those of one line more
drops_next : (start : State) (asked : DropsOf) (old new : Reached) (line : TraceLine) → Passes start old → Stepped old (Some line) new
    → past_drops start asked new.position ≡ past_drops start asked old.position ++ drops_in asked new.position line.acts
drops_next start asked old new line at next =
    let many = as_many start old at in
    let number : 1 + length at.lines ≡ new.position = omega (arith, many, next.1) in
    ap (drops_from asked 1) (one_line start old new line at next)
    ∙ drops_append asked 1 at.lines (line ∷ [])
    ∙ ap (λ k. drops_from asked 1 at.lines ++ (drops_in asked k line.acts ++ [])) number
    ∙ ap (λ ds. drops_from asked 1 at.lines ++ ds) (append-nil (drops_in asked new.position line.acts))
    ∙ ap (λ ls. drops_from asked 1 ls ++ drops_in asked new.position line.acts) (sym (lines_to start old at))

pub drops_more : (start : State) (asked : DropsOf) (n : ℕ) (old new : Reached) (line : TraceLine) (before out made : List PastDrop) → Passes start old → Stepped old (Some line) new → n ≡ new.position
    → out ≡ before ++ past_drops start asked old.position → made ≡ out ++ drops_in asked n line.acts → made ≡ before ++ past_drops start asked new.position
drops_more start asked n old new line before out made at next count are is =
    is ∙ ap (λ l. l ++ drops_in asked n line.acts) are
    ∙ append_assoc before (past_drops start asked old.position) (drops_in asked n line.acts)
    ∙ ap (λ k. before ++ (past_drops start asked old.position ++ drops_in asked k line.acts)) count
    ∙ ap (λ l. before ++ l) (sym (drops_next start asked old new line at next))

-- at the run's beginning there is none
pub drops_none : (start : State) (asked : DropsOf) (p : ℕ) (out : List PastDrop) → p ≡ 0 → out ≡ out ++ past_drops start asked p
drops_none start asked p out begins = sym (append-nil out) ∙ ap (λ k. out ++ past_drops start asked k) (sym begins)
