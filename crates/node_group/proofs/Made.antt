-- Of what an event makes, what its own group gets and what others; and how many of a run's lines are at one of the group's nodes.
use Rattle.std.proofs.Common.{◌≡◌, ◌≢◌, ℕ, ◌+◌, ◌≤◌, List, [], ◌∷◌, ◌++◌, length, filter, Bool, true, false, cond, not, ◌==◌, refl, sym, ap, ◌∙◌, ⊎_elim, eq-eqb, arith, length-append, subst}
use Rattle.std.proofs.lemmas.Bool.{cases_eq, ne_eqb}
use Rattle.std.proofs.lemmas.List.Elements.{filter-append}
use Rattle.std.proofs.lemmas.List.Sums.{length-filter}
use Rattle.std.specs.List.{AllByRecursion}
use Rattle.sim_time.specs.declared.key.Key.{Key}
use Rattle.node_core.specs.Pending.{EventChange}
use Rattle.node_core.specs.TraceLine.{TraceLine}
use Rattle.table_run.specs.Sound.{lines_at}
use Rattle.window_law.specs.Groups.{is_own, own_of, others_of}

module _ (group : ℕ → ℕ) (number : ℕ) where
  own_true : (k : Key) → group k.node ≡ number → is_own group number k ≡ true
  unfolding is_own
  own_true k e = eq-eqb (group k.node) number e

  own_false : (k : Key) → group k.node ≢ number → is_own group number k ≡ false
  unfolding is_own
  own_false k off = ne_eqb (group k.node) number off

  -- what is at the group's own nodes
  pub own_all : (cs : List EventChange) → AllByRecursion (λ (c : EventChange). group c.0.node ≡ number) cs → own_of group number cs ≡ cs
  own_all [] all = refl
  own_all (c ∷ cs) all = ap (λ b. cond b (c ∷ own_of group number cs) (own_of group number cs)) (own_true c.0 all.0) ∙ ap (λ (rest : List EventChange). c ∷ rest) (own_all cs all.1)

  pub others_none : (cs : List EventChange) → AllByRecursion (λ (c : EventChange). group c.0.node ≡ number) cs → others_of group number cs ≡ []
  others_none [] all = refl
  others_none (c ∷ cs) all = ap (λ b. cond (not b) (c ∷ others_of group number cs) (others_of group number cs)) (own_true c.0 all.0) ∙ others_none cs all.1

  -- and what is at others
  pub own_none : (cs : List EventChange) → AllByRecursion (λ (c : EventChange). group c.0.node ≢ number) cs → own_of group number cs ≡ []
  own_none [] all = refl
  own_none (c ∷ cs) all = ap (λ b. cond b (c ∷ own_of group number cs) (own_of group number cs)) (own_false c.0 all.0) ∙ own_none cs all.1

  pub others_all : (cs : List EventChange) → AllByRecursion (λ (c : EventChange). group c.0.node ≢ number) cs → others_of group number cs ≡ cs
  others_all [] all = refl
  others_all (c ∷ cs) all = ap (λ b. cond (not b) (c ∷ others_of group number cs) (others_of group number cs)) (own_false c.0 all.0) ∙ ap (λ (rest : List EventChange). c ∷ rest) (others_all cs all.1)

  pub own_both : (cs ds : List EventChange) → own_of group number (cs ++ ds) ≡ own_of group number cs ++ own_of group number ds
  own_both cs ds = filter-append (λ (c : EventChange). is_own group number c.0) cs ds

  pub others_both : (cs ds : List EventChange) → others_of group number (cs ++ ds) ≡ others_of group number cs ++ others_of group number ds
  others_both cs ds = filter-append (λ (c : EventChange). not (is_own group number c.0)) cs ds

  -- the lines at a node of the group are among the group's
  fewer : (node : ℕ) → group node ≡ number → (lines : List TraceLine) → length (filter (λ (l : TraceLine). l.key.node == node) lines) ≤ length (filter (λ (l : TraceLine). group l.key.node == number) lines)
  fewer node own [] = omega arith
  fewer node own (l ∷ ls) =
      let rest = fewer node own ls in
      let these = filter (λ (m : TraceLine). m.key.node == node) ls in
      let all = filter (λ (m : TraceLine). group m.key.node == number) ls in
      ⊎_elim
      (λ (here : l.key.node ≡ node).
      let one : length (filter (λ (m : TraceLine). m.key.node == node) (l ∷ ls)) ≡ length (l ∷ these) = ap (λ b. length (cond b (l ∷ these) these)) (eq-eqb l.key.node node here) in
      let more : length (filter (λ (m : TraceLine). group m.key.node == number) (l ∷ ls)) ≡ length (l ∷ all) = ap (λ b. length (cond b (l ∷ all) all)) (eq-eqb (group l.key.node) number (ap group here ∙ own)) in
      omega (arith, rest, one, more))
      (λ (apart : l.key.node ≢ node).
      let none : length (filter (λ (m : TraceLine). m.key.node == node) (l ∷ ls)) ≡ length these = ap (λ b. length (cond b (l ∷ these) these)) (ne_eqb l.key.node node apart) in
      let more = longer (group l.key.node == number) l all in
      omega (arith, rest, none, more))
      (cases_eq l.key.node node)
    where
      longer : (b : Bool) (m : TraceLine) (ms : List TraceLine) → length ms ≤ length (cond b (m ∷ ms) ms)
      longer true m ms = omega arith
      longer false m ms = omega arith

  pub fewer_lines : (node : ℕ) → group node ≡ number → (lines : List TraceLine) → lines_at node lines ≤ length (filter (λ (l : TraceLine). group l.key.node == number) lines)
  fewer_lines node own lines = subst (λ n. n ≤ length (filter (λ (l : TraceLine). group l.key.node == number) lines)) (length-filter (λ (l : TraceLine). l.key.node == node) lines) (fewer node own lines)

-- lines of two runs, one after the other
pub lines_both : (node : ℕ) (ls ms : List TraceLine) → lines_at node (ls ++ ms) ≡ lines_at node ls + lines_at node ms
lines_both node ls ms =
    let at : TraceLine → Bool = λ l. l.key.node == node in
    sym (length-filter at (ls ++ ms)) ∙ ap length (filter-append at ls ms) ∙ length-append (filter at ls) (filter at ms) ∙ (λ i. length-filter at ls i + length-filter at ms i)
