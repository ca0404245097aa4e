-- Each packet that was offered to a link is told to have left it, or it waits.
use Rattle.std.proofs.Common.{◌≡◌, ℕ, ◌+◌, cond, List, [], ◌∷◌, ◌++◌, length, refl, sym, ap, subst, arith, length-append}
use Rattle.std.specs.Prelude.{count_by}
use Rattle.std.proofs.lemmas.List.Sums.{sum_by-cons}
use Rattle.aqm.proofs.Stays.{queues_open_empty}
use Rattle.aqm.specs.declared.drop_reason.DropReason.TheVariants.{Lost, Offer, Take}
use Rattle.port.specs.declared.acts.Act.{Act}
use Rattle.port.specs.declared.acts.Act.TheVariants.{Tx, Dropped}
use Rattle.port.specs.Port.{PortState, PortStep}
use Rattle.run_laws.specs.Links.{port_of_link, acts_at, is_sent, is_lost_act, is_refused, by_queue, PacketsAreConserved}
use Rattle.run_laws.proofs.Along.{LinkFact, IsKeptBy, in_every_state}
use Rattle.run_laws.proofs.Ports.{Balances, sends, sends_append, waiting, taken_balances, one_balances, all_balance}
use Rattle.run_laws.proofs.Touched.{Touches, by_offers, by_offer, by_take}

record IsBalanced (acts : List Act) (port : PortState) : Type 0 where
  pub total : length acts + waiting port ≡ port.offered
  pub sent : sends acts ≡ port.sent

abbrev Fact : LinkFact
Fact _ acts port = IsBalanced acts port

balance_goes_on : (n : ℕ) (acts : List Act) (old : PortState) (step : PortStep) → Balances n old step → IsBalanced acts old → IsBalanced (acts ++ step.acts) step.port
balance_goes_on n acts old step b h = record {
  total = (let a = b.total in let c = b.offered in let d = h.total in let e = length-append acts step.acts in omega (arith, a, c, d, e));
  sent = (let a = b.sent in let c = h.sent in let d = sends_append acts step.acts in omega (arith, a, c, d));
}

done : (now : ℕ) (acts : List Act) (old : PortState) (step : PortStep) → Touches now old step → IsBalanced acts old → IsBalanced (acts ++ step.acts) step.port
done now acts old step (by_offers packets is) h = subst (λ (x : PortStep). IsBalanced (acts ++ x.acts) x.port) (sym is) (balance_goes_on (length packets) acts old _ (all_balance now old packets) h)
done now acts old step (by_offer packet is) h = subst (λ (x : PortStep). IsBalanced (acts ++ x.acts) x.port) (sym is) (balance_goes_on 1 acts old _ (one_balances now old packet) h)
done now acts old step (by_take free is) h = subst (λ (x : PortStep). IsBalanced (acts ++ x.acts) x.port) (sym is) (balance_goes_on 0 acts old _ (taken_balances now old) h)

kept : IsKeptBy Fact
kept = record {
  first = λ x. record { total = (let a = ap length (queues_open_empty x.1.queue x.1.capacity).empty in omega (arith, a)); sent = refl };
  later = λ _ _ _ _ _ h. h;
  done = λ now acts old step _ touches h. done now acts old step touches h;
}

-- each act is of one sort
by_sorts : (acts : List Act) → length acts ≡ count_by is_lost_act acts + count_by is_refused acts + count_by by_queue acts + count_by is_sent acts
by_sorts [] = refl
by_sorts (act ∷ acts) =
    let rest = by_sorts acts in
    let a = sum_by-cons (λ (act : Act). cond (is_lost_act act) 1 0) act acts in
    let b = sum_by-cons (λ (act : Act). cond (is_refused act) 1 0) act acts in
    let c = sum_by-cons (λ (act : Act). cond (by_queue act) 1 0) act acts in
    let d = sum_by-cons (λ (act : Act). cond (is_sent act) 1 0) act acts in
    let one = its_sort act in
    omega (arith, rest, a, b, c, d, one)
  where
    its_sort : (act : Act) → cond (is_lost_act act) 1 0 + cond (is_refused act) 1 0 + cond (by_queue act) 1 0 + cond (is_sent act) 1 0 ≡ 1
    its_sort (Tx link packet) = refl
    its_sort (Dropped link Lost packet) = refl
    its_sort (Dropped link (Offer reason) packet) = refl
    its_sort (Dropped link (Take reason) packet) = refl

pub packets_are_conserved : PacketsAreConserved
packets_are_conserved p n lines s is_scenario e node index within =
    let h = (in_every_state Fact kept p n lines s is_scenario e).holds node index within in
    record {
      offered = (let a = h.total in let b = by_sorts (acts_at (port_of_link s node index).link lines) in omega (arith, a, b));
      sent = sym h.sent;
    }
