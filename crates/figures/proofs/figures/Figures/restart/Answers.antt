use Rattle.std.proofs.Common.{◌≡◌, ◌<◌, ◌∙◌, ℕ, List, None, length, get_or, arith, ap, rules}
use Rattle.table_run.specs.State.{initial}
use Rattle.figures.specs.Moments.{moments, turns_at}
use Rattle.figures.specs.Senders.{completed_in, completed_of}
use Rattle.figures.specs.declared.sender.SenderFigures.{SenderFigures}
use Rattle.figures.specs.Figures.{base_at}
use Rattle.figures.proofs.Along.{begun_run, completed_now}
use Rattle.figures.proofs.Anew.{same_anew}
use Rattle.figures.proofs.figures.Figures.restart.Goals as goal

pub returns-then-self-since-clause-run : goal.returns-then-self-since-clause-run
returns-then-self-since-clause-run c = λ p b in_time of. same_anew p b c.args.self.now c.args.net.now c.args.since c.if-self-eq0.true c.if-self-since.true of

pub returns-then-self-since-clause-some : goal.returns-then-self-since-clause-some
returns-then-self-since-clause-some c = λ p b is_scenario in_time late of. record {
  scenario = p;
  is_scenario = is_scenario;
  fits = c.position-position.ensures.is_run.position_fits;
  base = b;
  of = of;
  in_order = λ k v is. (let later = late k v is in let last = c.if-self-since.true in omega (arith, later, last));
}

pub returns-clause-run : goal.returns-clause-run
returns-clause-run c = λ p b in_time of.
    let r = c.args.net.now in
    let same : c.deref.result.now ≡ c.args.self.now.senders.items = search rules in
    let again : c.deref-2.result.now ≡ c.in_ok-earlier.earlier.items = search rules in
    let completed : (node : ℕ) → node < length r.state.parts → get_or c.deref-2.result.now node None ≡ completed_of (turns_at node (moments (initial p) r.position)) =
    λ node within. ap (λ xs. get_or xs node None) again ∙ c.in_ok-earlier.ensures node (let senders = of.figures.senders.size in let many = ap (λ (xs : List SenderFigures). length xs) same in omega (arith, within, senders, many)) ∙ ap (λ (xs : List SenderFigures). completed_in xs node) same ∙ completed_now p b c.args.self.now r of node within in
    begun_run p c.args.since r of.lines _ of.comes in_time (c.in_ok-self.ensures r.position (moments (initial p) r.position) completed)

pub returns-clause-some : goal.returns-clause-some
returns-clause-some c = λ p b is_scenario in_time late of.
    let r = c.args.net.now in
    let same : c.deref.result.now ≡ c.args.self.now.senders.items = search rules in
    let again : c.deref-2.result.now ≡ c.in_ok-earlier.earlier.items = search rules in
    let completed : (node : ℕ) → node < length r.state.parts → get_or c.deref-2.result.now node None ≡ completed_of (turns_at node (moments (initial p) r.position)) =
    λ node within. ap (λ xs. get_or xs node None) again ∙ c.in_ok-earlier.ensures node (let senders = of.figures.senders.size in let many = ap (λ (xs : List SenderFigures). length xs) same in omega (arith, within, senders, many)) ∙ ap (λ (xs : List SenderFigures). completed_in xs node) same ∙ completed_now p b c.args.self.now r of node within in
    let last = (c.in_ok-self.ensures r.position (moments (initial p) r.position) completed).last in
    record {
      scenario = p;
      is_scenario = is_scenario;
      fits = c.position-position.ensures.is_run.position_fits;
      base = base_at p c.args.since r;
      of = returns-clause-run c p b in_time of;
      in_order = λ k v is. (let later = late k v is in omega (arith, later, last));
    }
