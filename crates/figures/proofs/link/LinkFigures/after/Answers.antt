use Rattle.std.proofs.Common.{ℕ, ◌+◌, ◌*◌, ◌^◌, ◌≤◌, List, ap, subst, sym, arith, rules}
use Rattle.std.specs.Prelude.{slice_index}
use Rattle.figures.specs.declared.tally.Tally.{Tally}
use Rattle.figures.proofs.link.LinkFigures.after.Goals as goal

pub returns : goal.returns
returns c =
    let counted = c.count_at-sent.ensures.counted in
    let passed = c.pass.ensures in
    record {
      first = search rules;
      offered = search rules;
      waiting = search rules;
      busy = search rules;
      since = search rules;
      dropped = search rules;
      sent = search rules;
      bytes = search rules;
      waited = search rules;
      busy_for = search rules;
      longest = search rules;
      next_entry_is = search rules;
      waits = search rules;
      few = λ n is.
          let one = counted.few n is in
          let waits = ap (λ (t : Tally). t.count) passed.waits in
          let before = ap (λ (t : Tally). t.count) counted.waits in
          record {
            dropped = subst (λ (counts : List ℕ). (i : ℕ) → slice_index counts i ≤ (n + 1) * 2 ^ 64) (sym passed.dropped) one.dropped;
            bytes = omega (arith, one.bytes, passed.bytes);
            waits = omega (arith, waits, before, c.note_some.ensures.most, is.waits);
          };
    }
