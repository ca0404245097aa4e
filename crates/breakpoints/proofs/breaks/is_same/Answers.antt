use Rattle.std.proofs.Common.{◌≡◌, sym, ap, ◌∙◌, true≢false}
use Rattle.breakpoints.specs.declared.breaks.Break.{Break}
use Rattle.breakpoints.proofs.breaks.is_same.Goals as goal

pub returns-then-ask_same_of_lines : goal.returns-then-ask_same_of_lines
returns-then-ask_same_of_lines c = (
  λ same.
      let one = c.ask_same_of_lines.ensures.0 c.if-ask_same_of_lines.true in
      let two = c.are_same_values.ensures.0 same in
      λ i. record { node = one.0 i; flow = one.1 i; link = one.2 i; kind = one.3 i; drops = one.4 i; byte = one.5 i; stall = one.6 i; values = two i },
  λ (e : c.args.a.now ≡ c.args.b.now). c.are_same_values.ensures.1 (ap (λ (v : Break). v.values) e),
)

pub returns-else-ask_same_of_lines : goal.returns-else-ask_same_of_lines
returns-else-ask_same_of_lines c = (
  λ same. absurd (true≢false (sym same)),
  λ (e : c.args.a.now ≡ c.args.b.now).
      absurd (true≢false (sym (c.ask_same_of_lines.ensures.1 (ap (λ (v : Break). v.node) e, ap (λ (v : Break). v.flow) e, ap (λ (v : Break). v.link) e, ap (λ (v : Break). v.kind) e, ap (λ (v : Break). v.drops) e, ap (λ (v : Break). v.byte) e, ap (λ (v : Break). v.stall) e)) ∙ c.if-ask_same_of_lines.false)),
)
