use Rattle.std.proofs.Common.{◌≡◌, ◌∙◌, ℕ, Option, IfOk, IfSome, subst, sym}
use Rattle.std.specs.Prelude.{IsSomeAnd}
use Rattle.scenario_asm.specs.declared.named_parts.NamedParts.{NamedParts}
use Rattle.scenario_asm.specs.Declarations.{DeclaresParts}
use Rattle.sessions.proofs.naming.text_naming.Goals as goal

pub unreachable-requires : goal.unreachable-requires
unreachable-requires c =
    let p = c.requires.0 in
    let means = c.requires.1 in
    let declares : DeclaresParts c.args.text.now p = record { said = means.said; all_read = means.all_read; made = record { end = means.made.end; one_end = means.made.one_end; parts_are = means.made.parts_are } } in
    let found = subst (λ r. IfOk r (λ (o : Option NamedParts). IsSomeAnd o (λ named. named.parts ≡ p))) c.in_ok-named.was (c.parts_of_text.ensures.only p declares) in
    subst (λ (o : Option NamedParts). IsSomeAnd o (λ named. named.parts ≡ p)) c.in-None.is found
