use Rattle.std.proofs.Common.{◌≡◌, [], ◌∷◌, ◌++◌, List, Option, sym, ap, subst, ◌∙◌, arith}
use Rattle.std.proofs.lemmas.List.{nil_from_length}
use Rattle.packet_chain.specs.Stamped.{Stamped}
use Rattle.port.specs.Port.{PortStep, offered_all}
use Rattle.node_core.specs.Links.{packets_of, packets_with}
use Rattle.node_core.specs.Passing.{HasStepped}
use Rattle.node_core.proofs.Steps.{one_alone}
use Rattle.node_core.proofs.link.Link.offer_behind.Goals as goal

-- the packet behind no others is alone
pub returns-then-len-eq0 : goal.returns-then-len-eq0
returns-then-len-eq0 c =
    let port = c.args.self.now.port in
    let packet = c.in-Some.cell.0 in
    let none : c.args.cells ≡ [] = nil_from_length c.args.cells (omega (arith, c.if-len-eq0.true, c.len.ensures.value)) in
    let all : packets_with c.args.cells c.args.last ≡ packet ∷ [] =
    ap (λ (last : Option Stamped). packets_with c.args.cells last) c.in-Some.is ∙ ap (λ (cells : List Stamped). packets_of cells ++ (packet ∷ [])) none in
    subst (λ (s : PortStep). HasStepped s c.args.self.now c.send.new.self c.args.out.now c.send.new.out c.args.acts.now.acts c.send.new.acts.acts) (sym (ap (offered_all c.args.now port) all ∙ one_alone c.args.now port packet)) c.send.ensures
