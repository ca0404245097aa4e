use Rattle.std.proofs.Common.{refl, get_or, None}
use Rattle.figures.proofs.Begun.{begun_is, received_are}
use Rattle.figures.proofs.AllLinks.{links_begun}
use Rattle.figures.proofs.figures.Figures.begun.Goals as goal

pub returns : goal.returns
returns c = λ n before completed. record {
  senders = begun_is c.args.since n before (λ node. get_or c.args.earlier.now node None) c.nodes.result.now c.args.net.now.state _ c.nodes.ensures.parts c.in_ok-all_begun.ensures.size c.in_ok-all_begun.ensures.figures completed;
  links = links_begun c.args.since n before c.nodes-2.result.now c.args.net.now.state c.in_ok-all_links_begun.field-0.items c.nodes-2.ensures.parts c.in_ok-all_links_begun.ensures.size c.in_ok-all_links_begun.ensures.figures;
  received = received_are c.nodes-3.result.now c.args.net.now.state c.in_ok-all_received.field-0.items c.nodes-3.ensures.parts c.in_ok-all_received.ensures.size c.in_ok-all_received.ensures.bytes;
  events = refl;
  last = refl;
}
