use Rattle.std.proofs.Common.{◌≡◌, Some, sym, subst, refl, arith, ℕ, length}
use Rattle.scenario_image.specs.Paths.{node_after_hops}
use Rattle.scenario_image.proofs.Courses.{IsUnbrokenFor, ended, returned, breaks, unbroken_more, node_more}
use Rattle.scenario_image.proofs.paths.course_of.Goals as goal

pub loop-hops-preserved : goal.loop-hops-preserved
loop-hops-preserved c = record {
  at_node = node_more c.args.parts.now c.args.path c.loop-hops._hops c.loop-hops.node c.in-Some.next c.loop-hops.invariant.at_node (sym c.in-Some.ensures);
  unbroken = unbroken_more c.args.parts.now c.args.path c.loop-hops._hops c.loop-hops.node c.in-Some.next c.loop-hops.invariant.unbroken c.loop-hops.invariant.at_node (sym c.in-Some.ensures) (c.if-not-may_pass.ensures.0 refl);
}

pub returns-in_default : goal.returns-in_default
returns-in_default c = ended c.args.parts.now c.args.path c.loop-hops._hops c.loop-hops.node c.loop-hops.invariant.unbroken c.loop-hops.invariant.at_node (sym c.in_default.ensures)

pub returns-then-not-may_pass : goal.returns-then-not-may_pass
returns-then-not-may_pass c =
    breaks c.args.parts.now c.args.path c.loop-hops._hops c.loop-hops.node c.in-Some.next c.loop-hops.invariant.at_node (sym c.in-Some.ensures)
    (λ passes. let holds = c.if-not-may_pass.ensures.1 passes in cc)

pub returns : goal.returns
returns c =
    let all : c.loop-hops._hops ≡ length c.args.parts.now.nodes = omega (arith, c.len-hops-end.ensures) in
    returned c.args.parts.now c.args.path c.loop-hops.node c.requires.limits c.requires.start (subst (IsUnbrokenFor c.args.parts.now c.args.path) all c.loop-hops.invariant.unbroken)
    (subst (λ (k : ℕ). node_after_hops c.args.parts.now c.args.path k ≡ Some c.loop-hops.node) all c.loop-hops.invariant.at_node)
