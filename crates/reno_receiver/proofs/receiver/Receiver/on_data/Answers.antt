use Rattle.std.proofs.Common.{◌≡◌, ◌+◌, true, false, Some, sym, ap, ◌∙◌, arith}
use Rattle.std.specs.Prelude.{◌≢◌}
use Rattle.reno_receiver.specs.declared.reply.Reply.TheVariants.{AckNow, Wait}
use Rattle.reno_receiver.specs.Received.{ReceiverState, next_of, may_wait, gaining, IsReceived, timer_came}
use Rattle.reno_receiver.proofs.Kept.{next_of_kept, below_received, gaining_received}
use Rattle.reno_receiver.proofs.Replies.{on_err, not_next, now_reply, now_state, wait_reply, wait_state}
use Rattle.reno_receiver.proofs.receiver.Receiver.on_data.Goals as goal

pub hold-requires-clause-above : goal.hold-requires-clause-above
hold-requires-clause-above c =
    let next : next_of c.args.self.now ≡ c.self.inside.next = rw (← c.self.view_is) (next_of_kept c.self.inside c.self.invariant) in
    omega arith

pub advance-requires : goal.advance-requires
advance-requires c =
    let next : next_of c.args.self.now ≡ c.self.inside.next = rw (← c.self.view_is) (next_of_kept c.self.inside c.self.invariant) in
    omega arith

pub returns-in_err-hold-clause-wants_memory : goal.returns-in_err-hold-clause-wants_memory
returns-in_err-hold-clause-wants_memory c =
    let next : next_of c.args.self.now ≡ c.self.inside.next = rw (← c.self.view_is) (next_of_kept c.self.inside c.self.invariant) in
    on_err c.from_residual.result (omega arith, c.in_err-hold.ensures.wants_memory)

-- a number above the next one
pub returns-then-seq-self-clause-reply : goal.returns-then-seq-self-clause-reply
returns-then-seq-self-clause-reply c =
    let next : next_of c.args.self.now ≡ c.self.inside.next = rw (← c.self.view_is) (next_of_kept c.self.inside c.self.invariant) in
    let apart : c.args.seq ≢ next_of c.args.self.now = omega arith in
    c.acknowledge.ensures.answer ∙ ap (λ st. AckNow (next_of st)) c.in_ok-hold.ensures.ok ∙ now_reply c.args.self.now c.args.seq c.args.now (not_next c.args.self.now c.args.seq c.args.now apart)

pub returns-then-seq-self-clause-state : goal.returns-then-seq-self-clause-state
returns-then-seq-self-clause-state c =
    let next : next_of c.args.self.now ≡ c.self.inside.next = rw (← c.self.view_is) (next_of_kept c.self.inside c.self.invariant) in
    let apart : c.args.seq ≢ next_of c.args.self.now = omega arith in
    c.acknowledge.ensures.state ∙ ap (λ st. (timer_came st).state) c.in_ok-hold.ensures.ok ∙ now_state c.args.self.now c.args.seq c.args.now (not_next c.args.self.now c.args.seq c.args.now apart)

-- a number below it
pub returns-then-seq-self-2-clause-reply : goal.returns-then-seq-self-2-clause-reply
returns-then-seq-self-2-clause-reply c =
    let next : next_of c.args.self.now ≡ c.self.inside.next = rw (← c.self.view_is) (next_of_kept c.self.inside c.self.invariant) in
    let apart : c.args.seq ≢ next_of c.args.self.now = omega arith in
    let mss : c.self.inside.mss ≡ c.args.self.now.mss = ap (λ (st : ReceiverState). st.mss) c.self.view_is in
    let old : IsReceived c.args.self.now c.args.seq = rw (← c.self.view_is) (below_received c.self.inside c.self.invariant c.args.seq (rw mss c.requires.multiple) c.if-seq-self-2.true) in
    c.acknowledge-then-seq-self-2.ensures.answer ∙ ap (λ st. AckNow (next_of st)) (sym (gaining_received c.args.self.now c.args.seq old)) ∙ now_reply c.args.self.now c.args.seq c.args.now (not_next c.args.self.now c.args.seq c.args.now apart)

pub returns-then-seq-self-2-clause-state : goal.returns-then-seq-self-2-clause-state
returns-then-seq-self-2-clause-state c =
    let next : next_of c.args.self.now ≡ c.self.inside.next = rw (← c.self.view_is) (next_of_kept c.self.inside c.self.invariant) in
    let apart : c.args.seq ≢ next_of c.args.self.now = omega arith in
    let mss : c.self.inside.mss ≡ c.args.self.now.mss = ap (λ (st : ReceiverState). st.mss) c.self.view_is in
    let old : IsReceived c.args.self.now c.args.seq = rw (← c.self.view_is) (below_received c.self.inside c.self.invariant c.args.seq (rw mss c.requires.multiple) c.if-seq-self-2.true) in
    c.acknowledge-then-seq-self-2.ensures.state ∙ ap (λ st. (timer_came st).state) (sym (gaining_received c.args.self.now c.args.seq old)) ∙ now_state c.args.self.now c.args.seq c.args.now (not_next c.args.self.now c.args.seq c.args.now apart)

-- the next number
pub returns-then-waits-clause-reply : goal.returns-then-waits-clause-reply
returns-then-waits-clause-reply c =
    let next : next_of c.args.self.now ≡ c.self.inside.next = rw (← c.self.view_is) (next_of_kept c.self.inside c.self.invariant) in
    let same : next_of c.args.self.now ≡ c.args.seq = omega (arith, c.if-seq-self.false, c.if-seq-self-2.false) in
    let delack : c.self-then-waits.inside.delack ≡ c.args.self.now.delack = ap (λ (st : ReceiverState). st.delack) (c.self-then-waits.view_is ∙ c.advance.ensures) in
    let waits : may_wait c.args.self.now c.args.seq ≡ true = ap (may_wait c.args.self.now) (sym same) ∙ sym c.waits-waits.ensures ∙ c.if-waits.true in
    ap (λ d. Wait (c.args.now + d)) delack ∙ wait_reply c.args.self.now c.args.seq c.args.now waits

pub returns-then-waits-clause-state : goal.returns-then-waits-clause-state
returns-then-waits-clause-state c =
    let next : next_of c.args.self.now ≡ c.self.inside.next = rw (← c.self.view_is) (next_of_kept c.self.inside c.self.invariant) in
    let same : next_of c.args.self.now ≡ c.args.seq = omega (arith, c.if-seq-self.false, c.if-seq-self-2.false) in
    let after = c.self-then-waits.view_is ∙ c.advance.ensures ∙ ap (gaining c.args.self.now) same in
    let waits : may_wait c.args.self.now c.args.seq ≡ true = ap (may_wait c.args.self.now) (sym same) ∙ sym c.waits-waits.ensures ∙ c.if-waits.true in
    ap (λ (st : ReceiverState). record st { timer = Some (c.args.now + st.delack) }) after ∙ wait_state c.args.self.now c.args.seq c.args.now waits

pub returns-else-waits-clause-reply : goal.returns-else-waits-clause-reply
returns-else-waits-clause-reply c =
    let next : next_of c.args.self.now ≡ c.self.inside.next = rw (← c.self.view_is) (next_of_kept c.self.inside c.self.invariant) in
    let same : next_of c.args.self.now ≡ c.args.seq = omega (arith, c.if-seq-self.false, c.if-seq-self-2.false) in
    let waits : may_wait c.args.self.now c.args.seq ≡ false = ap (may_wait c.args.self.now) (sym same) ∙ sym c.waits-waits.ensures ∙ c.if-waits.false in
    c.acknowledge-else-waits.ensures.answer ∙ ap (λ st. AckNow (next_of st)) (c.advance.ensures ∙ ap (gaining c.args.self.now) same) ∙ now_reply c.args.self.now c.args.seq c.args.now waits

pub returns-else-waits-clause-state : goal.returns-else-waits-clause-state
returns-else-waits-clause-state c =
    let next : next_of c.args.self.now ≡ c.self.inside.next = rw (← c.self.view_is) (next_of_kept c.self.inside c.self.invariant) in
    let same : next_of c.args.self.now ≡ c.args.seq = omega (arith, c.if-seq-self.false, c.if-seq-self-2.false) in
    let waits : may_wait c.args.self.now c.args.seq ≡ false = ap (may_wait c.args.self.now) (sym same) ∙ sym c.waits-waits.ensures ∙ c.if-waits.false in
    c.acknowledge-else-waits.ensures.state ∙ ap (λ st. (timer_came st).state) (c.advance.ensures ∙ ap (gaining c.args.self.now) same) ∙ now_state c.args.self.now c.args.seq c.args.now waits
