-- The rule's two answers.
use Rattle.std.proofs.Common.{◌≡◌, ℕ, ◌+◌, true, false, cond, Some, None, sym, ap}
use Rattle.std.specs.Prelude.{◌≢◌, Result, Ok, Err, OnErr}
use Rattle.std.proofs.lemmas.Bool.{and_left, ne_eqb}
use Rattle.reno_receiver.specs.declared.reply.Reply.TheVariants.{AckNow, Wait}
use Rattle.reno_receiver.specs.Received.{ReceiverState, next_of, may_wait, gaining, data_came, timer_came}

-- what holds, holds of an error
pub on_err : {T E P : Type 0} (result : Result T E) → P → OnErr result P
on_err (Ok x) is = tt
on_err (Err e) is = is

module _ (st : ReceiverState) (seq now : ℕ) where
  pub not_next : seq ≢ next_of st → may_wait st seq ≡ false
  not_next ne = and_left _ _ (ne_eqb seq (next_of st) ne)

  pub now_reply : may_wait st seq ≡ false → AckNow (next_of (gaining st seq)) ≡ (data_came st seq now).reply
  now_reply e = sym (ap (λ b. cond b (Wait (now + st.delack)) (AckNow (next_of (gaining st seq)))) e)

  pub now_state : may_wait st seq ≡ false → (timer_came (gaining st seq)).state ≡ (data_came st seq now).state
  now_state e = sym (ap (λ b. record (gaining st seq) { timer = cond b (Some (now + st.delack)) None }) e)

  pub wait_reply : may_wait st seq ≡ true → Wait (now + st.delack) ≡ (data_came st seq now).reply
  wait_reply e = sym (ap (λ b. cond b (Wait (now + st.delack)) (AckNow (next_of (gaining st seq)))) e)

  pub wait_state : may_wait st seq ≡ true → record (gaining st seq) { timer = Some (now + st.delack) } ≡ (data_came st seq now).state
  wait_state e = sym (ap (λ b. record (gaining st seq) { timer = cond b (Some (now + st.delack)) None }) e)
