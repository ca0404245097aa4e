-- What a sender sends, by what it keeps before and after.
use Rattle.std.proofs.Common.{◌≡◌, ℕ, ◌+◌, ◌-◌, ◌*◌, ◌/◌, ◌<◌, ◌≤◌, Bool, true, false, cond, not, ◌&&◌, ◌||◌, ltb, max, Option, [], ◌∷◌, ◌++◌, refl, sym, ap, subst, ◌∙◌, arith}
use Rattle.std.proofs.lemmas.Bool.{and_parts, lt-ltb, le-ltb}
use Rattle.std.proofs.Math.Nat.{zero-mul, one-mul, div-eq_of_eq-mul_left}
use Rattle.reno_sender.specs.declared.fields.SenderFields.{SenderFields}
use Rattle.reno_sender.specs.declared.fields.Timing.{Timing}
use Rattle.reno_sender.specs.Fields.{IsMultiple, IsSound}
use Rattle.reno_sender.specs.Sending.{Planned, spaced, sending, fill_count}
use Rattle.reno_sender.specs.Table.{started, acknowledged, timed_out, enters, new_acknowledgement, nothing_sent, further_duplicate, fast_retransmit, repeated_duplicate, early_duplicate, is_partial, is_below, partly, partial_acknowledgement, measured_by, advanced, inflated, one_more}
use Rattle.reno_sender.proofs.RowLaws.{by_rows}
use Rattle.reno_sender.proofs.Samples.{by_sample}
use Rattle.figures.specs.Turns.{HasActedFrom, IsOfSegments, kept_of, resends, sent_between, sent_as, planned_by}
use Rattle.figures.specs.declared.turn.KeptSender.{KeptSender}
use Rattle.figures.specs.declared.turn.Cause.{Cause}
use Rattle.figures.specs.declared.turn.Cause.TheVariants.{Starts, Acknowledged, TimesOut}

-- una is sent again or is not, and then a run is sent up to nxt
pub record IsSent (f : SenderFields) (p : Planned) : Type 0 where
  pub run : ℕ
  pub mss : p.fields.mss ≡ f.mss
  pub ends : p.fields.nxt ≡ max f.nxt p.fields.una + run * f.mss
  pub sent : p.sent ≡ cond (resends (kept_of f) p.fields) (p.fields.una ∷ []) [] ++ spaced (max f.nxt p.fields.una) f.mss run

measured_mss : (o : Option Timing) (f : SenderFields) (ack now : ℕ) → (measured_by o f ack now).mss ≡ f.mss
measured_mss o f ack now = by_sample (λ g. g.mss ≡ f.mss) o f ack now refl (λ r. refl)

measured_recovery : (o : Option Timing) (f : SenderFields) (ack now : ℕ) → (measured_by o f ack now).recovery ≡ f.recovery
measured_recovery o f ack now = by_sample (λ g. g.recovery ≡ f.recovery) o f ack now refl (λ r. refl)

partial_recovers : (f : SenderFields) (ack : ℕ) → is_partial f ack ≡ true → f.recovery ≡ true
partial_recovers f ack e =
    let inner : (f.recovery && is_below ack f.recover) ≡ true = (and_parts _ _ e).1 in
    (and_parts _ _ inner).0

either_row : (P : Planned → Type 0) (b : Bool) (p q : Planned) → P p → P q → P (cond b p q)
either_row P true p q x y = x
either_row P false p q x y = y

-- una stays
stays : (f : SenderFields) (p : Planned) (b : Bool) (k : ℕ) → f.una ≤ f.nxt → p.fields.mss ≡ f.mss → p.fields.una ≡ f.una → (p.fields.recovery && not f.recovery) ≡ b → p.fields.nxt ≡ f.nxt + k * f.mss → p.sent ≡ cond b (f.una ∷ []) [] ++ spaced f.nxt f.mss k → IsSent f p
stays f p b k within mss una on ends is =
    let first : max f.nxt p.fields.una ≡ f.nxt = omega (arith, within, una) in
    let less : ltb f.una p.fields.una ≡ false = le-ltb f.una p.fields.una (omega (arith, una)) in
    let again : resends (kept_of f) p.fields ≡ b = ap (λ c. p.fields.recovery && (not f.recovery || c)) less ∙ right p.fields.recovery (not f.recovery) ∙ on in
    record {
      run = k;
      mss = mss;
      ends = ends ∙ ap (λ x. x + k * f.mss) (sym first);
      sent = is ∙ ap (λ x. cond b (f.una ∷ []) [] ++ spaced x f.mss k) (sym first) ∙ ap (λ x. cond b (x ∷ []) [] ++ spaced (max f.nxt p.fields.una) f.mss k) (sym una)
          ∙ ap (λ c. cond c (p.fields.una ∷ []) [] ++ spaced (max f.nxt p.fields.una) f.mss k) (sym again);
    }
  where
    right : (a b : Bool) → (a && (b || false)) ≡ (a && b)
    right true true = refl
    right true false = refl
    right false b = refl

no_recovery : (a b : Bool) → b ≡ a → (a && not b) ≡ false
no_recovery true true e = refl
no_recovery false b e = refl
no_recovery true false e = cc

pub acknowledged_sent : (f : SenderFields) (ack now : ℕ) → IsSound f → IsSent f (acknowledged f ack now)
acknowledged_sent f ack now s =
    by_rows (IsSent f) f ack now new part old further fast unentered early repeated
  where
    within : f.una ≤ f.nxt
    within = s.una_nxt

    none : (h : SenderFields) → h.mss ≡ f.mss → h.una ≡ f.una → h.nxt ≡ f.nxt → h.recovery ≡ f.recovery → IsSent f (nothing_sent h)
    none h mss una nxt same = stays f (nothing_sent h) false 0 within mss una (no_recovery h.recovery f.recovery (sym same)) (omega (arith, nxt, zero-mul f.mss)) refl

    one : (h : SenderFields) → h.mss ≡ f.mss → h.una ≡ f.una → h.recovery ≡ f.recovery → IsSent f (sending h (f.nxt ∷ []) (f.nxt + f.mss) now)
    one h mss una same = stays f (sending h (f.nxt ∷ []) (f.nxt + f.mss) now) false 1 within mss una (no_recovery h.recovery f.recovery (sym same)) (omega (arith, one-mul f.mss)) refl

    new : f.una < ack → is_partial f ack ≡ false → IsSent f (new_acknowledgement f ack now)
    new less whole =
        let mss : (advanced f ack now).mss ≡ f.mss = measured_mss f.timing f ack now in
        let k : ℕ = fill_count (advanced f ack now) in
        record {
          run = k;
          mss = mss;
          ends = ap (λ m. max f.nxt ack + k * m) mss;
          sent = ap (λ m. spaced (max f.nxt ack) m k) mss;
        }

    on : is_partial f ack ≡ true → (partly f ack now).recovery ≡ true
    on part = measured_recovery f.timing f ack now ∙ partial_recovers f ack part

    moved : f.una < ack → (a b : Bool) → a ≡ true → (a && (b || ltb f.una ack)) ≡ true
    moved less true true e = refl
    moved less true false e = lt-ltb f.una ack less
    moved less false b e = e

    part : f.una < ack → is_partial f ack ≡ true → IsSent f (partial_acknowledgement f ack now)
    part less partly_is =
        let mss : (partly f ack now).mss ≡ f.mss = measured_mss f.timing f ack now in
        let again : resends (kept_of f) (partly f ack now) ≡ true = moved less (partly f ack now).recovery (not f.recovery) (on partly_is) in
        either_row (IsSent f) _ _ _
        (record {
          run = 1;
          mss = mss;
          ends = ap (λ m. max f.nxt ack + m) mss ∙ omega (arith, one-mul f.mss);
          sent = ap (λ c. cond c (ack ∷ []) [] ++ max f.nxt ack ∷ []) (sym again);
        })
        (record {
          run = 0;
          mss = mss;
          ends = omega (arith, zero-mul f.mss);
          sent = ap (λ c. cond c (ack ∷ []) [] ++ []) (sym again);
        })

    old : IsSent f (nothing_sent f)
    old = none f refl refl refl refl

    further : f.recovery ≡ true → IsSent f (further_duplicate f now)
    further was = either_row (IsSent f) _ _ _ (one (inflated f) refl refl refl) (none (inflated f) refl refl refl refl)

    fast : (f.una ≡ f.nxt → ⊥) → f.recovery ≡ false → enters f ≡ true → IsSent f (fast_retransmit f now)
    fast = λ _ off _. stays f (fast_retransmit f now) true 0 within refl refl (ap not off) (omega (arith, zero-mul f.mss)) refl

    unentered : f.recovery ≡ false → enters f ≡ false → IsSent f (nothing_sent (record f { dups = 3 }))
    unentered = λ _ _. none (record f { dups = 3 }) refl refl refl refl

    early : f.recovery ≡ false → f.dups < 2 → IsSent f (early_duplicate f now)
    early off few = either_row (IsSent f) _ _ _ (one (record f { dups = one_more f.dups; lt = f.lt + f.mss }) refl refl refl) (none (record f { dups = one_more f.dups }) refl refl refl refl)

    repeated : f.recovery ≡ false → 3 ≤ f.dups → IsSent f (repeated_duplicate f)
    repeated off many = none (record f { dups = one_more f.dups }) refl refl refl refl

-- the whole list that a sender sends, by what it keeps before and after
pub list_is : (f : SenderFields) (p : Planned) → 1 ≤ f.mss → IsSent f p → p.sent ≡ sent_between (kept_of f) p.fields
list_is f p least is =
    let ends = is.ends in
    let run : (p.fields.nxt - max f.nxt p.fields.una) / f.mss ≡ is.run = div-eq_of_eq-mul_left {n = f.mss} {m = p.fields.nxt - max f.nxt p.fields.una} {k = is.run} least (omega (arith, ends)) in
    is.sent ∙ ap (λ k. cond (resends (kept_of f) p.fields) (p.fields.una ∷ []) [] ++ spaced (max f.nxt p.fields.una) f.mss k) (sym run)
    ∙ ap (λ m. cond (resends (kept_of f) p.fields) (p.fields.una ∷ []) [] ++ spaced (max f.nxt p.fields.una) m ((p.fields.nxt - max f.nxt p.fields.una) / m)) (sym is.mss)

started_run : (f : SenderFields) (now : ℕ) → 1 ≤ f.mss → (started f now).sent ≡ spaced f.nxt f.mss (((started f now).fields.nxt - f.nxt) / f.mss)
unfolding started
started_run f now least =
    let run : (f.nxt + fill_count f * f.mss - f.nxt) / f.mss ≡ fill_count f = div-eq_of_eq-mul_left {n = f.mss} {m = f.nxt + fill_count f * f.mss - f.nxt} {k = fill_count f} least (omega arith) in
    ap (spaced f.nxt f.mss) (sym run)

timed_out_una : (f : SenderFields) (now : ℕ) → (timed_out f now).sent ≡ f.una ∷ []
unfolding timed_out
timed_out_una f now = refl

started_mss : (f : SenderFields) (now : ℕ) → (started f now).fields.mss ≡ f.mss
unfolding started
started_mss f now = refl

timed_out_mss : (f : SenderFields) (now : ℕ) → (timed_out f now).fields.mss ≡ f.mss
unfolding timed_out
timed_out_mss f now = refl

pub mss_is : (f : SenderFields) (cause : Cause) (now : ℕ) → IsSound f → (planned_by f cause now).fields.mss ≡ f.mss
mss_is f Starts now s = started_mss f now
mss_is f (Acknowledged ack) now s = (acknowledged_sent f ack now s).mss
mss_is f TimesOut now s = timed_out_mss f now

pub planned_is : (f : SenderFields) (cause : Cause) (now : ℕ) → IsSound f → (planned_by f cause now).sent ≡ sent_as (kept_of f) (planned_by f cause now).fields cause
planned_is f Starts now s = started_run f now s.mss_least ∙ ap (λ m. spaced f.nxt m (((started f now).fields.nxt - f.nxt) / m)) (sym (started_mss f now))
planned_is f (Acknowledged ack) now s = list_is f (acknowledged f ack now) s.mss_least (acknowledged_sent f ack now s)
planned_is f TimesOut now s = timed_out_una f now

-- what was kept of a sender that has acted
pub of_segments : (k : KeptSender) (cause : Cause) (now : ℕ) (g : SenderFields) → HasActedFrom k cause now g → IsOfSegments k g.mss
of_segments k cause now g is =
    let mss : g.mss ≡ is.old.mss = ap (λ (f : SenderFields). f.mss) is.planned ∙ mss_is is.old cause now is.kept.sound in
    record {
      nxt = subst (λ m. IsMultiple m k.nxt) (sym mss) (subst (IsMultiple is.old.mss) (sym (ap (λ (x : KeptSender). x.nxt) is.kept.is)) is.kept.sound.nxt_multiple);
      high = subst (λ m. IsMultiple m k.high) (sym mss) (subst (IsMultiple is.old.mss) (sym (ap (λ (x : KeptSender). x.high) is.kept.is)) is.kept.sound.high_multiple);
    }
