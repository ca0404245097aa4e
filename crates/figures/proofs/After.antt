-- The figures of a run, one event on.
use Rattle.std.proofs.Common.{◌≡◌, ◌≢◌, ℕ, ◌<◌, ◌≤◌, cond, List, [], ◌∷◌, ◌++◌, length, get_or, set, refl, sym, ap, subst, ◌∙◌, Option, Some, None, arith, ⊎_elim, ◌⊎◌, inl, inr, eq-eqb, true, true≢false}
use Rattle.std.specs.Prelude.{IfSome, option_to_list}
use Rattle.std.specs.Option.{option_map}
use Rattle.std.proofs.lemmas.Bool.{cases_eq, cases_lt}
use Rattle.std.proofs.lemmas.List.{append-nil, get_or-set_same, get_or-set_other, length-set}
use Rattle.tournament.proofs.Maps.{not_some, same_some}
use Rattle.node_core.specs.Part.{sender_in}
use Rattle.node_core.specs.declared.event.Event.{Event}
use Rattle.node_core.specs.declared.event.Event.TheVariants.{Start, Rto, DelAck, Free, Arrive}
use Rattle.node_core.specs.TraceLine.{TraceLine}
use Rattle.table_run.specs.State.{State, part_at, step}
use Rattle.reno_sender.specs.declared.fields.SenderFields.{SenderFields}
use Rattle.figures.specs.declared.turn.Cause.{Cause}
use Rattle.figures.specs.declared.sender.SenderFigures.{SenderFigures}
use Rattle.figures.specs.declared.figures.Figures.{Figures}
use Rattle.figures.specs.Turns.{Turn, Keeps, HasActedFrom, planned_by}
use Rattle.figures.specs.Senders.{AreOfTurns}
use Rattle.figures.specs.Links.{is_free}
use Rattle.figures.specs.Moments.{Moment, Base, cause_of, turn_by, turn_at, turns_at}
use Rattle.figures.specs.Figures.{IsOfNode, AreAfter}
use Rattle.node_core.specs.Part.{PartState}
use Rattle.node_core.specs.Node.{NodeState}
use Rattle.table_run.specs.State.{no_part}
use Rattle.net_machine.specs.Nodes.{parts_of, node_at}
use Rattle.std.proofs.Math.ListN.{get_or-eq_default}
use Rattle.figures.proofs.Begun.{part_is}
use Rattle.figures.proofs.Counts.{test_no}
use Rattle.figures.proofs.Turns.{given_more}
use Rattle.figures.proofs.Rows.{after_event, quiet_keeps}
use Rattle.figures.proofs.Steps.{IsStep, is_step, sender_here, sender_elsewhere, size_stays}

-- a sender does nothing without a cause, and where there is none
no_cause : (o : Option (ℕ × SenderFields)) (c : Option Cause) (now : ℕ) → c ≡ None → after_event o c now ≡ o
no_cause o c now is = ap (λ x. after_event o x now) is ∙ sym (quiet_keeps o now)

no_sender : (o : Option (ℕ × SenderFields)) (c : Option Cause) (now : ℕ) → after_event o c now ≡ None → o ≡ None
no_sender None c now is = refl
no_sender (Some found) c now is = absurd (not_some (sym is))

unmapped : {A B : Type 0} (f : A → B) (o : Option A) → None ≡ option_map f o → o ≡ None
unmapped f None is = refl
unmapped f (Some x) is = absurd (not_some is)

-- a sender has acted, and keeps g
pub record HasActed (old : Option (ℕ × SenderFields)) (new : Option (ℕ × SenderFields)) (cause : Cause) (now : ℕ) (g : SenderFields) : Type 0 where
  pub flow : ℕ
  pub fields : SenderFields
  pub was : old ≡ Some (flow, fields)
  pub is : new ≡ Some (flow, g)
  pub planned : g ≡ (planned_by fields cause now).fields

pub acted : (old new : Option (ℕ × SenderFields)) (cause : Cause) (now : ℕ) (g : SenderFields) → new ≡ after_event old (Some cause) now → Some g ≡ option_map (λ (found : ℕ × SenderFields). found.1) new → HasActed old new cause now g
acted None new cause now g follows here = absurd (not_some (sym (here ∙ ap (option_map (λ (found : ℕ × SenderFields). found.1)) follows)))
acted (Some found) new cause now g follows here =
    let same : (planned_by found.1 cause now).fields ≡ g = same_some (planned_by found.1 cause now).fields g (sym (here ∙ ap (option_map (λ (f : ℕ × SenderFields). f.1)) follows)) in
    record {
      flow = found.0;
      fields = found.1;
      was = refl;
      is = follows ∙ ap (λ (f : SenderFields). Some (found.0, f)) same;
      planned = sym same;
    }

-- no sender acts where a link has sent a packet whole
pub none_where_free : (v : Event) → is_free v ≡ true → cause_of v ≡ None
none_where_free (Start flow) free = absurd (true≢false (sym free))
none_where_free (Rto flow) free = absurd (true≢false (sym free))
none_where_free (DelAck flow) free = refl
none_where_free (Free link) free = refl
none_where_free (Arrive packet) free = absurd (true≢false (sym free))

-- what is told of a node's sender is told of the state's
pub reported : (nodes : List NodeState) (t : State) (place node : ℕ) (o : Option SenderFields) → parts_of nodes ≡ t.parts → place ≡ node →
    o ≡ option_map (λ (found : ℕ × SenderFields). found.1) (sender_in (node_at nodes place).part.role) → o ≡ option_map (λ (found : ℕ × SenderFields). found.1) (sender_in (part_at t node).role)
reported nodes t place node o parts same is =
    is ∙ ap (λ (p : PartState). option_map (λ (found : ℕ × SenderFields). found.1) (sender_in p.role)) (ap (λ i. (node_at nodes i).part) same ∙ part_is nodes t node parts)

-- a sender's node is one of them
pub within_parts : (t : State) (node : ℕ) (g : SenderFields) → Some g ≡ option_map (λ (found : ℕ × SenderFields). found.1) (sender_in (part_at t node).role) → node < length t.parts
within_parts t node g is =
    ⊎_elim (λ (within : node < length t.parts). within)
    (λ (past : length t.parts ≤ node). let none : part_at t node ≡ no_part = get_or-eq_default t.parts no_part past in absurd (not_some (sym (is ∙ ap (λ (p : PartState). option_map (λ (found : ℕ × SenderFields). found.1) (sender_in p.role)) none))))
    (cases_lt node (length t.parts))

module _ (b : Base) (ms : List Moment) (s : State) (line : TraceLine) (t : State) (is_next : step s ≡ Some (line, t)) where
  abbrev pub m : Moment
  m = record { before = s; line = line; after = t }

  abbrev pub is_its : IsStep s line t
  is_its = is_step s line t is_next

  -- a node's sender does nothing, and keeps what it kept
  still : (node : ℕ) (f : SenderFigures) → turn_at node m ≡ None → sender_in (part_at t node).role ≡ sender_in (part_at s node).role → IsOfNode b ms s node f → IsOfNode b (ms ++ m ∷ []) t node f
  still node f none same is = record {
    counted = subst (λ ts. AreOfTurns (turns_at node b.earlier) ts f) (sym (given_more (turn_at node) ms m ∙ ap (λ o. turns_at node ms ++ option_to_list o) none ∙ append-nil (turns_at node ms))) is.counted;
    keeps = subst (λ o. IfSome o (λ found. Keeps f.kept found.1)) (sym same) is.keeps;
  }

  elsewhere : (node : ℕ) (f : SenderFigures) → node ≢ line.key.node → IsOfNode b ms s node f → IsOfNode b (ms ++ m ∷ []) t node f
  elsewhere node f other =
      still node f (ap (λ b. cond b (turn_by (sender_in (part_at s node).role) line.event line.key.time) None) (test_no line.key.node node (λ e. other (sym e)))) (sender_elsewhere s line t is_its node other)

  at_node : turn_at line.key.node m ≡ turn_by (sender_in (part_at s line.key.node).role) line.event line.key.time
  at_node = ap (λ b. cond b (turn_by (sender_in (part_at s line.key.node).role) line.event line.key.time) None) (eq-eqb line.key.node line.key.node refl)

  -- no sender acts
  without : (o : Option (ℕ × SenderFields)) → (cause_of line.event ≡ None) ⊎ (o ≡ None) → turn_by o line.event line.key.time ≡ None
  without None either = refl
  without (Some found) (inl none) = ap (option_map (λ (cause : Cause). record { old = found.1; cause = cause; now = line.key.time })) none
  without (Some found) (inr none) = absurd (not_some (sym none))

  same_sender : (cause_of line.event ≡ None) ⊎ (sender_in (part_at s line.key.node).role ≡ None) → sender_in (part_at t line.key.node).role ≡ sender_in (part_at s line.key.node).role
  same_sender (inl none) = sender_here s line t is_its ∙ no_cause (sender_in (part_at s line.key.node).role) (cause_of line.event) line.key.time none
  same_sender (inr none) = sender_here s line t is_its ∙ ap (λ o. after_event o (cause_of line.event) line.key.time) none ∙ sym none

  here_still : (f : SenderFigures) → (cause_of line.event ≡ None) ⊎ (sender_in (part_at s line.key.node).role ≡ None) → IsOfNode b ms s line.key.node f → IsOfNode b (ms ++ m ∷ []) t line.key.node f
  here_still f either = still line.key.node f (at_node ∙ without (sender_in (part_at s line.key.node).role) either) (same_sender either)

  -- the event is none of a sender's
  pub quiet : (f g : Figures) → g.senders.items ≡ f.senders.items → (cause_of line.event ≡ None) ⊎ (sender_in (part_at s line.key.node).role ≡ None) → AreAfter b ms s f → AreAfter b (ms ++ m ∷ []) t g
  quiet f g same either is = record {
    size = ap length same ∙ is.size ∙ sym (size_stays s line t is_its);
    each = λ node other within.
        let old : IsOfNode b ms s node (get_or g.senders.items node other) = subst (λ items. IsOfNode b ms s node (get_or items node other)) (sym same) (is.each node other (omega (arith, within, size_stays s line t is_its))) in
        ⊎_elim
        (λ (here : node ≡ line.key.node). subst (λ n. IsOfNode b ms s n (get_or g.senders.items node other) → IsOfNode b (ms ++ m ∷ []) t n (get_or g.senders.items node other)) (sym here) (here_still (get_or g.senders.items node other) either) old)
        (λ (apart : node ≢ line.key.node). elsewhere node (get_or g.senders.items node other) apart old)
        (cases_eq node line.key.node);
  }

  pub quiet_sender : (cause_of line.event ≡ None) ⊎ (None ≡ option_map (λ (found : ℕ × SenderFields). found.1) (sender_in (part_at t line.key.node).role)) → (cause_of line.event ≡ None) ⊎ (sender_in (part_at s line.key.node).role ≡ None)
  quiet_sender (inl none) = inl none
  quiet_sender (inr none) = inr (no_sender (sender_in (part_at s line.key.node).role) (cause_of line.event) line.key.time (sym (sender_here s line t is_its) ∙ unmapped (λ (found : ℕ × SenderFields). found.1) (sender_in (part_at t line.key.node).role) none))

  -- the event is one at which a sender has acted
  module _ (cause : Cause) (g : SenderFields) (cause_is : cause_of line.event ≡ Some cause) (g_is : Some g ≡ option_map (λ (found : ℕ × SenderFields). found.1) (sender_in (part_at t line.key.node).role)) where
    abbrev pub has : HasActed (sender_in (part_at s line.key.node).role) (sender_in (part_at t line.key.node).role) cause line.key.time g
    has = acted (sender_in (part_at s line.key.node).role) (sender_in (part_at t line.key.node).role) cause line.key.time g (sender_here s line t is_its ∙ ap (λ c. after_event (sender_in (part_at s line.key.node).role) c line.key.time) cause_is) g_is

    pub kept_was : (f : SenderFigures) → IsOfNode b ms s line.key.node f → Keeps f.kept has.fields
    kept_was f is = subst (λ o. IfSome o (λ found. Keeps f.kept found.1)) has.was is.keeps

    pub acted_from : (f : SenderFigures) → IsOfNode b ms s line.key.node f → HasActedFrom f.kept cause line.key.time g
    acted_from f is = record { old = has.fields; kept = kept_was f is; planned = has.planned }

    -- a turn is counted, whatever it began from
    abbrev pub Counts : SenderFigures → SenderFigures → Type 0
    Counts f f' = (before ts : List Turn) (x : SenderFields) → Keeps f.kept x → g ≡ (planned_by x cause line.key.time).fields → AreOfTurns before ts f → AreOfTurns before (ts ++ record { old = x; cause = cause; now = line.key.time } ∷ []) f'

    here_acted : (f f' : SenderFigures) → Counts f f' → Keeps f'.kept g → IsOfNode b ms s line.key.node f → IsOfNode b (ms ++ m ∷ []) t line.key.node f'
    here_acted f f' more kept is =
        let turn : turn_at line.key.node m ≡ Some (record { old = has.fields; cause = cause; now = line.key.time }) =
        at_node ∙ ap (λ o. turn_by o line.event line.key.time) has.was
        ∙ ap (option_map (λ (c : Cause). record { old = has.fields; cause = c; now = line.key.time })) cause_is in
        record {
          counted = subst (λ ts. AreOfTurns (turns_at line.key.node b.earlier) ts f') (sym (given_more (turn_at line.key.node) ms m ∙ ap (λ o. turns_at line.key.node ms ++ option_to_list o) turn)) (more (turns_at line.key.node b.earlier) (turns_at line.key.node ms) has.fields (kept_was f is) has.planned is.counted);
          keeps = subst (λ o. IfSome o (λ found. Keeps f'.kept found.1)) (sym has.is) kept;
        }

    pub one_acted : (f g' : Figures) (before after : SenderFigures) → line.key.node < length f.senders.items → before ≡ get_or f.senders.items line.key.node before → g'.senders.items ≡ set f.senders.items line.key.node after →
        Counts before after → Keeps after.kept g → AreAfter b ms s f → AreAfter b (ms ++ m ∷ []) t g'
    one_acted f g' before after within before_is items more kept is =
        let size = size_stays s line t is_its in
        record {
          size = ap length items ∙ length-set f.senders.items line.key.node after ∙ is.size ∙ sym size;
          each = λ node other inside.
              ⊎_elim
              (λ (here : node ≡ line.key.node).
              let old : IsOfNode b ms s line.key.node before = subst (IsOfNode b ms s line.key.node) (sym before_is) (is.each line.key.node before (omega (arith, within, is.size))) in
              let now : get_or g'.senders.items node other ≡ after = ap (λ xs. get_or xs node other) items ∙ ap (λ n. get_or (set f.senders.items line.key.node after) n other) here ∙ get_or-set_same f.senders.items line.key.node after other within in
              subst (λ x. IsOfNode b (ms ++ m ∷ []) t node x) (sym now) (subst (λ n. IsOfNode b (ms ++ m ∷ []) t n after) (sym here) (here_acted before after more kept old)))
              (λ (apart : node ≢ line.key.node).
              let same : get_or g'.senders.items node other ≡ get_or f.senders.items node other = ap (λ xs. get_or xs node other) items ∙ get_or-set_other f.senders.items line.key.node node after other apart in
              subst (λ x. IsOfNode b (ms ++ m ∷ []) t node x) (sym same) (elsewhere node (get_or f.senders.items node other) apart (is.each node other (omega (arith, inside, size)))))
              (cases_eq node line.key.node);
        }
