-- Each spelt statement is a line of plain words.
use Rattle.std.proofs.Common.{◌≡◌, ◌<◌, ◌≤◌, ◌^◌, ℕ, true, List, [], ◌∷◌, length, refl, arith}
use Rattle.std.specs.Prelude.{codes, decimal}
use Rattle.std.specs.List.{join_by}
use Rattle.std.proofs.lemmas.Bool.{and_from}
use Rattle.std.proofs.lemmas.Fmt.{decimal_nonempty}
use Rattle.sim_time.specs.declared.variant.Iw.{Iw}
use Rattle.sim_time.specs.declared.variant.Iw.TheVariants.{Iw3, Iw10}
use Rattle.sim_time.specs.QueueLimits.{IsQueueInLimits}
use Rattle.scenario_image.specs.LinkLimits.{IsLinkInLimits}
use Rattle.scenario_image.specs.FlowLimits.{IsFlowInLimits}
use Rattle.scenario_image.specs.declared.parts.NodeKind.{NodeKind}
use Rattle.scenario_image.specs.declared.parts.NodeKind.TheVariants.{Sender, Receiver, Router}
use Rattle.sim_time.specs.declared.queue_kind.QueueKind.{QueueKind}
use Rattle.sim_time.specs.declared.queue_kind.QueueKind.TheVariants.{DropTail, Codel}
use Rattle.sim_time.specs.declared.limits.TheConstants.{LATEST_END}
use Rattle.scenario_image.specs.declared.parts.LinkPart.{LinkPart}
use Rattle.scenario_image.specs.declared.parts.FlowPart.{FlowPart}
use Rattle.scenario_image.specs.declared.parts.RoutePart.{RoutePart}
use Rattle.scenario_asm.specs.declared.statement.LoseLine.{LoseLine}
use Rattle.scenario_asm.specs.declared.statement.Statement.{Statement}
use Rattle.scenario_asm.specs.declared.statement.Statement.TheVariants.{Sim, Node, Link, Flow, Route, Lose}
use Rattle.scenario_asm.specs.Lines.{Word}
use Rattle.scenario_asm.specs.Numbers.{is_letter_or_digit}
use Rattle.scenario_asm.specs.Names.{Known}
use Rattle.scenario_asm.specs.Statements.{statement_at, as_said, line_at}
use Rattle.scenario_asm.specs.Spelling.{node_label, link_label, flow_label, kind_word, queue_words, iw_word, spelling, line_for}
use Rattle.scenario_asm.specs.CanonicalText.{line_of_link}
use Rattle.scenario_asm.proofs.Decimals.{decimal_fits}
use Rattle.scenario_asm.proofs.SpeltLines.{IsPlain, ArePlain, is_free, joined_free, joined_says}
use Rattle.scenario_asm.proofs.TcpWords.{plain_tcp}

-- a statement that is spelt in plain words
pub record IsSpelt (statement : Statement) : Type 0 where
  pub some : 0 < length (spelling statement)
  pub plain : ArePlain (spelling statement)

-- a number, and a name that ends in one
plain_decimal : (n : ℕ) → n < 2 ^ 64 → IsPlain (decimal n)
plain_decimal n small = record { some = decimal_nonempty n small; fits = decimal_fits n small }

plain_label : (letter n : ℕ) → is_letter_or_digit letter ≡ true → n < 2 ^ 64 → IsPlain (letter ∷ decimal n)
plain_label letter n fits small = record { some = omega arith; fits = and_from (is_letter_or_digit letter) _ fits (decimal_fits n small) }

plain_kind : (kind : NodeKind) → IsPlain (kind_word kind)
plain_kind Sender = record { some = omega arith; fits = refl }
plain_kind Receiver = record { some = omega arith; fits = refl }
plain_kind Router = record { some = omega arith; fits = refl }

plain_iw : (iw : Iw) → IsPlain (iw_word iw)
plain_iw Iw3 = record { some = omega arith; fits = refl }
plain_iw Iw10 = record { some = omega arith; fits = refl }

plain_queue : (capacity : ℕ) (queue : QueueKind) → capacity ≤ 65535 → IsQueueInLimits queue → ArePlain (queue_words capacity queue)
plain_queue capacity DropTail few limits = (record { some = omega arith; fits = refl }, (plain_decimal capacity (omega arith), tt))
plain_queue capacity (Codel codel) few limits = (
  record { some = omega arith; fits = refl },
  (
    plain_decimal capacity (omega arith),
    (
      plain_decimal codel.target (omega (arith, limits.target_range.1)),
      (
        plain_decimal codel.interval (omega (arith, limits.interval_range.1)),
        (plain_decimal codel.maxpacket (omega (arith, limits.maxpacket_range.1)), tt),
      ),
    ),
  ),
)

pub sim_spelt : (end : ℕ) → end ≤ LATEST_END → IsSpelt (Sim end)
sim_spelt end few = record { some = omega arith; plain = (record { some = omega arith; fits = refl }, (plain_decimal end (omega arith), tt)) }

pub node_spelt : (n : ℕ) (kind : NodeKind) → n < 10000 → IsSpelt (Node (node_label n) kind)
node_spelt n kind few = record { some = omega arith; plain = (record { some = omega arith; fits = refl }, (plain_label 110 n refl (omega arith), (plain_kind kind, tt))) }

pub link_spelt : (n node_count : ℕ) (link : LinkPart) → n < 10000 → node_count ≤ 256 → IsLinkInLimits node_count link → IsSpelt (Link (link_label n) (line_of_link link))
link_spelt n node_count link few less limits =
    record {
      some = omega arith;
      plain = (
        record { some = omega arith; fits = refl },
        (
          plain_label 108 n refl (omega arith),
          (
            plain_label 110 link.from refl (omega (arith, limits.from_node)),
            (
              plain_label 110 link.to refl (omega (arith, limits.to_node)),
              (
                plain_decimal link.rate (omega (arith, limits.rate_range.1)),
                (plain_decimal link.delay (omega (arith, limits.delay_range.1)), plain_queue link.capacity link.queue limits.capacity_range.1 limits.queue_range),
              ),
            ),
          ),
        ),
      );
    }

pub flow_spelt : (n node_count end : ℕ) (flow : FlowPart) → n < 10000 → node_count ≤ 256 → end ≤ LATEST_END → IsFlowInLimits node_count end flow → IsSpelt (Flow (flow_label n) flow)
flow_spelt n node_count end flow few less soon limits =
    record {
      some = omega arith;
      plain = (
        record { some = omega arith; fits = refl },
        (
          plain_label 102 n refl (omega arith),
          (
            plain_label 110 flow.sender refl (omega (arith, limits.sender_node)),
            (
              plain_label 110 flow.receiver refl (omega (arith, limits.receiver_node)),
              (
                plain_decimal flow.mss (omega (arith, limits.mss_range.1)),
                (
                  plain_decimal flow.segments (omega (arith, limits.segments_range.1)),
                  (
                    plain_decimal flow.start (omega (arith, limits.start_range)),
                    (plain_decimal flow.rwnd (omega (arith, limits.rwnd_range.1)), (plain_decimal flow.delack (omega (arith, limits.delack_range)), (plain_tcp flow.variant, (plain_iw flow.variant.iw, tt)))),
                  ),
                ),
              ),
            ),
          ),
        ),
      );
    }

pub route_spelt : (route : RoutePart) → route.router < 10000 → route.destination < 10000 → route.link < 10000 → IsSpelt (Route route)
route_spelt route router destination link =
    record {
      some = omega arith;
      plain = (
        record { some = omega arith; fits = refl },
        (
          plain_label 110 route.router refl (omega arith),
          (plain_label 110 route.destination refl (omega arith), (plain_label 108 route.link refl (omega arith), tt)),
        ),
      );
    }

pub lose_spelt : (lose : LoseLine) → lose.link < 10000 → lose.number ≤ 1000000000 → IsSpelt (Lose lose)
lose_spelt lose link few =
    record { some = omega arith; plain = (record { some = omega arith; fits = refl }, (plain_label 108 lose.link refl (omega arith), (plain_decimal lose.number (omega arith), tt))) }

words_free : (words : List Word) → 0 < length words → ArePlain words → is_free 10 (join_by (λ word. word) (codes " ") words) ≡ true
words_free [] some plain = absurd (omega arith)
words_free (word ∷ words) some plain = joined_free word words plain.0 plain.1

words_say : (known : Known) (words : List Word) → 0 < length words → ArePlain words → line_at known (join_by (λ word. word) (codes " ") words) ≡ as_said (statement_at known words)
words_say known [] some plain = absurd (omega arith)
words_say known (word ∷ words) some plain = joined_says known word words plain.0 plain.1

-- its line has no line feed, and says what its words say
pub spelt_free : (statement : Statement) → IsSpelt statement → is_free 10 (line_for statement) ≡ true
spelt_free statement spelt = words_free (spelling statement) spelt.some spelt.plain

pub spelt_says : (known : Known) (statement : Statement) → IsSpelt statement → line_at known (line_for statement) ≡ as_said (statement_at known (spelling statement))
spelt_says known statement spelt = words_say known (spelling statement) spelt.some spelt.plain
