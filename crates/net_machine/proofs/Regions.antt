-- An event of a region: what leaves its node is alone in its chain, and goes on.
use Rattle.std.proofs.Common.{◌≡◌, ℕ, ◌<◌, List, [], ◌++◌, length, set, get_or, replicate, refl, sym, ap, subst, ◌∙◌, Some, None, Option, arith}
use Rattle.std.proofs.lemmas.List.{get_or-set_same, length-set, set-set, set-get_or, get_or-replicate}
use Rattle.std.specs.Option.{option_map}
use Rattle.packet_chain.specs.Stamped.{Stamped}
use Rattle.tournament.proofs.Maps.{not_some, same_some}
use Rattle.node_core.specs.Part.{link_at}
use Rattle.node_core.specs.Row.{Effect, Leaving}
use Rattle.node_core.specs.TraceLine.{TraceLine}
use Rattle.node_core.specs.Node.{NodeState, put_out, HasFired}
use Rattle.net_machine.specs.declared.places.LinkEnds.{LinkEnds}
use Rattle.net_machine.specs.Nodes.{node_at}
use Rattle.net_machine.specs.Region.{effect_at, node_after, link_left, packet_left, GoneOn, IsOver, CanRun, CanGoOn, HasHappened}

-- the leaving packet of an index
pub record Left (o : Option Leaving) (index : ℕ) : Type 0 where
  pub packet : Leaving
  pub is : o ≡ Some packet
  pub at : packet.index ≡ index

has_left : (o : Option Leaving) (index : ℕ) → Some index ≡ option_map (λ (l : Leaving). l.index) o → Left o index
has_left None index e = absurd (not_some (sym e))
has_left (Some l) index e = record { packet = l; is = refl; at = same_some l.index index (sym e) }

none_left : (o : Option Leaving) → None ≡ option_map (λ (l : Leaving). l.index) o → o ≡ None
none_left None e = refl
none_left (Some l) e = absurd (not_some e)

-- chains, which were empty, once a packet was put into one of them
module _ (out : List (List Stamped)) (empty : out ≡ replicate 16 []) (l : Leaving) (under : l.index < 16) where
  abbrev no_packets : List Stamped
  no_packets = []

  empty_at : get_or (replicate 16 no_packets) l.index no_packets ≡ no_packets
  empty_at = get_or-replicate 16 l.index no_packets no_packets under

  out_within : l.index < length out
  out_within = let size : length out ≡ 16 = ap length empty in omega (arith, under, size)

  after_is : put_out (Some l) out ≡ set out l.index (packet_left l)
  after_is = ap (λ (all : List Stamped). set out l.index (all ++ packet_left l)) (ap (λ (all : List (List Stamped)). get_or all l.index []) empty ∙ empty_at)

  has_chain : l.index < length (put_out (Some l) out)
  has_chain = subst (λ n. l.index < n) (sym (ap length after_is ∙ length-set out l.index (packet_left l))) out_within

  chain_is : get_or (put_out (Some l) out) l.index [] ≡ packet_left l
  chain_is = ap (λ (all : List (List Stamped)). get_or all l.index []) after_is ∙ get_or-set_same out l.index (packet_left l) [] out_within

  emptied : set (put_out (Some l) out) l.index [] ≡ replicate 16 []
  emptied = ap (λ (all : List (List Stamped)). set all l.index []) after_is ∙ set-set out l.index (packet_left l) []
      ∙ (λ i. set (empty i) l.index (sym empty_at i)) ∙ set-get_or (replicate 16 []) l.index []

-- a node of a region has run its event
module _ {S : Type 0} (nodes : S → List NodeState) (put : S → ℕ → NodeState → S) (can_take : S → ℕ → List Stamped → Type 0) (takes : S → ℕ → List Stamped → S → Type 0) (links : List LinkEnds) (old mid : S) (place : ℕ) (out after : List (List Stamped)) (line : TraceLine)
    (can : CanRun links (nodes old) place) (can_go : CanGoOn nodes put can_take old place) (empty : out ≡ replicate 16 []) (has : HasFired (node_at (nodes old) place) (node_at (nodes mid) place) out after line) (is_mid : mid ≡ put old place (node_at (nodes mid) place)) where
  abbrev eff : Effect
  eff = effect_at (nodes old) place line.key line.event

  mid_is : mid ≡ put old place (node_after (nodes old) place line.key line.event)
  mid_is = is_mid ∙ ap (put old place) has.node

  happened : (new : S) → GoneOn takes eff eff.leaving (put old place (node_after (nodes old) place line.key line.event)) new → HasHappened nodes put takes old new place line
  happened new goes = record { is_least = has.is_least; reported = λ i. record { key = line.key; event = line.event; after = has.shows i; acts = has.did i }; goes = goes }

  -- nothing left it
  -- a packet left it
  module _ (index : ℕ) (index_is : Some index ≡ option_map (λ (l : Leaving). l.index) eff.leaving) where
    abbrev it : Left eff.leaving index
    it = has_left eff.leaving index index_is

    over : IsOver links eff it.packet
    over = can.leaves line.key line.event it.packet has.is_least it.is

    put_is : after ≡ put_out (Some it.packet) out
    put_is = has.out ∙ ap (λ o. put_out o out) it.is

    pub chain_within : index < length after
    chain_within = subst (λ (all : List (List Stamped)). index < length all) (sym put_is) (subst (λ i. i < length (put_out (Some it.packet) out)) it.at (has_chain out empty it.packet over.has_chain))

    pub all_emptied : set after index [] ≡ replicate 16 []
    all_emptied = (λ i. set (put_is i) (sym it.at i) []) ∙ emptied out empty it.packet over.has_chain

    -- the number that its node has where it stands, which is the one that it had
    module _ (number : ℕ) (stays : number ≡ place) where
      node_stays : node_at (nodes mid) number ≡ node_after (nodes old) place line.key line.event
      node_stays = ap (node_at (nodes mid)) stays ∙ has.node

      pub has_link : index < length (node_at (nodes mid) number).part.links
      has_link = subst (λ (n : NodeState). index < length n.part.links) (sym node_stays) (subst (λ n. n < length eff.part.links) it.at over.has_link)

      -- its link, and the chain
      module _ (link read : ℕ) (packets : List Stamped) (link_is : link ≡ read) (read_is : read ≡ (link_at (node_at (nodes mid) number).part.links index).port.link) (packets_are : packets ≡ get_or after index []) where
        link_its : link ≡ link_left eff it.packet
        link_its = link_is ∙ read_is ∙ ap (λ (n : NodeState). (link_at n.part.links index).port.link) node_stays ∙ ap (λ i. (link_at eff.part.links i).port.link) (sym it.at)

        packets_its : packets ≡ packet_left it.packet
        packets_its = packets_are ∙ (λ i. get_or (put_is i) (sym it.at i) []) ∙ chain_is out empty it.packet over.has_chain

        pub link_known : link < length links
        link_known = subst (λ n. n < length links) (sym link_its) over.known

        pub may_go : can_take mid link packets
        may_go = subst (λ (s : S). can_take s link packets) (sym mid_is)
            (subst (λ n. can_take (put old place (node_after (nodes old) place line.key line.event)) n packets) (sym link_its)
            (subst (can_take (put old place (node_after (nodes old) place line.key line.event)) (link_left eff it.packet)) (sym packets_its) (can_go line.key line.event it.packet has.is_least it.is)))

        pub gone_happened : (new : S) → takes mid link packets new → HasHappened nodes put takes old new place line
        gone_happened new gone = happened new (subst (λ o. GoneOn takes eff o (put old place (node_after (nodes old) place line.key line.event)) new) (sym it.is)
            (subst (λ (s : S). takes s (link_left eff it.packet) (packet_left it.packet) new) mid_is
            (subst (λ n. takes mid n (packet_left it.packet) new) link_its
            (subst (λ (all : List Stamped). takes mid link all new) packets_its gone))))
