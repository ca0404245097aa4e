-- The nodes of a group stand in its row in rising number: the seats that are taken are theirs, one after another.
use Rattle.std.proofs.Common.{◌≡◌, ℕ, zero, suc, ◌+◌, ◌<◌, ◌≤◌, Bool, true, false, List, [], ◌∷◌, length, get_or, sym, ap, subst, ◌∙◌, Some, None, Option, is_some, ⊎_elim, arith}
use Rattle.std.proofs.lemmas.Bool.{cases_lt}
use Rattle.std.proofs.lemmas.List.{get_or_read}
use Rattle.std.proofs.lemmas.Option.{slice_get-get_or, slice_get_past}
use Rattle.std.specs.Option.{MatchOption, option_map}
use Rattle.sim_time.specs.declared.key.Key.{Key}
use Rattle.tournament.specs.Leading.{rank_at}
use Rattle.tournament.specs.Keyed.{least, next_key}
use Rattle.tournament.specs.Timed.{time_of}
use Rattle.node_core.specs.declared.event.Event.{Event}
use Rattle.node_core.specs.Node.{NodeState}
use Rattle.net_machine.specs.Nodes.{no_node, node_at, next_keys, net_pending, IsFirst, LeadsAt}
use Rattle.node_group.specs.Seats.{Seats, seated, taken_nodes, nth_taken, number_at}
use Rattle.node_group.specs.Numbered.{seats_of, AreNodesByNumber}
use Rattle.node_group.proofs.Numbered.{many, seat_at, number_among, number_in, first_within, first_member, first_time_of, none_pending}

module _ (nodes : List NodeState) (index : List ℕ) (is : AreNodesByNumber nodes index) where
  abbrev number : ℕ → ℕ
  number k = (node_at nodes k).number

  abbrev count : ℕ
  count = length nodes

  -- the first `past` of the nodes have a number below n, the others none
  record AreParted (n past : ℕ) : Type 0 where
    below : (k : ℕ) → k < past → number k < n
    others : (k : ℕ) → past ≤ k → k < count → n ≤ number k

  -- what is in the index from n on
  record IsRest (n : ℕ) (rest : List ℕ) : Type 0 where
    size : n + length rest ≡ length index
    reads : (i : ℕ) → get_or rest i count ≡ get_or index (n + i) count

  module _ (n past x : ℕ) (rest : List ℕ) (parted : AreParted n past) (from : IsRest n (x ∷ rest)) where
    x_is : x ≡ get_or index n count
    x_is = let e : n + 0 ≡ n = omega arith in from.reads 0 ∙ ap (λ i. get_or index i count) e

    next : IsRest (n + 1) rest
    next = record {
      size = let size = from.size in omega (arith, size);
      reads = λ i. let e : n + suc i ≡ n + 1 + i = omega arith in from.reads (suc i) ∙ ap (λ j. get_or index j count) e;
    }

    -- the node of number n is the first of the others
    module _ (inside : x < count) where
      number_x : number x ≡ n
      number_x = let size = from.size in ap number x_is ∙ number_among nodes index is.placed n (omega (arith, size)) (subst (λ k. k < count) x_is inside)

      is_next : x ≡ past
      is_next = ⊎_elim
          (λ (before : x < past). let less = parted.below x before in let same = number_x in absurd (let no : ⊥ = omega (arith, less, same) in no))
          (λ (after : past ≤ x). ⊎_elim
          (λ (between : past < x).
          let rises = is.rising past x between inside in
          let most = parted.others past (omega arith) (omega (arith, between, inside)) in
          let same = number_x in
          absurd (let no : ⊥ = omega (arith, rises, most, same) in no))
          (λ (not : x ≤ past). omega (arith, after, not))
          (cases_lt past x))
          (cases_lt x past)

      one_more : AreParted (n + 1) (past + 1)
      one_more = record {
        below = λ k before. ⊎_elim
            (λ (less : k < past). let low = parted.below k less in omega (arith, low))
            (λ (last : past ≤ k). let e : k ≡ past = omega (arith, before, last) in let same : number k ≡ n = ap number (e ∙ sym is_next) ∙ number_x in omega (arith, same))
            (cases_lt k past);
        others = λ k from_there within.
            let at = is_next in
            let rises = is.rising x k (omega (arith, from_there, at)) within in
            let same = number_x in
            omega (arith, rises, same);
      }

    -- no node has number n
    none_more : count ≤ x → AreParted (n + 1) past
    none_more off = record {
      below = λ k before. let low = parted.below k before in omega (arith, low);
      others = λ k from_there within.
          let low = parted.others k from_there within in
          ⊎_elim
          (λ (more : n < number k). omega (arith, more))
          (λ (not : number k ≤ n).
          let e : number k ≡ n = omega (arith, low, not) in
          let found : x ≡ k = x_is ∙ ap (λ i. get_or index i count) (sym e) ∙ is.found k within in
          absurd (let no : ⊥ = omega (arith, off, found, within) in no))
          (cases_lt n (number k));
    }

  -- where the seat is that is taken after `off` others of these: the node's that stands there, where there is one
  record Stands (n past off : ℕ) (bits : List Bool) : Type 0 where
    there : past + off < count → n + nth_taken bits off ≡ number (past + off)
    past_all : count ≤ past + off → n + nth_taken bits off ≡ length index

  abbrev bits_of : List ℕ → List Bool
  bits_of rest = taken_nodes (seats_of nodes rest)

  -- a seat that is not taken, and one that is
  free : (n past off : ℕ) (bits : List Bool) → Stands (n + 1) past off bits → Stands n past off (false ∷ bits)
  free n past off bits later = record {
    there = λ within. let is = later.there within in omega (arith, is);
    past_all = λ all. let is = later.past_all all in omega (arith, is);
  }

  filled : (n past off x : ℕ) (bits : List Bool) → x < count → number x ≡ n → x ≡ past → ((others : ℕ) → Stands (n + 1) (past + 1) others bits) → Stands n past off (true ∷ bits)
  filled n past zero x bits inside same at later = record {
    there = λ within. let e : x ≡ past + 0 = omega (arith, at) in let numbers : number (past + 0) ≡ n = ap number (sym e) ∙ same in omega (arith, numbers);
    past_all = λ all. absurd (let no : ⊥ = omega (arith, inside, at, all) in no);
  }
  filled n past (suc off) x bits inside same at later =
      let e : past + 1 + off ≡ past + suc off = omega arith in
      record {
        there = λ within. let is = (later off).there (omega (arith, within)) in let numbers = ap number e in omega (arith, is, numbers);
        past_all = λ all. let is = (later off).past_all (omega (arith, all)) in omega (arith, is);
      }

  stand : (n past off : ℕ) (rest : List ℕ) → AreParted n past → IsRest n rest → Stands n past off (bits_of rest)
  stand n past off [] parted from =
      let size = from.size in
      record {
        there = λ within.
            let low = parted.others (past + off) (omega arith) within in
            let high = number_in nodes index is (past + off) within in
            absurd (let no : ⊥ = omega (arith, low, high, size) in no);
        past_all = λ all. omega (arith, size);
      }
  stand n past off (x ∷ rest) parted from = ⊎_elim
      (λ (inside : x < count).
      subst (λ (o : Option NodeState). Stands n past off (is_some o ∷ bits_of rest)) (sym (slice_get-get_or nodes x no_node inside))
      (filled n past off x (bits_of rest) inside (number_x n past x rest parted from inside) (is_next n past x rest parted from inside)
      (λ others. stand (n + 1) (past + 1) others rest (one_more n past x rest parted from inside) (next n past x rest parted from))))
      (λ (off_all : count ≤ x).
      subst (λ (o : Option NodeState). Stands n past off (is_some o ∷ bits_of rest)) (sym (slice_get_past nodes x off_all))
      (free n past off (bits_of rest) (stand (n + 1) past off rest (none_more n past x rest parted from off_all) (next n past x rest parted from))))
      (cases_lt x count)

  stands : (at : ℕ) → Stands 0 0 at (bits_of index)
  stands at = stand 0 0 at index record { below = λ k before. absurd (let no : ⊥ = omega (arith, before) in no); others = λ k from_there within. omega arith } record { size = omega arith; reads = λ i. let e : i ≡ 0 + i = omega arith in ap (λ j. get_or index j count) e }

  -- the number of the node at a place
  pub number_here : (at : ℕ) → at < count → number_at (seats_of nodes index) at ≡ number at
  number_here at within =
      let e : 0 + at ≡ at = omega arith in
      let there = (stands at).there (omega (arith, within)) in
      let numbers = ap number e in
      omega (arith, there, numbers)

  module _ (now : Seats) (view : seats_of nodes index ≡ now) (at : ℕ) (under : number_at now at < length now) where
    pub in_row : at < count
    in_row = ⊎_elim
        (λ (within : at < count). within)
        (λ (past : count ≤ at).
        let all = (stands at).past_all (omega (arith, past)) in
        let size = many nodes index in
        let low = subst (λ (s : Seats). number_at s at < length s) (sym view) under in
        absurd (let no : ⊥ = omega (arith, all, size, low) in no))
        (cases_lt at count)

    number_is : number_at now at ≡ number at
    number_is = ap (λ (s : Seats). number_at s at) (sym view) ∙ number_here at in_row

    -- its number is found there
    pub read_there : at ≡ get_or index (number_at now at) count
    read_there = sym (ap (λ i. get_or index i count) number_is ∙ is.found at in_row)

  -- THE FIRST OF THE ROW

  module _ (now : Seats) (view : seats_of nodes index ≡ now) where
    pub first_there : (first : Option (ℕ × ℕ)) → MatchOption first ((place : ℕ) → rank_at (next_keys nodes) place ≡ None) (λ entry. LeadsAt nodes entry.0 entry.1) → MatchOption first (least (net_pending (seated now)) ≡ None) (λ entry. IsFirst (seated now) (number_at now entry.0))
    first_there None none = subst (λ (s : Seats). least (net_pending (seated s)) ≡ None) view (none_pending nodes index is none)
    first_there (Some (at, time)) leads =
        subst (λ (s : Seats). IsFirst (seated s) (number_at s at)) view
        (subst (IsFirst (seated (seats_of nodes index))) (sym (number_here at (first_within nodes index is at time leads))) (first_member nodes index is at time leads))

    pub first_then : (first : Option (ℕ × ℕ)) → MatchOption first ((place : ℕ) → rank_at (next_keys nodes) place ≡ None) (λ entry. LeadsAt nodes entry.0 entry.1) → option_map (λ (entry : ℕ × ℕ). entry.1) first ≡ time_of (next_key (net_pending (seated now)))
    first_then None none = sym (ap (λ (o : Option (Key × Event)). time_of (option_map (λ (entry : Key × Event). entry.0) o)) (first_there None none))
    first_then (Some (at, time)) leads = first_time_of nodes index is at time leads ∙ ap (λ (s : Seats). time_of (next_key (net_pending (seated s)))) view

  -- WHAT THE INDEX HAS AT A NUMBER

  module _ (now : Seats) (view : seats_of nodes index ≡ now) (n : ℕ) (under : n < length now) (at : ℕ) (read : at ≡ get_or index n at) where
    indexed : n < length index
    indexed = let size = many nodes index in let all = ap length view in omega (arith, under, size, all)

    entry_is : at ≡ get_or index n count
    entry_is = get_or_read index n at indexed read count

    -- the place of its node
    pub place_found : at < count → number_at now at ≡ n
    place_found inside =
        ap (λ (s : Seats). number_at s at) (sym view) ∙ number_here at inside ∙ ap number entry_is
        ∙ number_among nodes index is.placed n indexed (subst (λ k. k < count) entry_is inside)

    -- or nobody's
    pub place_free : count ≤ at → get_or now n None ≡ None
    place_free past = ap (λ (s : Seats). get_or s n None) (sym view) ∙ seat_at nodes index n indexed ∙ slice_get_past nodes (get_or index n count) (subst (λ k. count ≤ k) entry_is past)
