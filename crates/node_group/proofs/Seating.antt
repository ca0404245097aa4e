-- Nodes join their groups one after the other, in rising number.
use Rattle.std.proofs.Common.{◌≡◌, ◌≢◌, ℕ, ◌+◌, ◌-◌, ◌==◌, ◌<◌, ◌≤◌, ◌^◌, cond, List, [], ◌∷◌, ◌++◌, length, take, set, get_or, reverse, vec_capacity, length-append, refl, sym, ap, subst, ◌∙◌, Some, Option, ⊎_elim, arith, eq-eqb}
use Rattle.std.proofs.lemmas.Bool.{cases_eq, cases_lt, ne_eqb}
use Rattle.std.proofs.lemmas.List.{get_or-set_same, get_or-set_other, get_or_append_left, get_or_default, get_or_past, length-set, length_push, get_or-replicate, length-replicate, get_or_push, get_or-reverse, length-reverse}
use Rattle.std.proofs.lemmas.List.Sums.{count_by_more_yes, count_by_more_no, sum_by-take-le}
use Rattle.std.proofs.lemmas.Option.{slice_get-get_or, slice_get_within, get_or_from_slice_get}
use Rattle.std.specs.List.{slice_get}
use Rattle.node_core.specs.Node.{NodeState}
use Rattle.net_machine.specs.declared.places.LinkEnds.{LinkEnds}
use Rattle.net_machine.specs.Nodes.{no_node, node_at}
use Rattle.node_group.specs.declared.nodes_by_number.NodesByNumberParts.{NodesByNumberParts}
use Rattle.node_group.specs.declared.group_state.GroupStateParts.{GroupStateParts}
use Rattle.net_partition.specs.Partition.{group_in}
use Rattle.node_group.specs.Numbered.{AreFound, AreRising}
use Rattle.node_group.specs.GroupStates.{nowhere, size_of, IsRoom, AreRooms, HaveJoined, IsSeatedBelow, AreSeatedBelow}

-- ROOMS

-- one more
pub rooms_more : (entries : List ℕ) (links : List LinkEnds) (nodes : List NodeState) (rooms : List GroupStateParts) (room : GroupStateParts) → AreRooms entries links nodes rooms → IsRoom entries links nodes (length rooms) room → AreRooms entries links nodes (rooms ++ room ∷ [])
rooms_more entries links nodes rooms room all is number d under =
    let longer = length_push rooms room in
    ⊎_elim
    (λ (inside : number < length rooms). subst (IsRoom entries links nodes number) (sym (get_or_append_left rooms (room ∷ []) d number inside)) (all number d inside))
    (λ (past : length rooms ≤ number).
    let last : length rooms ≡ number = omega (arith, past, under, longer) in
    subst (IsRoom entries links nodes number) (sym (get_or_push rooms room d number last)) (subst (λ n. IsRoom entries links nodes n room) last is))
    (cases_lt number (length rooms))

-- A NODE JOINS A GROUP

module _ (entries : List ℕ) (nodes : List NodeState) (place : ℕ) (known : place < length entries) (number : ℕ) (joined : List NodeState) (index : List ℕ) (room : ℕ) (is : HaveJoined place entries nodes number joined index room) where
  -- which is its own
  module _ (own : group_in entries place ≡ number) (x : NodeState) (x_is : x ≡ node_at nodes place) (x_number : x.number ≡ place) where
    one_more : size_of number (take (place + 1) entries) ≡ size_of number (take place entries) + 1
    one_more = count_by_more_yes (λ entry. entry == number) entries place 0 known (eq-eqb (group_in entries place) number own)

    pub one_fits : length joined < room
    one_fits =
        let size = is.size in
        let fits = is.fits in
        let more = one_more in
        let most : size_of number (take (place + 1) entries) ≤ size_of number entries = sum_by-take-le (λ entry. cond (entry == number) 1 0) entries (place + 1) in
        omega (arith, size, fits, more, most)

    -- another has another number
    not_there : (k : ℕ) → k < length joined → (node_at joined k).number ≢ place
    not_there k inside same = let less = is.below k inside in let no : ⊥ = omega (arith, less, same) in no

    -- the nodes that joined before, and the one that joins
    node_before : (k : ℕ) → k < length joined → node_at (joined ++ x ∷ []) k ≡ node_at joined k
    node_before k inside = get_or_append_left joined (x ∷ []) no_node k inside

    number_last : (k : ℕ) → length joined ≤ k → k < length (joined ++ x ∷ []) → (node_at (joined ++ x ∷ []) k).number ≡ place
    number_last k past under =
        let longer = length_push joined x in
        ap (λ (n : NodeState). n.number) (get_or_push joined x no_node k (omega (arith, past, under, longer))) ∙ x_number

    found_more : AreFound (joined ++ x ∷ []) (set index place (length joined))
    found_more k under =
        let longer = length_push joined x in
        ⊎_elim
        (λ (inside : k < length joined).
        let m = (node_at joined k).number in
        let at = is.found k inside in
        let within : m < length index = ⊎_elim
        (λ (under_all : m < length index). under_all)
        (λ (past : length index ≤ m). absurd (let none = get_or_past index m (length joined) past in let no : ⊥ = omega (arith, none, at, inside) in no))
        (cases_lt m (length index)) in
        ap (λ (n : NodeState). get_or (set index place (length joined)) n.number (length (joined ++ x ∷ []))) (node_before k inside)
        ∙ get_or-set_other index place m (length joined) (length (joined ++ x ∷ [])) (not_there k inside)
        ∙ get_or_default index m (length (joined ++ x ∷ [])) (length joined) within
        ∙ at)
        (λ (past : length joined ≤ k).
        let last : length joined ≡ k = omega (arith, past, under, longer) in
        let count = is.count in
        ap (λ n. get_or (set index place (length joined)) n (length (joined ++ x ∷ []))) (number_last k past under)
        ∙ get_or-set_same index place (length joined) (length (joined ++ x ∷ [])) (omega (arith, known, count))
        ∙ last)
        (cases_lt k (length joined))

    below_more : (k : ℕ) → k < length (joined ++ x ∷ []) → (node_at (joined ++ x ∷ []) k).number < place + 1
    below_more k under = ⊎_elim
        (λ (inside : k < length joined). let less = is.below k inside in let same = ap (λ (n : NodeState). n.number) (node_before k inside) in omega (arith, less, same))
        (λ (past : length joined ≤ k). let last = number_last k past under in omega (arith, last))
        (cases_lt k (length joined))

    rising_more : AreRising (joined ++ x ∷ [])
    rising_more i j lower under = ⊎_elim
        (λ (inside : j < length joined).
        let before : i < length joined = omega (arith, lower, inside) in
        let rises = is.rising i j lower inside in
        let same_i = ap (λ (n : NodeState). n.number) (node_before i before) in
        let same_j = ap (λ (n : NodeState). n.number) (node_before j inside) in
        omega (arith, rises, same_i, same_j))
        (λ (past : length joined ≤ j).
        let longer = length_push joined x in
        let before : i < length joined = omega (arith, lower, under, longer) in
        let less = is.below i before in
        let same = ap (λ (n : NodeState). n.number) (node_before i before) in
        let last = number_last j past under in
        omega (arith, less, same, last))
        (cases_lt j (length joined))

    pub joined_more : HaveJoined (place + 1) entries nodes number (joined ++ x ∷ []) (set index place (length joined)) room
    joined_more = record {
      count = length-set index place (length joined) ∙ is.count;
      before = λ i inside early its.
          let longer = length_push joined x in
          ⊎_elim
          (λ (at : i ≡ place).
          let count = is.count in
          ap (slice_get (joined ++ x ∷ [])) (ap (λ n. get_or (set index place (length joined)) n nowhere) at ∙ get_or-set_same index place (length joined) nowhere (omega (arith, known, count)))
          ∙ slice_get-get_or (joined ++ x ∷ []) (length joined) no_node (omega (arith, longer))
          ∙ ap (λ (n : NodeState). Some n) (get_or_push joined x no_node (length joined) refl ∙ x_is ∙ ap (node_at nodes) (sym at)))
          (λ (apart : i ≢ place).
          let k = get_or index i nowhere in
          let there : slice_get joined k ≡ Some (node_at nodes i) = is.before i inside (omega (arith, early, apart)) its in
          let under : k < length joined = slice_get_within joined k (node_at nodes i) there in
          ap (slice_get (joined ++ x ∷ [])) (get_or-set_other index place i (length joined) nowhere apart)
          ∙ slice_get-get_or (joined ++ x ∷ []) k no_node (omega (arith, longer, under))
          ∙ ap (λ (n : NodeState). Some n) (node_before k under ∙ get_or_from_slice_get joined k (node_at nodes i) no_node there))
          (cases_eq i place);
      others = λ i inside off. get_or-set_other index place i (length joined) nowhere (λ same. off (ap (group_in entries) same ∙ own)) ∙ is.others i inside off;
      behind = λ i inside late. get_or-set_other index place i (length joined) nowhere (λ same. absurd (let no : ⊥ = omega (arith, late, same) in no)) ∙ is.behind i inside (omega (arith, late));
      found = found_more;
      rising = rising_more;
      below = below_more;
      size = (let size = is.size in let more = one_more in let longer = length_push joined x in omega (arith, size, more, longer));
      fits = is.fits;
      few = is.few;
    }

  -- which is not its own
  pub joined_same : group_in entries place ≢ number → HaveJoined (place + 1) entries nodes number joined index room
  joined_same off = record {
    count = is.count;
    before = λ i inside early its. is.before i inside (⊎_elim
        (λ (at : i ≡ place). absurd (off (ap (group_in entries) (sym at) ∙ its)))
        (λ (apart : i ≢ place). let on : i < place = omega (arith, early, apart) in on)
        (cases_eq i place)) its;
    others = is.others;
    behind = λ i inside late. is.behind i inside (omega (arith, late));
    found = is.found;
    rising = is.rising;
    below = λ k inside. let less = is.below k inside in omega (arith, less);
    size = is.size ∙ sym (count_by_more_no (λ entry. entry == number) entries place 0 known (ne_eqb (group_in entries place) number off));
    fits = is.fits;
    few = is.few;
  }

module _ (entries : List ℕ) (links : List LinkEnds) (nodes : List NodeState) where
  -- before the first of them
  pub seated_none : (rooms : List GroupStateParts) → AreRooms entries links nodes rooms → AreSeatedBelow 0 entries links nodes rooms
  seated_none rooms all number d under =
      let room = all number d under in
      let free : (i : ℕ) → i < length entries → get_or (get_or rooms number d).nodes_by_number.index.items i nowhere ≡ nowhere = λ i inside. ap (λ (ix : List ℕ). get_or ix i nowhere) room.nobody ∙ get_or-replicate (length entries) i nowhere nowhere inside in
      let none : length (get_or rooms number d).nodes_by_number.nodes.items ≡ 0 = ap length room.empty in
      record {
        links_are = room.links_are;
        joined = record {
          count = ap length room.nobody ∙ length-replicate (length entries) nowhere;
          before = λ i inside early its. absurd (let no : ⊥ = omega (arith, early) in no);
          others = λ i inside off. free i inside;
          behind = λ i inside late. free i inside;
          found = λ k inside. absurd (let no : ⊥ = omega (arith, inside, none) in no);
          rising = λ i j lower inside. absurd (let no : ⊥ = omega (arith, inside, none) in no);
          below = λ k inside. absurd (let no : ⊥ = omega (arith, inside, none) in no);
          size = none;
          fits = sym room.size;
          few = room.few;
        };
        capacity = room.capacity;
        idle = room.idle;
        out_empty = room.out_empty;
      }

  -- the next one
  module _ (place : ℕ) (known : place < length entries) (rooms : List GroupStateParts) (seated : AreSeatedBelow place entries links nodes rooms) (group : ℕ) (group_is : group ≡ group_in entries place) (within : group < length rooms) (old : GroupStateParts) (e : GroupStateParts) (old_is : old ≡ get_or rooms group e) where
    here : IsSeatedBelow place entries links nodes group old
    here = subst (IsSeatedBelow place entries links nodes group) (sym old_is) (seated group e within)

    module _ (node : NodeState) (node_is : node ≡ node_at nodes place) (number_is : node.number ≡ place) where
      pub has_room : (length old.nodes_by_number.nodes.items < vec_capacity old.nodes_by_number.nodes) × (length old.nodes_by_number.nodes.items < 2 ^ 12)
      has_room =
          let less = one_fits entries nodes place known group old.nodes_by_number.nodes.items old.nodes_by_number.index.items (length old.nodes_by_number.timetable) here.joined (sym group_is) node node_is number_is in
          let capacity = here.capacity in
          let few = here.joined.few in
          (omega (arith, less, capacity), omega (arith, less, few))

      module _ (nodes_by_number : NodesByNumberParts) (nodes_are : nodes_by_number.nodes.items ≡ old.nodes_by_number.nodes.items ++ node ∷ []) (index_is : nodes_by_number.index.items ≡ set old.nodes_by_number.index.items place (length old.nodes_by_number.nodes.items))
          (capacity_is : vec_capacity nodes_by_number.nodes ≡ vec_capacity old.nodes_by_number.nodes) (timetable_is : nodes_by_number.timetable ≡ old.nodes_by_number.timetable) where
        new_here : IsSeatedBelow (place + 1) entries links nodes group (record old { nodes_by_number = nodes_by_number })
        new_here = record {
          links_are = here.links_are;
          joined = subst (λ (times : List (Option ℕ)). HaveJoined (place + 1) entries nodes group nodes_by_number.nodes.items nodes_by_number.index.items (length times)) (sym timetable_is)
              (subst (λ (ns : List NodeState). HaveJoined (place + 1) entries nodes group ns nodes_by_number.index.items (length old.nodes_by_number.timetable)) (sym nodes_are)
              (subst (λ (ix : List ℕ). HaveJoined (place + 1) entries nodes group (old.nodes_by_number.nodes.items ++ node ∷ []) ix (length old.nodes_by_number.timetable)) (sym index_is)
              (joined_more entries nodes place known group old.nodes_by_number.nodes.items old.nodes_by_number.index.items (length old.nodes_by_number.timetable) here.joined (sym group_is) node node_is number_is)));
          capacity = (let capacity = here.capacity in let same = ap length timetable_is in omega (arith, capacity, same, capacity_is));
          idle = here.idle;
          out_empty = here.out_empty;
        }

        other_here : (number : ℕ) (room : GroupStateParts) → number ≢ group → IsSeatedBelow place entries links nodes number room → IsSeatedBelow (place + 1) entries links nodes number room
        other_here number room apart is = record {
          links_are = is.links_are;
          joined = joined_same entries nodes place known number room.nodes_by_number.nodes.items room.nodes_by_number.index.items (length room.nodes_by_number.timetable) is.joined (λ same. apart (sym (group_is ∙ same)));
          capacity = is.capacity;
          idle = is.idle;
          out_empty = is.out_empty;
        }

        pub seated_one : AreSeatedBelow (place + 1) entries links nodes (set rooms group (record old { nodes_by_number = nodes_by_number }))
        seated_one number d under =
            let new : GroupStateParts = record old { nodes_by_number = nodes_by_number } in
            let inside : number < length rooms = subst (λ n. number < n) (length-set rooms group new) under in
            ⊎_elim
            (λ (same : number ≡ group).
            subst (λ n. IsSeatedBelow (place + 1) entries links nodes n (get_or (set rooms group new) n d)) (sym same)
            (subst (IsSeatedBelow (place + 1) entries links nodes group) (sym (get_or-set_same rooms group new d within)) new_here))
            (λ (apart : number ≢ group).
            subst (IsSeatedBelow (place + 1) entries links nodes number) (sym (get_or-set_other rooms group number new d apart))
            (other_here number (get_or rooms number d) apart (seated number d inside)))
            (cases_eq number group)

-- THE NODES THAT ARE LEFT

-- the last nodes of all are left, the very last first
abbrev pub AreLeft : List NodeState → List NodeState → Type 0
AreLeft all left = (i : ℕ) → i < length left → node_at left i ≡ node_at all (length all - 1 - i)

-- all of them
pub all_left : (all : List NodeState) → AreLeft all (reverse all)
all_left all i under = get_or-reverse all i no_node (subst (λ n. i < n) (length-reverse all) under)

-- the next of them
pub record IsNext (all left before : List NodeState) (node : NodeState) : Type 0 where
  pub node_is : node ≡ node_at all (length all - length left)
  pub within : length all - length left < length all
  pub long : length left ≡ length before + 1
  pub rest : AreLeft all before

pub next_left : (all left before : List NodeState) (node : NodeState) → AreLeft all left → length left ≤ length all → left ≡ before ++ node ∷ [] → IsNext all left before node
next_left all left before node are few more =
    let long : length left ≡ length before + 1 = ap length more ∙ length-append before (node ∷ []) in
    let which : length all - 1 - length before ≡ length all - length left = omega (arith, long, few) in
    record {
      node_is = sym (get_or_push before node no_node (length before) refl) ∙ ap (λ (ns : List NodeState). node_at ns (length before)) (sym more) ∙ are (length before) (omega (arith, long)) ∙ ap (node_at all) which;
      within = omega (arith, long, few);
      long = long;
      rest = λ i under. sym (get_or_append_left before (node ∷ []) no_node i under) ∙ ap (λ (ns : List NodeState). node_at ns i) (sym more) ∙ are i (omega (arith, long, under));
    }
