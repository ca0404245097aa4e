-- The groups of a net have their states, from the last to the first.
use Rattle.std.proofs.Common.{◌≡◌, ◌≢◌, ℕ, ◌+◌, ◌-◌, ◌<◌, cond, List, [], ◌∷◌, ◌++◌, length, get_or, reverse, refl, sym, ap, subst, ◌∙◌, Some, None, ⊎_elim, arith, length-append, eq-eqb}
use Rattle.std.proofs.lemmas.Bool.{cases_eq, ne_eqb}
use Rattle.std.proofs.lemmas.List.{get_or_append_left, get_or_push, get_or-map, get_or-reverse, length-reverse}
use Rattle.std.proofs.lemmas.Option.{slice_get_past}
use Rattle.std.proofs.Math.Seq.{take-length}
use Rattle.std.specs.List.{slice_get}
use Rattle.node_core.specs.Node.{NodeState}
use Rattle.net_machine.specs.declared.places.LinkEnds.{LinkEnds}
use Rattle.net_machine.specs.NetOf.{AreNetParts}
use Rattle.node_group.specs.declared.group_state.GroupStateParts.{GroupStateParts}
use Rattle.node_group.specs.Group.{GroupValue, IsGroup}
use Rattle.net_machine.specs.Nodes.{node_at}
use Rattle.net_partition.specs.Partition.{group_in}
use Rattle.node_group.specs.Seats.{Seats}
use Rattle.node_group.specs.Numbered.{seats_of}
use Rattle.node_group.specs.GroupStates.{nowhere, size_of, AreSeatsOf, IsSeatedBelow, AreSeatedBelow, IsGroupStateOf, AreGroupStatesOf}
use Rattle.node_group.proofs.Numbered.{many}
use Rattle.node_group.proofs.OfNet.{group_state_is_group}

-- of rooms, those in front of the last, and the last
pub front_seated : (entries : List ℕ) (links : List LinkEnds) (nodes : List NodeState) (now before : List GroupStateParts) (room : GroupStateParts) → now ≡ before ++ room ∷ [] → AreSeatedBelow (length entries) entries links nodes now → AreSeatedBelow (length entries) entries links nodes before
front_seated entries links nodes now before room more seated number d under =
    let long = length-append before (room ∷ []) in
    subst (IsSeatedBelow (length entries) entries links nodes number) (get_or_append_left before (room ∷ []) d number under)
    (subst (λ (all : List GroupStateParts). (d : GroupStateParts) → number < length all → IsSeatedBelow (length entries) entries links nodes number (get_or all number d)) more (seated number) d (omega (arith, under, long)))

pub last_seated : (entries : List ℕ) (links : List LinkEnds) (nodes : List NodeState) (now before : List GroupStateParts) (room : GroupStateParts) → now ≡ before ++ room ∷ [] → AreSeatedBelow (length entries) entries links nodes now → IsSeatedBelow (length entries) entries links nodes (length before) room
last_seated entries links nodes now before room more seated =
    let long = length-append before (room ∷ []) in
    subst (IsSeatedBelow (length entries) entries links nodes (length before)) (get_or_push before room room (length before) refl)
    (subst (λ (all : List GroupStateParts). (d : GroupStateParts) → length before < length all → IsSeatedBelow (length entries) entries links nodes (length before) (get_or all (length before) d)) more (seated (length before)) room (omega (arith, long)))

-- all that were to come have joined
pub none_missing : (entries : List ℕ) (links : List LinkEnds) (nodes : List NodeState) (number : ℕ) (room : GroupStateParts) → IsSeatedBelow (length entries) entries links nodes number room → length room.nodes_by_number.timetable ≡ length room.nodes_by_number.nodes.items
none_missing entries links nodes number room is = sym (is.joined.size ∙ ap (size_of number) (take-length entries) ∙ is.joined.fits)

-- who sits in a room
abbrev pub seats_in : GroupStateParts → Seats
seats_in room = seats_of room.nodes_by_number.nodes.items room.nodes_by_number.index.items

seats_are : (entries : List ℕ) (links : List LinkEnds) (nodes : List NodeState) (number : ℕ) (room : GroupStateParts) → IsSeatedBelow (length entries) entries links nodes number room → AreSeatsOf entries number nodes (seats_in room)
seats_are entries links nodes number room is =
    let joined = room.nodes_by_number.nodes.items in
    let index = room.nodes_by_number.index.items in
    record {
      count = many joined index ∙ is.joined.count;
      each_seat = λ i inside.
          let size = is.joined.count in
          let read : get_or (seats_in room) i None ≡ slice_get joined (get_or index i nowhere) = get_or-map (λ k. slice_get joined k) index i nowhere None (omega (arith, inside, size)) in
          ⊎_elim
          (λ (own : group_in entries i ≡ number).
          read ∙ is.joined.before i inside inside own ∙ sym (ap (λ b. cond b (Some (node_at nodes i)) None) (eq-eqb (group_in entries i) number own)))
          (λ (off : group_in entries i ≢ number).
          read
          ∙ ap (slice_get joined) (is.joined.others i inside off)
          ∙ slice_get_past joined nowhere (let all = none_missing entries links nodes number room is in let few = is.joined.few in omega (arith, all, few))
          ∙ sym (ap (λ b. cond b (Some (node_at nodes i)) None) (ne_eqb (group_in entries i) number off)))
          (cases_eq (group_in entries i) number);
    }

-- a room whose nodes are seated is a group's
pub room_is_group : (nodes : List NodeState) (links : List LinkEnds) (end position : ℕ) → AreNetParts nodes links end position → (entries : List ℕ) → length entries ≡ length nodes → (number until : ℕ) (room : GroupStateParts) → IsSeatedBelow (length entries) entries links nodes number room
    → IsGroup (record { number = number; entries = entries; links = room.links.items; seats = seats_in room; held = room.exits; lines = []; until = until; position = position })
room_is_group nodes links end position net entries size number until room is =
    subst (λ (ls : List LinkEnds). IsGroup (record { number = number; entries = entries; links = ls; seats = seats_in room; held = room.exits; lines = []; until = until; position = position })) (sym is.links_are)
    (group_state_is_group nodes links end position net entries size number until (seats_in room) room.exits (seats_are entries links nodes number room is) is.idle)

-- and so its group state
pub room_group_state : (entries : List ℕ) (links : List LinkEnds) (nodes : List NodeState) (until position number : ℕ) (room : GroupStateParts) (g : GroupValue) → IsSeatedBelow (length entries) entries links nodes number room
    → g ≡ record { number = number; entries = entries; links = room.links.items; seats = seats_in room; held = room.exits; lines = []; until = until; position = position } → IsGroupStateOf entries links nodes until position number g
room_group_state entries links nodes until position number room g is same = subst (IsGroupStateOf entries links nodes until position number) (sym same) record {
  number_is = refl;
  entries_are = refl;
  links_are = is.links_are;
  seats = seats_are entries links nodes number room is;
  wires = is.idle;
  no_lines = refl;
  until_is = refl;
  position_is = refl;
}

module _ (entries : List ℕ) (links : List LinkEnds) (nodes : List NodeState) (until position count : ℕ) where
  -- the last first
  abbrev pub AreMade : List GroupValue → Type 0
  AreMade group_states = (i : ℕ) (d : GroupValue) → i < length group_states → IsGroupStateOf entries links nodes until position (count - 1 - i) (get_or group_states i d)

  pub made_more : (group_states : List GroupValue) (g : GroupValue) (number : ℕ) → number + length group_states + 1 ≡ count → AreMade group_states → IsGroupStateOf entries links nodes until position number g → AreMade (group_states ++ g ∷ [])
  made_more group_states g number sum made is i d under =
      let long = length-append group_states (g ∷ []) in
      ⊎_elim
      (λ (at : i ≡ length group_states).
      let which : number ≡ count - 1 - i = omega (arith, at, sum) in
      subst (λ n. IsGroupStateOf entries links nodes until position n (get_or (group_states ++ g ∷ []) i d)) which (subst (IsGroupStateOf entries links nodes until position number) (sym (get_or_push group_states g d i (sym at))) is))
      (λ (apart : i ≢ length group_states).
      let inside : i < length group_states = omega (arith, under, long, apart) in
      subst (IsGroupStateOf entries links nodes until position (count - 1 - i)) (sym (get_or_append_left group_states (g ∷ []) d i inside)) (made i d inside))
      (cases_eq i (length group_states))

  pub made_all : (group_states : List GroupValue) → length group_states ≡ count → AreMade group_states → AreGroupStatesOf entries links nodes until position (reverse group_states)
  made_all group_states all made number d under =
      let inside : number < length group_states = subst (λ n. number < n) (length-reverse group_states) under in
      let at : length group_states - 1 - number < length group_states = omega (arith, inside) in
      let which : count - 1 - (length group_states - 1 - number) ≡ number = omega (arith, inside, all) in
      subst (IsGroupStateOf entries links nodes until position number) (sym (get_or-reverse group_states number d inside))
      (subst (λ n. IsGroupStateOf entries links nodes until position n (get_or group_states (length group_states - 1 - number) d)) which (made (length group_states - 1 - number) d at))
