-- The figures of all links, one event on.
use Rattle.std.proofs.Common.{◌≡◌, ◌≢◌, ℕ, ◌<◌, ◌≤◌, List, [], ◌∷◌, ◌++◌, length, get_or, sym, ap, subst, ◌∙◌, Some, refl, arith, ⊎_elim, Bool, true, false}
use Rattle.std.proofs.lemmas.Bool.{cases_eq}
use Rattle.std.proofs.lemmas.List.{length-map}
use Rattle.node_core.specs.Part.{PartState, link_at}
use Rattle.node_core.specs.Node.{NodeState}
use Rattle.node_core.specs.TraceLine.{TraceLine}
use Rattle.table_run.specs.State.{State, part_at, step}
use Rattle.net_machine.specs.Nodes.{parts_of, node_at}
use Rattle.figures.specs.declared.link.LinkFigures.{LinkFigures}
use Rattle.figures.specs.declared.links.NodeLinks.{NodeLinks}
use Rattle.figures.specs.Moments.{Moment, Base}
use Rattle.figures.specs.Links.{port_at, frees, wait_of_given, wait_by, IsNextEntry, TellsWait, counts_link, KeepsLinks, last_from, AreOfLink, IsLinkAfterIf, AreLinksAfter, AreLinksBegun, AreOfNode}
use Rattle.figures.specs.Figures.{AreOfLinks}
use Rattle.figures.proofs.Begun.{part_is}
use Rattle.figures.proofs.Steps.{IsStep, is_step, size_stays, part_elsewhere, links_stay}
use Rattle.figures.proofs.OfLinks.{link_begun, link_here, link_elsewhere, link_untouched}

-- the links before any event
pub links_begun : (since before : ℕ) (earlier : List Moment) (nodes : List NodeState) (s : State) (fs : List NodeLinks) → parts_of nodes ≡ s.parts → length fs ≡ length nodes →
    ((place : ℕ) (other : NodeLinks) → place < length nodes → AreLinksBegun since (node_at nodes place).part.links (get_or fs place other).figures.items) → AreOfLinks (record { since = since; state = s; before = before; earlier = earlier }) [] s fs
links_begun since before earlier nodes s fs parts size each =
    let count : length s.parts ≡ length nodes = ap length (sym parts) ∙ length-map nodes (λ (n : NodeState). n.part) in
    record {
      count = size ∙ sym count;
      each = λ node other within.
          let is : AreLinksBegun since (part_at s node).links (get_or fs node other).figures.items =
          subst (λ (p : PartState). AreLinksBegun since p.links (get_or fs node other).figures.items) (part_is nodes s node parts) (each node other (omega (arith, within, count))) in
          record {
            size = is.size;
            each = λ i link inside. link_begun since before s earlier node i (get_or (get_or fs node other).figures.items i link) (is.each i link (omega (arith, inside, is.size)));
          };
    }

module _ (base : Base) (ms : List Moment) (s : State) (line : TraceLine) (t : State) (is_next : step s ≡ Some (line, t)) (order : last_from base.since ms ≤ line.key.time) (nodes : List NodeState) (parts : parts_of nodes ≡ t.parts)
    (tells : TellsWait s line t) (keeps : KeepsLinks s line t) where
  abbrev m : Moment
  m = record { before = s; line = line; after = t }

  abbrev its : IsStep s line t
  its = is_step s line t is_next

  apart_node : (node : ℕ) (fs : List LinkFigures) → node ≢ line.key.node → AreOfNode base ms s node fs → AreOfNode base (ms ++ m ∷ []) t node fs
  apart_node node fs apart is =
      let same = part_elsewhere s line t its node apart in
      record {
        size = is.size ∙ ap (λ (p : PartState). length p.links) (sym same);
        each = λ i link inside. link_elsewhere base ms s line t node i order apart same (get_or fs i link) (is.each i link inside);
      }

  reported_here : (node : ℕ) → line.key.node ≡ node → (i entered : ℕ) → i < length (part_at s node).links → IsNextEntry (port_at s node i) entered → frees (port_at t node i).link line.event ≡ true →
      wait_by (port_at s node i).offered (port_at t node i) line entered ≡ wait_of_given line.key.time (port_at s node i)
  reported_here node here = subst (λ n. (i entered : ℕ) → i < length (part_at s n).links → IsNextEntry (port_at s n i) entered → frees (port_at t n i).link line.event ≡ true → wait_by (port_at s n i).offered (port_at t n i) line entered ≡ wait_of_given line.key.time (port_at s n i)) here tells

  -- what a link that is freed is given has waited as long as was counted before
  reported : (node : ℕ) → line.key.node ≡ node → (i : ℕ) → i < length (part_at s node).links → (f : LinkFigures) → AreOfLink base ms s node i f → frees (port_at t node i).link line.event ≡ true → wait_by f.offered (port_at t node i) line f.next_entry ≡ wait_of_given line.key.time (port_at s node i)
  reported node here i inside f is freed = ap (λ n. wait_by n (port_at t node i) line f.next_entry) is.offered ∙ reported_here node here i f.next_entry inside is.next_entry_is freed

  kept : (node : ℕ) → line.key.node ≡ node → (i : ℕ) → i < length (part_at s node).links → counts_link i (port_at s node i).offered (port_at t node i) line ≡ false →
      (port_at t node i ≡ port_at s node i) × (frees (port_at t node i).link line.event ≡ false)
  kept node here =
      subst (λ n. (i : ℕ) → i < length (part_at s n).links → counts_link i (port_at s n i).offered (port_at t n i) line ≡ false → (port_at t n i ≡ port_at s n i) × (frees (port_at t n i).link line.event ≡ false)) here keeps

  -- a link of the event's node, of which the event is counted or not
  link_now : (node i : ℕ) → line.key.node ≡ node → i < length (part_at s node).links → (f g : LinkFigures) → AreOfLink base ms s node i f →
      IsLinkAfterIf (counts_link i f.offered (port_at t node i) line) f (port_at t node i) line g → (b : Bool) → counts_link i f.offered (port_at t node i) line ≡ b → AreOfLink base (ms ++ m ∷ []) t node i g
  link_now node i here inside f g is after true test = link_here base ms s line t node i order here f g (reported node here i inside f is) is (after.counted test)
  link_now node i here inside f g is after false test =
      let still = kept node here i inside (ap (λ n. counts_link i n (port_at t node i) line) (sym is.offered) ∙ test) in
      subst (AreOfLink base (ms ++ m ∷ []) t node i) (sym (after.kept test)) (link_untouched base ms s line t node i order here still.0 still.1 f is)

  here_node : (node : ℕ) (fs gs : List LinkFigures) → line.key.node ≡ node → node < length s.parts → length gs ≡ length fs → AreLinksAfter fs (node_at nodes node).part.links line gs → AreOfNode base ms s node fs → AreOfNode base (ms ++ m ∷ []) t node gs
  here_node node fs gs here within same after is = record {
    size = same ∙ is.size ∙ sym (links_stay s line t its node within);
    each = λ i link inside.
        let old : i < length fs = omega (arith, inside, same) in
        link_now node i here (omega (arith, old, is.size)) (get_or fs i link) (get_or gs i link) (is.each i link old)
        (subst (λ (p : PartState). IsLinkAfterIf (counts_link i (get_or fs i link).offered (link_at p.links i).port line) (get_or fs i link) (link_at p.links i).port line (get_or gs i link)) (part_is nodes t node parts) (after i link old))
        (counts_link i (get_or fs i link).offered (port_at t node i) line) refl;
  }

  pub links_step : (fs gs : List NodeLinks) → AreOfLinks base ms s fs → length gs ≡ length fs →
      ((other : NodeLinks) → length (get_or gs line.key.node other).figures.items ≡ length (get_or fs line.key.node other).figures.items) →
      ((other : NodeLinks) → line.key.node < length fs → AreLinksAfter (get_or fs line.key.node other).figures.items (node_at nodes line.key.node).part.links line (get_or gs line.key.node other).figures.items) →
      ((node : ℕ) (other : NodeLinks) → node ≢ line.key.node → get_or gs node other ≡ get_or fs node other) → AreOfLinks base (ms ++ m ∷ []) t gs
  links_step fs gs is size sizes here elsewhere = record {
    count = size ∙ is.count ∙ sym (size_stays s line t its);
    each = λ node other within.
        let inside : node < length s.parts = omega (arith, within, size_stays s line t its) in
        let old = is.each node other inside in
        ⊎_elim
        (λ (at : node ≡ line.key.node).
        let same : length (get_or gs node other).figures.items ≡ length (get_or fs node other).figures.items = subst (λ n. length (get_or gs n other).figures.items ≡ length (get_or fs n other).figures.items) (sym at) (sizes other) in
        let after : AreLinksAfter (get_or fs node other).figures.items (node_at nodes node).part.links line (get_or gs node other).figures.items =
        subst (λ n. AreLinksAfter (get_or fs n other).figures.items (node_at nodes n).part.links line (get_or gs n other).figures.items) (sym at) (here other (omega (arith, inside, at, is.count))) in
        here_node node (get_or fs node other).figures.items (get_or gs node other).figures.items (sym at) inside same after old)
        (λ (apart : node ≢ line.key.node). subst (λ (links : NodeLinks). AreOfNode base (ms ++ m ∷ []) t node links.figures.items) (sym (elsewhere node other apart)) (apart_node node (get_or fs node other).figures.items apart old))
        (cases_eq node line.key.node);
  }

  -- the same, where the links before are known as another list
  pub links_counted : (fs gs old : List NodeLinks) → old ≡ fs → AreOfLinks base ms s fs → length gs ≡ length old →
      ((other : NodeLinks) → length (get_or gs line.key.node other).figures.items ≡ length (get_or old line.key.node other).figures.items) →
      ((other : NodeLinks) → line.key.node < length old → AreLinksAfter (get_or old line.key.node other).figures.items (node_at nodes line.key.node).part.links line (get_or gs line.key.node other).figures.items) →
      ((node : ℕ) (other : NodeLinks) → node ≢ line.key.node → get_or gs node other ≡ get_or old node other) → AreOfLinks base (ms ++ m ∷ []) t gs
  links_counted fs gs old old_is is size sizes here elsewhere = links_step old gs (subst (AreOfLinks base ms s) (sym old_is) is) size sizes here elsewhere

-- there are figures for each link that a node has after the event
pub sizes_are : (base : Base) (ms : List Moment) (s : State) (line : TraceLine) (t : State) → step s ≡ Some (line, t) → (nodes : List NodeState) → parts_of nodes ≡ t.parts → (fs old : List NodeLinks) → old ≡ fs → AreOfLinks base ms s fs →
    (node : ℕ) (other : NodeLinks) → node < length old → length (get_or old node other).figures.items ≡ length (node_at nodes node).part.links
sizes_are base ms s line t next nodes parts fs old old_is is node other within =
    let same = ap length old_is in
    let inside : node < length s.parts = omega (arith, within, same, is.count) in
    ap (λ xs. length (get_or xs node other).figures.items) old_is ∙ (is.each node other inside).size
    ∙ sym (links_stay s line t (is_step s line t next) node inside) ∙ ap (λ (p : PartState). length p.links) (sym (part_is nodes t node parts))
