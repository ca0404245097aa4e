-- The steps of the walks: the nodes' two pointers, one node's memory, and an empty block. Assumes `Logic`.
use Rattle.std.proofs.Common.{◌≡◌, ℕ, ◌+◌, ◌^◌, ◌<◌, zero, suc, length, arith, List, [], ◌∷◌, ◌++◌, refl, sym, ap, ◌∙◌, subst}
use seplogic.Ra.Ura.{Ura}
use base.Fraction.{full_share}
use mir.Syntax.{Ty, impl, tnil, dnil, ty_ptr, ty_struct, tcons}
use mir.Raw.{raw as bare}
use mir.Val.{Val, vstruct, vcons, vnil, of_list}
use base.Logic.{ent, sep, via, never, fst∗, snd∗}
use base.Fml.{Fml, Lft, Share, ftrue, fat, flft, froom}
use types.Logic.{Logic, sem}
use types.Kit.{Item, Goal, Seq, Step, Soaks, step, ‵, some, ◌⊛◌, ◌$◌, ◌∵◌, !, qed, move, drop, use1, use2, pick, split, fsplit, fjoin, fpick, fpack, feq_i, feq_l, rewrite, done}
use denote.RattleType.{Valss}
use denote.Memory.{part_at, cell_at, hidden_shr, shared_of, lone}
use denote.Opens.{Shut, unhide, hide}
use denote.Copied.{plain_Copied}
use denote.RawPtr.{Ptr, RawPtr, block_ptr, null_ptr, ptr_val, in_a_block, coded_ptr, ptr_own, rawptr_pure}
use denote.Laws.{Is, shows}
use denote.Steps.{nothing, only, facts, owned, looks, shuts}
use denote.Struct.Struct.{within, as_fields}
use denote.Struct.Owning.{shape, to}
use denote.Struct.Declared as declared
use denote.Struct.Laws.{makes, owes, owed, tells, val, RawPtr-laws}
use denote.Struct.Lending.{lent_at}
use borrow.Table.OneValue.{part_in, part_out}
use Rattle.core.proofs.alloc.Calls.{Al, α, handle_tells, Fits as Whole}
use Rattle.std_alloc.proofs.RawLayout.{as_raw}
use Rattle.std_alloc.proofs.RcSteps.{Good, Ptr-Good}
use Rattle.std_alloc.specs.Box.Ownership.{box_owns}
use Rattle.std_heap.specs.contracts.Global as Heap
use Rattle.std_heap.specs.contracts.GlobalAllocator.TheImpl.{ghosts, dict}
use Rattle.std_heap.proofs.Global.TheLaws as heap_laws
use Rattle.packet_chain.specs.declared.node.ChainNode.{ChainNode}
use Rattle.packet_chain.specs.contracts.node.ChainNode as N
use Rattle.packet_chain.proofs.node.ChainNode.TheLaws as node
use Rattle.packet_chain.specs.declared.node.NodePointer.{NodePointer}
use Rattle.packet_chain.specs.contracts.node.NodePointer as Pl
use Rattle.packet_chain.specs.declared.loose.Loose.{Loose}
use Rattle.packet_chain.specs.contracts.loose.Loose as Lo
use Rattle.packet_chain.specs.declared.nodes.ChainNodes.{ChainNodes}
use Rattle.packet_chain.specs.contracts.nodes.ChainNodes as Ns
use Rattle.packet_chain.specs.Links.{Link}
use Rattle.packet_chain.specs.Ownership.{freeing, link_owns, nodes_own, nodes_lent}
use Rattle.packet_chain.proofs.Linked.{link_at}

-- the heap, as an allocator
abbrev pub heap : Al
heap = record { row = Heap.the_row; laws = heap_laws.the_row_laws; g = ghosts; d = dict; drops = impl [] tnil dnil }

-- the machine's values
abbrev pub nodes_val : Ptr → Ptr → Val
nodes_val h t = vstruct (vcons (ptr_val h) (vcons (ptr_val t) vnil))

abbrev pub node_val : ChainNode → Val
node_val = val N.the_type node.the_laws

abbrev pub loose_val : Ptr → Val → Val
loose_val p hv = vstruct (vcons (ptr_val p) (vcons hv vnil))

abbrev pub place_val : Ptr → Val
place_val p = vstruct (vcons (ptr_val p) vnil)

-- the machine's value is one of the node's
abbrev pub Fits : ChainNode → Type 0
Fits n = Is N.the_row n (node_val n ∷ [])

pub Fits-leading : (n : ChainNode) (p : Ptr) → Fits n → Fits (record n { next = p })
Fits-leading n p f = owes N.the_type node.the_laws (record n { next = p }) (refl, (owed N.the_type node.the_laws n (node_val n ∷ []) f).1)

pub Fits-stamped : (n : ChainNode) (t : ℕ) → t < 2 ^ 64 → Fits n → Fits (record n { stamp = t })
Fits-stamped n t small f = let o = owed N.the_type node.the_laws n (node_val n ∷ []) f in owes N.the_type node.the_laws (record n { stamp = t }) (o.0, (o.1.0, ((refl, small), tt)))

abbrev pub node_at : ℕ → ℕ → ChainNode → Fml
node_at b o n = fat full_share (lone N.the_row.mir) b o (node_val n)

-- the type of a block
abbrev pub node_block : Ty
node_block = bare (lone N.the_row.mir)

pub nodes_typed : (h t : Ptr) → Good (ty_struct Ns.the_type.name (tcons ty_ptr (tcons ty_ptr tnil))) (nodes_val h t)
nodes_typed h t = as_fields (ty_ptr ∷ ty_ptr ∷ []) (ptr_val h ∷ ptr_val t ∷ []) (Ptr-Good h, (Ptr-Good t, tt))

pub loose_typed : (p : Ptr) (hv : Val) → Whole heap hv → Good (ty_struct Lo.the_type.name (tcons ty_ptr (tcons (α heap) tnil))) (loose_val p hv)
loose_typed p hv fa = as_fields (ty_ptr ∷ α heap ∷ []) (ptr_val p ∷ hv ∷ []) (Ptr-Good p, (fa, tt))

pub place_typed : (p : Ptr) → Good (ty_struct Pl.the_type.name (tcons ty_ptr tnil)) (place_val p)
place_typed p = as_fields (ty_ptr ∷ []) (ptr_val p ∷ []) (Ptr-Good p, tt)

module _ {M : Type 1} {𝓤 : Ura M} {𝓛 : Logic 𝓤} {K : Type 0} {Γ : List (Item 𝓤)} {G : Goal 𝓤 𝓛.H} where
  -- the two pointers are taken apart
  pub nodes_had : K → (d : ChainNodes) (vs : List Val) → (vs ≡ nodes_val d.head d.tail ∷ [] → Seq K 𝓛 (‵ (nodes_own d.links) ∷ Γ) G) → Seq K 𝓛 (‵ (Ns.the_row.own_val d vs) ∷ Γ) G
  nodes_had t d vs k =
      fsplit t $ fpick t (λ vss. fsplit t $ feq_l t (λ all. fsplit t $ feq_l t (λ e. fsplit t $ feq_l t (λ f. drop t $
      k (all ∙ (λ i. vstruct (of_list (e i ++ (f i ++ []))) ∷ []))))))

  -- and put together
  pub nodes_made : K → (d : ChainNodes) → Step K 𝓛 (‵ (Ns.the_row.own_val d (nodes_val d.head d.tail ∷ [])) ∷ Γ) G (‵ (nodes_own d.links) ∷ Γ) G
  nodes_made t d = step (λ s.
      let v = nodes_val d.head d.tail in
      nothing t $ feq_i t (List Val) (ptr_val d.tail ∷ []) (ptr_val d.tail ∷ []) refl $ fjoin t $
      feq_i t (List Val) (ptr_val d.head ∷ []) (ptr_val d.head ∷ []) refl $ fjoin t $ feq_i t (List Val) (v ∷ []) (v ∷ []) refl $ fjoin t $
      fpack t (Valss (shape Ns.the_type).fields) (within (shape Ns.the_type) (d.head, (d.tail, tt)) (v ∷ [])) (ptr_val d.head ∷ [], (ptr_val d.tail ∷ [], tt)) $ fjoin t $ s)

  -- a node's memory, with its value in it
  pub node_out : K → (n : ChainNode) (b o : ℕ) → (Fits n → Seq K 𝓛 (‵ (node_at b o n) ∷ Γ) G) → Seq K 𝓛 (‵ (part_at N.the_row full_share n b o) ∷ Γ) G
  node_out t n b o k =
      use1 𝓛 (some (λ (v : Val). ‵ (fat full_share (lone N.the_row.mir) b o v) ⊛ ‵ (N.the_row.own_val n (v ∷ [])))) (part_out 𝓛 N.the_row refl full_share n b o) $ pick t (λ v. split t $ move t (1 ∷ []) $
      facts t N.the_row (Is N.the_row) (shows 𝓛 N.the_row) n (v ∷ []) (λ is.
      let e = tells N.the_type node.the_laws n (v ∷ []) is in
      rewrite t 0 (λ (u : Val). ‵ (fat full_share (lone N.the_row.mir) b o u)) (ap only e) refl $ k (subst (Is N.the_row n) e is)))

  pub node_in : K → (n : ChainNode) (b o : ℕ) → Fits n → Step K 𝓛 (‵ (part_at N.the_row full_share n b o) ∷ Γ) G (‵ (node_at b o n) ∷ Γ) G
  node_in t n b o f = step (λ s.
      owned t N.the_row (Is N.the_row) (makes N.the_type node.the_plain 𝓛) n (node_val n ∷ []) f $ move t (1 ∷ 0 ∷ []) $
      use2 𝓛 (‵ (part_at N.the_row full_share n b o)) (part_in 𝓛 N.the_row refl full_share n b o (node_val n)) $ s)

  -- the node is given up, and its memory is empty
  pub emptied : K → (n : ChainNode) (b o : ℕ) → Step K 𝓛 (‵ (froom (bare (lone N.the_row.mir)) b o) ∷ Γ) G (‵ (node_at b o n) ∷ Γ) G
  emptied t n b o = step (λ s.
      use1 𝓛 (‵ (froom (lone N.the_row.mir) b o)) (𝓛.laws.at_room (lone N.the_row.mir) b o (node_val n)) $ as_raw t (lone N.the_row.mir) b o $ s)

module _ {M : Type 1} {𝓤 : Ura M} (𝓛 : Logic 𝓤) where
  -- the nodes of two chains in a row
  pub append_out : (xs ys : List Link) → ent 𝓤 (sem 𝓛 (nodes_own (xs ++ ys))) (sep 𝓤 (sem 𝓛 (nodes_own xs)) (sem 𝓛 (nodes_own ys)))
  append_out [] ys = qed 𝓛 (‵ (nodes_own ys) ∷ []) ∵ nothing ! $ done !
  append_out (x ∷ xs) ys = qed 𝓛 (‵ (nodes_own (x ∷ xs ++ ys)) ∷ []) ∵ fsplit ! $ move ! (1 ∷ []) $
      use1 𝓛 (‵ (nodes_own xs) ⊛ ‵ (nodes_own ys)) (append_out xs ys) $ split ! $ move ! (2 ∷ 0 ∷ []) $ fjoin ! $ done !

  pub append_in : (xs ys : List Link) → ent 𝓤 (sep 𝓤 (sem 𝓛 (nodes_own xs)) (sem 𝓛 (nodes_own ys))) (sem 𝓛 (nodes_own (xs ++ ys)))
  append_in [] ys = qed 𝓛 (‵ ftrue ∷ ‵ (nodes_own ys) ∷ []) ∵ drop ! $ done !
  append_in (x ∷ xs) ys = qed 𝓛 (‵ (nodes_own (x ∷ xs)) ∷ ‵ (nodes_own ys) ∷ []) ∵ fsplit ! $ move ! (1 ∷ 2 ∷ []) $
      use2 𝓛 (‵ (nodes_own (xs ++ ys))) (append_in xs ys) $ move ! (1 ∷ 0 ∷ []) $ fjoin ! $ done !

  -- of what a `&` to the nodes holds, the i-th node
  node_lent : (κ : Lft) (ls : List Link) (i : ℕ) (p : i < length ls) → ent 𝓤 (sem 𝓛 (nodes_lent ls κ)) (sem 𝓛 (lent_at N.the_row (link_at ls i p).0.0 (link_at ls i p).0.1 κ))
  unfolding link_at
  node_lent κ [] i p = absurd (omega arith)
  node_lent κ (l ∷ ls) zero p = fst∗ 𝓤 _ (sem 𝓛 (nodes_lent ls κ))
  node_lent κ (l ∷ ls) (suc i) p = via 𝓤 _ (snd∗ 𝓤 (sem 𝓛 (lent_at N.the_row l.0 l.1 κ)) _) (node_lent κ ls i (omega arith))

module _ {M : Type 1} {𝓤 : Ura M} {𝓛 : Logic 𝓤} {K : Type 0} {Γ : List (Item 𝓤)} {G : Goal 𝓤 𝓛.H} where
  -- a link is [its node's memory; the right to free the block]
  pub link_out : K → (l : Link) → ((b o : ℕ) → l.0 ≡ block_ptr b o → Fits l.1 → Seq K 𝓛 (‵ (node_at b o l.1) ∷ ‵ (freeing node_block (block_ptr b o)) ∷ Γ) G) → Seq K 𝓛 (‵ (link_owns l) ∷ Γ) G
  link_out t l k =
      in_a_block t l.0 (λ p. box_owns freeing N.the_row p l.1) (fst∗ 𝓤 (never 𝓤) (sem 𝓛 (freeing node_block null_ptr))) (λ b o at. fsplit t $ node_out t l.1 b o (λ f. k b o at f))

  pub link_in : K → (l : Link) (b o : ℕ) → l.0 ≡ block_ptr b o → Fits l.1 → Step K 𝓛 (‵ (link_owns l) ∷ Γ) G (‵ (node_at b o l.1) ∷ ‵ (freeing node_block (block_ptr b o)) ∷ Γ) G
  link_in t l b o at f = step (λ s.
      node_in t l.1 b o f $ fjoin t $ rewrite t 0 (λ (p : Ptr). ‵ (box_owns freeing N.the_row p l.1)) (sym at) refl $ s)

  -- a place is its pointer
  pub place_had : K → (d : NodePointer) (vs : List Val) → (vs ≡ place_val d.at ∷ [] → Seq K 𝓛 Γ G) → Seq K 𝓛 (‵ (Pl.the_row.own_val d vs) ∷ Γ) G
  place_had t d vs k = fpick t (λ vss. fsplit t $ feq_l t (λ all. fsplit t $ feq_l t (λ e. drop t $ k (all ∙ (λ i. vstruct (of_list (e i ++ [])) ∷ [])))))

  pub place_made : K → (d : NodePointer) → Step K 𝓛 (‵ (Pl.the_row.own_val d (place_val d.at ∷ [])) ∷ Γ) G Γ G
  place_made t d = step (λ s.
      let v = place_val d.at in
      nothing t $ feq_i t (List Val) (ptr_val d.at ∷ []) (ptr_val d.at ∷ []) refl $ fjoin t $ feq_i t (List Val) (v ∷ []) (v ∷ []) refl $ fjoin t $
      fpack t (Valss (declared.shape Pl.the_type).fields) (within (declared.shape Pl.the_type) (d.at, tt) (v ∷ [])) (ptr_val d.at ∷ [], tt) $ s)

  -- what a `&` to the nodes shows: the first pointer
  pub head_shown : K → {κ : Lft} (d : ChainNodes) (b o : ℕ) → Step K 𝓛 (‵ (hidden_shr RawPtr κ d.head b (o + 0)) ∷ Γ) G (‵ (hidden_shr Ns.the_row κ d b o) ∷ Γ) G
  head_shown t d b o = step (λ s. unhide t $ fsplit t $ move t (1 ∷ []) $ drop t $ fsplit t $ move t (1 ∷ []) $ drop t $ fsplit t $ move t (1 ∷ []) $ drop t $ hide t $ s)

  -- and a node
  pub node_shown : K → {κ : Lft} (d : ChainNodes) (b o i : ℕ) (p : i < length d.links)
      → ((nb no : ℕ) → (link_at d.links i p).0.0 ≡ block_ptr nb no → Seq K 𝓛 (‵ (hidden_shr N.the_row κ (link_at d.links i p).0.1 nb no) ∷ Γ) G) → Seq K 𝓛 (‵ (hidden_shr Ns.the_row κ d b o) ∷ Γ) G
  node_shown t {κ} d b o i p k =
      let l : Link = (link_at d.links i p).0 in
      unhide t $ fsplit t $ drop t $ use1 𝓛 (‵ (lent_at N.the_row l.0 l.1 κ)) (node_lent 𝓛 κ d.links i p) $
      in_a_block t l.0 (λ r. lent_at N.the_row r l.1 κ) (fst∗ 𝓤 (never 𝓤) (sem 𝓛 (shared_of N.the_row l.1 0 0 κ))) (λ nb no at. fsplit t $ drop t $ hide t $ k nb no at)

  -- a pointer is read through a `&`, for a share of its token
  pub pointer_in : K → Soaks G → {κ : Lft} {q : Share} (p : Ptr) (b o : ℕ)
      → ((part : Share) → Seq K 𝓛 (‵ (fat part ty_ptr b o (ptr_val p)) ∷ Shut 𝓛 κ q (part_at RawPtr part p b o) ∷ Γ) G) → Seq K 𝓛 (‵ (hidden_shr RawPtr κ p b o) ∷ ‵ (flft κ q) ∷ Γ) G
  pointer_in t z p b o k =
      looks t z RawPtr (plain_Copied 𝓛 Ptr coded_ptr (ty_ptr ∷ []) ptr_own rawptr_pure ptr_val RawPtr-laws.tells).opens p b o (λ part vs. move t (1 ∷ []) $ feq_l t (λ e.
      rewrite t 0 (λ (us : List Val). ‵ (cell_at part RawPtr.mir us b o)) e refl $ move t (2 ∷ []) $ drop t $ k part))

  pub pointer_out : K → Soaks G → {κ : Lft} {q part : Share} (p : Ptr) (b o : ℕ)
      → Step K 𝓛 (‵ (flft κ q) ∷ Γ) G (‵ (fat part ty_ptr b o (ptr_val p)) ∷ Shut 𝓛 κ q (part_at RawPtr part p b o) ∷ Γ) G
  pointer_out t z {part = part} p b o = step (λ s.
      feq_i t (List Val) (ptr_val p ∷ []) (ptr_val p ∷ []) refl $ move t (1 ∷ 0 ∷ []) $ shuts t z RawPtr part p (ptr_val p ∷ []) b o $ s)

  -- a loose node is [its link; the handle]
  pub loose_had : K → (d : Loose) (vs : List Val)
      → ((hv : Val) → vs ≡ loose_val d.at hv ∷ [] → Whole heap hv → Seq K 𝓛 (‵ (link_owns (d.at, d.node)) ∷ ‵ (Heap.the_row.own_val d.alloc (hv ∷ [])) ∷ Γ) G) → Seq K 𝓛 (‵ (Lo.the_row.own_val d vs) ∷ Γ) G
  loose_had t d vs k =
      fsplit t $ fpick t (λ vss. fsplit t $ feq_l t (λ all. fsplit t $ feq_l t (λ e. fsplit t $ handle_tells heap t d.alloc vss.1.0 (λ hv f fa. move t (1 ∷ []) $ drop t $ move t (1 ∷ []) $
      k hv (all ∙ (λ i. vstruct (of_list (e i ++ (f i ++ []))) ∷ [])) fa))))

  pub loose_made : K → {hv : Val} (d : Loose) → Step K 𝓛 (‵ (Lo.the_row.own_val d (loose_val d.at hv ∷ [])) ∷ Γ) G (‵ (link_owns (d.at, d.node)) ∷ ‵ (Heap.the_row.own_val d.alloc (hv ∷ [])) ∷ Γ) G
  loose_made t {hv} d = step (λ s.
      let v = loose_val d.at hv in
      nothing t $ move t (2 ∷ 0 ∷ []) $ fjoin t $ feq_i t (List Val) (ptr_val d.at ∷ []) (ptr_val d.at ∷ []) refl $ fjoin t $ feq_i t (List Val) (v ∷ []) (v ∷ []) refl $ fjoin t $
      fpack t (Valss (shape Lo.the_type).fields) (within (shape Lo.the_type) (to Lo.the_type d) (v ∷ [])) (ptr_val d.at ∷ [], (hv ∷ [], tt)) $ fjoin t $ s)

  -- what a `&` to it shows: the node, and the pointer
  pub loose_shown : K → {κ : Lft} (d : Loose) (b o : ℕ)
      → ((nb no : ℕ) → d.at ≡ block_ptr nb no → Seq K 𝓛 (‵ (hidden_shr RawPtr κ d.at b (o + 0)) ∷ ‵ (hidden_shr N.the_row κ d.node nb no) ∷ Γ) G) → Seq K 𝓛 (‵ (hidden_shr Lo.the_row κ d b o) ∷ Γ) G
  loose_shown t {κ} d b o k =
      unhide t $ fsplit t $ move t (1 ∷ []) $
      in_a_block t d.at (λ r. lent_at N.the_row r d.node κ) (fst∗ 𝓤 (never 𝓤) (sem 𝓛 (shared_of N.the_row d.node 0 0 κ))) (λ nb no at. fsplit t $ drop t $ hide t $
      move t (1 ∷ []) $ fsplit t $ move t (1 ∷ []) $ drop t $ fsplit t $ move t (1 ∷ []) $ drop t $ hide t $ k nb no at)
