-- Packets with their fates, step by step from the end of what is told back to its beginning.
use Rattle.std.proofs.Common.{◌≡◌, Bool, true, false, cond, List, [], ◌∷◌, ◌++◌, map, refl, sym, ap, ◌∙◌, append_assoc}
use Rattle.std.specs.Prelude.{not, filter}
use Rattle.std.specs.List.{AllByRecursion}
use Rattle.std.proofs.lemmas.List.{append-nil, map-append}
use Rattle.std.proofs.lemmas.List.Elements.{filter-append}
use Rattle.packet_chain.specs.declared.packet.Packet.{Packet}
use Rattle.port.specs.Fates.{Fate, has_entered}

abbrev pub packet_in : Packet × Fate → Packet
packet_in f = f.0

abbrev pub was_refused : Packet × Fate → Bool
was_refused f = not (has_entered f)

abbrev pub AllEntered : List (Packet × Fate) → Type 0
AllEntered = AllByRecursion (λ f. has_entered f ≡ true)

-- those that waited at first and those that were offered, each list with its fates; of the first all have entered
pub record IsTale (waiting offered : List Packet) (reported : List (Packet × Fate)) : Type 0 where
  pub firsts : List (Packet × Fate)
  pub others : List (Packet × Fate)
  pub waited : map packet_in firsts ≡ waiting
  pub came : map packet_in others ≡ offered
  pub in_before : AllEntered firsts
  pub refused : filter was_refused others ≡ filter was_refused reported
  pub entered : firsts ++ filter has_entered others ≡ filter has_entered reported

pub all_kept : (fs : List (Packet × Fate)) → AllEntered fs → filter has_entered fs ≡ fs
all_kept [] all = refl
all_kept (f ∷ fs) all = ap (λ b. cond b (f ∷ filter has_entered fs) (filter has_entered fs)) all.0 ∙ ap (λ gs. f ∷ gs) (all_kept fs all.1)

pub none_refused : (fs : List (Packet × Fate)) → AllEntered fs → filter was_refused fs ≡ []
none_refused [] all = refl
none_refused (f ∷ fs) all = ap (λ b. cond (not b) (f ∷ filter was_refused fs) (filter was_refused fs)) all.0 ∙ none_refused fs all.1

both_entered : (fs gs : List (Packet × Fate)) → AllEntered fs → AllEntered gs → AllEntered (fs ++ gs)
both_entered [] gs a b = b
both_entered (f ∷ fs) gs a b = (a.0, both_entered fs gs a.1 b)

-- nothing is done any more: those that wait are those that waited
pub ends : (fs : List (Packet × Fate)) → AllEntered fs → IsTale (map packet_in fs) [] fs
ends fs all = record {
  firsts = fs;
  others = [];
  waited = refl;
  came = refl;
  in_before = all;
  refused = sym (none_refused fs all);
  entered = append-nil fs ∙ sym (all_kept fs all);
}

-- a packet is offered and refused
pub refusal : (f : Packet × Fate) (waiting offered : List Packet) (reported : List (Packet × Fate)) → has_entered f ≡ false → IsTale waiting offered reported → IsTale waiting (f.0 ∷ offered) (f ∷ reported)
refusal f waiting offered reported out tale = record {
  firsts = tale.firsts;
  others = f ∷ tale.others;
  waited = tale.waited;
  came = ap (λ ps. f.0 ∷ ps) tale.came;
  in_before = tale.in_before;
  refused = ap (λ b. cond (not b) (f ∷ filter was_refused tale.others) (filter was_refused tale.others)) out ∙ ap (λ fs. f ∷ fs) tale.refused ∙ sym (ap (λ b. cond (not b) (f ∷ filter was_refused reported) (filter was_refused reported)) out);
  entered = ap (λ b. tale.firsts ++ cond b (f ∷ filter has_entered tale.others) (filter has_entered tale.others)) out ∙ tale.entered ∙ sym (ap (λ b. cond b (f ∷ filter has_entered reported) (filter has_entered reported)) out);
}

-- some that waited leave
pub leave : (fs : List (Packet × Fate)) (waiting offered : List Packet) (reported : List (Packet × Fate)) → AllEntered fs → IsTale waiting offered reported → IsTale (map packet_in fs ++ waiting) offered (fs ++ reported)
leave fs waiting offered reported all tale = record {
  firsts = fs ++ tale.firsts;
  others = tale.others;
  waited = map-append packet_in fs tale.firsts ∙ ap (λ ps. map packet_in fs ++ ps) tale.waited;
  came = tale.came;
  in_before = both_entered fs tale.firsts all tale.in_before;
  refused = tale.refused ∙ sym (filter-append was_refused fs reported ∙ ap (λ gs. gs ++ filter was_refused reported) (none_refused fs all));
  entered = append_assoc fs tale.firsts (filter has_entered tale.others) ∙ ap (λ gs. fs ++ gs) tale.entered ∙ sym (filter-append has_entered fs reported ∙ ap (λ gs. gs ++ filter has_entered reported) (all_kept fs all));
}

-- the last of a list
record IsSplit (fs : List (Packet × Fate)) (waiting : List Packet) (packet : Packet) : Type 0 where
  pub front : List (Packet × Fate)
  pub last : Packet × Fate
  pub whole : fs ≡ front ++ last ∷ []
  pub before : map packet_in front ≡ waiting
  pub at_end : last.0 ≡ packet
  pub front_in : AllEntered front
  pub last_in : has_entered last ≡ true

not_empty : (waiting : List Packet) (packet : Packet) → [] ≡ waiting ++ packet ∷ [] → ⊥
not_empty [] packet e = cc
not_empty (w ∷ ws) packet e = cc

split : (fs : List (Packet × Fate)) (waiting : List Packet) (packet : Packet) → map packet_in fs ≡ waiting ++ packet ∷ [] → AllEntered fs → IsSplit fs waiting packet
split [] waiting packet e all = absurd (not_empty waiting packet e)
split (f ∷ []) [] packet e all = record { front = []; last = f; whole = refl; before = refl; at_end = cc; front_in = tt; last_in = all.0 }
split (f ∷ g ∷ fs) [] packet e all = absurd (cc)
split (f ∷ fs) (w ∷ waiting) packet e all =
    let rest = split fs waiting packet (cc) all.1 in
    let first : f.0 ≡ w = cc in
    record {
      front = f ∷ rest.front;
      last = rest.last;
      whole = ap (λ gs. f ∷ gs) rest.whole;
      before = cc (rest.before, first);
      at_end = rest.at_end;
      front_in = (all.0, rest.front_in);
      last_in = rest.last_in;
    }

-- a packet is offered and enters
pub enters : (packet : Packet) (waiting offered : List Packet) (reported : List (Packet × Fate)) → IsTale (waiting ++ packet ∷ []) offered reported → IsTale waiting (packet ∷ offered) reported
enters packet waiting offered reported tale =
    let s = split tale.firsts waiting packet tale.waited tale.in_before in
    record {
      firsts = s.front;
      others = s.last ∷ tale.others;
      waited = s.before;
      came = ap (λ p. p ∷ map packet_in tale.others) s.at_end ∙ ap (λ ps. packet ∷ ps) tale.came;
      in_before = s.front_in;
      refused = ap (λ b. cond (not b) (s.last ∷ filter was_refused tale.others) (filter was_refused tale.others)) s.last_in ∙ tale.refused;
      entered =
          ap (λ b. s.front ++ cond b (s.last ∷ filter has_entered tale.others) (filter has_entered tale.others)) s.last_in
          ∙ sym (append_assoc s.front (s.last ∷ []) (filter has_entered tale.others))
          ∙ ap (λ fs. fs ++ filter has_entered tale.others) (sym s.whole)
          ∙ tale.entered;
    }
