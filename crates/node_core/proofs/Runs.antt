-- Runs of segments, and an event queue whose event has left.
use Rattle.std.proofs.Common.{◌≡◌, ℕ, zero, suc, ◌+◌, ◌-◌, ◌*◌, ◌<◌, ◌≤◌, ◌==◌, cond, true, false, List, [], ◌∷◌, ◌++◌, set, map, length, Option, Some, None, refl, sym, ap, subst, ◌∙◌, arith, append_assoc, append-nil, length-append}
use Rattle.std.specs.Prelude.{option_to_list}
use Rattle.std.proofs.Math.Nat.{suc-mul, mul-le-mul_right}
use Rattle.std.proofs.lemmas.List.{length-map, length-set, map-append}
use Rattle.packet_chain.specs.Stamped.{Stamped}
use Rattle.packet_chain.specs.declared.packet.Packet.{Packet}
use Rattle.sim_time.specs.declared.key.Key.{Key}
use Rattle.reno_sender.specs.Fields.{IsSound, total}
use Rattle.reno_sender.specs.Sending.{spaced}
use Rattle.reno_sender.specs.PlanView.{PlanView, IsWellMade, sent_of}
use Rattle.reno_sender.specs.declared.fields.SenderFields.{SenderFields}
use Rattle.node_core.specs.Links.{packets_of}
use Rattle.node_core.specs.Row.{data_packet}
use Rattle.node_core.specs.EventQueueState.{cleared}

-- the next number of a run stays below what the last one's end stays below
pub number_fits : (first step done count bound : ℕ) → done < count → first + (count - done) * step < bound → first + step + (count - (done + 1)) * step < bound
number_fits first step done count bound within h =
    let e : count - done ≡ suc (count - (done + 1)) = omega arith in
    let g : first + suc (count - (done + 1)) * step < bound = subst (λ k. first + k * step < bound) e h in
    omega (arith, suc-mul (count - (done + 1)) step, g)

-- one more cell of a run is at the end
pub one_made : (f : ℕ → Packet) (cells : List Stamped) (cell : Stamped) (first step done count : ℕ) → done < count → cell.0 ≡ f first
    → packets_of (cells ++ cell ∷ []) ++ map f (spaced (first + step) step (count - (done + 1))) ≡ packets_of cells ++ map f (spaced first step (count - done))
one_made f cells cell first step done count within made =
    let e : count - done ≡ suc (count - (done + 1)) = omega arith in
    ap (λ ps. ps ++ map f (spaced (first + step) step (count - (done + 1)))) (map-append (λ (c : Stamped). c.0) cells (cell ∷ []))
    ∙ append_assoc (packets_of cells) (cell.0 ∷ []) (map f (spaced (first + step) step (count - (done + 1))))
    ∙ ap (λ p. packets_of cells ++ p ∷ map f (spaced (first + step) step (count - (done + 1)))) made
    ∙ ap (λ n. packets_of cells ++ map f (spaced first step n)) (sym e)

length_spaced : (first step count : ℕ) → length (spaced first step count) ≡ count
length_spaced first step zero = refl
length_spaced first step (suc n) = omega (arith, length_spaced (first + step) step n)

pub few_run : (f : ℕ → Packet) (first step count : ℕ) → length (map f (spaced first step count)) ≡ count
few_run f first step count = length-map (spaced first step count) f ∙ length_spaced first step count

-- the bytes of a flow
pub flow_fits : (f : SenderFields) → IsSound f → total f ≤ 9000000000000
flow_fits f s = let most = mul-le-mul_right {m = f.segments} {n = 1000000000} f.mss s.segments_most in omega (arith, most, s.mss_most)

one_at_most : (resent : Option ℕ) → length (option_to_list resent) ≤ 1
one_at_most None = omega arith
one_at_most (Some x) = omega arith

pub length_cleared : (key : Key) (timers : List (Option ℕ)) → length (cleared key timers) ≡ length timers
length_cleared key timers = elim (key.source == 0) as (λ b. length (cond b (set timers key.number None) timers) ≡ length timers) [ true ↦ length-set timers key.number None | false ↦ refl ]

run_ends : (first step n : ℕ) → spaced first step (suc n) ≡ spaced first step n ++ (first + n * step) ∷ []
run_ends first step zero = ap (λ x. x ∷ []) {x = first} {y = first + 0 * step} (omega arith)
run_ends first step (suc n) =
    let e : first + step + n * step ≡ first + suc n * step = omega (arith, suc-mul n step) in
    ap (λ ps. first ∷ ps) (run_ends (first + step) step n ∙ ap (λ x. spaced (first + step) step n ++ x ∷ []) e)

-- the last number of a run
spaced_last : (first step count : ℕ) → 0 < count → spaced first step count ≡ spaced first step (count - 1) ++ (first + (count - 1) * step) ∷ []
spaced_last first step zero some = absurd (omega (arith, some))
spaced_last first step (suc n) some = run_ends first step n ∙ ap (λ k. spaced first step k ++ (first + k * step) ∷ []) {x = n} {y = suc n - 1} (omega arith)

-- a run, the last beside its cells
pub run_last : (f : ℕ → Packet) (cells : List Stamped) (last : Packet) (first step count : ℕ) → 0 < count → packets_of cells ≡ map f (spaced first step (count - 1)) → last ≡ f (first + (count - 1) * step)
    → packets_of cells ++ last ∷ [] ≡ map f (spaced first step count)
run_last f cells last first step count some cells_are last_is =
    let run = spaced first step (count - 1) in
    let number = first + (count - 1) * step in
    ap (λ ps. ps ++ last ∷ []) cells_are ∙ ap (λ x. map f run ++ x ∷ []) last_is ∙ sym (map-append f run (number ∷ [])) ∙ ap (map f) (sym (spaced_last first step count some))

-- a plan's segments, the last beside its cells
pub all_but_last : (f : ℕ → Packet) (p : PlanView) (cells : List Stamped) (last : Packet) → 0 < p.count → packets_of cells ≡ map f (option_to_list p.resent ++ spaced p.first p.fields.mss (p.count - 1)) → last ≡ f (p.first + (p.count - 1) * p.fields.mss)
    → packets_of cells ++ last ∷ [] ≡ map f (sent_of p)
all_but_last f p cells last some cells_are last_is =
    let again = option_to_list p.resent in
    let run = spaced p.first p.fields.mss (p.count - 1) in
    let number = p.first + (p.count - 1) * p.fields.mss in
    ap (λ ps. ps ++ last ∷ []) cells_are ∙ ap (λ x. map f (again ++ run) ++ x ∷ []) last_is ∙ sym (map-append f (again ++ run) (number ∷ []))
    ∙ ap (map f) (append_assoc again run (number ∷ [])) ∙ ap (λ ns. map f (again ++ ns)) (sym (spaced_last p.first p.fields.mss p.count some))

-- a plan that has no run
pub none_but_again : (f : ℕ → Packet) (p : PlanView) (again : List Packet) → p.count ≡ 0 → again ≡ map f (option_to_list p.resent) → again ≡ map f (sent_of p)
none_but_again f p again none is = is ∙ ap (map f) (sym (append-nil (option_to_list p.resent))) ∙ ap (λ n. map f (option_to_list p.resent ++ spaced p.first p.fields.mss n)) (sym none)

-- how many packets a plan has
pub few_sent : (f : ℕ → Packet) (p : PlanView) → length (map f (sent_of p)) ≤ p.count + 1
few_sent f p =
    let run = spaced p.first p.fields.mss p.count in
    omega (arith, length-map (sent_of p) f, length-append (option_to_list p.resent) run, length_spaced p.first p.fields.mss p.count, one_at_most p.resent)

-- cells are no more than all packets
pub few_in_cells : (cells : List Stamped) (last : Option Packet) (packets : List Packet) → packets_of cells ++ option_to_list last ≡ packets → length cells ≤ length packets
few_in_cells cells last packets e =
    let same : length (packets_of cells ++ option_to_list last) ≡ length packets = ap length e in
    omega (arith, same, length-append (packets_of cells) (option_to_list last), length-map cells (λ (c : Stamped). c.0))

-- a run of a plan, as its fields are read
pub read_run : (flow : ℕ) (p : PlanView) (fields : SenderFields) (resent : Option ℕ) (first count : ℕ) (less : ℕ → ℕ) → fields ≡ p.fields → resent ≡ p.resent → first ≡ p.first → count ≡ p.count
    → map (data_packet flow fields.mss) (option_to_list resent ++ spaced first fields.mss (less count)) ≡ map (data_packet flow p.fields.mss) (option_to_list p.resent ++ spaced p.first p.fields.mss (less p.count))
read_run flow p fields resent first count less fields_are resent_is first_is count_is =
    ap (λ (f : SenderFields). map (data_packet flow f.mss) (option_to_list resent ++ spaced first f.mss (less count))) fields_are
    ∙ ap (λ r. map (data_packet flow p.fields.mss) (option_to_list r ++ spaced first p.fields.mss (less count))) resent_is
    ∙ ap (λ n. map (data_packet flow p.fields.mss) (option_to_list p.resent ++ spaced n p.fields.mss (less count))) first_is
    ∙ ap (λ n. map (data_packet flow p.fields.mss) (option_to_list p.resent ++ spaced p.first p.fields.mss (less n))) count_is

-- a plan's run ends within the greatest flow
pub run_most : (p : PlanView) → IsWellMade p → p.first + p.count * p.fields.mss ≤ 9000000000000
run_most p is =
    let most : p.fields.segments * p.fields.mss ≤ 1000000000 * p.fields.mss = mul-le-mul_right {m = p.fields.segments} {n = 1000000000} p.fields.mss is.sound.segments_most in
    omega (arith, most, is.run_ends, is.sound.nxt_high, is.sound.high_total, is.sound.mss_most)

but_last_most : (p : PlanView) → IsWellMade p → 0 < p.count → p.first + (p.count - 1) * p.fields.mss ≤ 9000000000000
but_last_most p is some =
    let one : p.count ≡ suc (p.count - 1) = omega (arith, some) in
    let all : p.first + suc (p.count - 1) * p.fields.mss ≤ 9000000000000 = subst (λ n. p.first + n * p.fields.mss ≤ 9000000000000) one (run_most p is) in
    omega (arith, all, suc-mul (p.count - 1) p.fields.mss)

-- and so does the run but its last segment, as its fields are read
pub read_most : (p : PlanView) → IsWellMade p → (mss first count : ℕ) → mss ≡ p.fields.mss → first ≡ p.first → count ≡ p.count → 0 < count → first + (count - 1) * mss ≤ 9000000000000
read_most p is mss first count mss_is first_is count_is some =
    subst (λ m. first + (count - 1) * m ≤ 9000000000000) (sym mss_is)
    (subst (λ x. x + (count - 1) * p.fields.mss ≤ 9000000000000) (sym first_is)
    (subst (λ n. p.first + (n - 1) * p.fields.mss ≤ 9000000000000) (sym count_is) (but_last_most p is (subst (λ n. 0 < n) count_is some))))

-- the whole run ends there too, as its fields are read
pub read_all : (p : PlanView) → IsWellMade p → (mss first count : ℕ) → mss ≡ p.fields.mss → first ≡ p.first → count ≡ p.count → first + count * mss ≤ 9000000000000
read_all p is mss first count mss_is first_is count_is =
    subst (λ m. first + count * m ≤ 9000000000000) (sym mss_is)
    (subst (λ x. x + count * p.fields.mss ≤ 9000000000000) (sym first_is) (subst (λ n. p.first + n * p.fields.mss ≤ 9000000000000) (sym count_is) (run_most p is)))
