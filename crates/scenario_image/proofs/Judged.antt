-- What bytes are refused for, and what they are not.
use Rattle.std.proofs.Common.{◌≡◌, ◌≢◌, ℕ, ◌+◌, ◌≤◌, List, [], ◌∷◌, ◌++◌, length, take, get_or, All, ◌⊎◌, true, false, eqb, cond, Some, None, Result, Ok, Err, arith, refl, ap, sym, ◌∙◌, subst, inl, inr}
use Rattle.std.proofs.lemmas.List.{append-nil, length-append, nil_from_length, get_or-take}
use Rattle.std.proofs.lemmas.List.Elements.{All-from_recursion}
use Rattle.std.proofs.lemmas.Option.{none-some, some_pair_parts}
use Rattle.std.proofs.lemmas.Bool.{eq-eqb}
use Rattle.std.specs.Prelude.{IfOk, IfErr, IsOk, IsErrOf}
use Rattle.scenario_image.specs.Limits.{IsInLimits}
use Rattle.scenario_image.specs.Scenario.{IsScenario}
use Rattle.scenario_image.specs.Fault.{IsFreeOf, IsFirstNotFree, IsFirstFault}
use Rattle.scenario_image.specs.Image.{magic, image, MayStandIn, IsImage}
use Rattle.scenario_image.specs.Layout.{version_of, layout_size}
use Rattle.scenario_image.specs.Reading.{Fails, parts_at}
use Rattle.scenario_image.specs.ImageFault.{HasMagic, HaveNumbersInLimits, ArePartsFreeOf, AreBytesFreeOf, HasOneSecondImage, IsFirstByteFault, judged_byte_faults}
use Rattle.scenario_image.specs.declared.fault.LoadFault.{LoadFault}
use Rattle.scenario_image.specs.declared.fault.LoadFault.TheVariants.{L1, L2, L3, L4, L5, L6, L7, L8, NoMemory}
use Rattle.scenario_image.specs.declared.parts.ScenarioParts.{ScenarioParts}
use Rattle.scenario_image.specs.declared.version.Version.{Version}
use Rattle.scenario_image.specs.declared.version.Version.TheVariants.{One, Two}
use Rattle.scenario_image.proofs.FirstFault.{one_not_free}
use Rattle.scenario_image.proofs.Numbers.{IsBytes}
use Rattle.scenario_image.proofs.Takes.{PartsTaken, parts_take}
use Rattle.scenario_image.proofs.Again.{parts_again, parts_sized}

-- parts within limits that bytes begin with are those that are read
pub parts_read : (version : Version) (bytes : List ℕ) (read : ScenarioParts × List ℕ) (parts : ScenarioParts) (rest : List ℕ) → parts_at bytes ≡ Some read → IsInLimits parts → All (MayStandIn version) parts.flows → bytes ≡ image version parts ++ rest
    → (parts ≡ read.0) × (rest ≡ read.1)
parts_read version bytes read parts rest at limits stand spelled = some_pair_parts parts read.0 rest read.1 (sym (parts_again version parts rest limits stand) ∙ ap parts_at (sym spelled) ∙ at)

-- an image, and nothing behind it
followed : (bytes : List ℕ) (parts : ScenarioParts) → (is : IsImage bytes parts) → bytes ≡ image is.version parts ++ []
followed bytes parts is = is.spelled ∙ sym (append-nil (image is.version parts))

image_read : (bytes : List ℕ) (parts : ScenarioParts) → IsInLimits parts → IsImage bytes parts → parts_at bytes ≡ Some (parts, [])
image_read bytes parts limits is = ap parts_at (followed bytes parts is) ∙ parts_again is.version parts [] limits is.each_flow

-- bytes are an image of one scenario
pub one_scenario : (bytes : List ℕ) (a b : ScenarioParts) → IsInLimits a → IsInLimits b → IsImage bytes a → IsImage bytes b → a ≡ b
one_scenario bytes a b limits_a limits_b of_a of_b = (parts_read of_a.version bytes (b, []) a [] (image_read bytes b limits_b of_b) limits_a of_a.each_flow (followed bytes a of_a)).0

-- nothing is read: no parts within limits are there
pub not_read : (bytes : List ℕ) → parts_at bytes ≡ None → ¬ HaveNumbersInLimits bytes
not_read bytes nothing have = absurd (none-some (have.parts, have.rest) (sym nothing ∙ ap parts_at have.spelled ∙ parts_again have.version have.parts have.rest have.in_limits have.each_flow))

-- what is read is not within limits
pub not_in_limits : (bytes : List ℕ) (read : ScenarioParts × List ℕ) → parts_at bytes ≡ Some read → ¬ IsInLimits read.0 → ¬ HaveNumbersInLimits bytes
not_in_limits bytes read at not have = not (subst IsInLimits (parts_read have.version bytes read have.parts have.rest at have.in_limits have.each_flow have.spelled).0 have.in_limits)

-- bytes that begin with parts within limits
pub record Begins (bytes : List ℕ) (read : ScenarioParts × List ℕ) : Type 0 where
  pub at : parts_at bytes ≡ Some read
  pub enough : layout_size bytes ≤ length bytes
  pub start : HasMagic bytes
  pub limits : IsInLimits read.0
  pub version : Version
  pub taken : PartsTaken version bytes read

-- the fourth byte of a magic tells the version
fourth : (bytes first : List ℕ) → take 4 bytes ≡ first → get_or bytes 3 0 ≡ get_or first 3 0
fourth bytes first start = sym (get_or-take 4 bytes 3 0 (omega arith)) ∙ ap (λ xs. get_or xs 3 0) start

judged_as : (version : Version) (bytes : List ℕ) → take 4 bytes ≡ magic version → version_of bytes ≡ version
judged_as One bytes start = ap (λ n. cond (eqb n 50) Two One) (fourth bytes (magic One) start)
judged_as Two bytes start = ap (λ n. cond (eqb n 50) Two One) (fourth bytes (magic Two) start)

begins_as : (version : Version) (bytes : List ℕ) (read : ScenarioParts × List ℕ) → IsBytes bytes → parts_at bytes ≡ Some read → layout_size bytes ≤ length bytes → HasMagic bytes → take 4 bytes ≡ magic version → IsInLimits read.0 → Begins bytes read
begins_as version bytes read fits at enough has_magic start limits = record {
  at = at;
  enough = enough;
  start = has_magic;
  limits = limits;
  version = version;
  taken = parts_take version bytes read fits enough (judged_as version bytes start) start at;
}

pub begins : (bytes : List ℕ) (read : ScenarioParts × List ℕ) → IsBytes bytes → parts_at bytes ≡ Some read → layout_size bytes ≤ length bytes → HasMagic bytes → IsInLimits read.0 → Begins bytes read
begins bytes read fits at enough (inl start) limits = begins_as One bytes read fits at enough (inl start) start limits
begins bytes read fits at enough (inr start) limits = begins_as Two bytes read fits at enough (inr start) start limits

each_flow : (bytes : List ℕ) (read : ScenarioParts × List ℕ) → (is : Begins bytes read) → All (MayStandIn is.version) read.0.flows
each_flow bytes read is = All-from_recursion (MayStandIn is.version) read.0.flows is.taken.stand

-- the layout's bytes and the rest
counted : (bytes : List ℕ) (read : ScenarioParts × List ℕ) → Begins bytes read → length bytes ≡ layout_size bytes + length read.1
counted bytes read is =
    let size : layout_size bytes ≡ length (image is.version read.0) = ap layout_size is.taken.spelled ∙ parts_sized is.version read.0 read.1 is.limits (each_flow bytes read is) in
    omega (arith, ap length is.taken.spelled, length-append (image is.version read.0) read.1, size)

have_numbers : (bytes : List ℕ) (read : ScenarioParts × List ℕ) → Begins bytes read → HaveNumbersInLimits bytes
have_numbers bytes read is = record { version = is.version; parts = read.0; rest = read.1; in_limits = is.limits; each_flow = each_flow bytes read is; spelled = is.taken.spelled }

-- bytes that are left over are a fault
pub left_over : (bytes : List ℕ) (read : ScenarioParts × List ℕ) → Begins bytes read → length read.1 ≢ 0 → IsFirstByteFault bytes L4
left_over bytes read is some_left = inr (is.enough, inr (is.start, inr (have_numbers bytes read is, inl (refl, λ none. some_left (omega (arith, none, counted bytes read is))))))

-- with none left over the bytes are an image
pub whole : (bytes : List ℕ) (read : ScenarioParts × List ℕ) → Begins bytes read → length read.1 ≡ 0 → IsImage bytes read.0
whole bytes read is none = record {
  version = is.version;
  each_flow = each_flow bytes read is;
  spelled = is.taken.spelled ∙ ap (λ (xs : List ℕ). image is.version read.0 ++ xs) (nil_from_length read.1 none) ∙ append-nil (image is.version read.0);
}

-- what the parts of an image are free of, and what not
parts_free : (bytes : List ℕ) (parts : ScenarioParts) (fault : LoadFault) → IsInLimits parts → IsImage bytes parts → IsFreeOf parts fault → ArePartsFreeOf bytes fault
parts_free bytes parts fault limits is free other other_limits other_is = subst (λ p. IsFreeOf p fault) (one_scenario bytes parts other limits other_limits is other_is) free

-- a fault of the parts beyond their limits is a fault of their image
later_fault : (bytes : List ℕ) (parts : ScenarioParts) (fault : LoadFault) → IsInLimits parts → IsImage bytes parts → IsFirstNotFree (IsFreeOf parts) (L5 ∷ L6 ∷ L7 ∷ L8 ∷ []) fault
    → IsFirstNotFree (AreBytesFreeOf bytes) (L5 ∷ L6 ∷ L7 ∷ L8 ∷ []) fault
later_fault bytes parts fault limits is (inl (here, not)) = inl (here, λ are. not (are parts limits is))
later_fault bytes parts fault limits is (inr (five, inl (here, not))) = inr (parts_free bytes parts L5 limits is five, inl (here, λ are. not (are parts limits is)))
later_fault bytes parts fault limits is (inr (five, inr (six, inl (here, not)))) =
    inr (parts_free bytes parts L5 limits is five, inr (parts_free bytes parts L6 limits is six, inl (here, λ are. not (are parts limits is))))
later_fault bytes parts fault limits is (inr (five, inr (six, inr (seven, inl (here, not))))) =
    inr (parts_free bytes parts L5 limits is five, inr (parts_free bytes parts L6 limits is six, inr (parts_free bytes parts L7 limits is seven, inl (here, λ are. not (are parts limits is)))))
later_fault bytes parts fault limits is (inr (five, inr (six, inr (seven, inr (eight, never))))) = absurd never

pub parts_fault : (bytes : List ℕ) (read : ScenarioParts × List ℕ) (fault : LoadFault) → Begins bytes read → length read.1 ≡ 0 → IsFirstFault read.0 fault → IsFirstByteFault bytes fault
parts_fault bytes read fault is none (inl (here, not)) = absurd (not is.limits)
parts_fault bytes read fault is none (inr (limits, later)) =
    inr (is.enough, inr (is.start, inr (have_numbers bytes read is, inr (omega (arith, none, counted bytes read is), later_fault bytes read.0 fault is.limits (whole bytes read is none) later))))

-- an image begins as one
image_start : (version : Version) (bytes : List ℕ) (parts : ScenarioParts) → bytes ≡ image version parts → HasMagic bytes
image_start One bytes parts is = inl (ap (take 4) is)
image_start Two bytes parts is = inr (ap (take 4) is)

-- an image has no fault
pub no_byte_fault : (bytes : List ℕ) (parts : ScenarioParts) (fault : LoadFault) → IsScenario parts → IsImage bytes parts → ¬ IsFirstByteFault bytes fault
no_byte_fault bytes parts fault scenario is first = none first
  where
    limits : IsInLimits parts
    limits = scenario.in_limits

    size : layout_size bytes ≡ length bytes
    size = ap layout_size (followed bytes parts is) ∙ parts_sized is.version parts [] limits is.each_flow ∙ ap length (sym is.spelled)

    free : (fault : LoadFault) → IsFreeOf parts fault → ArePartsFreeOf bytes fault
    free fault fine = parts_free bytes parts fault limits is fine

    none : ¬ IsFirstByteFault bytes fault
    none (inl (_, not)) = not (omega (arith, size))
    none (inr (_, inl (_, not))) = not (image_start is.version bytes parts is.spelled)
    none (inr (_, inr (_, inl (_, not)))) = not (record { version = is.version; parts = parts; rest = []; in_limits = limits; each_flow = is.each_flow; spelled = followed bytes parts is })
    none (inr (_, inr (_, inr (_, inl (_, not))))) = not (omega (arith, size))
    none (inr (_, inr (_, inr (_, inr (_, inl (_, not)))))) = not (free L5 scenario.ends)
    none (inr (_, inr (_, inr (_, inr (_, inr (_, inl (_, not))))))) = not (free L6 scenario.kinds)
    none (inr (_, inr (_, inr (_, inr (_, inr (_, inr (_, inl (_, not)))))))) = not (free L7 scenario.unbroken)
    none (inr (_, inr (_, inr (_, inr (_, inr (_, inr (_, inr (_, inl (_, not))))))))) = not (free L8 scenario.simple)
    none (inr (_, inr (_, inr (_, inr (_, inr (_, inr (_, inr (_, inr (_, never))))))))) = never

-- a scenario has one image of version 2
second_image : (version : Version) (bytes : List ℕ) (parts : ScenarioParts) → take 4 bytes ≡ magic Two → bytes ≡ image version parts → bytes ≡ image Two parts
second_image One bytes parts start is = let same : 49 ≡ 50 = ap (λ xs. get_or xs 3 0) (sym (ap (take 4) is) ∙ start) in absurd (omega (arith, same))
second_image Two bytes parts start is = is

pub one_second_image : (parts : ScenarioParts) → HasOneSecondImage parts
one_second_image parts = (record { version = Two; each_flow = λ k d below. tt; spelled = refl }, λ bytes start is. second_image is.version bytes parts start is.spelled)

-- ---- the answers of the function that judges

-- what is read fails for want of memory, or since no parts within limits are there
pub read_fault : (bytes : List ℕ) (fault : LoadFault) → layout_size bytes ≤ length bytes → HasMagic bytes → Fails fault (parts_at bytes) → (fault ≡ NoMemory) ⊎ IsFirstByteFault bytes fault
read_fault bytes L1 enough start fails = absurd fails
read_fault bytes L2 enough start fails = absurd fails
read_fault bytes L3 enough start fails = inr (inr (enough, inr (start, inl (refl, not_read bytes fails))))
read_fault bytes L4 enough start fails = absurd fails
read_fault bytes L5 enough start fails = absurd fails
read_fault bytes L6 enough start fails = absurd fails
read_fault bytes L7 enough start fails = absurd fails
read_fault bytes L8 enough start fails = absurd fails
read_fault bytes NoMemory enough start fails = inl refl

pub some_left : (n : ℕ) → eqb n 0 ≡ false → n ≢ 0
some_left n is none = let same : eqb n 0 ≡ true = eq-eqb n 0 none in let never : true ≡ false = sym same ∙ is in cc

pub loaded_image : (bytes : List ℕ) (parts : ScenarioParts) (r : Result ScenarioParts LoadFault) → IsImage bytes parts → IfOk r (λ scenario. scenario ≡ parts) → IfOk r (IsImage bytes)
loaded_image bytes parts (Ok scenario) is same = subst (IsImage bytes) (sym same) is
loaded_image bytes parts (Err fault) is same = tt

pub loaded_scenario : (parts : ScenarioParts) (r : Result ScenarioParts LoadFault) → IfOk r (λ scenario. scenario ≡ parts) → (IsOk r → IsScenario parts) → IfOk r IsScenario
loaded_scenario parts (Ok scenario) same right = subst IsScenario (sym same) (right refl)
loaded_scenario parts (Err fault) same right = tt

pub loaded_fault : (bytes : List ℕ) (read : ScenarioParts × List ℕ) (r : Result ScenarioParts LoadFault) → Begins bytes read → length read.1 ≡ 0 → IfErr r (IsFirstFault read.0) → IfErr r (λ fault. (fault ≡ NoMemory) ⊎ IsFirstByteFault bytes fault)
loaded_fault bytes read (Ok scenario) is none first = tt
loaded_fault bytes read (Err fault) is none first = inr (parts_fault bytes read fault is none first)

-- the scenario that the bytes are an image of is what is loaded
pub loaded_only : (bytes : List ℕ) (r : Result ScenarioParts LoadFault) → IfOk r (IsImage bytes) → IfOk r IsScenario → IfErr r (λ fault. (fault ≡ NoMemory) ⊎ IsFirstByteFault bytes fault)
    → (parts : ScenarioParts) → IsScenario parts → IsImage bytes parts → IfOk r (λ scenario. scenario ≡ parts) × IfErr r (λ fault. fault ≡ NoMemory)
loaded_only bytes (Ok scenario) is right first parts scenario_parts spelled = (one_scenario bytes scenario parts right.in_limits scenario_parts.in_limits is spelled, tt)
loaded_only bytes (Err fault) is right (inl none) parts scenario_parts spelled = (tt, none)
loaded_only bytes (Err fault) is right (inr first) parts scenario_parts spelled = absurd (no_byte_fault bytes parts fault scenario_parts spelled first)

same_err : (a b : LoadFault) → a ≡ b → ◌≡◌ {A = Result ScenarioParts LoadFault} (Err a) (Err b)
same_err a b is = λ i. Err (is i)

-- the first fault of the bytes is what is answered
pub refused_only : (bytes : List ℕ) (r : Result ScenarioParts LoadFault) → IfOk r (IsImage bytes) → IfOk r IsScenario → IfErr r (λ fault. (fault ≡ NoMemory) ⊎ IsFirstByteFault bytes fault)
    → (fault : LoadFault) → IsFirstByteFault bytes fault → IsErrOf r fault ⊎ IsErrOf r NoMemory
refused_only bytes (Ok scenario) is right first fault wanted = absurd (no_byte_fault bytes scenario fault right is wanted)
refused_only bytes (Err other) is right (inl none) fault wanted = inr (same_err other NoMemory none)
refused_only bytes (Err other) is right (inr first) fault wanted = inl (same_err other fault (one_not_free (AreBytesFreeOf bytes) judged_byte_faults other fault first wanted))
