use Rattle.std.proofs.Common.{◌≡◌, ◌∙◌, ◌≤◌, ◌<◌, ℕ, List, Option, Some, None, Result, Ok, Err, refl, sym, ap, subst, arith, codes}
use Rattle.std.specs.Option.{option_map}
use Rattle.std.specs.Str.Parse.{ExplainsUnsignedError, HasUnsignedDigitsIfOk, ParsesUnsigned}
use Rattle.clap.proofs.WalkLemmas.{first_value-rows, one_text-rows}
use Rattle.std.specs.declared.num.ParseIntError.{ParseIntError}
use Rattle.clap.specs.Matches.{ReadsOne, found_of, one_text}
use Rattle.clap.specs.Walk.{rows_of}
use Rattle.clap.specs.declared.parser.matches.Found.{Found}
use Rattle.clap.specs.Values.{IsUnsignedIn}
use Rattle.command_line.specs.CommandLine.{number_of}
use Rattle.command_line.specs.Given.{AreOptions}
use Rattle.command_line.specs.Sharing.{SharingValue}
use Rattle.command_line.proofs.Options.{some_none, same_some}
use Rattle.command_line.proofs.words.sharing_of.Goals as goal

-- a number from 1 to 64, as it is read
record IsRead (text : List ℕ) (read : Option ℕ) : Type 0 where
  number : ℕ
  is : read ≡ Some number
  value : number ≡ number_of text
  least : 1 ≤ number
  most : number ≤ 64

number_read : (E : Type 0) (G : List ℕ → Result ℕ E → Type 0) (text : List ℕ) (read : Option ℕ) → ReadsOne G text read → ((u : List ℕ) (x : Result ℕ E) → G u x → ParsesUnsigned 64 10 u x) → IsUnsignedIn 1 64 text
    → IsRead text read
number_read E G text (Some n) reads only few =
    let parsed = only text (Ok n) reads in
    let low = few.2 in
    let high = few.3 in
    let is : n ≡ number_of text = parsed.1 in
    record { number = n; is = refl; value = is; least = omega (arith, is, low); most = omega (arith, is, high) }
number_read E G text None reads only few = absurd (only text (Err reads.0) reads.1 (few.0, few.1))

abbrev Gives : List ℕ → Result ℕ ParseIntError → Type 0
Gives text read = ParsesUnsigned 64 10 text read × ExplainsUnsignedError 10 text read × HasUnsignedDigitsIfOk text read

-- the workers, as they are read
read_of : (found : Found) (has : AreOptions (rows_of found)) (read : Option ℕ) → ((text : List ℕ) → one_text found (codes "workers") ≡ Some text → ReadsOne Gives text read) → IsRead has.workers read
read_of found has read reads =
    number_read ParseIntError Gives has.workers read (reads has.workers (one_text-rows found (codes "workers") ∙ has.are_read)) (λ text x gives. gives.0) has.few

-- and the one that was read
as_read : (text : List ℕ) (number : ℕ) → IsRead text (Some number) → (number ≡ number_of text) × (0 < number) × (number ≤ 64)
as_read text number read =
    let same : number ≡ read.number = same_some number read.number read.is in
    let least = read.least in
    let most = read.most in
    (same ∙ read.value, omega (arith, same, least), omega (arith, same, most))

pub unreachable-requires : goal.unreachable-requires
unreachable-requires c =
    let read = read_of (found_of c.args.options.now) c.requires c.get_one.result c.get_one.ensures.value in
    some_none read.number (sym read.is ∙ c.in_default.is)

pub unreachable-requires-in_default-get_str : goal.unreachable-requires-in_default-get_str
unreachable-requires-in_default-get_str c =
    let found = first_value-rows (found_of c.args.options.now) (codes "groups") ∙ c.requires.are_groups in
    some_none c.requires.groups (sym (c.in_default-get_str.ensures ∙ found))

pub new-requires : goal.new-requires
new-requires c =
    let read = read_of (found_of c.args.options.now) c.requires c.get_one.result c.get_one.ensures.value in
    let is = as_read c.requires.workers c.in-Some.workers (subst (IsRead c.requires.workers) c.in-Some.is read) in
    record { few = (is.1, is.2) }

pub returns : goal.returns
returns c =
    let read = read_of (found_of c.args.options.now) c.requires c.get_one.result c.get_one.ensures.value in
    let is = as_read c.requires.workers c.in-Some.workers (subst (IsRead c.requires.workers) c.in-Some.is read) in
    let groups = first_value-rows (found_of c.args.options.now) (codes "groups") in
    record {
      workers = ap (option_map number_of) c.requires.are_workers ∙ ap Some (sym is.0) ∙ ap (λ (s : SharingValue). Some s.workers) (sym c.new.ensures);
      groups = sym groups ∙ sym c.in-Some-get_str.ensures ∙ ap (λ (s : SharingValue). Some s.groups) (sym c.new.ensures);
    }
