-- Groups spelt in a text, and read from it again.
use Rattle.std.proofs.Common.{◌≡◌, ◌<◌, ◌==◌, ◌+◌, ℕ, zero, suc, replicate, take, if◌then◌else◌, IfSome, inl, inr, subst, rules, Bool, true, false, ◌&&◌, not, nat_lt, nat_le, cond, List, [], ◌∷◌, ◌++◌, length, map, get_or, Option, None, Some, refl, sym, ap, ◌∙◌, arith, ltb-true}
use Rattle.std.specs.Prelude.{codes, decimal}
use Rattle.std.specs.List.{list_all, slice_split, join_with_byte}
use Rattle.std.proofs.lemmas.Bool.{and_parts, and_from, false≢true}
use Rattle.std.proofs.lemmas.Bool.Decides.{nat_tests, Decides-eqb}
use Rattle.std.proofs.lemmas.Fmt.{decimal-digits_value, decimal_injective}
use Rattle.std.proofs.lemmas.List.{take_more, map-append, get_or-map, length-map}
use Rattle.std.proofs.lemmas.List.Folds.{list_all-append}
use Rattle.std.proofs.lemmas.List.Splits.{join_with_byte-slice_split}
use Rattle.std.proofs.lemmas.Str.Parse.{IsNumeralModel, numerals_by_value}
use Rattle.clap.proofs.CutLemmas.{Lacks, slice_split-Lacks, slice_split-at}
use Rattle.window_core.specs.Partition.{is_partition, alone}
use Rattle.scenario_asm.specs.Numbers.{is_digit, is_numeral, number}
use Rattle.scenario_asm.proofs.Decimals.{decimal_digits, decimal_numeral, number_decimal}
use Rattle.prompt_words.specs.Grammar.{number_below}
use Rattle.sessions.specs.Groups.{groups_text, Lists, MeansGroups, Names}

numbers : IsNumeralModel (λ ds. list_all is_digit ds ≡ true) number
numbers = numerals_by_value (λ ds. list_all is_digit ds ≡ true) (search rules)

numeral_digits : (ds : List ℕ) → is_numeral ds ≡ true → list_all is_digit ds ≡ true
numeral_digits [] is = absurd (false≢true is)
numeral_digits (d ∷ []) is = and_from (is_digit d) true is refl
numeral_digits (d ∷ e ∷ ds) is =
    let parts = and_parts (is_digit d) (not (d == 48) && list_all is_digit (e ∷ ds)) is in
    and_from (is_digit d) (list_all is_digit (e ∷ ds)) parts.0 (and_parts (not (d == 48)) (list_all is_digit (e ∷ ds)) parts.1).1

numeral_some : (ds : List ℕ) → is_numeral ds ≡ true → 0 < length ds
numeral_some [] is = absurd (false≢true is)
numeral_some (d ∷ ds) is = omega arith

numeral_first : (ds : List ℕ) → is_numeral ds ≡ true → get_or ds 0 0 ≡ 48 → length ds ≡ 1
numeral_first [] is first = absurd (false≢true is)
numeral_first (d ∷ []) is first = omega arith
numeral_first (d ∷ e ∷ ds) is first =
    let parts = and_parts (is_digit d) (not (d == 48) && list_all is_digit (e ∷ ds)) is in
    let other : not (d == 48) ≡ true = (and_parts (not (d == 48)) (list_all is_digit (e ∷ ds)) parts.1).0 in
    absurd (grind (arith, nat_tests))

numeral_decimal : (ds : List ℕ) → is_numeral ds ≡ true → number ds < 64 → decimal (number ds) ≡ ds
numeral_decimal ds is few = decimal-digits_value numbers ds (numeral_digits ds is) (numeral_some ds is) (numeral_first ds is) (omega arith)

found : (b : Bool) (m n : ℕ) → cond b (Some m) None ≡ Some n → (b ≡ true) × (m ≡ n)
found true m n e = (refl, cc)
found false m n e = absurd (cc)

pub word_is : (word : List ℕ) (n : ℕ) → Some n ≡ number_below 64 word → (word ≡ decimal n) × (nat_lt n 64 ≡ true)
word_is word n e =
    let both = found (is_numeral word && nat_lt (number word) 64) (number word) n (sym e) in
    let parts = and_parts (is_numeral word) (nat_lt (number word) 64) both.0 in
    (sym (numeral_decimal word parts.0 (ltb-true (number word) 64 parts.1)) ∙ ap decimal both.1, ap (λ m. nat_lt m 64) (sym both.1) ∙ parts.1)

pub word_read : (n : ℕ) → nat_lt n 64 ≡ true → number_below 64 (decimal n) ≡ Some n
word_read n few =
    let less : n < 64 = ltb-true n 64 few in
    let is : is_numeral (decimal n) ≡ true = decimal_numeral n (omega arith) in
    let same : number (decimal n) ≡ n = number_decimal n (omega arith) in
    simp (is, same, few)

pub names_same : (xs ys : List ℕ) → list_all (λ group. nat_lt group 64) xs ≡ true → list_all (λ group. nat_lt group 64) ys ≡ true → map decimal xs ≡ map decimal ys → xs ≡ ys
names_same [] [] few less same = refl
names_same [] (y ∷ ys) few less same = absurd (cc)
names_same (x ∷ xs) [] few less same = absurd (cc)
names_same (x ∷ xs) (y ∷ ys) few less same =
    let a = and_parts (nat_lt x 64) (list_all (λ group. nat_lt group 64) xs) few in
    let b = and_parts (nat_lt y 64) (list_all (λ group. nat_lt group 64) ys) less in
    let m : x < 64 = ltb-true x 64 a.0 in
    let n : y < 64 = ltb-true y 64 b.0 in
    let first : decimal x ≡ decimal y = cc in
    let head : x ≡ y = decimal_injective x y (omega arith) (omega arith) first in
    let rest : xs ≡ ys = names_same xs ys a.1 b.1 (cc) in
    λ i. head i ∷ rest i

-- a word more is the number of a group more
pub names_more : (words : List (List ℕ)) (groups : List ℕ) (i n : ℕ) (word : List ℕ) → Names (take i words) groups → i < length words → word ≡ get_or words i [] → Some n ≡ number_below 64 word → Names (take (i + 1) words) (groups ++ n ∷ [])
names_more words groups i n word names under is read =
    let one = word_is word n read in
    record {
      spelt = take_more words i [] under ∙ (λ k. names.spelt k ++ (sym is ∙ one.0) k ∷ []) ∙ sym (map-append decimal groups (n ∷ []));
      below = list_all-append (λ group. nat_lt group 64) groups (n ∷ []) ∙ and_from _ _ names.below (and_from (nat_lt n 64) true one.1 refl);
    }

group_at : (entries : List ℕ) (i : ℕ) → list_all (λ group. nat_lt group 64) entries ≡ true → i < length entries → nat_lt (get_or entries i 0) 64 ≡ true
group_at [] i few lt = absurd (omega arith)
group_at (x ∷ xs) zero few lt = (and_parts (nat_lt x 64) (list_all (λ group. nat_lt group 64) xs) few).0
group_at (x ∷ xs) (suc i) few lt = group_at xs i (and_parts (nat_lt x 64) (list_all (λ group. nat_lt group 64) xs) few).1 (omega arith)

-- a word that is no group's number
pub no_names : (words : List (List ℕ)) (entries : List ℕ) (i : ℕ) (word : List ℕ) → Names words entries → i < length words → word ≡ get_or words i [] → None ≡ number_below 64 word → ⊥
no_names words entries i word names under is unread =
    let size : length words ≡ length entries = ap length names.spelt ∙ length-map entries decimal in
    let at : i < length entries = omega arith in
    let spelt : word ≡ decimal (get_or entries i 0) = is ∙ ap (λ ws. get_or ws i []) names.spelt ∙ get_or-map decimal entries i 0 [] at in
    let read : number_below 64 (decimal (get_or entries i 0)) ≡ Some (get_or entries i 0) = word_read (get_or entries i 0) (group_at entries i names.below at) in
    let some : None ≡ Some (get_or entries i 0) = unread ∙ ap (number_below 64) spelt ∙ read in
    cc

digit_no_comma : (b : ℕ) → is_digit b ≡ true → b ≡ 44 → ⊥
digit_no_comma b is same = grind (arith, nat_tests)

digits_lack : (ds : List ℕ) → list_all is_digit ds ≡ true → Lacks 44 ds
digits_lack [] all i lt = absurd (omega arith)
digits_lack (d ∷ ds) all zero lt = digit_no_comma d (and_parts (is_digit d) (list_all is_digit ds) all).0
digits_lack (d ∷ ds) all (suc i) lt = digits_lack ds (and_parts (is_digit d) (list_all is_digit ds) all).1 i (omega arith)

group_lacks : (n : ℕ) → nat_lt n 64 ≡ true → Lacks 44 (decimal n)
group_lacks n few = let less : n < 64 = ltb-true n 64 few in digits_lack (decimal n) (decimal_digits n (omega arith))

pub text_cut : (entries : List ℕ) → list_all (λ group. nat_lt group 64) entries ≡ true → 0 < length entries → slice_split (λ b. b == 44) (groups_text entries) ≡ map decimal entries
text_cut [] few some = absurd (omega arith)
text_cut (x ∷ []) few some = slice_split-Lacks 44 (decimal x) (group_lacks x (and_parts (nat_lt x 64) true few).0)
text_cut (x ∷ y ∷ ys) few some =
    let parts = and_parts (nat_lt x 64) (list_all (λ group. nat_lt group 64) (y ∷ ys)) few in
    slice_split-at 44 (decimal x) (groups_text (y ∷ ys)) (group_lacks x parts.0) ∙ ap (λ l. decimal x ∷ l) (text_cut (y ∷ ys) parts.1 (omega arith))

-- the entries of a partition
pub some_entries : (entries : List ℕ) → is_partition entries ≡ true → 0 < length entries
some_entries [] is = absurd (false≢true is)
some_entries (x ∷ xs) is = omega arith

pub few_entries : (entries : List ℕ) → is_partition entries ≡ true → list_all (λ group. nat_lt group 64) entries ≡ true
few_entries entries is = (and_parts (nat_le (length entries) 256) _ (and_parts (nat_le 2 (length entries)) _ is).1).1

-- a text that lists groups has them as its words
pub listed_words : (text : List ℕ) (nodes : ℕ) (entries : List ℕ) → Lists text nodes entries → Names (slice_split (λ b. b == 44) text) entries
listed_words text nodes entries lists =
    let few = few_entries entries lists.groups in
    record { spelt = ap (slice_split (λ b. b == 44)) lists.spelt ∙ text_cut entries few (some_entries entries lists.groups); below = few }

-- a text whose words name groups is spelt so
pub words_spell : (text : List ℕ) (entries : List ℕ) → Names (slice_split (λ b. b == 44) text) entries → text ≡ groups_text entries
words_spell text entries names = sym (join_with_byte-slice_split 44 text) ∙ ap (join_with_byte 44) names.spelt

-- the words for all nodes are no list
no_list : (text : List ℕ) (nodes : ℕ) (entries : List ℕ) → slice_split (λ b. b == 44) text ≡ text ∷ [] → is_numeral text ≡ false → Lists text nodes entries → ⊥
no_list text nodes entries whole none lists = at entries (sym whole ∙ names.spelt) names.below
  where
    names : Names (slice_split (λ b. b == 44) text) entries
    names = listed_words text nodes entries lists

    at : (es : List ℕ) → text ∷ [] ≡ map decimal es → list_all (λ group. nat_lt group 64) es ≡ true → ⊥
    at [] same few = cc
    at (e ∷ es) same few =
        let less : e < 64 = ltb-true e 64 (and_parts (nat_lt e 64) _ few).0 in
        let word : text ≡ decimal e = cc in
        false≢true (sym none ∙ ap is_numeral word ∙ decimal_numeral e (omega arith))

pub one_no_list : (nodes : ℕ) (entries : List ℕ) → Lists (codes "one") nodes entries → ⊥
one_no_list nodes entries lists = no_list (codes "one") nodes entries refl refl lists

pub each_no_list : (nodes : ℕ) (entries : List ℕ) → Lists (codes "each") nodes entries → ⊥
each_no_list nodes entries lists = no_list (codes "each") nodes entries refl refl lists

-- what is said of a value that is there
pub given : {X : Type 0} (P : X → Type 0) (o : Option X) (x : X) → o ≡ Some x → IfSome o P → P x
given P o x is said = subst (λ p. IfSome p P) is said

abbrev of_nodes : ℕ → List ℕ → Option (List ℕ)
of_nodes nodes groups = if length groups == nodes && is_partition groups then Some groups else None

pub found_means : (text : List ℕ) (nodes : ℕ) (words : List (List ℕ)) (groups : List ℕ) (result : Option (List ℕ)) → words ≡ slice_split (λ b. b == 44) text → Names words groups
    → result ≡ (if length groups == nodes && is_partition groups then Some groups else None) → IfSome result (λ entries. Lists text nodes entries)
found_means text nodes words groups result cut names is =
    subst (λ (r : Option (List ℕ)). IfSome r (λ entries. Lists text nodes entries)) (sym is) (at (length groups == nodes && is_partition groups) refl)
  where
    at : (b : Bool) → (length groups == nodes && is_partition groups) ≡ b → IfSome (if b then Some groups else None) (λ entries. Lists text nodes entries)
    at true both =
        let parts = and_parts (length groups == nodes) (is_partition groups) both in
        record { spelt = words_spell text groups (subst (λ ws. Names ws groups) cut names); one_each = (Decides-eqb (length groups) nodes).0 parts.0; groups = parts.1 }
    at false none = tt

pub found_only : (text : List ℕ) (nodes : ℕ) (words : List (List ℕ)) (groups entries : List ℕ) (result : Option (List ℕ)) → words ≡ slice_split (λ b. b == 44) text → Names words groups
    → result ≡ (if length groups == nodes && is_partition groups then Some groups else None) → Lists text nodes entries → result ≡ Some entries
found_only text nodes words groups entries result cut names is lists =
    let whole = listed_words text nodes entries lists in
    let same : groups ≡ entries = names_same groups entries names.below whole.below (sym names.spelt ∙ cut ∙ whole.spelt) in
    let both : (length entries == nodes && is_partition entries) ≡ true = and_from (length entries == nodes) (is_partition entries) ((Decides-eqb (length entries) nodes).1 lists.one_each) lists.groups in
    is ∙ ap (of_nodes nodes) same ∙ ap (λ b. if b then Some entries else None) both

-- where a word is no group's number, the text lists none
pub found_none : (text : List ℕ) (nodes : ℕ) (words : List (List ℕ)) (entries : List ℕ) → words ≡ slice_split (λ b. b == 44) text → (Names words entries → false ≡ true) → Lists text nodes entries → ⊥
found_none text nodes words entries cut none lists = false≢true (none (subst (λ ws. Names ws entries) (sym cut) (listed_words text nodes entries lists)))

pub one_only : (text : List ℕ) (nodes : ℕ) (groups entries : List ℕ) → text ≡ codes "one" → groups ≡ replicate nodes 0 → MeansGroups text nodes entries → Some groups ≡ Some entries
one_only text nodes groups entries is all (inl (word, same)) = ap (λ es. Some es) (all ∙ sym same)
one_only text nodes groups entries is all (inr (inl (word, same))) = let other : codes "one" ≡ codes "each" = sym is ∙ word in absurd (cc)
one_only text nodes groups entries is all (inr (inr lists)) = absurd (one_no_list nodes entries (subst (λ t. Lists t nodes entries) is lists))

pub each_only : (text : List ℕ) (nodes : ℕ) (groups entries : List ℕ) → text ≡ codes "each" → groups ≡ alone nodes → MeansGroups text nodes entries → Some groups ≡ Some entries
each_only text nodes groups entries is all (inl (word, same)) = let other : codes "each" ≡ codes "one" = sym is ∙ word in absurd (cc)
each_only text nodes groups entries is all (inr (inl (word, same))) = ap (λ es. Some es) (all ∙ sym same)
each_only text nodes groups entries is all (inr (inr lists)) = absurd (each_no_list nodes entries (subst (λ t. Lists t nodes entries) is lists))
