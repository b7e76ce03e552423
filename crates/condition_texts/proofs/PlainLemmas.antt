-- No word of a chain has a parenthesis, and so no text that writes one.
use Rattle.std.proofs.Common.{◌≡◌, ℕ, zero, suc, ◌+◌, ◌-◌, ◌<◌, ◌≤◌, ◌==◌, Bool, true, false, ◌&&◌, ◌||◌, if◌then◌else◌, List, [], ◌∷◌, ◌++◌, length, take, drop, refl, sym, ap, ◌∙◌, subst, arith}
use Rattle.std.specs.Prelude.{Option, Some, None, Result, Ok, Err, ok_or, slice_index, codes, bytes_eq, nat_le, nat_eq, not, option_map, fold, position, slice_range}
use Rattle.std.specs.Char.{is_digit as is_digit_of}
use Rattle.std.specs.Prelude.{bit_or}
use Rattle.std.specs.Result.{result_ok}
use Rattle.std.specs.Cmp.Lexicographic.{pointwise}
use Rattle.std.specs.List.{list_all, slice_split, onto_first, before_first, position_or_len, starts_with}
use Rattle.std.proofs.lemmas.List.{take_all, take_more, take-append-drop}
use Rattle.std.proofs.lemmas.List.Quantifiers.{position-Some}
use Rattle.std.proofs.lemmas.Slice.Eq.{bytes_eq-Decides}
use Rattle.std.proofs.lemmas.Bool.Decides.{nat_tests}
use Rattle.std.proofs.lemmas.Bool.{cond-true, cond-false}
use Rattle.bitflags.specs.Sets.{Row, find_row}
use Rattle.cap_model.specs.declared.perms.Perms.{Perms}
use Rattle.cap_model.specs.words.PermissionNames.{permission_table}
use Rattle.cheri_model.specs.instructions.Tables.{found_at}
use Rattle.cheri_model.specs.runs.Image.{ImageParts}
use Rattle.grammar.specs.Labels.{LabelParts, is_decimal_digit}
use Rattle.grammar.specs.Numerals.{number_of}
use Rattle.grammar.specs.Operands.{register_of, is_short_register, is_long_register, is_decimal}
use Rattle.grammar.specs.Permissions.{permissions_of, permission_named, with_named, set_of, joined_names}
use Rattle.grammar.specs.declared.fault.ListingFaultKind.{ListingFaultKind}
use Rattle.grammar.specs.declared.fault.ListingFaultKind.TheVariants.{Operand}
use Rattle.text_numbers.specs.Numerals.{number_of as written_number, number_in as numeral_in, begins_hexadecimal, is_numeral, within_128_bits}
use Rattle.conditions.specs.declared.parts.Comparison.{Comparison}
use Rattle.conditions.specs.declared.parts.Field.{Field}
use Rattle.conditions.specs.declared.parts.Holder.{Holder}
use Rattle.conditions.specs.declared.parts.Place.{Place}
use Rattle.conditions.specs.declared.parts.StatusTest.{StatusTest}
use Rattle.cheri_model.specs.declared.width.Width.{Width}
use Rattle.cheri_model.specs.steps.Memory.{bytes_of}
use Rattle.condition_texts.specs.declared.condition.TheConstants.{MAX_BYTES}
use Rattle.condition_texts.specs.Words.{words_of, is_parenthesis}
use Rattle.condition_texts.specs.Places.{◌>>=◌, hart_numbered, number_in, number_read, place_of, begins_hart, begins_granule, is_data, hart_place, holder_named, register_read, field_of, field_table, granule_place, address_in, data_place, width_of}
use Rattle.condition_texts.specs.Atoms.{comparison_of, comparison_table, status_of, status_table, address_in_word, permissions_in}
use Rattle.condition_texts.specs.Reading.{is_digit}
use Rattle.condition_texts.specs.Conditions.{condition_of}
use Rattle.condition_texts.specs.Chains as chains
use Rattle.condition_texts.specs.Chains.{Plain, Expected, Subject, Comparing, Number, Verb, Status, Address, Permissions, And, Step, expected_after, atoms_from, step_of, subject, comparing, number_after, compared, after_hart, in_status, permissions_after, reaching, has_parenthesis, HoldsAsChain}
use Rattle.condition_texts.proofs.ChainLemmas.{as_chain, choose, clash, no_some, bound, given, first_true, second_true}

-- ---- plain logic

-- what follows a step that may have no answer
then_some : {A B : Type 0} (o : Option A) (f : A → Option B) (y : B) → (o >>= f) ≡ Some y → (x : A) × (o ≡ Some x) × (f x ≡ Some y)
then_some (Some x) f y is = (x, refl, is)
then_some None f y is = absurd (no_some y is)

-- where there is something after a call, there was before
came_of : {A B : Type 0} (f : Option A → Option B) (o : Option A) (y : B) → f None ≡ None → f o ≡ Some y → (x : A) × (o ≡ Some x)
came_of f (Some x) y none is = (x, refl)
came_of f None y none is = absurd (no_some y (sym none ∙ is))

test_passed : {A : Type 0} (test : Bool) (o : Option A) (y : A) → (if test then o else None) ≡ Some y → (test ≡ true) × (o ≡ Some y)
test_passed true o y is = (refl, is)
test_passed false o y is = absurd (no_some y is)

or_none : (x y : Bool) → x ≡ false → y ≡ false → (x || y) ≡ false
or_none true y one two = absurd (cc)
or_none false y one two = two

or_left : (x y : Bool) → (x || y) ≡ false → x ≡ false
or_left true y is = absurd (cc)
or_left false y is = refl

or_right : (x y : Bool) → (x || y) ≡ false → y ≡ false
or_right true y is = absurd (cc)
or_right false y is = is

not_true : (x : Bool) → not x ≡ true → x ≡ false
not_true true is = absurd (cc)
not_true false is = refl

not_so : (x : Bool) → x ≡ false → not x ≡ true
not_so true is = absurd (cc)
not_so false is = refl

-- ---- bytes and words without parentheses

-- a byte that passes a test which parentheses fail
no_parenthesis : (passes : ℕ → Bool) (b : ℕ) → passes b ≡ true → passes 0x28 ≡ false → passes 0x29 ≡ false → is_parenthesis b ≡ false
no_parenthesis passes b is one two =
    choose (b == 0x28) (is_parenthesis b ≡ false)
    (λ so. let same : b ≡ 0x28 = grind (arith, nat_tests) in absurd (clash (passes b) is (ap passes same ∙ one)))
    (λ first. choose (b == 0x29) (is_parenthesis b ≡ false)
    (λ so. let same : b ≡ 0x29 = grind (arith, nat_tests) in absurd (clash (passes b) is (ap passes same ∙ two)))
    (λ second. or_none (b == 0x28) (b == 0x29) first second))

abbrev IsPlain : List ℕ → Type 0
IsPlain w = has_parenthesis w ≡ false

none_plain : IsPlain []
unfolding has_parenthesis
none_plain = refl

more_plain : (b : ℕ) (w : List ℕ) → is_parenthesis b ≡ false → IsPlain w → IsPlain (b ∷ w)
unfolding has_parenthesis
more_plain b w one rest = or_none (is_parenthesis b) (has_parenthesis w) one rest

head_plain : (b : ℕ) (w : List ℕ) → IsPlain (b ∷ w) → is_parenthesis b ≡ false
unfolding has_parenthesis
head_plain b w is = or_left (is_parenthesis b) (has_parenthesis w) is

tail_plain : (b : ℕ) (w : List ℕ) → IsPlain (b ∷ w) → IsPlain w
unfolding has_parenthesis
tail_plain b w is = or_right (is_parenthesis b) (has_parenthesis w) is

both_plain : (v w : List ℕ) → IsPlain v → IsPlain w → IsPlain (v ++ w)
both_plain [] w one two = two
both_plain (b ∷ v) w one two = more_plain b (v ++ w) (head_plain b v one) (both_plain v w (tail_plain b v one) two)

parts_plain : (n : ℕ) (w : List ℕ) → IsPlain (take n w) → IsPlain (drop n w) → IsPlain w
parts_plain n w one two = subst (λ (v : List ℕ). IsPlain v) (take-append-drop n w) (both_plain (take n w) (drop n w) one two)

all_plain : (passes : ℕ → Bool) (w : List ℕ) → list_all passes w ≡ true → passes 0x28 ≡ false → passes 0x29 ≡ false → IsPlain w
all_plain passes [] is one two = none_plain
all_plain passes (b ∷ w) is one two =
    more_plain b w (no_parenthesis passes b (first_true (passes b) (list_all passes w) is) one two)
    (all_plain passes w (second_true (passes b) (list_all passes w) is) one two)

same_plain : (w wanted : List ℕ) → bytes_eq w wanted ≡ true → IsPlain wanted → IsPlain w
same_plain w wanted is plain = ap has_parenthesis ((bytes_eq-Decides w wanted).0 is) ∙ plain

-- a word that a table has
abbrev is_plain_row : {T : Type 0} → List ℕ × T → Bool
is_plain_row row = not (has_parenthesis row.0)

row_plain : {T : Type 0} (rows : List (List ℕ × T)) (w : List ℕ) (x : T) → list_all is_plain_row rows ≡ true → found_at rows w ≡ Some x → IsPlain w
unfolding found_at
row_plain [] w x all is = absurd (no_some x is)
row_plain (row ∷ rows) w x all is =
    choose (bytes_eq row.0 w) (IsPlain w)
    (λ so. ap has_parenthesis (sym ((bytes_eq-Decides row.0 w).0 so))
    ∙ not_true (has_parenthesis row.0) (first_true (is_plain_row row) (list_all is_plain_row rows) all))
    (λ other. row_plain rows w x (second_true (is_plain_row row) (list_all is_plain_row rows) all) (sym (cond-false (bytes_eq row.0 w) _ _ other) ∙ is))

comparison_plain : (w : List ℕ) (x : Comparison) → comparison_of w ≡ Some x → IsPlain w
unfolding comparison_of has_parenthesis
comparison_plain w x is = row_plain comparison_table w x refl is

status_plain : (w : List ℕ) (x : StatusTest) → status_of w ≡ Some x → IsPlain w
unfolding status_of has_parenthesis
status_plain w x is = row_plain status_table w x refl is

field_plain : (w : List ℕ) (x : Field) → field_of w ≡ Some x → IsPlain w
unfolding field_of has_parenthesis
field_plain w x is = row_plain field_table w x refl is

-- ---- numbers

numeral_plain : (base : ℕ) (w : List ℕ) (n : ℕ) → is_digit_of 0x28 base ≡ false → is_digit_of 0x29 base ≡ false → numeral_in base w ≡ Some n → IsPlain w
unfolding numeral_in
numeral_plain base w n one two is =
    let numeral = test_passed (is_numeral base w) _ n is in
    all_plain (λ b. is_digit_of b base) w (second_true (not (length w == 0)) (list_all (λ b. is_digit_of b base) w) numeral.0) one two

decimal_plain : (w : List ℕ) (n : ℕ) → numeral_in 10 w ≡ Some n → IsPlain w
decimal_plain w n is = numeral_plain 10 w n refl refl is

hexadecimal_plain : (w : List ℕ) (n : ℕ) → numeral_in 16 w ≡ Some n → IsPlain w
hexadecimal_plain w n is = numeral_plain 16 w n refl refl is

prefix_plain : (w : List ℕ) → begins_hexadecimal w ≡ true → IsPlain (drop 2 w) → IsPlain w
prefix_plain [] is rest = none_plain
prefix_plain (a ∷ []) is rest = absurd (cc)
prefix_plain (a ∷ b ∷ w) is rest =
    let long = nat_le 2 (length (a ∷ b ∷ w)) in
    more_plain a (b ∷ w)
    (no_parenthesis (λ z. z == 0x30) a (second_true long (a == 0x30) (first_true (long && (a == 0x30)) (b == 0x78) is)) refl refl)
    (more_plain b w (no_parenthesis (λ z. z == 0x78) b (second_true (long && (a == 0x30)) (b == 0x78) is) refl refl) rest)

written_plain : (w : List ℕ) (n : ℕ) → written_number w ≡ Some n → IsPlain w
unfolding written_number
written_plain w n is =
    choose (begins_hexadecimal w) (IsPlain w)
    (λ so. prefix_plain w so (hexadecimal_plain (drop 2 w) n (sym (cond-true (begins_hexadecimal w) _ _ so) ∙ is)))
    (λ other. decimal_plain w n (sym (cond-false (begins_hexadecimal w) _ _ other) ∙ is))

read_from : (o : Option ℕ) (n : ℕ) → number_read (ok_or (option_map within_128_bits o) Operand) ≡ Some n → (m : ℕ) × (o ≡ Some m)
read_from (Some m) n is = (m, refl)
read_from None n is = absurd (no_some n is)

number_plain : (w : List ℕ) (n : ℕ) → number_in w ≡ Some n → IsPlain w
unfolding number_in number_of
number_plain w n is =
    let written = read_from (written_number w) n is in
    written_plain w written.0 written.1

address_plain : (w : List ℕ) (n : ℕ) → address_in_word w ≡ Some n → IsPlain w
unfolding address_in_word
address_plain w n is =
    let read = then_some (number_in w) _ n is in
    number_plain w read.0 read.1

-- ---- permissions

like_plain : (wanted w : List ℕ) → pointwise nat_eq wanted w ≡ true → IsPlain wanted → IsPlain w
like_plain [] [] is plain = none_plain
like_plain [] (b ∷ w) is plain = absurd (cc)
like_plain (x ∷ wanted) [] is plain = none_plain
like_plain (x ∷ wanted) (b ∷ w) is plain =
    let same : nat_eq x b ≡ true = first_true (nat_eq x b) (pointwise nat_eq wanted w) is in
    let equal : x ≡ b = grind (arith, nat_tests) in
    more_plain b w (ap is_parenthesis (sym equal) ∙ head_plain x wanted plain)
    (like_plain wanted w (second_true (nat_eq x b) (pointwise nat_eq wanted w) is) (tail_plain x wanted plain))

flag_plain : (rows : List Row) (w : List ℕ) (n : ℕ) → list_all is_plain_row rows ≡ true → find_row rows w ≡ Some n → IsPlain w
unfolding find_row
flag_plain [] w n all is = absurd (no_some n is)
flag_plain (row ∷ rows) w n all is =
    choose (pointwise nat_eq row.0 w) (IsPlain w)
    (λ so. like_plain row.0 w so (not_true (has_parenthesis row.0) (first_true (is_plain_row row) (list_all is_plain_row rows) all)))
    (λ other. flag_plain rows w n (second_true (is_plain_row row) (list_all is_plain_row rows) all)
    (sym (cond-false (pointwise nat_eq row.0 w) _ _ other) ∙ is))

found_name : (test : Bool) (o : Option ℕ) (n : ℕ) → (if test then None else o) ≡ Some n → o ≡ Some n
found_name true o n is = absurd (no_some n is)
found_name false o n is = is

named_plain : (w : List ℕ) (n : ℕ) → permission_named w ≡ Some n → IsPlain w
unfolding permission_named has_parenthesis
named_plain w n is = flag_plain permission_table w n refl (found_name (length w == 0) (find_row permission_table w) n is)

abbrev are_plain : List (List ℕ) → Bool
are_plain ws = list_all (λ w. not (has_parenthesis w)) ws

none_named : (names : List (List ℕ)) → fold with_named None names ≡ None
unfolding with_named
none_named [] = refl
none_named (name ∷ names) = none_named names

abbrev with_bits : Perms → Option ℕ → Option Perms
with_bits perms o = option_map (λ named. set_of (bit_or perms.0 named)) o

fold_some : (perms : Perms) (o : Option ℕ) (names : List (List ℕ)) (p : Perms) → fold with_named (with_bits perms o) names ≡ Some p → (n : ℕ) × (o ≡ Some n)
fold_some perms (Some n) names p is = (n, refl)
fold_some perms None names p is = absurd (no_some p (sym (none_named names) ∙ is))

bits_some : (perms : Perms) (o : Option ℕ) (n : ℕ) → o ≡ Some n → with_bits perms o ≡ Some (set_of (bit_or perms.0 n))
bits_some perms o n is = ap (with_bits perms) is

all_more : (x y : Bool) → x ≡ true → y ≡ true → (x && y) ≡ true
all_more true y one two = two
all_more false y one two = absurd (cc)

names_plain : (perms p : Perms) (names : List (List ℕ)) → fold with_named (Some perms) names ≡ Some p → are_plain names ≡ true
unfolding with_named
names_plain perms p [] is = refl
names_plain perms p (name ∷ names) is =
    let named = fold_some perms (permission_named name) names p is in
    let rest = names_plain (set_of (bit_or perms.0 named.0)) p names
    (ap (λ (o : Option Perms). fold with_named o names) (sym (bits_some perms (permission_named name) named.0 named.1)) ∙ is) in
    all_more (not (has_parenthesis name)) (are_plain names) (not_so (has_parenthesis name) (named_plain name named.0 named.1)) rest

put_plain : (b : ℕ) (ws : List (List ℕ)) → are_plain (onto_first b ws) ≡ true → (is_parenthesis b ≡ false) × (are_plain ws ≡ true)
put_plain b [] all =
    (head_plain b [] (not_true (has_parenthesis (b ∷ [])) (first_true (not (has_parenthesis (b ∷ []))) true all)), refl)
put_plain b (w ∷ ws) all =
    let plain : IsPlain (b ∷ w) = not_true (has_parenthesis (b ∷ w)) (first_true (not (has_parenthesis (b ∷ w))) (are_plain ws) all) in (
      head_plain b w plain,
      all_more (not (has_parenthesis w)) (are_plain ws) (not_so (has_parenthesis w) (tail_plain b w plain))
          (second_true (not (has_parenthesis (b ∷ w))) (are_plain ws) all),
    )

perms_from : (o : Option Perms) (p : Perms) → result_ok (ok_or o Operand) ≡ Some p → o ≡ Some p
perms_from (Some q) p is = is
perms_from None p is = absurd (no_some p is)

-- parts between separators, of which none has a parenthesis, and what they are parts of
split_plain : (separator : ℕ) (w : List ℕ) → is_parenthesis separator ≡ false → are_plain (slice_split (λ b. b == separator) w) ≡ true → IsPlain w
split_plain separator [] one all = none_plain
split_plain separator (b ∷ w) one all =
    choose (b == separator) (IsPlain (b ∷ w))
    (λ so.
    let same : b ≡ separator = grind (arith, nat_tests) in
    let parts = ap are_plain (sym (cond-true (b == separator) ([] ∷ slice_split (λ x. x == separator) w) (onto_first b (slice_split (λ x. x == separator) w)) so)) ∙ all in
    more_plain b w (ap is_parenthesis same ∙ one)
    (split_plain separator w one (second_true (not (has_parenthesis [])) (are_plain (slice_split (λ x. x == separator) w)) parts)))
    (λ other.
    let parts = ap are_plain (sym (cond-false (b == separator) ([] ∷ slice_split (λ x. x == separator) w) (onto_first b (slice_split (λ x. x == separator) w)) other)) ∙ all in
    let put = put_plain b (slice_split (λ x. x == separator) w) parts in
    more_plain b w put.0 (split_plain separator w one put.1))

permissions_plain : (w : List ℕ) (p : Perms) → permissions_in w ≡ Some p → IsPlain w
unfolding permissions_in permissions_of has_parenthesis
permissions_plain w p is =
    choose (bytes_eq w (codes "all")) (IsPlain w) (λ so. same_plain w (codes "all") so refl)
    (λ not_all. choose (bytes_eq w (codes "none")) (IsPlain w) (λ so. same_plain w (codes "none") so refl)
    (λ not_none.
    let rest : result_ok (ok_or (fold with_named (Some (set_of 0)) (joined_names w)) Operand) ≡ Some p =
    ap result_ok (sym (cond-false (bytes_eq w (codes "all")) _ _ not_all ∙ cond-false (bytes_eq w (codes "none")) _ _ not_none)) ∙ is in
    split_plain 0x2B w refl (names_plain (set_of 0) p (joined_names w) (perms_from (fold with_named (Some (set_of 0)) (joined_names w)) p rest))))

-- ---- places

no_ok : (n : ℕ) → Err Operand ≡ Ok n → ⊥
no_ok n is = cc

letter_plain : (b : ℕ) → (b == 0x63) ≡ true → is_parenthesis b ≡ false
letter_plain b is = no_parenthesis (λ z. z == 0x63) b is refl refl

short_plain : (w : List ℕ) → is_short_register w ≡ true → IsPlain w
short_plain [] is = none_plain
short_plain (a ∷ []) is = absurd (cc)
short_plain (a ∷ b ∷ []) is =
    more_plain a (b ∷ []) (letter_plain a (first_true (a == 0x63) (is_decimal 0x30 b) is))
    (more_plain b [] (no_parenthesis (is_decimal 0x30) b (second_true (a == 0x63) (is_decimal 0x30 b) is) refl refl) none_plain)
short_plain (a ∷ b ∷ c ∷ w) is =
    let two = length (a ∷ b ∷ c ∷ w) == 2 in
    let so : (length (a ∷ b ∷ c ∷ w) == 2) ≡ true = first_true two (a == 0x63) (first_true (two && (a == 0x63)) (is_decimal 0x30 b) is) in
    let same : length (a ∷ b ∷ c ∷ w) ≡ 2 = grind (arith, nat_tests) in absurd (omega arith)

long_plain : (w : List ℕ) → is_long_register w ≡ true → IsPlain w
long_plain [] is = none_plain
long_plain (a ∷ []) is = absurd (cc)
long_plain (a ∷ b ∷ []) is = absurd (cc)
long_plain (a ∷ b ∷ c ∷ []) is =
    let ab = first_true ((a == 0x63) && is_decimal 0x31 b) (is_decimal 0x30 c) is in
    more_plain a (b ∷ c ∷ []) (letter_plain a (first_true (a == 0x63) (is_decimal 0x31 b) ab))
    (more_plain b (c ∷ []) (no_parenthesis (is_decimal 0x31) b (second_true (a == 0x63) (is_decimal 0x31 b) ab) refl refl)
    (more_plain c [] (no_parenthesis (is_decimal 0x30) c (second_true ((a == 0x63) && is_decimal 0x31 b) (is_decimal 0x30 c) is) refl refl) none_plain))
long_plain (a ∷ b ∷ c ∷ d ∷ w) is =
    let three = length (a ∷ b ∷ c ∷ d ∷ w) == 3 in
    let so : (length (a ∷ b ∷ c ∷ d ∷ w) == 3) ≡ true =
    first_true three (a == 0x63) (first_true (three && (a == 0x63)) (is_decimal 0x31 b) (first_true ((three && (a == 0x63)) && is_decimal 0x31 b) (is_decimal 0x30 c) is)) in
    let same : length (a ∷ b ∷ c ∷ d ∷ w) ≡ 3 = grind (arith, nat_tests) in absurd (omega arith)

front_plain : (n : ℕ) (w : List ℕ) → IsPlain (take n w) → IsPlain (drop (length (take n w)) w) → IsPlain w
front_plain zero w one two = two
front_plain (suc n) [] one two = none_plain
front_plain (suc n) (b ∷ w) one two = more_plain b w (head_plain b (take n w) one) (front_plain n w (tail_plain b (take n w) one) two)

register_plain : (w : List ℕ) (n : ℕ) → register_of w ≡ Ok n → IsPlain w
unfolding register_of
register_plain w n is =
    choose (is_short_register w) (IsPlain w) (short_plain w)
    (λ not_short. choose (is_long_register w) (IsPlain w) (long_plain w)
    (λ not_long. absurd (no_ok n (sym (cond-false (is_short_register w) _ _ not_short ∙ cond-false (is_long_register w) _ _ not_long) ∙ is))))

register_some : (hart : ℕ) (r : Result ℕ ListingFaultKind) (held : Holder) → register_read hart r ≡ Some held → (n : ℕ) × (r ≡ Ok n)
register_some hart (Ok n) held is = (n, refl)
register_some hart (Err fault) held is = absurd (no_some held is)

holder_plain : (hart : ℕ) (w : List ℕ) (held : Holder) → holder_named hart w ≡ Some held → IsPlain w
unfolding holder_named has_parenthesis
holder_plain hart w held is =
    choose (bytes_eq w (codes "pcc")) (IsPlain w) (λ so. same_plain w (codes "pcc") so refl)
    (λ other.
    let read = register_some hart (register_of w) held (sym (cond-false (bytes_eq w (codes "pcc")) _ _ other) ∙ is) in
    register_plain w read.0 read.1)

hart_place_plain : (image : ImageParts) (number : ℕ) (w : List ℕ) (p : Place) → hart_place image number w ≡ Some p → IsPlain w
unfolding hart_place
hart_place_plain image number w p is =
    let name = before_first (λ b. b == 0x2E) w in
    let of_hart = then_some (hart_numbered image number) _ p is in
    let of_name = then_some (holder_named of_hart.0 name) _ p of_hart.2 in
    let of_field = then_some (field_of (drop (length name) w)) _ p of_name.2 in
    front_plain (position_or_len (λ b. b == 0x2E) w) w (holder_plain of_hart.0 name of_name.0 of_name.1)
    (field_plain (drop (length name) w) of_field.0 of_field.1)

address_in_plain : (image : ImageParts) (bytes : ℕ) (w : List ℕ) (n : ℕ) → address_in image bytes w ≡ Some n → IsPlain w
unfolding address_in
address_in_plain image bytes w n is =
    let read = then_some (number_in w) _ n is in
    number_plain w read.0 read.1

granule_place_plain : (image : ImageParts) (w : List ℕ) (p : Place) → granule_place image w ≡ Some p → IsPlain w
unfolding granule_place
granule_place_plain image w p is =
    let at_end = then_some (position (λ b. b == 0x5D) w) _ p is in
    let end = at_end.0 in
    let addr = then_some (address_in image 16 (take end w)) _ p at_end.2 in
    let read = then_some (field_of (drop (end + 1) w)) _ p addr.2 in
    let bracket = position-Some (λ b. b == 0x5D) w end 0 at_end.1 in
    let front : IsPlain (take (end + 1) w) = subst (λ (v : List ℕ). IsPlain v) (sym (take_more w end 0 bracket.0))
    (both_plain (take end w) _ (address_in_plain image 16 (take end w) addr.0 addr.1)
    (more_plain _ [] (no_parenthesis (λ b. b == 0x5D) _ bracket.1 refl refl) none_plain)) in
    parts_plain (end + 1) w front (field_plain (drop (end + 1) w) read.0 read.1)

width_plain : (b : ℕ) (x : Width) → width_of b ≡ Some x → is_parenthesis b ≡ false
unfolding width_of
width_plain b x is =
    choose (b == 0x31) (is_parenthesis b ≡ false) (λ so. no_parenthesis (λ z. z == 0x31) b so refl refl)
    (λ no_one. choose (b == 0x32) (is_parenthesis b ≡ false) (λ so. no_parenthesis (λ z. z == 0x32) b so refl refl)
    (λ no_two. choose (b == 0x34) (is_parenthesis b ≡ false) (λ so. no_parenthesis (λ z. z == 0x34) b so refl refl)
    (λ no_four. choose (b == 0x38) (is_parenthesis b ≡ false) (λ so. no_parenthesis (λ z. z == 0x38) b so refl refl)
    (λ no_eight. absurd (no_some x (sym (cond-false (b == 0x31) _ _ no_one ∙ cond-false (b == 0x32) _ _ no_two
    ∙ cond-false (b == 0x34) _ _ no_four ∙ cond-false (b == 0x38) _ _ no_eight) ∙ is))))))

-- a word that begins with another one
begins_plain : (wanted w : List ℕ) → pointwise nat_eq wanted (take (length wanted) w) ≡ true → IsPlain wanted → IsPlain (drop (length wanted) w) → IsPlain w
begins_plain [] w is plain rest = rest
begins_plain (x ∷ wanted) [] is plain rest = none_plain
begins_plain (x ∷ wanted) (b ∷ w) is plain rest =
    let same : nat_eq x b ≡ true = first_true (nat_eq x b) (pointwise nat_eq wanted (take (length wanted) w)) is in
    let equal : x ≡ b = grind (arith, nat_tests) in
    more_plain b w (ap is_parenthesis (sym equal) ∙ head_plain x wanted plain)
    (begins_plain wanted w (second_true (nat_eq x b) (pointwise nat_eq wanted (take (length wanted) w)) is) (tail_plain x wanted plain) rest)

-- all but the last byte, and the last
last_plain : (w : List ℕ) (m : ℕ) → m + 1 ≡ length w → IsPlain (take m w) → is_parenthesis (slice_index w m) ≡ false → IsPlain w
last_plain w m is front last =
    let within : m < length w = omega arith in
    let all : take (m + 1) w ≡ w = take_all (m + 1) w (omega arith) in
    subst (λ (v : List ℕ). IsPlain v) (sym (take_more w m 0 within) ∙ all)
    (both_plain (take m w) _ front (more_plain _ [] last none_plain))

data_plain : (image : ImageParts) (w : List ℕ) (p : Place) → is_data w ≡ true
    → data_place image (slice_index w 3) (slice_range w 5 (length w - 1)) ≡ Some p → IsPlain w
unfolding data_place has_parenthesis
data_plain image [] p is read = refl
data_plain image (a ∷ []) p is read = absurd (cc)
data_plain image (a ∷ b ∷ []) p is read = absurd (cc)
data_plain image (a ∷ b ∷ c ∷ []) p is read = absurd (cc)
data_plain image (a ∷ b ∷ c ∷ d ∷ []) p is read = absurd (cc)
data_plain image (a ∷ b ∷ c ∷ d ∷ e ∷ w) p is read =
    let v = a ∷ b ∷ c ∷ d ∷ e ∷ w in
    let m = length w - 1 in
    let long = nat_le 6 (length v) in
    let starts = starts_with nat_eq v (codes "mem") in
    let last = slice_index v (length v - 1) == 0x5D in
    let but_last : ((long && starts) && (e == 0x5B)) ≡ true = first_true ((long && starts) && (e == 0x5B)) last is in
    let begun : (long && starts) ≡ true = first_true (long && starts) (e == 0x5B) but_last in
    let six : nat_le 6 (length v) ≡ true = first_true long starts begun in
    let enough : 6 ≤ length v = grind (arith, nat_tests) in
    let end : length v - 1 ≡ suc (suc (suc (suc (suc m)))) = omega arith in
    let count : length v - 1 - 5 ≡ m = omega arith in
    let width = then_some (width_of d) _ p read in
    let addr = then_some (address_in image (bytes_of width.0) (slice_range v 5 (length v - 1))) _ p width.2 in
    let inner : IsPlain (take (length v - 1 - 5) w) = address_in_plain image (bytes_of width.0) (slice_range v 5 (length v - 1)) addr.0 addr.1 in
    let front : IsPlain (take m w) = subst (λ n. IsPlain (take n w)) count inner in
    let closes : (slice_index v (length v - 1) == 0x5D) ≡ true = second_true ((long && starts) && (e == 0x5B)) last is in
    let close : (slice_index w m == 0x5D) ≡ true = ap (λ n. slice_index v n == 0x5D) (sym end) ∙ closes in
    let whole : IsPlain w = last_plain w m (omega arith) front (no_parenthesis (λ z. z == 0x5D) (slice_index w m) close refl refl) in
    let opens : IsPlain (e ∷ w) = more_plain e w (no_parenthesis (λ z. z == 0x5B) e (second_true (long && starts) (e == 0x5B) but_last) refl refl) whole in
    begins_plain (codes "mem") v (second_true long starts begun) refl (more_plain d (e ∷ w) (width_plain d width.0 width.1) opens)

hart_begins : (w : List ℕ) → begins_hart w ≡ true → IsPlain (drop 2 w) → IsPlain w
hart_begins [] is rest = none_plain
hart_begins (a ∷ []) is rest = absurd (cc)
hart_begins (a ∷ b ∷ w) is rest =
    let long = nat_le 2 (length (a ∷ b ∷ w)) in
    more_plain a (b ∷ w)
    (no_parenthesis is_decimal_digit a (second_true long (is_decimal_digit a) (first_true (long && is_decimal_digit a) (b == 0x2E) is)) refl refl)
    (more_plain b w (no_parenthesis (λ z. z == 0x2E) b (second_true (long && is_decimal_digit a) (b == 0x2E) is) refl refl) rest)

place_plain : (image : ImageParts) (w : List ℕ) (p : Place) → place_of image w ≡ Some p → IsPlain w
unfolding place_of has_parenthesis
place_plain image w p is =
    choose (begins_hart w) (IsPlain w)
    (λ so. hart_begins w so (hart_place_plain image (slice_index w 0 - 0x30) (drop 2 w) p (sym (cond-true (begins_hart w) _ _ so) ∙ is)))
    (λ no_hart. choose (begins_granule w) (IsPlain w)
    (λ so. begins_plain (codes "mem[") w so refl
    (granule_place_plain image (drop 4 w) p (sym (cond-false (begins_hart w) _ _ no_hart ∙ cond-true (begins_granule w) _ _ so) ∙ is)))
    (λ no_granule. choose (is_data w) (IsPlain w)
    (λ so. data_plain image w p so
    (sym (cond-false (begins_hart w) _ _ no_hart ∙ cond-false (begins_granule w) _ _ no_granule ∙ cond-true (is_data w) _ _ so) ∙ is))
    (λ no_data. absurd (no_some p
    (sym (cond-false (begins_hart w) _ _ no_hart ∙ cond-false (begins_granule w) _ _ no_granule ∙ cond-false (is_data w) _ _ no_data) ∙ is)))))

-- ---- the words of a chain

digit_plain : (w : List ℕ) → is_digit w ≡ true → IsPlain w
digit_plain [] is = none_plain
digit_plain (a ∷ []) is = more_plain a [] (no_parenthesis is_decimal_digit a is refl refl) none_plain
digit_plain (a ∷ b ∷ w) is =
    let so : (length (a ∷ b ∷ w) == 1) ≡ true = first_true (length (a ∷ b ∷ w) == 1) (is_decimal_digit a) is in
    let same : length (a ∷ b ∷ w) ≡ 1 = grind (arith, nat_tests) in absurd (omega arith)

step_plain : (image : ImageParts) (expected : Expected) (w : List ℕ) (s : Step) → step_of image expected w ≡ Some s → IsPlain w
unfolding step_of subject after_hart has_parenthesis
step_plain image Subject w s is =
    choose (is_digit w) (IsPlain w) (digit_plain w)
    (λ other.
    let at = came_of comparing (place_of image w) s refl (sym (cond-false (is_digit w) _ _ other) ∙ is) in
    place_plain image w at.0 at.1)
step_plain image (Comparing at) w s is =
    let read = came_of (number_after at) (comparison_of w) s refl is in comparison_plain w read.0 read.1
step_plain image (Number at comparison) w s is =
    let read = came_of (compared at comparison) (number_in w) s refl is in number_plain w read.0 read.1
step_plain image (Verb hart) w s is =
    choose (bytes_eq w (codes "is")) (IsPlain w) (λ so. same_plain w (codes "is") so refl)
    (λ no_is. choose (bytes_eq w (codes "reaches")) (IsPlain w) (λ so. same_plain w (codes "reaches") so refl)
    (λ no_reaches. absurd (no_some s
    (sym (cond-false (bytes_eq w (codes "is")) _ _ no_is ∙ cond-false (bytes_eq w (codes "reaches")) _ _ no_reaches) ∙ is))))
step_plain image (Status hart) w s is =
    let read = came_of (in_status hart) (status_of w) s refl is in status_plain w read.0 read.1
step_plain image (Address hart) w s is =
    let read = came_of (permissions_after hart) (address_in_word w) s refl is in address_plain w read.0 read.1
step_plain image (Permissions hart addr) w s is =
    let read = came_of (reaching hart addr) (permissions_in w) s refl is in permissions_plain w read.0 read.1
step_plain image And w s is =
    same_plain w (codes "and") (test_passed (bytes_eq w (codes "and")) _ s is).0 refl

words_plain : (image : ImageParts) (expected : Expected) (number : ℕ) (words : List (List ℕ)) (atoms : List Plain)
    → atoms_from image expected number words ≡ Ok atoms → are_plain words ≡ true
unfolding atoms_from
words_plain image expected number [] atoms is = refl
words_plain image expected number (w ∷ words) atoms is =
    let step = bound (ok_or (step_of image expected w) number) _ atoms is in
    let said = given (step_of image expected w) number step.0 step.1 in
    let rest = bound (atoms_from image (expected_after step.0) (number + 1) words) _ atoms step.2 in
    all_more (not (has_parenthesis w)) (are_plain words) (not_so (has_parenthesis w) (step_plain image expected w step.0 said))
    (words_plain image (expected_after step.0) (number + 1) words rest.0 rest.1)

chain_plain : (image : ImageParts) (text : List ℕ) (atoms : List Plain) → chains.chain_of image text ≡ Ok atoms → IsPlain text
unfolding chains.chain_of
chain_plain image text atoms is = split_plain 0x20 text refl (words_plain image Subject 0 (words_of 0x20 text) atoms is)

pub as_plain_chain : (labels : LabelParts) (image : ImageParts) (text : List ℕ) (atoms : List Plain) → length text ≤ MAX_BYTES
    → chains.chain_of image text ≡ Ok atoms → HoldsAsChain (condition_of labels image text) atoms
as_plain_chain labels image text atoms short is = as_chain labels image text atoms short (chain_plain image text atoms is) is
