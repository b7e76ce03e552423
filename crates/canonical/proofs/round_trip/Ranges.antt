-- What a line that reads without a fault says of its operands.
use Rattle.std.proofs.Common.{◌≡◌, ℕ, zero, suc, ◌+◌, ◌-◌, ◌<◌, ◌≤◌, nat_lt, nat_le, Bool, true, false, cond, List, drop, Option, Some, None, Result, Ok, Err, refl, ap, ◌∙◌, subst, arith}
use Rattle.std.specs.Prelude.{ℤ, pos, neg_ℤ, slice_index, option_map}
use Rattle.std.proofs.lemmas.Bool.Decides.{nat_tests}
use Rattle.cap_model.specs.values.Capability.{unsealed_type, sentry_type, last_sealable_type, IsLawfulType}
use Rattle.cheri_model.specs.declared.operands.TheConstants.{MAX_IMMEDIATE}
use Rattle.grammar.specs.declared.fault.ListingFaultKind.{ListingFaultKind}
use Rattle.grammar.specs.declared.fault.ListingFaultKind.TheVariants as kind
use Rattle.grammar.specs.declared.operands.Immediate.{Immediate}
use Rattle.grammar.specs.declared.operands.MemoryOperand.{MemoryOperand}
use Rattle.grammar.specs.declared.operands.TypeOperand.{TypeOperand}
use Rattle.grammar.specs.declared.operands.TypeOperand.TheVariants.{Unsealed, Sentry, Number}
use Rattle.grammar.specs.declared.labels.LabelLine.{LabelLine}
use Rattle.grammar.specs.declared.labels.TargetOperand.{TargetOperand}
use Rattle.grammar.specs.declared.labels.TargetOperand.TheVariants as target
use Rattle.grammar.specs.Faults.{◌>>=◌}
use Rattle.grammar.specs.Numerals.{number_of_digits, at_most}
use Rattle.grammar.specs.Operands.{register_of, is_short_register, is_long_register, is_bracketed, immediate_of, immediate_of_12_bits, immediate_up_to, before_bracket, from_bracket, between_brackets, memory_operand_from, memory_operand_of, type_in_range}
use Rattle.grammar.specs.Labels.{LabelParts, begins_at_sign, is_label_name, target_operand_of, target_of}
use Rattle.canonical.specs.Listable.{Is12Bits}

-- a chain of steps that ends well: each of its steps did
pub then_ok : {A B E : Type 0} (r : Result A E) (f : A → Result B E) (b : B) → (r >>= f) ≡ Ok b → (a : A) × (r ≡ Ok a) × (f a ≡ Ok b)
then_ok (Ok a) f b e = (a, refl, e)
then_ok (Err x) f b e = absurd (cc)

-- a test that an answer passed
pub test_true : {A E : Type 0} (test : Bool) (r : Result A E) (x : E) (a : A) → cond test r (Err x) ≡ Ok a → (test ≡ true) × (r ≡ Ok a)
test_true true r x a e = (refl, e)
test_true false r x a e = absurd (cc)

pub test_false : {A E : Type 0} (test : Bool) (r : Result A E) (x : E) (a : A) → cond test (Err x) r ≡ Ok a → (test ≡ false) × (r ≡ Ok a)
test_false false r x a e = (refl, e)
test_false true r x a e = absurd (cc)

below_test : (a b : ℕ) → nat_lt a b ≡ true → a < b
below_test a b e = grind (arith, nat_tests)

most_test : (a b : ℕ) → nat_le a b ≡ true → a ≤ b
most_test a b e = grind (arith, nat_tests)

numbered_ok : (test : Bool) (n r : ℕ) → nat_lt n 32 ≡ test → cond test (Ok n) (Err kind.Operand) ≡ Ok r → r < 32
numbered_ok true n r t e = let same : n ≡ r = cc in let low : n < 32 = below_test n 32 t in omega arith
numbered_ok false n r t e = absurd (cc)

register_step : (short long : Bool) (token : List ℕ) (r : ℕ) → is_short_register token ≡ short → is_long_register token ≡ long → register_of token ≡ Ok r → r < 32
unfolding register_of
register_step true long token r s l e = numbered_ok _ (slice_index token 1 - 0x30) r refl (rw s at e)
register_step false true token r s l e = numbered_ok _ _ r refl (rw (s, l) at e)
register_step false false token r s l e = absurd (let clash = rw (s, l) at e in cc)

pub register_ok : (token : List ℕ) (r : ℕ) → register_of token ≡ Ok r → r < 32
register_ok token r e = register_step _ _ token r refl refl e

pub at_most_ok : (limit : ℕ) (o : Option ℕ) (n : ℕ) → at_most limit o ≡ Ok n → n ≤ limit
at_most_ok limit (Some m) n e =
    let passed = test_true (nat_le m limit) (Ok m) kind.Range n e in
    let same : m ≡ n = (let h = passed.1 in cc) in
    let most : m ≤ limit = most_test m limit passed.0 in
    omega arith
at_most_ok limit None n e = absurd (cc)

negative_12 : (size : ℕ) (z : ℤ) → size ≤ MAX_IMMEDIATE + 1 → neg_ℤ (pos size) ≡ z → Is12Bits z
negative_12 zero z h e = subst Is12Bits e (omega arith)
negative_12 (suc n) z h e = subst Is12Bits e (omega arith)

positive_12 : (size : ℕ) (z : ℤ) → size ≤ MAX_IMMEDIATE → pos size ≡ z → Is12Bits z
positive_12 size z h e = subst Is12Bits e h

twelve_step : (negative : Bool) (size : Option ℕ) (z : ℤ) → immediate_of_12_bits (record { negative = negative; size = size }) ≡ Ok z → Is12Bits z
unfolding immediate_of_12_bits
twelve_step true size z e =
    let read = then_ok (at_most (MAX_IMMEDIATE + 1) size) (λ n. Ok (neg_ℤ (pos n))) z e in
    negative_12 read.0 z (at_most_ok (MAX_IMMEDIATE + 1) size read.0 read.1) (let h = read.2 in cc)
twelve_step false size z e =
    let read = then_ok (at_most MAX_IMMEDIATE size) (λ n. Ok (pos n)) z e in
    positive_12 read.0 z (at_most_ok MAX_IMMEDIATE size read.0 read.1) (let h = read.2 in cc)

pub twelve_ok : (imm : Immediate) (z : ℤ) → immediate_of_12_bits imm ≡ Ok z → Is12Bits z
twelve_ok imm z e = twelve_step imm.negative imm.size z e

up_to_step : (negative : Bool) (size : Option ℕ) (limit n : ℕ) → immediate_up_to limit (record { negative = negative; size = size }) ≡ Ok n → n ≤ limit
unfolding immediate_up_to
up_to_step true size limit n e = let none : n ≤ 0 = at_most_ok 0 size n e in omega arith
up_to_step false size limit n e = at_most_ok limit size n e

pub up_to_ok : (limit : ℕ) (imm : Immediate) (n : ℕ) → immediate_up_to limit imm ≡ Ok n → n ≤ limit
up_to_ok limit imm n e = up_to_step imm.negative imm.size limit n e

abbrev C1Low : Result MemoryOperand ListingFaultKind → Type 0
C1Low (Ok operand) = operand.c1 < 32
C1Low (Err f) = Unit {0}

pub memory_ok : (token : List ℕ) (operand : MemoryOperand) → memory_operand_of token ≡ Ok operand → operand.c1 < 32
unfolding memory_operand_of memory_operand_from
memory_ok token operand e =
    let imm = then_ok (immediate_of (before_bracket token)) (λ i. memory_operand_from i (from_bracket token)) operand e in
    let part = test_true (is_bracketed (from_bracket token)) (register_of (between_brackets (from_bracket token)) >>= (λ c1. Ok (record { imm = imm.0; c1 = c1 }))) kind.Operand operand imm.2 in
    let reg = then_ok (register_of (between_brackets (from_bracket token))) (λ c1. Ok (record { imm = imm.0; c1 = c1 })) operand part.1 in
    let low : reg.0 < 32 = register_ok (between_brackets (from_bracket token)) reg.0 reg.1 in
    subst C1Low reg.2 low

-- each label is at or before the end of the instruction lines
abbrev pub IsBounded : LabelParts → Type 0
IsBounded labels = (name : List ℕ) (place : LabelLine) → labels.label name ≡ Some place → place.instructions ≤ labels.instructions

named_ok : (labels : LabelParts) (o : Option LabelLine) (n : ℕ) → ((place : LabelLine) → o ≡ Some place → place.instructions ≤ labels.instructions)
    → target_of labels (target.Named (option_map (λ place. place.instructions) o)) ≡ Ok n → n ≤ labels.instructions
unfolding target_of
named_ok labels (Some place) n bounded e = let same : place.instructions ≡ n = cc in let h = bounded place refl in omega arith
named_ok labels None n bounded e = absurd (cc)

target_step : (numbered named : Bool) (labels : LabelParts) (token : List ℕ) (operand : TargetOperand) (n : ℕ) → IsBounded labels → begins_at_sign token ≡ numbered → is_label_name token ≡ named
    → target_operand_of labels token ≡ Ok operand → target_of labels operand ≡ Ok n → n ≤ labels.instructions
unfolding target_operand_of target_of
target_step true named labels token operand n bounded a l e f =
    let number = then_ok (number_of_digits 10 (drop 1 token)) (λ m. Ok (target.Number m)) operand (rw a at e) in
    let same : target.Number number.0 ≡ operand = (let h = number.2 in cc) in
    at_most_ok labels.instructions number.0 n (ap (target_of labels) same ∙ f)
target_step false true labels token operand n bounded a l e f =
    let same : target.Named (option_map (λ place. place.instructions) (labels.label token)) ≡ operand = (let h = rw (a, l) at e in cc) in
    named_ok labels (labels.label token) n (λ place h. bounded token place h) (ap (target_of labels) same ∙ f)
target_step false false labels token operand n bounded a l e f = absurd (let clash = rw (a, l) at e in cc)

pub target_ok : (labels : LabelParts) (token : List ℕ) (operand : TargetOperand) (n : ℕ) → IsBounded labels
    → target_operand_of labels token ≡ Ok operand → target_of labels operand ≡ Ok n → n ≤ labels.instructions
target_ok labels token operand n bounded e f = target_step _ _ labels token operand n bounded refl refl e f

-- object types
pub type_ok : (operand : TypeOperand) (otype : ℕ) → type_in_range operand ≡ Ok otype → IsLawfulType otype
unfolding type_in_range
type_ok Unsealed otype e = let same : unsealed_type ≡ otype = cc in subst IsLawfulType same (record { below = omega arith; not_reserved = λ h. omega arith; not_reserved_either = λ h. omega arith })
type_ok Sentry otype e = let same : sentry_type ≡ otype = cc in subst IsLawfulType same (record { below = omega arith; not_reserved = λ h. omega arith; not_reserved_either = λ h. omega arith })
type_ok (Number number) otype e =
    let most : otype ≤ last_sealable_type = at_most_ok last_sealable_type number otype e in
    record { below = omega arith; not_reserved = λ h. omega arith; not_reserved_either = λ h. omega arith }
