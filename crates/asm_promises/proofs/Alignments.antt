-- Alignments that statements say: small ones, and powers of 2.
use Rattle.std.proofs.Common.{◌≡◌, ℕ, ◌^◌, ◌≤◌, nat_le, min, Bool, true, false, cond, List, Option, Some, None, Ok, subst, lit≤, arith}
use Rattle.std.specs.Prelude.{◌&&◌}
use Rattle.std.specs.Int.{is_power_of_two}
use Rattle.std.proofs.Math.Nat.{pow-le-pow_right}
use Rattle.std.proofs.lemmas.Bool.{and_parts}
use Rattle.std.proofs.lemmas.Bool.Decides.{nat_tests}
use Rattle.canonical.proofs.round_trip.Ranges.{test_true}
use Rattle.asm_tokens.specs.declared.fault.AsmFaultKind.TheVariants as faults
use Rattle.asm_tokens.specs.Tokens.{TokenParts}
use Rattle.asm_expressions.specs.Tokens.{fault_at}
use Rattle.asm_statements.specs.Statements.{StatementParts}
use Rattle.asm_drafts.specs.declared.names.TheConstants.{MAX_ALIGN}
use Rattle.asm_drafts.specs.Drafts.{DraftParts}
use Rattle.asm_drafts.specs.Names.{common_align, power_at, align_said, common_align_of, up_to, or_zero}
use Rattle.asm_drafts.specs.Operands.{early_if_said, first_of}
use Rattle.asm_drafts.specs.Padding.{exponent_unit, byte_unit}
use Rattle.asm_listable.proofs.Starts.{then_ok}
use Rattle.asm_promises.proofs.Units.{IsUnit, power_unit, exponent_unit as power_is_unit}

pub power_small : (tokens : List TokenParts) (at number unit : ℕ) → power_at tokens at number ≡ Ok unit → unit ≤ MAX_ALIGN
unfolding power_at
power_small tokens at number unit e =
    let x = test_true _ (Ok number) (fault_at tokens faults.Range at) unit e in
    let is : number ≡ unit = (let k = x.1 in cc) in
    let small : nat_le number MAX_ALIGN ≡ true = (and_parts _ (nat_le number MAX_ALIGN) x.0).1 in
    let few : number ≤ MAX_ALIGN = grind (arith, nat_tests) in
    subst (λ (n : ℕ). n ≤ MAX_ALIGN) is few

pub if_small : (test : Bool) (a b : ℕ) → a ≤ 16 → b ≤ 16 → cond test a b ≤ 16
if_small true a b p q = p
if_small false a b p q = q

pub common_small : (size : ℕ) → common_align size ≤ MAX_ALIGN
unfolding common_align
common_small size =
    let small = if_small (nat_le 16 size) 16 _ (lit≤ tt) (if_small (nat_le 8 size) 8 _ (lit≤ tt) (if_small (nat_le 4 size) 4 _ (lit≤ tt) (if_small (nat_le 2 size) 2 1 (lit≤ tt) (lit≤ tt)))) in
    omega arith

pub said_small : (tokens : List TokenParts) (at size unit : ℕ) (said : Option ℕ) → align_said tokens at size said ≡ Ok unit → unit ≤ MAX_ALIGN
said_small tokens at size unit (Some align) e = power_small tokens at align unit e
said_small tokens at size unit None e =
    let is : common_align size ≡ unit = cc in subst (λ (n : ℕ). n ≤ MAX_ALIGN) is (common_small size)

pub align_small : (tokens : List TokenParts) (parts : DraftParts) (s : StatementParts) (size unit : ℕ) → common_align_of tokens parts s size ≡ Ok unit → unit ≤ MAX_ALIGN
unfolding common_align_of
align_small tokens parts s size unit e =
    let x = then_ok (early_if_said tokens parts s 1 (up_to MAX_ALIGN)) (λ align. align_said tokens (first_of s 1) size align) unit e in
    said_small tokens (first_of s 1) size unit x.0 x.2

pub exponent_small : (tokens : List TokenParts) (parts : DraftParts) (s : StatementParts) (unit : ℕ) → exponent_unit tokens parts s ≡ Ok unit → unit ≤ MAX_ALIGN
unfolding exponent_unit
exponent_small tokens parts s unit e =
    let x = then_ok (early_if_said tokens parts s 0 (up_to 20)) (λ exponent. Ok (2 ^ min (or_zero exponent) 20)) unit e in
    let is : 2 ^ min (or_zero x.0) 20 ≡ unit = (let k = x.2 in cc) in
    let least : min (or_zero x.0) 20 ≤ 20 = omega arith in
    let most : 2 ^ min (or_zero x.0) 20 ≤ 2 ^ 20 = pow-le-pow_right {n = 2} (lit≤ tt) least in
    subst (λ (n : ℕ). n ≤ MAX_ALIGN) is most

pub byte_small : (tokens : List TokenParts) (parts : DraftParts) (s : StatementParts) (unit : ℕ) → byte_unit tokens parts s ≡ Ok unit → unit ≤ MAX_ALIGN
unfolding byte_unit
byte_small tokens parts s unit e =
    let x = then_ok (early_if_said tokens parts s 0 (up_to MAX_ALIGN)) (λ said. power_at tokens (first_of s 0) _) unit e in
    power_small tokens (first_of s 0) _ unit x.2

pub power_is : (tokens : List TokenParts) (at number unit : ℕ) → power_at tokens at number ≡ Ok unit → IsUnit unit
unfolding power_at
power_is tokens at number unit e =
    let x = test_true (is_power_of_two number && nat_le number MAX_ALIGN) (Ok number) (fault_at tokens faults.Range at) unit e in
    let is : number ≡ unit = (let k = x.1 in cc) in
    subst IsUnit is (power_unit number (and_parts (is_power_of_two number) (nat_le number MAX_ALIGN) x.0).0)

pub exponent_is : (tokens : List TokenParts) (parts : DraftParts) (s : StatementParts) (unit : ℕ) → exponent_unit tokens parts s ≡ Ok unit → IsUnit unit
unfolding exponent_unit
exponent_is tokens parts s unit e =
    let x = then_ok (early_if_said tokens parts s 0 (up_to 20)) (λ exponent. Ok (2 ^ min (or_zero exponent) 20)) unit e in
    let is : 2 ^ min (or_zero x.0) 20 ≡ unit = (let k = x.2 in cc) in
    subst IsUnit is (power_is_unit (min (or_zero x.0) 20))

pub byte_is : (tokens : List TokenParts) (parts : DraftParts) (s : StatementParts) (unit : ℕ) → byte_unit tokens parts s ≡ Ok unit → IsUnit unit
unfolding byte_unit
byte_is tokens parts s unit e =
    let x = then_ok (early_if_said tokens parts s 0 (up_to MAX_ALIGN)) (λ said. power_at tokens (first_of s 0) _) unit e in
    power_is tokens (first_of s 0) _ unit x.2
