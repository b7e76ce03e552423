-- A constant's instructions by its levels, and where its upper part begins.
use Rattle.std.proofs.Common.{◌≡◌, ◌≢◌, refl, sym, ap, ◌∙◌, ℕ, zero, suc, ◌+◌, ◌-◌, ◌^◌, ◌<◌, ◌≤◌}
use Rattle.std.proofs.Common.{Bool, true, false, List, ◌++◌, append_assoc, length, length-append}
use Rattle.std.proofs.Common.{inl, inr, lt-ltb, le-ltb, leb-false, arith}
use Rattle.std.specs.Prelude.{nat_le, ◌||◌}
use Rattle.std.specs.Int.{w64, trailing_zeros}
use Rattle.std.proofs.lemmas.Bool.{cases_lt, true≢false}
use Rattle.std.proofs.lemmas.Nat.Bits.{bit_at-trailing_zeros}
use Rattle.cheri_model.specs.declared.instr.Instr.{Instr}
use Rattle.cheri_model.specs.runs.Replay.{IsPrefixOf}
use Rattle.asm_expansions.specs.Constants.{word_constant, placed, constant, is_word, upper}
use Rattle.asm_expansions.specs.Constants.{upper_rest}

-- ---- levels

-- a constant of 32 bits, at any level
pub constant_of_word : (levels rd bits : ℕ) → is_word bits ≡ true →
    constant levels rd bits ≡ word_constant rd bits
unfolding constant
constant_of_word zero rd bits is = refl
constant_of_word (suc levels) rd bits is = rw is refl

pub constant_at_zero : (levels rd bits : ℕ) → levels ≡ 0 →
    constant levels rd bits ≡ word_constant rd bits
unfolding constant
constant_at_zero zero rd bits is = refl
constant_at_zero (suc levels) rd bits is = absurd (omega arith)

-- and of more bits, at a level above 0
pub constant_step : (levels rd bits : ℕ) → levels ≢ 0 → is_word bits ≡ false →
    constant levels rd bits ≡ constant (levels - 1) rd (upper_rest bits) ++ placed rd bits
unfolding constant
constant_step zero rd bits some long = absurd (some refl)
constant_step (suc levels) rd bits some long =
    let same : suc levels - 1 ≡ levels = omega arith in
    rw (long, same) refl

-- what was written of it
pub step_written : (levels rd bits : ℕ) (before mid after : List Instr) → levels ≢ 0 →
    is_word bits ≡ false →
    mid ≡ before ++ constant (levels - 1) rd (upper_rest bits) → after ≡ mid ++ placed rd bits →
    after ≡ before ++ constant levels rd bits
step_written levels rd bits before mid after some long first second =
    second
    ∙ ap (λ (instrs : List Instr). instrs ++ placed rd bits) first
    ∙ append_assoc before (constant (levels - 1) rd (upper_rest bits)) (placed rd bits)
    ∙ ap (λ (instrs : List Instr). before ++ instrs) (sym (constant_step levels rd bits some long))

pub prefix_more : (first mid last : List Instr) → IsPrefixOf first mid → IsPrefixOf mid last →
    IsPrefixOf first last
prefix_more first mid last (more, one) (later, two) = (
  more ++ later,
  two ∙ ap (λ (instrs : List Instr). instrs ++ later) one
      ∙ append_assoc first more later,
)

-- how many they are
pub constant_length : (levels rd bits : ℕ) → levels ≢ 0 → is_word bits ≡ false →
    length (constant levels rd bits) ≡ length (constant (levels - 1) rd (upper_rest bits)) + length (placed rd bits)
constant_length levels rd bits some long =
    ap length (constant_step levels rd bits some long)
    ∙ length-append (constant (levels - 1) rd (upper_rest bits)) (placed rd bits)

-- ---- the upper part

-- a constant of more than 32 bits
pub long_bits : (bits : ℕ) → is_word bits ≡ false → (2 ^ 31 ≤ bits) × (bits < 2 ^ 64 - 2 ^ 31)
long_bits bits long =
    elim (cases_lt bits (2 ^ 31)) [
      | inl h ↦
          let word : is_word bits ≡ true =
          ap (λ (z : Bool). z || nat_le (2 ^ 64 - 2 ^ 31) bits) (lt-ltb bits (2 ^ 31) h) in
          absurd (true≢false (sym word ∙ long))
      | inr h ↦
          let rest : is_word bits ≡ nat_le (2 ^ 64 - 2 ^ 31) bits =
          ap (λ (z : Bool). z || nat_le (2 ^ 64 - 2 ^ 31) bits) (le-ltb bits (2 ^ 31) h) in
          (h, leb-false (2 ^ 64 - 2 ^ 31) bits (sym rest ∙ long))
    ]

-- its upper part isn't 0
pub some_upper : (bits : ℕ) → is_word bits ≡ false → 0 < upper bits
unfolding upper
some_upper bits long = let size = long_bits bits long in omega arith

pub upper_below : (bits : ℕ) → upper bits < 2 ^ 64
unfolding upper
upper_below bits = omega arith

pub place_below : (bits : ℕ) → is_word bits ≡ false → trailing_zeros w64 (upper bits) < 64
place_below bits long =
    (bit_at-trailing_zeros w64 (upper bits) (some_upper bits long) (upper_below bits)).0

pub ruleset counts = (constant_of_word, constant_at_zero, constant_length)

pub ruleset levels = (constant_of_word, constant_at_zero, place_below)
