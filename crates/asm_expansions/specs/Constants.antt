-- The instructions of `li`, which leave a constant of 64 bits in a register: those of GNU's
-- assembler for RV64I. The constant is given by its bits.
use Rattle.std.specs.Prelude.{ℕ, zero, suc, ℤ, ◌+◌, ◌-◌, ◌*◌, ◌/◌, ◌%◌, ◌^◌, ◌==◌, nat_lt, nat_le}
use Rattle.std.specs.Prelude.{Bool, not, ◌&&◌, ◌||◌, if◌then◌else◌, List, [], ◌∷◌, ◌++◌}
use Rattle.std.specs.Int.{w64, cast_signed, cast_unsigned, int_shr, trailing_zeros}
use Rattle.cheri_model.specs.declared.instr.Instr.{Instr}
use Rattle.cheri_model.specs.declared.instr.Instr.TheVariants.{Addi, Addiw, Lui, Slli}
use Rattle.asm_expansions.specs.Immediates.{bits_of, low, high_bits, is_signed}

-- whether the low part is 0
abbrev pub ends_in_zeros : ℕ → Bool
ends_in_zeros bits = bits % 4096 == 0

-- a constant of 32 bits: `lui` for the high part, and `addiw` for the low one. A part of 0 is left
-- out where the other is there, but not behind a `lui` to c0.
unfoldable pub word_constant : ℕ → ℕ → List Instr
word_constant rd bits =
    if high_bits bits == 0 then Addiw rd 0 (low bits) ∷ []
    else if ends_in_zeros bits && not (rd == 0) then Lui rd (high_bits bits) ∷ []
    else Lui rd (high_bits bits) ∷ Addiw rd rd (low bits) ∷ []

-- whether a constant is one of 32 bits with a sign
abbrev pub is_word : ℕ → Bool
is_word bits = nat_lt bits (2 ^ 31) || nat_le (2 ^ 64 - 2 ^ 31) bits

-- the constant without its low part; the place of its lowest 1, which is 12 or above; and what it
-- is from that place on, with its sign
unfoldable pub upper : ℕ → ℕ
upper bits = (bits + 2048) / 4096 * 4096 % 2 ^ 64

unfoldable pub upper_place : ℕ → ℕ
upper_place bits = trailing_zeros w64 (upper bits)

unfoldable pub upper_rest : ℕ → ℕ
upper_rest bits = cast_unsigned w64 (int_shr (cast_signed w64 (upper bits)) (upper_place bits))

-- what follows that rest: a shift to its place, and the low part, where it isn't 0
unfoldable pub placed : ℕ → ℕ → List Instr
placed rd bits =
    Slli rd rd (upper_place bits)
    ∷ (if ends_in_zeros bits then [] else Addi rd rd (low bits) ∷ [])

-- any constant. Each level takes 12 bits or more off it, so that three levels come from 64 bits to
-- 32.
unfoldable pub constant : ℕ → ℕ → ℕ → List Instr
constant zero rd bits = word_constant rd bits
constant (suc levels) rd bits =
    if is_word bits then word_constant rd bits
    else constant levels rd (upper_rest bits) ++ placed rd bits

-- `li`: a number of 12 bits takes one `addi`
unfoldable pub li : ℕ → ℤ → List Instr
li rd n = if is_signed n then Addi rd 0 n ∷ [] else constant 3 rd (bits_of n)
