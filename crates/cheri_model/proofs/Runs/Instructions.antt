-- Each instruction's form gives the instruction back, and an integer that a register holds is read back.
use Rattle.std.proofs.Common.{◌≡◌, refl, ℕ, ◌%◌, ◌^◌, ◌<◌, ap, arith}
use Rattle.cheri_model.specs.declared.instr.Instr.{Instr}
use Rattle.cheri_model.specs.declared.instr.Instr.TheVariants.{CSetAddr}
use Rattle.cheri_model.specs.instructions.Form.{form_of, instr_of, three_instr, two_instr, immediate_instr, shift_instr, word_shift_instr, upper_instr, load_instr, store_instr, branch_instr}
use Rattle.std.specs.Int.{cast_signed, cast_unsigned, w32, w64}
use Rattle.cheri_model.specs.instructions.Integers.{extended_word}
use Rattle.cap_model.specs.values.Capability.{capability_at}
use Rattle.cheri_model.specs.steps.Hart.{word_of_integer}
use Rattle.cap_model.specs.results.Addresses.{address_of}

pub instr_of-form_of : (i : Instr) → instr_of (form_of i) ≡ i
unfolding form_of instr_of three_instr two_instr immediate_instr shift_instr word_shift_instr upper_instr load_instr store_instr branch_instr
instr_of-form_of (CSetAddr cd c1 c2) = refl
instr_of-form_of _ = refl

pub ruleset forms_back = (instr_of-form_of)

pub address_of-word_of_integer : (n : ℕ) → n < 2 ^ 64 → address_of (word_of_integer n) ≡ n
unfolding address_of capability_at
address_of-word_of_integer n below = omega arith

-- a number of which only the low 32 bits count
pub extended_low : (n : ℕ) → extended_word (n % 2 ^ 32) ≡ extended_word n
unfolding extended_word
extended_low n =
    let same : n % 2 ^ 32 % 2 ^ 32 ≡ n % 2 ^ 32 = omega arith in
    ap (λ (m : ℕ). cast_unsigned w64 (cast_signed w32 m)) same

pub ruleset integers_back = (address_of-word_of_integer)
