-- What the pseudo-instructions on registers leave: numbers, of the integers in their sources.
use Rattle.std.specs.Prelude.{ℕ, ◌-◌, ◌%◌, ◌^◌, ◌==◌, not, nat_lt}
use Rattle.cheri_model.specs.declared.width.Width.TheVariants.{Byte, Half, Word}
use Rattle.cap_model.specs.results.Readings.{number_of}
use Rattle.cheri_model.specs.instructions.Integers.{difference, word_difference, extended}
use Rattle.cheri_model.specs.instructions.Integers.{is_less_signed}
use Rattle.asm_expansions.specs.declared.operation.PseudoTwoOp.{PseudoTwoOp}
use Rattle.asm_expansions.specs.declared.operation.PseudoTwoOp.TheVariants as two
use Rattle.asm_expansions.specs.declared.operation.PseudoThreeOp.{PseudoThreeOp}
use Rattle.asm_expansions.specs.declared.operation.PseudoThreeOp.TheVariants as three

-- of one source
unfoldable pub two_value : PseudoTwoOp → ℕ → ℕ
two_value two.Mv a = a
two_value two.Not a = 2 ^ 64 - 1 - a
two_value two.Neg a = difference 0 a
two_value two.Negw a = word_difference 0 a
two_value two.SextW a = extended Word a
two_value two.ZextB a = a % 2 ^ 8
two_value two.SextB a = extended Byte a
two_value two.SextH a = extended Half a
two_value two.ZextH a = a % 2 ^ 16
two_value two.ZextW a = a % 2 ^ 32
two_value two.Seqz a = number_of (a == 0)
two_value two.Snez a = number_of (not (a == 0))
two_value two.Sltz a = number_of (is_less_signed a 0)
two_value two.Sgtz a = number_of (is_less_signed 0 a)

-- of two
unfoldable pub three_value : PseudoThreeOp → ℕ → ℕ → ℕ
three_value three.Sgt a b = number_of (is_less_signed b a)
three_value three.Sgtu a b = number_of (nat_lt b a)
three_value three.CSub a b = difference a b
