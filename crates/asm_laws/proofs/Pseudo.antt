-- The pseudo-instructions on registers leave what they mean.
use Rattle.std.proofs.Common.{◌≡◌, refl, ap, ◌∙◌, ℕ, ◌%◌, ◌^◌, ◌<◌, ◌==◌, List, [], ◌∷◌, arith}
use Rattle.std.specs.Prelude.{pos, negsuc, not, nat_lt, bit_and, bit_xor, ◌-◌}
use Rattle.cheri_model.specs.declared.width.Width.TheVariants.{Byte, Half, Word}
use Rattle.cheri_model.specs.declared.instr.Instr.{Instr}
use Rattle.cheri_model.specs.declared.instr.Instr.TheVariants.{Addi, Addiw, Xori, Andi, Sltiu, Sub}
use Rattle.cheri_model.specs.declared.instr.Instr.TheVariants.{Subw, Slt, Sltu, Slli, Srai, Srli}
use Rattle.cap_model.specs.values.CapValue.{CapValue}
use Rattle.cap_model.specs.results.Readings.{number_of}
use Rattle.cheri_model.specs.instructions.Integers.{sum, word_sum, difference, word_difference}
use Rattle.cheri_model.specs.instructions.Integers.{shifted_left, shifted_arithmetic, shifted_right}
use Rattle.cheri_model.specs.instructions.Integers.{is_less_signed, extended}
use Rattle.cheri_model.specs.steps.Actions.{action, Put}
use Rattle.cheri_model.specs.steps.Hart.{HartState, put, integer, word_of_integer}
use Rattle.cheri_model.proofs.Runs.Instructions.{address_of-word_of_integer}
use Rattle.asm_expansions.specs.declared.operation.PseudoTwoOp.{PseudoTwoOp}
use Rattle.asm_expansions.specs.declared.operation.PseudoTwoOp.TheVariants as two
use Rattle.asm_expansions.specs.declared.operation.PseudoThreeOp.{PseudoThreeOp}
use Rattle.asm_expansions.specs.declared.operation.PseudoThreeOp.TheVariants as three
use Rattle.asm_expansions.specs.Expansions.{pseudo_two, pseudo_three}
use Rattle.asm_laws.specs.Stretches.{StandsAt, HasRegisters, Leaves}
use Rattle.asm_laws.specs.Meanings.{two_value, three_value}
use Rattle.asm_laws.proofs.Writes.{Writes, writes_more, written_back, advanced, leaves}
use Rattle.asm_laws.proofs.Constants.{zero_is, writes_number}
use Rattle.asm_laws.proofs.Numbers.{byte_extended, half_extended, half_cut, word_cut, word_extended}
use Rattle.asm_laws.proofs.Numbers.{byte_cut, same_sum, complement, is_zero, not_zero}

left_word : (a k : ℕ) → shifted_left a k < 2 ^ 64
unfolding shifted_left
left_word a k = omega arith

-- a shift to the left, and then an operation on what it left
shifts_write : (second : Instr) (f : ℕ → ℕ) (d s k n : ℕ) (hart : HartState) → HasRegisters hart →
    d < 32 →
    ((h : HartState) → action second h ≡ Put d (word_of_integer (f (integer h d)))) →
    f (shifted_left (integer hart s) k) ≡ n →
    Writes (Slli d s k ∷ second ∷ []) d (word_of_integer n) hart
unfolding action
shifts_write second f d s k n hart has below is gives =
    let u = shifted_left (integer hart s) k in
    writes_more (Slli d s k ∷ []) second d (word_of_integer u)
    (word_of_integer (f (integer (advanced 1 (put d (word_of_integer u) hart)) d))) (word_of_integer n) hart
    (writes_number (Slli d s k) d u u hart refl refl)
    (is (advanced 1 (put d (word_of_integer u) hart)))
    (written_back f 1 d u n (word_of_integer u) hart has below (address_of-word_of_integer u (left_word _ k)) gives)

pub two_write : (op : PseudoTwoOp) (d s : ℕ) (hart : HartState) → HasRegisters hart → d < 32 →
    integer hart s < 2 ^ 64 →
    Writes (pseudo_two op d s) d (word_of_integer (two_value op (integer hart s))) hart
unfolding pseudo_two two_value action
two_write two.Mv d s hart has below size =
    let a = integer hart s in writes_number (Addi d s (pos 0)) d (sum a 0) a hart refl (same_sum a size)
two_write two.Not d s hart has below size =
    let a = integer hart s in
    writes_number (Xori d s (negsuc 0)) d (bit_xor a 18446744073709551615) (2 ^ 64 - 1 - a) hart refl (complement a size)
two_write two.Neg d s hart has below size =
    let a = integer hart s in
    writes_number (Sub d 0 s) d (difference (integer hart 0) a) (difference 0 a) hart refl (ap (λ (z : ℕ). difference z a) (zero_is hart has))
two_write two.Negw d s hart has below size =
    let a = integer hart s in
    writes_number (Subw d 0 s) d (word_difference (integer hart 0) a) (word_difference 0 a) hart refl
    (ap (λ (z : ℕ). word_difference z a) (zero_is hart has))
two_write two.SextW d s hart has below size =
    let a = integer hart s in writes_number (Addiw d s (pos 0)) d (word_sum a 0) (extended Word a) hart refl (word_extended a)
two_write two.ZextB d s hart has below size =
    let a = integer hart s in writes_number (Andi d s (pos 255)) d (bit_and a 255) (a % 2 ^ 8) hart refl (byte_cut a)
two_write two.SextB d s hart has below size =
    let a = integer hart s in
    shifts_write (Srai d d 56) (λ x. shifted_arithmetic x 56) d s 56 (extended Byte a) hart has below (λ h. refl) (byte_extended a)
two_write two.SextH d s hart has below size =
    let a = integer hart s in
    shifts_write (Srai d d 48) (λ x. shifted_arithmetic x 48) d s 48 (extended Half a) hart has below (λ h. refl) (half_extended a)
two_write two.ZextH d s hart has below size =
    let a = integer hart s in
    shifts_write (Srli d d 48) (λ x. shifted_right x 48) d s 48 (a % 2 ^ 16) hart has below (λ h. refl) (half_cut a)
two_write two.ZextW d s hart has below size =
    let a = integer hart s in
    shifts_write (Srli d d 32) (λ x. shifted_right x 32) d s 32 (a % 2 ^ 32) hart has below (λ h. refl) (word_cut a)
two_write two.Seqz d s hart has below size =
    let a = integer hart s in
    writes_number (Sltiu d s (pos 1)) d (number_of (nat_lt a 1)) (number_of (a == 0)) hart refl (ap number_of (is_zero a))
two_write two.Snez d s hart has below size =
    let a = integer hart s in
    writes_number (Sltu d 0 s) d (number_of (nat_lt (integer hart 0) a)) (number_of (not (a == 0))) hart refl
    (ap (λ (z : ℕ). number_of (nat_lt z a)) (zero_is hart has) ∙ ap number_of (not_zero a))
two_write two.Sltz d s hart has below size =
    let a = integer hart s in
    writes_number (Slt d s 0) d (number_of (is_less_signed a (integer hart 0))) (number_of (is_less_signed a 0)) hart refl
    (ap (λ (z : ℕ). number_of (is_less_signed a z)) (zero_is hart has))
two_write two.Sgtz d s hart has below size =
    let a = integer hart s in
    writes_number (Slt d 0 s) d (number_of (is_less_signed (integer hart 0) a)) (number_of (is_less_signed 0 a)) hart refl
    (ap (λ (z : ℕ). number_of (is_less_signed z a)) (zero_is hart has))

pub three_writes : (op : PseudoThreeOp) (d s t : ℕ) (hart : HartState) →
    Writes (pseudo_three op d s t ∷ []) d (word_of_integer (three_value op (integer hart s) (integer hart t))) hart
unfolding pseudo_three three_value action
three_writes three.Sgt d s t hart =
    let n = number_of (is_less_signed (integer hart t) (integer hart s)) in writes_number (Slt d t s) d n n hart refl refl
three_writes three.Sgtu d s t hart =
    let n = number_of (nat_lt (integer hart t) (integer hart s)) in writes_number (Sltu d t s) d n n hart refl refl
three_writes three.CSub d s t hart =
    let n = difference (integer hart s) (integer hart t) in writes_number (Sub d s t) d n n hart refl refl

pub two_leaves : (program : List Instr) (hart : HartState) (memory : List CapValue) (op : PseudoTwoOp) (d s : ℕ) →
    d < 32 → integer hart s < 2 ^ 64 → HasRegisters hart →
    StandsAt program (pseudo_two op d s) hart →
    Leaves program (pseudo_two op d s) hart memory (put d (word_of_integer (two_value op (integer hart s))) hart)
two_leaves program hart memory op d s below size has at =
    leaves program (pseudo_two op d s) d _ hart memory at (two_write op d s hart has below size)

pub three_leaves : (program : List Instr) (hart : HartState) (memory : List CapValue) (op : PseudoThreeOp) (d s t : ℕ) →
    StandsAt program (pseudo_three op d s t ∷ []) hart →
    Leaves program (pseudo_three op d s t ∷ []) hart memory (put d (word_of_integer (three_value op (integer hart s) (integer hart t))) hart)
three_leaves program hart memory op d s t at =
    leaves program (pseudo_three op d s t ∷ []) d _ hart memory at (three_writes op d s t hart)

pub ruleset pseudo = (two_leaves, three_leaves)
