-- The instructions of `li` leave the constant.
use Rattle.std.proofs.Common.{◌≡◌, inl, inr, refl, sym, ap, subst, ◌∙◌, ℕ, zero, suc, ◌+◌, ◌*◌, ◌%◌}
use Rattle.std.proofs.Common.{◌^◌, ◌<◌, ◌==◌, Bool, true, false, not, List, [], ◌∷◌, ◌++◌}
use Rattle.std.proofs.Common.{append_assoc, length, if◌then◌else◌, arith}
use Rattle.std.specs.Prelude.{ℤ, pos, negsuc, ◌&&◌, FitsSigned}
use Rattle.std.specs.Int.{w64}
use Rattle.std.proofs.lemmas.Bool.{cases_lt, and_parts, eqb-true}
use Rattle.cheri_model.specs.declared.instr.Instr.{Instr}
use Rattle.cheri_model.specs.declared.instr.Instr.TheVariants.{Addi, Addiw, Lui, Slli}
use Rattle.cheri_model.specs.instructions.Integers.{sum, shifted_left, word_sum, upper_immediate}
use Rattle.cap_model.specs.values.CapValue.{CapValue}
use Rattle.cap_model.specs.results.Addresses.{address_of}
use Rattle.cheri_model.specs.steps.Actions.{action, Put}
use Rattle.cheri_model.specs.steps.Hart.{HartState, put, integer, word_of_integer}
use Rattle.cheri_model.proofs.Runs.Instructions.{address_of-word_of_integer}
use Rattle.asm_expansions.specs.Immediates.{bits_of, low, high_bits, is_signed}
use Rattle.asm_expansions.specs.Constants.{ends_in_zeros, word_constant, is_word, upper}
use Rattle.asm_expansions.specs.Constants.{upper_place, upper_rest, placed, constant, li}
use Rattle.asm_laws.specs.Stretches.{StandsAt, HasRegisters, Leaves}
use Rattle.asm_laws.proofs.Writes.{Writes, writes_one, writes_more, written_back, advanced, leaves}
use Rattle.asm_laws.proofs.Words.{IsWordBits, extended_fits, low_alone, high_alone, both_parts}
use Rattle.asm_expansions.proofs.Levels.{upper_below}
use Rattle.asm_laws.proofs.Uppers.{IsSmall, IsRest, word_bits, upper_lowest, upper_is_rest}
use Rattle.asm_laws.proofs.Uppers.{upper_and_low, upper_alone}

-- c0 is 0
pub zero_is : (hart : HartState) → HasRegisters hart → integer hart 0 ≡ 0
zero_is hart has = ap address_of has.zero ∙ address_of-word_of_integer 0 (omega arith)

-- an instruction that computes a number
pub writes_number : (i : Instr) (rd m n : ℕ) (hart : HartState) →
    action i hart ≡ Put rd (word_of_integer m) → m ≡ n →
    Writes (i ∷ []) rd (word_of_integer n) hart
writes_number i rd m n hart is same =
    writes_one i rd (word_of_integer n) hart (is ∙ ap (λ (k : ℕ). Put rd (word_of_integer k)) same)

-- ---- of 32 bits

picked : (a b : Bool) (x y z : List Instr) (rd : ℕ) (v : CapValue) (hart : HartState) →
    (a ≡ true → Writes x rd v hart) → (b ≡ true → Writes y rd v hart) → Writes z rd v hart →
    Writes (if a then x else if b then y else z) rd v hart
picked true b x y z rd v hart first second third = first refl
picked false true x y z rd v hart first second third = second refl
picked false false x y z rd v hart first second third = third

low_writes : (rd n : ℕ) (hart : HartState) → HasRegisters hart → IsWordBits n → high_bits n ≡ 0 →
    Writes (Addiw rd 0 (low n) ∷ []) rd (word_of_integer n) hart
unfolding action
low_writes rd n hart has is none =
    writes_number (Addiw rd 0 (low n)) rd (word_sum (integer hart 0) (bits_of (low n))) n hart refl
    (ap (λ (a : ℕ). word_sum a (bits_of (low n))) (zero_is hart has) ∙ low_alone n is none)

high_writes : (rd n : ℕ) (hart : HartState) → IsWordBits n → n % 4096 ≡ 0 →
    Writes (Lui rd (high_bits n) ∷ []) rd (word_of_integer n) hart
unfolding action
high_writes rd n hart is none =
    writes_number (Lui rd (high_bits n)) rd (upper_immediate (high_bits n)) n hart refl (high_alone n is none)

upper_word : (n : ℕ) → upper_immediate (high_bits n) < 2 ^ 64
unfolding upper_immediate
upper_word n = extended_fits _

both_write : (rd n : ℕ) (hart : HartState) → HasRegisters hart → rd < 32 → IsWordBits n →
    Writes (Lui rd (high_bits n) ∷ Addiw rd rd (low n) ∷ []) rd (word_of_integer n) hart
unfolding action
both_write rd n hart has below is =
    let u = upper_immediate (high_bits n) in
    let first = writes_number (Lui rd (high_bits n)) rd u u hart refl refl in
    let f : ℕ → ℕ = λ a. word_sum a (bits_of (low n)) in
    writes_more (Lui rd (high_bits n) ∷ []) (Addiw rd rd (low n)) rd (word_of_integer u)
    (word_of_integer (f (integer (advanced 1 (put rd (word_of_integer u) hart)) rd))) (word_of_integer n) hart first refl
    (written_back f 1 rd u n (word_of_integer u) hart has below (address_of-word_of_integer u (upper_word n)) (both_parts n is))

writes_word_constant : (rd n : ℕ) (hart : HartState) → HasRegisters hart → rd < 32 → IsWordBits n →
    Writes (word_constant rd n) rd (word_of_integer n) hart
unfolding word_constant
writes_word_constant rd n hart has below is =
    picked (high_bits n == 0) (ends_in_zeros n && not (rd == 0)) _ _ _ rd _ hart
    (λ none. low_writes rd n hart has is (eqb-true _ _ none))
    (λ alone. high_writes rd n hart is (eqb-true _ _ (and_parts (ends_in_zeros n) _ alone).0))
    (both_write rd n hart has below is)

-- ---- of 64 bits

-- the size of a number of which so many levels are taken
unfoldable pub limit : ℕ → ℕ
limit zero = 2 ^ 27
limit (suc levels) = 4096 * limit levels

-- the rest in its place
shifted_writes : (above : List Instr) (rd k r u : ℕ) (hart : HartState) → HasRegisters hart →
    rd < 32 → r < 2 ^ 64 → k < 64 →
    r * 2 ^ k % 2 ^ 64 ≡ u → Writes above rd (word_of_integer r) hart →
    Writes (above ++ Slli rd rd k ∷ []) rd (word_of_integer u) hart
unfolding action shifted_left
shifted_writes above rd k r u hart has below size short back first =
    let f : ℕ → ℕ = λ a. shifted_left a k in
    let amount : k % 64 ≡ k = omega arith in
    writes_more above (Slli rd rd k) rd (word_of_integer r)
    (word_of_integer (f (integer (advanced (length above) (put rd (word_of_integer r) hart)) rd))) (word_of_integer u) hart first refl
    (written_back f (length above) rd r u (word_of_integer r) hart has below (address_of-word_of_integer r size)
    (ap (λ (e : ℕ). r * 2 ^ e % 2 ^ 64) amount ∙ back))

-- the low part added
added_writes : (above : List Instr) (rd u n : ℕ) (hart : HartState) → HasRegisters hart → rd < 32 →
    u < 2 ^ 64 →
    (u + bits_of (low n)) % 2 ^ 64 ≡ n → Writes above rd (word_of_integer u) hart →
    Writes (above ++ Addi rd rd (low n) ∷ []) rd (word_of_integer n) hart
unfolding action sum
added_writes above rd u n hart has below size is first =
    let f : ℕ → ℕ = λ a. sum a (bits_of (low n)) in
    writes_more above (Addi rd rd (low n)) rd (word_of_integer u)
    (word_of_integer (f (integer (advanced (length above) (put rd (word_of_integer u) hart)) rd))) (word_of_integer n) hart first refl
    (written_back f (length above) rd u n (word_of_integer u) hart has below (address_of-word_of_integer u size) is)

-- the end of a constant: the low part, where it isn't 0
ended : (zeros : Bool) (above : List Instr) (i j : Instr) (rd : ℕ) (v : CapValue) (hart : HartState) →
    (zeros ≡ true → Writes (above ++ i ∷ []) rd v hart) →
    Writes ((above ++ i ∷ []) ++ j ∷ []) rd v hart →
    Writes (above ++ i ∷ (if zeros then [] else j ∷ [])) rd v hart
ended true above i j rd v hart alone both = alone refl
ended false above i j rd v hart alone both =
    subst (λ (instrs : List Instr). Writes instrs rd v hart) (append_assoc above (i ∷ []) (j ∷ [])) both

small_word : (n : ℕ) → IsSmall (2 ^ 27) n → IsWordBits n
small_word n (inl h) = inl (omega arith)
small_word n (inr h) = inr (omega arith, h.1)

-- what follows the rest of a constant
placed_writes : (above : List Instr) (b rd n : ℕ) (hart : HartState) → HasRegisters hart →
    rd < 32 → n < 2 ^ 64 → is_word n ≡ false →
    IsRest b (upper n) (upper_place n) (upper_rest n) →
    Writes above rd (word_of_integer (upper_rest n)) hart →
    Writes (above ++ placed rd n) rd (word_of_integer n) hart
unfolding placed
placed_writes above b rd n hart has below size long rest inner =
    let slli = Slli rd rd (upper_place n) in
    let lowest = upper_lowest n long in
    let shifted =
    shifted_writes above rd (upper_place n) (upper_rest n) (upper n) hart has below rest.below lowest.below rest.back inner in
    ended (ends_in_zeros n) above slli (Addi rd rd (low n)) rd (word_of_integer n) hart
    (λ zeros. subst (λ (u : ℕ). Writes (above ++ slli ∷ []) rd (word_of_integer u) hart) (upper_alone n size (eqb-true _ _ zeros)) shifted)
    (added_writes (above ++ slli ∷ []) rd (upper n) n hart has below (upper_below n) (upper_and_low n size) shifted)

picked_one : (a : Bool) (x y : List Instr) (rd : ℕ) (v : CapValue) (hart : HartState) →
    (a ≡ true → Writes x rd v hart) →
    (a ≡ false → Writes y rd v hart) → Writes (if a then x else y) rd v hart
picked_one true x y rd v hart first second = first refl
picked_one false x y rd v hart first second = second refl

pub writes_constant : (levels rd n : ℕ) (hart : HartState) → HasRegisters hart → rd < 32 →
    n < 2 ^ 64 →
    IsSmall (limit levels) n → Writes (constant levels rd n) rd (word_of_integer n) hart
unfolding constant limit
writes_constant zero rd n hart has below size small =
    writes_word_constant rd n hart has below (small_word n small)
writes_constant (suc levels) rd n hart has below size small =
    picked_one (is_word n) (word_constant rd n) (constant levels rd (upper_rest n) ++ placed rd n) rd (word_of_integer n) hart
    (λ word. writes_word_constant rd n hart has below (word_bits n size word))
    (λ long.
    let rest = upper_is_rest (limit levels) n long small in
    placed_writes (constant levels rd (upper_rest n)) (limit levels) rd n hart has below size long rest
    (writes_constant levels rd (upper_rest n) hart has below rest.below rest.small))

-- ---- `li`

li_limit : limit 3 ≡ 2 ^ 63
unfolding limit
li_limit = refl

any_small : (n : ℕ) → n < 2 ^ 64 → IsSmall (2 ^ 63) n
any_small n below =
    elim (cases_lt n (2 ^ 63)) [ inl h ↦ inl (omega arith) | inr h ↦ inr (omega arith, below) ]

bits_below : (n : ℤ) → FitsSigned w64 n → bits_of n < 2 ^ 64
bits_below (pos n) fits = let most = fits.sfits in omega arith
bits_below (negsuc n) fits = omega arith

pub writes_li : (rd : ℕ) (n : ℤ) (hart : HartState) → HasRegisters hart → rd < 32 →
    FitsSigned w64 n →
    Writes (li rd n) rd (word_of_integer (bits_of n)) hart
unfolding li action sum
writes_li rd n hart has below fits =
    let size = bits_below n fits in
    let all =
    subst (λ (b : ℕ). IsSmall b (bits_of n)) (sym li_limit) (any_small (bits_of n) size) in
    picked_one (is_signed n) (Addi rd 0 n ∷ []) (constant 3 rd (bits_of n)) rd (word_of_integer (bits_of n)) hart
    (λ short. writes_number (Addi rd 0 n) rd (sum (integer hart 0) (bits_of n)) (bits_of n) hart refl
    (ap (λ (a : ℕ). sum a (bits_of n)) (zero_is hart has) ∙ omega arith))
    (λ long. writes_constant 3 rd (bits_of n) hart has below size all)

pub li_leaves : (program : List Instr) (hart : HartState) (memory : List CapValue) (rd : ℕ) (n : ℤ) →
    FitsSigned w64 n → rd < 32 → HasRegisters hart → StandsAt program (li rd n) hart →
    Leaves program (li rd n) hart memory (put rd (word_of_integer (bits_of n)) hart)
li_leaves program hart memory rd n fits below has at =
    leaves program (li rd n) rd (word_of_integer (bits_of n)) hart memory at (writes_li rd n hart has below fits)

pub ruleset constants = (li_leaves)
