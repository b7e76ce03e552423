-- The first instruction of a pair keeps the tag of PCC, and the second arrives at the place.
use Rattle.std.proofs.Common.{◌≡◌, ◌⊎◌, inl, inr, refl, sym, ap, ◌∙◌, ℕ, suc, ◌+◌, ◌-◌, ◌*◌, ◌/◌}
use Rattle.std.proofs.Common.{◌%◌, ◌^◌, ◌<◌, ◌≤◌, true, List, [], ◌∷◌, arith}
use Rattle.std.specs.Prelude.{ℤ, pos, negsuc}
use Rattle.std.proofs.lemmas.Bool.{cases_lt, ltb-true}
use Rattle.cheri_model.specs.declared.instr.Instr.{Instr}
use Rattle.cheri_model.specs.declared.instr.Instr.TheVariants.{AuiPcc, CIncOffsetImm, Addi}
use Rattle.cap_model.specs.values.CapValue.{CapValue}
use Rattle.cap_model.specs.results.Addresses.{address_of, with_address, set_address, inc_offset}
use Rattle.cap_model.specs.results.CapInstructions.{capability_result}
use Rattle.cheri_model.specs.instructions.Integers.{sum, extended_word, upper_immediate}
use Rattle.cheri_model.specs.steps.Actions.{action, Put}
use Rattle.cheri_model.specs.steps.Hart.{HartState, register, integer, put, word_of_integer}
use Rattle.cheri_model.proofs.Runs.Instructions.{address_of-word_of_integer}
use Rattle.asm_expansions.specs.Immediates.{bits_of, low, high_bits, is_reachable}
use Rattle.asm_laws.specs.Stretches.{Leaves}
use Rattle.asm_laws.specs.Pairs.{pair, Reaches}
use Rattle.asm_laws.proofs.Steps.{moved_address}
use Rattle.asm_laws.proofs.Writes.{Writes, advanced, writes_one, writes_more, written_back}
use Rattle.asm_laws.proofs.Writes.{value_back, leaves}
use Rattle.asm_laws.proofs.Words.{low_cases, extended_below, extended_above, extended_fits}
use Rattle.asm_laws.proofs.Windows.{near_is, back_is}

-- ---- the parts of a distance

-- the high part as 64 bits
upper_is : (n : ℤ) → is_reachable n ≡ true →
    upper_immediate (high_bits (bits_of n)) ≡ (bits_of n + 2048) / 4096 * 4096 % 2 ^ 64
unfolding upper_immediate high_bits extended_word
upper_is (pos n) reach =
    let small = ltb-true _ _ reach in
    let y : ℕ = (n + 2048) / 4096 % 2 ^ 20 * 2 ^ 12 % 2 ^ 32 in
    extended_below y (omega arith) ∙ omega arith
upper_is (negsuc n) reach =
    let small = ltb-true _ _ reach in
    let y : ℕ = ((2 ^ 64 - suc n) + 2048) / 4096 % 2 ^ 20 * 2 ^ 12 % 2 ^ 32 in
    elim (cases_lt n 2048) [
      | inl h ↦ extended_below y (omega arith) ∙ omega arith
      | inr h ↦
          let up = extended_above y (omega arith) (omega arith) in
          omega arith
    ]

-- what the first instruction adds is at most 2,048 above the distance, and less than that below
near_parts : (n p pc : ℕ) (l : ℕ) → n < 2 ^ 64 →
    ((n % 4096 < 2048) × (l ≡ n % 4096)) ⊎ ((2048 ≤ n % 4096) × (l + 4096 ≡ 2 ^ 64 + n % 4096)) →
    (pc + n) % 2 ^ 64 ≡ p % 2 ^ 64 →
    (e : ℕ) × (e < 4096) × ((pc + (n + 2048) / 4096 * 4096 % 2 ^ 64) % 2 ^ 64 ≡ (p + 2 ^ 64 + 2048 - e) % 2 ^ 64)
    × (((pc + (n + 2048) / 4096 * 4096 % 2 ^ 64) % 2 ^ 64 + l) % 2 ^ 64 ≡ p % 2 ^ 64)
near_parts n p pc l below (inl h) there =
    let from = h.0 in let is = h.1 in
    (n % 4096 + 2048, omega arith, omega arith, omega arith)
near_parts n p pc l below (inr h) there =
    let from = h.0 in let is = h.1 in
    (n % 4096 - 2048, omega arith, omega arith, omega arith)

reach_below : (n : ℤ) → is_reachable n ≡ true → bits_of n < 2 ^ 64
reach_below (pos n) reach = let small = ltb-true _ _ reach in omega arith
reach_below (negsuc n) reach = omega arith

low_below : (n : ℕ) → bits_of (low n) < 2 ^ 64
low_below n =
    elim (low_cases n) [
      | inl h ↦ let from = h.0 in let is = h.1 in omega arith
      | inr h ↦ let from = h.0 in let is = h.1 in omega arith
    ]

-- what the first instruction leaves: PCC at an address from which the low part leads to the place
pub record IsFirst (cd : ℕ) (distance : ℤ) (place : ℕ) (hart : HartState) : Type 0 where
  pub addr : ℕ
  pub below : addr < 2 ^ 64
  pub on : (addr + bits_of (low (bits_of distance))) % 2 ^ 64 ≡ place % 2 ^ 64
  pub writes : Writes (AuiPcc cd (high_bits (bits_of distance)) ∷ []) cd (with_address hart.pcc addr) hart

upper_fits : (n : ℕ) → upper_immediate (high_bits n) < 2 ^ 64
unfolding upper_immediate
upper_fits n = extended_fits _

pub first_is : (program : List Instr) (cd : ℕ) (second : Instr) (distance : ℤ) (place : ℕ) (hart : HartState) →
    Reaches program cd second distance place hart → IsFirst cd distance place hart
unfolding action capability_result inc_offset
first_is program cd second distance place hart is =
    let pc = address_of hart.pcc in
    let u = upper_immediate (high_bits (bits_of distance)) in
    let near =
    near_parts (bits_of distance) place pc (bits_of (low (bits_of distance))) (reach_below distance is.reach) (low_cases (bits_of distance)) is.there in
    let e = near.0 in
    let a = (place + 2 ^ 64 + 2048 - e) % 2 ^ 64 in
    let added : (pc + address_of (word_of_integer u)) % 2 ^ 64 ≡ a =
    ap (λ (x : ℕ). (pc + x) % 2 ^ 64) (address_of-word_of_integer u (upper_fits (bits_of distance))
    ∙ upper_is distance is.reach) ∙ near.2 in
    let value : set_address hart.pcc ((pc + address_of (word_of_integer u)) % 2 ^ 64) ≡ with_address hart.pcc a =
    ap (set_address hart.pcc) added
    ∙ near_is hart.pcc place e is.lawful is.stands.opened is.from is.to near.1 in
    record {
      addr = a;
      below = omega arith;
      on = ap (λ (x : ℕ). (x + bits_of (low (bits_of distance))) % 2 ^ 64) (sym near.2) ∙ near.3;
      writes = writes_one (AuiPcc cd (high_bits (bits_of distance))) cd (with_address hart.pcc a) hart (ap (Put cd) value);
    }

-- ---- the second instructions that write a register

pub cllc_leaves : (program : List Instr) (hart : HartState) (memory : List CapValue) (cd : ℕ) (distance : ℤ) (place : ℕ) → cd < 32 →
    Reaches program cd (CIncOffsetImm cd cd (low (bits_of distance))) distance place hart →
    Leaves program (pair cd (CIncOffsetImm cd cd (low (bits_of distance))) distance) hart memory (put cd (with_address hart.pcc (place % 2 ^ 64)) hart)
unfolding action capability_result inc_offset
cllc_leaves program hart memory cd distance place below is =
    let first = first_is program cd _ distance place hart is in
    let w = with_address hart.pcc first.addr in
    let l = address_of (word_of_integer (bits_of (low (bits_of distance)))) in
    let f : CapValue → CapValue = λ v. set_address v ((address_of v + l) % 2 ^ 64) in
    let there : (address_of w + l) % 2 ^ 64 ≡ place % 2 ^ 64 =
    ap (λ (x : ℕ). (x + l) % 2 ^ 64) (moved_address hart.pcc first.addr is.stands.opened)
    ∙ ap (λ (x : ℕ). (first.addr + x) % 2 ^ 64) (address_of-word_of_integer (bits_of (low (bits_of distance))) (low_below (bits_of distance)))
    ∙ first.on in
    let gives : f w ≡ with_address hart.pcc (place % 2 ^ 64) =
    ap (set_address w) there
    ∙ back_is hart.pcc place first.addr is.lawful is.stands.opened is.from is.to in
    leaves program (pair cd (CIncOffsetImm cd cd (low (bits_of distance))) distance) cd (with_address hart.pcc (place % 2 ^ 64)) hart memory is.stands
    (writes_more (AuiPcc cd (high_bits (bits_of distance)) ∷ []) (CIncOffsetImm cd cd (low (bits_of distance))) cd w
    (f (register (advanced 1 (put cd w hart)) cd)) (with_address hart.pcc (place % 2 ^ 64)) hart first.writes refl
    (value_back f 1 cd w (with_address hart.pcc (place % 2 ^ 64)) hart is.registers below gives))

pub la_leaves : (program : List Instr) (hart : HartState) (memory : List CapValue) (cd : ℕ) (distance : ℤ) (place : ℕ) → cd < 32 →
    Reaches program cd (Addi cd cd (low (bits_of distance))) distance place hart →
    Leaves program (pair cd (Addi cd cd (low (bits_of distance))) distance) hart memory (put cd (word_of_integer (place % 2 ^ 64)) hart)
unfolding action sum
la_leaves program hart memory cd distance place below is =
    let first = first_is program cd _ distance place hart is in
    let w = with_address hart.pcc first.addr in
    let f : ℕ → ℕ = λ a. (a + bits_of (low (bits_of distance))) % 2 ^ 64 in
    leaves program (pair cd (Addi cd cd (low (bits_of distance))) distance) cd (word_of_integer (place % 2 ^ 64)) hart memory is.stands
    (writes_more (AuiPcc cd (high_bits (bits_of distance)) ∷ []) (Addi cd cd (low (bits_of distance))) cd w
    (word_of_integer (f (integer (advanced 1 (put cd w hart)) cd))) (word_of_integer (place % 2 ^ 64)) hart first.writes refl
    (written_back f 1 cd first.addr (place % 2 ^ 64) w hart is.registers below (moved_address hart.pcc first.addr is.stands.opened) first.on))

pub ruleset pairs = (cllc_leaves, la_leaves)
