-- Units that chunks are padded to: in code all takes whole instructions.
use Rattle.std.proofs.Common.{◌≡◌, ℕ, zero, suc, ◌+◌, ◌-◌, ◌/◌, ◌%◌, ◌^◌, ◌<◌, ◌≤◌, ◌==◌, ◌⊎◌, inl, inr, max, Bool, true, false, cond, Option, Some, None, refl, sym, ap, ◌∙◌, subst, lit≤, arith}
use Rattle.std.specs.Prelude.{nat_lt}
use Rattle.std.specs.Int.{is_power_of_two}
use Rattle.std.proofs.Math.Nat.{mod-lt, mod-mod_of_dvd, pow-suc}
use Rattle.std.proofs.lemmas.Nat.{zero_from_ones}
use Rattle.std.proofs.lemmas.Nat.Gcd.{dvd_of_mod-eq-zero}
use Rattle.std.proofs.lemmas.Bool.{cases_lt}
use Rattle.std.proofs.lemmas.Bool.Decides.{nat_tests}
use Rattle.asm_layout.specs.declared.chunk.Chunk.{Chunk}
use Rattle.asm_layout.specs.Placement.{padding, next_multiple}
use Rattle.asm_chunks.specs.Growth.{at_most, padding_of}
use lib.Count.{ones_step}

-- a power of 2: at most 2, or a multiple of 4
abbrev pub IsUnit : ℕ → Type 0
IsUnit unit = (unit ≤ 2) ⊎ (unit % 4 ≡ 0)

pub power_unit : (n : ℕ) → is_power_of_two n ≡ true → IsUnit n
power_unit n e =
    let whole = ones_step n in
    let half = ones_step (n / 2) in
    let none = zero_from_ones (n / 2) in
    let few = zero_from_ones (n / 2 / 2) in
    let one : is_power_of_two n ≡ true = e in
    elim (cases_lt (n % 2) 1) [
      | inl even ↦ (elim (cases_lt (n / 2 % 2) 1) [
        | inl four ↦ inr (omega arith)
        | inr odd ↦ (let is = few (grind (arith, nat_tests)) in inl (omega arith))
      ])
      | inr odd ↦ (let is = none (grind (arith, nat_tests)) in inl (omega arith))
    ]

pub exponent_unit : (k : ℕ) → IsUnit (2 ^ k)
exponent_unit zero = inl (lit≤ tt)
exponent_unit (suc zero) = inl (lit≤ tt)
exponent_unit (suc (suc k)) =
    let one = pow-suc 2 (suc k) in
    let two = pow-suc 2 k in
    inr (omega arith)

-- ---- what is left of a number

mod_four : (a unit : ℕ) → unit % 4 ≡ 0 → a % unit % 4 ≡ a % 4
mod_four a unit e = mod-mod_of_dvd 4 a (dvd_of_mod-eq-zero 4 e)

zero_pad : (size unit : ℕ) → size % unit ≡ 0 → padding size unit ≡ 0
zero_pad size unit e = ap (λ (k : ℕ). cond (k == 0) 0 (unit - k)) e

pad_by : (none : Bool) (unit rest : ℕ) → rest % 4 ≡ 0 → unit % 4 ≡ 0 → cond none 0 (unit - rest) % 4 ≡ 0
pad_by true unit rest r u = refl
pad_by false unit rest r u = omega arith

pad_four : (size unit : ℕ) → size % 4 ≡ 0 → unit % 4 ≡ 0 → padding size unit % 4 ≡ 0
pad_four size unit s u = pad_by (size % unit == 0) unit (size % unit) (mod_four size unit u ∙ s) u

small_pad : (size unit : ℕ) → size % 4 ≡ 0 → unit ≤ 2 → padding size (max unit 1) ≡ 0
small_pad size unit s u =
    elim (cases_lt unit 2) [
      | inl one ↦ (let is : max unit 1 ≡ 1 = omega arith in subst (λ (k : ℕ). padding size k ≡ 0) (sym is) (zero_pad size 1 (omega arith)))
      | inr two ↦ (let is : max unit 1 ≡ 2 = omega arith in subst (λ (k : ℕ). padding size k ≡ 0) (sym is) (zero_pad size 2 (omega arith)))
    ]

pad_unit : (size unit : ℕ) → size % 4 ≡ 0 → IsUnit unit → padding size (max unit 1) % 4 ≡ 0
pad_unit size unit s (inl small) = let none = small_pad size unit s small in omega arith
pad_unit size unit s (inr four) =
    elim (cases_lt unit 1) [
      | inl tiny ↦ (let none = small_pad size unit s (omega arith) in omega arith)
      | inr some ↦ (let is : max unit 1 ≡ unit = omega arith in pad_four size (max unit 1) s (subst (λ (k : ℕ). k % 4 ≡ 0) (sym is) four))
    ]

most_by : (past : Bool) (pad : ℕ) → pad % 4 ≡ 0 → cond past 0 pad % 4 ≡ 0
most_by true pad h = refl
most_by false pad h = h

most_whole : (pad : ℕ) (most : Option ℕ) → pad % 4 ≡ 0 → at_most pad most % 4 ≡ 0
most_whole pad (Some most) h = most_by (nat_lt most pad) pad h
most_whole pad None h = h

pub padding_whole : (chunk : Chunk) (unit : ℕ) (most : Option ℕ) → chunk.size % 4 ≡ 0 → IsUnit unit → padding_of chunk unit most % 4 ≡ 0
padding_whole chunk unit most s u = most_whole (padding chunk.size (max unit 1)) most (pad_unit chunk.size unit s u)

next_by : (none : Bool) (addr unit rest : ℕ) → (rest == 0) ≡ none → rest % 4 ≡ addr % 4 → rest < unit → unit % 4 ≡ 0
    → (addr + cond none 0 (unit - rest)) % 2 ^ 64 % 4 ≡ 0
next_by true addr unit rest t r less u =
    let is : rest ≡ 0 = grind (arith, nat_tests) in
    omega arith
next_by false addr unit rest t r less u = omega arith

pub next_whole : (addr unit : ℕ) → 0 < unit → unit % 4 ≡ 0 → next_multiple addr unit % 4 ≡ 0
next_whole addr unit some u = next_by (addr % unit == 0) addr unit (addr % unit) refl (mod_four addr unit u) (mod-lt addr some) u

-- ---- alignments

pub most_four : (align unit : ℕ) → align % 4 ≡ 0 → 4 ≤ align → IsUnit unit → max align unit % 4 ≡ 0
most_four align unit a least (inl small) = let is : max align unit ≡ align = omega arith in ap (λ (k : ℕ). k % 4) is ∙ a
most_four align unit a least (inr four) =
    elim (cases_lt align unit) [
      | inl less ↦ (let is : max align unit ≡ unit = omega arith in ap (λ (k : ℕ). k % 4) is ∙ four)
      | inr rest ↦ (let is : max align unit ≡ align = omega arith in ap (λ (k : ℕ). k % 4) is ∙ a)
    ]
