-- What a store of some bytes of a word leaves in its bytes.
use Rattle.std.proofs.Common.{◌≡◌, ℕ, ◌+◌, ◌-◌, ◌*◌, ◌/◌, ◌%◌, ◌^◌, ◌≤◌, sym, ap, ◌∙◌, arith}
use Rattle.std.proofs.lemmas.Nat.{pow_pos, field_of, shr-shr, shr_high, mod_low, mod_below}
use Rattle.std.proofs.Math.Pow.{mod-mod-pow}
use Rattle.cheri_model.specs.steps.Memory.{bytes_at, with_bytes}

-- a word with the b bits from s on replaced by those of a number
abbrev replaced : ℕ → ℕ → ℕ → ℕ → ℕ
replaced word s b number = (word / 2 ^ s / 2 ^ b * 2 ^ b + number % 2 ^ b) * 2 ^ s + word % 2 ^ s

-- j bits from k on are also those of the low bits, where these are at least d more
bits_of_low : (n d j k : ℕ) → n % 2 ^ (d + (j + k)) / 2 ^ k % 2 ^ j ≡ n / 2 ^ k % 2 ^ j
bits_of_low n d j k =
    sym (field_of (n % 2 ^ (d + (j + k))) j k) ∙ ap (λ x. x / 2 ^ k) (mod-mod-pow n d (j + k)) ∙ field_of n j k

-- two numbers with the same m low bits have the same bits among them
same_bits_of_low : (n p m j k : ℕ) → j + k ≤ m → n % 2 ^ m ≡ p % 2 ^ m → n / 2 ^ k % 2 ^ j ≡ p / 2 ^ k % 2 ^ j
same_bits_of_low n p m j k within same =
    let d : ℕ = m - (j + k) in
    let split : d + (j + k) ≡ m = omega arith in
    let low : n % 2 ^ (d + (j + k)) ≡ p % 2 ^ (d + (j + k)) = rw split same in
    sym (bits_of_low n d j k) ∙ ap (λ x. x / 2 ^ k % 2 ^ j) low ∙ bits_of_low p d j k

bits_below : (word s b number j k : ℕ) → j + k ≤ s → replaced word s b number / 2 ^ k % 2 ^ j ≡ word / 2 ^ k % 2 ^ j
bits_below word s b number j k within =
    same_bits_of_low (replaced word s b number) word s j k within
    (mod_low (word / 2 ^ s / 2 ^ b * 2 ^ b + number % 2 ^ b) s (word % 2 ^ s) (mod_below word (2 ^ s) (pow_pos s)))

-- the bits from s on
from_place : (word s b number : ℕ) → replaced word s b number / 2 ^ s ≡ word / 2 ^ s / 2 ^ b * 2 ^ b + number % 2 ^ b
from_place word s b number =
    shr_high (word / 2 ^ s / 2 ^ b * 2 ^ b + number % 2 ^ b) s (word % 2 ^ s) (mod_below word (2 ^ s) (pow_pos s))

bits_inside : (word s b number j k : ℕ) → j + k ≤ b → replaced word s b number / 2 ^ (s + k) % 2 ^ j ≡ number / 2 ^ k % 2 ^ j
bits_inside word s b number j k within =
    let q : ℕ = word / 2 ^ s / 2 ^ b in
    let low : (q * 2 ^ b + number % 2 ^ b) % 2 ^ b ≡ number % 2 ^ b = mod_low q b (number % 2 ^ b) (mod_below number (2 ^ b) (pow_pos b)) in
    let step : replaced word s b number / 2 ^ (s + k) ≡ (q * 2 ^ b + number % 2 ^ b) / 2 ^ k =
    sym (shr-shr (replaced word s b number) s k) ∙ ap (λ x. x / 2 ^ k) (from_place word s b number) in
    ap (λ x. x % 2 ^ j) step ∙ same_bits_of_low (q * 2 ^ b + number % 2 ^ b) number b j k within low

bits_above : (word s b number j k : ℕ) → replaced word s b number / 2 ^ (s + (b + k)) % 2 ^ j ≡ word / 2 ^ (s + (b + k)) % 2 ^ j
bits_above word s b number j k =
    let q : ℕ = word / 2 ^ s / 2 ^ b in
    let high : replaced word s b number / 2 ^ s / 2 ^ b ≡ q =
    ap (λ x. x / 2 ^ b) (from_place word s b number) ∙ shr_high q b (number % 2 ^ b) (mod_below number (2 ^ b) (pow_pos b)) in
    let step : (n : ℕ) → n / 2 ^ (s + (b + k)) ≡ n / 2 ^ s / 2 ^ b / 2 ^ k =
    λ n. sym (shr-shr n s (b + k)) ∙ sym (shr-shr (n / 2 ^ s) b k) in
    ap (λ x. x % 2 ^ j) (step (replaced word s b number) ∙ ap (λ x. x / 2 ^ k) high ∙ sym (step word))

-- bytes below those that were stored are as before
pub bytes_at-with_bytes_below : (word offset bytes number place count : ℕ) → place + count ≤ offset → bytes_at (with_bytes word offset bytes number) place count ≡ bytes_at word place count
unfolding bytes_at with_bytes
bytes_at-with_bytes_below word offset bytes number place count within =
    bits_below word (8 * offset) (8 * bytes) number (8 * count) (8 * place) (omega arith)

-- bytes among those that were stored are the number's
pub bytes_at-with_bytes_inside : (word offset bytes number place count : ℕ) → place + count ≤ bytes → bytes_at (with_bytes word offset bytes number) (offset + place) count ≡ bytes_at number place count
unfolding bytes_at with_bytes
bytes_at-with_bytes_inside word offset bytes number place count within =
    let at : 8 * (offset + place) ≡ 8 * offset + 8 * place = omega arith in
    rw at (bits_inside word (8 * offset) (8 * bytes) number (8 * count) (8 * place) (omega arith))

-- bytes above those that were stored are as before
pub bytes_at-with_bytes_above : (word offset bytes number place count : ℕ) → offset + bytes ≤ place → bytes_at (with_bytes word offset bytes number) place count ≡ bytes_at word place count
unfolding bytes_at with_bytes
bytes_at-with_bytes_above word offset bytes number place count within =
    let k : ℕ = place - (offset + bytes) in
    let at : 8 * offset + (8 * bytes + 8 * k) ≡ 8 * place = omega arith in
    rw (← at) (bits_above word (8 * offset) (8 * bytes) number (8 * count) (8 * k))
