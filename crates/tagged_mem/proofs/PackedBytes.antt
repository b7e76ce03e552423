-- Numbers of several bytes, and granules that are read from bytes and bits.
use Rattle.std.proofs.Common.{◌≡◌, ℕ, zero, suc, ◌+◌, ◌-◌, ◌*◌, ◌/◌, ◌%◌, ◌^◌, ◌<◌, ◌≤◌, ◌≢◌, List, ◌∷◌, length, arith, ap, sym, ◌∙◌, refl}
use Rattle.std.specs.Prelude.{slice_index_or, slice_set}
use Rattle.std.proofs.Math.Nat.{mul_assoc, mul_comm}
use Rattle.std.proofs.lemmas.Nat.{pow-add, mod-pow-add, mod-mul-add, div-mul-add}
use Rattle.std.proofs.lemmas.List.{length-set, get_or-set_same, get_or-set_other}
use Rattle.cap_model.specs.values.CapValue.{CapValue}
use Rattle.tagged_mem.specs.Packed.{number_at, with_number, packed_at, granules_from}

-- one byte more is eight bits more
byte_more : (n : ℕ) → 2 ^ (8 * suc n) ≡ 256 * 2 ^ (8 * n)
byte_more n = let e : 8 * suc n ≡ 8 * n + 8 = omega arith in rw e (omega (arith, pow-add 2 (8 * n) 8))

-- n bytes are a number below 2 ^ (8 * n)
pub number_below : (bytes : List ℕ) → ((i : ℕ) → slice_index_or bytes i 0 < 256) → (i n : ℕ) → number_at bytes i n < 2 ^ (8 * n)
unfolding number_at
number_below bytes octets i zero = omega arith
number_below bytes octets i (suc n) =
    rw (byte_more n) (omega (arith, octets i, number_below bytes octets (i + 1) n))

-- so many bytes and so many more
pub number_split : (bytes : List ℕ) (i m n : ℕ) → number_at bytes i (m + n) ≡ number_at bytes i m + 2 ^ (8 * m) * number_at bytes (i + m) n
unfolding number_at
number_split bytes i zero n =
    let none : 0 + n ≡ n = omega arith in
    let same : i + 0 ≡ i = omega arith in
    rw (none, same) (omega arith)
number_split bytes i (suc m) n =
    let rest = number_split bytes (i + 1) m n in
    let place : i + 1 + m ≡ i + suc m = omega arith in
    let more : 2 ^ (8 * suc m) * number_at bytes (i + suc m) n ≡ 256 * (2 ^ (8 * m) * number_at bytes (i + suc m) n) =
    ap (λ p. p * number_at bytes (i + suc m) n) (byte_more m) ∙ mul_assoc 256 (2 ^ (8 * m)) (number_at bytes (i + suc m) n) in
    let sum : suc m + n ≡ suc (m + n) = omega arith in
    rw sum (omega (arith, rw place at rest, more))

-- bytes that are the same are the same number
pub number_same : (bytes other : List ℕ) (i n : ℕ) → ((k : ℕ) → i ≤ k → k < i + n → slice_index_or bytes k 0 ≡ slice_index_or other k 0) →
    number_at bytes i n ≡ number_at other i n
unfolding number_at
number_same bytes other i zero each = refl
number_same bytes other i (suc n) each =
    let first = each i (omega arith) (omega arith) in
    let rest = number_same bytes other (i + 1) n (λ k from to. each k (omega arith) (omega arith)) in
    omega (arith, first, rest)

-- replaced bytes
pub length-with_number : (bytes : List ℕ) (i n number : ℕ) → length (with_number bytes i n number) ≡ length bytes
unfolding with_number
length-with_number bytes i zero number = refl
length-with_number bytes i (suc n) number =
    length-with_number (slice_set bytes i (number % 256)) (i + 1) n (number / 256) ∙ length-set bytes i (number % 256)

-- bytes before and after them stay
pub with_number_other : (bytes : List ℕ) (i n number k : ℕ) → (i ≤ k → k < i + n → ⊥) →
    slice_index_or (with_number bytes i n number) k 0 ≡ slice_index_or bytes k 0
unfolding with_number
with_number_other bytes i zero number k outside = refl
with_number_other bytes i (suc n) number k outside =
    let apart : k ≢ i = λ same. outside (omega arith) (omega arith) in
    with_number_other (slice_set bytes i (number % 256)) (i + 1) n (number / 256) k (λ from to. outside (omega arith) (omega arith))
    ∙ get_or-set_other bytes i k (number % 256) 0 apart

-- and they are the low bytes of the number
pub with_number_there : (bytes : List ℕ) (i n number : ℕ) → i + n ≤ length bytes → number_at (with_number bytes i n number) i n ≡ number % 2 ^ (8 * n)
unfolding with_number number_at
with_number_there bytes i zero number inside = omega arith
with_number_there bytes i (suc n) number inside =
    let set = slice_set bytes i (number % 256) in
    let room : i + 1 + n ≤ length set = omega (arith, length-set bytes i (number % 256)) in
    let rest = with_number_there set (i + 1) n (number / 256) room in
    let first = with_number_other set (i + 1) n (number / 256) i (λ from to. omega arith) ∙ get_or-set_same bytes i (number % 256) 0 (omega arith) in
    let whole : with_number bytes i (suc n) number ≡ with_number set (i + 1) n (number / 256) = refl in
    let bits : 8 * suc n ≡ 8 * n + 8 = omega arith in
    rw (whole, bits) (omega (arith, mod-pow-add number (8 * n) 8, rest, first))

-- granules
pub length-granules_from : (bytes tags : List ℕ) (k n : ℕ) → length (granules_from bytes tags k n) ≡ n
unfolding granules_from
length-granules_from bytes tags k zero = refl
length-granules_from bytes tags k (suc n) = ap (λ m. suc m) (length-granules_from bytes tags (suc k) n)

pub granule-granules_from : (bytes tags : List ℕ) (k n j : ℕ) (d : CapValue) → j < n → slice_index_or (granules_from bytes tags k n) j d ≡ packed_at bytes tags (k + j)
unfolding granules_from
granule-granules_from bytes tags k zero j d below = elim below [ ]
granule-granules_from bytes tags k (suc n) zero d below = let same : k + 0 ≡ k = omega arith in rw same refl
granule-granules_from bytes tags k (suc n) (suc j) d below =
    let same : suc k + j ≡ k + suc j = omega arith in
    rw (← same) (granule-granules_from bytes tags (suc k) n j d (omega arith))

-- granules that are the same one by one are the same
pub granules_same : (bytes tags other others : List ℕ) (k n : ℕ) → ((j : ℕ) → k ≤ j → j < k + n → packed_at bytes tags j ≡ packed_at other others j) →
    granules_from bytes tags k n ≡ granules_from other others k n
unfolding granules_from
granules_same bytes tags other others k zero each = refl
granules_same bytes tags other others k (suc n) each =
    let first = each k (omega arith) (omega arith) in
    let rest = granules_same bytes tags other others (suc k) n (λ j from to. each j (omega arith) (omega arith)) in
    λ i. first i ∷ rest i

-- one granule is replaced where the bytes and bits of the others are as before
pub granules_set : (bytes tags other others : List ℕ) (k n j : ℕ) (v : CapValue) → packed_at other others (k + j) ≡ v →
    ((m : ℕ) → m ≢ k + j → packed_at other others m ≡ packed_at bytes tags m) →
    slice_set (granules_from bytes tags k n) j v ≡ granules_from other others k n
unfolding granules_from
granules_set bytes tags other others k zero j v is each = refl
granules_set bytes tags other others k (suc n) zero v is each =
    let same : k + 0 ≡ k = omega arith in
    let first = rw same at is in
    let rest = granules_same bytes tags other others (suc k) n (λ m from to. sym (each m (λ e. omega arith))) in
    λ i. sym first i ∷ rest i
granules_set bytes tags other others k (suc n) (suc j) v is each =
    let same : k + suc j ≡ suc k + j = omega arith in
    let first = each k (λ e. omega arith) in
    let rest = granules_set bytes tags other others (suc k) n j v (rw same at is) (λ m apart. each m (λ e. apart (e ∙ same))) in
    λ i. sym first i ∷ rest i

-- one turn of the loop that writes bytes
pub with_number_turn : (bytes : List ℕ) (place k count rest : ℕ) → k < count →
    with_number (slice_set bytes (place + k) (rest % 256)) (place + (k + 1)) (count - (k + 1)) (rest / 256) ≡ with_number bytes (place + k) (count - k) rest
unfolding with_number
with_number_turn bytes place k count rest below =
    let left : count - k ≡ suc (count - (k + 1)) = omega arith in
    let next : place + (k + 1) ≡ place + k + 1 = omega arith in
    rw (left, next) refl

-- a number of three parts, and its parts again
module _ (low below mid span high : ℕ) (in_low : low < below) (in_mid : mid < span) where
  abbrev pub whole : ℕ
  whole = low + below * (mid + span * high)

  pub whole_low : whole % below ≡ low
  whole_low = let turned : whole ≡ (mid + span * high) * below + low = omega (arith, mul_comm below (mid + span * high)) in
      rw turned (mod-mul-add (mid + span * high) below low in_low)

  pub whole_above : whole / below ≡ mid + span * high
  whole_above = let turned : whole ≡ (mid + span * high) * below + low = omega (arith, mul_comm below (mid + span * high)) in
      rw turned (div-mul-add (mid + span * high) below low in_low)

  pub whole_mid : whole / below % span ≡ mid
  whole_mid = let turned : mid + span * high ≡ high * span + mid = omega (arith, mul_comm span high) in
      rw (whole_above, turned) (mod-mul-add high span mid in_mid)

  pub whole_high : whole / below / span ≡ high
  whole_high = let turned : mid + span * high ≡ high * span + mid = omega (arith, mul_comm span high) in
      rw (whole_above, turned) (div-mul-add high span mid in_mid)

-- nothing is left to write
pub with_number_done : (bytes : List ℕ) (place k count rest : ℕ) → count ≤ k → with_number bytes (place + k) (count - k) rest ≡ bytes
unfolding with_number
with_number_done bytes place k count rest past = let none : count - k ≡ 0 = omega arith in rw none refl
