-- RAM that was just made: zero bytes and no tag.
use Rattle.std.proofs.Common.{◌≡◌, ℕ, zero, suc, ◌+◌, ◌*◌, ◌/◌, ◌%◌, ◌^◌, ◌≤◌, true, false, List, ◌∷◌, inl, inr, length, arith, refl, lit<}
use Rattle.std.specs.Prelude.{slice_index_or, replicate}
use Rattle.std.proofs.lemmas.Bool.{cases_lt, false≢true}
use Rattle.std.proofs.lemmas.Bool.Decides.{nat_tests}
use Rattle.std.proofs.lemmas.List.{length-replicate, get_or-replicate, get_or_past}
use Rattle.cap_model.specs.values.CapValue.{raw}
use Rattle.cheri_model.specs.steps.Memory.{cleared_memory, is_ram_size}
use Rattle.tagged_mem.specs.Packed.{number_at, tag_at, granules_from, unpacked_memory, IsPackedRam}

abbrev pub zeros : ℕ → List ℕ
zeros n = replicate n 0

length-zeros : (n : ℕ) → length (zeros n) ≡ n
length-zeros n = length-replicate {A = ℕ} n 0

-- a list of zeros has a zero at each place
zero_at : (n i : ℕ) → slice_index_or (zeros n) i 0 ≡ 0
zero_at n i = elim (cases_lt i n) [
  | inl within ↦ get_or-replicate {A = ℕ} n i 0 0 within
  | inr past ↦ get_or_past (zeros n) i 0 (rw (length-zeros n) past)
]

number_of_zeros : (n i m : ℕ) → number_at (zeros n) i m ≡ 0
unfolding number_at
number_of_zeros n i zero = refl
number_of_zeros n i (suc m) = rw (zero_at n i, number_of_zeros n (i + 1) m) refl

no_tag : (n k : ℕ) → tag_at (zeros n) k ≡ false
unfolding tag_at
no_tag n k = let none = zero_at n (k / 8) in rw none (let digit : 0 / 2 ^ (k % 8) % 2 ≡ 0 = omega arith in rw digit refl)

cleared_granules : (n m k count : ℕ) → granules_from (zeros n) (zeros m) k count ≡ replicate count (raw 0)
unfolding granules_from
cleared_granules n m k zero = refl
cleared_granules n m k (suc count) =
    let rest = cleared_granules n m (suc k) count in
    rw (no_tag m k, number_of_zeros n (16 * k) 16) (λ i. raw 0 ∷ rest i)

pub cleared_is : (n m : ℕ) → unpacked_memory (zeros n) (zeros m) ≡ cleared_memory n
cleared_is n m = rw (length-zeros n) (cleared_granules n m 0 (n / 16))

pub cleared_packed : (n m : ℕ) → n % 16 ≡ 0 → 16 ≤ n → n ≤ 1048576 → n ≤ 128 * m → IsPackedRam (zeros n) (zeros m)
cleared_packed n m even least most room =
    let size : is_ram_size n ≡ true = grind (arith, nat_tests) in
    record {
      size = rw (length-zeros n) size;
      room = rw (length-zeros n, length-zeros m) room;
      octets = λ i. rw (zero_at n i) (lit< tt);
      tagged = λ k. rw (no_tag m k, number_of_zeros n (16 * k) 16) (record { below = lit< tt; encoded = λ e. absurd (false≢true e) });
    }
