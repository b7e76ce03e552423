-- Granules stored one after another: the bytes of a word, or a capability.
use Rattle.std.proofs.Common.{◌≡◌, ℕ, ◌+◌, ◌*◌, ◌/◌, ◌%◌, ◌^◌, ◌<◌, ◌≤◌, List, [], ◌∷◌, ◌++◌, length, refl, sym, ap, ◌∙◌, add_assoc, add-zero, arith}
use Rattle.std.specs.Prelude.{slice_set}
use Rattle.std.proofs.Math.Nat.{div-eq_of_lt, mod-eq_of_lt, mul_assoc, add-mul, mul-le-mul_right}
use Rattle.std.proofs.Math.Pow.{pow-add}
use Rattle.std.proofs.lemmas.List.{get_or_at, set_at}
use Rattle.cap_model.specs.values.CapValue.{CapValue, raw}
use Rattle.cheri_model.specs.steps.Memory.{ram_base, granule_number, granule_offset, granule_at, with_bytes, store_data, store_capability}
use Rattle.listings.specs.Draft.{stored_bytes}
use Rattle.canonical.proofs.round_trip.Bytes.{AllBytes, le_value, granule_bytes, granule_are_bytes, granule_value}

-- a byte above a number's
byte_above : (x j p byte : ℕ) → 2 ^ (8 * j) ≡ p → x < p → byte < 256 → with_bytes x j 1 byte ≡ x + byte * p
unfolding with_bytes
byte_above x j p byte e low below =
    let high : x / p ≡ 0 = div-eq_of_lt low in
    let rest : x % p ≡ x = mod-eq_of_lt low in
    let kept : x / p / 256 * 256 + byte % 256 ≡ byte = omega (arith, high) in
    rw (e, kept, rest) (omega arith)

store_where : (granules : List CapValue) (addr number k offset x y : ℕ) → granule_number addr ≡ k → granule_offset addr ≡ offset → granule_at granules k ≡ raw x → with_bytes x offset 1 number ≡ y
    → store_data granules addr 1 number ≡ slice_set granules k (raw y)
unfolding store_data
store_where granules addr number k offset x y e f g h = rw (e, f, g, h) refl

module _ (done rest : List CapValue) where
  number_at : (j : ℕ) → j < 16 → granule_number (ram_base + 16 * length done + j) ≡ length done
  number_at j h = omega arith

  offset_at : (j : ℕ) → j < 16 → granule_offset (ram_base + 16 * length done + j) ≡ j
  offset_at j h = omega arith

  there : (v : CapValue) → granule_at (done ++ v ∷ rest) (length done) ≡ v
  unfolding granule_at
  there v = get_or_at done v rest (raw 0) (length done) refl

  byte_stored : (x j p byte : ℕ) → 2 ^ (8 * j) ≡ p → j < 16 → x < p → byte < 256
      → store_data (done ++ raw x ∷ rest) (ram_base + 16 * length done + j) 1 byte ≡ done ++ raw (x + byte * p) ∷ rest
  byte_stored x j p byte e small low below =
      store_where (done ++ raw x ∷ rest) (ram_base + 16 * length done + j) byte (length done) j x (x + byte * p) (number_at j small) (offset_at j small) (there (raw x)) (byte_above x j p byte e low below)
      ∙ set_at done (raw x) rest (raw (x + byte * p)) (length done) refl

  value_after : (x b value p : ℕ) → x + b * p + value * (p * 256) ≡ x + (b + 256 * value) * p
  value_after x b value p =
      let one : (b + 256 * value) * p ≡ b * p + 256 * value * p = add-mul b (256 * value) p in
      let two : 256 * value * p ≡ 256 * (value * p) = mul_assoc 256 value p in
      let three : value * p * 256 ≡ value * (p * 256) = mul_assoc value p 256 in
      omega (arith, one, two, three)

  next_below : (x b p : ℕ) → x < p → b < 256 → x + b * p < p * 256
  next_below x b p low below = let most : b * p ≤ 255 * p = mul-le-mul_right p (omega arith) in omega (arith, most)

  -- bytes from one place of a granule on, above a number's
  pub bytes_stored : (bytes : List ℕ) (x j p : ℕ) → 2 ^ (8 * j) ≡ p → AllBytes bytes → j + length bytes ≤ 16 → x < p
      → stored_bytes (done ++ raw x ∷ rest) (ram_base + 16 * length done + j) bytes ≡ done ++ raw (x + le_value bytes * p) ∷ rest
  unfolding stored_bytes le_value
  bytes_stored [] x j p e h room low = ap (λ n. done ++ raw n ∷ rest) (omega arith)
  bytes_stored (b ∷ bytes) x j p e h room low =
      let below : b < 256 = h.0 in
      let here : store_data (done ++ raw x ∷ rest) (ram_base + 16 * length done + j) 1 b ≡ done ++ raw (x + b * p) ∷ rest = byte_stored x j p b e (omega arith) low below in
      let power : 2 ^ (8 * (j + 1)) ≡ p * 256 = ap (λ n. 2 ^ n) (eight j) ∙ pow-add 2 (8 * j) 8 ∙ ap (λ n. n * 256) e in
      let later = bytes_stored bytes (x + b * p) (j + 1) (p * 256) power h.1 (omega arith) (next_below x b p low below) in
      ap (λ memory. stored_bytes memory (ram_base + 16 * length done + j + 1) bytes) here
      ∙ ap (λ addr. stored_bytes (done ++ raw (x + b * p) ∷ rest) addr bytes) (add_assoc (ram_base + 16 * length done) j 1)
      ∙ later ∙ ap (λ n. done ++ raw n ∷ rest) (value_after x b (le_value bytes) p)
    where
      eight : (j : ℕ) → 8 * (j + 1) ≡ 8 * j + 8
      eight j = omega arith

  -- a word's bytes make the word
  pub word_stored : (word : ℕ) (low : word < 2 ^ 128) → stored_bytes (done ++ raw 0 ∷ rest) (ram_base + 16 * length done) (granule_bytes word low) ≡ done ++ raw word ∷ rest
  word_stored word low =
      ap (λ addr. stored_bytes (done ++ raw 0 ∷ rest) addr (granule_bytes word low)) (sym (add-zero (ram_base + 16 * length done)))
      ∙ bytes_stored (granule_bytes word low) 0 0 1 refl (granule_are_bytes word low) (omega arith) (omega arith)
      ∙ ap (λ n. done ++ raw n ∷ rest) (whole (le_value (granule_bytes word low)) word (granule_value word low))
    where
      whole : (value word : ℕ) → value ≡ word → 0 + value * 1 ≡ word
      whole value word e = omega arith

  -- a capability in its granule
  pub capability_stored : (v w : CapValue) → store_capability (done ++ v ∷ rest) (ram_base + 16 * length done) w ≡ done ++ w ∷ rest
  unfolding store_capability
  capability_stored v w =
      let at : granule_number (ram_base + 16 * length done) ≡ length done = omega arith in
      ap (λ k. slice_set (done ++ v ∷ rest) k w) at ∙ set_at done v rest w (length done) refl
