-- RAM as bytes and a bitmap: the granules that they are, and what stores leave.
use Rattle.std.proofs.Common.{◌≡◌, ◌≢◌, ℕ, suc, zero, ◌+◌, ◌-◌, ◌*◌, ◌/◌, ◌%◌, ◌^◌, ◌<◌, ◌≤◌, true, false, List, [], length, inl, inr, arith, refl, ap, sym, ◌∙◌, lit<, IsTrue}
use Rattle.std.specs.Prelude.{take, drop, ◌++◌, slice_index_or, slice_set}
use Rattle.std.proofs.lemmas.Bool.{cases_lt, cases_eq, false≢true}
use Rattle.std.proofs.lemmas.Bool.Decides.{nat_tests}
use Rattle.std.proofs.lemmas.List.{get_or_past, get_or-set_same, get_or-set_other, set_past, drop_all, take_all, append-nil}
use Rattle.std.proofs.Math.Nat.{mul_comm}
use Rattle.cap_model.specs.values.CapValue.{CapValue, raw, bits_of, tag_of, IsLawfulValue, IsTaggedWord}
use Rattle.cap_model.specs.values.ValueFacts.{bits_of-value_at, IsLawfulValue-value_at}
use Rattle.cheri_model.specs.declared.width.Width.{Width}
use Rattle.cheri_model.specs.declared.width.Width.TheVariants.{Byte, Half, Word, Double}
use Rattle.cheri_model.specs.steps.Memory.{ram_base, bytes_of, fits, granule_number, granule_offset, granule_at, bytes_at, with_bytes, is_ram_size, IsMemory}
use Rattle.cap_model.proofs.Results.Values.{value_back, value_tagged, bits_lt}
use Rattle.tagged_mem.specs.Packed.{number_at, with_number, tag_at, packed_at, unpacked_memory, IsPackedRam}
use Rattle.tagged_mem.proofs.PackedBytes.{number_below, number_split, number_same, length-with_number, with_number_other, with_number_there, length-granules_from, granule-granules_from, granules_set, whole_low, whole_mid, whole_high}

-- sixteen bytes as some, n others and the rest
word_parts : (bytes : List ℕ) (i offset n above : ℕ) → offset + (n + above) ≡ 16 →
    number_at bytes i 16 ≡ number_at bytes i offset + 2 ^ (8 * offset) * (number_at bytes (i + offset) n + 2 ^ (8 * n) * number_at bytes (i + offset + n) above)
word_parts bytes i offset n above all =
    rw (sym all) (number_split bytes i offset (n + above) ∙ ap (λ m. number_at bytes i offset + 2 ^ (8 * offset) * m) (number_split bytes (i + offset) n above))

-- the parts put together in either order
turned : (low below mid span high : ℕ) → low + below * (mid + span * high) ≡ (high * span + mid) * below + low
turned low below mid span high =
    let inner : high * span + mid ≡ mid + span * high = omega (arith, mul_comm high span) in
    rw inner (omega (arith, mul_comm below (mid + span * high)))

module _ (bytes : List ℕ) (octets : (i : ℕ) → slice_index_or bytes i 0 < 256) (i offset n above : ℕ) (all : offset + (n + above) ≡ 16) where
  -- some bytes of a word
  pub bytes_of_word : bytes_at (number_at bytes i 16) offset n ≡ number_at bytes (i + offset) n
  unfolding bytes_at
  bytes_of_word = rw (word_parts bytes i offset n above all) (whole_mid _ _ _ _ _ (number_below bytes octets i offset) (number_below bytes octets (i + offset) n))

  -- the word with some bytes replaced
  pub word_with_number : (number : ℕ) → i + 16 ≤ length bytes →
      number_at (with_number bytes (i + offset) n number) i 16 ≡ with_bytes (number_at bytes i 16) offset n number
  unfolding with_bytes
  word_with_number number inside =
      let new = with_number bytes (i + offset) n number in
      let low : number_at new i offset ≡ number_at bytes i offset = number_same new bytes i offset (λ k from to. with_number_other bytes (i + offset) n number k (λ p q. omega arith)) in
      let mid : number_at new (i + offset) n ≡ number % 2 ^ (8 * n) = with_number_there bytes (i + offset) n number (omega arith) in
      let high : number_at new (i + offset + n) above ≡ number_at bytes (i + offset + n) above =
      number_same new bytes (i + offset + n) above (λ k from to. with_number_other bytes (i + offset) n number k (λ p q. omega arith)) in
      let in_low = number_below bytes octets i offset in
      let in_mid = number_below bytes octets (i + offset) n in
      let old_high : number_at bytes i 16 / 2 ^ (8 * offset) / 2 ^ (8 * n) ≡ number_at bytes (i + offset + n) above =
      rw (word_parts bytes i offset n above all) (whole_high _ _ _ _ _ in_low in_mid) in
      let old_low : number_at bytes i 16 % 2 ^ (8 * offset) ≡ number_at bytes i offset =
      rw (word_parts bytes i offset n above all) (whole_low _ _ _ _ _ in_low in_mid) in
      rw (old_high, old_low, word_parts new i offset n above all, low, mid, high) (turned _ _ _ _ _)

-- the granules of packed memory
pub length-unpacked : (bytes tags : List ℕ) → length (unpacked_memory bytes tags) ≡ length bytes / 16
length-unpacked bytes tags = length-granules_from bytes tags 0 (length bytes / 16)

pub granule-unpacked : (bytes tags : List ℕ) (k : ℕ) → k < length bytes / 16 → granule_at (unpacked_memory bytes tags) k ≡ packed_at bytes tags k
unfolding granule_at
granule-unpacked bytes tags k below =
    let same : 0 + k ≡ k = omega arith in
    rw same at (granule-granules_from bytes tags 0 (length bytes / 16) k (raw 0) below)

-- past the end there is an untagged 0
granule-past : (bytes tags : List ℕ) (k : ℕ) → length bytes / 16 ≤ k → granule_at (unpacked_memory bytes tags) k ≡ raw 0
unfolding granule_at
granule-past bytes tags k past = get_or_past (unpacked_memory bytes tags) k (raw 0) (rw (length-unpacked bytes tags) past)

-- a size of RAM is a whole number of granules
pub whole_granules : (size : ℕ) → is_ram_size size ≡ true → 16 * (size / 16) ≡ size
whole_granules size h = grind (arith, nat_tests)

pub IsMemory-unpacked : (bytes tags : List ℕ) → IsPackedRam bytes tags → IsMemory (unpacked_memory bytes tags)
IsMemory-unpacked bytes tags h = record {
  size = rw (length-unpacked bytes tags, whole_granules (length bytes) h.size) h.size;
  lawful = λ k. elim (cases_lt k (length bytes / 16)) [
    | inl below ↦ rw (granule-unpacked bytes tags k below) (IsLawfulValue-value_at (tag_at tags k) (number_at bytes (16 * k) 16) (h.tagged k))
    | inr past ↦ rw (granule-past bytes tags k past) (lit< tt)
  ];
}

-- other granules stay
other_granule : (bytes : List ℕ) (g offset n number m : ℕ) → offset + n ≤ 16 → m ≢ g →
    number_at (with_number bytes (16 * g + offset) n number) (16 * m) 16 ≡ number_at bytes (16 * m) 16
other_granule bytes g offset n number m inside apart =
    number_same _ bytes (16 * m) 16 (λ k from to. with_number_other bytes (16 * g + offset) n number k (λ p q. apart (omega arith)))

-- what a store of n bytes and a tag leaves, where the granule then has this value
pub stored_is : (bytes tags bits : List ℕ) (g offset n number : ℕ) (v : CapValue) → offset + n ≤ 16 → g < length bytes / 16 →
    ((k : ℕ) → k ≢ g → tag_at bits k ≡ tag_at tags k) → packed_at (with_number bytes (16 * g + offset) n number) bits g ≡ v →
    unpacked_memory (with_number bytes (16 * g + offset) n number) bits ≡ slice_set (unpacked_memory bytes tags) g v
stored_is bytes tags bits g offset n number v inside below others is =
    let size = length-with_number bytes (16 * g + offset) n number in
    let same : 0 + g ≡ g = omega arith in
    rw size (sym (granules_set bytes tags (with_number bytes (16 * g + offset) n number) bits 0 (length bytes / 16) g v (rw same is)
    (λ m apart. let other : m ≢ g = λ e. apart (e ∙ sym same) in rw (others m other, other_granule bytes g offset n number m inside other) refl)))

-- the bytes that are written are bytes
octets_written : (bytes : List ℕ) → ((i : ℕ) → slice_index_or bytes i 0 < 256) → (i n number k : ℕ) → slice_index_or (with_number bytes i n number) k 0 < 256
unfolding with_number
octets_written bytes octets i zero number k = octets k
octets_written bytes octets i (suc n) number k =
    octets_written (slice_set bytes i (number % 256)) (set_octets bytes octets i (number % 256) (omega arith)) (i + 1) n (number / 256) k
  where
    set_octets : (bytes : List ℕ) → ((i : ℕ) → slice_index_or bytes i 0 < 256) → (i byte : ℕ) → byte < 256 → (k : ℕ) → slice_index_or (slice_set bytes i byte) k 0 < 256
    set_octets bytes octets i byte below k = elim (cases_eq k i) [
      | inr other ↦ rw (get_or-set_other bytes i k byte 0 other) (octets k)
      | inl same ↦ elim (cases_lt i (length bytes)) [
        | inl inside ↦ rw (same, get_or-set_same bytes i byte 0 inside) below
        | inr past ↦ rw (set_past bytes i byte past) (octets k)
      ]
    ]

-- a store keeps RAM packed, where the granule then may have its tag
pub packed_stored : (bytes tags bits : List ℕ) (g offset n number : ℕ) → IsPackedRam bytes tags → offset + n ≤ 16 → length bits ≡ length tags →
    ((k : ℕ) → k ≢ g → tag_at bits k ≡ tag_at tags k) →
    IsTaggedWord (tag_at bits g) (number_at (with_number bytes (16 * g + offset) n number) (16 * g) 16) →
    IsPackedRam (with_number bytes (16 * g + offset) n number) bits
packed_stored bytes tags bits g offset n number h inside same others is =
    let size = length-with_number bytes (16 * g + offset) n number in
    let room = h.room in
    record {
      size = rw size h.size;
      room = rw (size, same) room;
      octets = octets_written bytes h.octets (16 * g + offset) n number;
      tagged = λ k. elim (cases_eq k g) [
        | inl here ↦ rw here is
        | inr other ↦ rw (others k other, other_granule bytes g offset n number k inside other) (h.tagged k)
      ];
    }

-- a data store
pub data_stored : (bytes tags bits : List ℕ) (g offset n number : ℕ) → IsPackedRam bytes tags → offset + n ≤ 16 → g < length bytes / 16 →
    ((k : ℕ) → k ≢ g → tag_at bits k ≡ tag_at tags k) → tag_at bits g ≡ false →
    unpacked_memory (with_number bytes (16 * g + offset) n number) bits
    ≡ slice_set (unpacked_memory bytes tags) g (raw (with_bytes (bits_of (granule_at (unpacked_memory bytes tags) g)) offset n number))
data_stored bytes tags bits g offset n number h inside below others cleared =
    let all : offset + (n + (16 - offset - n)) ≡ 16 = omega arith in
    let whole = whole_granules (length bytes) h.size in
    let word = word_with_number bytes h.octets (16 * g) offset n (16 - offset - n) all number (omega arith) in
    let old = bits_of-value_at (tag_at tags g) (number_at bytes (16 * g) 16) (h.tagged g) in
    stored_is bytes tags bits g offset n number _ inside below others
    (rw (cleared, word, granule-unpacked bytes tags g below, old) refl)

-- a data load
pub data_loaded : (bytes tags : List ℕ) (g offset n : ℕ) → IsPackedRam bytes tags → offset + n ≤ 16 → g < length bytes / 16 →
    number_at bytes (16 * g + offset) n ≡ bytes_at (bits_of (granule_at (unpacked_memory bytes tags) g)) offset n
data_loaded bytes tags g offset n h inside below =
    let all : offset + (n + (16 - offset - n)) ≡ 16 = omega arith in
    let old = bits_of-value_at (tag_at tags g) (number_at bytes (16 * g) 16) (h.tagged g) in
    rw (granule-unpacked bytes tags g below, old) (sym (bytes_of_word bytes h.octets (16 * g) offset n (16 - offset - n) all))

-- a capability store
pub capability_stored : (bytes tags bits : List ℕ) (g : ℕ) (v : CapValue) → IsPackedRam bytes tags → IsLawfulValue v → g < length bytes / 16 →
    ((k : ℕ) → k ≢ g → tag_at bits k ≡ tag_at tags k) → tag_at bits g ≡ tag_of v →
    unpacked_memory (with_number bytes (16 * g) 16 (bits_of v)) bits ≡ slice_set (unpacked_memory bytes tags) g v
capability_stored bytes tags bits g v h lawful below others tag =
    let place : 16 * g + 0 ≡ 16 * g = omega arith in
    let small = bits_lt v lawful in
    let word : number_at (with_number bytes (16 * g) 16 (bits_of v)) (16 * g) 16 ≡ bits_of v =
    with_number_there bytes (16 * g) 16 (bits_of v) (omega (arith, whole_granules (length bytes) h.size)) ∙ omega arith in
    rw place at (stored_is bytes tags bits g 0 16 (bits_of v) v (omega arith) below others (rw (place, tag, word) (value_back v lawful)))

-- where an access that fits is: its granule, and the place of its bytes there
pub place_is : (addr : ℕ) → addr - ram_base ≡ 16 * granule_number addr + granule_offset addr
place_is addr = omega arith

pub data_inside : (granules : List CapValue) (addr : ℕ) (width : Width) → IsTrue (fits granules addr (bytes_of width)) → granule_offset addr + bytes_of width ≤ 16
data_inside granules addr Byte h = grind (arith, nat_tests)
data_inside granules addr Half h = grind (arith, nat_tests)
data_inside granules addr Word h = grind (arith, nat_tests)
data_inside granules addr Double h = grind (arith, nat_tests)

pub granule_inside : (granules : List CapValue) (addr bytes : ℕ) → IsTrue (fits granules addr bytes) → granule_number addr < length granules
granule_inside granules addr bytes h = grind (arith, nat_tests)

pub granule_aligned : (granules : List CapValue) (addr : ℕ) → IsTrue (fits granules addr 16) → granule_offset addr ≡ 0
granule_aligned granules addr h = grind (arith, nat_tests)

-- the same of the memory that packed bytes are
pub below_is : (bytes tags : List ℕ) (now : List CapValue) (g : ℕ) → unpacked_memory bytes tags ≡ now → g < length now → g < length bytes / 16
below_is bytes tags now g is below = let size = ap length is in omega (arith, size, length-unpacked bytes tags)

pub most_bytes : (size : ℕ) → is_ram_size size ≡ true → size ≤ 1048576
most_bytes size h = grind (arith, nat_tests)

-- one byte
pub byte_unpacked : (bytes tags : List ℕ) (i : ℕ) → IsPackedRam bytes tags → i < length bytes →
    slice_index_or bytes i 0 ≡ bytes_at (bits_of (granule_at (unpacked_memory bytes tags) (i / 16))) (i % 16) 1
unfolding number_at
byte_unpacked bytes tags i h below =
    let place : 16 * (i / 16) + i % 16 ≡ i = omega arith in
    let whole = whole_granules (length bytes) h.size in
    let loaded = data_loaded bytes tags (i / 16) (i % 16) 1 h (omega arith) (omega arith) in
    omega (arith, rw place at loaded)

-- a vector whose items were replaced by as many
pub kept_whole : (len : ℕ) (new old : List ℕ) → length new ≡ length old → len ≡ length old → take len (new ++ drop (length new) old) ≡ new
kept_whole len new old same is =
    let none : drop (length new) old ≡ [] = drop_all (length new) old (omega arith) in
    let size : len ≡ length new = omega arith in
    rw (none, size) (rw (append-nil new) (take_all (length new) new (omega arith)))

-- what stores keep packed
pub data_packed : (bytes tags bits : List ℕ) (g offset n number : ℕ) → IsPackedRam bytes tags → offset + n ≤ 16 → length bits ≡ length tags →
    ((k : ℕ) → k ≢ g → tag_at bits k ≡ tag_at tags k) → tag_at bits g ≡ false → IsPackedRam (with_number bytes (16 * g + offset) n number) bits
data_packed bytes tags bits g offset n number h inside same others cleared =
    let small = number_below _ (octets_written bytes h.octets (16 * g + offset) n number) (16 * g) 16 in
    packed_stored bytes tags bits g offset n number h inside same others
    (rw cleared (record { below = small; encoded = λ e. absurd (false≢true e) }))

pub capability_packed : (bytes tags bits : List ℕ) (g : ℕ) (v : CapValue) → IsPackedRam bytes tags → IsLawfulValue v → g < length bytes / 16 → length bits ≡ length tags →
    ((k : ℕ) → k ≢ g → tag_at bits k ≡ tag_at tags k) → tag_at bits g ≡ tag_of v → IsPackedRam (with_number bytes (16 * g) 16 (bits_of v)) bits
capability_packed bytes tags bits g v h lawful below same others tag =
    let place : 16 * g + 0 ≡ 16 * g = omega arith in
    let small = bits_lt v lawful in
    let word : number_at (with_number bytes (16 * g) 16 (bits_of v)) (16 * g) 16 ≡ bits_of v =
    with_number_there bytes (16 * g) 16 (bits_of v) (omega (arith, whole_granules (length bytes) h.size)) ∙ omega arith in
    rw place at (packed_stored bytes tags bits g 0 16 (bits_of v) h (omega arith) same others (rw (place, tag, word) (value_tagged v lawful)))
