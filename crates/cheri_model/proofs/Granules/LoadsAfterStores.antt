-- What loads give after a data store.
use Rattle.std.proofs.Common.{◌≡◌, ◌≢◌, ℕ, ◌+◌, ◌*◌, ◌%◌, ◌<◌, ◌≤◌, inl, inr, List, length, ap, ◌∙◌, arith}
use Rattle.std.specs.Prelude.{slice_set, IsTrue}
use Rattle.std.proofs.lemmas.Bool.{cases_eq}
use Rattle.std.proofs.lemmas.Bool.Decides.{nat_tests}
use Rattle.std.proofs.lemmas.List.{get_or-set_same, get_or-set_other}
use Rattle.cheri_model.specs.declared.width.Width.{Width}
use Rattle.cheri_model.specs.declared.width.Width.TheVariants.{Byte, Half, Word, Double}
use Rattle.cap_model.specs.values.CapValue.{CapValue, raw, bits_of}
use Rattle.cheri_model.specs.steps.Memory.{ram_base, granule_number, granule_offset, granule_at, bytes_of, fits, bytes_at, with_bytes, load_data, store_data}
use Rattle.cheri_model.proofs.Granules.StoredBytes.{bytes_at-with_bytes_inside, bytes_at-with_bytes_below, bytes_at-with_bytes_above}

-- an aligned access that lies wholly in RAM
record Fits (granules : List CapValue) (addr bytes : ℕ) : Type 0 where
  aligned : addr % bytes ≡ 0
  from_base : ram_base ≤ addr
  to_end : addr + bytes ≤ ram_base + 16 * length granules

fits_facts : (granules : List CapValue) (addr bytes : ℕ) → IsTrue (fits granules addr bytes) → Fits granules addr bytes
fits_facts granules addr bytes h = record {
  aligned = grind (arith, nat_tests);
  from_base = grind (arith, nat_tests);
  to_end = grind (arith, nat_tests);
}

-- a data access lies within one granule
within_granule : (addr : ℕ) (width : Width) → ram_base ≤ addr → addr % bytes_of width ≡ 0 → granule_offset addr + bytes_of width ≤ 16
within_granule addr Byte base aligned = omega arith
within_granule addr Half base aligned = omega arith
within_granule addr Word base aligned = omega arith
within_granule addr Double base aligned = omega arith

in_map : (granules : List CapValue) (addr : ℕ) (width : Width) → Fits granules addr (bytes_of width) → granule_number addr < length granules
in_map granules addr Byte f = omega arith
in_map granules addr Half f = omega arith
in_map granules addr Word f = omega arith
in_map granules addr Double f = omega arith

granule_at-set_same : (granules : List CapValue) (k : ℕ) (v : CapValue) → k < length granules → granule_at (slice_set granules k v) k ≡ v
unfolding granule_at
granule_at-set_same granules k v within = get_or-set_same granules k v (raw 0) within

granule_at-set_other : (granules : List CapValue) (k j : ℕ) (v : CapValue) → j ≢ k → granule_at (slice_set granules k v) j ≡ granule_at granules j
unfolding granule_at
granule_at-set_other granules k j v apart = get_or-set_other granules k j v (raw 0) apart

-- the granule of a store has no tag, and its bits are those of before but for the bytes stored
pub granule_at-store_data : (granules : List CapValue) (addr number : ℕ) (width : Width) → IsTrue (fits granules addr (bytes_of width)) → granule_at (store_data granules addr (bytes_of width) number) (granule_number addr) ≡ raw (with_bytes (bits_of (granule_at granules (granule_number addr))) (granule_offset addr) (bytes_of width) number)
unfolding store_data
granule_at-store_data granules addr number width h =
    granule_at-set_same granules (granule_number addr) _ (in_map granules addr width (fits_facts granules addr (bytes_of width) h))

-- every other granule is as before
pub granule_at-store_data_other : (granules : List CapValue) (addr number bytes k : ℕ) → k ≢ granule_number addr → granule_at (store_data granules addr bytes number) k ≡ granule_at granules k
unfolding store_data
granule_at-store_data_other granules addr number bytes k apart = granule_at-set_other granules (granule_number addr) k _ apart

-- a load of what was stored
pub load_data-store_data : (granules : List CapValue) (addr number : ℕ) (width : Width) → IsTrue (fits granules addr (bytes_of width)) → load_data (store_data granules addr (bytes_of width) number) addr (bytes_of width) ≡ bytes_at number 0 (bytes_of width)
unfolding load_data
load_data-store_data granules addr number width h =
    let b : ℕ = bytes_of width in
    let o : ℕ = granule_offset addr in
    let word : ℕ = bits_of (granule_at granules (granule_number addr)) in
    ap (λ v. bytes_at (bits_of v) o b) (granule_at-store_data granules addr number width h)
    ∙ (let at : o + 0 ≡ o = omega arith in
    let inside : bytes_at (with_bytes word o b number) (o + 0) b ≡ bytes_at number 0 b =
    bytes_at-with_bytes_inside word o b number 0 b (omega arith) in
    let stays = rw at at inside in stays)

-- a load of a granule that was stored to, of bytes that keep what they were
load_of_stored_granule : (granules : List CapValue) (addr number other : ℕ) (width : Width) (count : ℕ) → IsTrue (fits granules addr (bytes_of width)) → granule_number other ≡ granule_number addr → bytes_at (with_bytes (bits_of (granule_at granules (granule_number addr))) (granule_offset addr) (bytes_of width) number) (granule_offset other) count ≡ bytes_at (bits_of (granule_at granules (granule_number addr))) (granule_offset other) count → load_data (store_data granules addr (bytes_of width) number) other count ≡ load_data granules other count
unfolding load_data
load_of_stored_granule granules addr number other width count h same keeps =
    rw same (rw (granule_at-store_data granules addr number width h) keeps)

load_of_other_granule : (granules : List CapValue) (addr number other bytes count : ℕ) → granule_number other ≢ granule_number addr → load_data (store_data granules addr bytes number) other count ≡ load_data granules other count
unfolding load_data
load_of_other_granule granules addr number other bytes count apart =
    ap (λ v. bytes_at (bits_of v) (granule_offset other) count) (granule_at-store_data_other granules addr number bytes (granule_number other) apart)

-- a load of bytes above those stored
pub load_data-store_data_above : (granules : List CapValue) (addr number other : ℕ) (width load_width : Width) → IsTrue (fits granules addr (bytes_of width)) → IsTrue (fits granules other (bytes_of load_width)) → addr + bytes_of width ≤ other → load_data (store_data granules addr (bytes_of width) number) other (bytes_of load_width) ≡ load_data granules other (bytes_of load_width)
load_data-store_data_above granules addr number other width load_width h k apart =
    let f = fits_facts granules addr (bytes_of width) h in
    let within = within_granule addr width f.from_base f.aligned in
    elim (cases_eq (granule_number other) (granule_number addr)) [
      | inl same ↦ load_of_stored_granule granules addr number other width (bytes_of load_width) h same
          (bytes_at-with_bytes_above _ (granule_offset addr) (bytes_of width) number (granule_offset other) (bytes_of load_width) (omega arith))
      | inr differ ↦ load_of_other_granule granules addr number other (bytes_of width) (bytes_of load_width) differ
    ]

-- a load of bytes below those stored
pub load_data-store_data_below : (granules : List CapValue) (addr number other : ℕ) (width load_width : Width) → IsTrue (fits granules addr (bytes_of width)) → IsTrue (fits granules other (bytes_of load_width)) → other + bytes_of load_width ≤ addr → load_data (store_data granules addr (bytes_of width) number) other (bytes_of load_width) ≡ load_data granules other (bytes_of load_width)
load_data-store_data_below granules addr number other width load_width h k apart =
    let g = fits_facts granules other (bytes_of load_width) k in
    let within = within_granule other load_width g.from_base g.aligned in
    elim (cases_eq (granule_number other) (granule_number addr)) [
      | inl same ↦ load_of_stored_granule granules addr number other width (bytes_of load_width) h same
          (bytes_at-with_bytes_below _ (granule_offset addr) (bytes_of width) number (granule_offset other) (bytes_of load_width) (omega arith))
      | inr differ ↦ load_of_other_granule granules addr number other (bytes_of width) (bytes_of load_width) differ
    ]
