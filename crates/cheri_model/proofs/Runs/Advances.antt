-- PCC goes on or to a target: an open capability keeps its tag at each address of its bounds, and at their top.
use Rattle.std.proofs.Common.{◌≡◌, ℕ, ◌+◌, ◌%◌, ◌^◌, ◌≤◌, ◌==◌, true, List, arith, refl, leb-true}
use Rattle.std.specs.Prelude.{nat_le, nat_lt, IsTrue}
use Rattle.std.proofs.lemmas.Bool.{and_parts, false≢true}
use Rattle.cheri_model.specs.declared.access.Access.{Access}
use Rattle.cheri_model.specs.declared.access.Access.TheVariants.{Load, Store, LoadCap, StoreCap, Swap}
use Rattle.cheri_model.specs.declared.width.Width.{Width}
use Rattle.cheri_model.specs.declared.width.Width.TheVariants.{Byte, Half, Word, Double}
use Rattle.cap_model.specs.values.CapValue.{CapValue, valid, raw, tag_of, parts_of, IsLawfulValue}
use Rattle.cheri_model.specs.steps.Checks.{size_of}
use Rattle.cheri_model.specs.steps.Hart.{next_pcc}
use Rattle.cheri_model.specs.steps.Memory.{bytes_of, is_in_ram, fits}
use Rattle.cap_model.specs.results.Addresses.{address_of, is_open, keeps_bounds, in_bounds, with_address, set_address}
use Rattle.cap_model.specs.results.Seals.{unsealed}
use Rattle.cap_model.proofs.Bounds.WindowsHold.{lawful_bounds_in_window}
use Rattle.cap_model.proofs.Results.AddressResults.{test_of_window}
use Rattle.cheri_model.proofs.Runs.ChecksPassed.{IsPlacedAccess}

-- an address in the bounds, or at their top, modulo 2^64
placed_stays : (v : CapValue) (n a : ℕ) → IsLawfulValue v → is_open v ≡ true → (parts_of v).base ≤ n → n ≤ (parts_of v).top →
    a ≡ n % 2 ^ 64 → keeps_bounds v a ≡ true
placed_stays (raw word) n a h opened from to is = absurd (false≢true opened)
placed_stays (valid c) n a h opened from to is = test_of_window c.base _ a (rw is (lawful_bounds_in_window c h n from to))

kept_is : (v : CapValue) (a : ℕ) → is_open v ≡ true → keeps_bounds v a ≡ true → set_address v a ≡ with_address v a
unfolding set_address with_address
kept_is (raw word) a opened kept = absurd (false≢true opened)
kept_is (valid c) a opened kept = rw (opened, kept) refl

top_at_most : (v : CapValue) → IsLawfulValue v → is_open v ≡ true → (parts_of v).top ≤ 2 ^ 64
top_at_most (valid c) h opened = h.top_at_most
top_at_most (raw word) h opened = absurd (false≢true opened)

-- a target whose four bytes are in the bounds
pub target_stays : (v : CapValue) (target : ℕ) → IsLawfulValue v → is_open v ≡ true → in_bounds v target 4 ≡ true →
    keeps_bounds v target ≡ true
target_stays v target h opened within =
    let inside = and_parts (nat_le (parts_of v).base target) _ within in
    let from = leb-true _ _ inside.0 in
    let to = leb-true _ _ inside.1 in
    let most = top_at_most v h opened in
    placed_stays v target target h opened from (omega arith) (omega arith)

pub target_is : (v : CapValue) (target : ℕ) → IsLawfulValue v → is_open v ≡ true → in_bounds v target 4 ≡ true →
    set_address v target ≡ with_address v target
target_is v target h opened within = kept_is v target opened (target_stays v target h opened within)

-- four bytes on, where the four at the address are in the bounds
pub following_stays : (v : CapValue) → IsLawfulValue v → is_open v ≡ true → in_bounds v (address_of v) 4 ≡ true →
    keeps_bounds v ((address_of v + 4) % 2 ^ 64) ≡ true
following_stays v h opened within =
    let inside = and_parts (nat_le (parts_of v).base (address_of v)) _ within in
    let from = leb-true _ _ inside.0 in
    let to = leb-true _ _ inside.1 in
    placed_stays v (address_of v + 4) ((address_of v + 4) % 2 ^ 64) h opened (omega arith) to refl

pub following_is : (v : CapValue) → IsLawfulValue v → is_open v ≡ true → in_bounds v (address_of v) 4 ≡ true →
    set_address v ((address_of v + 4) % 2 ^ 64) ≡ next_pcc v
unfolding next_pcc
following_is v h opened within = kept_is v ((address_of v + 4) % 2 ^ 64) opened (following_stays v h opened within)

-- what a jump makes of the capability that it goes through is open, with the same bounds
pub unsealed_is_open : (v : CapValue) → tag_of v ≡ true → is_open (unsealed v) ≡ true
unfolding unsealed
unsealed_is_open (valid c) tagged = refl
unsealed_is_open (raw word) tagged = absurd (false≢true tagged)

pub in_bounds-unsealed : (v : CapValue) (p n : ℕ) → tag_of v ≡ true → in_bounds v p n ≡ true → in_bounds (unsealed v) p n ≡ true
unfolding unsealed
in_bounds-unsealed (valid c) p n tagged within = within
in_bounds-unsealed (raw word) p n tagged within = absurd (false≢true tagged)

-- an access that passed its check fits the memory
fits_bytes : (addr bytes : ℕ) (granules : List CapValue) → nat_lt 0 bytes ≡ true → (addr % bytes == 0) ≡ true →
    is_in_ram granules addr bytes ≡ true → IsTrue (fits granules addr bytes)
fits_bytes addr bytes granules some aligned placed = rw (some, aligned, placed) refl

some_bytes : (width : Width) → nat_lt 0 (bytes_of width) ≡ true
some_bytes Byte = refl
some_bytes Half = refl
some_bytes Word = refl
some_bytes Double = refl

moves_bytes : (kind : Access) → nat_lt 0 (size_of kind) ≡ true
moves_bytes (Load width) = some_bytes width
moves_bytes (Store width) = some_bytes width
moves_bytes LoadCap = refl
moves_bytes StoreCap = refl
moves_bytes Swap = refl

pub fits_access : (addr : ℕ) (kind : Access) (granules : List CapValue) → IsPlacedAccess addr kind granules →
    IsTrue (fits granules addr (size_of kind))
fits_access addr kind granules is = fits_bytes addr (size_of kind) granules (moves_bytes kind) is.aligned is.placed
