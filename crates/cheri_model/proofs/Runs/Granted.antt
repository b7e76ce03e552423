-- Values that are lawful and granted by some sources: each operation of values keeps it.
use Rattle.std.proofs.Common.{◌≡◌, ℕ, ◌+◌, ◌-◌, ◌*◌, ◌/◌, ◌%◌, ◌^◌, ◌<◌, ◌≤◌, true, false, ◌&&◌, List, inl, inr, refl, sym, ap, subst, ◌∙◌, arith, le_trans, leb-true, eqb-true, lit<}
use Rattle.std.specs.Prelude.{◌⊎◌, nat_le, bit_and, if◌then◌else◌}
use Rattle.std.proofs.lemmas.Nat.{and_assoc, and_shr, and_mod, and_le_r, pow-add, pow_pos, shr_below, mod_below}
use Rattle.std.proofs.Math.Nat.{mul-le-mul_right}
use Rattle.std.proofs.lemmas.Bool.{and_parts, false≢true, le-leb}
use Rattle.cap_model.specs.values.Capability.{Capability}
use Rattle.cap_model.specs.values.CapValue.{CapValue, valid, raw, tag_of, parts_of, IsLawfulValue}
use Rattle.cap_model.specs.results.CapInstructions.{CapInstruction, CClearTag, CSealEntry, UnsealedByJump, capability_result}
use Rattle.cap_model.specs.results.Derivation.{IsDerived}
use Rattle.cheri_model.specs.steps.Memory.{with_bytes}
use Rattle.cap_model.specs.results.Addresses.{address_of, clear_tag, with_address, has_permission, is_open}
use Rattle.cap_model.specs.results.Seals.{seal_permission, is_sealable, has_type_authority, seal_entry, unsealed}
use Rattle.cheri_model.specs.steps.Hart.{null}
use Rattle.cheri_model.specs.steps.HartStep.{permitted}
use Rattle.cap_model.specs.results.Derivation.{IsWithin}
use Rattle.cheri_model.specs.runs.Authority.{IsGrantedType, IsGranted, IsGrantedValue}
use Rattle.cap_model.proofs.Words.AddressesMoved.{moved_lawful}
use Rattle.cap_model.proofs.Results.Derivations.{result_lawful, result_derived}
use Rattle.cap_model.proofs.Bounds.WindowsHold.{lawful_bounds_in_window}

-- a permission among fewer is among the more: here of Seal
seal_among : (p q : ℕ) → bit_and p q ≡ p → p / 2 ^ 7 % 2 ≡ 1 → q / 2 ^ 7 % 2 ≡ 1
seal_among p q same bit =
    let digit : p / 2 ^ 7 % 2 ≡ bit_and (p / 2 ^ 7 % 2) (q / 2 ^ 7 % 2) =
    ap (λ (n : ℕ). n / 2 ^ 7 % 2) (sym same) ∙ ap (λ (n : ℕ). n % 2 ^ 1) (and_shr p q 7) ∙ and_mod (p / 2 ^ 7) (q / 2 ^ 7) 1 in
    let most = and_le_r (p / 2 ^ 7 % 2) (q / 2 ^ 7 % 2) in
    omega arith

-- within is transitive
within_within : (c d e : Capability) → IsWithin c d → IsWithin d e → IsWithin c e
within_within c d e inside outer = record {
  base = le_trans outer.base inside.base;
  top = le_trans inside.top outer.top;
  perms = ap (λ p. bit_and p e.perms) (sym inside.perms) ∙ and_assoc e.perms c.perms d.perms
      ∙ ap (bit_and c.perms) outer.perms ∙ inside.perms;
}

-- a field of b bits below some other bits has no more bits than all of them
field_below : (q field j b : ℕ) → q < 2 ^ j → field < 2 ^ b → q * 2 ^ b + field < 2 ^ (j + b)
field_below q field j b in_q in_field =
    let whole : 2 ^ (j + b) ≡ 2 ^ j * 2 ^ b = pow-add 2 j b in
    let more : (q + 1) * 2 ^ b ≤ 2 ^ j * 2 ^ b = mul-le-mul_right (2 ^ b) (omega arith) in
    omega (arith, whole, more)

-- a word with some of its bytes replaced is a word
pub with_bytes_below : (word offset bytes number : ℕ) → word < 2 ^ 128 → offset + bytes ≤ 16 → with_bytes word offset bytes number < 2 ^ 128
unfolding with_bytes
with_bytes_below word offset bytes number in_word fits =
    let s : ℕ = 8 * offset in
    let b : ℕ = 8 * bytes in
    let j : ℕ = 128 - s - b in
    let whole : j + b + s ≡ 128 = omega arith in
    let in_word' : word < 2 ^ (j + b + s) = rw whole in_word in
    let in_q : word / 2 ^ s / 2 ^ b < 2 ^ j = shr_below (word / 2 ^ s) j b (shr_below word (j + b) s in_word') in
    let middle = field_below (word / 2 ^ s / 2 ^ b) (number % 2 ^ b) j b in_q (mod_below number (2 ^ b) (pow_pos b)) in
    let all = field_below (word / 2 ^ s / 2 ^ b * 2 ^ b + number % 2 ^ b) (word % 2 ^ s) (j + b) s middle (mod_below word (2 ^ s) (pow_pos s)) in
    rw whole at all

-- lawful, and granted by the sources if it is tagged
pub record IsGood (sources : List CapValue) (v : CapValue) : Type 0 where
  pub lawful : IsLawfulValue v
  pub granted : IsGrantedValue sources v

module _ (sources : List CapValue) where
  pub IsGood-raw : (n : ℕ) → n < 2 ^ 128 → IsGood sources (raw n)
  IsGood-raw n below = record { lawful = below; granted = tt }

  pub IsGood-null : IsGood sources null
  IsGood-null = IsGood-raw 0 (lit< tt)

  -- what may be sealed with by a granted capability is granted
  type_from_authority : (w : CapValue) (otype : ℕ) → has_type_authority w seal_permission ≡ true → otype ≡ address_of w → IsGrantedValue sources w → IsGrantedType sources otype
  unfolding address_of
  type_from_authority (raw word) otype auth is granted = absurd (false≢true auth)
  type_from_authority (valid c) otype auth is granted =
      let all = and_parts (is_open (valid c) && has_permission (valid c) seal_permission) _ auth in
      let some = and_parts (is_open (valid c)) _ all.0 in
      let inside = and_parts (nat_le c.base c.addr) _ all.1 in
      let from = leb-true _ _ inside.0 in
      let to = leb-true _ _ inside.1 in
      let bit : c.perms / 2 ^ 7 % 2 ≡ 1 = eqb-true _ _ some.1 in
      let base = granted.within.base in
      let top = granted.within.top in
      record {
        source = granted.source;
        held = granted.held;
        by = inr (record { base = omega arith; top = omega arith; seal = seal_among c.perms granted.source.perms granted.within.perms bit });
      }

  -- what is derived from a granted capability, under a granted one, is granted
  narrowed : (c a : Capability) (w : CapValue) → IsWithin c a →
      (is_sealable c.otype ≡ true → (c.otype ≡ a.otype) ⊎ ((has_type_authority w seal_permission ≡ true) × (c.otype ≡ address_of w))) →
      IsGranted sources a → IsGrantedValue sources w → IsGranted sources c
  narrowed c a w within sealed granted authority = record {
    source = granted.source;
    held = granted.held;
    within = within_within c a granted.source within granted.within;
    sealed = λ low. elim (sealed (le-leb _ _ low)) [
      | inl same ↦ subst (IsGrantedType sources) (sym same) (granted.sealed (let h = low in omega arith))
      | inr new ↦ type_from_authority w c.otype new.0 new.1 authority
    ];
  }

  granted_result : (r v w : CapValue) → (tag_of r ≡ true → IsDerived r v w) → IsGrantedValue sources v → IsGrantedValue sources w → IsGrantedValue sources r
  granted_result (raw word) v w derived granted authority = tt
  granted_result (valid c) (valid a) w derived granted authority =
      let d = derived refl in narrowed c a w d.within d.sealed granted authority
  granted_result (valid c) (raw word) w derived granted authority = absurd (false≢true (derived refl).source)

  -- each capability instruction
  pub IsGood-derived : (i : CapInstruction) (v w : CapValue) → IsGood sources v → IsGood sources w → IsGood sources (capability_result i v w)
  IsGood-derived i v w good authority = record {
    lawful = result_lawful i v w good.lawful authority.lawful;
    granted = granted_result (capability_result i v w) v w (result_derived i v w good.lawful) good.granted authority.granted;
  }

  pub IsGood-cleared : (v : CapValue) → IsGood sources v → IsGood sources (clear_tag v)
  unfolding capability_result
  IsGood-cleared v good = IsGood-derived CClearTag v v good good

  pub IsGood-entry : (v : CapValue) → IsGood sources v → IsGood sources (seal_entry v)
  unfolding capability_result
  IsGood-entry v good = IsGood-derived CSealEntry v v good good

  pub IsGood-unsealed : (v : CapValue) → IsGood sources v → IsGood sources (unsealed v)
  unfolding capability_result
  IsGood-unsealed v good = IsGood-derived UnsealedByJump v v good good

  -- a loaded capability, with its tag or without
  pub IsGood-permitted : (auth v : CapValue) → IsGood sources v → IsGood sources (permitted auth v)
  unfolding permitted
  IsGood-permitted auth v good = elim (has_permission auth 4) as (λ keeps. IsGood sources (if keeps then v else clear_tag v)) [
    | true ↦ good
    | false ↦ IsGood-cleared v good
  ]

  -- a tagged value with an address in its bounds, or at their top
  pub IsGood-moved : (v : CapValue) (n a : ℕ) → tag_of v ≡ true → (parts_of v).base ≤ n → n ≤ (parts_of v).top → a ≡ n % 2 ^ 64 →
      IsGood sources v → IsGood sources (with_address v a)
  unfolding with_address
  IsGood-moved (raw word) n a tagged from to is good = absurd (false≢true tagged)
  IsGood-moved (valid c) n a tagged from to is good =
      let g = good.granted in
      record {
        lawful = rw is (moved_lawful c good.lawful (n % 2 ^ 64) (omega arith) (lawful_bounds_in_window c good.lawful n from to));
        granted = record {
          source = g.source;
          held = g.held;
          within = record { base = g.within.base; top = g.within.top; perms = g.within.perms };
          sealed = g.sealed;
        };
      }
