-- Values made of values: what each operation of values makes lies within its source.
use Rattle.std.proofs.Common.{◌≡◌, ℕ, ◌≤◌, ◌<◌, true, false, Bool, List, refl, sym, ap, ◌∙◌, le_trans, arith, inl, inr, length}
use Rattle.std.specs.Prelude.{bit_and, if◌then◌else◌, All, slice_index_or}
use Rattle.std.specs.Int.Bits.{and_self}
use Rattle.std.proofs.lemmas.Nat.{and_assoc}
use Rattle.std.proofs.lemmas.Bool.{false≢true, cases_lt}
use Rattle.std.proofs.lemmas.List.{get_or_past}
use Rattle.cap_model.specs.values.Capability.{Capability}
use Rattle.cap_model.specs.values.CapValue.{CapValue, valid, raw, bits_of, tag_of, parts_of, tagged_where, IsLawfulValue}
use Rattle.cap_model.specs.results.Addresses.{address_of, is_open, has_permission, clear_tag, with_address}
use Rattle.cap_model.specs.results.Seals.{seal_entry, unsealed}
use Rattle.cap_model.specs.results.Swept.{is_in_sweep, swept}
use Rattle.cap_model.specs.results.Derivation.{IsWithin, IsDerived}
use Rattle.cap_model.specs.results.CapInstructions.{CapInstruction, capability_result}
use Rattle.cap_model.proofs.Results.Derivations.{result_derived}
use Rattle.cheri_model.specs.steps.Hart.{next_pcc, link}
use Rattle.cheri_model.specs.steps.HartStep.{permitted}
use Rattle.origins.specs.OriginLaw.{IsOf}

-- the same bounds and permissions
within_same : (c : Capability) (addr flag otype : ℕ) →
    IsWithin (record c { addr = addr; flag = flag; otype = otype }) c
within_same c addr flag otype = record { base = omega arith; top = omega arith; perms = and_self c.perms }

pub IsOf-itself : (v : CapValue) → IsOf v v
IsOf-itself (valid c) = within_same c c.addr c.flag c.otype
IsOf-itself (raw word) = tt

pub IsOf-through : (u v w : CapValue) → IsOf u v → IsOf v w → IsOf u w
IsOf-through (raw word) v w inner outer = tt
IsOf-through (valid c) (raw word) w inner outer = absurd inner
IsOf-through (valid c) (valid d) (raw word) inner outer = absurd outer
IsOf-through (valid c) (valid d) (valid e) inner outer = record {
  base = le_trans outer.base inner.base;
  top = le_trans inner.top outer.top;
  perms = ap (λ p. bit_and p e.perms) (sym inner.perms) ∙ and_assoc e.perms c.perms d.perms
      ∙ ap (bit_and c.perms) outer.perms ∙ inner.perms;
}

of_derived : (r v w : CapValue) → (tag_of r ≡ true → IsDerived r v w) → IsOf r v
of_derived (raw word) v w derived = tt
of_derived (valid c) (valid d) w derived = (derived refl).within
of_derived (valid c) (raw word) w derived = absurd (false≢true (derived refl).source)

-- the result of each capability instruction
pub IsOf-result : (i : CapInstruction) (v w : CapValue) → IsLawfulValue v → IsOf (capability_result i v w) v
IsOf-result i v w lawful = of_derived (capability_result i v w) v w (result_derived i v w lawful)

pub IsOf-with_address : (v : CapValue) (a : ℕ) → IsOf (with_address v a) v
unfolding with_address
IsOf-with_address (valid c) a = within_same c a c.flag c.otype
IsOf-with_address (raw word) a = tt

pub IsOf-unsealed : (v : CapValue) → IsOf (unsealed v) v
unfolding unsealed
IsOf-unsealed (valid c) = within_same c c.addr c.flag _
IsOf-unsealed (raw word) = tt

-- the same bounds and permissions, with a tag where a condition holds
where_tagged : (c : Capability) (otype word : ℕ) (b : Bool) →
    IsOf (tagged_where b (record c { otype = otype }) word) (valid c)
where_tagged c otype word true = within_same c c.addr c.flag otype
where_tagged c otype word false = tt

IsOf-seal_entry : (v : CapValue) → IsOf (seal_entry v) v
unfolding seal_entry
IsOf-seal_entry (valid c) = where_tagged c _ _ _
IsOf-seal_entry (raw word) = tt

pub IsOf-next_pcc : (pcc : CapValue) → IsOf (next_pcc pcc) pcc
unfolding next_pcc
IsOf-next_pcc pcc = IsOf-with_address pcc _

pub IsOf-link : (pcc : CapValue) → IsOf (link pcc) pcc
unfolding link
IsOf-link pcc = IsOf-through _ (next_pcc pcc) pcc (IsOf-seal_entry (next_pcc pcc)) (IsOf-next_pcc pcc)

-- a jump's target, through a capability that it unseals
pub IsOf-jumped_to : (v : CapValue) (target : ℕ) → IsOf (with_address (unsealed v) target) v
IsOf-jumped_to v target =
    IsOf-through _ (unsealed v) v (IsOf-with_address (unsealed v) target) (IsOf-unsealed v)

kept_or_cleared : (b : Bool) (v : CapValue) → IsOf (if b then v else clear_tag v) v
kept_or_cleared true v = IsOf-itself v
kept_or_cleared false v = tt

cleared_or_kept : (b : Bool) (v : CapValue) → IsOf (if b then clear_tag v else v) v
cleared_or_kept true v = tt
cleared_or_kept false v = IsOf-itself v

pub IsOf-permitted : (auth v : CapValue) → IsOf (permitted auth v) v
unfolding permitted
IsOf-permitted auth v = kept_or_cleared _ v

pub IsOf-swept : (lo hi : ℕ) (v : CapValue) → IsOf (swept lo hi v) v
unfolding swept
IsOf-swept lo hi v = cleared_or_kept (is_in_sweep lo hi v) v
