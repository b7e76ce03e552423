-- Which hart holds rights.
use Rattle.std.proofs.Common.{◌≡◌, ℕ, zero, suc, ◌<◌, length, get_or, refl, sym, subst}
use Rattle.std.specs.Prelude.{true}
use Rattle.std.proofs.lemmas.Option.{get_or_from_slice_get, same_Some, slice_get-get_or, slice_get_within}
use Rattle.cap_model.specs.values.CapValue.{CapValue, tag_of}
use Rattle.cheri_model.specs.steps.Hart.{HartState, null, register}
use Rattle.explore_rights.specs.Held.{Holds, held_by}
use Rattle.explore_rights.specs.Rights.{rights_of}
use Rattle.explore_rights.specs.declared.rights.Rights.{Rights}

-- a value has just these rights
abbrev pub HasJust : CapValue → Rights → Type 0
HasJust v rights = (tag_of v ≡ true) × (rights_of v ≡ rights)

pub pcc_holds : (h : HartState) (rights : Rights) → HasJust h.pcc rights → Holds (held_by h) rights
pcc_holds h rights just = (0, h.pcc, refl, just.0, just.1)

pub register_holds : (h : HartState) (rights : Rights) (reg : ℕ) → reg < length h.regs → HasJust (register h reg) rights →
    Holds (held_by h) rights
unfolding register
register_holds h rights reg inside just =
    (suc reg, get_or h.regs reg null, slice_get-get_or h.regs reg null inside, just.0, just.1)

pub nothing_holds : (h : HartState) (rights : Rights) → (HasJust h.pcc rights → ⊥) →
    ((reg : ℕ) → reg < length h.regs → HasJust (register h reg) rights → ⊥) → Holds (held_by h) rights → ⊥
unfolding register
nothing_holds h rights pcc regs (zero, v, at, tagged, same) =
    pcc (subst (λ (w : CapValue). HasJust w rights) (sym (same_Some h.pcc v at)) (tagged, same))
nothing_holds h rights pcc regs (suc k, v, at, tagged, same) =
    regs k (slice_get_within h.regs k v at)
    (subst (λ (w : CapValue). HasJust w rights) (sym (get_or_from_slice_get h.regs k v null at)) (tagged, same))
