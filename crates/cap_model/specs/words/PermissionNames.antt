-- The names of permissions in listings, in bit order, with the set of each alone, in CGetPerm's
-- form.
use Rattle.std.specs.Prelude.{ℕ, List, [], ◌∷◌, codes, bit_and}
use Rattle.cap_model.specs.declared.perms.TheConstants.Perms.{GLOBAL, EXECUTE, LOAD, STORE}
use Rattle.cap_model.specs.declared.perms.TheConstants.Perms.{LOAD_CAP, STORE_CAP, STORE_LOCAL}
use Rattle.cap_model.specs.declared.perms.TheConstants.Perms.{SEAL, CINVOKE, UNSEAL, SYSREGS}
use Rattle.cap_model.specs.declared.perms.TheConstants.Perms.{SET_CID, SW0, SW1, SW2, SW3, ALL}

abbrev pub permission_table : List (List ℕ × ℕ)
permission_table =
    (codes "global", GLOBAL.0) ∷ (codes "execute", EXECUTE.0)
    ∷ (codes "load", LOAD.0) ∷ (codes "store", STORE.0)
    ∷ (codes "load_cap", LOAD_CAP.0) ∷ (codes "store_cap", STORE_CAP.0)
    ∷ (codes "store_local", STORE_LOCAL.0) ∷ (codes "seal", SEAL.0)
    ∷ (codes "cinvoke", CINVOKE.0) ∷ (codes "unseal", UNSEAL.0)
    ∷ (codes "sysregs", SYSREGS.0) ∷ (codes "set_cid", SET_CID.0)
    ∷ (codes "sw0", SW0.0) ∷ (codes "sw1", SW1.0)
    ∷ (codes "sw2", SW2.0) ∷ (codes "sw3", SW3.0)
    ∷ []

-- all permissions
abbrev pub all_permissions : ℕ
all_permissions = ALL.0

-- the permissions among these bits: bits that no permission has are dropped
abbrev pub known_permissions : ℕ → ℕ
known_permissions bits = bit_and bits all_permissions
