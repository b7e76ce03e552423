-- What an assembled program is given unasked: no right to seal, and none both to write and to run.
use Rattle.std.specs.Prelude.{◌≡◌, ◌⊎◌, ℕ, false, List, Some}
use Rattle.std.specs.List.{Contains}
use Rattle.cap_model.specs.declared.permission.TheConstants as permission
use Rattle.cap_model.specs.results.Addresses.{has_permission}
use Rattle.cap_model.specs.values.Capability.{unsealed_type, sentry_type}
use Rattle.cap_model.specs.values.CapValue.{CapValue, valid, raw}
use Rattle.grammar.specs.declared.capability.CapParts.{CapParts}
use Rattle.asm_requests.specs.Values.{written}
use Rattle.asm_requests.specs.Settings.{capability, setting_of}
use Rattle.asm_requests.specs.Words.{WordParts}

-- neither of the rights to seal, and no type that can be given by sealing
abbrev pub IsPlain : CapValue → Type 0
IsPlain (valid c) =
    (has_permission (valid c) permission.SEAL ≡ false)
    × (has_permission (valid c) permission.UNSEAL ≡ false)
    × ((c.otype ≡ unsealed_type) ⊎ (c.otype ≡ sentry_type))
IsPlain (raw word) = Unit {0}

-- plain, and nothing can be written through it
abbrev pub IsPlainCode : CapValue → Type 0
IsPlainCode value = IsPlain value × (has_permission value permission.STORE ≡ false)

-- plain, and it can't be run
abbrev pub IsPlainData : CapValue → Type 0
IsPlainData value = IsPlain value × (has_permission value permission.EXECUTE ≡ false)

-- a request that writes out no capability
abbrev pub WritesNone : List WordParts → Type 0
WritesNone words =
    (word : WordParts) (register : ℕ) (parts : CapParts) → Contains words word
    → setting_of word.text ≡ Some (capability register (written parts)) → ⊥
