-- What the registers of a hart may hold before its first step, by its request.
use Rattle.std.specs.Prelude.{◌≡◌, ◌⊎◌, ℕ, List, Some, Ok}
use Rattle.std.specs.List.{Contains}
use Rattle.cap_model.specs.values.CapValue.{CapValue, raw}
use Rattle.asm_capabilities.specs.Capabilities.{sentry_at}
use Rattle.asm_harts.specs.Given.{IsStack, register_at}
use Rattle.asm_requests.specs.Values.{HeldParts}
use Rattle.asm_requests.specs.Settings.{capability, setting_of}
use Rattle.asm_requests.specs.Words.{WordParts}
use Rattle.asm_starts.specs.Values.{SceneParts, held_value}
use Rattle.asm_starts.specs.Starts.{StartParts}

-- a word without a tag
abbrev pub IsInteger : CapValue → Type 0
IsInteger value = (bits : ℕ) × (value ≡ raw bits)

-- the capability that a word of the request sets a register to: of a symbol, the table, or one that
-- is written out
abbrev pub IsWritten : SceneParts → List WordParts → CapValue → Type 0
IsWritten scene words value =
    (word : WordParts) × ((register : ℕ) × ((held : HeldParts)
    × (Contains words word × (setting_of word.text ≡ Some (capability register held))
    × (held_value scene held ≡ Ok value))))

-- the exit, as a sentry
abbrev pub IsTheExit : SceneParts → CapValue → Type 0
IsTheExit scene value =
    (addr : ℕ) × (scene.exit ≡ Some addr) × (sentry_at scene.objects.reach addr ≡ Ok value)

-- what a register may hold, c1 at place 0
abbrev pub IsAsked : SceneParts → List WordParts → StartParts → ℕ → Type 0
IsAsked scene words start place =
    IsInteger (register_at start.hart place) ⊎ IsWritten scene words (register_at start.hart place)
    ⊎ IsTheExit scene (register_at start.hart place)
    ⊎ IsStack start.hart (register_at start.hart place)
