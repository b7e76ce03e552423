-- What the laws ask of places and registers: numbers of their types, and values that listings can
-- write.
use Rattle.std.specs.Prelude.{◌≡◌, ℕ, ◌^◌, ◌<◌, length, Some}
use Rattle.std.specs.List.{AllByRecursion}
use Rattle.canonical.specs.Listable.{IsWritable}
use Rattle.asm_harts.specs.declared.registers.Registers.{Registers}
use Rattle.asm_harts.specs.declared.hart.HartPlaces.{HartPlaces}
use Rattle.asm_starts.specs.Values.{SceneParts}

-- addresses of 64 bits, and the number of a hart
pub record AreNumbers (places : HartPlaces) : Type 0 where
  pub entry : places.entry < 2 ^ 64
  pub exit : (addr : ℕ) → places.exit ≡ Some addr → addr < 2 ^ 64
  pub number : places.number < 2 ^ 8

-- 31 registers, whose values listings can write
pub record AreWritable (registers : Registers) : Type 0 where
  pub count : length registers.values ≡ 31
  pub values : AllByRecursion IsWritable registers.values

-- the exit at an address of 64 bits, if there is one
abbrev pub IsSoundScene : SceneParts → Type 0
IsSoundScene scene = (addr : ℕ) → scene.exit ≡ Some addr → addr < 2 ^ 64
