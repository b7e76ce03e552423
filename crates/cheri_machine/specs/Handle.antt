-- Whether there is something.
use Rattle.std.specs.Prelude.{Bool, true, false, Option, Some, None}
pub mod Heaps

abbrev pub is_held : {A : Type 0} → Option A → Bool
is_held None = false
is_held (Some x) = true
