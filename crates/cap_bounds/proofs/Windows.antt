-- The regions of a lawful capability's address and of another address begin at the same place modulo 2^64 exactly
-- where the other address is in the window.
use Rattle.std.proofs.Common.{◌≡◌, ℕ, ◌-◌, ◌%◌, ◌^◌}
use Rattle.cap_model.specs.words.Fields.{word_exponent, word_b}
use Rattle.cap_model.specs.words.RawBounds.{region_start}
use Rattle.cap_model.specs.bounds.Window.{IsInWindow}
use Rattle.cap_model.specs.values.Capability.{Capability, IsLawful, upper_of}
use Rattle.cap_model.proofs.Bounds.WindowsEnd.{same_bounds_in_window}
use Rattle.cap_bounds.proofs.SameBounds.{start_from_base, base_from_start, top_from_start_of_word}

-- the same start puts the address in the window
pub window_from_start : (c : Capability) → IsLawful c → (upper old new : ℕ) → upper ≡ upper_of c → old ≡ c.addr →
    region_start (word_exponent upper) (word_b upper) old % 2 ^ 64 ≡ region_start (word_exponent upper) (word_b upper) new % 2 ^ 64 →
    IsInWindow c.base (c.top - c.base) new
window_from_start c h upper old new its_upper its_addr same =
    let there = same_bounds_in_window c h new in
    (rw (← its_upper, ← its_addr) at there).0 (base_from_start upper old new same, top_from_start_of_word upper old new same)

-- an address in the window has the same start
pub start_from_window : (c : Capability) → IsLawful c → (upper old new : ℕ) → upper ≡ upper_of c → old ≡ c.addr →
    IsInWindow c.base (c.top - c.base) new →
    region_start (word_exponent upper) (word_b upper) old % 2 ^ 64 ≡ region_start (word_exponent upper) (word_b upper) new % 2 ^ 64
start_from_window c h upper old new its_upper its_addr inside =
    let there = same_bounds_in_window c h new in
    start_from_base upper old new ((rw (← its_upper, ← its_addr) at there).1 inside).0

-- equal bounds, regions that begin at one place, and the window
pub ruleset same_bounds = (start_from_base, base_from_start, top_from_start_of_word, window_from_start, start_from_window)
