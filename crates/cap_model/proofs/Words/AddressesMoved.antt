-- A lawful capability's word at another address of its window.
use Rattle.std.specs.Prelude.{◌≡◌, ℕ, ◌+◌, ◌-◌, ◌*◌, ◌/◌, ◌^◌, ◌<◌}
use Rattle.std.proofs.Common.{refl}
use Rattle.cap_model.specs.bounds.Window.{IsInWindow}
use Rattle.cap_model.specs.values.Capability.{Capability, IsLawful, upper_of, word_of, capability_at}
use Rattle.cap_model.specs.values.CapValue.{IsEncoding}
use Rattle.cap_model.proofs.Words.WordsBack.{capability_at_word_of, encoding_of, upper_of_word}

-- the capability with the other address is lawful
pub moved_lawful : (c : Capability) → IsLawful c → (a : ℕ) → a < 2 ^ 64 → IsInWindow c.base (c.top - c.base) a → IsLawful (record c { addr = a })
moved_lawful c h a below inside =
    record {
      perms = h.perms;
      flag = h.flag;
      otype = h.otype;
      base_below = h.base_below;
      ordered = h.ordered;
      top_at_most = h.top_at_most;
      base_fits = h.base_fits;
      top_fits = h.top_fits;
      addr_below = below;
      in_window = inside;
    }

-- its upper half is the same
pub moved_upper : (c : Capability) (a : ℕ) → upper_of (record c { addr = a }) ≡ upper_of c
unfolding upper_of
moved_upper c a = refl

-- its word differs in the lower half alone
pub moved_word : (c : Capability) (a : ℕ) → word_of (record c { addr = a }) ≡ upper_of c * 2 ^ 64 + a
unfolding word_of
moved_word c a = rw moved_upper

-- an encoding's upper half is that of the capability that it is read as
pub encoding_upper : (w : ℕ) → IsEncoding w → w / 2 ^ 64 ≡ upper_of (capability_at w)
encoding_upper w h = rw h.same at (upper_of_word (capability_at w) h.lawful)

-- an encoding with another address of the window is the word of the capability with this address
pub moved_encoding_word : (w : ℕ) → IsEncoding w → (a : ℕ) → word_of (record (capability_at w) { addr = a }) ≡ w / 2 ^ 64 * 2 ^ 64 + a
moved_encoding_word w h a = rw (encoding_upper w h) (moved_word (capability_at w) a)

-- it is read as the capability with this address
pub moved_read : (w : ℕ) → IsEncoding w → (a : ℕ) → a < 2 ^ 64 →
    IsInWindow (capability_at w).base ((capability_at w).top - (capability_at w).base) a →
    capability_at (w / 2 ^ 64 * 2 ^ 64 + a) ≡ record (capability_at w) { addr = a }
moved_read w h a below inside =
    rw (← moved_encoding_word w h a)
    (capability_at_word_of (record (capability_at w) { addr = a }) (moved_lawful (capability_at w) h.lawful a below inside))

-- and it is an encoding
pub moved_encoding : (w : ℕ) → IsEncoding w → (a : ℕ) → a < 2 ^ 64 →
    IsInWindow (capability_at w).base ((capability_at w).top - (capability_at w).base) a →
    IsEncoding (w / 2 ^ 64 * 2 ^ 64 + a)
moved_encoding w h a below inside =
    rw (← moved_encoding_word w h a)
    (encoding_of (record (capability_at w) { addr = a }) (moved_lawful (capability_at w) h.lawful a below inside))
