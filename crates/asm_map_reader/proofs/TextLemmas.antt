-- Bytes that are a text, and bytes that are none.
use Rattle.std.proofs.Common.{◌≡◌, ℕ, Bool, true, false, List, Some, None, refl}
use Rattle.std.specs.Str.{IsUtf8, is_utf8}
use Rattle.std.proofs.lemmas.Str.{IsUtf8-from_is_utf8, is_utf8-from_IsUtf8}
use Rattle.asm_map_reader.specs.Words.{text_of}

no_utf8 : (bytes : List ℕ) (is : Bool) → is_utf8 bytes ≡ is → ¬ (IsUtf8 bytes) → is ≡ false
no_utf8 bytes true is lacks = absurd (lacks (IsUtf8-from_is_utf8 bytes is))
no_utf8 bytes false is lacks = refl

pub text_read : (bytes text : List ℕ) → text ≡ bytes → IsUtf8 bytes → Some text ≡ text_of bytes
unfolding text_of
text_read bytes text same is = rw (is_utf8-from_IsUtf8 bytes is, same) refl

pub no_text : (bytes : List ℕ) → ¬ (IsUtf8 bytes) → None ≡ text_of bytes
unfolding text_of
no_text bytes lacks = rw (no_utf8 bytes (is_utf8 bytes) refl lacks) refl

pub ruleset texts = (text_read, no_text)
