-- Names as texts.
use Rattle.std.proofs.Common.{◌≡◌, ℕ, List, [], Bool, true, false, cond, refl}
use Rattle.std.specs.Str.{IsUtf8, is_utf8}
use Rattle.std.proofs.lemmas.Str.{IsUtf8-from_is_utf8, is_utf8-from_IsUtf8}
use Rattle.asm_mapping.specs.Lines.{shown_text}

pub shown_is : (name : List ℕ) → IsUtf8 name → name ≡ shown_text name
shown_is name is = rw (is_utf8-from_IsUtf8 name is) refl

none_shown : (name : List ℕ) (is : Bool) → (is ≡ true → IsUtf8 name) → ¬ (IsUtf8 name) → [] ≡ cond is name []
none_shown name true means not = absurd (not (means refl))
none_shown name false means not = refl

pub shown_not : (name : List ℕ) → ¬ (IsUtf8 name) → [] ≡ shown_text name
shown_not name not = none_shown name (is_utf8 name) (IsUtf8-from_is_utf8 name) not
