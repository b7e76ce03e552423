-- A text as a JSON text that can stand in an element of a page.
use Rattle.std.specs.Prelude.{ℕ, ◌==◌, Bool, false, ◌||◌, if◌then◌else◌, List, [], ◌∷◌, ◌++◌, codes}
use Rattle.std.specs.List.{flat_map}
use Rattle.json.specs.Print.{escape_byte}

-- what stands in a JSON string for a byte, but for `<`
abbrev pub script_byte : ℕ → List ℕ
script_byte byte = if byte == 60 then codes "\\u003c" else escape_byte byte

unfoldable pub script_text : List ℕ → List ℕ
script_text text = 34 ∷ (flat_map script_byte text ++ 34 ∷ [])

-- whether a text has `<`, with which each mark of a page begins
abbrev pub has_mark : List ℕ → Bool
has_mark [] = false
has_mark (byte ∷ text) = (byte == 60) || has_mark text
