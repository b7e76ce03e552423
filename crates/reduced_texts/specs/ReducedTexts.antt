-- What a search left out, in words: registers, and harts of which one order stands for all.
use Rattle.std.specs.Prelude.{ℕ, zero, suc, ◌+◌, ◌==◌, Bool, true, false, if◌then◌else◌}
use Rattle.std.specs.Prelude.{List, [], ◌∷◌, ◌++◌, map, Option, Some, None, codes, decimal}
use Rattle.std.specs.List.{list_any}
use Rattle.serde_json.specs.Data.{Data, string, array}
use Rattle.serde_json.specs.View.{items_of}
use Rattle.serde_json.specs.Written.{comma_if, compact_text}
use Rattle.reductions.specs.declared.reduction.LeftOut.{LeftOut}

-- the numbers of a group's harts, of those from this one on, with commas between them
unfoldable pub harts_text : ℕ → Bool → ℕ → List ℕ → List ℕ
harts_text group later hart [] = []
harts_text group later hart (of ∷ rest) =
    if of == group
    then comma_if later ++ (decimal hart ++ harts_text group true (hart + 1) rest)
    else harts_text group later (hart + 1) rest

-- the word for a group, as harts=0,1,2; and it alone, if the group has any hart
unfoldable pub group_word : List ℕ → ℕ → List ℕ
group_word groups group = codes "harts=" ++ harts_text group false 0 groups

abbrev pub group_words : List ℕ → ℕ → List (List ℕ)
group_words groups group =
    if list_any (λ of. of == group) groups then group_word groups group ∷ [] else []

-- the words for the groups with numbers up to this, in their order
unfoldable pub words_to : List ℕ → ℕ → List (List ℕ)
words_to groups zero = []
words_to groups (suc number) = words_to groups number ++ group_words groups (number + 1)

-- the word for registers, where they were left out
abbrev pub register_words : Bool → List (List ℕ)
register_words registers = if registers then codes "registers" ∷ [] else []

-- all words: the greatest number of a group is 8
unfoldable pub left_out_words : LeftOut → List (List ℕ)
left_out_words left_out = register_words left_out.registers ++ words_to left_out.groups 8

-- words, each after a blank
unfoldable pub after_blanks : List (List ℕ) → List ℕ
after_blanks [] = []
after_blanks (word ∷ words) = codes " " ++ (word ++ after_blanks words)

-- the line, and the list of texts
unfoldable pub reduced_line : LeftOut → List ℕ
reduced_line left_out = codes "reduced" ++ (after_blanks (left_out_words left_out) ++ 10 ∷ [])

unfoldable pub reduced_data : LeftOut → Data
reduced_data left_out = array (items_of (map string (left_out_words left_out)))

-- the list as a member of an object in JSON, after a comma
unfoldable pub reduced_member : LeftOut → List ℕ
reduced_member left_out = codes ",\"reduced\":" ++ compact_text (reduced_data left_out)

-- the line and the member where something was left out, and else nothing
abbrev pub line_if_any : Option LeftOut → List ℕ
line_if_any None = []
line_if_any (Some left_out) = reduced_line left_out

abbrev pub member_if_any : Option LeftOut → List ℕ
member_if_any None = []
member_if_any (Some left_out) = reduced_member left_out
