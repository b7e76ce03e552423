-- The tokens of a listing's line (this project's own format).
use Rattle.std.specs.Prelude.{ℕ, ◌==◌, Bool, not, ◌||◌, List, [], length, drop, map, filter}
use Rattle.std.specs.Prelude.{slice_index_or}
use Rattle.std.specs.List.{slice_split, before_first, position_or_len}
use Rattle.std.specs.Borrow.{Bor}
use Rattle.grammar.specs.Lines.{before_comment}

-- a space, a tab or a comma
unfoldable pub is_blank : ℕ → Bool
is_blank b = (b == 0x20) || (b == 0x09) || (b == 0x2C)

abbrev pub is_filled : List ℕ → Bool
is_filled part = not (length part == 0)

-- tokens are the longest runs of other bytes, before the comment
unfoldable pub tokens_of : List ℕ → List (List ℕ)
tokens_of line = filter is_filled (slice_split is_blank (before_comment line))

-- the texts of tokens in memory
abbrev pub texts : List (Bor (List ℕ)) → List (List ℕ)
texts tokens = map (λ token. token.now) tokens

-- the token at a place, and an empty one where there is none
unfoldable pub token_at : List (List ℕ) → ℕ → List ℕ
token_at tokens place = slice_index_or tokens place []

-- a blank, or the beginning of the comment
unfoldable pub ends_token : ℕ → Bool
ends_token b = is_blank b || (b == 0x23)

-- a line from its first byte on that is not blank, and a line up to the end of the token that it
-- begins with
abbrev pub after_blanks : List ℕ → List ℕ
after_blanks line = drop (position_or_len (λ b. not (is_blank b)) line) line

abbrev pub before_end : List ℕ → List ℕ
before_end line = before_first ends_token line
