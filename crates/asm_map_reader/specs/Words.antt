-- The words of a map's lines (this project's own format).
use Rattle.std.specs.Prelude.{ℕ, ◌^◌, ◌==◌, nat_lt, nat_le, Bool, ◌&&◌, if◌then◌else◌, List}
use Rattle.std.specs.Prelude.{length, slice_index, bytes_eq, Option, Some, None, option_map}
use Rattle.std.specs.List.{list_all}
use Rattle.std.specs.Str.{is_utf8}
use Rattle.text_numbers.specs.Hexadecimal.{hex_text}
use Rattle.text_numbers.specs.Numerals.{number_in, within_128_bits}
use Rattle.asm_tokens.specs.Bytes.{is_name_start, is_name_byte}

-- a step that may have no answer, and what follows it
infixl 10 ◌>>=◌
abbrev pub ◌>>=◌ : {A B : Type 0} → Option A → (A → Option B) → Option B
(Some x) >>= f = f x
None >>= f = None

-- a number of 64 bits; none of its 128 bits or fewer where it has more
abbrev pub within_64_bits : Option (Option ℕ) → Option ℕ
within_64_bits (Some (Some n)) = if nat_lt n (2 ^ 64) then Some n else None
within_64_bits (Some None) = None
within_64_bits None = None

unfoldable pub number_64 : ℕ → List ℕ → Option ℕ
number_64 base text = within_64_bits (option_map within_128_bits (number_in base text))

-- decimal digits without leading zeros
unfoldable pub plain_number : List ℕ → Option ℕ
plain_number text =
    if nat_le 2 (length text) && (slice_index text 0 == 0x30) then None else number_64 10 text

-- all sixteen hexadecimal digits of a number of 64 bits, in lower case
unfoldable pub address_of : List ℕ → Option ℕ
address_of text = do
  n ← number_64 16 text
  if bytes_eq (hex_text 16 n) text then Some n else None

-- a file's name is any text
unfoldable pub text_of : List ℕ → Option (List ℕ)
text_of bytes = if is_utf8 bytes then Some bytes else None

-- a name as assembly has it
abbrev pub is_symbol : List ℕ → Bool
is_symbol name =
    nat_le 1 (length name) && is_name_start (slice_index name 0) && list_all is_name_byte name

unfoldable pub symbol_of : List ℕ → Option (List ℕ)
symbol_of name = if is_symbol name then text_of name else None
