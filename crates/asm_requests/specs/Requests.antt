-- Requests by their words.
use Rattle.std.specs.Prelude.{ℕ, if◌then◌else◌, List, [], ◌∷◌, codes, bytes_eq, Option, Some, None}
use Rattle.std.specs.Prelude.{option_map}
use Rattle.text_numbers.specs.Numerals.{number_of, within_128_bits}
use Rattle.asm_requests.specs.declared.request.Request.{Request}
use Rattle.asm_requests.specs.declared.request.Request.TheVariants.{Hart, Ram}
use Rattle.asm_requests.specs.Words.{WordParts}

-- one number
abbrev pub ram_of : List WordParts → Option Request
ram_of (size ∷ []) =
    option_map (λ bytes. Ram bytes) (option_map within_128_bits (number_of size.text))
ram_of _ = None

-- `hart WORDS` or `ram N`
unfoldable pub request_of : List WordParts → Option Request
request_of [] = None
request_of (first ∷ rest) =
    if bytes_eq first.text (codes "hart") then Some Hart
    else if bytes_eq first.text (codes "ram") then ram_of rest
    else None
