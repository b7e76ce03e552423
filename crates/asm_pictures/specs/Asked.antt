-- Which harts are asked for.
use Rattle.std.specs.Prelude.{ℕ, ◌+◌, List, [], ◌∷◌, map, replicate, Option, Some, None, Vec}
use Rattle.std.specs.Global.{Global}
use Rattle.asm_files.specs.declared.requests.HartRequest.{HartRequest}
use Rattle.asm_files.specs.Programs.{text_of}
use Rattle.asm_files.specs.Requests.{HartRequestParts, hart_request_parts}
use Rattle.asm_requests.specs.Words.{words_of}
use Rattle.asm_pictures.specs.declared.asked.Harts.{Harts}
use Rattle.asm_pictures.specs.declared.asked.Harts.TheVariants as harts

-- those that files request, one for each text, or so many
pub data HartsParts : Type 0 where
  requested : HartsParts
  words : List (List ℕ) → HartsParts
  count : ℕ → HartsParts

abbrev pub harts_parts : Harts → HartsParts
harts_parts harts.Requested = requested
harts_parts (harts.Words texts) = words (map text_of texts.now)
harts_parts (harts.Count n) = count n

-- a request without a word, of no file
abbrev pub some_request : HartRequestParts
some_request = record { file = 0; line = 0; words = [] }

unfoldable pub counted : ℕ → List HartRequestParts
counted n = replicate n some_request

-- the request of a text of the command line, by its number
abbrev pub said_request : ℕ → List ℕ → HartRequestParts
said_request number text = record { file = 0; line = number; words = words_of 1 text }

unfoldable pub said_from : ℕ → List (List ℕ) → List HartRequestParts
said_from number [] = []
said_from number (text ∷ texts) = said_request number text ∷ said_from (number + 1) texts

-- one hart without a word where files request none
abbrev pub requested_or_one : List HartRequestParts → List HartRequestParts
requested_or_one [] = counted 1
requested_or_one (request ∷ rest) = request ∷ rest

unfoldable pub asked_harts : HartsParts → List HartRequestParts → List HartRequestParts
asked_harts requested requests = requested_or_one requests
asked_harts (words texts) requests = said_from 1 texts
asked_harts (count n) requests = counted n

-- the harts that are asked for, or else those that files request
abbrev pub asked_or : List HartRequestParts → Option (Vec HartRequest Global) → List HartRequestParts
asked_or requests (Some asked) = map hart_request_parts asked.items
asked_or requests None = requests
