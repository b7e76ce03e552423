-- The requests of files: which harts they ask for, and how much memory.
use Rattle.std.specs.Prelude.{ℕ, ◌+◌, ◌%◌, ◌^◌, nat_le, if◌then◌else◌, List, [], ◌∷◌, ◌++◌, length}
use Rattle.std.specs.Prelude.{drop, map, Option, Some, None, Result, Ok, Err}
use Rattle.std.specs.Option.{is_some}
use Rattle.cheri_model.specs.declared.image.TheConstants.{MAX_HARTS}
use Rattle.asm_tokens.specs.declared.fault.AsmFaultKind.TheVariants as faults
use Rattle.asm_tokens.specs.declared.place.Place.{Place}
use Rattle.asm_tokens.specs.declared.token.TokenKind.{TokenKind}
use Rattle.asm_tokens.specs.declared.token.TokenKind.TheVariants as kinds
use Rattle.asm_tokens.specs.Tokens.{TokenParts}
use Rattle.asm_requests.specs.declared.request.Request.{Request}
use Rattle.asm_requests.specs.declared.request.Request.TheVariants as asked
use Rattle.asm_requests.specs.Requests.{request_of}
use Rattle.asm_requests.specs.Words.{WordParts, word_parts, words_of}
use Rattle.asm_files.specs.declared.fault.AssemblyFault.{AssemblyFault}
use Rattle.asm_files.specs.declared.requests.HartRequest.{HartRequest}
use Rattle.asm_files.specs.declared.requests.RamRequest.{RamRequest}
use Rattle.asm_files.specs.declared.requests.Requests.{Requests}
use Rattle.asm_files.specs.Faults.{in_file}
use Rattle.asm_files.specs.Steps.{each_from}

-- what is asked for one hart: its file, its line, and its words
pub record HartRequestParts : Type 0 where
  pub file : ℕ
  pub line : ℕ
  pub words : List WordParts

abbrev pub hart_request_parts : HartRequest → HartRequestParts
hart_request_parts request =
    record {
      file = request.file;
      line = request.line;
      words = map word_parts request.words.items;
    }

pub record RequestsParts : Type 0 where
  pub harts : List HartRequestParts
  pub ram : Option RamRequest

abbrev pub requests_parts : Requests → RequestsParts
requests_parts requests =
    record { harts = map hart_request_parts requests.harts.items; ram = requests.ram }

abbrev pub no_requests : RequestsParts
no_requests = record { harts = []; ram = None }

-- the text behind `#@`, and its words
abbrev pub behind_two : List ℕ → List ℕ
behind_two (first ∷ second ∷ rest) = rest
behind_two _ = []

unfoldable pub request_text : TokenParts → List ℕ
request_text token = behind_two token.text

unfoldable pub request_words : TokenParts → List WordParts
request_words token = words_of (token.place.column + 2) (request_text token)

-- where a request's fault is told: at its first word, or where that could begin
abbrev pub column_of : TokenParts → List WordParts → ℕ
column_of token [] = (token.place.column + 2) % 2 ^ 64
column_of token (word ∷ words) = word.column

unfoldable pub place_of : TokenParts → List WordParts → Place
place_of token words = record { line = token.place.line; column = column_of token words }

unfoldable pub fault_of : ℕ → TokenParts → List WordParts → AssemblyFault
fault_of number token words =
    in_file number (record { kind = faults.Hart; place = place_of token words })

-- one more hart, of the words behind the first one
abbrev pub hart_of : ℕ → TokenParts → List WordParts → HartRequestParts
hart_of number token words =
    record {
      file = (number + 1) % 2 ^ 32;
      line = token.place.line;
      words = drop 1 words;
    }

unfoldable pub hart_put : ℕ → TokenParts → List WordParts → RequestsParts
    → Result RequestsParts AssemblyFault
hart_put number token words requests =
    if nat_le MAX_HARTS (length requests.harts) then Err (fault_of number token words)
    else Ok (record requests { harts = requests.harts ++ hart_of number token words ∷ [] })

-- so many bytes of memory, once
abbrev pub ram_of : ℕ → TokenParts → List WordParts → Option ℕ → RamRequest
ram_of number token words size =
    record { file = (number + 1) % 2 ^ 32; place = place_of token words; size = size }

unfoldable pub ram_put : ℕ → TokenParts → List WordParts → Option ℕ → RequestsParts
    → Result RequestsParts AssemblyFault
ram_put number token words size requests =
    if is_some requests.ram then Err (fault_of number token words)
    else Ok (record requests { ram = Some (ram_of number token words size) })

abbrev pub request_by : ℕ → TokenParts → List WordParts → RequestsParts → Option Request
    → Result RequestsParts AssemblyFault
request_by number token words requests (Some asked.Hart) = hart_put number token words requests
request_by number token words requests (Some (asked.Ram size)) =
    ram_put number token words size requests
request_by number token words requests None = Err (fault_of number token words)

unfoldable pub request_put : ℕ → TokenParts → RequestsParts → Result RequestsParts AssemblyFault
request_put number token requests =
    let words = request_words token in
    request_by number token words requests (request_of words)

-- a token, which may be a request
abbrev pub token_by : ℕ → TokenParts → RequestsParts → TokenKind
    → Result RequestsParts AssemblyFault
token_by number token requests kinds.Request = request_put number token requests
token_by number token requests _ = Ok requests

unfoldable pub token_put : ℕ → TokenParts → RequestsParts → Result RequestsParts AssemblyFault
token_put number token requests = token_by number token requests token.kind

-- the requests of the file of a number, and of all files
abbrev pub token_step : ℕ → ℕ → TokenParts → RequestsParts → Result RequestsParts AssemblyFault
token_step number at token requests = token_put number token requests

unfoldable pub file_requests : ℕ → List TokenParts → RequestsParts
    → Result RequestsParts AssemblyFault
file_requests number tokens requests = each_from (token_step number) 0 tokens requests
