-- What the arguments of a command line of `cheri_asm` ask for.
use Rattle.std.specs.Prelude.{ℕ, ◌-◌, nat_le, Bool, not, ◌&&◌, ◌||◌, if◌then◌else◌, List, [], ◌∷◌}
use Rattle.std.specs.Prelude.{length}
use Rattle.std.specs.Prelude.{true, map, codes, Option, Some, None, is_some}
use Rattle.std.specs.Borrow.{Bor}
use Rattle.clap.specs.Words.{App, Row, Rule, Text, all_of, fault_of, first_of, matches_of, new_app}
use Rattle.clap.specs.Words.{new_rule, with_rule}
use Rattle.clap.specs.declared.builder.action.ArgAction.TheVariants.{Append}
use Rattle.command_line.specs.Arguments.{flag, single_option}
use Rattle.command_line.specs.Found.{◌>>=◌, is_given, unless_faulty}
use Rattle.asm_line.specs.declared.requests.TheConstants.{MAX_FILES, MAX_HARTS}
use Rattle.asm_line.specs.declared.requests.AsmRequest.{AsmRequest}

-- an argument that a command must have, and may have many times
abbrev pub repeated_word : Text → Rule
repeated_word name = record (new_rule name) { action = Some Append; required = true }

-- an option with a value, which a command may have many times
abbrev pub repeated_option : Text → Rule
repeated_option name = record (new_rule name) { long = Some name; action = Some Append }

-- `cheri_asm FILE [FILE].. [--hart WORDS].. [--harts N] [--map]`
abbrev pub asm_program : App
asm_program =
    with_rule (with_rule (with_rule (with_rule (new_app (codes "cheri_asm"))
    (repeated_word (codes "file")))
    (repeated_option (codes "hart")))
    (single_option (codes "harts")))
    (flag (codes "map"))

-- a request by the texts of its arguments: the files, the words of each hart, how many harts are
-- asked for, if that is said, and whether the map is asked for
pub record AsmAsked : Type 0 where
  pub files : List Text
  pub harts : List Text
  pub count : Option ℕ
  pub map : Bool

abbrev pub asm_asked_by : AsmRequest → AsmAsked
asm_asked_by request = record {
  files = map (λ (name : Bor Text). name.now) request.files.items;
  harts = map (λ (words : Bor Text). words.now) request.harts.items;
  count = request.count;
  map = request.map;
}

-- a number of harts: one digit, 1 to 8
abbrev pub digit_count : Text → Option ℕ
digit_count (digit ∷ []) =
    if nat_le 0x31 digit && nat_le digit 0x38 then Some (digit - 0x30) else None
digit_count _ = None

unfoldable pub count_of : Text → Option ℕ
count_of text = digit_count text

abbrev pub count_in : Option Text → Option (Option ℕ)
count_in None = Some None
count_in (Some text) = count_of text >>= (λ count. Some (Some count))

-- the arguments of a name, if they are there
abbrev pub given : Option (List Text) → List Text
given None = []
given (Some args) = args

-- there is a file, there are not too many of anything, and harts are told in one way
abbrev pub is_asked : List Text → List Text → Option ℕ → Bool
is_asked files harts count =
    nat_le 1 (length files) && nat_le (length files) MAX_FILES && nat_le (length harts) MAX_HARTS
    && (not (nat_le 1 (length harts)) || not (is_some count))

-- what is asked for with these arguments
unfoldable pub asm_asked_of : List Row → Option AsmAsked
asm_asked_of rows = do
  count ← count_in (first_of (codes "harts") rows)
  if is_asked (given (all_of (codes "file") rows)) (given (all_of (codes "hart") rows)) count
      then Some
      (record {
        files = given (all_of (codes "file") rows);
        harts = given (all_of (codes "hart") rows);
        count = count;
        map = is_given (first_of (codes "map") rows);
      })
      else None

-- what the arguments of a command line ask for, the first of which is the program's name
unfoldable pub asm_asked : List Text → Option AsmAsked
asm_asked args =
    unless_faulty (fault_of asm_program args) (asm_asked_of (matches_of asm_program args))
