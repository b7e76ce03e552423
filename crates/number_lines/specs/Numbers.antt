-- The numbers that words of a command line give, and what is answered about them.
use Rattle.std.specs.Prelude.{◌≡◌, ℕ, nat_le, if◌then◌else◌, List, Option, Some, None}
use Rattle.std.specs.Prelude.{Result, Ok, Err}
use Rattle.grammar.specs.declared.fault.ListingFaultKind.{ListingFaultKind}
use Rattle.grammar.specs.Numerals.{number_of}
use Rattle.cap_model.specs.declared.encoding.TheConstants.{ADDRESS_SPACE}
use Rattle.number_lines.specs.declared.numbers.TheConstants.{GREATEST_ADDRESS, GREATEST_WORD}
use Rattle.number_lines.specs.declared.numbers.NumberFault.{NumberFault}
use Rattle.number_lines.specs.declared.numbers.NumberFault.TheVariants.{NoMemory, BadNumber}
use Rattle.number_lines.specs.Lines.{bounds_line, decode_line}

-- a number that a word of a listing writes, where it is at most the limit
abbrev pub number_within : ℕ → Result (Option ℕ) ListingFaultKind → Option ℕ
number_within limit (Ok (Some number)) = if nat_le number limit then Some number else None
number_within limit _ = None

-- an argument as a number of at most the limit
abbrev pub number_given : ℕ → List ℕ → Option ℕ
number_given limit word = number_within limit (number_of word)

-- the line of a range, or nothing where one of its numbers is none
abbrev pub line_of_range : Option ℕ → Option ℕ → Option (List ℕ)
line_of_range (Some base) (Some len) = Some (bounds_line base len)
line_of_range _ _ = None

abbrev pub range_answer : List ℕ → List ℕ → Option (List ℕ)
range_answer base len =
    line_of_range (number_given GREATEST_ADDRESS base) (number_given ADDRESS_SPACE len)

-- the line of a word, or nothing where it is no number of 128 bits
abbrev pub line_of_number : Option ℕ → Option (List ℕ)
line_of_number (Some word) = Some (decode_line word)
line_of_number None = None

abbrev pub word_answer : List ℕ → Option (List ℕ)
word_answer word = line_of_number (number_given GREATEST_WORD word)

-- Each fault: when it is answered. Memory may run out at any time.
abbrev pub IsNumberFault : Option (List ℕ) → NumberFault → Type 0
IsNumberFault answer NoMemory = Unit {0}
IsNumberFault answer BadNumber = answer ≡ None
