-- What the arguments of a command line of `cheri_sim` ask for.
use Rattle.std.specs.Prelude.{ℕ, Bool, List, Option, Some, None, option_and_then, option_map, codes}
use Rattle.std.specs.Prelude.{if◌then◌else◌}
use Rattle.std.specs.Str.{bytes_eq}
use Rattle.clap.specs.Words.{Row, Text, fault_of, first_of, subcommand_of}
use Rattle.command_line.specs.Commands.{program}
use Rattle.command_line.specs.Found.{form_of, is_given, unless_faulty}
use Rattle.command_line.specs.Numbers.{decimal_within}
use Rattle.command_line.specs.declared.found.Format.{Format}
use Rattle.command_line.specs.declared.requests.TheConstants.{GREATEST_TURNS}
use Rattle.command_line.specs.declared.requests.Request.{Request}
use Rattle.command_line.specs.declared.requests.Request.TheVariants as requests

-- a request by the texts of its arguments
pub data Asked : Type 0 where
  Check : Text → Asked
  Run : Text → Text → Format → Asked
  Race : Text → ℕ → Bool → Asked
  Bounds : Text → Text → Asked
  Decode : Text → Asked

abbrev pub asked_by : Request → Asked
asked_by (requests.Check listing) = Check listing.now
asked_by (requests.Run listing order form) = Run listing.now order.now form
asked_by (requests.Race listing turns watch) = Race listing.now turns watch
asked_by (requests.Bounds base len) = Bounds base.now len.now
asked_by (requests.Decode word) = Decode word.now

-- the values of two arguments, and of one, if they are there
abbrev pub with_two : (Text → Text → Asked) → Option Text → Option Text → Option Asked
with_two make (Some first) (Some second) = Some (make first second)
with_two make _ _ = None

abbrev pub with_one : (Text → Asked) → Option Text → Option Asked
with_one make (Some first) = Some (make first)
with_one make None = None

-- the number of turns that an argument writes
abbrev pub turns_of : Text → Option ℕ
turns_of arg = decimal_within 1 GREATEST_TURNS arg

-- a race by the values of its arguments, if they are there
abbrev pub race_asked : Option Text → Option Text → Bool → Option Asked
race_asked (Some listing) (Some turns) watch =
    option_map (λ turns. Race listing turns watch) (turns_of turns)
race_asked _ _ watch = None

-- what the command of this name asks for with these arguments
unfoldable pub asked_of : Text → List Row → Option Asked
asked_of name rows =
    if bytes_eq name (codes "check") then with_one Check (first_of (codes "listing") rows)
    else if bytes_eq name (codes "run")
    then with_two (λ listing order. Run listing order (form_of (first_of (codes "json") rows)))
    (first_of (codes "listing") rows) (first_of (codes "order") rows)
    else if bytes_eq name (codes "race")
    then race_asked (first_of (codes "listing") rows) (first_of (codes "turns") rows)
    (is_given (first_of (codes "watch") rows))
    else if bytes_eq name (codes "bounds")
    then with_two Bounds (first_of (codes "base") rows) (first_of (codes "len") rows)
    else if bytes_eq name (codes "decode") then with_one Decode (first_of (codes "word") rows)
    else None

-- What the arguments of a command line ask for, the first of which is the program's name: nothing
-- where `clap` finds a fault in them, or else what the command among them asks for.
unfoldable pub asked : List Text → Option Asked
asked args =
    unless_faulty (fault_of program args)
    (option_and_then (λ found. asked_of found.0 found.1) (subcommand_of program args))
