-- What was found among the arguments of a command line.
use Rattle.std.specs.Prelude.{Bool, false, Option, Some, None, option_and_then, codes}
use Rattle.std.specs.Prelude.{if◌then◌else◌, [], ◌∷◌}
use Rattle.std.specs.Str.{bytes_eq}
use Rattle.clap.specs.Words.{Kinds, Text}
use Rattle.command_line.specs.declared.found.Format.{Format}
use Rattle.command_line.specs.declared.found.Format.TheVariants as forms

infixl 10 ◌>>=◌
abbrev pub ◌>>=◌ : {A B : Type 0} → Option A → (A → Option B) → Option B
found >>= f = option_and_then f found

-- whether a flag is there: it then has the value that `clap` gives it
abbrev pub is_given : Option Text → Bool
is_given (Some value) = bytes_eq value (codes "true")
is_given None = false

-- the form of an answer: JSON where its flag is there
abbrev pub form_of : Option Text → Format
form_of flag = if is_given flag then forms.Json else forms.Text

-- nothing is asked for where there is a fault
abbrev pub unless_faulty : {A : Type 0} → Kinds → Option A → Option A
unless_faulty [] found = found
unless_faulty (kind ∷ kinds) found = None
