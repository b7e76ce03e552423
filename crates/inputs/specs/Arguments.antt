-- The arguments of a command line.
use Rattle.std.specs.Prelude.{ℕ, List, ◌∷◌, map, String, string_bytes}
use Rattle.std.specs.Global.{Global}

-- the program's name, and the arguments after it
abbrev pub command_args : List ℕ → List (String Global) → List (List ℕ)
command_args name args = name ∷ map string_bytes args
