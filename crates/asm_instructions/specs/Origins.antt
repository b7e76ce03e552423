-- Which statement each instruction comes from.
use Rattle.std.specs.Prelude.{ℕ, List, [], ◌∷◌, replicate, Option, Some, None}
use Rattle.std.specs.Option.{unwrap_or}
use Rattle.asm_instructions.specs.declared.origin.Origin.{Origin}
use Rattle.asm_instructions.specs.Overwriting.{overwritten}

-- so many instructions, from a number on, with one origin
unfoldable pub marked : List (Option Origin) → ℕ → ℕ → Origin → List (Option Origin)
marked marks at count origin = overwritten marks at (replicate count (Some origin))

abbrev pub no_origin : Origin
no_origin = record { file = 0; line = 0; statement = None }

-- an instruction that fills the gap before another one
abbrev pub gap_before : Origin → Origin
gap_before origin = record { file = origin.file; line = origin.line; statement = None }

abbrev pub before_first : List Origin → Origin
before_first (origin ∷ rest) = gap_before origin
before_first [] = no_origin

-- the origins of all instructions: those that are not marked fill gaps before others
unfoldable pub filled : List (Option Origin) → List Origin
filled [] = []
filled (mark ∷ rest) = unwrap_or mark (before_first (filled rest)) ∷ filled rest
