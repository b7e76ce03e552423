-- Local labels: those of a number that a statement can see.
use Rattle.std.specs.Prelude.{ℕ, List, [], ◌∷◌, ◌++◌, length, Option}
use Rattle.asm_tokens.specs.Numbers.{without_zeros}
use Rattle.asm_symbols.specs.declared.locals.Local.{Local}
use Rattle.asm_symbols.specs.declared.locals.Locals.{Locals}
use Rattle.asm_symbols.specs.Names.{no_names, replaced, names_of}

-- the local labels so far, and the last one of each number that labels have
pub record LocalsParts : Type 0 where
  pub places : List Local
  pub last : List ℕ → Option ℕ

abbrev pub locals_parts : Locals → LocalsParts
locals_parts locals = record { places = locals.places.items; last = names_of locals.last }

abbrev pub no_locals : LocalsParts
no_locals = record { places = []; last = no_names }

-- one more local label, by its digits; zeros before others say nothing
unfoldable pub with_local : LocalsParts → List ℕ → Local → LocalsParts
with_local parts digits place =
    record {
      places = parts.places ++ place ∷ [];
      last = replaced parts.last (without_zeros digits) (length parts.places);
    }

-- the number of the last local label of these digits
unfoldable pub last_local : LocalsParts → List ℕ → Option ℕ
last_local parts digits = parts.last (without_zeros digits)
