-- Symbols by their names, once each has its value.
use Rattle.std.specs.Prelude.{ℕ, List, [], ◌∷◌, map, slice_index_or, Option, Some, None}
use Rattle.asm_values.specs.declared.values.Value.{Value}
use Rattle.asm_symbols.specs.Names.{first_of, names_of}
use Rattle.asm_starts.specs.declared.known.Known.{Known}

-- the names that all files see, those of each file, and what each symbol is worth, if it is worth
-- something
pub record KnownParts : Type 0 where
  pub seen : List ℕ → Option ℕ
  pub own : List (List ℕ → Option ℕ)
  pub values : List (Option Value)

abbrev pub known_parts : Known → KnownParts
known_parts known =
    record {
      seen = names_of known.seen.now;
      own = map names_of known.own.now;
      values = known.values.now;
    }

-- the symbol of the first file that has a name
unfoldable pub first_named : List (List ℕ → Option ℕ) → List ℕ → Option ℕ
first_named [] name = None
first_named (names ∷ rest) name = first_of (names name) (first_named rest name)

-- the symbol that a request names: one that all files see, or else one of the first file that has
-- it
unfoldable pub number_of : KnownParts → List ℕ → Option ℕ
number_of known name = first_of (known.seen name) (first_named known.own name)

abbrev pub value_at : KnownParts → Option ℕ → Option Value
value_at known (Some number) = slice_index_or known.values number None
value_at known None = None

-- what the symbol is worth that a request names
unfoldable pub found : KnownParts → List ℕ → Option Value
found known name = value_at known (number_of known name)
