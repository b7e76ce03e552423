-- The symbols that files define.
use Rattle.std.specs.Prelude.{◌≡◌, ℕ, Bool, true, false, List, [], ◌∷◌, ◌++◌, length, map}
use Rattle.std.specs.Prelude.{Option, Some, None, Result, Ok, Err}
use Rattle.std.specs.Option.{is_none}
use Rattle.asm_values.specs.declared.values.Value.{Value}
use Rattle.asm_values.specs.declared.values.Value.TheVariants.{At}
use Rattle.asm_symbols.specs.declared.definitions.Definition.{Definition}
use Rattle.asm_symbols.specs.declared.definitions.Meaning.{Meaning}
use Rattle.asm_symbols.specs.declared.definitions.Meaning.TheVariants.{Place, Assigned}
use Rattle.asm_symbols.specs.declared.definitions.Symbols.{Symbols}
use Rattle.asm_symbols.specs.Names.{no_names, defined, names_of}

-- a symbol: its name, the numbers of its file and of its name's token there, what it is, its value
-- where that is known while the file is read, and the bytes of a common one
pub record DefinitionParts : Type 0 where
  pub name : List ℕ
  pub file : ℕ
  pub token : ℕ
  pub meaning : Meaning
  pub early : Option Value
  pub bytes : Option ℕ

abbrev pub definition_parts : Definition → DefinitionParts
definition_parts d =
    record {
      name = d.name.now;
      file = d.file;
      token = d.token;
      meaning = d.meaning;
      early = d.early;
      bytes = d.bytes;
    }

-- the symbols of all files, and the names of the file that is read
pub record SymbolsParts : Type 0 where
  pub definitions : List DefinitionParts
  pub own : List ℕ → Option ℕ
  pub wanted : List ℕ → Option ℕ
  pub file : ℕ

abbrev pub symbols_parts : Symbols → SymbolsParts
symbols_parts s =
    record {
      definitions = map definition_parts s.definitions.items;
      own = names_of s.own;
      wanted = names_of s.wanted;
      file = s.file;
    }

abbrev pub no_symbols : SymbolsParts
no_symbols = record { definitions = []; own = no_names; wanted = no_names; file = 0 }

-- one symbol more
abbrev pub with_symbol : SymbolsParts → DefinitionParts → SymbolsParts
with_symbol parts d =
    record parts {
      definitions = parts.definitions ++ d ∷ [];
      own = defined parts.own d.name (length parts.definitions);
    }

-- a place, told by the next symbol
abbrev pub own_place : SymbolsParts → ℕ → ℕ → Option Value
own_place parts chunk offset =
    Some (At (record { chunk = chunk; offset = offset; symbol = Some (length parts.definitions) }))

abbrev pub label_symbol : SymbolsParts → List ℕ → ℕ → ℕ → ℕ → DefinitionParts
label_symbol parts name token chunk offset =
    record {
      name = name;
      file = parts.file;
      token = token;
      meaning = Place chunk offset;
      early = own_place parts chunk offset;
      bytes = None;
    }

abbrev pub assigned_symbol : SymbolsParts → List ℕ → ℕ → ℕ → Option Value → DefinitionParts
assigned_symbol parts name token statement early =
    record {
      name = name;
      file = parts.file;
      token = token;
      meaning = Assigned statement;
      early = early;
      bytes = None;
    }

abbrev pub common_symbol : SymbolsParts → List ℕ → ℕ → ℕ → ℕ → DefinitionParts
common_symbol parts name token chunk bytes =
    record {
      name = name;
      file = parts.file;
      token = token;
      meaning = Place chunk 0;
      early = own_place parts chunk 0;
      bytes = Some bytes;
    }

-- a file begins without names
abbrev pub in_file : ℕ → SymbolsParts → SymbolsParts
in_file file parts = record parts { own = no_names; wanted = no_names; file = file }

-- whether a symbol's name was free, and then it is there; or out of memory
abbrev pub Defines : {E : Type 0} → Result Bool E → SymbolsParts → SymbolsParts → DefinitionParts
    → Type 0
Defines (Ok true) old new d = (is_none (old.own d.name) ≡ true) × (new ≡ with_symbol old d)
Defines (Ok false) old new d = (is_none (old.own d.name) ≡ false) × (new ≡ old)
Defines (Err refused) old new d = Unit {0}
