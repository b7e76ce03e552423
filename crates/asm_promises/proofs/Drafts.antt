-- A symbol that is a place is worth one from the start.
use Rattle.std.proofs.Common.{ℕ, List, [], ◌∷◌, ◌++◌, length, Option, Some, All}
use Rattle.std.proofs.lemmas.List.Elements.{All-push}
use Rattle.asm_tokens.specs.Tokens.{TokenParts}
use Rattle.asm_values.specs.declared.values.Value.{Value}
use Rattle.asm_values.specs.declared.values.Value.TheVariants.{At}
use Rattle.asm_symbols.specs.declared.definitions.Meaning.{Meaning}
use Rattle.asm_symbols.specs.declared.definitions.Meaning.TheVariants.{Place, Assigned}
use Rattle.asm_symbols.specs.Definitions.{DefinitionParts, SymbolsParts, label_symbol, common_symbol}
use Rattle.asm_statements.specs.declared.statement.Body.{Body}
use Rattle.asm_drafts.specs.declared.sections.Entry.{Entry}
use Rattle.asm_drafts.specs.Drafts.{DraftParts}
use Rattle.asm_promises.proofs.Values.{IsLowIf, some_low}
use Rattle.asm_promises.proofs.Walk.{LabelsKeep, BodyKeeps}

abbrev pub OfMeaning : Meaning → Option Value → Type 0
OfMeaning (Place chunk offset) early = IsLowIf early
OfMeaning (Assigned statement) early = Unit {0}

pub record IsPlaced (d : DefinitionParts) : Type 0 where
  pub early : OfMeaning d.meaning d.early

pub record IsGood (parts : DraftParts) : Type 0 where
  pub placed : All IsPlaced parts.symbols.definitions

place_low : (symbols : SymbolsParts) (name : List ℕ) (token chunk offset : ℕ) → IsPlaced (label_symbol symbols name token chunk offset)
place_low symbols name token chunk offset =
    record { early = some_low (At (record { chunk = chunk; offset = offset; symbol = Some (length symbols.definitions) })) (record { low = tt }) }

common_low : (symbols : SymbolsParts) (name : List ℕ) (token chunk bytes : ℕ) → IsPlaced (common_symbol symbols name token chunk bytes)
common_low symbols name token chunk bytes =
    record { early = some_low (At (record { chunk = chunk; offset = 0; symbol = Some (length symbols.definitions) })) (record { low = tt }) }

-- one more symbol
more_good : (parts : DraftParts) (d : DefinitionParts) → IsGood parts → IsPlaced d → All IsPlaced (parts.symbols.definitions ++ d ∷ [])
more_good parts d h p = All-push IsPlaced parts.symbols.definitions d h.placed p

pub labels_good : (tokens : List TokenParts) → LabelsKeep tokens (λ at. Unit {0}) IsGood
labels_good tokens =
    record {
      local = λ parts at l h. record { placed = h.placed };
      name = λ parts at l n free h. record { placed = more_good parts _ h (place_low parts.symbols _ at parts.chunks.here _) };
    }

pub body_good : (tokens : List TokenParts) (body : Body) (entry : Entry) → BodyKeeps tokens body entry IsGood IsGood
body_good tokens body entry =
    record {
      kept = λ parts h. h;
      entered = λ parts flags chunks h e. record { placed = h.placed };
      back = λ parts h. record { placed = h.placed };
      set = λ parts at number early b free h. record { placed = more_good parts _ h (record { early = tt }) };
      common = λ parts at size align b few small free h. record { placed = more_good parts _ h (common_low parts.symbols _ at (length parts.chunks.chunks) size) };
      wanted = λ parts name h. record { placed = h.placed };
      grown = λ parts count chunks whole h e. record { placed = h.placed };
      padded = λ parts unit most chunks small is h e. record { placed = h.placed };
      raised = λ parts h. record { placed = h.placed };
    }
