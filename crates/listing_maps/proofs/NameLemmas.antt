-- What words name beside a listing, by what they name in it.
use Rattle.std.proofs.Common.{◌≡◌, ℕ, Bool, true, false, cond, List, drop, Option, Some, None, Result, Ok, Err, refl, sym, ap, ◌∙◌}
use Rattle.std.specs.Prelude.{option_map}
use Rattle.asm_map_reader.specs.Sources.{SourceParts}
use Rattle.grammar.specs.Faults.{◌>>=◌}
use Rattle.grammar.specs.LabelMap.{first_line}
use Rattle.grammar.specs.Labels.{LabelParts, begins_at_sign, is_label_name, target_of, target_operand_of}
use Rattle.grammar.specs.Numerals.{number_of_digits}
use Rattle.grammar.specs.declared.fault.ListingFaultKind.{ListingFaultKind}
use Rattle.grammar.specs.declared.fault.ListingFaultKind.TheVariants.{Operand}
use Rattle.grammar.specs.declared.labels.LabelLine.{LabelLine}
use Rattle.grammar.specs.declared.labels.TargetOperand.{TargetOperand}
use Rattle.grammar.specs.declared.labels.TargetOperand.TheVariants.{Number, Named}
use Rattle.listing_maps.specs.Names.{named, symbol_in, symbol_line}
use Rattle.listing_maps.specs.Symbols.{symbol_at}

-- a symbol stands in for a label that is not there
abbrev pub or_symbol : Option ℕ → Result TargetOperand ListingFaultKind → Result TargetOperand ListingFaultKind
or_symbol symbol (Ok (Named None)) = Ok (Named symbol)
or_symbol symbol (Ok (Named (Some number))) = Ok (Named (Some number))
or_symbol symbol (Ok (Number number)) = Ok (Number number)
or_symbol symbol (Err fault) = Err fault

-- a word by what it begins with, whether it is a name, its digits, and where it is defined
abbrev operand_by : Bool → Bool → Result (Option ℕ) ListingFaultKind → Option LabelLine → Result TargetOperand ListingFaultKind
operand_by at_sign name digits place =
    cond at_sign (digits >>= (λ number. Ok (Number number)))
    (cond name (Ok (Named (option_map (λ (line : LabelLine). line.instructions) place))) (Err Operand))

by_symbol : (at_sign name : Bool) (digits : Result (Option ℕ) ListingFaultKind) (place : Option LabelLine) (symbol : Option ℕ)
    → operand_by at_sign name digits (first_line place (option_map symbol_line symbol)) ≡ or_symbol symbol (operand_by at_sign name digits place)
by_symbol true name (Ok number) place symbol = refl
by_symbol true name (Err fault) place symbol = refl
by_symbol false true digits (Some line) symbol = refl
by_symbol false true digits None (Some number) = refl
by_symbol false true digits None None = refl
by_symbol false false digits place symbol = refl

by_none : (operand : Result TargetOperand ListingFaultKind) → operand ≡ or_symbol None operand
by_none (Ok (Named None)) = refl
by_none (Ok (Named (Some number))) = refl
by_none (Ok (Number number)) = refl
by_none (Err fault) = refl

pub operand_named : (labels : LabelParts) (sources : Option (List SourceParts)) (word : List ℕ)
    → target_operand_of (named labels sources) word ≡ or_symbol (symbol_in word sources) (target_operand_of labels word)
unfolding named target_operand_of
operand_named labels None word = by_none (target_operand_of labels word)
operand_named labels (Some sources) word =
    by_symbol (begins_at_sign word) (is_label_name word) (number_of_digits 10 (drop 1 word)) (labels.label word) (symbol_at word sources)

pub target_named : (labels : LabelParts) (sources : Option (List SourceParts)) (operand : TargetOperand)
    → target_of (named labels sources) operand ≡ target_of labels operand
unfolding named target_of
target_named labels None operand = refl
target_named labels (Some sources) (Number number) = refl
target_named labels (Some sources) (Named (Some number)) = refl
target_named labels (Some sources) (Named None) = refl

-- what is read of a word, by what the listing's labels say of it
module _ (labels : LabelParts) (sources : Option (List SourceParts)) (word : List ℕ) where
  pub no_operand : (fault : ListingFaultKind) → target_operand_of labels word ≡ Err fault → Err fault ≡ target_operand_of (named labels sources) word
  no_operand fault is = sym (operand_named labels sources word ∙ ap (or_symbol (symbol_in word sources)) is)

  pub symbol_operand : target_operand_of labels word ≡ Ok (Named None)
      → Ok (Named (symbol_in word sources)) ≡ target_operand_of (named labels sources) word
  symbol_operand is = sym (operand_named labels sources word ∙ ap (or_symbol (symbol_in word sources)) is)

  pub label_operand : (number : ℕ) → target_operand_of labels word ≡ Ok (Named (Some number))
      → Ok (Named (Some number)) ≡ target_operand_of (named labels sources) word
  label_operand number is = sym (operand_named labels sources word ∙ ap (or_symbol (symbol_in word sources)) is)

  pub number_operand : (number : Option ℕ) → target_operand_of labels word ≡ Ok (Number number)
      → Ok (Number number) ≡ target_operand_of (named labels sources) word
  number_operand number is = sym (operand_named labels sources word ∙ ap (or_symbol (symbol_in word sources)) is)

pub ruleset names = (no_operand, symbol_operand, label_operand, number_operand, target_named)
