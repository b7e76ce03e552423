-- The words of a condition that stand for numbers and for places in the code (this project's own
-- format).
use Rattle.std.specs.Prelude.{ℕ, ◌+◌, ◌*◌, ◌==◌, nat_eq, nat_lt, nat_le, Bool, ◌&&◌, List, length}
use Rattle.std.specs.Prelude.{if◌then◌else◌, take, drop, slice_index, position, codes}
use Rattle.std.specs.Prelude.{Option, Some, None, Result, Ok, Err}
use Rattle.std.specs.List.{starts_with}
use Rattle.cheri_model.specs.declared.code.TheConstants.{CODE_BASE, INSTRUCTION_BYTES}
use Rattle.cheri_model.specs.runs.Image.{ImageParts}
use Rattle.grammar.specs.declared.fault.ListingFaultKind.{ListingFaultKind}
use Rattle.grammar.specs.declared.labels.TargetOperand.{TargetOperand}
use Rattle.grammar.specs.Labels.{LabelParts, target_operand_of, target_of}
use Rattle.conditions.specs.declared.parts.Term.{Term}
use Rattle.conditions.specs.declared.parts.Term.TheVariants as term
use Rattle.conditions.specs.declared.parts.Source.{Source}
use Rattle.condition_texts.specs.Places.{◌>>=◌, number_in, source_of}

-- the address of the instruction that a target names
abbrev pub code_address : Result ℕ ListingFaultKind → Option ℕ
code_address (Ok number) = Some (CODE_BASE + INSTRUCTION_BYTES * number)
code_address (Err fault) = None

abbrev pub target_address : LabelParts → Result TargetOperand ListingFaultKind → Option ℕ
target_address labels (Ok operand) = code_address (target_of labels operand)
target_address labels (Err fault) = None

-- a target as a jump names it: a label, or `@` and an instruction's number
unfoldable pub target_in : LabelParts → List ℕ → Option ℕ
target_in labels word = target_address labels (target_operand_of labels word)

-- two targets with two points between them, of which the first has the lower address
unfoldable pub target_after_points : LabelParts → List ℕ → Option ℕ
target_after_points labels rest =
    if starts_with nat_eq rest (codes "..") then target_in labels (drop 2 rest) else None

abbrev pub lower_first : ℕ → ℕ → Option (ℕ × ℕ)
lower_first first second = if nat_lt first second then Some (first, second) else None

unfoldable pub range_in : LabelParts → List ℕ → Option (ℕ × ℕ)
range_in labels word = do
  end ← position (λ b. b == 0x2E) word
  first ← target_in labels (take end word)
  second ← target_after_points labels (drop end word)
  lower_first first second

-- what a number is compared with: a number, another such one, or `&` and a target
abbrev pub begins_address : List ℕ → Bool
begins_address word = nat_le 1 (length word) && (slice_index word 0 == 0x26)

abbrev pub number_term : Option ℕ → Option Term
number_term (Some number) = Some (term.Number number)
number_term None = None

abbrev pub source_term : Option Source → Option Term
source_term (Some from) = Some (term.Source from)
source_term None = None

abbrev pub number_or : Option ℕ → Option Source → Option Term
number_or (Some number) other = Some (term.Number number)
number_or None other = source_term other

unfoldable pub term_of : LabelParts → ImageParts → Bool → List ℕ → Option Term
term_of labels image each word =
    if begins_address word then number_term (target_in labels (drop 1 word))
    else number_or (number_in word) (source_of image each word)
