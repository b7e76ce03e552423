-- The labels of a listing, and the targets of its jumps (this project's own format).
use Rattle.std.specs.Prelude.{ℕ, ◌+◌, ◌-◌, ◌==◌, nat_lt, nat_le, Bool, false, not, ◌&&◌, ◌||◌}
use Rattle.std.specs.Prelude.{if◌then◌else◌, List, [], ◌∷◌, ◌++◌, length, take, drop, slice_index}
use Rattle.std.specs.Prelude.{Option, Some, None, option_map, Result, Ok, Err}
use Rattle.std.specs.List.{list_all}
use Rattle.grammar.specs.declared.fault.ListingFaultKind.{ListingFaultKind}
use Rattle.grammar.specs.declared.fault.ListingFaultKind.TheVariants.{Operand, Label, Twice}
use Rattle.grammar.specs.declared.labels.LabelLine.{LabelLine}
use Rattle.grammar.specs.declared.labels.TargetOperand.{TargetOperand}
use Rattle.grammar.specs.declared.labels.TargetOperand.TheVariants.{Number, Named}
use Rattle.grammar.specs.Faults.{◌>>=◌}
use Rattle.grammar.specs.Lines.{lines_of}
use Rattle.grammar.specs.Tokens.{tokens_of, token_at}
use Rattle.grammar.specs.Numerals.{number_of_digits, at_most}
use Rattle.cheri_model.specs.instructions.Tables.{found_at}
use Rattle.cheri_model.specs.instructions.Names.{is_instruction}

-- a letter, a digit or `_`
abbrev pub is_decimal_digit : ℕ → Bool
is_decimal_digit b = nat_le 0x30 b && nat_le b 0x39

abbrev pub is_name_byte : ℕ → Bool
is_name_byte b =
    is_decimal_digit b || (nat_le 0x41 b && nat_le b 0x5A) || (b == 0x5F)
    || (nat_le 0x61 b && nat_le b 0x7A)

-- a label's name: 1 to 32 letters, digits and `_`, of which the first is no digit
unfoldable pub is_label_name : List ℕ → Bool
is_label_name name =
    nat_le 1 (length name) && nat_le (length name) 32 && not (is_decimal_digit (slice_index name 0))
    && list_all is_name_byte name

-- a label line begins with a token that ends in `:`
unfoldable pub is_label_token : List ℕ → Bool
is_label_token token = nat_le 1 (length token) && (slice_index token (length token - 1) == 0x3A)

abbrev pub label_name : List ℕ → List ℕ
label_name token = take (length token - 1) token

-- what a line that begins with this token counts, and what it defines: a line defines its name even
-- where it is faulty
unfoldable pub count_of : List ℕ → ℕ
count_of token = if is_instruction token then 1 else 0

unfoldable pub label_of : List ℕ → LabelLine → List (List ℕ × LabelLine)
label_of token place =
    if is_instruction token then []
    else if is_label_token token then (label_name token, place) ∷ []
    else []

-- The names that lines define, from a line and a count of instruction lines on: where each is, and
-- how many instruction lines are before it.
unfoldable pub labels_from : ℕ → ℕ → List (List ℕ) → List (List ℕ × LabelLine)
labels_from number instructions [] = []
labels_from number instructions (line ∷ lines) =
    let token = token_at (tokens_of line) 0 in
    label_of token (record { line = number; instructions = instructions })
    ++ labels_from (number + 1) (instructions + count_of token) lines

-- how many lines begin with an instruction's name, faulty ones included
unfoldable pub instruction_lines : List (List ℕ) → ℕ
instruction_lines [] = 0
instruction_lines (line ∷ lines) = count_of (token_at (tokens_of line) 0) + instruction_lines lines

-- what jumps may name: for each name the place of the first line that defines it, and how many
-- instruction lines there are
pub record LabelParts : Type 0 where
  pub label : List ℕ → Option LabelLine
  pub instructions : ℕ

abbrev pub label_in : List ℕ → List ℕ → Option LabelLine
label_in text name = found_at (labels_from 1 0 (lines_of text)) name

unfoldable pub labels_of : List ℕ → LabelParts
labels_of text =
    record { label = λ name. label_in text name; instructions = instruction_lines (lines_of text) }

abbrev pub begins_at_sign : List ℕ → Bool
begins_at_sign token = nat_le 1 (length token) && (slice_index token 0 == 0x40)

-- a target: `@` and decimal digits, or a label's name
unfoldable pub target_operand_of : LabelParts → List ℕ → Result TargetOperand ListingFaultKind
target_operand_of labels token =
    if begins_at_sign token then (do
      number ← number_of_digits 10 (drop 1 token)
      Ok (Number number))
    else if is_label_name token
    then Ok (Named (option_map (λ place. place.instructions) (labels.label token)))
    else Err Operand

-- The number of the instruction that a target names. The one after the last instruction line may be
-- named.
unfoldable pub target_of : LabelParts → TargetOperand → Result ℕ ListingFaultKind
target_of labels (Number number) = at_most labels.instructions number
target_of labels (Named (Some number)) = Ok number
target_of labels (Named None) = Err Label

-- whether a name's first line is before this one
abbrev pub is_earlier : ℕ → Option LabelLine → Bool
is_earlier number (Some place) = nat_lt place.line number
is_earlier number None = false

-- a label's line of this number: its name is well formed, and no earlier line defines it
unfoldable pub label_fault : LabelParts → ℕ → List ℕ → Result (Unit {0}) ListingFaultKind
label_fault labels number name =
    if not (is_label_name name) then Err Label
    else if is_earlier number (labels.label name) then Err Twice
    else Ok tt
