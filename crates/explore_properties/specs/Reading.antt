-- The properties of a listing (this project's own format).
use Rattle.std.specs.Prelude.{◌≡◌, ℕ, ◌+◌, ◌==◌, Bool, not, if◌then◌else◌, List, [], ◌∷◌, ◌++◌}
use Rattle.std.specs.Prelude.{length, drop, codes, bytes_eq, min, Option, Some, None, Result, Ok}
use Rattle.std.specs.Prelude.{Err}
use Rattle.std.specs.List.{before_first, after_first}
use Rattle.cheri_model.specs.instructions.Tables.{found_at}
use Rattle.cheri_model.specs.runs.Image.{ImageParts}
use Rattle.condition_texts.specs.Conditions.{condition_of}
use Rattle.conditions.specs.declared.parts.Node.{Node}
use Rattle.explore_properties.specs.Lines.{blank_count, is_marked, is_parted, trimmed}
use Rattle.explore_properties.specs.Properties.{PropertyParts, PropertiesParts, none_yet}
use Rattle.explore_properties.specs.declared.claims.Claim.{Claim}
use Rattle.explore_properties.specs.declared.claims.Claim.TheVariants.{Holds, Ends, EndsFairly}
use Rattle.explore_properties.specs.declared.claims.TheConstants.{MAX_PROPERTIES}
use Rattle.explore_properties.specs.declared.claims.When.{When}
use Rattle.explore_properties.specs.declared.claims.When.TheVariants.{Never, Always, Sometimes}
use Rattle.explore_properties.specs.declared.claims.When.TheVariants.{Finally}
use Rattle.explore_properties.specs.declared.fault.LineFault.{LineFault}
use Rattle.explore_properties.specs.declared.fault.LineFault.TheVariants as line_faults
use Rattle.explore_properties.specs.declared.fault.PropertyFault.{PropertyFault}
use Rattle.explore_properties.specs.declared.fault.PropertyFault.TheVariants as faults
use Rattle.explore_properties.specs.declared.fault.PropertyPlace.{PropertyPlace}
use Rattle.explore_properties.specs.declared.statements.Statement.{Statement}
use Rattle.explore_properties.specs.declared.statements.Statement.TheVariants as statement
use Rattle.explore_sweeps.specs.Sweeps.{sweep_of}
use Rattle.explore_sweeps.specs.declared.Sweep.{Sweep}
use Rattle.explore_sweeps.specs.declared.TheConstants.{MAX_SWEEPS}
use Rattle.grammar.specs.Faults.{◌>>=◌}
use Rattle.grammar.specs.Labels.{LabelParts}
use Rattle.grammar.specs.Lines.{lines_of}

-- ---- one line

-- the first word of a text, and what comes after the space behind it
abbrev pub first_word : List ℕ → List ℕ
first_word text = before_first (λ b. b == 0x20) text

abbrev pub after_word : List ℕ → List ℕ
after_word text = after_first (λ b. b == 0x20) text

abbrev pub when_table : List (List ℕ × When)
when_table =
    (codes "never", Never) ∷ (codes "always", Always) ∷ (codes "sometimes", Sometimes)
    ∷ (codes "finally", Finally) ∷ []

unfoldable pub when_of : List ℕ → Option When
when_of word = found_at when_table word

-- a sweep that is written from this byte on of a line with so many bytes
abbrev pub swept : ℕ → ℕ → Option Sweep → Result Statement ℕ
swept begin end (Some sweep) = Ok (statement.Sweep sweep begin)
swept begin end None = Err (min begin end)

abbrev pub sweep_statement : ℕ → ℕ → List ℕ → Result Statement ℕ
sweep_statement begin end text = swept begin end (sweep_of text)

-- the same of a condition
abbrev pub condition_statement : ℕ → ℕ → When → Result (List Node) ℕ → Result Statement ℕ
condition_statement begin end when (Ok nodes) = Ok (statement.Claim (Holds when nodes))
condition_statement begin end when (Err byte) = Err (min (begin + byte) end)

-- what is said after a first word by which a condition is claimed, or by none
unfoldable pub claim_of : LabelParts → ImageParts → ℕ → ℕ → Option When → List ℕ → ℕ
    → Result Statement ℕ
claim_of labels image begin end (Some when) rest at =
    condition_statement begin end when (condition_of labels image rest)
claim_of labels image begin end None rest at = Err at

-- what a text says that begins at this byte of a line with so many bytes
unfoldable pub statement_of : LabelParts → ImageParts → ℕ → ℕ → List ℕ → Result Statement ℕ
statement_of labels image at end text =
    let rest = after_word text in
    let begin = at + length (first_word text) + 1 in
    if bytes_eq text (codes "ends") then Ok (statement.Claim Ends)
    else if bytes_eq text (codes "ends fairly") then Ok (statement.Claim EndsFairly)
    else if bytes_eq (first_word text) (codes "ends") then Err begin
    else if bytes_eq (first_word text) (codes "sweep")
    then sweep_statement begin end rest
    else claim_of labels image begin end (when_of (first_word text)) rest at

-- ---- one line after another

-- a property more, on this line; or a sweep more: at most so many
abbrev pub with_property : ℕ → List ℕ → Claim → PropertiesParts → Result PropertiesParts ℕ
with_property number text claim read =
    if length read.properties == MAX_PROPERTIES then Err 0
    else Ok (record read {
      properties = read.properties ++ record { line = number; text = text; claim = claim } ∷ [];
    })

abbrev pub with_sweep : ℕ → Sweep → PropertiesParts → Result PropertiesParts ℕ
with_sweep range sweep read =
    if length read.sweeps == MAX_SWEEPS then Err range
    else Ok (record read { sweeps = read.sweeps ++ sweep ∷ [] })

abbrev pub with_statement : ℕ → List ℕ → Statement → PropertiesParts → Result PropertiesParts ℕ
with_statement number text (statement.Claim claim) read = with_property number text claim read
with_statement number text (statement.Sweep sweep range) read = with_sweep range sweep read

-- what a line of this number adds whose text begins with `#!` at this byte
unfoldable pub marked_read : LabelParts → ImageParts → ℕ → PropertiesParts → List ℕ → ℕ
    → Result PropertiesParts ℕ
marked_read labels image number read line start =
    if not (is_parted (drop start line)) then Err (start + 2)
    else (do
      said ← statement_of labels image (start + 3) (length line) (drop (start + 3) line)
      with_statement number (drop (start + 3) line) said read)

-- what a line of this number adds to what the lines before it said; the byte of its fault
unfoldable pub trimmed_read : LabelParts → ImageParts → ℕ → PropertiesParts → List ℕ
    → Result PropertiesParts ℕ
trimmed_read labels image number read line =
    if is_marked (drop (blank_count line) line)
    then marked_read labels image number read line (blank_count line)
    else Ok read

abbrev pub line_read : LabelParts → ImageParts → ℕ → PropertiesParts → List ℕ
    → Result PropertiesParts ℕ
line_read labels image number read line =
    trimmed_read labels image number read (trimmed line)

-- a line's result, or its fault with its number
abbrev pub at_line : {X : Type 0} → ℕ → Result X ℕ → Result X PropertyPlace
at_line number (Ok x) = Ok x
at_line number (Err byte) = Err (record { line = number; byte = byte })

-- what lines say one after another, the first of this number, up to the first fault
unfoldable pub lines_read : LabelParts → ImageParts → ℕ → PropertiesParts → List (List ℕ)
    → Result PropertiesParts PropertyPlace
lines_read labels image number read [] = Ok read
lines_read labels image number read (line ∷ lines) = do
  next ← at_line number (line_read labels image number read line)
  lines_read labels image (number + 1) next lines

-- a listing that claims nothing is at fault
abbrev pub some_property : PropertiesParts → Result PropertiesParts PropertyPlace
some_property read =
    if length read.properties == 0 then Err (record { line = 0; byte = 0 }) else Ok read

-- the properties of a listing with these labels and this image
unfoldable pub properties_of : LabelParts → ImageParts → List ℕ
    → Result PropertiesParts PropertyPlace
properties_of labels image text = do
  read ← lines_read labels image 1 none_yet (lines_of text)
  some_property read

-- ---- answers

-- an answer gives a meaning: what was read, or the byte of a fault, or out of memory
abbrev pub GivesByte : {X : Type 0} → Result X LineFault → Result X ℕ → Type 0
GivesByte (Ok x) meaning = meaning ≡ Ok x
GivesByte (Err (line_faults.Byte byte)) meaning = meaning ≡ Err byte
GivesByte (Err line_faults.NoMemory) meaning = Unit {0}

-- the same of what was changed in its place
abbrev pub AddsByte : {X : Type 0} → Result (Unit {0}) LineFault → X → Result X ℕ → Type 0
AddsByte (Ok done) new meaning = meaning ≡ Ok new
AddsByte (Err (line_faults.Byte byte)) new meaning = meaning ≡ Err byte
AddsByte (Err line_faults.NoMemory) new meaning = Unit {0}

-- a line's fault with its number
abbrev pub fault_at : ℕ → LineFault → PropertyFault
fault_at line (line_faults.Byte byte) = faults.Place (record { line = line; byte = byte })
fault_at line line_faults.NoMemory = faults.NoMemory

-- the same of properties, whose fault has its line
abbrev pub GivesPlace : {X : Type 0} → Result X PropertyFault → Result X PropertyPlace → Type 0
GivesPlace (Ok x) meaning = meaning ≡ Ok x
GivesPlace (Err (faults.Place place)) meaning = meaning ≡ Err place
GivesPlace (Err faults.NoMemory) meaning = Unit {0}
