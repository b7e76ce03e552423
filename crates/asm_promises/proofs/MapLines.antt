-- The lines of the map of a program are lines that maps can have.
use Rattle.std.proofs.Common.{◌≡◌, ℕ, zero, suc, ◌+◌, ◌*◌, ◌^◌, ◌<◌, ◌≤◌, ◌==◌, Bool, true, false, cond, List, [], ◌∷◌, map, length, Option, Some, None, All, refl, sym, subst, inl, inr, lit<, arith}
use Rattle.std.specs.Prelude.{option_map}
use Rattle.std.specs.Str.{is_utf8}
use Rattle.std.proofs.lemmas.Bool.{cases_lt}
use Rattle.std.proofs.lemmas.List.{get_or_past}
use Rattle.std.proofs.lemmas.List.Elements.{All-nil, All-cons, All-head, All-tail, All-append, All-get_or}
use Rattle.cheri_model.specs.declared.memory.TheConstants.{RAM_BASE}
use Rattle.asm_layout.specs.Placement.{rank}
use Rattle.asm_layout.specs.declared.chunk.ChunkKind.TheVariants as kinds
use Rattle.asm_maps.specs.declared.line.Label.{Label}
use Rattle.asm_maps.specs.declared.line.MapLine.{MapLine}
use Rattle.asm_maps.specs.declared.line.MapLine.TheVariants as lines
use Rattle.asm_maps.specs.declared.line.Stack.{Stack as LineStack}
use Rattle.std.specs.Borrow.{Bor}
use Rattle.asm_map_reader.specs.Words.{is_symbol}
use Rattle.asm_map_laws.specs.Written.{IsWritable, IsLabel, IsEntry, IsStack}
use Rattle.asm_mapping.specs.Lines as told
use Rattle.asm_mapping.specs.Lines.{LineParts, label_parts, text_now, line_parts, shown_text, each_line}
use Rattle.asm_mapping.specs.Code.{name_of, label_of, code_line, code_lines, exit_lines}
use Rattle.asm_mapping.specs.Memory.{memory_address, kept_address, line_at, symbol_lines, table_lines}
use Rattle.asm_mapping.specs.Mapping.{MappedParts, file_lines, stack_of, hart_line, hart_lines, lines_of}
use Rattle.asm_labels.specs.declared.before.LabelBefore.{LabelBefore}
use Rattle.asm_labels.specs.Labels.{is_shown, instruction_of, is_this, first_label}
use Rattle.asm_labels.specs.Before.{or_before, last_label, label_before}
use Rattle.asm_harts.specs.declared.hart.Stack.{Stack}
use Rattle.asm_instructions.specs.declared.origin.Origin.{Origin}
use Rattle.asm_places.specs.Places.{PlacesParts, kind_of, chunk_address, address_in}
use Rattle.asm_places.specs.Capabilities.{ObjectsParts, length_of}
use Rattle.asm_starts.specs.Starts.{NoteParts}
use Rattle.asm_symbols.specs.declared.definitions.Meaning.{Meaning}
use Rattle.asm_symbols.specs.declared.definitions.Meaning.TheVariants.{Place, Assigned}
use Rattle.asm_symbols.specs.Definitions.{DefinitionParts}
use Rattle.asm_promises.specs.Maps.{IsFileText}
use Rattle.asm_promises.proofs.SymbolNames.{IsSymbolName}
use Rattle.asm_promises.proofs.Symbols.{then_is}

-- ---- lines

abbrev SaysLabel : Option (List ℕ × ℕ) → Type 0
SaysLabel (Some label) = IsSymbolName label.0 × (label.1 < 2 ^ 64)
SaysLabel None = Unit {0}

abbrev SaysEntry : Option (List ℕ) → Type 0
SaysEntry (Some name) = IsSymbolName name
SaysEntry None = Unit {0}

abbrev SaysStack : Option LineStack → Type 0
SaysStack (Some stack) = (stack.base < 2 ^ 64) × (stack.size < 2 ^ 64)
SaysStack None = Unit {0}

-- what a line tells that maps can have
abbrev SaysOf : LineParts → Type 0
SaysOf (told.file number name) = (number < 2 ^ 64) × IsFileText name
SaysOf (told.code number source line label) = (number < 2 ^ 64) × (source < 2 ^ 64) × (line < 2 ^ 64) × SaysLabel label
SaysOf (told.guard number) = number < 2 ^ 64
SaysOf (told.exit number) = number < 2 ^ 64
SaysOf (told.symbol addr length name) = (addr < 2 ^ 64) × (length < 2 ^ 64) × IsSymbolName name
SaysOf (told.entry addr name) = (addr < 2 ^ 64) × IsSymbolName name
SaysOf (told.hart number begins stack) = (number < 2 ^ 64) × SaysEntry begins × SaysStack stack

pub record Says (line : LineParts) : Type 0 where
  pub says : SaysOf line

name_of_both : (name : List ℕ) → IsSymbolName name → (is_symbol name ≡ true) × (is_utf8 name ≡ true)
name_of_both name h = (h.symbol, h.text)

label_writable : (label : Option Label) → SaysLabel (option_map label_parts label) → IsLabel label
label_writable (Some label) h = (name_of_both label.name.now h.0, h.1)
label_writable None h = tt

entry_writable : (begins : Option (Bor (List ℕ))) → SaysEntry (option_map text_now begins) → IsEntry begins
entry_writable (Some name) h = name_of_both name.now h
entry_writable None h = tt

stack_writable : (stack : Option LineStack) → SaysStack stack → IsStack stack
stack_writable (Some stack) h = h
stack_writable None h = tt

line_writable : (line : MapLine) → Says (line_parts line) → IsWritable line
line_writable (lines.File number name) h = h.says
line_writable (lines.Code number source line label) h = (h.says.0, h.says.1, h.says.2, label_writable label h.says.3)
line_writable (lines.Guard number) h = h.says
line_writable (lines.Exit number) h = h.says
line_writable (lines.Data addr length name) h = (h.says.0, h.says.1, name_of_both name.now h.says.2)
line_writable (lines.Table addr name) h = (h.says.0, name_of_both name.now h.says.1)
line_writable (lines.Hart number begins stack) h = (h.says.0, entry_writable begins h.says.1, stack_writable stack h.says.2)

pub lines_writable : (ls : List MapLine) → All Says (map line_parts ls) → All IsWritable ls
lines_writable [] h = All-nil IsWritable
lines_writable (line ∷ ls) h =
    All-cons IsWritable line ls (line_writable line (All-head Says (line_parts line) (map line_parts ls) h)) (lines_writable ls (All-tail Says (line_parts line) (map line_parts ls) h))

-- ---- lines of items

each_says : {X : Type 0} (R : X → Type 0) (line : ℕ → X → List LineParts) (most : ℕ) → ((n : ℕ) (x : X) → n < most → R x → All Says (line n x)) → (number : ℕ) (items : List X)
    → number + length items ≤ most → All R items → All Says (each_line line number items)
unfolding each_line
each_says R line most says number [] room h = All-nil Says
each_says R line most says number (x ∷ items) room h =
    All-append Says (line number x) (each_line line (number + 1) items) (says number x (omega arith) (All-head R x items h))
    (each_says R line most says (number + 1) items (omega arith) (All-tail R x items h))

one : (line : LineParts) → Says line → All Says (line ∷ [])
one line h = All-cons Says line [] h (All-nil Says)

shown : (name : List ℕ) → IsSymbolName name → IsSymbolName (shown_text name)
shown name h = let is : name ≡ shown_text name = rw h.text refl in subst IsSymbolName is h

-- the name of a symbol that is there
name_said : (symbols : List DefinitionParts) (number : ℕ) → All (λ (d : DefinitionParts). IsSymbolName d.name) symbols → number < length symbols → IsSymbolName (name_of symbols number)
unfolding name_of
name_said [] number h less = absurd (omega arith)
name_said (d ∷ symbols) zero h less = shown d.name (All-head (λ (d : DefinitionParts). IsSymbolName d.name) d symbols h)
name_said (d ∷ symbols) (suc number) h less = name_said symbols number (All-tail (λ (d : DefinitionParts). IsSymbolName d.name) d symbols h) (omega arith)

-- ---- code

module _ (places : PlacesParts) (symbols : List DefinitionParts) (names : All (λ (d : DefinitionParts). IsSymbolName d.name) symbols) where
  first_by : (test : Bool) (number k end : ℕ) (rest : Option ℕ) → number < end → (rest ≡ Some k → k < end) → cond test (Some number) rest ≡ Some k → k < end
  first_by true number k end rest h later e = let is : number ≡ k = cc in omega arith
  first_by false number k end rest h later e = later e

  first_within : (n number : ℕ) (ds : List DefinitionParts) (k : ℕ) → first_label places n number ds ≡ Some k → k < number + length ds
  unfolding first_label
  first_within n number [] k e = absurd (cc)
  first_within n number (d ∷ ds) k e =
      first_by (is_this n (instruction_of places d)) number k (number + suc (length ds)) (first_label places n (number + 1) ds) (omega arith)
      (λ f. (let less = first_within n (number + 1) ds k f in omega arith)) e

  -- a label of one of so many instructions
  record IsBefore (count : ℕ) (before : LabelBefore) : Type 0 where
    there : before.symbol < length symbols
    earlier : before.instruction < count

  before_by : (first : Option ℕ) (n : ℕ) (others : Option LabelBefore) (before : LabelBefore) → ((k : ℕ) → first ≡ Some k → k < length symbols)
      → (others ≡ Some before → IsBefore n before) → or_before first n others ≡ Some before → IsBefore (suc n) before
  before_by (Some k) n others before h later e =
      let this : LabelBefore = record { symbol = k; instruction = n } in
      let is : this ≡ before = cc in
      subst (IsBefore (suc n)) is (record { there = h k refl; earlier = omega arith })
  before_by None n others before h later e =
      let rest = later e in let less = rest.earlier in record { there = rest.there; earlier = omega arith }

  last_within : (count : ℕ) (before : LabelBefore) → last_label places symbols count ≡ Some before → IsBefore count before
  unfolding last_label
  last_within zero before e = absurd (cc)
  last_within (suc n) before e =
      before_by (first_label places n 0 symbols) n (last_label places symbols n) before (λ k f. (let less = first_within n 0 symbols k f in omega arith)) (λ f. last_within n before f) e

  label_said : (n : ℕ) (o : Option LabelBefore) → n < 2 ^ 32 → ((before : LabelBefore) → o ≡ Some before → IsBefore (n + 1) before) → SaysLabel (label_of symbols n o)
  label_said n (Some before) low h = let is = h before refl in (name_said symbols before.symbol names is.there, omega arith)
  label_said n None low h = tt

  code_said : (n : ℕ) (origin : Origin) → n < 2 ^ 32 → origin.line < 2 ^ 64 → All Says (code_lines places symbols n origin)
  code_said n origin low line =
      one (code_line symbols n (label_before places symbols n) origin)
      (record { says = (omega arith, omega arith, line, label_said n (label_before places symbols n) low (λ before e. last_within (n + 1) before e)) })

exit_said : (count : ℕ) (there : Bool) → count < 2 ^ 32 → All Says (exit_lines count there)
exit_said count true low = All-cons Says (told.guard count) (told.exit (count + 1) ∷ []) (record { says = omega arith }) (one (told.exit (count + 1)) (record { says = omega arith }))
exit_said count false low = All-nil Says

-- ---- memory

low_address : (places : PlacesParts) (chunk offset addr : ℕ) → address_in places chunk offset ≡ Some addr → addr < 2 ^ 64
unfolding address_in
low_address places chunk offset addr e = let x = then_is (chunk_address places chunk) offset addr e in let is = x.2 in omega arith

unless_code : (test : Bool) (o : Option ℕ) (addr : ℕ) → cond test None o ≡ Some addr → o ≡ Some addr
unless_code true o addr e = absurd (cc)
unless_code false o addr e = e

memory_low : (objects : ObjectsParts) (meaning : Meaning) (addr : ℕ) → memory_address objects meaning ≡ Some addr → addr < 2 ^ 64
memory_low objects (Place chunk offset) addr e =
    low_address objects.places chunk offset addr (unless_code (rank (kind_of objects.places chunk) == rank kinds.Code) (address_in objects.places chunk offset) addr e)
memory_low objects (Assigned statement) addr e = absurd (cc)

length_low : (objects : ObjectsParts) (number : ℕ) → All (λ n. n < 2 ^ 64) objects.lengths → length_of objects number < 2 ^ 64
length_low objects number h =
    elim (cases_lt number (length objects.lengths)) [
      | inl within ↦ All-get_or (λ n. n < 2 ^ 64) objects.lengths number 0 within h
      | inr past ↦ subst (λ n. n < 2 ^ 64) (sym (get_or_past objects.lengths number 0 past)) (lit< tt)
    ]

addressed_said : (objects : ObjectsParts) (number : ℕ) (name : List ℕ) (o : Option ℕ) → All (λ n. n < 2 ^ 64) objects.lengths → IsSymbolName name
    → ((addr : ℕ) → o ≡ Some addr → addr < 2 ^ 64) → All Says (line_at objects number name o)
addressed_said objects number name (Some addr) lengths h low =
    one (told.symbol addr (length_of objects number) (shown_text name)) (record { says = (low addr refl, length_low objects number lengths, shown name h) })
addressed_said objects number name None lengths h low = All-nil Says

if_shown : (test : Bool) (ls : List LineParts) → All Says ls → All Says (cond test ls [])
if_shown true ls h = h
if_shown false ls h = All-nil Says

symbol_said : (objects : ObjectsParts) (number : ℕ) (d : DefinitionParts) → All (λ n. n < 2 ^ 64) objects.lengths → IsSymbolName d.name → All Says (symbol_lines objects number d)
unfolding symbol_lines kept_address
symbol_said objects number d lengths h =
    if_shown (is_shown d.name) (line_at objects number d.name (memory_address objects d.meaning))
    (addressed_said objects number d.name (memory_address objects d.meaning) lengths h (λ addr e. memory_low objects d.meaning addr e))

table_said : (symbols : List DefinitionParts) (number k : ℕ) → All (λ (d : DefinitionParts). IsSymbolName d.name) symbols → number < 2 ^ 32 → k < length symbols
    → All Says (table_lines symbols number k)
table_said symbols number k names low less = one (told.entry (RAM_BASE + 16 * number) (name_of symbols k)) (record { says = (omega arith, name_said symbols k names less) })

-- ---- harts

abbrev pub IsNoteEntry : Option (List ℕ) → Type 0
IsNoteEntry (Some name) = IsSymbolName name
IsNoteEntry None = Unit {0}

abbrev pub IsNoteStack : Option Stack → Type 0
IsNoteStack (Some stack) = (stack.base < 2 ^ 64) × (stack.size < 2 ^ 64)
IsNoteStack None = Unit {0}

-- what is told of a hart
pub record IsNote (note : NoteParts) : Type 0 where
  pub entry : IsNoteEntry note.entry
  pub stack : IsNoteStack note.stack

begins_said : (o : Option (List ℕ)) → IsNoteEntry o → SaysEntry (option_map shown_text o)
begins_said (Some name) h = shown name h
begins_said None h = tt

stack_said : (o : Option Stack) → IsNoteStack o → SaysStack (option_map stack_of o)
stack_said (Some stack) h = h
stack_said None h = tt

hart_said : (number : ℕ) (note : NoteParts) → number < 2 ^ 32 → IsNote note → All Says (hart_lines number note)
hart_said number note low h = one (hart_line number note) (record { says = (omega arith, begins_said note.entry h.entry, stack_said note.stack h.stack) })

-- ---- the whole

-- what a map is made of
pub record IsTold (mapped : MappedParts) : Type 0 where
  pub names : All (λ (d : DefinitionParts). IsSymbolName d.name) mapped.objects.symbols
  pub lengths : All (λ n. n < 2 ^ 64) mapped.objects.lengths
  pub table : All (λ k. k < length mapped.objects.symbols) mapped.table
  pub entries : length mapped.table < 2 ^ 32
  pub lines : All (λ (origin : Origin). origin.line < 2 ^ 64) mapped.origins
  pub origins : length mapped.origins < 2 ^ 32
  pub notes : All IsNote mapped.harts
  pub harts : length mapped.harts < 2 ^ 32

file_said : (number : ℕ) (name : List ℕ) → number < 2 ^ 32 → IsFileText name → All Says (file_lines number name)
file_said number name low h = one (told.file number name) (record { says = (omega arith, h) })

pub whole_said : (mapped : MappedParts) (names : List (List ℕ)) → IsTold mapped → length names < 2 ^ 31 → All IsFileText names → All Says (lines_of mapped names)
unfolding lines_of
whole_said mapped names h few texts =
    let objects : ObjectsParts = mapped.objects in
    let files = each_says IsFileText file_lines (2 ^ 32) (λ n x less r. file_said n x less r) 1 names (omega arith) texts in
    let origins = h.origins in
    let codes = each_says (λ (origin : Origin). origin.line < 2 ^ 64) (code_lines objects.places objects.symbols) (2 ^ 32)
    (λ n x less r. code_said objects.places objects.symbols h.names n x less r) 0 mapped.origins (omega arith) h.lines in
    let exits = exit_said (length mapped.origins) mapped.exit origins in
    let datas = each_says (λ (d : DefinitionParts). IsSymbolName d.name) (symbol_lines objects) (length objects.symbols) (λ n x less r. symbol_said objects n x h.lengths r) 0 objects.symbols (omega arith) h.names in
    let few_entries = h.entries in
    let tables = each_says (λ k. k < length objects.symbols) (table_lines objects.symbols) (2 ^ 32) (λ n x less r. table_said objects.symbols n x h.names less r) 0 mapped.table (omega arith) h.table in
    let few_harts = h.harts in
    let notes = each_says IsNote hart_lines (2 ^ 32) (λ n x less r. hart_said n x less r) 0 mapped.harts (omega arith) h.notes in
    All-append Says _ _ (All-append Says _ _ (All-append Says _ _ (All-append Says _ _ (All-append Says _ _ files codes) exits) datas) tables) notes
