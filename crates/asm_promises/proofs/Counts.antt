-- How many chunks are laid out, and how many entries the capability table has: no more than statements.
use Rattle.std.proofs.Common.{◌≡◌, ℕ, zero, suc, ◌+◌, ◌*◌, ◌≤◌, ◌==◌, Bool, true, false, cond, List, [], ◌∷◌, ◌++◌, length, Option, Some, None, All, refl, arith}
use Rattle.std.specs.Prelude.{slice_get, slice_index_or, replicate, fold}
use Rattle.std.specs.Option.{is_none}
use Rattle.std.proofs.lemmas.List.{length-append}
use Rattle.std.proofs.lemmas.List.Elements.{All-head, All-tail}
use Rattle.asm_layout.specs.declared.chunk.Chunk.{Chunk}
use Rattle.asm_layout.specs.declared.chunk.ChunkKind.TheVariants.{Common}
use Rattle.asm_layout.specs.Placement.{rank}
use Rattle.asm_tokens.specs.Tokens.{TokenParts}
use Rattle.asm_chunks.specs.Order.{if_some, of_section, section_order}
use Rattle.asm_statements.specs.Statements.{StatementParts}
use Rattle.asm_files.specs.declared.texts.TheConstants.{MAX_FILE}
use Rattle.asm_files.specs.Sections.{SectionsParts, named_section, before_names, names_in, with_section, opening_sections, numbered}
use Rattle.asm_files.specs.Programs.{FileParts, ProgramParts}
use Rattle.asm_files.specs.Files.{all_names}
use Rattle.asm_links.specs.Order.{commons_from, order_of}
use Rattle.asm_tables.specs.Entries.{entry_asked}
use Rattle.asm_tables.specs.Tables.{TableParts, entered_by, entered, entered_if, statements_entered, count_or_none, count_in, files_entered, table_of}
use Rattle.asm_promises.proofs.Late.{got}
use Rattle.asm_promises.proofs.Reading.{IsFile}

-- ---- the order of chunks

some_count : (o : Option ℕ) → length (if_some o) ≤ 1
some_count (Some number) = omega arith
some_count None = omega arith

section_count : (section : ℕ) (rows : List (List (Option ℕ))) → length (of_section section rows) ≤ length rows
unfolding of_section
section_count section [] = omega arith
section_count section (row ∷ rows) =
    let one = some_count (slice_index_or row section None) in
    let rest = section_count section rows in
    let both : length (if_some (slice_index_or row section None) ++ of_section section rows) ≡ length (if_some (slice_index_or row section None)) + length (of_section section rows) =
    length-append (if_some (slice_index_or row section None)) (of_section section rows) in
    omega arith

sections_count : (sections : ℕ) (rows : List (List (Option ℕ))) → length rows ≤ 16 → length (section_order sections rows) ≤ sections * 16
unfolding section_order
sections_count zero rows h = omega arith
sections_count (suc section) rows h =
    let before = sections_count section rows h in
    let last = section_count section rows in
    let both : length (section_order section rows ++ of_section section rows) ≡ length (section_order section rows) + length (of_section section rows) =
    length-append (section_order section rows) (of_section section rows) in
    omega arith

common_by : (test : Bool) (number : ℕ) (rest : List ℕ) (count : ℕ) → length rest ≤ count → length (cond test (number ∷ rest) rest) ≤ suc count
common_by true number rest count h = omega arith
common_by false number rest count h = omega arith

commons_count : (number : ℕ) (chunks : List Chunk) → length (commons_from number chunks) ≤ length chunks
unfolding commons_from
commons_count number [] = omega arith
commons_count number (chunk ∷ chunks) =
    common_by (rank chunk.kind == rank Common) number (commons_from (number + 1) chunks) (length chunks) (commons_count (number + 1) chunks)

pub order_count : (program : ProgramParts) → length program.made.rows ≤ 16 → length (order_of program) ≤ program.sections * 16 + length program.made.chunks
unfolding order_of
order_count program h =
    let sections = sections_count program.sections program.made.rows h in
    let commons = commons_count 0 program.made.chunks in
    let both : length (section_order program.sections program.made.rows ++ commons_from 0 program.made.chunks)
    ≡ length (section_order program.sections program.made.rows) + length (commons_from 0 program.made.chunks) =
    length-append (section_order program.sections program.made.rows) (commons_from 0 program.made.chunks) in
    omega arith

-- ---- sections

if_new : (test : Bool) (n : ℕ) → cond test (n + 1) n ≤ n + 1
if_new true n = omega arith
if_new false n = omega arith

fold_count : (names : List (List ℕ)) (parts : SectionsParts) → (fold with_section parts names).count ≤ parts.count + length names
unfolding with_section
fold_count [] parts = omega arith
fold_count (name ∷ names) parts =
    let one = if_new (is_none (parts.numbers name)) parts.count in
    let rest = fold_count names (with_section parts name) in
    omega arith

numbered_count : (names : List (List ℕ)) → (numbered names).count ≤ 1 + length names
unfolding numbered opening_sections
numbered_count names = fold_count names opening_sections

names_by : (o : Option (List ℕ)) (names : List (List ℕ)) → length (before_names o names) ≤ suc (length names)
names_by (Some name) names = omega arith
names_by None names = omega arith

names_count : (tokens : List TokenParts) (statements : List StatementParts) → length (names_in tokens statements) ≤ length statements
unfolding names_in
names_count tokens [] = omega arith
names_count tokens (s ∷ statements) =
    let one = names_by (named_section tokens s) (names_in tokens statements) in
    let rest = names_count tokens statements in
    omega arith

all_count : (files : List FileParts) → All IsFile files → length (all_names files) ≤ length files * (MAX_FILE + 1)
unfolding all_names
all_count [] h = omega arith
all_count (file ∷ files) h =
    let one = names_count file.tokens file.statements in
    let is = All-head IsFile file files h in
    let few = is.few in
    let rest = all_count files (All-tail IsFile file files h) in
    let both : length (names_in file.tokens file.statements ++ all_names files) ≡ length (names_in file.tokens file.statements) + length (all_names files) =
    length-append (names_in file.tokens file.statements) (all_names files) in
    omega arith

pub sections_few : (files : List FileParts) → All IsFile files → (numbered (all_names files)).count ≤ 1 + length files * (MAX_FILE + 1)
sections_few files h =
    let names = all_count files h in
    let count = numbered_count (all_names files) in
    omega arith

-- ---- the capability table

entered_by_count : (symbol : ℕ) (table : TableParts) (o : Option (Option ℕ)) → length (entered_by symbol table o).symbols ≤ length table.symbols + 1
entered_by_count symbol table (Some None) =
    let longer : length (table.symbols ++ symbol ∷ []) ≡ length table.symbols + 1 = length-append table.symbols (symbol ∷ []) in omega arith
entered_by_count symbol table (Some (Some entry)) = omega arith
entered_by_count symbol table None = omega arith

entered_if_count : (o : Option ℕ) (table : TableParts) → length (entered_if o table).symbols ≤ length table.symbols + 1
unfolding entered
entered_if_count (Some symbol) table = entered_by_count symbol table (slice_get table.entries symbol)
entered_if_count None table = omega arith

statements_count : (program : ProgramParts) (seen : List ℕ → Option ℕ) (file count : ℕ) (table : TableParts)
    → length (statements_entered program seen file count table).symbols ≤ length table.symbols + count
unfolding statements_entered
statements_count program seen file zero table = omega arith
statements_count program seen file (suc count) table =
    let before : TableParts = statements_entered program seen file count table in
    let one = entered_if_count (entry_asked program seen file count) before in
    let rest = statements_count program seen file count table in
    omega arith

none_or_few : (o : Option FileParts) → ((f : FileParts) → o ≡ Some f → IsFile f) → count_or_none o ≤ MAX_FILE + 1
none_or_few (Some f) h = (h f refl).few
none_or_few None h = omega arith

count_few : (program : ProgramParts) (file : ℕ) → All IsFile program.files → count_in program file ≤ MAX_FILE + 1
unfolding count_in
count_few program file h = none_or_few (slice_get program.files file) (λ f e. got IsFile program.files file f h e)

entries_count : (program : ProgramParts) (seen : List ℕ → Option ℕ) (count : ℕ) (table : TableParts) → All IsFile program.files
    → length (files_entered program seen count table).symbols ≤ length table.symbols + count * (MAX_FILE + 1)
unfolding files_entered
entries_count program seen zero table h = omega arith
entries_count program seen (suc count) table h =
    let before : TableParts = files_entered program seen count table in
    let few = count_few program count h in
    let one = statements_count program seen count (count_in program count) before in
    let rest = entries_count program seen count table h in
    omega arith

pub table_few : (program : ProgramParts) (seen : List ℕ → Option ℕ) → All IsFile program.files
    → length (table_of program seen).symbols ≤ length program.files * (MAX_FILE + 1)
unfolding table_of
table_few program seen h =
    let all = entries_count program seen (length program.files) (record { symbols = []; entries = replicate (length program.made.symbols) None }) h in omega arith
