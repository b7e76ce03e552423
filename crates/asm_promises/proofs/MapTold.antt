-- What the map of an image tells: names, numbers of 64 bits, and lines of files.
use Rattle.std.proofs.Common.{◌≡◌, ℕ, zero, suc, ◌+◌, ◌^◌, ◌<◌, ◌≤◌, ◌==◌, Bool, true, false, cond, List, [], ◌∷◌, map, length, replicate, slice_get, slice_index_or, slice_set, Option, Some, None, Result, Ok, Err, All, refl, sym, ap, ◌∙◌, subst, lit<, lit≤, arith}
use Rattle.std.specs.Option.{unwrap_or}
use Rattle.std.proofs.Math.ListN.{length-set}
use Rattle.std.proofs.lemmas.List.{length-replicate}
use Rattle.std.proofs.lemmas.List.Elements.{All-nil, All-cons, All-head, All-tail, All-push, All-set, All-replicate}
use Rattle.asm_layout.specs.declared.chunk.ChunkKind.TheVariants.{Code}
use Rattle.asm_layout.specs.Placement.{rank}
use Rattle.asm_tokens.specs.Faults.{◌>>=◌}
use Rattle.asm_tokens.specs.Tokens.{TokenParts}
use Rattle.asm_values.specs.declared.values.Value.{Value}
use Rattle.asm_expressions.specs.Tokens.{place_or_nowhere, place_at}
use Rattle.asm_maps.specs.declared.line.MapLine.{MapLine}
use Rattle.asm_map_laws.specs.Written.{IsWritable}
use Rattle.asm_mapping.specs.Lines.{line_parts}
use Rattle.asm_symbols.specs.declared.definitions.Meaning.{Meaning}
use Rattle.asm_symbols.specs.declared.definitions.Meaning.TheVariants.{Place, Assigned}
use Rattle.asm_symbols.specs.Definitions.{DefinitionParts}
use Rattle.asm_symbols.specs.Globals.{published}
use Rattle.asm_symbols.specs.Names.{no_names}
use Rattle.asm_symbols.specs.declared.globals.PublishFault.{PublishFault}
use Rattle.asm_statements.specs.Statements.{StatementParts}
use Rattle.asm_files.specs.declared.texts.TheConstants.{MAX_FILE}
use Rattle.asm_files.specs.Programs.{FileParts, ProgramParts, tokens_or_none, tokens_in}
use Rattle.asm_chains.specs.Scenes.{SceneParts}
use Rattle.asm_links.specs.Sections.{sections_judged}
use Rattle.asm_links.specs.Seen.{wanted_in, seen_or_fault, seen_of}
use Rattle.asm_links.specs.Sizes.{first_sizes}
use Rattle.asm_drafts.specs.Names.{or_zero}
use Rattle.asm_late.specs.Lengths.{rest_by, length_of as length_said_of, lengths_from}
use Rattle.asm_late.specs.Linked.{LinkedParts, linked_with, linked_of}
use Rattle.asm_late.specs.Late.{LateParts, objects_of}
use Rattle.asm_tables.specs.Entries.{entry_asked}
use Rattle.asm_tables.specs.Tables.{TableParts, entered_by, entered, entered_if, statements_entered, count_in, files_entered, table_of}
use Rattle.asm_instructions.specs.declared.origin.Origin.{Origin}
use Rattle.asm_instructions.specs.Overwriting.{overwritten}
use Rattle.asm_instructions.specs.Origins.{marked, before_first, filled}
use Rattle.asm_code.specs.Standing.{stand_of, kind_of, index_of}
use Rattle.asm_code.specs.Beginning.{steps_from, name_of, origin_of, count_of, statement_marked, file_marked, all_marked, room_of, code_begun}
use Rattle.asm_pictures.specs.Asked.{HartsParts}
use Rattle.asm_pictures.specs.Image.{total, exit_address}
use Rattle.asm_starts.specs.Starts.{NoteParts}
use Rattle.asm_starts.specs.Values.{SceneParts as StartScene}
use Rattle.asm_image.specs.Whole.{AssembledParts, scene_of, assembly_meaning, mapped_of, map_of}
use Rattle.asm_listable.proofs.Starts.{then_ok}
use Rattle.asm_promises.specs.Given.{requests_in}
use Rattle.asm_promises.specs.Maps.{IsFileText}
use Rattle.asm_promises.specs.Origins.{late_in}
use Rattle.asm_promises.proofs.Steps.{steps_of}
use Rattle.asm_promises.proofs.Late.{got, program_read}
use Rattle.asm_promises.proofs.Runs.{few, total_least}
use Rattle.asm_promises.proofs.Instructions.{code_origins}
use Rattle.asm_promises.proofs.Origins.{begun_length}
use Rattle.asm_promises.proofs.Reading.{IsInLine, IsFile, Phases, phases_of}
use Rattle.asm_promises.proofs.Sizes.{found, IsSmallChunk, IsInChunk, EndsIn, chunk_small}
use Rattle.asm_promises.proofs.Made.{made_sized}
use Rattle.asm_promises.proofs.Counts.{table_few}
use Rattle.asm_promises.proofs.Symbols.{by_most, symbol_most}
use Rattle.asm_promises.proofs.SymbolNames.{NamesOnly, IsNamedMade, made_named, published_names}
use Rattle.asm_promises.proofs.MapLines.{Says, lines_writable, IsNote, IsTold, whole_said}
use Rattle.asm_promises.proofs.Notes.{KnowsNames, notes_told}
use Rattle.asm_promises.proofs.Stacks.{requests_few}

-- ---- lines of files

token_line : (o : Option TokenParts) → ((token : TokenParts) → o ≡ Some token → IsInLine (MAX_FILE + 1) token) → (place_or_nowhere o).line ≤ MAX_FILE + 1
token_line (Some token) h = h token refl
token_line None h = lit≤ tt

file_tokens : (o : Option FileParts) → ((f : FileParts) → o ≡ Some f → IsFile f) → All (IsInLine (MAX_FILE + 1)) (tokens_or_none o)
file_tokens (Some f) h = (h f refl).lines
file_tokens None h = All-nil (IsInLine (MAX_FILE + 1))

place_line : (program : ProgramParts) (file at : ℕ) → All IsFile program.files → (place_at (tokens_in program file) at).line ≤ MAX_FILE + 1
unfolding place_at tokens_in
place_line program file at h =
    let tokens = file_tokens (slice_get program.files file) (λ f e. got IsFile program.files file f h e) in
    token_line (slice_get (tokens_or_none (slice_get program.files file)) at) (λ token e. got (IsInLine (MAX_FILE + 1)) (tokens_or_none (slice_get program.files file)) at token tokens e)

-- ---- origins

abbrev IsInText : Origin → Type 0
IsInText origin = origin.line < 2 ^ 64

abbrev MarkOf : Option Origin → Type 0
MarkOf (Some origin) = IsInText origin
MarkOf None = Unit {0}

record IsMark (mark : Option Origin) : Type 0 where
  mark_of : MarkOf mark

over_marks : (marks items : List (Option Origin)) (at : ℕ) → All IsMark marks → All IsMark items → All IsMark (overwritten marks at items)
unfolding overwritten
over_marks marks [] at h k = h
over_marks marks (item ∷ items) at h k =
    over_marks (slice_set marks at item) items (at + 1) (All-set IsMark marks at item (All-head IsMark item items k) h) (All-tail IsMark item items k)

steps_marks : {X : Type 0} (step : ℕ → X → List (Option Origin) → List (Option Origin)) → ((n : ℕ) (x : X) (marks : List (Option Origin)) → All IsMark marks → All IsMark (step n x marks))
    → (n : ℕ) (xs : List X) (marks : List (Option Origin)) → All IsMark marks → All IsMark (steps_from step n xs marks)
unfolding steps_from
steps_marks step kept n [] marks h = h
steps_marks step kept n (x ∷ xs) marks h = steps_marks step kept (n + 1) xs (step n x marks) (kept n x marks h)

mark_line : (mark : Option Origin) (before : Origin) → IsMark mark → IsInText before → IsInText (unwrap_or mark before)
mark_line (Some origin) before h k = h.mark_of
mark_line None before h k = k

before_line : (origins : List Origin) → All IsInText origins → IsInText (before_first origins)
before_line [] h = lit< tt
before_line (origin ∷ rest) h = All-head IsInText origin rest h

filled_lines : (marks : List (Option Origin)) → All IsMark marks → All IsInText (filled marks)
unfolding filled
filled_lines [] h = All-nil IsInText
filled_lines (mark ∷ rest) h =
    let later = filled_lines rest (All-tail IsMark mark rest h) in
    All-cons IsInText (unwrap_or mark (before_first (filled rest))) (filled rest) (mark_line mark (before_first (filled rest)) (All-head IsMark mark rest h) (before_line (filled rest) later)) later

module _ (late : LateParts) (files : All IsFile late.program.files) where
  marked_by : (test : Bool) (marks : List (Option Origin)) (at count : ℕ) (origin : Origin) → IsInText origin → All IsMark marks → All IsMark (cond test (marked marks at count origin) marks)
  unfolding marked
  marked_by true marks at count origin line h =
      over_marks marks (replicate count (Some origin)) at h (All-replicate IsMark count (Some origin) (record { mark_of = line }))
  marked_by false marks at count origin line h = h

  origin_line : (file number : ℕ) (s : StatementParts) → IsInText (origin_of late file number s)
  unfolding origin_of
  origin_line file number s = let few_lines = place_line late.program file (name_of s) files in omega arith

  statement_marks : (file n : ℕ) (s : StatementParts) (marks : List (Option Origin)) → All IsMark marks → All IsMark (statement_marked late file n s marks)
  unfolding statement_marked
  statement_marks file n s marks h =
      marked_by (rank (kind_of late file n) == rank Code) marks (index_of late file n) (count_of (stand_of late file n)) (origin_of late file n s) (origin_line file n s) h

  file_marks : (n : ℕ) (f : FileParts) (marks : List (Option Origin)) → All IsMark marks → All IsMark (file_marked late n f marks)
  unfolding file_marked
  file_marks n f marks h = steps_marks (statement_marked late n) (λ k s ms g. statement_marks n k s ms g) 0 f.statements marks h

  begun_lines : All IsInText (code_begun late).origins
  unfolding code_begun all_marked
  begun_lines =
      let none : All IsMark (replicate (room_of late) None) = All-replicate IsMark (room_of late) None (record { mark_of = tt }) in
      filled_lines (steps_from (file_marked late) 0 late.program.files (replicate (room_of late) None))
      (steps_marks (file_marked late) (λ n f ms g. file_marks n f ms g) 0 late.program.files (replicate (room_of late) None) none)

-- ---- bytes of symbols

module _ (program : ProgramParts) (scene : SceneParts) (values : List (Option Value)) (small : All IsSmallChunk program.made.chunks) where
  length_by_meaning : (size : Option ℕ) (d : DefinitionParts) (meaning : Meaning) → d.meaning ≡ meaning → IsInChunk program.made.chunks d
      → length_said_of program scene values size d < 2 ^ 64
  unfolding length_said_of
  length_by_meaning size d (Place chunk offset) m h =
      let most = symbol_most program scene values size d chunk offset m h in
      let few_bytes = (chunk_small program.made.chunks chunk small).size in
      omega arith
  length_by_meaning size d (Assigned statement) m h =
      let none : d.bytes ≡ None = subst (λ (k : Meaning). EndsIn program.made.chunks d.bytes k) m h.ends in
      let no_bytes : or_zero d.bytes ≡ 0 = ap or_zero none in
      let no_rest : rest_by program.made.chunks d.meaning ≡ None = ap (λ (k : Meaning). rest_by program.made.chunks k) m in
      let most = by_most program scene values d.file 0 0 size d.bytes (rest_by program.made.chunks d.meaning) (omega arith) (λ n e. absurd (let clash = sym no_rest ∙ e in cc)) in
      omega arith

  lengths_low : (sizes : List (Option ℕ)) (number : ℕ) (ds : List DefinitionParts) → All (IsInChunk program.made.chunks) ds
      → All (λ n. n < 2 ^ 64) (lengths_from program scene values sizes number ds)
  unfolding lengths_from
  lengths_low sizes number [] h = All-nil (λ n. n < 2 ^ 64)
  lengths_low sizes number (d ∷ ds) h =
      All-cons (λ n. n < 2 ^ 64) (length_said_of program scene values (slice_index_or sizes number None) d) (lengths_from program scene values sizes (number + 1) ds)
      (length_by_meaning (slice_index_or sizes number None) d d.meaning refl (All-head (IsInChunk program.made.chunks) d ds h))
      (lengths_low sizes (number + 1) ds (All-tail (IsInChunk program.made.chunks) d ds h))

-- ---- the capability table

-- its symbols are there
record IsTable (count : ℕ) (table : TableParts) : Type 0 where
  entries : length table.entries ≡ count
  symbols : All (λ k. k < count) table.symbols

entered_table : (count symbol : ℕ) (table : TableParts) (o : Option (Option ℕ)) → slice_get table.entries symbol ≡ o → IsTable count table → IsTable count (entered_by symbol table o)
entered_table count symbol table (Some None) g h =
    let less = (found table.entries symbol None None g).0 in
    let same = h.entries in
    let kept : length (slice_set table.entries symbol (Some (length table.symbols))) ≡ length table.entries = length-set table.entries symbol (Some (length table.symbols)) in
    record { entries = kept ∙ same; symbols = All-push (λ k. k < count) table.symbols symbol h.symbols (omega arith) }
entered_table count symbol table (Some (Some entry)) g h = h
entered_table count symbol table None g h = h

if_table : (count : ℕ) (o : Option ℕ) (table : TableParts) → IsTable count table → IsTable count (entered_if o table)
unfolding entered
if_table count (Some symbol) table h = entered_table count symbol table (slice_get table.entries symbol) refl h
if_table count None table h = h

module _ (program : ProgramParts) (seen : List ℕ → Option ℕ) where
  statements_table : (count file n : ℕ) (table : TableParts) → IsTable count table → IsTable count (statements_entered program seen file n table)
  unfolding statements_entered
  statements_table count file zero table h = h
  statements_table count file (suc n) table h =
      if_table count (entry_asked program seen file n) (statements_entered program seen file n table) (statements_table count file n table h)

  files_table : (count n : ℕ) (table : TableParts) → IsTable count table → IsTable count (files_entered program seen n table)
  unfolding files_entered
  files_table count zero table h = h
  files_table count (suc n) table h =
      statements_table count n (count_in program n) (files_entered program seen n table) (files_table count n table h)

  symbols_there : All (λ k. k < length program.made.symbols) (table_of program seen).symbols
  unfolding table_of
  symbols_there =
      (files_table (length program.made.symbols) (length program.files) (record { symbols = []; entries = replicate (length program.made.symbols) None })
      (record { entries = length-replicate (length program.made.symbols) None; symbols = All-nil (λ k. k < length program.made.symbols) })).symbols

-- ---- what is linked

-- the names that all files see, the bytes of symbols, and the table's symbols
record IsLinkedTold (program : ProgramParts) (l : LinkedParts) : Type 0 where
  seen : NamesOnly l.seen
  lengths : All (λ n. n < 2 ^ 64) l.lengths
  table : All (λ k. k < length program.made.symbols) l.table.symbols
  entries : length l.table.symbols < 2 ^ 32

seen_ok : (program : ProgramParts) (r : Result (List ℕ → Option ℕ) PublishFault) (names : List ℕ → Option ℕ) → seen_or_fault program r ≡ Ok names → r ≡ Ok names
seen_ok program (Ok one) names e = let is : one ≡ names = cc in ap (λ n. Ok n) is
seen_ok program (Err fault) names e = absurd (cc)

no_names_named : NamesOnly no_names
no_names_named name symbol e = absurd (cc)

seen_named : (program : ProgramParts) (seen : List ℕ → Option ℕ) → IsNamedMade program.made → seen_of program ≡ Ok seen → NamesOnly seen
unfolding seen_of
seen_named program seen h e =
    published_names (wanted_in program) 0 no_names seen program.made.symbols h.names no_names_named
    (seen_ok program (published (wanted_in program) 0 no_names program.made.symbols) seen e)

module _ (texts : List (List ℕ)) (program : ProgramParts) (few_files : length texts ≤ 16) (phases : Phases texts program) (named : IsNamedMade program.made) where
  with_told : (exits : Bool) (seen : List ℕ → Option ℕ) → NamesOnly seen → IsLinkedTold program (linked_with program exits seen)
  unfolding linked_with
  with_told exits seen h =
      let sized = made_sized _ program.files program.made phases.files phases.made in
      let count = phases.count in
      let entries = table_few program seen phases.files in
      record {
        seen = h;
        lengths = lengths_low program _ _ sized.small (first_sizes program) 0 program.made.symbols sized.inside;
        table = symbols_there program seen;
        entries = omega arith;
      }

  linked_told : (exits : Bool) (linked : LinkedParts) → linked_of program exits ≡ Ok linked → IsLinkedTold program linked
  unfolding linked_of
  linked_told exits linked e =
      let x = then_ok (seen_of program) (λ seen. sections_judged program >>= λ u. Ok (linked_with program exits seen)) linked e in
      let y = then_ok (sections_judged program) (λ u. Ok (linked_with program exits x.0)) linked x.2 in
      let is : linked_with program exits x.0 ≡ linked = (let k = y.2 in cc) in
      subst (IsLinkedTold program) is (with_told exits x.0 (seen_named program x.0 named x.1))

-- ---- the whole

scene_names : (late : LateParts) (exit : Option ℕ) → NamesOnly late.linked.seen → All NamesOnly late.program.made.own → KnowsNames (scene_of late exit).known
unfolding scene_of
scene_names late exit seen own = record { seen = seen; own = own }

told : (texts : List (List ℕ)) (harts : HartsParts) (a : AssembledParts) → length texts ≤ 16 → assembly_meaning texts harts ≡ Ok a → IsTold (mapped_of a)
unfolding mapped_of objects_of
told texts harts a few_files e =
    let s = steps_of texts harts a e in
    let phases = phases_of texts a.program s.read in
    let read = program_read texts a.program s.read in
    let named = made_named _ a.program.files a.program.made read.files phases.made in
    let linked = linked_told texts a.program few_files phases named a.exit a.linked s.linked in
    let low : total a.linked.instructions a.exit ≤ 16384 = few a.linked.instructions a.exit a.linked.layout.memory_end s.judged in
    let least : a.linked.instructions ≤ total a.linked.instructions a.exit = total_least a.linked.instructions a.exit in
    let small : total a.linked.instructions a.exit < 2 ^ 63 = omega arith in
    let begun : s.contents.code.origins ≡ (code_begun (late_in a)).origins =
    code_origins (late_in a) (total a.linked.instructions a.exit) least small s.contents read.files s.contents_is in
    let origins_are : (code_begun (late_in a)).origins ≡ a.origins = sym begun ∙ s.origins in
    let room : room_of (late_in a) ≤ 16384 = omega arith in
    let long : length a.origins ≡ room_of (late_in a) = sym (ap (λ (os : List Origin). length os) origins_are) ∙ begun_length (late_in a) in
    let scene : StartScene = scene_of (late_in a) (exit_address a.linked.instructions a.exit) in
    let notes = notes_told scene (scene_names (late_in a) (exit_address a.linked.instructions a.exit) linked.seen named.own) a.linked.layout.memory_end (requests_in harts a) s.opened s.opened_is in
    let most = requests_few texts harts a e in
    let notes_long : length s.opened.notes ≡ length a.harts = ap (λ (ns : List NoteParts). length ns) s.notes in
    let count : length s.opened.notes ≡ length (requests_in harts a) = notes.1 in
    record {
      names = named.names;
      lengths = linked.lengths;
      table = linked.table;
      entries = linked.entries;
      lines = subst (All IsInText) origins_are (begun_lines (late_in a) phases.files);
      origins = omega arith;
      notes = subst (All IsNote) s.notes notes.0;
      harts = omega arith;
    }

pub map_writable : (texts : List (List ℕ)) (harts : HartsParts) (a : AssembledParts) (names : List (List ℕ)) (ls : List MapLine) → length texts ≤ 16 → assembly_meaning texts harts ≡ Ok a
    → length names ≡ length texts → All IsFileText names → map line_parts ls ≡ map_of a names → All IsWritable ls
unfolding map_of
map_writable texts harts a names ls few_files e count texts_are is =
    let all : All Says (map_of a names) = whole_said (mapped_of a) names (told texts harts a few_files e) (omega arith) texts_are in
    lines_writable ls (subst (All Says) (sym is) all)
