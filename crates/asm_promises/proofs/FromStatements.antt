-- The instructions of an image come from statements, each from just one, which its origin and the map tell.
use Rattle.std.proofs.Common.{◌≡◌, ℕ, zero, suc, ◌+◌, ◌-◌, ◌*◌, ◌/◌, ◌%◌, ◌^◌, ◌<◌, ◌≤◌, ◌==◌, inl, inr, Bool, true, List, [], ◌∷◌, ◌++◌, length, slice_get, Option, Some, None, Ok, All, refl, sym, ap, ◌∙◌, subst, arith}
use Rattle.cheri_model.specs.declared.code.TheConstants.{CODE_BASE}
use Rattle.cheri_model.specs.declared.memory.TheConstants.{RAM_BASE}
use Rattle.asm_tokens.specs.Faults.{◌>>=◌}
use Rattle.asm_files.specs.Programs.{FileParts, ProgramParts, statements_or_none, statement_at, stand_in}
use Rattle.asm_links.specs.Sections.{sections_judged}
use Rattle.asm_links.specs.Seen.{seen_of}
use Rattle.asm_late.specs.Linked.{LinkedParts, linked_with, linked_of}
use Rattle.asm_late.specs.Reach.{instructions_to}
use Rattle.asm_listable.proofs.Starts.{then_ok}
use Rattle.asm_layout.specs.declared.chunk.ChunkKind.TheVariants.{Code}
use Rattle.asm_layout.specs.Placement.{rank}
use Rattle.cheri_model.specs.declared.instr.Instr.{Instr}
use Rattle.asm_expansions.specs.declared.operation.Operation.{Operation}
use Rattle.asm_statements.specs.declared.statement.Body.{Body}
use Rattle.asm_statements.specs.declared.statement.Body.TheVariants as bodies
use Rattle.asm_drafts.specs.Code.{count_of as early_count}
use Rattle.asm_code.specs.Code.{instructions_of}
use Rattle.asm_statements.specs.Statements.{StatementParts}
use Rattle.asm_labels.specs.Before.{label_before}
use Rattle.asm_instructions.specs.declared.origin.Origin.{Origin}
use Rattle.asm_links.specs.Order.{order_of}
use Rattle.asm_code.specs.Standing.{stand_of, kind_of, index_of}
use Rattle.asm_code.specs.Beginning.{origin_of, count_of, room_of, code_begun}
use Rattle.asm_mapping.specs.Lines.{LineParts, each_line, file as file_line}
use Rattle.asm_symbols.specs.Definitions.{DefinitionParts}
use Rattle.asm_places.specs.Places.{PlacesParts}
use Rattle.asm_mapping.specs.Code.{code_line, code_lines, exit_lines}
use Rattle.asm_mapping.specs.Memory.{symbol_lines, table_lines}
use Rattle.asm_mapping.specs.Mapping.{MappedParts, file_lines, hart_lines, lines_of}
use Rattle.asm_pictures.specs.Asked.{HartsParts}
use Rattle.asm_pictures.specs.Image.{total}
use Rattle.asm_late.specs.Late.{LateParts}
use Rattle.asm_image.specs.Whole.{AssembledParts, assembly_meaning, mapped_of, map_of}
use Rattle.asm_promises.specs.Origins.{late_in, HasInstruction, IsOriginOf, told, gap, IsToldIn}
use Rattle.asm_promises.proofs.Steps.{Steps, steps_of}
use Rattle.asm_promises.proofs.Reading.{Phases, phases_of, none_more}
use Rattle.asm_promises.proofs.Late.{got, program_read}
use Rattle.asm_promises.proofs.Operations.{IsSound}
use Rattle.asm_promises.proofs.Sound.{IsSoundBody, IsSoundStatement, IsSoundFile}
use Rattle.asm_promises.proofs.CountedFiles.{statement_counted}
use Rattle.asm_promises.proofs.Fitting.{instructions_fit}
use Rattle.asm_promises.proofs.Instructions.{code_origins}
use Rattle.asm_promises.proofs.Runs.{few, total_least}
use Rattle.asm_promises.proofs.Origins.{begun_length}
use Rattle.asm_promises.proofs.Placed.{IsLaid}
use Rattle.asm_promises.proofs.StretchesOfFiles.{files_stretch}
use Rattle.asm_promises.proofs.Marks.{IsAmong, origin_told, origin_from}
use Rattle.asm_promises.proofs.Aligned.{AreAligned, linked_aligned}
use Rattle.asm_promises.proofs.OneStatement.{IsAt, chunk_code, is_at, linked_laid, one_statement}

-- ---- addresses and numbers of instructions

to_index : (begin end n : ℕ) → CODE_BASE ≤ begin → begin % 4 ≡ 0 → end % 4 ≡ 0 → begin ≤ CODE_BASE + 4 * n → CODE_BASE + 4 * n < begin + (end - begin)
    → ((begin - CODE_BASE) / 4 ≤ n) × (n < (begin - CODE_BASE) / 4 + (end - begin) / 4)
to_index begin end n low first last from to = (omega arith, omega arith)

to_address : (begin end n : ℕ) → CODE_BASE ≤ begin → begin ≤ end → begin % 4 ≡ 0 → end % 4 ≡ 0 → (begin - CODE_BASE) / 4 ≤ n → n < (begin - CODE_BASE) / 4 + (end - begin) / 4
    → (begin ≤ CODE_BASE + 4 * n) × (CODE_BASE + 4 * n < begin + (end - begin))
to_address begin end n low forward first last from to = (omega arith, omega arith)

among_by : (late : LateParts) (file number n : ℕ) (s : StatementParts) (begin end : ℕ) → IsAt late file number begin end → HasInstruction late file number s n
    → IsAmong late file number s n
among_by late file number n s begin end at h =
    let address = at.address in
    let bytes = at.bytes in
    let index = at.index in
    let count = at.count in
    let from = h.from in
    let to = h.to in
    let begin_from : begin ≤ CODE_BASE + 4 * n = omega arith in
    let to_end : CODE_BASE + 4 * n < begin + (end - begin) = omega arith in
    let whole = at.whole (omega arith) in
    let is = to_index begin end n at.low whole.0 whole.1 begin_from to_end in
    let first = is.0 in
    let last = is.1 in
    record { there = h.there; code = h.in_code; from = omega arith; to = omega arith }

has_by : (late : LateParts) (file number n : ℕ) (s : StatementParts) (begin end : ℕ) → IsAt late file number begin end → IsAmong late file number s n
    → HasInstruction late file number s n
has_by late file number n s begin end at h =
    let address = at.address in
    let bytes = at.bytes in
    let index = at.index in
    let count = at.count in
    let from = h.from in
    let to = h.to in
    let index_from : (begin - CODE_BASE) / 4 ≤ n = omega arith in
    let to_count : n < (begin - CODE_BASE) / 4 + (end - begin) / 4 = omega arith in
    let forward = at.forward in
    let whole = at.whole (omega arith) in
    let is = to_address begin end n at.low forward whole.0 whole.1 index_from to_count in
    let first = is.0 in
    let last = is.1 in
    record { there = h.there; in_code = h.code; from = omega arith; to = omega arith }

-- so many instructions there are up to the end of code
inside_by : (begin end last n : ℕ) → CODE_BASE ≤ begin → begin ≤ end → end ≤ last → last ≤ RAM_BASE → n < (begin - CODE_BASE) / 4 + (end - begin) / 4 → n < instructions_to last
inside_by begin end last n low forward within near to = omega arith

linked_count : (program : ProgramParts) (exits : Bool) (linked : LinkedParts) → linked_of program exits ≡ Ok linked → linked.instructions ≡ instructions_to linked.layout.code_end
unfolding linked_of linked_with
linked_count program exits linked e =
    let x = then_ok (seen_of program) (λ seen. sections_judged program >>= λ u. Ok (linked_with program exits seen)) linked e in
    let y = then_ok (sections_judged program) (λ u. Ok (linked_with program exits x.0)) linked x.2 in
    let is : linked_with program exits x.0 ≡ linked = (let k = y.2 in cc) in
    subst (λ (l : LinkedParts). l.instructions ≡ instructions_to l.layout.code_end) is refl

-- ---- lines

-- the line of an item, where items have one each
line_here : {X : Type 0} (line : ℕ → X → LineParts) (k : ℕ) (items : List X) (n m : ℕ) (x : X) → k + n ≡ m → slice_get items n ≡ Some x
    → slice_get (each_line (λ number item. line number item ∷ []) k items) n ≡ Some (line m x)
unfolding each_line
line_here line k [] n m x at e = absurd (cc)
line_here line k (item ∷ items) zero m x at e =
    let is : item ≡ x = cc in
    let number : k ≡ m = omega arith in
    ap (λ (i : _). Some (line k i)) is ∙ ap (λ (i : ℕ). Some (line i x)) number
line_here line k (item ∷ items) (suc n) m x at e = line_here line (k + 1) items n m x (omega arith) e

-- lines behind those
line_past : {X : Type 0} (line : ℕ → X → LineParts) (k : ℕ) (items : List X) (rest : List LineParts) (n : ℕ)
    → slice_get (each_line (λ number item. line number item ∷ []) k items ++ rest) (length items + n) ≡ slice_get rest n
unfolding each_line
line_past line k [] rest n = ap (λ (m : ℕ). slice_get rest m) (none_more n)
line_past line k (item ∷ items) rest n =
    let is : length (item ∷ items) + n ≡ suc (length items + n) = omega arith in
    ap (λ (m : ℕ). slice_get (line k item ∷ (each_line (λ number other. line number other ∷ []) (k + 1) items ++ rest)) m) is ∙ line_past line (k + 1) items rest n

in_front : (lines rest : List LineParts) (k : ℕ) (line : LineParts) → slice_get lines k ≡ Some line → slice_get (lines ++ rest) k ≡ Some line
in_front [] rest k line e = absurd (cc)
in_front (first ∷ lines) rest zero line e = e
in_front (first ∷ lines) rest (suc k) line e = in_front lines rest k line e

code_told : (mapped : MappedParts) (names : List (List ℕ)) (n : ℕ) (o : Origin) → slice_get mapped.origins n ≡ Some o
    → slice_get (lines_of mapped names) (length names + n) ≡ Some (code_line mapped.objects.symbols n (label_before mapped.objects.places mapped.objects.symbols n) o)
unfolding lines_of
code_told mapped names n o e =
    let places : PlacesParts = mapped.objects.places in
    let symbols : List DefinitionParts = mapped.objects.symbols in
    let files : List LineParts = each_line file_lines 1 names in
    let codes : List LineParts = each_line (code_lines places symbols) 0 mapped.origins in
    let exits : List LineParts = exit_lines (length mapped.origins) mapped.exit in
    let data_lines : List LineParts = each_line (symbol_lines mapped.objects) 0 symbols in
    let entries : List LineParts = each_line (table_lines symbols) 0 mapped.table in
    let k : ℕ = length names + n in
    let line : LineParts = code_line symbols n (label_before places symbols n) o in
    let code : slice_get (files ++ codes) k ≡ Some line =
    line_past (λ number name. file_line number name) 1 names codes n
    ∙ line_here (λ number origin. code_line symbols number (label_before places symbols number) origin) 0 mapped.origins n n o (none_more n) e in
    in_front (files ++ codes ++ exits ++ data_lines ++ entries) (each_line hart_lines 0 mapped.harts) k line
    (in_front (files ++ codes ++ exits ++ data_lines) entries k line
    (in_front (files ++ codes ++ exits) data_lines k line (in_front (files ++ codes) exits k line code)))

-- ---- statements

sound_by : (program : ProgramParts) (file number : ℕ) (s : StatementParts) (o : Option FileParts) → All IsSoundFile program.files → slice_get program.files file ≡ o
    → slice_get (statements_or_none o) number ≡ Some s → IsSoundStatement s
sound_by program file number s (Some f) all g e = got IsSoundStatement f.statements number s (got IsSoundFile program.files file f all g).statements e
sound_by program file number s None all g e = absurd (cc)

statement_sound : (program : ProgramParts) (file number : ℕ) (s : StatementParts) → All IsSoundFile program.files → statement_at program file number ≡ Some s → IsSoundStatement s
unfolding statement_at
statement_sound program file number s all e = sound_by program file number s (slice_get program.files file) all refl e

-- ---- images

module _ (texts : List (List ℕ)) (harts : HartsParts) (a : AssembledParts) (few_files : length texts ≤ 16) (e : assembly_meaning texts harts ≡ Ok a) where
  steps : Steps texts harts a
  steps = steps_of texts harts a e

  phases : Phases texts a.program
  phases = phases_of texts a.program steps.read

  most : total a.linked.instructions a.exit ≤ 16384
  most = few a.linked.instructions a.exit a.linked.layout.memory_end steps.judged

  least : a.linked.instructions ≤ total a.linked.instructions a.exit
  least = total_least a.linked.instructions a.exit

  small : a.linked.instructions ≤ 16384
  small = (let x = most in let y = least in omega arith)

  laid : IsLaid a.program.made.chunks (order_of a.program) (length a.linked.table.symbols) a.linked.layout
  laid = linked_laid texts a.program a.exit a.linked few_files phases steps.linked small

  aligned : AreAligned a.program.made.chunks a.linked.layout.addresses
  aligned = linked_aligned a.program a.exit a.linked (files_stretch _ a.program.files a.program.made phases.made).whole steps.linked

  origins_are : (code_begun (late_in a)).origins ≡ a.origins
  origins_are =
      let x = most in
      let low : total a.linked.instructions a.exit < 2 ^ 63 = omega arith in
      let read = program_read texts a.program steps.read in
      sym (code_origins (late_in a) (total a.linked.instructions a.exit) least low steps.contents read.files steps.contents_is) ∙ steps.origins

  among : (file number n : ℕ) (s : StatementParts) → HasInstruction (late_in a) file number s n → IsAmong (late_in a) file number s n
  among file number n s h =
      among_by (late_in a) file number n s _ _ (is_at texts (late_in a) (length a.linked.table.symbols) phases laid aligned file number s h.there h.in_code) h

  has : (file number n : ℕ) (s : StatementParts) → IsAmong (late_in a) file number s n → HasInstruction (late_in a) file number s n
  has file number n s h =
      has_by (late_in a) file number n s _ _ (is_at texts (late_in a) (length a.linked.table.symbols) phases laid aligned file number s h.there h.code) h

  pub numbers_of : (file number n : ℕ) (s : StatementParts) → HasInstruction (late_in a) file number s n
      → (index_of (late_in a) file number ≤ n) × (n < index_of (late_in a) file number + count_of (stand_of (late_in a) file number))
  numbers_of file number n s h = let one = among file number n s h in (one.from, one.to)

  pub has_each : (file number k : ℕ) (s : StatementParts) → statement_at a.program file number ≡ Some s → (rank (kind_of (late_in a) file number) == rank Code) ≡ true
      → k < count_of (stand_of (late_in a) file number) → HasInstruction (late_in a) file number s (index_of (late_in a) file number + k)
  has_each file number k s there code less =
      has file number (index_of (late_in a) file number + k) s (record { there = there; code = code; from = omega arith; to = omega arith })

  pub just_one : (file number other_file other n : ℕ) (s t : StatementParts) → HasInstruction (late_in a) file number s n → HasInstruction (late_in a) other_file other t n
      → (other_file ≡ file) × (other ≡ number)
  just_one file number other_file other n s t h k =
      one_statement texts (late_in a) (length a.linked.table.symbols) phases laid aligned file number n s (among file number n s h) other_file other t (among other_file other n t k)

  count_is : length a.origins ≡ a.linked.instructions
  count_is =
      let count : length (code_begun (late_in a)).origins ≡ room_of (late_in a) = begun_length (late_in a) in
      let same : length (code_begun (late_in a)).origins ≡ length a.origins = ap (λ (os : List Origin). length os) origins_are in
      let few_instructions = small in
      omega arith

  pub is_inside : (file number n : ℕ) (s : StatementParts) → HasInstruction (late_in a) file number s n → n < length a.origins
  is_inside file number n s h =
      let at = is_at texts (late_in a) (length a.linked.table.symbols) phases laid aligned file number s h.there h.in_code in
      let one = among file number n s h in
      let to = one.to in
      let index = at.index in
      let count = at.count in
      let less = inside_by _ _ a.linked.layout.code_end n at.low at.forward at.inside laid.code_end.1 (omega arith) in
      let instructions = linked_count a.program a.exit a.linked steps.linked in
      let all = count_is in
      omega arith

  told_of : (file number n : ℕ) (s : StatementParts) → HasInstruction (late_in a) file number s n
      → slice_get a.origins n ≡ Some (origin_of (late_in a) file number s)
  told_of file number n s h =
      let few_instructions = small in
      let less = is_inside file number n s h in
      let all = count_is in
      let inside : n < room_of (late_in a) = omega arith in
      ap (λ (os : List Origin). slice_get os n) (sym origins_are)
      ∙ origin_told (late_in a) n file number s (among file number n s h) inside
      (one_statement texts (late_in a) (length a.linked.table.symbols) phases laid aligned file number n s (among file number n s h))

  pub origin_is : (n : ℕ) (o : Origin) → slice_get a.origins n ≡ Some o → IsOriginOf (late_in a) n o
  unfolding origin_of
  origin_is n o f =
      elim (origin_from (late_in a) n o (ap (λ (os : List Origin). slice_get os n) origins_are ∙ f)) [
        | inl from ↦
            subst (λ (x : Origin). IsOriginOf (late_in a) n x) from.is
            (told from.number from.statement (has from.file from.number n from.statement from.among) refl)
        | inr none ↦
            gap none
            (λ file number s h.
            (let both : Some (origin_of (late_in a) file number s) ≡ Some o = sym (told_of file number n s h) ∙ f in
            let is : origin_of (late_in a) file number s ≡ o = cc in
            let clash : Some number ≡ None = ap (λ (x : Origin). x.statement) is ∙ none in
            absurd (cc)))
      ]

  pub map_tells : (names : List (List ℕ)) (file number n : ℕ) (s : StatementParts) → HasInstruction (late_in a) file number s n
      → IsToldIn (map_of a names) (length names) n file (origin_of (late_in a) file number s).line
  unfolding map_of mapped_of origin_of
  map_tells names file number n s h = (_, code_told (mapped_of a) names n (origin_of (late_in a) file number s) (told_of file number n s h))

  -- what an instruction stands for is as long as its bytes
  pub fits : (file number at : ℕ) (s : StatementParts) (operation : Operation) (instrs : List Instr) → statement_at a.program file number ≡ Some s
      → s.body ≡ bodies.Instruction at (Some operation) → (rank (kind_of (late_in a) file number) == rank Code) ≡ true
      → instructions_of (late_in a) a.origins file number s operation ≡ Ok instrs → length instrs ≡ count_of (stand_of (late_in a) file number)
  unfolding early_count stand_in
  fits file number at s operation instrs there b code made =
      let read = program_read texts a.program steps.read in
      let sound : IsSoundBody s.body s.operands = (statement_sound a.program file number s read.files there).body in
      let is_sound : IsSound operation s.operands = subst (λ (body : Body). IsSoundBody body s.operands) b sound in
      let in_chunk = chunk_code texts (late_in a) (length a.linked.table.symbols) phases laid aligned file number code in
      let counted = statement_counted texts a.program file number s phases there at (Some operation) b in_chunk in
      let bytes = counted.0 in
      let long = instructions_fit (late_in a) a.origins file number s operation instrs is_sound counted.1 made in
      omega arith
