-- An instruction is one of just one statement: statements' addresses are apart.
use Rattle.std.proofs.Common.{◌≡◌, ℕ, ◌+◌, ◌-◌, ◌*◌, ◌/◌, ◌%◌, ◌^◌, ◌<◌, ◌≤◌, ◌==◌, ◌⊎◌, inl, inr, Bool, true, List, length, slice_get, slice_index_or, Option, Some, None, Ok, refl, sym, ap, ◌∙◌, subst, arith}
use Rattle.std.proofs.lemmas.Bool.{cases_lt}
use Rattle.cheri_model.specs.declared.code.TheConstants.{CODE_BASE, INSTRUCTION_BYTES}
use Rattle.asm_tokens.specs.Faults.{◌>>=◌}
use Rattle.asm_layout.specs.declared.chunk.ChunkKind.{ChunkKind}
use Rattle.asm_layout.specs.declared.chunk.ChunkKind.TheVariants.{Code}
use Rattle.asm_layout.specs.Placement.{rank}
use Rattle.asm_chunks.specs.Chunks.{no_chunk}
use Rattle.asm_statements.specs.Statements.{StatementParts}
use Rattle.asm_places.specs.Places as places
use Rattle.asm_files.specs.declared.stand.Stand.{Stand}
use Rattle.asm_files.specs.Programs.{FileParts, ProgramParts, statements_or_none, statement_at, stand_in}
use Rattle.asm_links.specs.Order.{order_of}
use Rattle.asm_links.specs.Sections.{sections_judged}
use Rattle.asm_links.specs.Seen.{seen_of}
use Rattle.asm_late.specs.Linked.{LinkedParts, linked_with, linked_of}
use Rattle.asm_late.specs.Late.{LateParts, places_of}
use Rattle.asm_code.specs.Standing.{stand_of, kind_of, address_of, index_of}
use Rattle.asm_code.specs.Beginning.{count_of}
use Rattle.asm_listable.proofs.Starts.{then_ok}
use Rattle.asm_promises.specs.Origins.{bytes_of}
use Rattle.asm_promises.proofs.Reading.{Phases}
use Rattle.asm_promises.proofs.Coverage.{all_in_order}
use Rattle.asm_promises.proofs.Sizes.{found, size_at}
use Rattle.asm_promises.proofs.Placed.{IsLaid}
use Rattle.asm_promises.proofs.Symbols.{laid_out, kind_same}
use Rattle.asm_promises.proofs.Locals.{no_file, files_stood}
use Rattle.asm_promises.proofs.Nearest.{program_stood}
use Rattle.asm_promises.proofs.Stretches.{IsCode}
use Rattle.asm_promises.proofs.Aligned.{AreAligned}
use Rattle.asm_promises.proofs.StretchesOfFiles.{stand_at, stands_at, LiesIn, FilesStretch, files_stretch}
use Rattle.asm_promises.proofs.Marks.{IsAmong}

-- ---- the layout of a program that is linked

pub linked_laid : (texts : List (List ℕ)) (program : ProgramParts) (exits : Bool) (linked : LinkedParts) → length texts ≤ 16 → Phases texts program
    → linked_of program exits ≡ Ok linked → linked.instructions ≤ 16384 → IsLaid program.made.chunks (order_of program) (length linked.table.symbols) linked.layout
unfolding linked_of linked_with
linked_laid texts program exits linked few_files phases e =
    let x = then_ok (seen_of program) (λ seen. sections_judged program >>= λ u. Ok (linked_with program exits seen)) linked e in
    let y = then_ok (sections_judged program) (λ u. Ok (linked_with program exits x.0)) linked x.2 in
    let is : linked_with program exits x.0 ≡ linked = (let k = y.2 in cc) in
    subst (λ (l : LinkedParts). l.instructions ≤ 16384 → IsLaid program.made.chunks (order_of program) (length l.table.symbols) l.layout) is
    (λ small. laid_out texts program few_files phases exits x.0 small)

-- ---- numbers

start_is : (base offset size end : ℕ) → base + size ≤ end → end < 2 ^ 64 → offset ≤ size → (base + (offset + 0 * 0) % 2 ^ 64) % 2 ^ 64 ≡ base + offset
start_is base offset size end fits low within = omega arith

index_is : (start : ℕ) → CODE_BASE ≤ start → start < 2 ^ 64 → places.behind start CODE_BASE / INSTRUCTION_BYTES ≡ (start - CODE_BASE) / 4
index_is start from low = omega arith

-- no instruction is in two stretches of addresses of which one ends before the other begins
clash : (one end other last n : ℕ) → CODE_BASE ≤ one → one ≤ end → end ≤ other → other ≤ last
    → n < (one - CODE_BASE) / 4 + (end - one) / 4 → (other - CODE_BASE) / 4 ≤ n → ⊥
clash one end other last n from forward behind later to begin = absurd (omega arith)

-- ---- statements

-- where a statement of code is, by its addresses
pub record IsAt (late : LateParts) (file number : ℕ) (begin end : ℕ) : Type 0 where
  pub low : CODE_BASE ≤ begin
  pub forward : begin ≤ end
  pub small : end < 2 ^ 64
  pub address : address_of late file number 0 0 ≡ begin
  pub bytes : bytes_of (stand_of late file number) ≡ end - begin
  pub index : index_of late file number ≡ (begin - CODE_BASE) / 4
  pub count : count_of (stand_of late file number) ≡ (end - begin) / 4
  pub inside : end ≤ late.linked.layout.code_end
  pub whole : begin < end → (begin % 4 ≡ 0) × (end % 4 ≡ 0)

module _ (texts : List (List ℕ)) (late : LateParts) (entries : ℕ) (phases : Phases texts late.program) (laid : IsLaid late.program.made.chunks (order_of late.program) entries late.linked.layout)
    (aligned : AreAligned late.program.made.chunks late.linked.layout.addresses) where
  stretch : FilesStretch late.program.made
  stretch = files_stretch _ late.program.files late.program.made phases.made

  abbrev start_at : ℕ → ℕ
  start_at chunk = slice_index_or late.linked.layout.addresses chunk 0

  abbrev stand_here : ℕ → ℕ → Stand
  stand_here file number = stand_at (stands_at late.program.made file) number

  abbrev begin_at : ℕ → ℕ → ℕ
  begin_at file number = start_at (stand_here file number).chunk + (stand_here file number).offset

  abbrev end_at : ℕ → ℕ → ℕ
  end_at file number = start_at (stand_here file number).chunk + (stand_here file number).end

  -- a statement that there is
  record IsThere (file number : ℕ) : Type 0 where
    file_less : file < length late.program.made.stands
    less : number < length (stands_at late.program.made file)
    lies : LiesIn 0 late.program.made.chunks (stand_here file number)

  there_by : (file number : ℕ) (s : StatementParts) (o : Option FileParts) → slice_get late.program.files file ≡ o → slice_get (statements_or_none o) number ≡ Some s → IsThere file number
  there_by file number s (Some f) g e =
      let files = files_stood _ late.program.files late.program.made phases.made in
      let count = files.stands_count in
      let stood = program_stood texts late.program file f phases g in
      let long = stood.length_is in
      let file_less = (found late.program.files file f no_file g).0 in
      let less = (found f.statements number s s e).0 in
      let at : file < length late.program.made.stands = omega arith in
      let in_file : number < length (stands_at late.program.made file) = omega arith in
      record { file_less = at; less = in_file; lies = stretch.lie file at number in_file }
  there_by file number s None g e = absurd (cc)

  is_there : (file number : ℕ) (s : StatementParts) → statement_at late.program file number ≡ Some s → IsThere file number
  unfolding statement_at
  is_there file number s e = there_by file number s (slice_get late.program.files file) refl e

  abbrev pub IsInCode : ℕ → ℕ → Type 0
  IsInCode file number = (rank (kind_of late file number) == rank Code) ≡ true

  -- its chunk is one of code
  pub chunk_code : (file number : ℕ) → IsInCode file number → IsCode (slice_index_or late.program.made.chunks (stand_here file number).chunk no_chunk)
  unfolding kind_of places.kind_of places_of stand_in
  chunk_code file number code = ap (λ (k : ChunkKind). rank k == rank Code) (sym (kind_same late.program.made.chunks (stand_here file number).chunk)) ∙ code

  -- and is laid out there
  code_low : (file number : ℕ) → IsThere file number → IsInCode file number → CODE_BASE ≤ start_at (stand_here file number).chunk
  code_low file number there code =
      let chunk : ℕ = (stand_here file number).chunk in
      let less : chunk < length late.program.made.chunks = there.lies.chunk.1 in
      laid.code chunk (all_in_order texts late.program chunk phases less) less (chunk_code file number code)

  pub is_at : (file number : ℕ) (s : StatementParts) → statement_at late.program file number ≡ Some s → IsInCode file number
      → IsAt late file number (begin_at file number) (end_at file number)
  unfolding address_of index_of stand_in
  is_at file number s e code =
      let there = is_there file number s e in
      let stand : Stand = stand_here file number in
      let from : CODE_BASE ≤ start_at stand.chunk = code_low file number there code in
      let ends = there.lies.ends in
      let forward = there.lies.forward in
      let fits = laid.ends stand.chunk in
      let low = laid.low in
      let address : (start_at stand.chunk + (stand.offset + 0 * 0) % 2 ^ 64) % 2 ^ 64 ≡ start_at stand.chunk + stand.offset =
      start_is (start_at stand.chunk) stand.offset (size_at late.program.made.chunks stand.chunk) late.linked.layout.memory_end fits low (omega arith) in
      let index : places.behind (start_at stand.chunk + stand.offset) CODE_BASE / INSTRUCTION_BYTES ≡ (start_at stand.chunk + stand.offset - CODE_BASE) / 4 =
      index_is (start_at stand.chunk + stand.offset) (omega arith) (omega arith) in
      record {
        low = omega arith;
        forward = omega arith;
        small = omega arith;
        address = address;
        index = ap (λ (k : ℕ). places.behind k CODE_BASE / INSTRUCTION_BYTES) address ∙ index;
        bytes = omega arith;
        count = (let same : start_at stand.chunk + stand.end - (start_at stand.chunk + stand.offset) ≡ stand.end - stand.offset = omega arith in ap (λ (k : ℕ). k / 4) (sym same));
        inside = (let last = laid.code_inside stand.chunk (chunk_code file number code) in omega arith);
        whole = λ some.
            (let in_chunk = chunk_code file number code in
            let base = aligned stand.chunk in_chunk (omega arith) in
            let parts = there.lies.whole in_chunk in
            let first = parts.0 in
            let last = parts.1 in
            (omega arith, omega arith));
      }

  -- two statements of which one ends before the other begins
  apart_by : (file number other_file other : ℕ) → IsThere file number → IsThere other_file other
      → CODE_BASE ≤ start_at (stand_here file number).chunk → CODE_BASE ≤ start_at (stand_here other_file other).chunk
      → ((stand_here file number).chunk ≡ (stand_here other_file other).chunk → (stand_here file number).end ≤ (stand_here other_file other).offset)
      → (end_at file number ≤ begin_at other_file other) ⊎ (end_at other_file other ≤ begin_at file number)
  apart_by file number other_file other one two low_one low_two ordered =
      let a : Stand = stand_here file number in
      let b : Stand = stand_here other_file other in
      let ends_a = one.lies.ends in
      let ends_b = two.lies.ends in
      let differ : ((a.chunk ≡ b.chunk) → ⊥) → (end_at file number ≤ begin_at other_file other) ⊎ (end_at other_file other ≤ begin_at file number) =
      λ d. elim (laid.apart a.chunk b.chunk d low_one low_two) [
        | inl before ↦ inl (omega arith)
        | inr after ↦ inr (omega arith)
      ] in
      elim (cases_lt a.chunk b.chunk) [
        | inl less ↦ differ (λ same. absurd (omega arith))
        | inr rest ↦ (elim (cases_lt b.chunk a.chunk) [
          | inl more ↦ differ (λ same. absurd (omega arith))
          | inr both ↦
              (let same : a.chunk ≡ b.chunk = omega arith in
              let behind = ordered same in
              let base : start_at a.chunk ≡ start_at b.chunk = ap (λ (k : ℕ). start_at k) same in
              inl (omega arith))
        ])
      ]

  -- so that no instruction is of both
  never : (file number other_file other n : ℕ) (s t : StatementParts) → IsAmong late file number s n → IsAmong late other_file other t n
      → ((stand_here file number).chunk ≡ (stand_here other_file other).chunk → (stand_here file number).end ≤ (stand_here other_file other).offset) → ⊥
  never file number other_file other n s t h k ordered =
      let at = is_at file number s h.there h.code in
      let there = is_at other_file other t k.there k.code in
      let from_one = h.from in
      let to_one = h.to in
      let from_two = k.from in
      let to_two = k.to in
      let index_one = at.index in
      let count_one = at.count in
      let index_two = there.index in
      let count_two = there.count in
      elim (apart_by file number other_file other (is_there file number s h.there) (is_there other_file other t k.there) (code_low file number (is_there file number s h.there) h.code) (code_low other_file other (is_there other_file other t k.there) k.code) ordered) [
        | inl before ↦ clash (begin_at file number) (end_at file number) (begin_at other_file other) (end_at other_file other) n at.low at.forward before there.forward (omega arith) (omega arith)
        | inr after ↦ clash (begin_at other_file other) (end_at other_file other) (begin_at file number) (end_at file number) n there.low there.forward after at.forward (omega arith) (omega arith)
      ]

  -- of two statements of a file, the earlier one
  never_later : (file number other n : ℕ) (s t : StatementParts) → number < other → IsAmong late file number s n → IsAmong late file other t n → ⊥
  never_later file number other n s t less h k =
      let there = is_there file other t k.there in
      never file number file other n s t h k (stretch.ordered file there.file_less number other less there.less)

  -- of two files, the earlier one
  never_in : (file number other_file other n : ℕ) (s t : StatementParts) → file < other_file → IsAmong late file number s n → IsAmong late other_file other t n → ⊥
  never_in file number other_file other n s t less h k =
      let one = is_there file number s h.there in
      let two = is_there other_file other t k.there in
      let lower = stretch.apart file other_file less two.file_less number other one.less two.less in
      never file number other_file other n s t h k (λ same. absurd (omega arith))

  same_file : (file number other n : ℕ) (s t : StatementParts) → IsAmong late file number s n → IsAmong late file other t n → other ≡ number
  same_file file number other n s t h k =
      elim (cases_lt number other) [
        | inl less ↦ absurd (never_later file number other n s t less h k)
        | inr rest ↦ (elim (cases_lt other number) [
          | inl more ↦ absurd (never_later file other number n t s more k h)
          | inr both ↦ omega arith
        ])
      ]

  pub one_statement : (file number n : ℕ) (s : StatementParts) → IsAmong late file number s n → (other_file other : ℕ) (t : StatementParts) → IsAmong late other_file other t n
      → (other_file ≡ file) × (other ≡ number)
  one_statement file number n s h other_file other t k =
      elim (cases_lt file other_file) [
        | inl less ↦ absurd (never_in file number other_file other n s t less h k)
        | inr rest ↦ (elim (cases_lt other_file file) [
          | inl more ↦ absurd (never_in other_file other file number n t s more k h)
          | inr both ↦
              (let is : other_file ≡ file = omega arith in
              (is, same_file file number other n s t h (subst (λ (f : ℕ). IsAmong late f other t n) is k)))
        ])
      ]
