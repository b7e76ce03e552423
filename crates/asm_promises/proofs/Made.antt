-- What files make: small chunks, symbols that end in theirs, and no more chunks than statements.
use Rattle.std.proofs.Common.{◌≡◌, ℕ, ◌+◌, ◌*◌, ◌≤◌, List, [], ◌∷◌, ◌++◌, length, Ok, All, refl, subst, lit≤, arith}
use Rattle.std.proofs.lemmas.List.{length-append}
use Rattle.std.proofs.lemmas.List.Elements.{All-nil, All-cons}
use Rattle.asm_layout.specs.declared.chunk.ChunkKind.TheVariants as kinds
use Rattle.asm_tokens.specs.Tokens.{TokenParts}
use Rattle.asm_chunks.specs.Chunks.{with_common}
use Rattle.asm_chunks.specs.Sections.{opening_chunk, begun, added}
use Rattle.asm_statements.specs.declared.statement.Body.{Body}
use Rattle.asm_statements.specs.Statements.{StatementParts}
use Rattle.asm_drafts.specs.declared.sections.Entry.{Entry}
use Rattle.asm_drafts.specs.Drafts.{DraftParts}
use Rattle.asm_files.specs.declared.texts.TheConstants.{MAX_FILE}
use Rattle.asm_files.specs.Faults.{of_file}
use Rattle.asm_files.specs.Steps.{each_from}
use Rattle.asm_files.specs.Stands.{statement_stood}
use Rattle.asm_files.specs.Sections.{SectionsParts, entry_of}
use Rattle.asm_files.specs.Programs.{FileParts, MadeParts}
use Rattle.asm_files.specs.Files.{ReadingParts, with_stand, statement_step, statements_put, begun_draft, file_begun, file_ended, file_put, no_made, made_of}
use Rattle.asm_listable.proofs.Starts.{then_ok}
use Rattle.asm_promises.proofs.Reading.{none_more, each_numbered, IsFile}
use Rattle.asm_promises.proofs.Sound.{of_file_ok}
use Rattle.asm_promises.proofs.Walk.{LabelsKeep, BodyKeeps, stood_keeps}
use Rattle.asm_promises.proofs.Sizes.{IsSmallChunk, IsInChunk, HasSizes, raised_sizes, moved_sizes, pushed_sizes, defined_sizes, grown_sizes, padded_sizes, raised_length, grown_length, padded_length, enters, entered_length, entered_sizes, common_sizes, opening_small}

-- ---- sizes

-- with no more chunks than this
pub record AreSized (most : ℕ) (parts : DraftParts) : Type 0 where
  pub sizes : HasSizes parts
  pub few : length parts.chunks.chunks ≤ most

labels_sized : (tokens : List TokenParts) (most : ℕ) → LabelsKeep tokens (λ at. Unit {0}) (AreSized most)
labels_sized tokens most =
    record {
      local = λ parts at l h. record { sizes = record { small = h.sizes.small; inside = h.sizes.inside }; few = h.few };
      name = λ parts at l n free h. record { sizes = defined_sizes parts h.sizes _ (omega arith); few = h.few };
    }

body_sized : (tokens : List TokenParts) (body : Body) (entry : Entry) (most : ℕ) → BodyKeeps tokens body entry (AreSized most) (AreSized (most + 1))
body_sized tokens body entry most =
    record {
      kept = λ parts h. (let few = h.few in record { sizes = h.sizes; few = omega arith });
      entered = λ parts flags chunks h e.
          (let there = enters parts.chunks chunks entry.section flags entry.named e in
          let few = h.few in
          let more = entered_length parts.chunks chunks entry.section there in
          record { sizes = entered_sizes parts chunks entry.section h.sizes there; few = omega arith });
      back = λ parts h. (let few = h.few in record { sizes = moved_sizes parts h.sizes _ refl; few = omega arith });
      set = λ parts at number early b free h. (let few = h.few in record { sizes = defined_sizes parts h.sizes _ refl; few = omega arith });
      common = λ parts at size align b few small free h.
          (let before = h.few in
          let longer : length (parts.chunks.chunks ++ with_common size align ∷ []) ≡ length parts.chunks.chunks + 1 = length-append parts.chunks.chunks (with_common size align ∷ []) in
          record { sizes = common_sizes parts size align _ h.sizes few small refl refl; few = omega arith });
      wanted = λ parts name h. record { sizes = record { small = h.sizes.small; inside = h.sizes.inside }; few = h.few };
      grown = λ parts count chunks whole h e.
          (let few = h.few in let same = grown_length parts.chunks chunks count e in
          record { sizes = grown_sizes parts count chunks h.sizes e; few = omega arith });
      padded = λ parts unit most chunks small is h e.
          (let few = h.few in let same = padded_length parts.chunks chunks unit most e in
          record { sizes = padded_sizes parts unit most chunks small h.sizes e; few = omega arith });
      raised = λ parts h.
          (let few = h.few in let same = raised_length parts.chunks 16 in
          record { sizes = raised_sizes parts h.sizes 16 (lit≤ tt); few = omega arith });
    }

step_sized : (sections : SectionsParts) (tokens : List TokenParts) (most number : ℕ) (s : StatementParts) (reading after : ReadingParts) → AreSized most reading.draft
    → statement_step sections tokens number s reading ≡ Ok after → AreSized (most + 1) after.draft
unfolding statement_step
step_sized sections tokens most number s reading after h e =
    let x = then_ok (statement_stood tokens reading.draft number s (entry_of sections tokens s)) (λ next. Ok (with_stand reading next)) after e in
    let is : with_stand reading x.0 ≡ after = (let k = x.2 in cc) in
    subst (λ (r : ReadingParts). AreSized (most + 1) r.draft) is
    (stood_keeps tokens s (entry_of sections tokens s) (λ at. Unit {0}) (AreSized most) (AreSized (most + 1)) (labels_sized tokens most) (body_sized tokens s.body (entry_of sections tokens s) most)
    (λ k less. tt) reading.draft number x.0 h x.1)

-- ---- files

-- a file has one chunk more than statements at most, that of its code
abbrev pub MOST : ℕ
MOST = MAX_FILE + 2

pub record IsSized (count : ℕ) (made : MadeParts) : Type 0 where
  pub small : All IsSmallChunk made.chunks
  pub inside : All (IsInChunk made.chunks) made.symbols
  pub few : length made.chunks ≤ count * MOST
  pub rows : length made.rows ≡ count

begun_sized : (count number : ℕ) (made : MadeParts) → IsSized number made → AreSized (number * MOST + 1) (begun_draft count number made)
unfolding begun added
begun_sized count number made h =
    let few = h.few in
    let longer : length (made.chunks ++ opening_chunk kinds.Code ∷ []) ≡ length made.chunks + 1 = length-append made.chunks (opening_chunk kinds.Code ∷ []) in
    let before : DraftParts = record (begun_draft count number made) { chunks = record { chunks = made.chunks; own = []; here = 0; before = 0 } } in
    let sizes : HasSizes before = record { small = h.small; inside = h.inside } in
    record { sizes = pushed_sizes before sizes (begun_draft count number made).chunks (opening_chunk kinds.Code) (opening_small kinds.Code) refl; few = omega arith }

all_units : {X : Type 0} (xs : List X) → All (λ (x : X). Unit {0}) xs
all_units [] = All-nil (λ x. Unit {0})
all_units (x ∷ xs) = All-cons (λ x. Unit {0}) x xs tt (all_units xs)

file_sized : (sections : SectionsParts) (number : ℕ) (file : FileParts) (made after : MadeParts) → IsFile file → IsSized number made
    → file_put sections number file made ≡ Ok after → IsSized (number + 1) after
unfolding file_put statements_put file_begun file_ended
file_sized sections number file made after r h e =
    let first : ReadingParts = record { draft = begun_draft sections.count number made; stands = [] } in
    let x = then_ok (of_file number (each_from (statement_step sections file.tokens) 0 file.statements first)) (λ reading. Ok (file_ended made reading)) after e in
    let Holds : ℕ → ReadingParts → Type 0 = λ m reading. AreSized (number * MOST + 1 + m) reading.draft in
    let none : number * MOST + 1 ≡ number * MOST + 1 + 0 = omega arith in
    let start : AreSized (number * MOST + 1 + 0) first.draft = subst (λ (n : ℕ). AreSized n first.draft) none (begun_sized sections.count number made h) in
    let sized : AreSized (number * MOST + 1 + (0 + length file.statements)) x.0.draft =
    each_numbered (λ s. Unit {0}) Holds (statement_step sections file.tokens)
    (λ n s p q u k f. (let next = step_sized sections file.tokens (number * MOST + 1 + n) n s p q k f in
    let same : number * MOST + 1 + n + 1 ≡ number * MOST + 1 + (n + 1) = omega arith in subst (λ (m : ℕ). AreSized m q.draft) same next))
    0 file.statements first x.0 (all_units file.statements) start (of_file_ok number (each_from (statement_step sections file.tokens) 0 file.statements first) x.0 x.1) in
    let is : file_ended made x.0 ≡ after = (let k = x.2 in cc) in
    let short = r.few in
    let few = sized.few in
    let rows = h.rows in
    let longer : length (made.rows ++ x.0.draft.chunks.own ∷ []) ≡ length made.rows + 1 = length-append made.rows (x.0.draft.chunks.own ∷ []) in
    subst (IsSized (number + 1)) is (record { small = sized.sizes.small; inside = sized.sizes.inside; few = omega arith; rows = omega arith })

pub made_sized : (sections : SectionsParts) (files : List FileParts) (made : MadeParts) → All IsFile files → made_of sections files ≡ Ok made → IsSized (length files) made
unfolding made_of
made_sized sections files made r e =
    subst (λ (n : ℕ). IsSized n made) (none_more (length files)) (each_numbered IsFile IsSized (file_put sections) (λ n f p q k h g. file_sized sections n f p q k h g) 0 files no_made made r
    (record { small = All-nil IsSmallChunk; inside = All-nil (IsInChunk []); few = omega arith; rows = refl }) e)
