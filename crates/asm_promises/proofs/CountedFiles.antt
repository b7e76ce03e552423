-- Instructions of all files have bytes for the instructions that they stand for.
use Rattle.std.proofs.Common.{◌≡◌, ℕ, ◌+◌, ◌<◌, inl, inr, List, [], ◌∷◌, ◌++◌, length, slice_get, slice_index_or, Option, Some, None, Ok, refl, sym, ap, subst, arith}
use Rattle.std.proofs.lemmas.List.{length-append}
use Rattle.asm_layout.specs.declared.chunk.Chunk.{Chunk}
use Rattle.asm_tokens.specs.Tokens.{TokenParts}
use Rattle.asm_chunks.specs.Sections.{begun, added}
use Rattle.asm_statements.specs.Statements.{StatementParts}
use Rattle.asm_files.specs.declared.stand.Stand.{Stand}
use Rattle.asm_files.specs.Faults.{of_file}
use Rattle.asm_files.specs.Steps.{each_from}
use Rattle.asm_files.specs.Sections.{SectionsParts}
use Rattle.asm_files.specs.Programs.{FileParts, MadeParts, ProgramParts, no_stand, statements_or_none, statement_at, stand_in}
use Rattle.asm_files.specs.Files.{ReadingParts, statement_step, statements_put, begun_draft, file_begun, file_ended, file_put, no_made, made_of}
use Rattle.asm_listable.proofs.Starts.{then_ok}
use Rattle.asm_promises.proofs.Coverage.{KeepsKinds}
use Rattle.asm_promises.proofs.Reading.{Phases, each_listed}
use Rattle.asm_promises.proofs.Sound.{of_file_ok}
use Rattle.asm_promises.proofs.Sizes.{found}
use Rattle.asm_promises.proofs.Locals.{no_file}
use Rattle.asm_promises.proofs.NamesOfFiles.{no_statement}
use Rattle.asm_promises.proofs.Stretches.{IsCounted, stands_here}
use Rattle.asm_promises.proofs.StretchesOfFiles.{item_of, stand_at, stands_at, Stretches, step_stretches, code_before, begun_goes, FilesStretch, none_stretch, step_files}

-- ---- a file

abbrev s_at : List StatementParts → ℕ → StatementParts
s_at statements number = slice_index_or statements number no_statement

-- each of a file's statements
abbrev AreCounted : List Chunk → List StatementParts → List Stand → Type 0
AreCounted chunks statements stands = (k : ℕ) → k < length statements → IsCounted chunks (s_at statements k) (stand_at stands k)

counted_same : (chunks : List Chunk) (s t : StatementParts) (a b : Stand) → s ≡ t → a ≡ b → IsCounted chunks s a → IsCounted chunks t b
counted_same chunks s t a b p q h = subst (λ (x : StatementParts). IsCounted chunks x b) p (subst (λ (x : Stand). IsCounted chunks s x) q h)

counted_later : (before after : List Chunk) (s : StatementParts) (stand : Stand) → KeepsKinds before after → stand.chunk < length before → IsCounted before s stand → IsCounted after s stand
counted_later before after s stand keeps less h at operation b code = h at operation b (code_before before after stand.chunk keeps less code)

record CountedFile (first : List Chunk) (done : List StatementParts) (reading : ReadingParts) : Type 0 where
  stretches : Stretches first reading
  count : length reading.stands ≡ length done
  each : AreCounted reading.draft.chunks.chunks done reading.stands

step_counted : (sections : SectionsParts) (tokens : List TokenParts) (first : List Chunk) (done : List StatementParts) (s : StatementParts) (before after : ReadingParts)
    → CountedFile first done before → statement_step sections tokens (length done) s before ≡ Ok after → CountedFile first (done ++ s ∷ []) after
step_counted sections tokens first done s before after h e =
    let x = stands_here sections tokens (length first) first (length done) s before after h.stretches.goes e in
    let stand : Stand = x.stand in
    let old : List Chunk = before.draft.chunks.chunks in
    let new : List Chunk = after.draft.chunks.chunks in
    let count = h.count in
    let longer : length (done ++ s ∷ []) ≡ length done + 1 = length-append done (s ∷ []) in
    let more : length (before.stands ++ stand ∷ []) ≡ length before.stands + 1 = length-append before.stands (stand ∷ []) in
    let all : length (before.stands ++ stand ∷ []) ≡ length after.stands = ap (λ (ss : List Stand). length ss) x.stands in
    record {
      stretches = step_stretches sections tokens first (length done) s before after h.stretches e;
      count = omega arith;
      each = λ k less. elim (item_of done s no_statement (done ++ s ∷ []) refl k less) [
        | inl earlier ↦ (elim (item_of before.stands stand no_stand after.stands x.stands k (omega arith)) [
          | inl there ↦
              (let within = (h.stretches.lie k there.0).chunk.1 in
              counted_same new (s_at done k) (s_at (done ++ s ∷ []) k) (stand_at before.stands k) (stand_at after.stands k) earlier.1 there.1
              (counted_later old new (s_at done k) (stand_at before.stands k) x.goes.kinds within (h.each k earlier.0)))
          | inr past ↦ (let at = past.0 in let few = earlier.0 in absurd (omega arith))
        ])
        | inr last ↦ (elim (item_of before.stands stand no_stand after.stands x.stands k (omega arith)) [
          | inl there ↦ (let at = last.0 in let few = there.0 in absurd (omega arith))
          | inr here ↦ counted_same new s (s_at (done ++ s ∷ []) k) stand (stand_at after.stands k) last.1 here.1 x.counted
        ])
      ];
    }

file_counted : (sections : SectionsParts) (number : ℕ) (file : FileParts) (made after : MadeParts) → FilesStretch made → file_put sections number file made ≡ Ok after
    → (reading : ReadingParts) × (file_ended made reading ≡ after) × CountedFile made.chunks file.statements reading
unfolding file_put statements_put file_begun begun added
file_counted sections number file made after h e =
    let first : ReadingParts = record { draft = begun_draft sections.count number made; stands = [] } in
    let x = then_ok (of_file number (each_from (statement_step sections file.tokens) 0 file.statements first)) (λ reading. Ok (file_ended made reading)) after e in
    let stretches : Stretches made.chunks first = record { goes = begun_goes sections.count made.chunks h.whole; lie = λ k less. absurd (omega arith); ordered = λ j k less few. absurd (omega arith) } in
    let start : CountedFile made.chunks [] first = record { stretches = stretches; count = refl; each = λ k less. absurd (omega arith) } in
    let all : CountedFile made.chunks file.statements x.0 =
    each_listed (λ done reading. CountedFile made.chunks done reading) (statement_step sections file.tokens) (λ done s p q k f. step_counted sections file.tokens made.chunks done s p q k f) [] file.statements first x.0 start
    (of_file_ok number (each_from (statement_step sections file.tokens) 0 file.statements first) x.0 x.1) in
    (x.0, (let k = x.2 in cc), all)

-- ---- all files

abbrev AreFileCounted : List Chunk → FileParts → List Stand → Type 0
AreFileCounted chunks file stands = AreCounted chunks file.statements stands

record CountedFiles (files : List FileParts) (made : MadeParts) : Type 0 where
  stretch : FilesStretch made
  count : length made.stands ≡ length files
  lengths : (file : ℕ) → file < length files → length (stands_at made file) ≡ length (slice_index_or files file no_file).statements
  each : (file : ℕ) → file < length files → AreFileCounted made.chunks (slice_index_or files file no_file) (stands_at made file)

abbrev HaveLengths : FileParts → List Stand → Type 0
HaveLengths file stands = length stands ≡ length file.statements

file_same : (P : FileParts → List Stand → Type 0) (f g : FileParts) (a b : List Stand) → f ≡ g → a ≡ b → P f a → P g b
file_same P f g a b p q h = subst (λ (x : FileParts). P x b) p (subst (λ (x : List Stand). P f x) q h)

all_counted : (sections : SectionsParts) (done : List FileParts) (file : FileParts) (made after : MadeParts) → CountedFiles done made
    → file_put sections (length done) file made ≡ Ok after → CountedFiles (done ++ file ∷ []) after
unfolding file_ended
all_counted sections done file made after h e =
    let x = file_counted sections (length done) file made after h.stretch e in
    let reading : ReadingParts = x.0 in
    let next : MadeParts = file_ended made reading in
    let of = x.2 in
    let kinds : KeepsKinds made.chunks next.chunks = of.stretches.goes.kinds in
    let count = h.count in
    let longer : length (done ++ file ∷ []) ≡ length done + 1 = length-append done (file ∷ []) in
    let more : length (made.stands ++ reading.stands ∷ []) ≡ length made.stands + 1 = length-append made.stands (reading.stands ∷ []) in
    let each_file : (P : FileParts → List Stand → Type 0) → ((k : ℕ) → k < length done → P (slice_index_or done k no_file) (stands_at made k)) → P file reading.stands
    → (k : ℕ) → k < length (done ++ file ∷ []) → P (slice_index_or (done ++ file ∷ []) k no_file) (stands_at next k) =
    λ P old new k less. elim (item_of done file no_file (done ++ file ∷ []) refl k less) [
      | inl earlier ↦ (elim (item_of made.stands reading.stands [] next.stands refl k (omega arith)) [
        | inl there ↦ file_same P (slice_index_or done k no_file) (slice_index_or (done ++ file ∷ []) k no_file) (stands_at made k) (stands_at next k) earlier.1 there.1 (old k earlier.0)
        | inr past ↦ (let at = past.0 in let few = earlier.0 in absurd (omega arith))
      ])
      | inr last ↦ (elim (item_of made.stands reading.stands [] next.stands refl k (omega arith)) [
        | inl there ↦ (let at = last.0 in let few = there.0 in absurd (omega arith))
        | inr here ↦ file_same P file (slice_index_or (done ++ file ∷ []) k no_file) reading.stands (stands_at next k) last.1 here.1 new
      ])
    ] in
    let kept : (k : ℕ) → k < length done → AreFileCounted next.chunks (slice_index_or done k no_file) (stands_at made k) =
    λ k less j few.
    (let long = h.lengths k less in
    let within = (h.stretch.lie k (omega arith) j (omega arith)).chunk.1 in
    counted_later made.chunks next.chunks (s_at (slice_index_or done k no_file).statements j) (stand_at (stands_at made k) j) kinds within (h.each k less j few)) in
    subst (CountedFiles (done ++ file ∷ [])) x.1
    (record {
      stretch = subst FilesStretch (sym x.1) (step_files sections (length done) file made after h.stretch e);
      count = omega arith;
      lengths = each_file HaveLengths h.lengths of.count;
      each = each_file (AreFileCounted next.chunks) kept of.each;
    })

files_counted : (sections : SectionsParts) (files : List FileParts) (made : MadeParts) → made_of sections files ≡ Ok made → CountedFiles files made
unfolding made_of
files_counted sections files made e =
    each_listed CountedFiles (file_put sections) (λ done f p q h g. all_counted sections done f p q h g) [] files no_made made
    (record { stretch = none_stretch; count = refl; lengths = λ k less. absurd (omega arith); each = λ k less. absurd (omega arith) }) e

-- an instruction of a program that is read
counted_by : (program : ProgramParts) (file number : ℕ) (s : StatementParts) (o : Option FileParts) → CountedFiles program.files program.made → slice_get program.files file ≡ o
    → slice_get (statements_or_none o) number ≡ Some s → IsCounted program.made.chunks s (stand_at (stands_at program.made file) number)
counted_by program file number s (Some f) h g e =
    let in_files = found program.files file f no_file g in
    let in_file = found f.statements number s no_statement e in
    let all : AreFileCounted program.made.chunks f (stands_at program.made file) =
    file_same (AreFileCounted program.made.chunks) (slice_index_or program.files file no_file) f (stands_at program.made file) (stands_at program.made file) in_files.1 refl (h.each file in_files.0) in
    counted_same program.made.chunks (s_at f.statements number) s (stand_at (stands_at program.made file) number) (stand_at (stands_at program.made file) number) in_file.1 refl (all number in_file.0)
counted_by program file number s None h g e = absurd (cc)

pub statement_counted : (texts : List (List ℕ)) (program : ProgramParts) (file number : ℕ) (s : StatementParts) → Phases texts program → statement_at program file number ≡ Some s
    → IsCounted program.made.chunks s (stand_in program file number)
unfolding statement_at stand_in
statement_counted texts program file number s phases e =
    counted_by program file number s (slice_get program.files file) (files_counted _ program.files program.made phases.made) refl e
