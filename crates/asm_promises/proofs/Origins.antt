-- Each instruction of a program has its origin.
use Rattle.std.proofs.Common.{◌≡◌, ℕ, suc, ◌+◌, ◌≤◌, ◌<◌, ◌^◌, ◌==◌, Bool, true, false, cond, List, [], ◌∷◌, length, Option, Some, None, Ok, refl, sym, ap, ◌∙◌, arith}
use Rattle.std.specs.Prelude.{replicate, slice_set}
use Rattle.std.proofs.Math.ListN.{length-set}
use Rattle.std.proofs.lemmas.List.{length-replicate}
use Rattle.cheri_model.specs.runs.Image.{ImageParts}
use Rattle.asm_memory.specs.Memory.{listed_below}
use Rattle.asm_layout.specs.declared.chunk.ChunkKind.TheVariants.{Code}
use Rattle.asm_layout.specs.Placement.{rank}
use Rattle.asm_statements.specs.Statements.{StatementParts}
use Rattle.asm_files.specs.Programs.{FileParts}
use Rattle.asm_late.specs.Late.{LateParts}
use Rattle.asm_instructions.specs.declared.origin.Origin.{Origin}
use Rattle.asm_instructions.specs.Overwriting.{overwritten}
use Rattle.asm_instructions.specs.Origins.{marked, filled}
use Rattle.asm_code.specs.Standing.{stand_of, kind_of, index_of}
use Rattle.asm_code.specs.Beginning.{steps_from, origin_of, count_of, statement_marked, file_marked, all_marked, room_of, code_begun}
use Rattle.asm_pictures.specs.Asked.{HartsParts}
use Rattle.asm_pictures.specs.Image.{total, program_with}
use Rattle.asm_image.specs.Whole.{AssembledParts, assembly_meaning}
use Rattle.asm_promises.specs.Origins.{late_in}
use Rattle.asm_promises.proofs.Steps.{steps_of}
use Rattle.asm_promises.proofs.Given.{made_of}
use Rattle.asm_promises.proofs.Late.{program_read}
use Rattle.asm_promises.proofs.Instructions.{code_length, code_origins}
use Rattle.asm_promises.proofs.Runs.{few, total_least, with_length}

over_length : {A : Type 0} (xs : List A) (items : List A) (at : ℕ) → length (overwritten items at xs) ≡ length items
unfolding overwritten
over_length [] items at = refl
over_length (x ∷ xs) items at = over_length xs (slice_set items at x) (at + 1) ∙ length-set items at x

pub steps_length : {X : Type 0} (step : ℕ → X → List (Option Origin) → List (Option Origin)) → ((n : ℕ) (x : X) (s : List (Option Origin)) → length (step n x s) ≡ length s)
    → (n : ℕ) (xs : List X) (s : List (Option Origin)) → length (steps_from step n xs s) ≡ length s
unfolding steps_from
steps_length step same n [] s = refl
steps_length step same n (x ∷ xs) s = steps_length step same (n + 1) xs (step n x s) ∙ same n x s

filled_length : (marks : List (Option Origin)) → length (filled marks) ≡ length marks
unfolding filled
filled_length [] = refl
filled_length (mark ∷ rest) = ap (λ n. suc n) (filled_length rest)

module _ (late : LateParts) where
  marked_by : (test : Bool) (marks : List (Option Origin)) (at count : ℕ) (origin : Origin) → length (cond test (marked marks at count origin) marks) ≡ length marks
  unfolding marked
  marked_by true marks at count origin = over_length (replicate count (Some origin)) marks at
  marked_by false marks at count origin = refl

  pub statement_length : (file n : ℕ) (s : StatementParts) (marks : List (Option Origin)) → length (statement_marked late file n s marks) ≡ length marks
  unfolding statement_marked
  statement_length file n s marks =
      marked_by (rank (kind_of late file n) == rank Code) marks (index_of late file n) (count_of (stand_of late file n)) (origin_of late file n s)

  pub file_length : (n : ℕ) (f : FileParts) (marks : List (Option Origin)) → length (file_marked late n f marks) ≡ length marks
  unfolding file_marked
  file_length n f marks = steps_length (statement_marked late n) (λ k s ms. statement_length n k s ms) 0 f.statements marks

  pub begun_length : length (code_begun late).origins ≡ room_of late
  unfolding code_begun all_marked
  begun_length =
      filled_length (steps_from (file_marked late) 0 late.program.files (replicate (room_of late) None))
      ∙ (steps_length (file_marked late) (λ n f ms. file_length n f ms) 0 late.program.files (replicate (room_of late) None) ∙ length-replicate (room_of late) None)

pub origins_counted : (texts : List (List ℕ)) (harts : HartsParts) (a : AssembledParts) → assembly_meaning texts harts ≡ Ok a
    → length a.image.program ≡ total (length a.origins) a.exit
origins_counted texts harts a e =
    let s = steps_of texts harts a e in
    let read = program_read texts a.program s.read in
    let low : total a.linked.instructions a.exit ≤ 16384 = few a.linked.instructions a.exit a.linked.layout.memory_end s.judged in
    let least : a.linked.instructions ≤ total a.linked.instructions a.exit = total_least a.linked.instructions a.exit in
    let small : total a.linked.instructions a.exit < 2 ^ 63 = omega arith in
    let code_is : length s.contents.code.instructions ≡ room_of (late_in a) =
    code_length (late_in a) (total a.linked.instructions a.exit) least small s.contents read.files s.contents_is in
    let origins_are : s.contents.code.origins ≡ a.origins = s.origins in
    let begun : s.contents.code.origins ≡ _ = code_origins (late_in a) (total a.linked.instructions a.exit) least small s.contents read.files s.contents_is in
    let same : length s.contents.code.instructions ≡ length a.origins =
    code_is ∙ sym (sym (ap (λ os. length os) origins_are) ∙ (ap (λ os. length os) begun ∙ begun_length (late_in a))) in
    let made = made_of (program_with s.contents.code.instructions a.exit) s.ram (listed_below s.ram s.contents.memory) s.opened.images a.image s.image in
    let program_is : length (program_with s.contents.code.instructions a.exit) ≡ length a.image.program = ap (λ (i : ImageParts). length i.program) made.parts in
    sym program_is ∙ (with_length s.contents.code.instructions a.exit ∙ ap (λ n. total n a.exit) same)
