-- Chunks of code begin at addresses of instructions.
use Rattle.std.proofs.Common.{◌≡◌, ℕ, ◌%◌, ◌<◌, ◌≤◌, ◌==◌, inl, inr, max, Bool, true, false, cond, List, [], ◌∷◌, length, slice_index_or, Ok, All, ap, ◌∙◌, subst, arith}
use Rattle.std.specs.Prelude.{◌&&◌}
use Rattle.std.proofs.lemmas.Bool.Decides.{nat_tests}
use Rattle.asm_tokens.specs.Faults.{◌>>=◌}
use Rattle.asm_layout.specs.declared.chunk.Chunk.{Chunk}
use Rattle.asm_layout.specs.declared.chunk.ChunkKind.{ChunkKind}
use Rattle.asm_layout.specs.declared.chunk.ChunkKind.TheVariants as kinds
use Rattle.asm_layout.specs.Placement.{rank, alignment_of, PlacementParts, start_of, placed, placed_if, all_placed}
use Rattle.asm_layout.specs.Layout.{opening, at_memory, code_placed, memory_placed, layout_of}
use Rattle.asm_chunks.specs.Chunks.{no_chunk}
use Rattle.asm_files.specs.Programs.{ProgramParts}
use Rattle.asm_links.specs.Order.{order_of}
use Rattle.asm_links.specs.Sections.{sections_judged}
use Rattle.asm_links.specs.Seen.{seen_of}
use Rattle.asm_tables.specs.Tables.{table_of}
use Rattle.asm_late.specs.Linked.{LinkedParts, linked_with, linked_of}
use Rattle.asm_listable.proofs.Starts.{then_ok}
use Rattle.asm_promises.proofs.Sizes.{set_or, repeated, size_at}
use Rattle.asm_promises.proofs.Units.{next_whole}
use Rattle.asm_promises.proofs.Stretches.{IsCode, IsWholeChunk, chunk_whole}

-- each chunk of code that has an instruction begins at one's address
abbrev pub AreAligned : List Chunk → List ℕ → Type 0
AreAligned chunks addresses =
    (number : ℕ) → IsCode (slice_index_or chunks number no_chunk) → 0 < size_at chunks number → slice_index_or addresses number 0 % 4 ≡ 0

max_four : (align : ℕ) → 4 ≤ align → align % 4 ≡ 0 → (0 < max align 1) × (max align 1 % 4 ≡ 0)
max_four align least four = let is : max align 1 ≡ align = omega arith in (omega arith, ap (λ (k : ℕ). k % 4) is ∙ four)

unit_by : (one two : Bool) (align : ℕ) → two ≡ false → 4 ≤ align → align % 4 ≡ 0 → (0 < cond (one && two) 1 (max align 1)) × (cond (one && two) 1 (max align 1) % 4 ≡ 0)
unit_by one true align t least four = absurd (cc)
unit_by true false align t least four = max_four align least four
unit_by false false align t least four = max_four align least four

unit_whole : (chunk : Chunk) → IsWholeChunk chunk → IsCode chunk → 0 < chunk.size → (0 < alignment_of chunk) × (alignment_of chunk % 4 ≡ 0)
unfolding alignment_of
unit_whole chunk h code some =
    let whole = h code in
    let none : (chunk.size == 0) ≡ false = grind (arith, nat_tests) in
    unit_by (rank chunk.kind == 0) (chunk.size == 0) chunk.align none whole.2 whole.1

module _ (chunks : List Chunk) (whole : All IsWholeChunk chunks) where
  placed_aligned : (p : PlacementParts) (number : ℕ) → AreAligned chunks p.addresses → AreAligned chunks (placed p number (slice_index_or chunks number no_chunk)).addresses
  unfolding placed
  placed_aligned p number h n code some =
      let chunk : Chunk = slice_index_or chunks number no_chunk in
      elim (set_or p.addresses number (start_of p chunk) n 0) [
        | inl same ↦ ap (λ (k : ℕ). k % 4) same ∙ h n code some
        | inr there ↦
            (let code_here : IsCode chunk = subst (λ (k : ℕ). IsCode (slice_index_or chunks k no_chunk)) there.0 code in
            let some_here : 0 < chunk.size = subst (λ (k : ℕ). 0 < size_at chunks k) there.0 some in
            let unit = unit_whole chunk (chunk_whole chunks number whole) code_here some_here in
            ap (λ (k : ℕ). k % 4) there.1 ∙ next_whole p.end (alignment_of chunk) unit.0 unit.1)
      ]

  if_aligned : (test : Bool) (p : PlacementParts) (number : ℕ) → AreAligned chunks p.addresses
      → AreAligned chunks (cond test (placed p number (slice_index_or chunks number no_chunk)) p).addresses
  if_aligned true p number h = placed_aligned p number h
  if_aligned false p number h = h

  all_aligned : (kind : ChunkKind) (order : List ℕ) (p : PlacementParts) → AreAligned chunks p.addresses → AreAligned chunks (all_placed kind chunks p order).addresses
  unfolding placed_if
  all_aligned kind [] p h = h
  all_aligned kind (number ∷ order) p h = all_aligned kind order (placed_if kind chunks p number) (if_aligned _ p number h)

  opening_aligned : AreAligned chunks (opening (length chunks)).addresses
  opening_aligned number code some = ap (λ (k : ℕ). k % 4) (repeated (length chunks) number 0)

  layout_aligned : (order : List ℕ) (entries : ℕ) → AreAligned chunks (layout_of chunks order entries).addresses
  unfolding layout_of code_placed memory_placed
  layout_aligned order entries =
      let coded : PlacementParts = all_placed kinds.Code chunks (opening (length chunks)) order in
      let begin : PlacementParts = at_memory entries coded in
      let read : PlacementParts = all_placed kinds.ReadOnly chunks begin order in
      let written : PlacementParts = all_placed kinds.ReadWrite chunks read order in
      let zeros : PlacementParts = all_placed kinds.Zeros chunks written order in
      let at_code : AreAligned chunks begin.addresses = all_aligned kinds.Code order (opening (length chunks)) opening_aligned in
      all_aligned kinds.Common order zeros
      (all_aligned kinds.Zeros order written (all_aligned kinds.ReadWrite order read (all_aligned kinds.ReadOnly order begin at_code)))

pub linked_aligned : (program : ProgramParts) (exits : Bool) (linked : LinkedParts) → All IsWholeChunk program.made.chunks → linked_of program exits ≡ Ok linked
    → AreAligned program.made.chunks linked.layout.addresses
unfolding linked_of linked_with
linked_aligned program exits linked whole e =
    let x = then_ok (seen_of program) (λ seen. sections_judged program >>= λ u. Ok (linked_with program exits seen)) linked e in
    let y = then_ok (sections_judged program) (λ u. Ok (linked_with program exits x.0)) linked x.2 in
    let is : linked_with program exits x.0 ≡ linked = (let k = y.2 in cc) in
    subst (λ (l : LinkedParts). AreAligned program.made.chunks l.layout.addresses) is
    (layout_aligned program.made.chunks whole (order_of program) (length (table_of program x.0).symbols))
