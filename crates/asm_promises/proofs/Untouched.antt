-- Chunks of code stay where they are while memory is laid out.
use Rattle.std.proofs.Common.{◌≡◌, ℕ, ◌<◌, ◌==◌, nat_lt, inl, inr, Bool, true, false, cond, List, [], ◌∷◌, length, slice_index_or, refl, ◌∙◌, subst, lit<, arith}
use Rattle.std.specs.Prelude.{◌&&◌}
use Rattle.std.proofs.lemmas.Bool.{and_parts}
use Rattle.std.proofs.lemmas.Bool.Decides.{nat_tests}
use Rattle.asm_layout.specs.declared.chunk.Chunk.{Chunk}
use Rattle.asm_layout.specs.declared.chunk.ChunkKind.{ChunkKind}
use Rattle.asm_layout.specs.declared.chunk.ChunkKind.TheVariants as kinds
use Rattle.asm_layout.specs.Placement.{rank, PlacementParts, start_of, placed, placed_if, all_placed}
use Rattle.asm_layout.specs.Layout.{memory_placed}
use Rattle.asm_chunks.specs.Chunks.{no_chunk}
use Rattle.asm_promises.proofs.Sizes.{set_or}

pub two_ranks : (r k : ℕ) → (r == k) ≡ true → (r == 0) ≡ true → 0 < k → ⊥
two_ranks r k other code some =
    let is : r ≡ k = grind (arith, nat_tests) in
    let none : r ≡ 0 = grind (arith, nat_tests) in
    absurd (omega arith)

module _ (chunks : List Chunk) where
  abbrev kind_rank : ℕ → ℕ
  kind_rank number = rank (slice_index_or chunks number no_chunk).kind

  abbrev IsCodeAt : ℕ → Type 0
  IsCodeAt number = (kind_rank number == rank kinds.Code) ≡ true

  abbrev place_of : PlacementParts → ℕ → ℕ
  place_of p number = slice_index_or p.addresses number 0

  if_same : (test : Bool) (kind : ChunkKind) (p : PlacementParts) (number n : ℕ) → (nat_lt number (length chunks) && (kind_rank number == rank kind)) ≡ test → 0 < rank kind → IsCodeAt n
      → place_of (cond test (placed p number (slice_index_or chunks number no_chunk)) p) n ≡ place_of p n
  unfolding placed
  if_same false kind p number n t some code = refl
  if_same true kind p number n t some code =
      elim (set_or p.addresses number (start_of p (slice_index_or chunks number no_chunk)) n 0) [
        | inl same ↦ same
        | inr there ↦
            (let other : (kind_rank number == rank kind) ≡ true = (and_parts (nat_lt number (length chunks)) (kind_rank number == rank kind) t).1 in
            let here : (kind_rank number == 0) ≡ true = subst (λ (k : ℕ). IsCodeAt k) there.0 code in
            absurd (two_ranks (kind_rank number) (rank kind) other here some))
      ]

  all_same : (kind : ChunkKind) (order : List ℕ) (p : PlacementParts) (n : ℕ) → 0 < rank kind → IsCodeAt n → place_of (all_placed kind chunks p order) n ≡ place_of p n
  unfolding placed_if
  all_same kind [] p n some code = refl
  all_same kind (number ∷ order) p n some code =
      all_same kind order (placed_if kind chunks p number) n some code ∙ if_same _ kind p number n refl some code

  pub memory_keeps : (order : List ℕ) (p : PlacementParts) (n : ℕ) → IsCodeAt n → place_of (memory_placed chunks order p) n ≡ place_of p n
  unfolding memory_placed
  memory_keeps order p n code =
      let read : PlacementParts = all_placed kinds.ReadOnly chunks p order in
      let written : PlacementParts = all_placed kinds.ReadWrite chunks read order in
      let zeros : PlacementParts = all_placed kinds.Zeros chunks written order in
      all_same kinds.Common order zeros n (lit< tt) code
      ∙ (all_same kinds.Zeros order written n (lit< tt) code ∙ (all_same kinds.ReadWrite order read n (lit< tt) code ∙ all_same kinds.ReadOnly order p n (lit< tt) code))
