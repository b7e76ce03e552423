-- Whether a file goes on in code, before and after what is put there.
use Rattle.std.proofs.Common.{◌≡◌, ℕ, ◌+◌, ◌%◌, ◌==◌, inl, inr, true, false, List, Result, Ok, Err, refl, ap, ◌∙◌, subst}
use Rattle.canonical.proofs.round_trip.Ranges.{test_false}
use Rattle.asm_tokens.specs.declared.fault.AsmFaultKind.TheVariants as faults
use Rattle.asm_tokens.specs.Tokens.{TokenParts}
use Rattle.asm_expressions.specs.Tokens.{fault_at}
use Rattle.asm_layout.specs.declared.chunk.ChunkKind.TheVariants.{Code}
use Rattle.asm_chunks.specs.declared.fault.ChunkFault.{ChunkFault}
use Rattle.asm_layout.specs.declared.chunk.Chunk.{Chunk}
use Rattle.asm_layout.specs.declared.chunk.ChunkKind.{ChunkKind}
use Rattle.asm_layout.specs.Placement.{rank}
use Rattle.asm_chunks.specs.Chunks.{ChunksParts, no_chunk, here_of, with_here}
use Rattle.asm_chunks.specs.Growth.{with_size, grown, with_align, raised}
use Rattle.asm_drafts.specs.Drafts.{DraftParts, with_chunks, is_here, after_chunks, grown_at}
use Rattle.asm_drafts.specs.Bytes.{unless_code}
use Rattle.asm_promises.proofs.Sizes.{set_or, is_grown}

-- so many bytes are whole instructions, where they are put into code
abbrev pub IsWhole : DraftParts → ℕ → Type 0
IsWhole parts count = is_here parts Code ≡ true → count % 4 ≡ 0

pub here_kind : (before : ChunksParts) (chunk : Chunk) → chunk.kind ≡ (here_of before).kind → (here_of (with_here before chunk)).kind ≡ (here_of before).kind
unfolding with_here
here_kind before chunk same =
    elim (set_or before.chunks before.here chunk before.here no_chunk) [
      | inl kept ↦ ap (λ (c : Chunk). c.kind) kept
      | inr there ↦ ap (λ (c : Chunk). c.kind) there.1 ∙ same
    ]

pub here_same : (parts : DraftParts) (chunks : ChunksParts) → (here_of chunks).kind ≡ (here_of parts.chunks).kind → is_here (with_chunks parts chunks) Code ≡ is_here parts Code
unfolding is_here
here_same parts chunks same = ap (λ (k : ChunkKind). rank k == rank Code) same

pub raised_same : (parts : DraftParts) (unit : ℕ) → is_here (with_chunks parts (raised parts.chunks unit)) Code ≡ is_here parts Code
unfolding raised
raised_same parts unit = here_same parts (with_here parts.chunks (with_align (here_of parts.chunks) unit)) (here_kind parts.chunks (with_align (here_of parts.chunks) unit) refl)

pub grown_by : (tokens : List TokenParts) (at count : ℕ) (parts after : DraftParts) (r : Result ChunksParts ChunkFault) → grown parts.chunks count ≡ r
    → after_chunks tokens at parts r ≡ Ok after → is_here after Code ≡ is_here parts Code
grown_by tokens at count parts after (Ok chunks) g e =
    let is : with_chunks parts chunks ≡ after = cc in
    let how = is_grown parts.chunks chunks count g in
    let kind : (here_of chunks).kind ≡ (here_of parts.chunks).kind =
    subst (λ (c : ChunksParts). (here_of c).kind ≡ (here_of parts.chunks).kind) how.is (here_kind parts.chunks (with_size (here_of parts.chunks) ((here_of parts.chunks).size + count)) refl) in
    subst (λ (d : DraftParts). is_here d Code ≡ is_here parts Code) is (here_same parts chunks kind)
grown_by tokens at count parts after (Err fault) g e = absurd (cc)

pub grown_same : (tokens : List TokenParts) (at count : ℕ) (parts after : DraftParts) → grown_at tokens at count parts ≡ Ok after → is_here after Code ≡ is_here parts Code
unfolding grown_at
grown_same tokens at count parts after e = grown_by tokens at count parts after (grown parts.chunks count) refl e

pub code_refused : (tokens : List TokenParts) (parts : DraftParts) (at : ℕ) (u : Unit {0}) → unless_code tokens parts at ≡ Ok u → is_here parts Code ≡ false
unfolding unless_code
code_refused tokens parts at u e = (test_false (is_here parts Code) (Ok tt) (fault_at tokens faults.Section at) u e).0
