-- Chunks are small, and symbols end in theirs.
use Rattle.std.proofs.Common.{◌≡◌, ℕ, zero, suc, ◌+◌, ◌<◌, ◌≤◌, ◌==◌, ◌⊎◌, inl, inr, nat_lt, Bool, true, false, cond, List, [], ◌∷◌, ◌++◌, length, replicate, slice_get, slice_index_or, slice_set, Option, Some, None, Ok, Err, All, refl, sym, ap, ◌∙◌, subst, lit≤, arith}
use Rattle.std.proofs.lemmas.Bool.{cases_lt}
use Rattle.std.proofs.Math.ListN.{length-set}
use Rattle.std.proofs.lemmas.List.{get_or_past, length-append}
use Rattle.std.proofs.lemmas.List.Elements.{All-get_or, All-push, All-set, All-weaker}
use Rattle.std.proofs.lemmas.Bool.Decides.{nat_tests}
use Rattle.asm_layout.specs.declared.chunk.Chunk.{Chunk}
use Rattle.asm_layout.specs.declared.chunk.ChunkKind.{ChunkKind}
use Rattle.asm_layout.specs.declared.chunk.ChunkKind.TheVariants as kinds
use Rattle.asm_layout.specs.Placement.{rank}
use Rattle.asm_names.specs.declared.sections.SectionKind.{SectionKind}
use Rattle.asm_symbols.specs.declared.definitions.Meaning.{Meaning}
use Rattle.asm_symbols.specs.declared.definitions.Meaning.TheVariants.{Place, Assigned}
use Rattle.asm_symbols.specs.Definitions.{DefinitionParts, with_symbol}
use Rattle.asm_chunks.specs.declared.fault.ChunkFault.{ChunkFault}
use Rattle.asm_chunks.specs.declared.fault.ChunkFault.TheVariants as chunk_faults
use Rattle.asm_chunks.specs.declared.growth.TheConstants.{MAX_CHUNK}
use Rattle.asm_chunks.specs.Chunks.{ChunksParts, no_chunk, here_of, with_here, with_chunk, with_common}
use Rattle.asm_chunks.specs.Growth.{limit_of, with_size, grown, with_align, raised, padding_of, padded}
use Rattle.asm_chunks.specs.Sections.{opening_chunk, own_chunk, kind_of, kind_in, added, gone_to, entered_by, entered}
use Rattle.asm_drafts.specs.declared.names.TheConstants.{MAX_ALIGN}
use Rattle.asm_drafts.specs.Drafts.{DraftParts, with_chunks, with_symbols}
use Rattle.asm_drafts.specs.Names.{or_zero}

-- ---- lists

-- an item that was set, or as before
pub set_or : {X : Type 0} (xs : List X) (i : ℕ) (x : X) (n : ℕ) (d : X)
    → (slice_index_or (slice_set xs i x) n d ≡ slice_index_or xs n d) ⊎ ((n ≡ i) × (slice_index_or (slice_set xs i x) n d ≡ x))
set_or [] i x n d = inl refl
set_or (y ∷ xs) zero x zero d = inr (refl, refl)
set_or (y ∷ xs) zero x (suc n) d = inl refl
set_or (y ∷ xs) (suc i) x zero d = inl refl
set_or (y ∷ xs) (suc i) x (suc n) d =
    elim (set_or xs i x n d) [
      | inl same ↦ inl same
      | inr there ↦ inr (ap (λ k. suc k) there.0, there.1)
    ]

pub last_item : {X : Type 0} (xs : List X) (x d : X) → slice_index_or (xs ++ x ∷ []) (length xs) d ≡ x
last_item [] x d = refl
last_item (y ∷ xs) x d = last_item xs x d

-- an item of those that are all the same
pub repeated : {X : Type 0} (count n : ℕ) (x : X) → slice_index_or (replicate count x) n x ≡ x
repeated zero n x = refl
repeated (suc count) zero x = refl
repeated (suc count) (suc n) x = repeated count n x

-- an item that is there
pub found : {X : Type 0} (xs : List X) (number : ℕ) (x d : X) → slice_get xs number ≡ Some x → (number < length xs) × (slice_index_or xs number d ≡ x)
found [] number x d e = absurd (cc)
found (y ∷ xs) zero x d e = (omega arith, cc)
found (y ∷ xs) (suc number) x d e = let rest = found xs number x d e in let less = rest.0 in (omega arith, rest.1)

-- ---- sizes

pub record IsSmallChunk (chunk : Chunk) : Type 0 where
  pub size : chunk.size ≤ MAX_CHUNK
  pub align : chunk.align ≤ MAX_ALIGN

abbrev pub size_at : List Chunk → ℕ → ℕ
size_at chunks number = (slice_index_or chunks number no_chunk).size

-- chunks that have no fewer bytes than before
pub record Grows (before after : List Chunk) : Type 0 where
  pub more : (number : ℕ) → size_at before number ≤ size_at after number

-- a symbol's bytes end in its chunk; of one that is set nothing says how many it has
abbrev pub EndsIn : List Chunk → Option ℕ → Meaning → Type 0
EndsIn chunks bytes (Place chunk offset) = offset + or_zero bytes ≤ size_at chunks chunk
EndsIn chunks bytes (Assigned statement) = bytes ≡ None

pub record IsInChunk (chunks : List Chunk) (d : DefinitionParts) : Type 0 where
  pub ends : EndsIn chunks d.bytes d.meaning

pub record HasSizes (parts : DraftParts) : Type 0 where
  pub small : All IsSmallChunk parts.chunks.chunks
  pub inside : All (IsInChunk parts.chunks.chunks) parts.symbols.definitions

no_chunk_small : IsSmallChunk no_chunk
no_chunk_small = record { size = lit≤ tt; align = lit≤ tt }

pub chunk_small : (chunks : List Chunk) (number : ℕ) → All IsSmallChunk chunks → IsSmallChunk (slice_index_or chunks number no_chunk)
chunk_small chunks number h =
    elim (cases_lt number (length chunks)) [
      | inl within ↦ All-get_or IsSmallChunk chunks number no_chunk within h
      | inr past ↦ subst IsSmallChunk (sym (get_or_past chunks number no_chunk past)) no_chunk_small
    ]

ends_later : (before after : List Chunk) → Grows before after → (bytes : Option ℕ) (meaning : Meaning) → EndsIn before bytes meaning → EndsIn after bytes meaning
ends_later before after grows bytes (Place chunk offset) h = let more = grows.more chunk in omega arith
ends_later before after grows bytes (Assigned statement) h = h

inside_later : (before after : List Chunk) (ds : List DefinitionParts) → Grows before after → All (IsInChunk before) ds → All (IsInChunk after) ds
inside_later before after ds grows h =
    All-weaker (IsInChunk before) (IsInChunk after) (λ d k. record { ends = ends_later before after grows d.bytes d.meaning k.ends }) ds h

pub set_grows : (chunks : List Chunk) (at : ℕ) (chunk : Chunk) → size_at chunks at ≤ chunk.size → Grows chunks (slice_set chunks at chunk)
set_grows chunks at chunk more =
    record {
      more = λ number. elim (set_or chunks at chunk number no_chunk) [
        | inl same ↦ (let is : size_at (slice_set chunks at chunk) number ≡ size_at chunks number = ap (λ (c : Chunk). c.size) same in omega arith)
        | inr there ↦
            (let is : size_at (slice_set chunks at chunk) number ≡ chunk.size = ap (λ (c : Chunk). c.size) there.1 in
            let at_is : size_at chunks number ≡ size_at chunks at = ap (size_at chunks) there.0 in
            omega arith)
      ];
    }

push_size : (chunks : List Chunk) (chunk : Chunk) (number : ℕ) → size_at chunks number ≤ size_at (chunks ++ chunk ∷ []) number
push_size [] chunk number = omega arith
push_size (c ∷ chunks) chunk zero = omega arith
push_size (c ∷ chunks) chunk (suc number) = push_size chunks chunk number

pub push_grows : (chunks : List Chunk) (chunk : Chunk) → Grows chunks (chunks ++ chunk ∷ [])
push_grows chunks chunk = record { more = λ number. push_size chunks chunk number }

-- ---- what steps keep

module _ (parts : DraftParts) (h : HasSizes parts) where
  -- other sizes and alignments of the chunk that the file goes on in
  here_kept : (chunk : Chunk) → IsSmallChunk chunk → (here_of parts.chunks).size ≤ chunk.size → HasSizes (with_chunks parts (with_here parts.chunks chunk))
  unfolding with_here
  here_kept chunk small more =
      record {
        small = All-set IsSmallChunk parts.chunks.chunks parts.chunks.here chunk small h.small;
        inside = inside_later parts.chunks.chunks (slice_set parts.chunks.chunks parts.chunks.here chunk) parts.symbols.definitions (set_grows parts.chunks.chunks parts.chunks.here chunk more) h.inside;
      }

  here_small : IsSmallChunk (here_of parts.chunks)
  here_small = chunk_small parts.chunks.chunks parts.chunks.here h.small

  pub raised_sizes : (unit : ℕ) → unit ≤ MAX_ALIGN → HasSizes (with_chunks parts (raised parts.chunks unit))
  unfolding raised
  raised_sizes unit small =
      let align = here_small.align in
      let most : (with_align (here_of parts.chunks) unit).align ≤ MAX_ALIGN = omega arith in
      here_kept (with_align (here_of parts.chunks) unit) (record { size = here_small.size; align = most }) (omega arith)

  -- the same chunks
  pub moved_sizes : (chunks : ChunksParts) → parts.chunks.chunks ≡ chunks.chunks → HasSizes (with_chunks parts chunks)
  moved_sizes chunks is =
      record {
        small = subst (All IsSmallChunk) is h.small;
        inside = subst (λ (cs : List Chunk). All (IsInChunk cs) parts.symbols.definitions) is h.inside;
      }

  -- one more
  pub pushed_sizes : (chunks : ChunksParts) (chunk : Chunk) → IsSmallChunk chunk → parts.chunks.chunks ++ chunk ∷ [] ≡ chunks.chunks → HasSizes (with_chunks parts chunks)
  pushed_sizes chunks chunk small is =
      let smalls = All-push IsSmallChunk parts.chunks.chunks chunk h.small small in
      let insides = inside_later parts.chunks.chunks (parts.chunks.chunks ++ chunk ∷ []) parts.symbols.definitions (push_grows parts.chunks.chunks chunk) h.inside in
      record {
        small = subst (All IsSmallChunk) is smalls;
        inside = subst (λ (cs : List Chunk). All (IsInChunk cs) parts.symbols.definitions) is insides;
      }

  -- one more symbol
  pub defined_sizes : (d : DefinitionParts) → EndsIn parts.chunks.chunks d.bytes d.meaning → HasSizes (with_symbols parts (with_symbol parts.symbols d))
  defined_sizes d ends =
      record { small = h.small; inside = All-push (IsInChunk parts.chunks.chunks) parts.symbols.definitions d h.inside (record { ends = ends }) }

limit_small : (kind : ChunkKind) → limit_of kind ≤ MAX_CHUNK
limit_small kinds.Code = lit≤ tt
limit_small _ = omega arith

-- chunks that grew: the one where the file goes on has so many bytes more, and no more than it may have
pub record IsGrown (before after : ChunksParts) (count : ℕ) : Type 0 where
  pub most : (here_of before).size + count ≤ limit_of (here_of before).kind
  pub is : with_here before (with_size (here_of before) ((here_of before).size + count)) ≡ after

grown_by : (past : Bool) (before after : ChunksParts) (count : ℕ) → nat_lt (limit_of (here_of before).kind) ((here_of before).size + count) ≡ past
    → cond past (Err chunk_faults.Size) (Ok (with_here before (with_size (here_of before) ((here_of before).size + count)))) ≡ Ok after
    → IsGrown before after count
grown_by true before after count t e = absurd (cc)
grown_by false before after count t e =
    let is : with_here before (with_size (here_of before) ((here_of before).size + count)) ≡ after = cc in
    let most : (here_of before).size + count ≤ limit_of (here_of before).kind = grind (arith, nat_tests) in
    record { most = most; is = is }

pub is_grown : (before after : ChunksParts) (count : ℕ) → grown before count ≡ Ok after → IsGrown before after count
unfolding grown
is_grown before after count e = grown_by _ before after count refl e

pub grown_sizes : (parts : DraftParts) (count : ℕ) (chunks : ChunksParts) → HasSizes parts → grown parts.chunks count ≡ Ok chunks → HasSizes (with_chunks parts chunks)
grown_sizes parts count chunks h e =
    let g = is_grown parts.chunks chunks count e in
    let most = g.most in
    let limit = limit_small (here_of parts.chunks).kind in
    let few : (here_of parts.chunks).size + count ≤ MAX_CHUNK = omega arith in
    subst (λ (cs : ChunksParts). HasSizes (with_chunks parts cs)) g.is
    (here_kept parts h (with_size (here_of parts.chunks) ((here_of parts.chunks).size + count)) (record { size = few; align = (here_small parts h).align }) (omega arith))

here_length : (before : ChunksParts) (chunk : Chunk) → length (with_here before chunk).chunks ≡ length before.chunks
unfolding with_here
here_length before chunk = length-set before.chunks before.here chunk

pub raised_length : (before : ChunksParts) (unit : ℕ) → length (raised before unit).chunks ≡ length before.chunks
unfolding raised
raised_length before unit = here_length before (with_align (here_of before) unit)

pub grown_length : (before after : ChunksParts) (count : ℕ) → grown before count ≡ Ok after → length after.chunks ≡ length before.chunks
grown_length before after count e =
    let g = is_grown before after count e in
    sym (ap (λ (c : ChunksParts). length c.chunks) g.is) ∙ here_length before (with_size (here_of before) ((here_of before).size + count))

pub padded_length : (before after : ChunksParts) (unit : ℕ) (most : Option ℕ) → padded before unit most ≡ Ok after → length after.chunks ≡ length before.chunks
unfolding padded
padded_length before after unit most e =
    grown_length (raised before unit) after (padding_of (here_of before) unit most) e ∙ raised_length before unit

pub padded_sizes : (parts : DraftParts) (unit : ℕ) (most : Option ℕ) (chunks : ChunksParts) → unit ≤ MAX_ALIGN → HasSizes parts → padded parts.chunks unit most ≡ Ok chunks
    → HasSizes (with_chunks parts chunks)
unfolding padded
padded_sizes parts unit most chunks small h e =
    grown_sizes (with_chunks parts (raised parts.chunks unit)) (padding_of (here_of parts.chunks) unit most) chunks (raised_sizes parts h unit small) e

-- ---- sections

pub opening_small : (kind : ChunkKind) → IsSmallChunk (opening_chunk kind)
opening_small kinds.Code = record { size = lit≤ tt; align = lit≤ tt }
opening_small _ = record { size = lit≤ tt; align = lit≤ tt }

-- a chunk that was entered: one of those that there are, or one more in a section that had none
pub data Enters (before after : ChunksParts) (section : ℕ) : Type 0 where
  again : before.chunks ≡ after.chunks → before.own ≡ after.own → Enters before after section
  begins : (kind : ChunkKind) → slice_index_or before.own section None ≡ None → before.chunks ++ opening_chunk kind ∷ [] ≡ after.chunks
      → slice_set before.own section (Some (length before.chunks)) ≡ after.own → Enters before after section

again_by : (test : Bool) (parts after : ChunksParts) (section number : ℕ) (fault : ChunkFault) → cond test (Ok (gone_to parts number)) (Err fault) ≡ Ok after
    → Enters parts after section
again_by true parts after section number fault e =
    let is : gone_to parts number ≡ after = cc in again (ap (λ (c : ChunksParts). c.chunks) is) (ap (λ (c : ChunksParts). c.own) is)
again_by false parts after section number fault e = absurd (cc)

own_enters : (parts after : ChunksParts) (section : ℕ) (kind : ChunkKind) (own : Option ℕ) → own_chunk parts section ≡ own → entered_by parts section kind own ≡ Ok after
    → Enters parts after section
unfolding added
own_enters parts after section kind (Some number) o e = again_by (rank (kind_of parts number) == rank kind) parts after section number chunk_faults.Section e
own_enters parts after section kind None o e =
    let is : gone_to (added parts section kind) (length parts.chunks) ≡ after = cc in
    begins kind o (ap (λ (c : ChunksParts). c.chunks) is) (ap (λ (c : ChunksParts). c.own) is)

pub enters : (parts after : ChunksParts) (section : ℕ) (flags : Option SectionKind) (named : SectionKind) → entered parts section flags named ≡ Ok after → Enters parts after section
unfolding entered
enters parts after section flags named e = own_enters parts after section (kind_in parts section flags named) (own_chunk parts section) refl e

pub entered_length : (before after : ChunksParts) (section : ℕ) → Enters before after section → length after.chunks ≤ length before.chunks + 1
entered_length before after section (again is own) = let same : length after.chunks ≡ length before.chunks = ap length (sym is) in omega arith
entered_length before after section (begins kind none is own) =
    let same : length after.chunks ≡ length (before.chunks ++ opening_chunk kind ∷ []) = ap length (sym is) in
    let longer : length (before.chunks ++ opening_chunk kind ∷ []) ≡ length before.chunks + 1 = length-append before.chunks (opening_chunk kind ∷ []) in
    omega arith

pub entered_sizes : (parts : DraftParts) (chunks : ChunksParts) (section : ℕ) → HasSizes parts → Enters parts.chunks chunks section → HasSizes (with_chunks parts chunks)
entered_sizes parts chunks section h (again is own) = moved_sizes parts h chunks is
entered_sizes parts chunks section h (begins kind none is own) = pushed_sizes parts h chunks (opening_chunk kind) (opening_small kind) is

-- ---- common symbols

pub common_sizes : (parts : DraftParts) (size align : ℕ) (d : DefinitionParts) → HasSizes parts → size ≤ MAX_CHUNK → align ≤ MAX_ALIGN
    → d.meaning ≡ Place (length parts.chunks.chunks) 0 → d.bytes ≡ Some size
    → HasSizes (with_symbols (with_chunks parts (with_chunk parts.chunks (with_common size align))) (with_symbol parts.symbols d))
common_sizes parts size align d h few small m b =
    let more : DraftParts = with_chunks parts (with_chunk parts.chunks (with_common size align)) in
    let there : HasSizes more = pushed_sizes parts h (with_chunk parts.chunks (with_common size align)) (with_common size align) (record { size = few; align = small }) refl in
    let last : size_at (parts.chunks.chunks ++ with_common size align ∷ []) (length parts.chunks.chunks) ≡ size =
    ap (λ (c : Chunk). c.size) (last_item parts.chunks.chunks (with_common size align) no_chunk) in
    let end : EndsIn more.chunks.chunks (Some size) (Place (length parts.chunks.chunks) 0) = omega arith in
    let by_bytes : EndsIn more.chunks.chunks d.bytes (Place (length parts.chunks.chunks) 0) = subst (λ (o : Option ℕ). EndsIn more.chunks.chunks o (Place (length parts.chunks.chunks) 0)) (sym b) end in
    defined_sizes more there d (subst (λ (k : Meaning). EndsIn more.chunks.chunks d.bytes k) (sym m) by_bytes)
