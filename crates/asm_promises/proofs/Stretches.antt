-- Where the statements of a file stand: in chunks of its own, each behind those before it there.
use Rattle.std.proofs.Common.{◌≡◌, ℕ, zero, suc, ◌+◌, ◌*◌, ◌%◌, ◌<◌, ◌≤◌, ◌==◌, inl, inr, Bool, true, false, cond, List, [], ◌∷◌, ◌++◌, length, slice_get, slice_index_or, slice_set, Option, Some, None, Ok, Err, All, refl, sym, ap, ◌∙◌, subst, lit≤, arith}
use Rattle.std.proofs.Math.ListN.{length-set}
use Rattle.std.proofs.lemmas.Bool.{cases_lt}
use Rattle.std.proofs.lemmas.List.{length-append, get_or_past}
use Rattle.std.proofs.lemmas.List.Elements.{All-get_or, All-push, All-set}
use Rattle.asm_layout.specs.declared.chunk.Chunk.{Chunk}
use Rattle.asm_layout.specs.declared.chunk.ChunkKind.{ChunkKind}
use Rattle.asm_layout.specs.declared.chunk.ChunkKind.TheVariants as kinds
use Rattle.asm_layout.specs.declared.chunk.ChunkKind.TheVariants.{Code}
use Rattle.asm_layout.specs.Placement.{rank}
use Rattle.asm_names.specs.declared.sections.SectionKind.{SectionKind}
use Rattle.asm_tokens.specs.Faults.{◌>>=◌}
use Rattle.asm_tokens.specs.Tokens.{TokenParts}
use Rattle.asm_chunks.specs.declared.fault.ChunkFault.{ChunkFault}
use Rattle.asm_chunks.specs.declared.fault.ChunkFault.TheVariants as chunk_faults
use Rattle.asm_chunks.specs.Chunks.{ChunksParts, no_chunk, here_of, with_here, with_chunk, with_common}
use Rattle.asm_chunks.specs.Growth.{with_size, grown, with_align, raised, padding_of, padded}
use Rattle.asm_chunks.specs.Sections.{opening_chunk, own_chunk, kind_of, kind_in, added, gone_to, entered_by, entered}
use Rattle.asm_expansions.specs.declared.operation.Operation.{Operation}
use Rattle.asm_statements.specs.declared.statement.Body.{Body}
use Rattle.asm_statements.specs.declared.statement.Body.TheVariants as bodies
use Rattle.asm_statements.specs.Statements.{StatementParts}
use Rattle.asm_drafts.specs.declared.sections.Entry.{Entry}
use Rattle.asm_drafts.specs.Drafts.{DraftParts, is_here}
use Rattle.asm_drafts.specs.Kept.{kept_number}
use Rattle.asm_drafts.specs.Labels.{labels_put}
use Rattle.asm_drafts.specs.Code.{count_of}
use Rattle.asm_drafts.specs.Statements.{body_of, body_put}
use Rattle.asm_files.specs.declared.stand.Stand.{Stand}
use Rattle.asm_files.specs.Sections.{SectionsParts, entry_of}
use Rattle.asm_files.specs.Stands.{size_or_none, opening_of, closing_of, statement_stood}
use Rattle.asm_files.specs.Files.{ReadingParts, with_stand, statement_step}
use Rattle.asm_listable.proofs.Starts.{then_ok}
use Rattle.asm_promises.proofs.Units.{IsUnit, padding_whole, most_four}
use Rattle.asm_promises.proofs.Counted.{kept_none, instruction_sized}
use Rattle.asm_promises.proofs.Here.{here_kind}
use Rattle.asm_promises.proofs.Walk.{LabelsKeep, BodyKeeps, labels_keep, body_keeps}
use Rattle.asm_promises.proofs.Coverage.{KeepsKinds, set_kinds, push_kinds, then_kinds}
use Rattle.asm_promises.proofs.Sizes.{set_or, size_at, Grows, set_grows, push_grows, is_grown}

-- ---- chunks of code

abbrev pub IsCode : Chunk → Type 0
IsCode chunk = (rank chunk.kind == rank Code) ≡ true

-- a chunk of code has whole instructions, and an alignment that leaves them so
abbrev pub IsWholeChunk : Chunk → Type 0
IsWholeChunk chunk = IsCode chunk → (chunk.size % 4 ≡ 0) × (chunk.align % 4 ≡ 0) × (4 ≤ chunk.align)

pub chunk_whole : (chunks : List Chunk) (number : ℕ) → All IsWholeChunk chunks → IsWholeChunk (slice_index_or chunks number no_chunk)
chunk_whole chunks number h =
    elim (cases_lt number (length chunks)) [
      | inl within ↦ All-get_or IsWholeChunk chunks number no_chunk within h
      | inr past ↦ subst IsWholeChunk (sym (get_or_past chunks number no_chunk past)) (λ code. absurd (cc))
    ]

pub opening_whole : (kind : ChunkKind) → IsWholeChunk (opening_chunk kind)
opening_whole kinds.Code code = (refl, refl, lit≤ tt)
opening_whole kinds.ReadOnly code = absurd (cc)
opening_whole kinds.ReadWrite code = absurd (cc)
opening_whole kinds.Zeros code = absurd (cc)
opening_whole kinds.Common code = absurd (cc)
opening_whole kinds.Dropped code = absurd (cc)

raised_whole : (chunk : Chunk) (unit : ℕ) → IsUnit unit → IsWholeChunk chunk → IsWholeChunk (with_align chunk unit)
raised_whole chunk unit is h code =
    let whole = h code in
    let least = whole.2 in
    (whole.0, most_four chunk.align unit whole.1 least is, omega arith)

sized_whole : (chunk : Chunk) (count : ℕ) → (IsCode chunk → count % 4 ≡ 0) → IsWholeChunk chunk → IsWholeChunk (with_size chunk (chunk.size + count))
sized_whole chunk count more h code =
    let whole = h code in
    let size = whole.0 in
    let add = more code in
    (omega arith, whole.1, whole.2)

-- ---- chunks of a file's own

-- one of the chunks that there are, from the one of a number on
abbrev pub IsOwn : ℕ → List Chunk → ℕ → Type 0
IsOwn start chunks number = (start ≤ number) × (number < length chunks)

pub own_later : (start : ℕ) (before after : List Chunk) (number : ℕ) → length before ≤ length after → IsOwn start before number → IsOwn start after number
own_later start before after number longer h = let less = h.1 in (h.0, omega arith)

-- a file goes on in chunks of its own; chunks keep their kinds, have no fewer bytes than before, and whole instructions
pub record GoesOn (start : ℕ) (first : List Chunk) (chunks : ChunksParts) : Type 0 where
  pub here : IsOwn start chunks.chunks chunks.here
  pub before : IsOwn start chunks.chunks chunks.before
  pub own : (section number : ℕ) → slice_index_or chunks.own section None ≡ Some number → IsOwn start chunks.chunks number
  pub kinds : KeepsKinds first chunks.chunks
  pub grows : Grows first chunks.chunks
  pub whole : All IsWholeChunk chunks.chunks

pub then_grows : (a b c : List Chunk) → Grows a b → Grows b c → Grows a c
then_grows a b c h k = record { more = λ number. (let one = h.more number in let two = k.more number in omega arith) }

module _ (start : ℕ) (first : List Chunk) where
  -- another chunk in the place of the one where the file is
  here_goes : (parts : ChunksParts) (chunk : Chunk) → chunk.kind ≡ (here_of parts).kind → (here_of parts).size ≤ chunk.size → IsWholeChunk chunk → GoesOn start first parts
      → GoesOn start first (with_here parts chunk)
  unfolding with_here
  here_goes parts chunk kind more whole h =
      let same : length (slice_set parts.chunks parts.here chunk) ≡ length parts.chunks = length-set parts.chunks parts.here chunk in
      let longer : length parts.chunks ≤ length (slice_set parts.chunks parts.here chunk) = omega arith in
      record {
        here = own_later start parts.chunks (slice_set parts.chunks parts.here chunk) parts.here longer h.here;
        before = own_later start parts.chunks (slice_set parts.chunks parts.here chunk) parts.before longer h.before;
        own = λ section number e. own_later start parts.chunks (slice_set parts.chunks parts.here chunk) number longer (h.own section number e);
        kinds = then_kinds first parts.chunks (slice_set parts.chunks parts.here chunk) h.kinds (set_kinds parts.chunks parts.here chunk kind);
        grows = then_grows first parts.chunks (slice_set parts.chunks parts.here chunk) h.grows (set_grows parts.chunks parts.here chunk more);
        whole = All-set IsWholeChunk parts.chunks parts.here chunk whole h.whole;
      }

  here_whole : (parts : ChunksParts) → GoesOn start first parts → IsWholeChunk (here_of parts)
  here_whole parts h = chunk_whole parts.chunks parts.here h.whole

  raised_goes : (parts : ChunksParts) (unit : ℕ) → IsUnit unit → GoesOn start first parts → GoesOn start first (raised parts unit)
  unfolding raised
  raised_goes parts unit is h = here_goes parts (with_align (here_of parts) unit) refl (omega arith) (raised_whole (here_of parts) unit is (here_whole parts h)) h

  grown_goes : (parts after : ChunksParts) (count : ℕ) → (IsCode (here_of parts) → count % 4 ≡ 0) → GoesOn start first parts → grown parts count ≡ Ok after → GoesOn start first after
  grown_goes parts after count more h e =
      let g = is_grown parts after count e in
      subst (GoesOn start first) g.is
      (here_goes parts (with_size (here_of parts) ((here_of parts).size + count)) refl (omega arith) (sized_whole (here_of parts) count more (here_whole parts h)) h)

  raised_code : (parts : ChunksParts) (unit : ℕ) → IsCode (here_of (raised parts unit)) → IsCode (here_of parts)
  unfolding raised
  raised_code parts unit code = ap (λ (k : ChunkKind). rank k == rank Code) (sym (here_kind parts (with_align (here_of parts) unit) refl)) ∙ code

  padded_goes : (parts after : ChunksParts) (unit : ℕ) (most : Option ℕ) → IsUnit unit → GoesOn start first parts → padded parts unit most ≡ Ok after → GoesOn start first after
  unfolding padded
  padded_goes parts after unit most is h e =
      grown_goes (raised parts unit) after (padding_of (here_of parts) unit most)
      (λ code. padding_whole (here_of parts) unit most (here_whole parts h (raised_code parts unit code)).0 is) (raised_goes parts unit is h) e

  -- one more chunk
  pushed_goes : (parts : ChunksParts) (chunk : Chunk) → IsWholeChunk chunk → GoesOn start first parts → GoesOn start first (with_chunk parts chunk)
  pushed_goes parts chunk whole h =
      let long : length (parts.chunks ++ chunk ∷ []) ≡ length parts.chunks + 1 = length-append parts.chunks (chunk ∷ []) in
      let longer : length parts.chunks ≤ length (parts.chunks ++ chunk ∷ []) = omega arith in
      record {
        here = own_later start parts.chunks (parts.chunks ++ chunk ∷ []) parts.here longer h.here;
        before = own_later start parts.chunks (parts.chunks ++ chunk ∷ []) parts.before longer h.before;
        own = λ section number e. own_later start parts.chunks (parts.chunks ++ chunk ∷ []) number longer (h.own section number e);
        kinds = then_kinds first parts.chunks (parts.chunks ++ chunk ∷ []) h.kinds (push_kinds parts.chunks chunk);
        grows = then_grows first parts.chunks (parts.chunks ++ chunk ∷ []) h.grows (push_grows parts.chunks chunk);
        whole = All-push IsWholeChunk parts.chunks chunk h.whole whole;
      }

  again_goes : (test : Bool) (parts after : ChunksParts) (number : ℕ) (fault : ChunkFault) → IsOwn start parts.chunks number → GoesOn start first parts
      → cond test (Ok (gone_to parts number)) (Err fault) ≡ Ok after → GoesOn start first after
  again_goes true parts after number fault there h e =
      let is : gone_to parts number ≡ after = cc in
      subst (GoesOn start first) is (record { here = there; before = h.here; own = h.own; kinds = h.kinds; grows = h.grows; whole = h.whole })
  again_goes false parts after number fault there h e = absurd (cc)

  begins_goes : (parts : ChunksParts) (section : ℕ) (kind : ChunkKind) → GoesOn start first parts → GoesOn start first (gone_to (added parts section kind) (length parts.chunks))
  unfolding added
  begins_goes parts section kind h =
      let pushed = pushed_goes parts (opening_chunk kind) (opening_whole kind) h in
      let long : length (parts.chunks ++ opening_chunk kind ∷ []) ≡ length parts.chunks + 1 = length-append parts.chunks (opening_chunk kind ∷ []) in
      let from = h.here.0 in
      let less = h.here.1 in
      let last : IsOwn start (parts.chunks ++ opening_chunk kind ∷ []) (length parts.chunks) = (omega arith, omega arith) in
      record {
        here = last;
        before = pushed.here;
        own = λ other number e. elim (set_or parts.own section (Some (length parts.chunks)) other None) [
          | inl same ↦ pushed.own other number (sym same ∙ e)
          | inr there ↦
              (let both : Some (length parts.chunks) ≡ Some number = sym there.1 ∙ e in
              let is : length parts.chunks ≡ number = cc in
              subst (IsOwn start (parts.chunks ++ opening_chunk kind ∷ [])) is last)
        ];
        kinds = pushed.kinds;
        grows = pushed.grows;
        whole = pushed.whole;
      }

  by_own : (parts after : ChunksParts) (section : ℕ) (kind : ChunkKind) (own : Option ℕ) → own_chunk parts section ≡ own → GoesOn start first parts
      → entered_by parts section kind own ≡ Ok after → GoesOn start first after
  by_own parts after section kind (Some number) o h e =
      again_goes (rank (kind_of parts number) == rank kind) parts after number chunk_faults.Section (h.own section number o) h e
  by_own parts after section kind None o h e =
      let is : gone_to (added parts section kind) (length parts.chunks) ≡ after = cc in subst (GoesOn start first) is (begins_goes parts section kind h)

  entered_goes : (parts after : ChunksParts) (section : ℕ) (flags : Option SectionKind) (named : SectionKind) → GoesOn start first parts
      → entered parts section flags named ≡ Ok after → GoesOn start first after
  unfolding entered
  entered_goes parts after section flags named h e = by_own parts after section (kind_in parts section flags named) (own_chunk parts section) refl h e

  abbrev Goes : DraftParts → Type 0
  Goes parts = GoesOn start first parts.chunks

  body_goes : (tokens : List TokenParts) (body : Body) (entry : Entry) → BodyKeeps tokens body entry Goes Goes
  unfolding is_here
  body_goes tokens body entry =
      record {
        kept = λ parts h. h;
        entered = λ parts flags chunks h e. entered_goes parts.chunks chunks entry.section flags entry.named h e;
        back = λ parts h. record { here = h.before; before = h.here; own = h.own; kinds = h.kinds; grows = h.grows; whole = h.whole };
        set = λ parts at number early b free h. h;
        common = λ parts at size align b few small free h. pushed_goes parts.chunks (with_common size align) (λ code. absurd (cc)) h;
        wanted = λ parts name h. h;
        grown = λ parts count chunks whole h e. grown_goes parts.chunks chunks count whole h e;
        padded = λ parts unit most chunks small is h e. padded_goes parts.chunks chunks unit most is h e;
        raised = λ parts h. raised_goes parts.chunks 16 (inr refl) h;
      }

-- ---- a statement

none_grows : (chunks : List Chunk) → Grows chunks chunks
none_grows chunks = record { more = λ number. omega arith }

-- the same file, seen from here on
pub from_here : (start : ℕ) (first : List Chunk) (chunks : ChunksParts) → GoesOn start first chunks → GoesOn start chunks.chunks chunks
from_here start first chunks h = record { here = h.here; before = h.before; own = h.own; kinds = record { longer = omega arith; kinds = λ number less. refl }; grows = none_grows chunks.chunks; whole = h.whole }

size_found : (chunks : List Chunk) (number : ℕ) → size_or_none (slice_get chunks number) ≡ size_at chunks number
size_found [] number = refl
size_found (chunk ∷ chunks) zero = refl
size_found (chunk ∷ chunks) (suc number) = size_found chunks number

pub labels_same : (tokens : List TokenParts) (chunks : ChunksParts) → LabelsKeep tokens (λ at. Unit {0}) (λ d. chunks ≡ d.chunks)
labels_same tokens chunks = record { local = λ parts at l h. h; name = λ parts at l n free h. h }

-- an instruction of code takes the bytes of the instructions that it stands for, with the number that is kept of it
abbrev pub IsCounted : List Chunk → StatementParts → Stand → Type 0
IsCounted chunks s stand =
    (at : ℕ) (operation : Option Operation) → s.body ≡ bodies.Instruction at operation → IsCode (slice_index_or chunks stand.chunk no_chunk)
    → (stand.end ≡ stand.offset + 4 * count_of operation stand.value) × (slice_get s.operands 0 ≡ None → stand.value ≡ 0)

-- a statement stands where its chunk ended before it, up to where that ends after it
pub record StandsHere (start : ℕ) (s : StatementParts) (before after : ReadingParts) : Type 0 where
  pub stand : Stand
  pub stands : before.stands ++ stand ∷ [] ≡ after.stands
  pub chunk : stand.chunk ≡ before.draft.chunks.here
  pub offset : stand.offset ≡ size_at before.draft.chunks.chunks stand.chunk
  pub end : stand.end ≡ size_at after.draft.chunks.chunks stand.chunk
  pub goes : GoesOn start before.draft.chunks.chunks after.draft.chunks
  pub counted : IsCounted after.draft.chunks.chunks s stand

pub stands_here : (sections : SectionsParts) (tokens : List TokenParts) (start : ℕ) (first : List Chunk) (number : ℕ) (s : StatementParts) (before after : ReadingParts)
    → GoesOn start first before.draft.chunks → statement_step sections tokens number s before ≡ Ok after → StandsHere start s before after
unfolding statement_step statement_stood opening_of closing_of body_put
stands_here sections tokens start first number s before after h e =
    let entry : Entry = entry_of sections tokens s in
    let x = then_ok (statement_stood tokens before.draft number s entry) (λ next. Ok (with_stand before next)) after e in
    let y = then_ok (labels_put tokens s.first s.labels before.draft)
    (λ labelled. body_put tokens labelled number s entry >>= λ made. Ok (made, closing_of made (opening_of labelled (kept_number tokens labelled s)))) x.0 x.1 in
    let z = then_ok (body_put tokens y.0 number s entry) (λ made. Ok (made, closing_of made (opening_of y.0 (kept_number tokens y.0 s)))) x.0 y.2 in
    let stand : Stand = closing_of z.0 (opening_of y.0 (kept_number tokens y.0 s)) in
    let pair_is : (z.0, stand) ≡ x.0 = (let k = z.2 in cc) in
    let is : with_stand before (z.0, stand) ≡ after = ap (λ (n : DraftParts × Stand). with_stand before n) pair_is ∙ (let k = x.2 in cc) in
    let same : before.draft.chunks ≡ y.0.chunks =
    labels_keep tokens (λ at. Unit {0}) (λ d. before.draft.chunks ≡ d.chunks) (labels_same tokens before.draft.chunks) s.labels s.first before.draft y.0 (λ k less. tt) refl y.1 in
    let here : GoesOn start before.draft.chunks.chunks before.draft.chunks = from_here start first before.draft.chunks h in
    let labelled : GoesOn start before.draft.chunks.chunks y.0.chunks = subst (GoesOn start before.draft.chunks.chunks) same here in
    let goes : GoesOn start before.draft.chunks.chunks z.0.chunks =
    body_keeps tokens s entry (Goes start before.draft.chunks.chunks) (Goes start before.draft.chunks.chunks) (body_goes start before.draft.chunks.chunks tokens s.body entry) y.0 z.0 labelled number z.1 in
    let chunk : y.0.chunks.here ≡ before.draft.chunks.here = ap (λ (c : ChunksParts). c.here) (sym same) in
    let offset : (here_of y.0.chunks).size ≡ size_at before.draft.chunks.chunks y.0.chunks.here = ap (λ (c : ChunksParts). size_at c.chunks y.0.chunks.here) (sym same) in
    let end : size_or_none (slice_get z.0.chunks.chunks y.0.chunks.here) ≡ size_at z.0.chunks.chunks y.0.chunks.here = size_found z.0.chunks.chunks y.0.chunks.here in
    let before_less : y.0.chunks.here < length before.draft.chunks.chunks = (let less = h.here.1 in omega arith) in
    let kind : (here_of y.0.chunks).kind ≡ (slice_index_or z.0.chunks.chunks y.0.chunks.here no_chunk).kind =
    ap (λ (c : ChunksParts). (slice_index_or c.chunks y.0.chunks.here no_chunk).kind) (sym same) ∙ sym (goes.kinds.kinds y.0.chunks.here before_less) in
    subst (StandsHere start s before) is
    (record {
      stand = stand;
      stands = refl;
      chunk = chunk;
      offset = offset;
      end = end;
      goes = goes;
      counted = λ at operation b code. (
        end
            ∙ instruction_sized tokens y.0 z.0 s at operation b (ap (λ (k : ChunkKind). rank k == rank Code) kind ∙ code) labelled.here.1
            (ap (λ (body : Body). body_of tokens y.0 number s entry body) (sym b) ∙ z.1),
        λ g. kept_none tokens y.0 s at operation b g,
      );
    })
