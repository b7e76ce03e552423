-- Every chunk that a file begins is in its row, and every common symbol's is common.
use Rattle.std.proofs.Common.{◌≡◌, ℕ, ◌+◌, ◌<◌, ◌≤◌, ◌==◌, ◌⊎◌, inl, inr, true, List, [], ◌∷◌, ◌++◌, length, replicate, slice_index_or, slice_set, Option, Some, None, Ok, refl, sym, ap, ◌∙◌, subst, arith}
use Rattle.std.proofs.Math.ListN.{length-set}
use Rattle.std.proofs.lemmas.Bool.{cases_lt}
use Rattle.std.proofs.lemmas.List.{length-append, length-replicate, get_or_append_left, get_or-set_same}
use Rattle.asm_layout.specs.declared.chunk.Chunk.{Chunk}
use Rattle.asm_layout.specs.declared.chunk.ChunkKind.{ChunkKind}
use Rattle.asm_layout.specs.declared.chunk.ChunkKind.TheVariants as kinds
use Rattle.asm_layout.specs.Placement.{rank}
use Rattle.asm_tokens.specs.Tokens.{TokenParts}
use Rattle.asm_chunks.specs.Chunks.{ChunksParts, no_chunk, here_of, with_here, with_chunk, with_common}
use Rattle.asm_chunks.specs.Growth.{with_size, grown, with_align, raised, padding_of, padded}
use Rattle.asm_chunks.specs.Sections.{opening_chunk, begun, added}
use Rattle.asm_statements.specs.declared.statement.Body.{Body}
use Rattle.asm_statements.specs.Statements.{StatementParts}
use Rattle.asm_drafts.specs.declared.sections.Entry.{Entry}
use Rattle.asm_drafts.specs.Drafts.{DraftParts}
use Rattle.asm_files.specs.Faults.{of_file}
use Rattle.asm_files.specs.Steps.{each_from}
use Rattle.asm_files.specs.Stands.{statement_stood}
use Rattle.asm_files.specs.Sections.{SectionsParts, numbered, entry_of}
use Rattle.asm_files.specs.Programs.{FileParts, MadeParts, ProgramParts}
use Rattle.asm_files.specs.Files.{ReadingParts, with_stand, statement_step, statements_put, begun_draft, file_begun, file_ended, file_put, no_made, made_of, all_names}
use Rattle.asm_links.specs.Order.{order_of, commons_from}
use Rattle.asm_chunks.specs.Order.{section_order}
use Rattle.asm_listable.proofs.Starts.{then_ok}
use Rattle.asm_promises.proofs.Memory.{each_kept}
use Rattle.asm_promises.proofs.Reading.{Phases}
use Rattle.asm_promises.proofs.Sound.{of_file_ok}
use Rattle.asm_promises.proofs.Sizes.{set_or, last_item, is_grown, Enters, enters, again, begins}
use Rattle.asm_promises.proofs.Walk.{LabelsKeep, BodyKeeps, stood_keeps}
use Rattle.asm_promises.proofs.Listed.{Member, member_left, member_right, section_member, order_member, common_member, AreNumbers, numbered_low, entry_low}

-- ---- kinds

abbrev pub kind_at : List Chunk → ℕ → ChunkKind
kind_at chunks number = (slice_index_or chunks number no_chunk).kind

-- chunks of the same kinds, and more
pub record KeepsKinds (before after : List Chunk) : Type 0 where
  pub longer : length before ≤ length after
  pub kinds : (number : ℕ) → number < length before → kind_at after number ≡ kind_at before number

pub then_kinds : (a b c : List Chunk) → KeepsKinds a b → KeepsKinds b c → KeepsKinds a c
then_kinds a b c h k =
    let one = h.longer in
    let two = k.longer in
    record { longer = omega arith; kinds = λ number less. k.kinds number (omega arith) ∙ h.kinds number less }

pub set_kinds : (chunks : List Chunk) (at : ℕ) (chunk : Chunk) → chunk.kind ≡ kind_at chunks at → KeepsKinds chunks (slice_set chunks at chunk)
set_kinds chunks at chunk same =
    let long = length-set chunks at chunk in
    record {
      longer = omega arith;
      kinds = λ number less. elim (set_or chunks at chunk number no_chunk) [
        | inl kept ↦ ap (λ (c : Chunk). c.kind) kept
        | inr there ↦ ap (λ (c : Chunk). c.kind) there.1 ∙ (same ∙ ap (kind_at chunks) (sym there.0))
      ];
    }

pub push_kinds : (chunks : List Chunk) (chunk : Chunk) → KeepsKinds chunks (chunks ++ chunk ∷ [])
push_kinds chunks chunk =
    let long : length (chunks ++ chunk ∷ []) ≡ length chunks + 1 = length-append chunks (chunk ∷ []) in
    record { longer = omega arith; kinds = λ number less. ap (λ (c : Chunk). c.kind) (get_or_append_left chunks (chunk ∷ []) no_chunk number less) }

-- ---- a file

abbrev pub IsCommon : List Chunk → ℕ → Type 0
IsCommon chunks number = (rank (kind_at chunks number) == rank kinds.Common) ≡ true

-- in a row of chunks of so many sections
abbrev pub IsInRow : List (Option ℕ) → ℕ → ℕ → Type 0
IsInRow own count number = (section : ℕ) × (section < count) × (slice_index_or own section None ≡ Some number)

-- the chunks of a file are common or in its row; those before have their kinds
record IsListed (count : ℕ) (start : List Chunk) (chunks : ChunksParts) : Type 0 where
  own_count : length chunks.own ≡ count
  kept : KeepsKinds start chunks.chunks
  listed : (number : ℕ) → length start ≤ number → number < length chunks.chunks → IsCommon chunks.chunks number ⊎ IsInRow chunks.own count number

common_kept : (before after : List Chunk) (number : ℕ) → KeepsKinds before after → number < length before → IsCommon before number → IsCommon after number
common_kept before after number h less k = ap (λ (kind : ChunkKind). rank kind == rank kinds.Common) (h.kinds number less) ∙ k

-- what is in a row stays there, where another section had none
other_row : (own : List (Option ℕ)) (section : ℕ) (item : Option ℕ) (number : ℕ) {count : ℕ} → slice_index_or own section None ≡ None → IsInRow own count number
    → IsInRow (slice_set own section item) count number
other_row own section item number none row =
    elim (set_or own section item row.0 None) [
      | inl same ↦ (row.0, row.1, same ∙ row.2)
      | inr there ↦ (let clash : None ≡ Some number = sym none ∙ (ap (λ (n : ℕ). slice_index_or own n None) (sym there.0) ∙ row.2) in absurd (cc))
    ]

module _ (count : ℕ) (start : List Chunk) where
  -- other sizes and alignments
  resized : (before after : ChunksParts) → before.own ≡ after.own → KeepsKinds before.chunks after.chunks → length after.chunks ≡ length before.chunks → IsListed count start before
      → IsListed count start after
  resized before after own same_kinds same h =
      record {
        own_count = ap (λ (os : List (Option ℕ)). length os) (sym own) ∙ h.own_count;
        kept = then_kinds start before.chunks after.chunks h.kept same_kinds;
        listed = λ number from less. elim (h.listed number from (omega arith)) [
          | inl common ↦ inl (common_kept before.chunks after.chunks number same_kinds (omega arith) common)
          | inr row ↦ inr (subst (λ (os : List (Option ℕ)). IsInRow os count number) own row)
        ];
      }

  here_listed : (before : ChunksParts) (chunk : Chunk) → chunk.kind ≡ (here_of before).kind → IsListed count start before → IsListed count start (with_here before chunk)
  unfolding with_here
  here_listed before chunk same h =
      resized before (record before { chunks = slice_set before.chunks before.here chunk }) refl (set_kinds before.chunks before.here chunk same) (length-set before.chunks before.here chunk) h

  raised_listed : (before : ChunksParts) (unit : ℕ) → IsListed count start before → IsListed count start (raised before unit)
  unfolding raised
  raised_listed before unit h = here_listed before (with_align (here_of before) unit) refl h

  grown_listed : (before after : ChunksParts) (more : ℕ) → IsListed count start before → grown before more ≡ Ok after → IsListed count start after
  grown_listed before after more h e =
      let g = is_grown before after more e in
      subst (IsListed count start) g.is (here_listed before (with_size (here_of before) ((here_of before).size + more)) refl h)

  padded_listed : (before after : ChunksParts) (unit : ℕ) (most : Option ℕ) → IsListed count start before → padded before unit most ≡ Ok after → IsListed count start after
  unfolding padded
  padded_listed before after unit most h e = grown_listed (raised before unit) after (padding_of (here_of before) unit most) (raised_listed before unit h) e

  common_listed : (before : ChunksParts) (size align : ℕ) → IsListed count start before → IsListed count start (with_chunk before (with_common size align))
  common_listed before size align h =
      let chunk : Chunk = with_common size align in
      let same_kinds : KeepsKinds before.chunks (before.chunks ++ chunk ∷ []) = push_kinds before.chunks chunk in
      let long : length (before.chunks ++ chunk ∷ []) ≡ length before.chunks + 1 = length-append before.chunks (chunk ∷ []) in
      record {
        own_count = h.own_count;
        kept = then_kinds start before.chunks (before.chunks ++ chunk ∷ []) h.kept same_kinds;
        listed = λ number from less. elim (cases_lt number (length before.chunks)) [
          | inl earlier ↦ (elim (h.listed number from earlier) [
            | inl common ↦ inl (common_kept before.chunks (before.chunks ++ chunk ∷ []) number same_kinds earlier common)
            | inr row ↦ inr row
          ])
          | inr last ↦
              (let at : length before.chunks ≡ number = omega arith in
              inl (subst (IsCommon (before.chunks ++ chunk ∷ [])) at (ap (λ (c : Chunk). rank c.kind == rank kinds.Common) (last_item before.chunks chunk no_chunk))))
        ];
      }

  -- one more, in a section that had none
  begun_listed : (before : ChunksParts) (section : ℕ) (chunk : Chunk) (after : ChunksParts) → section < count → slice_index_or before.own section None ≡ None
      → before.chunks ++ chunk ∷ [] ≡ after.chunks → slice_set before.own section (Some (length before.chunks)) ≡ after.own → IsListed count start before → IsListed count start after
  begun_listed before section chunk after inside none chunks own h =
      let same_kinds : KeepsKinds before.chunks after.chunks = subst (KeepsKinds before.chunks) chunks (push_kinds before.chunks chunk) in
      let long : length (before.chunks ++ chunk ∷ []) ≡ length before.chunks + 1 = length-append before.chunks (chunk ∷ []) in
      let after_long : length (before.chunks ++ chunk ∷ []) ≡ length after.chunks = ap (λ (cs : List Chunk). length cs) chunks in
      let row_long : length (slice_set before.own section (Some (length before.chunks))) ≡ length before.own = length-set before.own section (Some (length before.chunks)) in
      let own_count = h.own_count in
      let there : slice_index_or (slice_set before.own section (Some (length before.chunks))) section None ≡ Some (length before.chunks) =
      get_or-set_same before.own section (Some (length before.chunks)) None (omega arith) in
      record {
        own_count = ap (λ (os : List (Option ℕ)). length os) (sym own) ∙ (row_long ∙ own_count);
        kept = then_kinds start before.chunks after.chunks h.kept same_kinds;
        listed = λ number from less. elim (cases_lt number (length before.chunks)) [
          | inl earlier ↦ (elim (h.listed number from earlier) [
            | inl common ↦ inl (common_kept before.chunks after.chunks number same_kinds earlier common)
            | inr row ↦ inr (subst (λ (os : List (Option ℕ)). IsInRow os count number) own (other_row before.own section (Some (length before.chunks)) number none row))
          ])
          | inr last ↦
              (let at : length before.chunks ≡ number = omega arith in
              let in_row : IsInRow (slice_set before.own section (Some (length before.chunks))) count (length before.chunks) = (section, inside, there) in
              inr (subst (λ (os : List (Option ℕ)). IsInRow os count number) own (subst (IsInRow (slice_set before.own section (Some (length before.chunks))) count) at in_row)))
        ];
      }

-- ---- statements

abbrev AreListed : ℕ → List Chunk → DraftParts → Type 0
AreListed count start parts = IsListed count start parts.chunks

labels_listed : (tokens : List TokenParts) (count : ℕ) (start : List Chunk) → LabelsKeep tokens (λ at. Unit {0}) (AreListed count start)
labels_listed tokens count start = record { local = λ parts at l h. h; name = λ parts at l n free h. h }

entered_listed : (count : ℕ) (start : List Chunk) (before after : ChunksParts) (section : ℕ) → section < count → Enters before after section → IsListed count start before
    → IsListed count start after
entered_listed count start before after section inside (again chunks own) h =
    let kinds : KeepsKinds before.chunks after.chunks = subst (KeepsKinds before.chunks) chunks (record { longer = omega arith; kinds = λ number less. refl }) in
    resized count start before after own kinds (ap (λ (cs : List Chunk). length cs) (sym chunks)) h
entered_listed count start before after section inside (begins kind none chunks own) h =
    begun_listed count start before section (opening_chunk kind) after inside none chunks own h

body_listed : (tokens : List TokenParts) (body : Body) (entry : Entry) (count : ℕ) (start : List Chunk) → entry.section < count
    → BodyKeeps tokens body entry (AreListed count start) (AreListed count start)
body_listed tokens body entry count start inside =
    record {
      kept = λ parts h. h;
      entered = λ parts flags chunks h e. entered_listed count start parts.chunks chunks entry.section inside (enters parts.chunks chunks entry.section flags entry.named e) h;
      back = λ parts h. record { own_count = h.own_count; kept = h.kept; listed = h.listed };
      set = λ parts at number early b free h. h;
      common = λ parts at size align b few small free h. common_listed count start parts.chunks size align h;
      wanted = λ parts name h. h;
      grown = λ parts more chunks whole h e. grown_listed count start parts.chunks chunks more h e;
      padded = λ parts unit most chunks small is h e. padded_listed count start parts.chunks chunks unit most h e;
      raised = λ parts h. raised_listed count start parts.chunks 16 h;
    }

step_listed : (sections : SectionsParts) (tokens : List TokenParts) (start : List Chunk) (number : ℕ) (s : StatementParts) (reading after : ReadingParts) → AreNumbers sections
    → AreListed sections.count start reading.draft → statement_step sections tokens number s reading ≡ Ok after → AreListed sections.count start after.draft
unfolding statement_step
step_listed sections tokens start number s reading after numbers h e =
    let entry : Entry = entry_of sections tokens s in
    let x = then_ok (statement_stood tokens reading.draft number s entry) (λ next. Ok (with_stand reading next)) after e in
    let is : with_stand reading x.0 ≡ after = (let k = x.2 in cc) in
    subst (λ (r : ReadingParts). AreListed sections.count start r.draft) is
    (stood_keeps tokens s entry (λ at. Unit {0}) (AreListed sections.count start) (AreListed sections.count start) (labels_listed tokens sections.count start)
    (body_listed tokens s.body entry sections.count start (entry_low sections tokens s numbers)) (λ k less. tt) reading.draft number x.0 h x.1)

-- ---- files

-- each chunk of the files so far is common, or in the row of one of them
record AreAllListed (count : ℕ) (made : MadeParts) : Type 0 where
  each : (number : ℕ) → number < length made.chunks
      → IsCommon made.chunks number ⊎ ((file : ℕ) × (file < length made.rows) × IsInRow (slice_index_or made.rows file []) count number)

begun_first : (count : ℕ) (chunks : List Chunk) (before : ℕ) → 0 < count
    → IsListed count chunks (record { chunks = chunks ++ opening_chunk kinds.Code ∷ []; own = slice_set (replicate count None) 0 (Some (length chunks)); here = length chunks; before = before })
begun_first count chunks before some =
    let fresh : List (Option ℕ) = replicate count None in
    let row_long : length fresh ≡ count = length-replicate count None in
    let set_long : length (slice_set fresh 0 (Some (length chunks))) ≡ length fresh = length-set fresh 0 (Some (length chunks)) in
    let long : length (chunks ++ opening_chunk kinds.Code ∷ []) ≡ length chunks + 1 = length-append chunks (opening_chunk kinds.Code ∷ []) in
    let there : slice_index_or (slice_set fresh 0 (Some (length chunks))) 0 None ≡ Some (length chunks) = get_or-set_same fresh 0 (Some (length chunks)) None (omega arith) in
    record {
      own_count = set_long ∙ row_long;
      kept = push_kinds chunks (opening_chunk kinds.Code);
      listed = λ number from less. (let at : length chunks ≡ number = omega arith in
          inr (0, some, there ∙ ap (λ n. Some n) at));
    }

file_listed : (sections : SectionsParts) (number : ℕ) (file : FileParts) (made after : MadeParts) → AreNumbers sections → AreAllListed sections.count made
    → file_put sections number file made ≡ Ok after → AreAllListed sections.count after
unfolding file_put statements_put file_begun file_ended begun added
file_listed sections number file made after numbers h e =
    let first : ReadingParts = record { draft = begun_draft sections.count number made; stands = [] } in
    let x = then_ok (of_file number (each_from (statement_step sections file.tokens) 0 file.statements first)) (λ reading. Ok (file_ended made reading)) after e in
    let start : AreListed sections.count made.chunks first.draft = begun_first sections.count made.chunks (length made.chunks) numbers.some in
    let all : AreListed sections.count made.chunks x.0.draft =
    each_kept (λ (r : ReadingParts). AreListed sections.count made.chunks r.draft) (statement_step sections file.tokens)
    (λ n s p q k f. step_listed sections file.tokens made.chunks n s p q numbers k f) 0 file.statements first x.0 start
    (of_file_ok number (each_from (statement_step sections file.tokens) 0 file.statements first) x.0 x.1) in
    let is : file_ended made x.0 ≡ after = (let k = x.2 in cc) in
    let own : List (Option ℕ) = x.0.draft.chunks.own in
    let rows_long : length (made.rows ++ own ∷ []) ≡ length made.rows + 1 = length-append made.rows (own ∷ []) in
    let kept = all.kept in
    subst (AreAllListed sections.count) is (record {
      each = λ n less. elim (cases_lt n (length made.chunks)) [
        | inl earlier ↦ (elim (h.each n earlier) [
          | inl common ↦ inl (common_kept made.chunks x.0.draft.chunks.chunks n kept earlier common)
          | inr row ↦
              (let before = row.1 in
              inr (row.0, omega arith, subst (λ (os : List (Option ℕ)). IsInRow os sections.count n) (sym (get_or_append_left made.rows (own ∷ []) [] row.0 before)) row.2))
        ])
        | inr later ↦ (elim (all.listed n later less) [
          | inl common ↦ inl common
          | inr row ↦ inr (length made.rows, omega arith, subst (λ (os : List (Option ℕ)). IsInRow os sections.count n) (sym (last_item made.rows own [])) row)
        ])
      ];
    })

all_listed : (names : List (List ℕ)) (files : List FileParts) (made : MadeParts) → made_of (numbered names) files ≡ Ok made → AreAllListed (numbered names).count made
unfolding made_of
all_listed names files made e =
    each_kept (AreAllListed (numbered names).count) (file_put (numbered names)) (λ n f p q k g. file_listed (numbered names) n f p q (numbered_low names) k g) 0 files no_made made
    (record { each = λ n less. absurd (omega arith) }) e

-- every chunk of a program is in its order
pub all_in_order : (texts : List (List ℕ)) (program : ProgramParts) (number : ℕ) → Phases texts program → number < length program.made.chunks → Member number (order_of program)
unfolding order_of
all_in_order texts program number phases less =
    let all = all_listed (all_names program.files) program.files program.made phases.made in
    elim (all.each number less) [
      | inl common ↦ member_right number (section_order program.sections program.made.rows) (commons_from 0 program.made.chunks) (common_member program.made.chunks number common)
      | inr row ↦
          (let of = section_member row.2.0 number program.made.rows row.0 row.1 row.2.2 in
          let inside : row.2.0 < program.sections = subst (λ (n : ℕ). row.2.0 < n) phases.sections row.2.1 in
          member_left number (section_order program.sections program.made.rows) (commons_from 0 program.made.chunks) (order_member program.sections row.2.0 number program.made.rows inside of))
    ]
