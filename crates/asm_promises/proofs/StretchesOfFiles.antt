-- Where the statements of all files stand: those of one chunk are apart, and files share no chunk.
use Rattle.std.proofs.Common.{◌≡◌, ℕ, ◌+◌, ◌%◌, ◌<◌, ◌≤◌, ◌==◌, ◌⊎◌, inl, inr, List, [], ◌∷◌, ◌++◌, length, replicate, slice_index_or, slice_set, Option, Some, None, Ok, All, refl, sym, ap, ◌∙◌, subst, arith}
use Rattle.std.proofs.lemmas.Bool.{cases_lt}
use Rattle.std.proofs.lemmas.List.{length-append, get_or_append_left}
use Rattle.std.proofs.lemmas.List.Elements.{All-nil, All-push}
use Rattle.asm_layout.specs.declared.chunk.Chunk.{Chunk}
use Rattle.asm_layout.specs.declared.chunk.ChunkKind.{ChunkKind}
use Rattle.asm_layout.specs.Placement.{rank}
use Rattle.asm_layout.specs.declared.chunk.ChunkKind.TheVariants as kinds
use Rattle.asm_tokens.specs.Tokens.{TokenParts}
use Rattle.asm_chunks.specs.Chunks.{no_chunk}
use Rattle.asm_chunks.specs.Sections.{opening_chunk, begun, added}
use Rattle.asm_statements.specs.Statements.{StatementParts}
use Rattle.asm_files.specs.declared.stand.Stand.{Stand}
use Rattle.asm_files.specs.Faults.{of_file}
use Rattle.asm_files.specs.Steps.{each_from}
use Rattle.asm_files.specs.Sections.{SectionsParts}
use Rattle.asm_files.specs.Programs.{FileParts, MadeParts, no_stand}
use Rattle.asm_files.specs.Files.{ReadingParts, statement_step, statements_put, begun_draft, file_begun, file_ended, file_put, no_made, made_of}
use Rattle.asm_listable.proofs.Starts.{then_ok}
use Rattle.asm_promises.proofs.Memory.{each_kept}
use Rattle.asm_promises.proofs.Sound.{of_file_ok}
use Rattle.asm_promises.proofs.Sizes.{set_or, last_item, repeated, size_at, Grows, push_grows}
use Rattle.asm_promises.proofs.Coverage.{KeepsKinds, push_kinds, then_kinds}
use Rattle.asm_promises.proofs.Stretches.{IsCode, IsWholeChunk, chunk_whole, opening_whole, IsOwn, own_later, GoesOn, then_grows, stands_here}

-- ---- lists

-- an item of a list that has one more is one of those before, or the last one
pub item_of : {X : Type 0} (xs : List X) (x d : X) (after : List X) → xs ++ x ∷ [] ≡ after → (k : ℕ) → k < length after
    → ((k < length xs) × (slice_index_or xs k d ≡ slice_index_or after k d)) ⊎ ((length xs ≡ k) × (x ≡ slice_index_or after k d))
item_of xs x d after is k less =
    let long : length (xs ++ x ∷ []) ≡ length xs + 1 = length-append xs (x ∷ []) in
    let same : length (xs ++ x ∷ []) ≡ length after = ap (λ ys. length ys) is in
    let there : slice_index_or (xs ++ x ∷ []) k d ≡ slice_index_or after k d = ap (λ ys. slice_index_or ys k d) is in
    elim (cases_lt k (length xs)) [
      | inl within ↦ inl (within, sym (get_or_append_left xs (x ∷ []) d k within) ∙ there)
      | inr past ↦
          (let at : length xs ≡ k = omega arith in
          let last : slice_index_or (xs ++ x ∷ []) k d ≡ x = subst (λ (n : ℕ). slice_index_or (xs ++ x ∷ []) n d ≡ x) at (last_item xs x d) in
          inr (at, sym last ∙ there))
    ]

-- ---- a file

abbrev pub stand_at : List Stand → ℕ → Stand
stand_at stands number = slice_index_or stands number no_stand

-- a stretch of one of these chunks, in code of whole instructions
pub record LiesIn (start : ℕ) (chunks : List Chunk) (stand : Stand) : Type 0 where
  pub chunk : IsOwn start chunks stand.chunk
  pub forward : stand.offset ≤ stand.end
  pub ends : stand.end ≤ size_at chunks stand.chunk
  pub whole : IsCode (slice_index_or chunks stand.chunk no_chunk) → (stand.offset % 4 ≡ 0) × (stand.end % 4 ≡ 0)

abbrev pub IsBefore : Stand → Stand → Type 0
IsBefore one other = one.chunk ≡ other.chunk → one.end ≤ other.offset

abbrev AllLie : ℕ → List Chunk → List Stand → Type 0
AllLie start chunks stands = (k : ℕ) → k < length stands → LiesIn start chunks (stand_at stands k)

abbrev AreOrdered : List Stand → Type 0
AreOrdered stands = (j k : ℕ) → j < k → k < length stands → IsBefore (stand_at stands j) (stand_at stands k)

before_same : (a b c d : Stand) → a ≡ c → b ≡ d → IsBefore a b → IsBefore c d
before_same a b c d p q h = subst (λ (x : Stand). IsBefore x d) p (subst (λ (x : Stand). IsBefore a x) q h)

pub code_before : (before after : List Chunk) (number : ℕ) → KeepsKinds before after → number < length before → IsCode (slice_index_or after number no_chunk)
    → IsCode (slice_index_or before number no_chunk)
code_before before after number keeps less code = ap (λ (k : ChunkKind). rank k == rank kinds.Code) (sym (keeps.kinds number less)) ∙ code

lies_later : (start : ℕ) (before after : List Chunk) (stand : Stand) → KeepsKinds before after → Grows before after → LiesIn start before stand → LiesIn start after stand
lies_later start before after stand keeps grows h =
    let more = grows.more stand.chunk in
    let ends = h.ends in
    record {
      chunk = own_later start before after stand.chunk keeps.longer h.chunk;
      forward = h.forward;
      ends = omega arith;
      whole = λ code. h.whole (code_before before after stand.chunk keeps h.chunk.1 code);
    }

-- the statements of a file so far
pub record Stretches (first : List Chunk) (reading : ReadingParts) : Type 0 where
  pub goes : GoesOn (length first) first reading.draft.chunks
  pub lie : AllLie (length first) reading.draft.chunks.chunks reading.stands
  pub ordered : AreOrdered reading.stands

pub step_stretches : (sections : SectionsParts) (tokens : List TokenParts) (first : List Chunk) (number : ℕ) (s : StatementParts) (before after : ReadingParts)
    → Stretches first before → statement_step sections tokens number s before ≡ Ok after → Stretches first after
step_stretches sections tokens first number s before after h e =
    let x = stands_here sections tokens (length first) first number s before after h.goes e in
    let goes = x.goes in
    let stand : Stand = x.stand in
    let old : List Chunk = before.draft.chunks.chunks in
    let new : List Chunk = after.draft.chunks.chunks in
    let longer : length old ≤ length new = goes.kinds.longer in
    let more = goes.grows.more stand.chunk in
    let offset = x.offset in
    let end = x.end in
    let own : IsOwn (length first) new stand.chunk = subst (IsOwn (length first) new) (sym x.chunk) (own_later (length first) old new before.draft.chunks.here longer h.goes.here) in
    let before_less : stand.chunk < length old = (let less = h.goes.here.1 in let at = x.chunk in omega arith) in
    let here : LiesIn (length first) new stand =
    record {
      chunk = own;
      forward = omega arith;
      ends = omega arith;
      whole = λ code.
          (let first_size = (chunk_whole old stand.chunk h.goes.whole (code_before old new stand.chunk goes.kinds before_less code)).0 in
          let last_size = (chunk_whole new stand.chunk goes.whole code).0 in
          (omega arith, omega arith));
    } in
    record {
      goes = record { here = goes.here; before = goes.before; own = goes.own; kinds = then_kinds first old new h.goes.kinds goes.kinds; grows = then_grows first old new h.goes.grows goes.grows; whole = goes.whole };
      lie = λ k less. elim (item_of before.stands stand no_stand after.stands x.stands k less) [
        | inl earlier ↦ subst (LiesIn (length first) new) earlier.1 (lies_later (length first) old new (stand_at before.stands k) goes.kinds goes.grows (h.lie k earlier.0))
        | inr last ↦ subst (LiesIn (length first) new) last.1 here
      ];
      ordered = λ j k less few. elim (item_of before.stands stand no_stand after.stands x.stands j (omega arith)) [
        | inl early ↦ (elim (item_of before.stands stand no_stand after.stands x.stands k few) [
          | inl later ↦ before_same (stand_at before.stands j) (stand_at before.stands k) (stand_at after.stands j) (stand_at after.stands k) early.1 later.1 (h.ordered j k less later.0)
          | inr last ↦
              (let there = h.lie j early.0 in
              let behind : IsBefore (stand_at before.stands j) stand =
              λ same. (let ends = there.ends in let at : size_at old (stand_at before.stands j).chunk ≡ size_at old stand.chunk = ap (size_at old) same in omega arith) in
              before_same (stand_at before.stands j) stand (stand_at after.stands j) (stand_at after.stands k) early.1 last.1 behind)
        ])
        | inr last ↦
            (let long : length (before.stands ++ stand ∷ []) ≡ length before.stands + 1 = length-append before.stands (stand ∷ []) in
            let same : length (before.stands ++ stand ∷ []) ≡ length after.stands = ap (λ (ss : List Stand). length ss) x.stands in
            let at = last.0 in
            absurd (omega arith))
      ];
    }

pub begun_goes : (count : ℕ) (chunks : List Chunk) → All IsWholeChunk chunks
    → GoesOn (length chunks) chunks (record { chunks = chunks ++ opening_chunk kinds.Code ∷ []; own = slice_set (replicate count None) 0 (Some (length chunks)); here = length chunks; before = length chunks })
begun_goes count chunks whole =
    let fresh : List (Option ℕ) = replicate count None in
    let long : length (chunks ++ opening_chunk kinds.Code ∷ []) ≡ length chunks + 1 = length-append chunks (opening_chunk kinds.Code ∷ []) in
    let last : IsOwn (length chunks) (chunks ++ opening_chunk kinds.Code ∷ []) (length chunks) = (omega arith, omega arith) in
    record {
      here = last;
      before = last;
      own = λ section number e. elim (set_or fresh 0 (Some (length chunks)) section None) [
        | inl same ↦ (let clash : None ≡ Some number = sym (repeated count section None) ∙ (sym same ∙ e) in absurd (cc))
        | inr there ↦
            (let both : Some (length chunks) ≡ Some number = sym there.1 ∙ e in
            let is : length chunks ≡ number = cc in
            subst (IsOwn (length chunks) (chunks ++ opening_chunk kinds.Code ∷ [])) is last)
      ];
      kinds = push_kinds chunks (opening_chunk kinds.Code);
      grows = push_grows chunks (opening_chunk kinds.Code);
      whole = All-push IsWholeChunk chunks (opening_chunk kinds.Code) whole (opening_whole kinds.Code);
    }

-- ---- all files

abbrev pub stands_at : MadeParts → ℕ → List Stand
stands_at made file = slice_index_or made.stands file []

abbrev HaveLess : List Stand → List Stand → Type 0
HaveLess ones others = (j k : ℕ) → j < length ones → k < length others → (stand_at ones j).chunk < (stand_at others k).chunk

-- each statement has a stretch of its chunk; those of a file are in order in each chunk, and the chunks of earlier files are earlier ones
pub record FilesStretch (made : MadeParts) : Type 0 where
  pub whole : All IsWholeChunk made.chunks
  pub lie : (file : ℕ) → file < length made.stands → AllLie 0 made.chunks (stands_at made file)
  pub ordered : (file : ℕ) → file < length made.stands → AreOrdered (stands_at made file)
  pub apart : (one other : ℕ) → one < other → other < length made.stands → HaveLess (stands_at made one) (stands_at made other)

less_same : (a b c d : List Stand) → a ≡ c → b ≡ d → HaveLess a b → HaveLess c d
less_same a b c d p q h = subst (λ (x : List Stand). HaveLess x d) p (subst (λ (x : List Stand). HaveLess a x) q h)

from_none : (start : ℕ) (chunks : List Chunk) (stand : Stand) → LiesIn start chunks stand → LiesIn 0 chunks stand
from_none start chunks stand h = record { chunk = (omega arith, h.chunk.1); forward = h.forward; ends = h.ends; whole = h.whole }

file_stretches : (sections : SectionsParts) (number : ℕ) (file : FileParts) (made after : MadeParts) → All IsWholeChunk made.chunks → file_put sections number file made ≡ Ok after
    → (reading : ReadingParts) × (file_ended made reading ≡ after) × Stretches made.chunks reading
unfolding file_put statements_put file_begun begun added
file_stretches sections number file made after whole e =
    let first : ReadingParts = record { draft = begun_draft sections.count number made; stands = [] } in
    let x = then_ok (of_file number (each_from (statement_step sections file.tokens) 0 file.statements first)) (λ reading. Ok (file_ended made reading)) after e in
    let start : Stretches made.chunks first = record { goes = begun_goes sections.count made.chunks whole; lie = λ k less. absurd (omega arith); ordered = λ j k less few. absurd (omega arith) } in
    let all : Stretches made.chunks x.0 =
    each_kept (Stretches made.chunks) (statement_step sections file.tokens) (λ n s p q k f. step_stretches sections file.tokens made.chunks n s p q k f) 0 file.statements first x.0 start
    (of_file_ok number (each_from (statement_step sections file.tokens) 0 file.statements first) x.0 x.1) in
    (x.0, (let k = x.2 in cc), all)

pub step_files : (sections : SectionsParts) (number : ℕ) (file : FileParts) (made after : MadeParts) → FilesStretch made → file_put sections number file made ≡ Ok after → FilesStretch after
unfolding file_ended
step_files sections number file made after h e =
    let x = file_stretches sections number file made after h.whole e in
    let reading : ReadingParts = x.0 in
    let all : Stretches made.chunks reading = x.2 in
    let next : MadeParts = file_ended made reading in
    let long : length (made.stands ++ reading.stands ∷ []) ≡ length made.stands + 1 = length-append made.stands (reading.stands ∷ []) in
    subst FilesStretch x.1 (record {
      whole = all.goes.whole;
      lie = λ k less. elim (item_of made.stands reading.stands [] (made.stands ++ reading.stands ∷ []) refl k less) [
        | inl earlier ↦ subst (AllLie 0 next.chunks) earlier.1 (λ j few. lies_later 0 made.chunks next.chunks (stand_at (stands_at made k) j) all.goes.kinds all.goes.grows (h.lie k earlier.0 j few))
        | inr last ↦ subst (AllLie 0 next.chunks) last.1 (λ j few. from_none (length made.chunks) next.chunks (stand_at reading.stands j) (all.lie j few))
      ];
      ordered = λ k less. elim (item_of made.stands reading.stands [] (made.stands ++ reading.stands ∷ []) refl k less) [
        | inl earlier ↦ subst AreOrdered earlier.1 (h.ordered k earlier.0)
        | inr last ↦ subst AreOrdered last.1 all.ordered
      ];
      apart = λ one other less few. elim (item_of made.stands reading.stands [] (made.stands ++ reading.stands ∷ []) refl one (omega arith)) [
        | inl early ↦ (elim (item_of made.stands reading.stands [] (made.stands ++ reading.stands ∷ []) refl other few) [
          | inl later ↦ less_same (stands_at made one) (stands_at made other) (stands_at next one) (stands_at next other) early.1 later.1 (h.apart one other less later.0)
          | inr last ↦
              (let lower : HaveLess (stands_at made one) reading.stands =
              λ j k in_one in_other. (let there = (h.lie one early.0 j in_one).chunk.1 in let from = (all.lie k in_other).chunk.0 in omega arith) in
              less_same (stands_at made one) reading.stands (stands_at next one) (stands_at next other) early.1 last.1 lower)
        ])
        | inr last ↦ (let at = last.0 in absurd (omega arith))
      ];
    })

pub none_stretch : FilesStretch no_made
none_stretch = record { whole = All-nil IsWholeChunk; lie = λ k less. absurd (omega arith); ordered = λ k less. absurd (omega arith); apart = λ one other less few. absurd (omega arith) }

pub files_stretch : (sections : SectionsParts) (files : List FileParts) (made : MadeParts) → made_of sections files ≡ Ok made → FilesStretch made
unfolding made_of
files_stretch sections files made e =
    each_kept FilesStretch (file_put sections) (λ n f p q k g. step_files sections n f p q k g) 0 files no_made made
    none_stretch e
