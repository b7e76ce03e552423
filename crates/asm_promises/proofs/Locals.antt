-- Local labels over whole files: each stands where its statement stands, and statements see those before.
use Rattle.std.proofs.Common.{◌≡◌, ℕ, zero, suc, ◌+◌, ◌<◌, ◌≤◌, nat_lt, Bool, true, false, cond, List, [], ◌∷◌, ◌++◌, length, slice_get, slice_index_or, Option, None, Ok, refl, sym, ap, ◌∙◌, subst, append-nil, append_assoc, inl, inr, arith}
use Rattle.std.proofs.lemmas.Bool.{cases_lt}
use Rattle.std.proofs.lemmas.Bool.Decides.{nat_tests}
use Rattle.std.proofs.lemmas.List.{length-append, get_or_append_left}
use Rattle.std.proofs.lemmas.Option.{slice_get_past}
use Rattle.std.specs.Option.{is_none}
use Rattle.canonical.proofs.round_trip.Ranges.{test_true}
use Rattle.asm_tokens.specs.declared.fault.AsmFaultKind.TheVariants as faults
use Rattle.asm_tokens.specs.declared.token.TokenKind.{TokenKind}
use Rattle.asm_tokens.specs.declared.token.TokenKind.TheVariants as kinds
use Rattle.asm_tokens.specs.Faults.{◌>>=◌}
use Rattle.asm_tokens.specs.Tokens.{TokenParts}
use Rattle.asm_expressions.specs.Tokens.{kind_or_end, kind_at, text_at, fault_at}
use Rattle.asm_symbols.specs.declared.locals.Local.{Local}
use Rattle.asm_symbols.specs.Definitions.{DefinitionParts, with_symbol, label_symbol}
use Rattle.asm_symbols.specs.Locals.{with_local}
use Rattle.asm_chunks.specs.Chunks.{here_of}
use Rattle.asm_statements.specs.declared.statement.Body.{Body}
use Rattle.asm_statements.specs.Statements.{StatementParts}
use Rattle.asm_drafts.specs.declared.sections.Entry.{Entry}
use Rattle.asm_drafts.specs.Drafts.{DraftParts, with_symbols, with_locals}
use Rattle.asm_drafts.specs.Kept.{kept_number}
use Rattle.asm_drafts.specs.Labels.{named, local_here, locally_labelled, labelled_kind, labelled, labels_put}
use Rattle.asm_drafts.specs.Statements.{body_put}
use Rattle.asm_files.specs.declared.stand.Stand.{Stand}
use Rattle.asm_files.specs.Faults.{of_file}
use Rattle.asm_files.specs.Steps.{each_from}
use Rattle.asm_files.specs.Stands.{opening_of, closing_of, statement_stood}
use Rattle.asm_files.specs.Sections.{SectionsParts, entry_of}
use Rattle.asm_files.specs.Programs.{FileParts, MadeParts}
use Rattle.asm_files.specs.Files.{ReadingParts, with_stand, statement_step, statements_put, begun_draft, file_begun, file_ended, file_put, no_made, made_of}
use Rattle.asm_listable.proofs.Starts.{then_ok}
use Rattle.asm_promises.specs.Labels.{label_here, labels_here, all_labels}
use Rattle.asm_promises.proofs.Walk.{BodyKeeps, body_keeps}
use Rattle.asm_promises.proofs.Reading.{each_listed}
use Rattle.asm_promises.proofs.Sizes.{last_item}
use Rattle.asm_promises.proofs.Sound.{of_file_ok}

-- ---- the labels of a statement

-- the local labels that a statement's labels add, where the file is
pub record AddsLocals (stand : Stand) (before after : DraftParts) (more : List Local) : Type 0 where
  pub chunk : stand.chunk ≡ after.chunks.here
  pub offset : stand.offset ≡ (here_of after.chunks).size
  pub added : before.locals.places ++ more ≡ after.locals.places

past_none : (tokens : List TokenParts) (stand : Stand) (more at : ℕ) → length tokens ≤ at → labels_here tokens stand at more ≡ []
unfolding labels_here kind_at
past_none tokens stand zero at h = refl
past_none tokens stand (suc more) at h =
    let none : slice_get tokens at ≡ None = slice_get_past tokens at h in
    let here : label_here stand at (kind_or_end (slice_get tokens at)) ≡ [] = ap (λ (o : Option TokenParts). label_here stand at (kind_or_end o)) none in
    let rest = past_none tokens stand more (at + 2) (omega arith) in
    ap (λ (ls : List Local). ls ++ labels_here tokens stand (at + 2) more) here ∙ rest

module _ (tokens : List TokenParts) (stand : Stand) where
  kind_adds : (parts after : DraftParts) (at : ℕ) (kind : TokenKind) → stand.chunk ≡ parts.chunks.here → stand.offset ≡ (here_of parts.chunks).size
      → labelled_kind tokens parts at kind ≡ Ok after → AddsLocals stand parts after (label_here stand at kind)
  unfolding locally_labelled named with_local
  kind_adds parts after at (kinds.Number n) c o e =
      let next : DraftParts = with_locals parts (with_local parts.locals (text_at tokens at) (local_here parts at)) in
      let is : next ≡ after = cc in
      let here : Local = local_here parts at in
      let same : record { chunk = stand.chunk; offset = stand.offset; token = at } ≡ here = rw (c, o) refl in
      let added : parts.locals.places ++ label_here stand at (kinds.Number n) ≡ next.locals.places = ap (λ (l : Local). parts.locals.places ++ l ∷ []) same in
      subst (λ (d : DraftParts). AddsLocals stand parts d (label_here stand at (kinds.Number n))) is (record { chunk = c; offset = o; added = added })
  kind_adds parts after at kind c o e =
      let d : DefinitionParts = label_symbol parts.symbols (text_at tokens at) at parts.chunks.here (here_of parts.chunks).size in
      let x = test_true (is_none (parts.symbols.own d.name)) (Ok (with_symbols parts (with_symbol parts.symbols d))) (fault_at tokens faults.Twice at) after e in
      let is : with_symbols parts (with_symbol parts.symbols d) ≡ after = (let k = x.1 in cc) in
      subst (λ (d : DraftParts). AddsLocals stand parts d []) is (record { chunk = c; offset = o; added = append-nil parts.locals.places })

  then_adds : (a b c : DraftParts) (more rest : List Local) → AddsLocals stand a b more → AddsLocals stand b c rest → AddsLocals stand a c (more ++ rest)
  then_adds a b c more rest h k =
      let added : a.locals.places ++ (more ++ rest) ≡ c.locals.places =
      sym (append_assoc a.locals.places more rest) ∙ (ap (λ (ls : List Local). ls ++ rest) h.added ∙ k.added) in
      record { chunk = k.chunk; offset = k.offset; added = added }

  none_adds : (parts after : DraftParts) (more : List Local) → stand.chunk ≡ parts.chunks.here → stand.offset ≡ (here_of parts.chunks).size → more ≡ [] → parts ≡ after
      → AddsLocals stand parts after more
  none_adds parts after more c o none is =
      let added : parts.locals.places ++ more ≡ parts.locals.places = ap (λ (ls : List Local). parts.locals.places ++ ls) none ∙ append-nil parts.locals.places in
      subst (λ (d : DraftParts). AddsLocals stand parts d more) is (record { chunk = c; offset = o; added = added })

  more_by : (test : Bool) (parts after : DraftParts) (at more : ℕ) → nat_lt at (length tokens) ≡ test → stand.chunk ≡ parts.chunks.here → stand.offset ≡ (here_of parts.chunks).size
      → ((next : DraftParts) → stand.chunk ≡ next.chunks.here → stand.offset ≡ (here_of next.chunks).size → labels_put tokens (at + 2) more next ≡ Ok after
      → AddsLocals stand next after (labels_here tokens stand (at + 2) more))
      → cond test (labelled tokens parts at >>= λ next. labels_put tokens (at + 2) more next) (Ok parts) ≡ Ok after
      → AddsLocals stand parts after (label_here stand at (kind_at tokens at) ++ labels_here tokens stand (at + 2) more)
  unfolding labelled labels_here
  more_by true parts after at more t c o later e =
      let x = then_ok (labelled_kind tokens parts at (kind_at tokens at)) (λ next. labels_put tokens (at + 2) more next) after e in
      let first = kind_adds parts x.0 at (kind_at tokens at) c o x.1 in
      then_adds parts x.0 after (label_here stand at (kind_at tokens at)) (labels_here tokens stand (at + 2) more) first (later x.0 first.chunk first.offset x.2)
  more_by false parts after at more t c o later e =
      let past : length tokens ≤ at = grind (arith, nat_tests) in
      let is : parts ≡ after = cc in
      none_adds parts after (labels_here tokens stand at (suc more)) c o (past_none tokens stand (suc more) at past) is

  pub labels_add : (more at : ℕ) (parts after : DraftParts) → stand.chunk ≡ parts.chunks.here → stand.offset ≡ (here_of parts.chunks).size
      → labels_put tokens at more parts ≡ Ok after → AddsLocals stand parts after (labels_here tokens stand at more)
  unfolding labels_put labels_here
  labels_add zero at parts after c o e = let is : parts ≡ after = cc in none_adds parts after [] c o refl is
  labels_add (suc more) at parts after c o e =
      more_by (nat_lt at (length tokens)) parts after at more refl c o (λ next p q f. labels_add more (at + 2) next after p q f) e

-- ---- a statement

-- a statement, where it stands, with its local labels
record AddsStatement (tokens : List TokenParts) (s : StatementParts) (before after : ReadingParts) : Type 0 where
  stand : Stand
  stands : before.stands ++ stand ∷ [] ≡ after.stands
  added : before.draft.locals.places ++ labels_here tokens stand s.first s.labels ≡ after.draft.locals.places
  count : stand.locals ≡ length after.draft.locals.places

same_locals : (tokens : List TokenParts) (body : Body) (entry : Entry) (places : List Local) → BodyKeeps tokens body entry (λ d. places ≡ d.locals.places) (λ d. places ≡ d.locals.places)
same_locals tokens body entry places =
    record {
      kept = λ parts h. h;
      entered = λ parts flags chunks h e. h;
      back = λ parts h. h;
      set = λ parts at number early b free h. h;
      common = λ parts at size align b few small free h. h;
      wanted = λ parts name h. h;
      grown = λ parts count chunks whole h e. h;
      padded = λ parts unit most chunks small is h e. h;
      raised = λ parts h. h;
    }

statement_adds : (sections : SectionsParts) (tokens : List TokenParts) (number : ℕ) (s : StatementParts) (before after : ReadingParts)
    → statement_step sections tokens number s before ≡ Ok after → AddsStatement tokens s before after
unfolding statement_step statement_stood opening_of closing_of
statement_adds sections tokens number s before after e =
    let entry : Entry = entry_of sections tokens s in
    let x = then_ok (statement_stood tokens before.draft number s entry) (λ next. Ok (with_stand before next)) after e in
    let y = then_ok (labels_put tokens s.first s.labels before.draft)
    (λ labelled. body_put tokens labelled number s entry >>= λ made. Ok (made, closing_of made (opening_of labelled (kept_number tokens labelled s)))) x.0 x.1 in
    let z = then_ok (body_put tokens y.0 number s entry) (λ made. Ok (made, closing_of made (opening_of y.0 (kept_number tokens y.0 s)))) x.0 y.2 in
    let stand : Stand = closing_of z.0 (opening_of y.0 (kept_number tokens y.0 s)) in
    let pair_is : (z.0, stand) ≡ x.0 = (let k = z.2 in cc) in
    let is : with_stand before (z.0, stand) ≡ after = ap (λ (n : DraftParts × Stand). with_stand before n) pair_is ∙ (let k = x.2 in cc) in
    let first : Stand = record { chunk = before.draft.chunks.here; offset = (here_of before.draft.chunks).size; end = 0; locals = 0; value = 0 } in
    let same = labels_add tokens first s.labels s.first before.draft y.0 refl refl y.1 in
    let adds = labels_add tokens stand s.labels s.first before.draft y.0 (sym same.chunk) (sym same.offset) y.1 in
    let body : y.0.locals.places ≡ z.0.locals.places =
    body_keeps tokens s entry (λ d. y.0.locals.places ≡ d.locals.places) (λ d. y.0.locals.places ≡ d.locals.places) (same_locals tokens s.body entry y.0.locals.places) y.0 z.0 refl number z.1 in
    subst (AddsStatement tokens s before) is (record { stand = stand; stands = refl; added = adds.added ∙ body; count = ap (λ (ls : List Local). length ls) body })

-- ---- a file

all_push : (tokens : List TokenParts) (statements : List StatementParts) (stands : List Stand) (s : StatementParts) (stand : Stand) → length stands ≡ length statements
    → all_labels tokens (statements ++ s ∷ []) (stands ++ stand ∷ []) ≡ all_labels tokens statements stands ++ labels_here tokens stand s.first s.labels
unfolding all_labels
all_push tokens [] [] s stand h = append-nil (labels_here tokens stand s.first s.labels)
all_push tokens [] (other ∷ stands) s stand h = absurd (omega arith)
all_push tokens (one ∷ statements) [] s stand h = absurd (omega arith)
all_push tokens (one ∷ statements) (other ∷ stands) s stand h =
    let rest = all_push tokens statements stands s stand (omega arith) in
    ap (λ (ls : List Local). labels_here tokens other one.first one.labels ++ ls) rest
    ∙ sym (append_assoc (labels_here tokens other one.first one.labels) (all_labels tokens statements stands) (labels_here tokens stand s.first s.labels))

-- each statement sees as many as there are up to it, its own included
abbrev pub AreCounted : ℕ → List TokenParts → List StatementParts → List Stand → Type 0
AreCounted count tokens [] stands = Unit {0}
AreCounted count tokens (s ∷ statements) [] = Unit {0}
AreCounted count tokens (s ∷ statements) (stand ∷ stands) =
    (stand.locals ≡ count + length (labels_here tokens stand s.first s.labels)) × AreCounted stand.locals tokens statements stands

counted_push : (count : ℕ) (tokens : List TokenParts) (statements : List StatementParts) (stands : List Stand) (s : StatementParts) (stand : Stand) → length stands ≡ length statements
    → AreCounted count tokens statements stands → stand.locals ≡ count + length (all_labels tokens statements stands) + length (labels_here tokens stand s.first s.labels)
    → AreCounted count tokens (statements ++ s ∷ []) (stands ++ stand ∷ [])
unfolding all_labels
counted_push count tokens [] [] s stand h c e = (omega arith, tt)
counted_push count tokens [] (other ∷ stands) s stand h c e = absurd (omega arith)
counted_push count tokens (one ∷ statements) [] s stand h c e = absurd (omega arith)
counted_push count tokens (one ∷ statements) (other ∷ stands) s stand h c e =
    let here = c.0 in
    let both : length (labels_here tokens other one.first one.labels ++ all_labels tokens statements stands)
    ≡ length (labels_here tokens other one.first one.labels) + length (all_labels tokens statements stands) =
    length-append (labels_here tokens other one.first one.labels) (all_labels tokens statements stands) in
    (here, counted_push other.locals tokens statements stands s stand (omega arith) c.1 (omega arith))

-- where statements stand, and the local labels of these
pub record AreStood (tokens : List TokenParts) (statements : List StatementParts) (stands : List Stand) (labels : List Local) : Type 0 where
  pub length_is : length stands ≡ length statements
  pub labels_are : labels ≡ all_labels tokens statements stands
  pub counted : AreCounted 0 tokens statements stands

step_stood : (sections : SectionsParts) (tokens : List TokenParts) (done : List StatementParts) (s : StatementParts) (before after : ReadingParts)
    → AreStood tokens done before.stands before.draft.locals.places → statement_step sections tokens (length done) s before ≡ Ok after
    → AreStood tokens (done ++ s ∷ []) after.stands after.draft.locals.places
step_stood sections tokens done s before after h e =
    let adds = statement_adds sections tokens (length done) s before after e in
    let stand : Stand = adds.stand in
    let same = h.length_is in
    let long : length (before.stands ++ stand ∷ []) ≡ length before.stands + 1 = length-append before.stands (stand ∷ []) in
    let more : length (done ++ s ∷ []) ≡ length done + 1 = length-append done (s ∷ []) in
    let labels_are : after.draft.locals.places ≡ all_labels tokens (done ++ s ∷ []) (before.stands ++ stand ∷ []) =
    sym adds.added ∙ (ap (λ (ls : List Local). ls ++ labels_here tokens stand s.first s.labels) h.labels_are ∙ sym (all_push tokens done before.stands s stand same)) in
    let both : length (before.draft.locals.places ++ labels_here tokens stand s.first s.labels)
    ≡ length before.draft.locals.places + length (labels_here tokens stand s.first s.labels) = length-append before.draft.locals.places (labels_here tokens stand s.first s.labels) in
    let places : length after.draft.locals.places ≡ length (before.draft.locals.places ++ labels_here tokens stand s.first s.labels) = ap (λ (ls : List Local). length ls) (sym adds.added) in
    let known : length before.draft.locals.places ≡ length (all_labels tokens done before.stands) = ap (λ (ls : List Local). length ls) h.labels_are in
    let count = adds.count in
    let counted = counted_push 0 tokens done before.stands s stand same h.counted (omega arith) in
    subst (λ (ss : List Stand). AreStood tokens (done ++ s ∷ []) ss after.draft.locals.places) adds.stands
    (record { length_is = omega arith; labels_are = labels_are; counted = counted })

-- ---- all files

abbrev pub no_file : FileParts
no_file = record { tokens = []; statements = [] }

no_labels : (tokens : List TokenParts) → [] ≡ all_labels tokens [] []
unfolding all_labels
no_labels tokens = refl

-- the files so far: where their statements stand, and their local labels
pub record AreFilesStood (files : List FileParts) (made : MadeParts) : Type 0 where
  pub stands_count : length made.stands ≡ length files
  pub locals_count : length made.locals ≡ length files
  pub each : (file : ℕ) → file < length files
      → AreStood (slice_index_or files file no_file).tokens (slice_index_or files file no_file).statements (slice_index_or made.stands file []) (slice_index_or made.locals file [])

file_stood : (sections : SectionsParts) (number : ℕ) (file : FileParts) (made after : MadeParts) → file_put sections number file made ≡ Ok after
    → (reading : ReadingParts) × (file_ended made reading ≡ after) × AreStood file.tokens file.statements reading.stands reading.draft.locals.places
unfolding file_put statements_put file_begun
file_stood sections number file made after e =
    let first : ReadingParts = record { draft = begun_draft sections.count number made; stands = [] } in
    let x = then_ok (of_file number (each_from (statement_step sections file.tokens) 0 file.statements first)) (λ reading. Ok (file_ended made reading)) after e in
    let is : file_ended made x.0 ≡ after = (let k = x.2 in cc) in
    let start : AreStood file.tokens [] first.stands first.draft.locals.places = record { length_is = refl; labels_are = no_labels file.tokens; counted = tt } in
    let stood = each_listed (λ done (reading : ReadingParts). AreStood file.tokens done reading.stands reading.draft.locals.places) (statement_step sections file.tokens)
    (λ done s p q h f. step_stood sections file.tokens done s p q h f) [] file.statements first x.0 start
    (of_file_ok number (each_from (statement_step sections file.tokens) 0 file.statements first) x.0 x.1) in
    (x.0, is, stood)

pub stood_same : (f g : FileParts) (ss ts : List Stand) (ls ms : List Local) → f ≡ g → ss ≡ ts → ls ≡ ms → AreStood f.tokens f.statements ss ls → AreStood g.tokens g.statements ts ms
stood_same f g ss ts ls ms p q r h =
    subst (λ (x : FileParts). AreStood x.tokens x.statements ts ms) p
    (subst (λ (x : List Stand). AreStood f.tokens f.statements x ms) q (subst (λ (x : List Local). AreStood f.tokens f.statements ss x) r h))

step_files : (sections : SectionsParts) (done : List FileParts) (file : FileParts) (made after : MadeParts) → AreFilesStood done made
    → file_put sections (length done) file made ≡ Ok after → AreFilesStood (done ++ file ∷ []) after
unfolding file_ended
step_files sections done file made after h e =
    let x = file_stood sections (length done) file made after e in
    let reading : ReadingParts = x.0 in
    let stands : List Stand = reading.stands in
    let places : List Local = reading.draft.locals.places in
    let stands_count = h.stands_count in
    let locals_count = h.locals_count in
    let longer : length (done ++ file ∷ []) ≡ length done + 1 = length-append done (file ∷ []) in
    let more_stands : length (made.stands ++ stands ∷ []) ≡ length made.stands + 1 = length-append made.stands (stands ∷ []) in
    let more_locals : length (made.locals ++ places ∷ []) ≡ length made.locals + 1 = length-append made.locals (places ∷ []) in
    let each_file : (k : ℕ) → k < length (done ++ file ∷ [])
    → AreStood (slice_index_or (done ++ file ∷ []) k no_file).tokens (slice_index_or (done ++ file ∷ []) k no_file).statements
    (slice_index_or (made.stands ++ stands ∷ []) k []) (slice_index_or (made.locals ++ places ∷ []) k []) =
    λ k less. elim (cases_lt k (length done)) [
      | inl before ↦
          stood_same (slice_index_or done k no_file) (slice_index_or (done ++ file ∷ []) k no_file) (slice_index_or made.stands k []) (slice_index_or (made.stands ++ stands ∷ []) k [])
          (slice_index_or made.locals k []) (slice_index_or (made.locals ++ places ∷ []) k [])
          (sym (get_or_append_left done (file ∷ []) no_file k before)) (sym (get_or_append_left made.stands (stands ∷ []) [] k (omega arith)))
          (sym (get_or_append_left made.locals (places ∷ []) [] k (omega arith))) (h.each k before)
      | inr past ↦
          (let at : length done ≡ k = omega arith in
          let at_stands : length made.stands ≡ k = omega arith in
          let at_locals : length made.locals ≡ k = omega arith in
          let file_is : file ≡ slice_index_or (done ++ file ∷ []) k no_file = sym (subst (λ (n : ℕ). slice_index_or (done ++ file ∷ []) n no_file ≡ file) at (last_item done file no_file)) in
          let stands_are : stands ≡ slice_index_or (made.stands ++ stands ∷ []) k [] = sym (subst (λ (n : ℕ). slice_index_or (made.stands ++ stands ∷ []) n [] ≡ stands) at_stands (last_item made.stands stands [])) in
          let places_are : places ≡ slice_index_or (made.locals ++ places ∷ []) k [] = sym (subst (λ (n : ℕ). slice_index_or (made.locals ++ places ∷ []) n [] ≡ places) at_locals (last_item made.locals places [])) in
          stood_same file (slice_index_or (done ++ file ∷ []) k no_file) stands (slice_index_or (made.stands ++ stands ∷ []) k []) places (slice_index_or (made.locals ++ places ∷ []) k [])
          file_is stands_are places_are x.2)
    ] in
    subst (AreFilesStood (done ++ file ∷ [])) x.1 (record { stands_count = omega arith; locals_count = omega arith; each = each_file })

pub files_stood : (sections : SectionsParts) (files : List FileParts) (made : MadeParts) → made_of sections files ≡ Ok made → AreFilesStood files made
unfolding made_of
files_stood sections files made e =
    each_listed AreFilesStood (file_put sections) (λ done f p q h g. step_files sections done f p q h g) [] files no_made made
    (record { stands_count = refl; locals_count = refl; each = λ k less. absurd (omega arith) }) e
