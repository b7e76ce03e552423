-- Labels that are names over whole programs: each is a symbol of its file, and stays one.
use Rattle.std.proofs.Common.{◌≡◌, ℕ, ◌+◌, ◌*◌, ◌<◌, true, List, [], ◌∷◌, ◌++◌, length, slice_get, slice_index_or, Option, Some, None, Ok, refl, sym, ap, ◌∙◌, subst, inl, inr, arith}
use Rattle.std.proofs.lemmas.Bool.{cases_lt}
use Rattle.std.proofs.lemmas.List.{length-append, get_or_append_left}
use Rattle.asm_tokens.specs.Faults.{◌>>=◌}
use Rattle.asm_tokens.specs.Tokens.{TokenParts}
use Rattle.asm_expressions.specs.Tokens.{text_at}
use Rattle.asm_symbols.specs.declared.definitions.Meaning.TheVariants.{Place}
use Rattle.asm_symbols.specs.Definitions.{DefinitionParts}
use Rattle.asm_symbols.specs.Names.{no_names}
use Rattle.asm_chunks.specs.Chunks.{here_of}
use Rattle.asm_statements.specs.declared.statement.Body.TheVariants as bodies
use Rattle.asm_statements.specs.Marks.{is_name}
use Rattle.asm_statements.specs.Statements.{StatementParts}
use Rattle.asm_drafts.specs.declared.sections.Entry.{Entry}
use Rattle.asm_drafts.specs.Drafts.{DraftParts}
use Rattle.asm_drafts.specs.Kept.{kept_number}
use Rattle.asm_drafts.specs.Labels.{named, labels_put}
use Rattle.asm_drafts.specs.Statements.{body_put}
use Rattle.asm_files.specs.declared.stand.Stand.{Stand}
use Rattle.asm_files.specs.Faults.{of_file}
use Rattle.asm_files.specs.Steps.{each_from}
use Rattle.asm_files.specs.Stands.{opening_of, closing_of, statement_stood}
use Rattle.asm_files.specs.Sections.{SectionsParts, entry_of}
use Rattle.asm_files.specs.Programs.{FileParts, MadeParts, ProgramParts, own_in, stand_in, no_stand}
use Rattle.asm_files.specs.Files.{ReadingParts, with_stand, statement_step, statements_put, begun_draft, file_begun, file_ended, file_put, no_made, made_of}
use Rattle.asm_listable.proofs.Starts.{then_ok}
use Rattle.asm_promises.specs.Labels.{IsNamed}
use Rattle.asm_promises.proofs.Walk.{body_keeps}
use Rattle.asm_promises.proofs.Reading.{Phases, each_listed}
use Rattle.asm_promises.proofs.Sizes.{last_item}
use Rattle.asm_promises.proofs.Sound.{of_file_ok}
use Rattle.asm_promises.proofs.Locals.{no_file}
use Rattle.asm_promises.proofs.Sizes.{found}
use Rattle.asm_promises.proofs.Names.{StayKnown, stay, body_known, IsKnown, still_known, then_stay, labels_known}

-- ---- a file

-- each label of a statement that is a name is known, as the place where the statement stands
abbrev AreKnown : List TokenParts → StatementParts → Stand → DraftParts → Type 0
AreKnown tokens s stand parts =
    (k : ℕ) → k < s.labels → is_name tokens (s.first + 2 * k) ≡ true
    → IsKnown parts (s.first + 2 * k) (text_at tokens (s.first + 2 * k)) stand.chunk stand.offset

-- a statement, where it stands
record KnowsStatement (tokens : List TokenParts) (s : StatementParts) (before after : ReadingParts) : Type 0 where
  stand : Stand
  stands : before.stands ++ stand ∷ [] ≡ after.stands
  stays : StayKnown before.draft after.draft
  known : AreKnown tokens s stand after.draft

statement_known : (sections : SectionsParts) (tokens : List TokenParts) (number : ℕ) (s : StatementParts) (before after : ReadingParts)
    → statement_step sections tokens number s before ≡ Ok after → KnowsStatement tokens s before after
unfolding statement_step statement_stood opening_of closing_of
statement_known sections tokens number s before after e =
    let entry : Entry = entry_of sections tokens s in
    let x = then_ok (statement_stood tokens before.draft number s entry) (λ next. Ok (with_stand before next)) after e in
    let y = then_ok (labels_put tokens s.first s.labels before.draft)
    (λ labelled. body_put tokens labelled number s entry >>= λ made. Ok (made, closing_of made (opening_of labelled (kept_number tokens labelled s)))) x.0 x.1 in
    let z = then_ok (body_put tokens y.0 number s entry) (λ made. Ok (made, closing_of made (opening_of y.0 (kept_number tokens y.0 s)))) x.0 y.2 in
    let stand : Stand = closing_of z.0 (opening_of y.0 (kept_number tokens y.0 s)) in
    let pair_is : (z.0, stand) ≡ x.0 = (let k = z.2 in cc) in
    let is : with_stand before (z.0, stand) ≡ after = ap (λ (n : DraftParts × Stand). with_stand before n) pair_is ∙ (let k = x.2 in cc) in
    let same = labels_known tokens before.draft.chunks.here (here_of before.draft.chunks).size s.labels s.first before.draft y.0 refl refl y.1 in
    let knows = labels_known tokens stand.chunk stand.offset s.labels s.first before.draft y.0 (sym same.chunk_is) (sym same.offset_is) y.1 in
    let body : StayKnown y.0 z.0 = body_keeps tokens s entry (StayKnown y.0) (StayKnown y.0) (body_known tokens s.body entry y.0) y.0 z.0 (stay y.0) number z.1 in
    subst (KnowsStatement tokens s before) is
    (record {
      stand = stand;
      stands = refl;
      stays = then_stay tokens stand.chunk stand.offset before.draft y.0 z.0 knows.stays body;
      known = λ k less named. still_known y.0 z.0 (s.first + 2 * k) (text_at tokens (s.first + 2 * k)) stand.chunk stand.offset body (knows.known k less named);
    })

abbrev pub no_statement : StatementParts
no_statement = record { first = 0; labels = 0; body = bodies.Nothing; operands = []; nodes = []; fault = None }

-- those of all statements so far
record AllKnown (tokens : List TokenParts) (done : List StatementParts) (reading : ReadingParts) : Type 0 where
  count : length reading.stands ≡ length done
  each : (number : ℕ) → number < length done → AreKnown tokens (slice_index_or done number no_statement) (slice_index_or reading.stands number no_stand) reading.draft

known_same : (tokens : List TokenParts) (s u : StatementParts) (a b : Stand) (parts : DraftParts) → s ≡ u → a ≡ b → AreKnown tokens s a parts → AreKnown tokens u b parts
known_same tokens s u a b parts p q h =
    subst (λ (x : StatementParts). AreKnown tokens x b parts) p (subst (λ (x : Stand). AreKnown tokens s x parts) q h)

step_known : (sections : SectionsParts) (tokens : List TokenParts) (done : List StatementParts) (s : StatementParts) (before after : ReadingParts) → AllKnown tokens done before
    → statement_step sections tokens (length done) s before ≡ Ok after → AllKnown tokens (done ++ s ∷ []) after
step_known sections tokens done s before after h e =
    let knows = statement_known sections tokens (length done) s before after e in
    let stand : Stand = knows.stand in
    let count = h.count in
    let longer : length (done ++ s ∷ []) ≡ length done + 1 = length-append done (s ∷ []) in
    let more : length (before.stands ++ stand ∷ []) ≡ length before.stands + 1 = length-append before.stands (stand ∷ []) in
    let stands_is : length (before.stands ++ stand ∷ []) ≡ length after.stands = ap (λ (ss : List Stand). length ss) knows.stands in
    record {
      count = omega arith;
      each = λ k less. elim (cases_lt k (length done)) [
        | inl first ↦
            (let stand_is : slice_index_or before.stands k no_stand ≡ slice_index_or after.stands k no_stand =
            sym (get_or_append_left before.stands (stand ∷ []) no_stand k (omega arith)) ∙ ap (λ (ss : List Stand). slice_index_or ss k no_stand) knows.stands in
            let earlier = h.each k first in
            let kept : AreKnown tokens (slice_index_or done k no_statement) (slice_index_or before.stands k no_stand) after.draft =
            λ j few named. still_known before.draft after.draft _ _ _ _ knows.stays (earlier j few named) in
            known_same tokens (slice_index_or done k no_statement) (slice_index_or (done ++ s ∷ []) k no_statement) (slice_index_or before.stands k no_stand) (slice_index_or after.stands k no_stand) after.draft
            (sym (get_or_append_left done (s ∷ []) no_statement k first)) stand_is kept)
        | inr past ↦
            (let at : length done ≡ k = omega arith in
            let at_stands : length before.stands ≡ k = omega arith in
            let s_is : s ≡ slice_index_or (done ++ s ∷ []) k no_statement = sym (subst (λ (n : ℕ). slice_index_or (done ++ s ∷ []) n no_statement ≡ s) at (last_item done s no_statement)) in
            let last_is : stand ≡ slice_index_or (before.stands ++ stand ∷ []) k no_stand =
            sym (subst (λ (n : ℕ). slice_index_or (before.stands ++ stand ∷ []) n no_stand ≡ stand) at_stands (last_item before.stands stand no_stand)) in
            let stand_is : stand ≡ slice_index_or after.stands k no_stand = last_is ∙ ap (λ (ss : List Stand). slice_index_or ss k no_stand) knows.stands in
            known_same tokens s (slice_index_or (done ++ s ∷ []) k no_statement) stand (slice_index_or after.stands k no_stand) after.draft s_is stand_is knows.known)
      ];
    }

-- ---- all files

-- what one file makes known, which all later ones keep
record MakesKnown (file : FileParts) (made after : MadeParts) : Type 0 where
  reading : ReadingParts
  is : file_ended made reading ≡ after
  known : AllKnown file.tokens file.statements reading
  stays : (symbol : ℕ) (d : DefinitionParts) → slice_get made.symbols symbol ≡ Some d → slice_get reading.draft.symbols.definitions symbol ≡ Some d

file_known : (sections : SectionsParts) (number : ℕ) (file : FileParts) (made after : MadeParts) → file_put sections number file made ≡ Ok after → MakesKnown file made after
unfolding file_put statements_put file_begun
file_known sections number file made after e =
    let first : ReadingParts = record { draft = begun_draft sections.count number made; stands = [] } in
    let x = then_ok (of_file number (each_from (statement_step sections file.tokens) 0 file.statements first)) (λ reading. Ok (file_ended made reading)) after e in
    let read = of_file_ok number (each_from (statement_step sections file.tokens) 0 file.statements first) x.0 x.1 in
    let known = each_listed (λ done reading. AllKnown file.tokens done reading) (statement_step sections file.tokens) (λ done s p q h f. step_known sections file.tokens done s p q h f) [] file.statements first x.0
    (record { count = refl; each = λ k less. absurd (omega arith) }) read in
    let stays = each_listed (λ done (reading : ReadingParts). StayKnown first.draft reading.draft) (statement_step sections file.tokens)
    (λ done s p q h f. (let one = statement_known sections file.tokens (length done) s p q f in then_stay file.tokens 0 0 first.draft p.draft q.draft h one.stays)) [] file.statements first x.0 (stay first.draft) read in
    record { reading = x.0; is = (let k = x.2 in cc); known = known; stays = stays.there }

-- in the program so far, of the file of a number
record IsKnownIn (made : MadeParts) (file token : ℕ) (name : List ℕ) (chunk offset : ℕ) : Type 0 where
  symbol : ℕ
  definition : DefinitionParts
  own : slice_index_or made.own file no_names name ≡ Some symbol
  there : slice_get made.symbols symbol ≡ Some definition
  name_is : definition.name ≡ name
  token_is : definition.token ≡ token
  place : definition.meaning ≡ Place chunk offset

abbrev AreKnownIn : MadeParts → ℕ → FileParts → List Stand → Type 0
AreKnownIn made number file stands =
    (n k : ℕ) → n < length file.statements → k < (slice_index_or file.statements n no_statement).labels
    → is_name file.tokens ((slice_index_or file.statements n no_statement).first + 2 * k) ≡ true
    → IsKnownIn made number ((slice_index_or file.statements n no_statement).first + 2 * k) (text_at file.tokens ((slice_index_or file.statements n no_statement).first + 2 * k))
    (slice_index_or stands n no_stand).chunk (slice_index_or stands n no_stand).offset

-- the name that a label of a statement is
abbrev name_in : FileParts → ℕ → ℕ → List ℕ
name_in file n k = text_at file.tokens ((slice_index_or file.statements n no_statement).first + 2 * k)

record FilesKnown (files : List FileParts) (made : MadeParts) : Type 0 where
  stands_count : length made.stands ≡ length files
  own_count : length made.own ≡ length files
  each : (file : ℕ) → file < length files → AreKnownIn made file (slice_index_or files file no_file) (slice_index_or made.stands file [])

step_files : (sections : SectionsParts) (done : List FileParts) (file : FileParts) (made after : MadeParts) → FilesKnown done made
    → file_put sections (length done) file made ≡ Ok after → FilesKnown (done ++ file ∷ []) after
unfolding file_ended
step_files sections done file made after h e =
    let x = file_known sections (length done) file made after e in
    let reading : ReadingParts = x.reading in
    let next : MadeParts = file_ended made reading in
    let stands_count = h.stands_count in
    let own_count = h.own_count in
    let longer : length (done ++ file ∷ []) ≡ length done + 1 = length-append done (file ∷ []) in
    let more_stands : length (made.stands ++ reading.stands ∷ []) ≡ length made.stands + 1 = length-append made.stands (reading.stands ∷ []) in
    let more_own : length (made.own ++ reading.draft.symbols.own ∷ []) ≡ length made.own + 1 = length-append made.own (reading.draft.symbols.own ∷ []) in
    let each_file : (k : ℕ) → k < length (done ++ file ∷ []) → AreKnownIn next k (slice_index_or (done ++ file ∷ []) k no_file) (slice_index_or (made.stands ++ reading.stands ∷ []) k []) =
    λ k less. elim (cases_lt k (length done)) [
      | inl first ↦
          (let file_is : slice_index_or done k no_file ≡ slice_index_or (done ++ file ∷ []) k no_file = sym (get_or_append_left done (file ∷ []) no_file k first) in
          let stands_are : slice_index_or made.stands k [] ≡ slice_index_or (made.stands ++ reading.stands ∷ []) k [] = sym (get_or_append_left made.stands (reading.stands ∷ []) [] k (omega arith)) in
          let own_is : slice_index_or (made.own ++ reading.draft.symbols.own ∷ []) k no_names ≡ slice_index_or made.own k no_names = get_or_append_left made.own (reading.draft.symbols.own ∷ []) no_names k (omega arith) in
          let kept : AreKnownIn next k (slice_index_or done k no_file) (slice_index_or made.stands k []) =
          λ n j few small named. (let one = h.each k first n j few small named in
          record {
            symbol = one.symbol;
            definition = one.definition;
            own = ap (λ (names : List ℕ → Option ℕ). names (name_in (slice_index_or done k no_file) n j)) own_is ∙ one.own;
            there = x.stays one.symbol one.definition one.there;
            name_is = one.name_is;
            token_is = one.token_is;
            place = one.place;
          }) in
          subst (λ (ss : List Stand). AreKnownIn next k (slice_index_or (done ++ file ∷ []) k no_file) ss) stands_are
          (subst (λ (f : FileParts). AreKnownIn next k f (slice_index_or made.stands k [])) file_is kept))
      | inr past ↦
          (let at : length done ≡ k = omega arith in
          let at_stands : length made.stands ≡ k = omega arith in
          let at_own : length made.own ≡ k = omega arith in
          let file_is : file ≡ slice_index_or (done ++ file ∷ []) k no_file = sym (subst (λ (n : ℕ). slice_index_or (done ++ file ∷ []) n no_file ≡ file) at (last_item done file no_file)) in
          let stands_are : reading.stands ≡ slice_index_or (made.stands ++ reading.stands ∷ []) k [] =
          sym (subst (λ (n : ℕ). slice_index_or (made.stands ++ reading.stands ∷ []) n [] ≡ reading.stands) at_stands (last_item made.stands reading.stands [])) in
          let own_is : slice_index_or (made.own ++ reading.draft.symbols.own ∷ []) k no_names ≡ reading.draft.symbols.own =
          subst (λ (n : ℕ). slice_index_or (made.own ++ reading.draft.symbols.own ∷ []) n no_names ≡ reading.draft.symbols.own) at_own (last_item made.own reading.draft.symbols.own no_names) in
          let kept : AreKnownIn next k file reading.stands =
          λ n j few small named. (let one = x.known.each n few j small named in
          record {
            symbol = one.symbol;
            definition = one.definition;
            own = ap (λ (names : List ℕ → Option ℕ). names (name_in file n j)) own_is ∙ one.own;
            there = one.there;
            name_is = one.name_is;
            token_is = one.token_is;
            place = one.place;
          }) in
          subst (λ (ss : List Stand). AreKnownIn next k (slice_index_or (done ++ file ∷ []) k no_file) ss) stands_are
          (subst (λ (f : FileParts). AreKnownIn next k f reading.stands) file_is kept))
    ] in
    subst (FilesKnown (done ++ file ∷ [])) x.is (record { stands_count = omega arith; own_count = omega arith; each = each_file })

files_known : (sections : SectionsParts) (files : List FileParts) (made : MadeParts) → made_of sections files ≡ Ok made → FilesKnown files made
unfolding made_of
files_known sections files made e =
    each_listed FilesKnown (file_put sections) (λ done f p q h g. step_files sections done f p q h g) [] files no_made made
    (record { stands_count = refl; own_count = refl; each = λ k less. absurd (omega arith) }) e

-- ---- a program

pub label_named : (texts : List (List ℕ)) (program : ProgramParts) (file number k : ℕ) (f : FileParts) (s : StatementParts) → Phases texts program → slice_get program.files file ≡ Some f
    → slice_get f.statements number ≡ Some s → k < s.labels → is_name f.tokens (s.first + 2 * k) ≡ true
    → IsNamed program file (s.first + 2 * k) (text_at f.tokens (s.first + 2 * k)) (stand_in program file number)
unfolding own_in stand_in
label_named texts program file number k f s phases f_is s_is less named =
    let all = files_known _ program.files program.made phases.made in
    let file_found = found program.files file f no_file f_is in
    let s_found = found f.statements number s no_statement s_is in
    let known : AreKnownIn program.made file f (slice_index_or program.made.stands file []) =
    subst (λ (g : FileParts). AreKnownIn program.made file g (slice_index_or program.made.stands file [])) file_found.1 (all.each file file_found.0) in
    let Holds : StatementParts → Type 0 = λ u. k < u.labels → is_name f.tokens (u.first + 2 * k) ≡ true
    → IsKnownIn program.made file (u.first + 2 * k) (text_at f.tokens (u.first + 2 * k)) (slice_index_or (slice_index_or program.made.stands file []) number no_stand).chunk
    (slice_index_or (slice_index_or program.made.stands file []) number no_stand).offset in
    let one = subst Holds s_found.1 (λ few there. known number k s_found.0 few there) less named in
    record {
      symbol = one.symbol;
      definition = one.definition;
      own = one.own;
      there = one.there;
      name_is = one.name_is;
      token_is = one.token_is;
      place = one.place;
    }
