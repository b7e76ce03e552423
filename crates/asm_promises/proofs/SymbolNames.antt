-- The names of symbols are names as maps have them.
use Rattle.std.proofs.Common.{◌≡◌, ℕ, ◌+◌, ◌<◌, ◌&&◌, Bool, true, false, cond, List, [], ◌∷◌, length, slice_get, Option, Some, None, Ok, Err, All, bytes_eq, refl, sym, ap, ◌∙◌, subst, arith}
use Rattle.std.specs.Prelude.{◌||◌}
use Rattle.std.specs.List.{list_all}
use Rattle.std.specs.Str.{is_utf8}
use Rattle.std.specs.Char.{is_ascii_digit}
use Rattle.std.specs.Option.{is_none}
use Rattle.std.proofs.lemmas.Bool.{and_parts}
use Rattle.std.proofs.lemmas.Bool.Decides.{nat_tests}
use Rattle.std.proofs.lemmas.List.Elements.{All-nil, All-cons, All-head, All-tail, All-push}
use Rattle.std.proofs.lemmas.Slice.Eq.{bytes_eq-Decides}
use Rattle.std.proofs.lemmas.Str.{IsUtf8-from_ascii, is_utf8-from_IsUtf8}
use Rattle.std.proofs.lemmas.Str.Ascii.{IsAscii-from_all}
use Rattle.asm_map_reader.specs.Words.{is_symbol}
use Rattle.asm_tokens.specs.declared.token.TokenKind.{TokenKind}
use Rattle.asm_tokens.specs.declared.token.TokenKind.TheVariants as kinds
use Rattle.asm_tokens.specs.Bytes.{is_name_start, is_name_byte}
use Rattle.asm_tokens.specs.Tokens.{TokenParts}
use Rattle.asm_expressions.specs.Tokens.{text_or_none, kind_or_end, kind_at, text_at}
use Rattle.asm_symbols.specs.Definitions.{DefinitionParts, with_symbol}
use Rattle.asm_symbols.specs.Globals.{is_wanted, published}
use Rattle.asm_symbols.specs.Names.{first_of, no_names, defined}
use Rattle.asm_symbols.specs.declared.globals.PublishFault.{PublishFault}
use Rattle.asm_statements.specs.declared.statement.Body.{Body}
use Rattle.asm_statements.specs.declared.statement.Body.TheVariants as bodies
use Rattle.asm_statements.specs.Marks.{name_kind, is_name, is_number}
use Rattle.asm_statements.specs.Statements.{StatementParts, is_decimal, is_plain_name, is_label}
use Rattle.asm_drafts.specs.declared.sections.Entry.{Entry}
use Rattle.asm_drafts.specs.Drafts.{DraftParts, with_symbols}
use Rattle.asm_files.specs.Faults.{of_file}
use Rattle.asm_files.specs.Steps.{each_from}
use Rattle.asm_files.specs.Stands.{statement_stood}
use Rattle.asm_files.specs.Sections.{SectionsParts, entry_of}
use Rattle.asm_files.specs.Programs.{FileParts, MadeParts}
use Rattle.asm_files.specs.Files.{ReadingParts, with_stand, statement_step, statements_put, begun_draft, file_begun, file_ended, file_put, no_made, made_of}
use Rattle.asm_listable.proofs.Starts.{then_ok}
use Rattle.asm_promises.proofs.Late.{got}
use Rattle.asm_promises.proofs.Reading.{each_numbered}
use Rattle.asm_promises.proofs.Sound.{IsNamedBody, IsNamedStatement, IsSoundFile, of_file_ok}
use Rattle.asm_promises.proofs.Tokens.{IsNamedKind, IsNamedToken}
use Rattle.asm_promises.proofs.Walk.{LabelsKeep, BodyKeeps, stood_keeps}

-- ---- names

-- a name as maps have it
pub record IsSymbolName (name : List ℕ) : Type 0 where
  pub symbol : is_symbol name ≡ true
  pub text : is_utf8 name ≡ true

start_small : (b : ℕ) → is_name_start b ≡ true → b < 128
unfolding is_name_start
start_small b h = grind (arith, nat_tests)

byte_small : (b : ℕ) → is_name_byte b ≡ true → b < 128
unfolding is_name_byte
byte_small b h = by (is_name_start b) refl h
  where
    digit_small : is_ascii_digit b ≡ true → b < 128
    digit_small d = grind (arith, nat_tests)

    by : (start : Bool) → is_name_start b ≡ start → (start || is_ascii_digit b) ≡ true → b < 128
    by true s e = start_small b s
    by false s e = digit_small e

all_small : (name : List ℕ) → list_all is_name_byte name ≡ true → All (λ b. b < 128) name
all_small [] h = All-nil (λ b. b < 128)
all_small (b ∷ name) h =
    let both = and_parts (is_name_byte b) (list_all is_name_byte name) h in
    All-cons (λ c. c < 128) b name (byte_small b both.0) (all_small name both.1)

symbol_name : (name : List ℕ) → is_symbol name ≡ true → IsSymbolName name
symbol_name name h =
    let bytes = (and_parts _ (list_all is_name_byte name) h).1 in
    record { symbol = h; text = is_utf8-from_IsUtf8 name (IsUtf8-from_ascii name (IsAscii-from_all name (all_small name bytes))) }

named_kind : (kind : TokenKind) (text : List ℕ) → name_kind kind ≡ true → IsNamedKind kind text → is_symbol text ≡ true
named_kind kinds.Name text n h = h
named_kind kind text n h = absurd (cc)

named_or_none : (o : Option TokenParts) (tokens : List TokenParts) (at : ℕ) → slice_get tokens at ≡ o → ((token : TokenParts) → o ≡ Some token → IsNamedToken token)
    → is_name tokens at ≡ true → IsSymbolName (text_at tokens at)
unfolding is_name kind_at text_at
named_or_none (Some token) tokens at g h n =
    let kind : name_kind token.kind ≡ true = sym (ap (λ (o : Option TokenParts). name_kind (kind_or_end o)) g) ∙ n in
    let named = symbol_name token.text (named_kind token.kind token.text kind (h token refl)) in
    let is : token.text ≡ text_at tokens at = sym (ap text_or_none g) in
    subst IsSymbolName is named
named_or_none None tokens at g h n =
    let clash : false ≡ true = sym (ap (λ (o : Option TokenParts). name_kind (kind_or_end o)) g) ∙ n in absurd (cc)

-- the text of a token that is a name
pub name_at : (tokens : List TokenParts) (at : ℕ) → All IsNamedToken tokens → is_name tokens at ≡ true → IsSymbolName (text_at tokens at)
name_at tokens at h n = named_or_none (slice_get tokens at) tokens at refl (λ token e. got IsNamedToken tokens at token h e) n

label_by : (plain decimal colon : Bool) → ((plain || decimal) && colon) ≡ true → decimal ≡ false → plain ≡ true
label_by true decimal colon e d = refl
label_by false true colon e d = absurd (cc)
label_by false false colon e d = absurd (cc)

-- a label that is no number
label_name : (tokens : List TokenParts) (at : ℕ) → is_label tokens at ≡ true → is_number tokens at ≡ false → is_name tokens at ≡ true
unfolding is_label is_plain_name is_decimal
label_name tokens at l n =
    let none : is_decimal tokens at ≡ false = rw n refl in
    let plain : is_plain_name tokens at ≡ true = label_by (is_plain_name tokens at) (is_decimal tokens at) _ l none in
    (and_parts (is_name tokens at) _ plain).0

-- ---- drafts

-- the names of symbols, and those by which a file has them
record HasNames (parts : DraftParts) : Type 0 where
  names : All (λ (d : DefinitionParts). IsSymbolName d.name) parts.symbols.definitions
  own : (name : List ℕ) (symbol : ℕ) → parts.symbols.own name ≡ Some symbol → IsSymbolName name

defined_by : (names : List ℕ → Option ℕ) (name query : List ℕ) (number symbol : ℕ) → IsSymbolName name → ((q : List ℕ) (n : ℕ) → names q ≡ Some n → IsSymbolName q)
    → defined names name number query ≡ Some symbol → IsSymbolName query
unfolding defined
defined_by names name query number symbol h k e = by (names query) refl e
  where
    same : (test : Bool) → bytes_eq name query ≡ test → cond test (Some number) None ≡ Some symbol → IsSymbolName query
    same true t f = subst IsSymbolName ((bytes_eq-Decides name query).0 t) h
    same false t f = absurd (cc)

    by : (o : Option ℕ) → names query ≡ o → first_of o (cond (bytes_eq name query) (Some number) None) ≡ Some symbol → IsSymbolName query
    by (Some n) g f = k query n g
    by None g f = same (bytes_eq name query) refl f

named_symbol : (parts : DraftParts) (d : DefinitionParts) → HasNames parts → IsSymbolName d.name → HasNames (with_symbols parts (with_symbol parts.symbols d))
named_symbol parts d h n =
    record {
      names = All-push (λ (c : DefinitionParts). IsSymbolName c.name) parts.symbols.definitions d h.names n;
      own = λ name symbol e. defined_by parts.symbols.own d.name name (length parts.symbols.definitions) symbol n h.own e;
    }

module _ (tokens : List TokenParts) (named : All IsNamedToken tokens) where
  labels_named : LabelsKeep tokens (λ at. is_label tokens at ≡ true) HasNames
  labels_named =
      record {
        local = λ parts at l h. record { names = h.names; own = h.own };
        name = λ parts at l n free h. named_symbol parts _ h (name_at tokens at named (label_name tokens at l n));
      }

  set_name : (body : Body) (at : ℕ) → IsNamedBody tokens body → body ≡ bodies.Set at → IsSymbolName (text_at tokens at)
  set_name body at h b = name_at tokens at named (subst (IsNamedBody tokens) b h)

  common_name : (body : Body) (at : ℕ) → IsNamedBody tokens body → body ≡ bodies.Comm at → IsSymbolName (text_at tokens at)
  common_name body at h b = name_at tokens at named (subst (IsNamedBody tokens) b h)

  body_named : (body : Body) (entry : Entry) → IsNamedBody tokens body → BodyKeeps tokens body entry HasNames HasNames
  body_named body entry k =
      record {
        kept = λ parts h. h;
        entered = λ parts flags chunks h e. record { names = h.names; own = h.own };
        back = λ parts h. record { names = h.names; own = h.own };
        set = λ parts at number early b free h. named_symbol parts _ h (set_name body at k b);
        common = λ parts at size align b few small free h. (let one = named_symbol parts _ h (common_name body at k b) in record { names = one.names; own = one.own });
        wanted = λ parts name h. record { names = h.names; own = h.own };
        grown = λ parts count chunks whole h e. record { names = h.names; own = h.own };
        padded = λ parts unit most chunks small is h e. record { names = h.names; own = h.own };
        raised = λ parts h. record { names = h.names; own = h.own };
      }

  step_named : (sections : SectionsParts) (number : ℕ) (s : StatementParts) (reading after : ReadingParts) → IsNamedStatement tokens s → HasNames reading.draft
      → statement_step sections tokens number s reading ≡ Ok after → HasNames after.draft
  unfolding statement_step
  step_named sections number s reading after k h e =
      let x = then_ok (statement_stood tokens reading.draft number s (entry_of sections tokens s)) (λ next. Ok (with_stand reading next)) after e in
      let is : with_stand reading x.0 ≡ after = (let f = x.2 in cc) in
      subst (λ (r : ReadingParts). HasNames r.draft) is
      (stood_keeps tokens s (entry_of sections tokens s) (λ at. is_label tokens at ≡ true) HasNames HasNames labels_named (body_named s.body (entry_of sections tokens s) k.body) k.labels reading.draft number x.0 h x.1)

-- ---- programs

-- names that mean symbols are names as maps have them
abbrev pub NamesOnly : (List ℕ → Option ℕ) → Type 0
NamesOnly names = (name : List ℕ) (symbol : ℕ) → names name ≡ Some symbol → IsSymbolName name

pub record IsNamedMade (made : MadeParts) : Type 0 where
  pub names : All (λ (d : DefinitionParts). IsSymbolName d.name) made.symbols
  pub own : All NamesOnly made.own

none_named : NamesOnly no_names
none_named name symbol e = absurd (cc)

file_named : (sections : SectionsParts) (number : ℕ) (file : FileParts) (made after : MadeParts) → IsSoundFile file → IsNamedMade made
    → file_put sections number file made ≡ Ok after → IsNamedMade after
unfolding file_put statements_put file_begun file_ended
file_named sections number file made after r h e =
    let first : ReadingParts = record { draft = begun_draft sections.count number made; stands = [] } in
    let x = then_ok (of_file number (each_from (statement_step sections file.tokens) 0 file.statements first)) (λ reading. Ok (file_ended made reading)) after e in
    let start : HasNames first.draft = record { names = h.names; own = λ name symbol f. none_named name symbol f } in
    let named = each_numbered (IsNamedStatement file.tokens) (λ n (reading : ReadingParts). HasNames reading.draft) (statement_step sections file.tokens)
    (λ n s p q k g f. step_named file.tokens r.tokens sections n s p q k g f) 0 file.statements first x.0 r.named start
    (of_file_ok number (each_from (statement_step sections file.tokens) 0 file.statements first) x.0 x.1) in
    let is : file_ended made x.0 ≡ after = (let k = x.2 in cc) in
    subst IsNamedMade is (record { names = named.names; own = All-push NamesOnly made.own x.0.draft.symbols.own h.own named.own })

pub made_named : (sections : SectionsParts) (files : List FileParts) (made : MadeParts) → All IsSoundFile files → made_of sections files ≡ Ok made → IsNamedMade made
unfolding made_of
made_named sections files made r e =
    each_numbered IsSoundFile (λ n made. IsNamedMade made) (file_put sections) (λ n f p q k h g. file_named sections n f p q k h g) 0 files no_made made r
    (record { names = All-nil (λ (d : DefinitionParts). IsSymbolName d.name); own = All-nil NamesOnly }) e

-- ---- the names that all files see

module _ (wanted : ℕ → List ℕ → Option ℕ) where
  publish_by : (want free : Bool) (number : ℕ) (names after : List ℕ → Option ℕ) (d : DefinitionParts) (symbols : List DefinitionParts) (fault : PublishFault)
      → (published wanted (number + 1) (defined names d.name number) symbols ≡ Ok after → NamesOnly after) → (published wanted (number + 1) names symbols ≡ Ok after → NamesOnly after)
      → cond want (cond free (published wanted (number + 1) (defined names d.name number) symbols) (Err fault)) (published wanted (number + 1) names symbols) ≡ Ok after
      → NamesOnly after
  publish_by true true number names after d symbols fault h k e = h e
  publish_by true false number names after d symbols fault h k e = absurd (cc)
  publish_by false free number names after d symbols fault h k e = k e

  pub published_names : (number : ℕ) (names after : List ℕ → Option ℕ) (symbols : List DefinitionParts) → All (λ (d : DefinitionParts). IsSymbolName d.name) symbols → NamesOnly names
      → published wanted number names symbols ≡ Ok after → NamesOnly after
  unfolding published
  published_names number names after [] h k e = let is : names ≡ after = cc in subst NamesOnly is k
  published_names number names after (d ∷ symbols) h k e =
      let head = All-head (λ (c : DefinitionParts). IsSymbolName c.name) d symbols h in
      let tail = All-tail (λ (c : DefinitionParts). IsSymbolName c.name) d symbols h in
      publish_by (is_wanted wanted d) (is_none (names d.name)) number names after d symbols _
      (λ f. published_names (number + 1) (defined names d.name number) after symbols tail (λ name symbol g. defined_by names d.name name number symbol head k g) f)
      (λ f. published_names (number + 1) names after symbols tail k f) e
