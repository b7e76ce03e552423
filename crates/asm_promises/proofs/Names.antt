-- Labels that are names: each is a symbol, a place where its statement stands.
use Rattle.std.proofs.Common.{◌≡◌, ℕ, zero, suc, ◌+◌, ◌*◌, ◌<◌, ◌≤◌, ◌⊎◌, nat_lt, Bool, true, false, cond, List, [], ◌∷◌, ◌++◌, length, slice_get, Option, Some, None, Ok, refl, sym, ap, ◌∙◌, subst, inl, inr, bytes_eq, arith}
use Rattle.std.specs.Option.{is_none}
use Rattle.std.proofs.lemmas.Bool.Decides.{nat_tests}
use Rattle.std.proofs.lemmas.Option.{slice_get_past}
use Rattle.std.proofs.lemmas.Slice.Eq.{bytes_eq-Decides}
use Rattle.canonical.proofs.round_trip.Ranges.{test_true}
use Rattle.asm_tokens.specs.declared.fault.AsmFaultKind.TheVariants as faults
use Rattle.asm_tokens.specs.declared.token.TokenKind.{TokenKind}
use Rattle.asm_tokens.specs.declared.token.TokenKind.TheVariants as kinds
use Rattle.asm_tokens.specs.Faults.{◌>>=◌}
use Rattle.asm_tokens.specs.Tokens.{TokenParts}
use Rattle.asm_expressions.specs.Tokens.{kind_or_end, kind_at, text_at, fault_at}
use Rattle.asm_symbols.specs.declared.definitions.Meaning.TheVariants.{Place}
use Rattle.asm_symbols.specs.Definitions.{DefinitionParts, with_symbol, label_symbol}
use Rattle.asm_symbols.specs.Locals.{with_local}
use Rattle.asm_symbols.specs.Names.{first_of, defined}
use Rattle.asm_chunks.specs.Chunks.{here_of}
use Rattle.asm_statements.specs.declared.statement.Body.{Body}
use Rattle.asm_statements.specs.Marks.{name_kind, is_name}
use Rattle.asm_drafts.specs.declared.sections.Entry.{Entry}
use Rattle.asm_drafts.specs.Drafts.{DraftParts, with_symbols, with_locals}
use Rattle.asm_drafts.specs.Labels.{named, local_here, locally_labelled, labelled_kind, labelled, labels_put}
use Rattle.asm_listable.proofs.Starts.{then_ok}
use Rattle.asm_promises.proofs.Walk.{BodyKeeps}

-- ---- what is known stays known

pub got_first : {X : Type 0} (xs : List X) (y : X) (n : ℕ) (x : X) → slice_get xs n ≡ Some x → slice_get (xs ++ y ∷ []) n ≡ Some x
got_first [] y n x e = absurd (cc)
got_first (z ∷ xs) y zero x e = e
got_first (z ∷ xs) y (suc n) x e = got_first xs y n x e

pub got_last : {X : Type 0} (xs : List X) (x : X) → slice_get (xs ++ x ∷ []) (length xs) ≡ Some x
got_last [] x = refl
got_last (y ∷ xs) x = got_last xs x

-- symbols and a file's names, of which all are still there
pub record StayKnown (before after : DraftParts) : Type 0 where
  pub own : (name : List ℕ) (symbol : ℕ) → before.symbols.own name ≡ Some symbol → after.symbols.own name ≡ Some symbol
  pub there : (symbol : ℕ) (d : DefinitionParts) → slice_get before.symbols.definitions symbol ≡ Some d → slice_get after.symbols.definitions symbol ≡ Some d

pub stay : (parts : DraftParts) → StayKnown parts parts
stay parts = record { own = λ name symbol e. e; there = λ symbol d e. e }

own_more : (o later : Option ℕ) (symbol : ℕ) → o ≡ Some symbol → first_of o later ≡ Some symbol
own_more (Some number) later symbol e = e
own_more None later symbol e = absurd (cc)

-- one more symbol
module _ (before parts : DraftParts) (h : StayKnown before parts) where
  defined_known : (d : DefinitionParts) → StayKnown before (with_symbols parts (with_symbol parts.symbols d))
  unfolding defined
  defined_known d =
      record {
        own = λ name symbol e. own_more (parts.symbols.own name) _ symbol (h.own name symbol e);
        there = λ symbol one e. got_first parts.symbols.definitions d symbol one (h.there symbol one e);
      }

pub body_known : (tokens : List TokenParts) (body : Body) (entry : Entry) (before : DraftParts) → BodyKeeps tokens body entry (StayKnown before) (StayKnown before)
body_known tokens body entry before =
    record {
      kept = λ parts h. h;
      entered = λ parts flags chunks h e. record { own = h.own; there = h.there };
      back = λ parts h. record { own = h.own; there = h.there };
      set = λ parts at number early b free h. defined_known before parts h _;
      common = λ parts at size align b few small free h. (let k = defined_known before parts h _ in record { own = k.own; there = k.there });
      wanted = λ parts name h. record { own = h.own; there = h.there };
      grown = λ parts count chunks whole h e. record { own = h.own; there = h.there };
      padded = λ parts unit most chunks small is h e. record { own = h.own; there = h.there };
      raised = λ parts h. record { own = h.own; there = h.there };
    }

-- ---- the labels of a statement

-- a name that is known, as a place
pub record IsKnown (parts : DraftParts) (token : ℕ) (name : List ℕ) (chunk offset : ℕ) : Type 0 where
  pub symbol : ℕ
  pub definition : DefinitionParts
  pub own : parts.symbols.own name ≡ Some symbol
  pub there : slice_get parts.symbols.definitions symbol ≡ Some definition
  pub name_is : definition.name ≡ name
  pub token_is : definition.token ≡ token
  pub place : definition.meaning ≡ Place chunk offset

pub still_known : (before after : DraftParts) (token : ℕ) (name : List ℕ) (chunk offset : ℕ) → StayKnown before after → IsKnown before token name chunk offset
    → IsKnown after token name chunk offset
still_known before after token name chunk offset h k =
    record {
      symbol = k.symbol;
      definition = k.definition;
      own = h.own name k.symbol k.own;
      there = h.there k.symbol k.definition k.there;
      name_is = k.name_is;
      token_is = k.token_is;
      place = k.place;
    }

none_is : (o : Option ℕ) → is_none o ≡ true → o ≡ None
none_is (Some n) e = absurd (cc)
none_is None e = refl

own_new : (names : List ℕ → Option ℕ) (name : List ℕ) (number : ℕ) → is_none (names name) ≡ true → defined names name number name ≡ Some number
unfolding defined
own_new names name number free =
    let none : names name ≡ None = none_is (names name) free in
    let same : bytes_eq name name ≡ true = (bytes_eq-Decides name name).1 refl in
    ap (λ (o : Option ℕ). first_of o (cond (bytes_eq name name) (Some number) None)) none ∙ ap (λ (b : Bool). cond b (Some number) None) same

module _ (tokens : List TokenParts) (chunk offset : ℕ) where
  -- what labels of which so many are, from a token on, make known
  pub record Knows (more at : ℕ) (before after : DraftParts) : Type 0 where
    pub stays : StayKnown before after
    pub chunk_is : chunk ≡ after.chunks.here
    pub offset_is : offset ≡ (here_of after.chunks).size
    pub known : (k : ℕ) → k < more → is_name tokens (at + 2 * k) ≡ true → IsKnown after (at + 2 * k) (text_at tokens (at + 2 * k)) chunk offset

  -- the label of a token
  record KnowsOne (at : ℕ) (before after : DraftParts) : Type 0 where
    stays : StayKnown before after
    chunk_is : chunk ≡ after.chunks.here
    offset_is : offset ≡ (here_of after.chunks).size
    known : is_name tokens at ≡ true → IsKnown after at (text_at tokens at) chunk offset

  no_name : (at : ℕ) (n : Option ℕ) → kind_at tokens at ≡ kinds.Number n → is_name tokens at ≡ true → ⊥
  unfolding is_name
  no_name at n k e = let clash : false ≡ true = sym (ap name_kind k) ∙ e in absurd (cc)

  kind_knows : (parts after : DraftParts) (at : ℕ) (kind : TokenKind) → kind_at tokens at ≡ kind → chunk ≡ parts.chunks.here → offset ≡ (here_of parts.chunks).size
      → labelled_kind tokens parts at kind ≡ Ok after → KnowsOne at parts after
  unfolding locally_labelled named
  kind_knows parts after at (kinds.Number n) k c o e =
      let next : DraftParts = with_locals parts (with_local parts.locals (text_at tokens at) (local_here parts at)) in
      let is : next ≡ after = cc in
      let same : StayKnown parts next = record { own = λ name symbol f. f; there = λ symbol d f. f } in
      subst (KnowsOne at parts) is (record { stays = same; chunk_is = c; offset_is = o; known = λ named. absurd (no_name at n k named) })
  kind_knows parts after at kind k c o e =
      let d : DefinitionParts = label_symbol parts.symbols (text_at tokens at) at parts.chunks.here (here_of parts.chunks).size in
      let x = test_true (is_none (parts.symbols.own d.name)) (Ok (with_symbols parts (with_symbol parts.symbols d))) (fault_at tokens faults.Twice at) after e in
      let next : DraftParts = with_symbols parts (with_symbol parts.symbols d) in
      let is : next ≡ after = (let k = x.1 in cc) in
      let place : Place parts.chunks.here (here_of parts.chunks).size ≡ Place chunk offset = ap (λ (n : ℕ). Place n (here_of parts.chunks).size) (sym c) ∙ ap (λ (n : ℕ). Place chunk n) (sym o) in
      let one : IsKnown next at (text_at tokens at) chunk offset =
      record {
        symbol = length parts.symbols.definitions;
        definition = d;
        own = own_new parts.symbols.own (text_at tokens at) (length parts.symbols.definitions) x.0;
        there = got_last parts.symbols.definitions d;
        name_is = refl;
        token_is = refl;
        place = place;
      } in
      subst (KnowsOne at parts) is (record { stays = defined_known parts parts (stay parts) d; chunk_is = c; offset_is = o; known = λ named. one })

  pub then_stay : (a b c : DraftParts) → StayKnown a b → StayKnown b c → StayKnown a c
  then_stay a b c h k =
      record {
        own = λ name symbol e. k.own name symbol (h.own name symbol e);
        there = λ symbol d e. k.there symbol d (h.there symbol d e);
      }

  known_by : (more at k : ℕ) (a b c : DraftParts) → KnowsOne at a b → Knows more (at + 2) b c → k < suc more → is_name tokens (at + 2 * k) ≡ true
      → IsKnown c (at + 2 * k) (text_at tokens (at + 2 * k)) chunk offset
  known_by more at zero a b c one rest less named =
      let is : at ≡ at + 2 * 0 = omega arith in
      let here : is_name tokens at ≡ true = subst (λ (n : ℕ). is_name tokens n ≡ true) (sym is) named in
      subst (λ (n : ℕ). IsKnown c n (text_at tokens n) chunk offset) is (still_known b c at (text_at tokens at) chunk offset rest.stays (one.known here))
  known_by more at (suc k) a b c one rest less named =
      let is : at + 2 + 2 * k ≡ at + 2 * suc k = omega arith in
      let later : is_name tokens (at + 2 + 2 * k) ≡ true = subst (λ (n : ℕ). is_name tokens n ≡ true) (sym is) named in
      subst (λ (n : ℕ). IsKnown c n (text_at tokens n) chunk offset) is (rest.known k (omega arith) later)

  then_knows : (more at : ℕ) (a b c : DraftParts) → KnowsOne at a b → Knows more (at + 2) b c → Knows (suc more) at a c
  then_knows more at a b c one rest =
      record {
        stays = then_stay a b c one.stays rest.stays;
        chunk_is = rest.chunk_is;
        offset_is = rest.offset_is;
        known = λ k less named. known_by more at k a b c one rest less named;
      }

  past_name : (at : ℕ) → length tokens ≤ at → is_name tokens at ≡ true → ⊥
  unfolding is_name kind_at
  past_name at past named =
      let none : slice_get tokens at ≡ None = slice_get_past tokens at past in
      let clash : false ≡ true = sym (ap (λ (o : Option TokenParts). name_kind (kind_or_end o)) none) ∙ named in absurd (cc)

  none_known : (more at : ℕ) (parts after : DraftParts) → (more ≡ 0) ⊎ (length tokens ≤ at) → chunk ≡ parts.chunks.here → offset ≡ (here_of parts.chunks).size
      → parts ≡ after → Knows more at parts after
  none_known more at parts after none c o is =
      subst (Knows more at parts) is (record {
        stays = stay parts;
        chunk_is = c;
        offset_is = o;
        known = λ k less named. elim none [
          | inl zero_is ↦ absurd (omega arith)
          | inr past ↦ absurd (past_name (at + 2 * k) (omega arith) named)
        ];
      })

  more_by : (test : Bool) (parts after : DraftParts) (at more : ℕ) → nat_lt at (length tokens) ≡ test → chunk ≡ parts.chunks.here → offset ≡ (here_of parts.chunks).size
      → ((next : DraftParts) → chunk ≡ next.chunks.here → offset ≡ (here_of next.chunks).size → labels_put tokens (at + 2) more next ≡ Ok after → Knows more (at + 2) next after)
      → cond test (labelled tokens parts at >>= λ next. labels_put tokens (at + 2) more next) (Ok parts) ≡ Ok after → Knows (suc more) at parts after
  unfolding labelled
  more_by true parts after at more t c o later e =
      let x = then_ok (labelled_kind tokens parts at (kind_at tokens at)) (λ next. labels_put tokens (at + 2) more next) after e in
      let one = kind_knows parts x.0 at (kind_at tokens at) refl c o x.1 in
      then_knows more at parts x.0 after one (later x.0 one.chunk_is one.offset_is x.2)
  more_by false parts after at more t c o later e =
      let past : length tokens ≤ at = grind (arith, nat_tests) in
      let is : parts ≡ after = cc in
      none_known (suc more) at parts after (inr past) c o is

  pub labels_known : (more at : ℕ) (parts after : DraftParts) → chunk ≡ parts.chunks.here → offset ≡ (here_of parts.chunks).size → labels_put tokens at more parts ≡ Ok after
      → Knows more at parts after
  unfolding labels_put
  labels_known zero at parts after c o e = let is : parts ≡ after = cc in none_known 0 at parts after (inl refl) c o is
  labels_known (suc more) at parts after c o e =
      more_by (nat_lt at (length tokens)) parts after at more refl c o (λ next p q f. labels_known more (at + 2) next after p q f) e
