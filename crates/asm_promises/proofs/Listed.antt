-- Every chunk is in the order in which chunks are laid out.
use Rattle.std.proofs.Common.{◌≡◌, ℕ, zero, suc, ◌+◌, ◌<◌, ◌≤◌, ◌==◌, ◌⊎◌, inl, inr, Bool, true, false, cond, List, [], ◌∷◌, ◌++◌, length, slice_index_or, Option, Some, None, bytes_eq, codes, refl, ap, ◌∙◌, subst, lit<, arith}
use Rattle.std.specs.Prelude.{fold}
use Rattle.std.specs.Option.{is_none, unwrap_or}
use Rattle.std.proofs.lemmas.Bool.{cases_lt}
use Rattle.std.proofs.lemmas.Slice.Eq.{bytes_eq-Decides}
use Rattle.asm_layout.specs.declared.chunk.Chunk.{Chunk}
use Rattle.asm_layout.specs.declared.chunk.ChunkKind.TheVariants as kinds
use Rattle.asm_layout.specs.Placement.{rank}
use Rattle.asm_chunks.specs.Chunks.{no_chunk}
use Rattle.asm_chunks.specs.Order.{if_some, of_section, section_order}
use Rattle.asm_symbols.specs.Names.{first_of, defined}
use Rattle.asm_tokens.specs.Tokens.{TokenParts}
use Rattle.asm_statements.specs.Statements.{StatementParts}
use Rattle.asm_files.specs.Sections.{SectionsParts, named_section, with_section, opening_sections, numbered, entry_named, entry_by, entry_of}
use Rattle.asm_links.specs.Order.{commons_from}
use Rattle.asm_promises.proofs.Reading.{none_more}

-- ---- lists

-- a number in a list
abbrev pub Member : ℕ → List ℕ → Type 0
Member n [] = ⊥
Member n (x ∷ xs) = (x ≡ n) ⊎ Member n xs

pub member_left : (n : ℕ) (xs ys : List ℕ) → Member n xs → Member n (xs ++ ys)
member_left n [] ys h = absurd h
member_left n (x ∷ xs) ys (inl is) = inl is
member_left n (x ∷ xs) ys (inr later) = inr (member_left n xs ys later)

pub member_right : (n : ℕ) (xs ys : List ℕ) → Member n ys → Member n (xs ++ ys)
member_right n [] ys h = h
member_right n (x ∷ xs) ys h = inr (member_right n xs ys h)

-- ---- the order

some_member : (o : Option ℕ) (n : ℕ) → o ≡ Some n → Member n (if_some o)
some_member (Some k) n e = inl cc
some_member None n e = absurd (cc)

pub section_member : (section n : ℕ) (rows : List (List (Option ℕ))) (file : ℕ) → file < length rows → slice_index_or (slice_index_or rows file []) section None ≡ Some n
    → Member n (of_section section rows)
unfolding of_section
section_member section n [] file less e = absurd (omega arith)
section_member section n (row ∷ rows) zero less e = member_left n (if_some (slice_index_or row section None)) (of_section section rows) (some_member (slice_index_or row section None) n e)
section_member section n (row ∷ rows) (suc file) less e =
    member_right n (if_some (slice_index_or row section None)) (of_section section rows) (section_member section n rows file (omega arith) e)

pub order_member : (sections section n : ℕ) (rows : List (List (Option ℕ))) → section < sections → Member n (of_section section rows) → Member n (section_order sections rows)
unfolding section_order
order_member zero section n rows less h = absurd (omega arith)
order_member (suc last) section n rows less h =
    elim (cases_lt section last) [
      | inl before ↦ member_left n (section_order last rows) (of_section last rows) (order_member last section n rows before h)
      | inr past ↦
          (let is : section ≡ last = omega arith in
          member_right n (section_order last rows) (of_section last rows) (subst (λ (k : ℕ). Member n (of_section k rows)) is h))
    ]

common_by : (test : Bool) (n number : ℕ) (rest : List ℕ) → Member n rest → Member n (cond test (number ∷ rest) rest)
common_by true n number rest h = inr h
common_by false n number rest h = h

common_here : (test : Bool) (number : ℕ) (rest : List ℕ) → test ≡ true → Member number (cond test (number ∷ rest) rest)
common_here true number rest t = inl refl
common_here false number rest t = absurd (cc)

commons_member : (number k : ℕ) (chunks : List Chunk) → (rank (slice_index_or chunks k no_chunk).kind == rank kinds.Common) ≡ true → Member (number + k) (commons_from number chunks)
unfolding commons_from
commons_member number k [] t = absurd (cc)
commons_member number zero (chunk ∷ chunks) t =
    let is : number ≡ number + 0 = omega arith in
    subst (λ (n : ℕ). Member n (cond (rank chunk.kind == rank kinds.Common) (number ∷ commons_from (number + 1) chunks) (commons_from (number + 1) chunks))) is
    (common_here (rank chunk.kind == rank kinds.Common) number (commons_from (number + 1) chunks) t)
commons_member number (suc k) (chunk ∷ chunks) t =
    let is : number + 1 + k ≡ number + suc k = omega arith in
    subst (λ (n : ℕ). Member n (cond (rank chunk.kind == rank kinds.Common) (number ∷ commons_from (number + 1) chunks) (commons_from (number + 1) chunks))) is
    (common_by (rank chunk.kind == rank kinds.Common) (number + 1 + k) number (commons_from (number + 1) chunks) (commons_member (number + 1) k chunks t))

pub common_member : (chunks : List Chunk) (k : ℕ) → (rank (slice_index_or chunks k no_chunk).kind == rank kinds.Common) ≡ true → Member k (commons_from 0 chunks)
common_member chunks k t = subst (λ (n : ℕ). Member n (commons_from 0 chunks)) (none_more k) (commons_member 0 k chunks t)

-- ---- sections

-- each name's number is one of so many
pub record AreNumbers (parts : SectionsParts) : Type 0 where
  pub some : 0 < parts.count
  pub low : (name : List ℕ) (n : ℕ) → parts.numbers name ≡ Some n → n < parts.count

count_by : (free : Bool) (count : ℕ) → count ≤ cond free (count + 1) count
count_by true count = omega arith
count_by false count = omega arith

-- a number that a name has then
query_by : (parts : SectionsParts) (name query : List ℕ) (n : ℕ) (old : Option ℕ) (same : Bool) → AreNumbers parts → parts.numbers query ≡ old → bytes_eq name query ≡ same
    → first_of old (cond same (Some parts.count) None) ≡ Some n → n < cond (is_none (parts.numbers name)) (parts.count + 1) parts.count
query_by parts name query n (Some k) same h g t e =
    let less = h.low query n (g ∙ e) in
    let more = count_by (is_none (parts.numbers name)) parts.count in
    omega arith
query_by parts name query n None true h g t e =
    let is : parts.count ≡ n = cc in
    let name_is : name ≡ query = (bytes_eq-Decides name query).0 t in
    let free : is_none (parts.numbers name) ≡ true = ap (λ (q : List ℕ). is_none (parts.numbers q)) name_is ∙ ap is_none g in
    let count_is : cond (is_none (parts.numbers name)) (parts.count + 1) parts.count ≡ parts.count + 1 = ap (λ (b : Bool). cond b (parts.count + 1) parts.count) free in
    omega arith
query_by parts name query n None false h g t e = absurd (cc)

with_numbers : (parts : SectionsParts) (name : List ℕ) → AreNumbers parts → AreNumbers (with_section parts name)
unfolding with_section defined
with_numbers parts name h =
    let more = count_by (is_none (parts.numbers name)) parts.count in
    let some = h.some in
    record { some = omega arith; low = λ query n e. query_by parts name query n (parts.numbers query) (bytes_eq name query) h refl refl e }

fold_numbers : (names : List (List ℕ)) (parts : SectionsParts) → AreNumbers parts → AreNumbers (fold with_section parts names)
fold_numbers [] parts h = h
fold_numbers (name ∷ names) parts h = fold_numbers names (with_section parts name) (with_numbers parts name h)

opening_by : (same : Bool) (n : ℕ) → cond same (Some 0) None ≡ Some n → n < 1
opening_by true n e = let is : 0 ≡ n = cc in omega arith
opening_by false n e = absurd (cc)

pub numbered_low : (names : List (List ℕ)) → AreNumbers (numbered names)
unfolding numbered opening_sections defined
numbered_low names = fold_numbers names opening_sections (record { some = lit< tt; low = λ query n e. opening_by (bytes_eq (codes ".text") query) n e })

or_first : (o : Option ℕ) (count : ℕ) → 0 < count → ((n : ℕ) → o ≡ Some n → n < count) → unwrap_or o 0 < count
or_first (Some n) count some h = h n refl
or_first None count some h = some

entry_by_low : (parts : SectionsParts) (o : Option (List ℕ)) → AreNumbers parts → (entry_by parts o).section < parts.count
unfolding entry_named
entry_by_low parts (Some name) h = or_first (parts.numbers name) parts.count h.some (λ n e. h.low name n e)
entry_by_low parts None h = h.some

pub entry_low : (parts : SectionsParts) (tokens : List TokenParts) (s : StatementParts) → AreNumbers parts → (entry_of parts tokens s).section < parts.count
unfolding entry_of
entry_low parts tokens s h = entry_by_low parts (named_section tokens s) h
