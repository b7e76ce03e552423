-- Labels stand where the statement stands that they are of.
use Rattle.std.proofs.Common.{◌≡◌, ℕ, zero, suc, ◌+◌, nat_lt, Bool, true, false, cond, List, [], ◌∷◌, ◌++◌, length, Ok, All, refl, sym, ap, ◌∙◌, subst, append_assoc}
use Rattle.std.specs.Option.{is_none}
use Rattle.std.proofs.lemmas.List.Elements.{All-nil, All-push}
use Rattle.canonical.proofs.round_trip.Ranges.{test_true}
use Rattle.asm_tokens.specs.declared.fault.AsmFaultKind.TheVariants as faults
use Rattle.asm_tokens.specs.declared.token.TokenKind.{TokenKind}
use Rattle.asm_tokens.specs.declared.token.TokenKind.TheVariants as kinds
use Rattle.asm_tokens.specs.Faults.{◌>>=◌}
use Rattle.asm_tokens.specs.Tokens.{TokenParts}
use Rattle.asm_expressions.specs.Tokens.{kind_at, text_at, fault_at}
use Rattle.asm_symbols.specs.declared.definitions.Meaning.TheVariants.{Place}
use Rattle.asm_symbols.specs.Definitions.{DefinitionParts, with_symbol, label_symbol}
use Rattle.asm_symbols.specs.Locals.{with_local}
use Rattle.asm_chunks.specs.Chunks.{ChunksParts, here_of}
use Rattle.asm_statements.specs.Statements.{StatementParts}
use Rattle.asm_drafts.specs.declared.sections.Entry.{Entry}
use Rattle.asm_drafts.specs.Drafts.{DraftParts, with_symbols, with_locals}
use Rattle.asm_drafts.specs.Kept.{kept_number}
use Rattle.asm_drafts.specs.Labels.{named, local_here, locally_labelled, labelled_kind, labelled, labels_put}
use Rattle.asm_drafts.specs.Statements.{body_put}
use Rattle.asm_files.specs.declared.stand.Stand.{Stand}
use Rattle.asm_files.specs.Stands.{opening_of, closing_of, statement_stood}
use Rattle.asm_listable.proofs.Starts.{then_ok}
use Rattle.asm_promises.specs.Labels.{AreThere}

append_none : {X : Type 0} (xs : List X) → xs ++ [] ≡ xs
append_none [] = refl
append_none (x ∷ xs) = ap (λ ys. x ∷ ys) (append_none xs)

-- the place where a file is
abbrev IsHere : ChunksParts → DefinitionParts → Type 0
IsHere chunks d = d.meaning ≡ Place chunks.here (here_of chunks).size

record Adds (before after : DraftParts) : Type 0 where
  chunks : before.chunks ≡ after.chunks
  more : List DefinitionParts
  added : before.symbols.definitions ++ more ≡ after.symbols.definitions
  here : All (IsHere before.chunks) more

module _ (tokens : List TokenParts) (before : DraftParts) where
  kind_adds : (parts after : DraftParts) (at : ℕ) (kind : TokenKind) → Adds before parts → labelled_kind tokens parts at kind ≡ Ok after → Adds before after
  unfolding locally_labelled named
  kind_adds parts after at (kinds.Number n) h e =
      let is : with_locals parts (with_local parts.locals (text_at tokens at) (local_here parts at)) ≡ after = cc in
      subst (Adds before) is (record { chunks = h.chunks; more = h.more; added = h.added; here = h.here })
  kind_adds parts after at _ h e =
      let d : DefinitionParts = label_symbol parts.symbols (text_at tokens at) at parts.chunks.here (here_of parts.chunks).size in
      let x = test_true (is_none (parts.symbols.own d.name)) (Ok (with_symbols parts (with_symbol parts.symbols d))) (fault_at tokens faults.Twice at) after e in
      let is : with_symbols parts (with_symbol parts.symbols d) ≡ after = (let k = x.1 in cc) in
      let here : IsHere before.chunks d = subst (λ (c : ChunksParts). IsHere c d) (sym h.chunks) refl in
      subst (Adds before) is (record {
        chunks = h.chunks;
        more = h.more ++ d ∷ [];
        added = sym (append_assoc before.symbols.definitions h.more (d ∷ [])) ∙ ap (λ (ds : List DefinitionParts). ds ++ d ∷ []) h.added;
        here = All-push (IsHere before.chunks) h.more d h.here here;
      })

  more_by : (test : Bool) (parts after : DraftParts) (at more : ℕ) → Adds before parts
      → ((next : DraftParts) → Adds before next → labels_put tokens (at + 2) more next ≡ Ok after → Adds before after)
      → cond test (labelled tokens parts at >>= λ next. labels_put tokens (at + 2) more next) (Ok parts) ≡ Ok after → Adds before after
  unfolding labelled
  more_by true parts after at more h later e =
      let x = then_ok (labelled_kind tokens parts at (kind_at tokens at)) (λ next. labels_put tokens (at + 2) more next) after e in
      later x.0 (kind_adds parts x.0 at (kind_at tokens at) h x.1) x.2
  more_by false parts after at more h later e = let is : parts ≡ after = cc in subst (Adds before) is h

  labels_add : (more at : ℕ) (parts after : DraftParts) → Adds before parts → labels_put tokens at more parts ≡ Ok after → Adds before after
  unfolding labels_put
  labels_add zero at parts after h e = let is : parts ≡ after = cc in subst (Adds before) is h
  labels_add (suc more) at parts after h e =
      more_by (nat_lt at (length tokens)) parts after at more h (λ next k f. labels_add more (at + 2) next after k f) e

  nothing_added : Adds before before
  nothing_added = record { chunks = refl; more = []; added = append_none before.symbols.definitions; here = All-nil (IsHere before.chunks) }

pub labels_there : (tokens : List TokenParts) (parts : DraftParts) (number : ℕ) (s : StatementParts) (entry : Entry) (next : DraftParts × Stand)
    → statement_stood tokens parts number s entry ≡ Ok next
    → (labelled : DraftParts) × (labels_put tokens s.first s.labels parts ≡ Ok labelled) × AreThere next.1 parts labelled
unfolding statement_stood opening_of closing_of
labels_there tokens parts number s entry next e =
    let x = then_ok (labels_put tokens s.first s.labels parts)
    (λ labelled. body_put tokens labelled number s entry >>= λ made. Ok (made, closing_of made (opening_of labelled (kept_number tokens labelled s)))) next e in
    let y = then_ok (body_put tokens x.0 number s entry) (λ made. Ok (made, closing_of made (opening_of x.0 (kept_number tokens x.0 s)))) next x.2 in
    let is : (y.0, closing_of y.0 (opening_of x.0 (kept_number tokens x.0 s))) ≡ next = (let k = y.2 in cc) in
    let adds = labels_add tokens parts s.labels s.first parts x.0 (nothing_added tokens parts) x.1 in
    let here : All (IsHere x.0.chunks) adds.more = subst (λ (c : ChunksParts). All (IsHere c) adds.more) adds.chunks adds.here in
    let there : AreThere (closing_of y.0 (opening_of x.0 (kept_number tokens x.0 s))) parts x.0 = record { more = adds.more; added = adds.added; places = here } in
    (x.0, x.1, subst (λ (n : DraftParts × Stand). AreThere n.1 parts x.0) is there)
