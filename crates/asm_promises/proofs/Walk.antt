-- What a statement does to what is made so far, as steps: what each step keeps, the statement keeps.
use Rattle.std.proofs.Common.{◌≡◌, ℕ, zero, suc, ◌+◌, ◌*◌, ◌%◌, ◌<◌, ◌≤◌, ◌==◌, nat_lt, Bool, true, false, cond, List, [], ◌∷◌, length, Option, Some, Result, Ok, Err, refl, ap, ◌∙◌, subst, arith}
use Rattle.std.specs.Option.{is_none}
use Rattle.canonical.proofs.round_trip.Ranges.{test_true, test_false}
use Rattle.asm_names.specs.declared.sections.SectionKind.{SectionKind}
use Rattle.asm_tokens.specs.declared.fault.AsmFault.{AsmFault}
use Rattle.asm_tokens.specs.declared.fault.AsmFaultKind.TheVariants as faults
use Rattle.asm_tokens.specs.declared.token.TokenKind.{TokenKind}
use Rattle.asm_tokens.specs.declared.token.TokenKind.TheVariants as kinds
use Rattle.asm_tokens.specs.Faults.{◌>>=◌}
use Rattle.asm_tokens.specs.Tokens.{TokenParts}
use Rattle.asm_values.specs.declared.values.Value.{Value}
use Rattle.asm_expressions.specs.Tokens.{kind_at, text_at, fault_at}
use Rattle.asm_expansions.specs.declared.operation.Operation.{Operation}
use Rattle.asm_layout.specs.declared.chunk.ChunkKind.TheVariants.{Code, Dropped}
use Rattle.asm_symbols.specs.Definitions.{DefinitionParts, with_symbol, label_symbol, assigned_symbol, common_symbol}
use Rattle.asm_symbols.specs.Locals.{with_local}
use Rattle.asm_chunks.specs.declared.fault.ChunkFault.{ChunkFault}
use Rattle.asm_chunks.specs.declared.growth.TheConstants.{MAX_CHUNK}
use Rattle.asm_chunks.specs.Chunks.{ChunksParts, here_of, with_chunk, with_common, with_previous}
use Rattle.asm_chunks.specs.Growth.{grown, raised, padded}
use Rattle.asm_chunks.specs.Sections.{entered}
use Rattle.asm_statements.specs.declared.statement.Body.{Body}
use Rattle.asm_statements.specs.declared.statement.Body.TheVariants as bodies
use Rattle.asm_statements.specs.declared.statement.Operand.{Operand}
use Rattle.asm_statements.specs.Marks.{is_number, number_kind}
use Rattle.asm_statements.specs.Statements.{StatementParts}
use Rattle.asm_drafts.specs.declared.names.TheConstants.{MAX_ALIGN}
use Rattle.asm_drafts.specs.declared.sections.Entry.{Entry}
use Rattle.asm_drafts.specs.Drafts.{DraftParts, with_chunks, with_symbols, with_locals, is_here, after_chunks, grown_at, ended, each_put}
use Rattle.asm_drafts.specs.Labels.{defined_at, named, local_here, locally_labelled, labelled_kind, labelled, labels_put}
use Rattle.asm_drafts.specs.Names.{unless_named, set_symbol, set_put, common_align_of, common_added, size_of, common_put, with_wanted, want_put, up_to, or_zero}
use Rattle.asm_drafts.specs.Operands.{early_if_said}
use Rattle.asm_drafts.specs.Padding.{fill_judged, exponent_unit, byte_unit, padded_at, narrowed, padding_put, align_put, balign_put}
use Rattle.asm_drafts.specs.Bytes.{unless_code, number_at, data_put, if_aligned, capability_at, chericap_put, zeros_put, string_at, strings_put}
use Rattle.asm_drafts.specs.Code.{count_of, constant_of, instruction_put}
use Rattle.asm_drafts.specs.Sections.{entered_at}
use Rattle.asm_drafts.specs.Statements.{refused_where_kept, section_put, went_back, only_ended, only_refused, body_of, body_put}
use Rattle.asm_drafts.specs.Kept.{kept_number}
use Rattle.asm_files.specs.declared.stand.Stand.{Stand}
use Rattle.asm_files.specs.Stands.{opening_of, closing_of, statement_stood}
use Rattle.asm_listable.proofs.Starts.{then_ok}
use Rattle.asm_promises.proofs.Units.{IsUnit}
use Rattle.asm_promises.proofs.Alignments.{align_small, exponent_small, byte_small, exponent_is, byte_is}
use Rattle.asm_promises.proofs.Here.{raised_same, grown_same, code_refused, IsWhole}

-- ---- labels

-- what labels keep, at tokens of which `L` is so
pub record LabelsKeep (tokens : List TokenParts) (L : ℕ → Type 0) (P : DraftParts → Type 0) : Type 0 where
  pub local : (parts : DraftParts) (at : ℕ) → L at → P parts → P (with_locals parts (with_local parts.locals (text_at tokens at) (local_here parts at)))
  pub name : (parts : DraftParts) (at : ℕ) → L at → is_number tokens at ≡ false → is_none (parts.symbols.own (text_at tokens at)) ≡ true → P parts
      → P (with_symbols parts (with_symbol parts.symbols (label_symbol parts.symbols (text_at tokens at) at parts.chunks.here (here_of parts.chunks).size)))

module _ (tokens : List TokenParts) (L : ℕ → Type 0) (P : DraftParts → Type 0) (keeps : LabelsKeep tokens L P) where
  not_number : (kind : TokenKind) (at : ℕ) → kind_at tokens at ≡ kind → number_kind kind ≡ false → is_number tokens at ≡ false
  unfolding is_number
  not_number kind at k n = ap number_kind k ∙ n

  kind_kept : (parts after : DraftParts) (at : ℕ) (kind : TokenKind) → kind_at tokens at ≡ kind → L at → P parts → labelled_kind tokens parts at kind ≡ Ok after → P after
  unfolding locally_labelled named
  kind_kept parts after at (kinds.Number n) k l h e =
      let is : with_locals parts (with_local parts.locals (text_at tokens at) (local_here parts at)) ≡ after = cc in
      subst P is (keeps.local parts at l h)
  kind_kept parts after at kind k l h e =
      let d : DefinitionParts = label_symbol parts.symbols (text_at tokens at) at parts.chunks.here (here_of parts.chunks).size in
      let x = test_true (is_none (parts.symbols.own d.name)) (Ok (with_symbols parts (with_symbol parts.symbols d))) (fault_at tokens faults.Twice at) after e in
      let is : with_symbols parts (with_symbol parts.symbols d) ≡ after = (let k = x.1 in cc) in
      subst P is (keeps.name parts at l (not_number kind at k refl) x.0 h)

  more_by : (test : Bool) (parts after : DraftParts) (at more : ℕ) → L at → P parts
      → ((next : DraftParts) → P next → labels_put tokens (at + 2) more next ≡ Ok after → P after)
      → cond test (labelled tokens parts at >>= λ next. labels_put tokens (at + 2) more next) (Ok parts) ≡ Ok after → P after
  unfolding labelled
  more_by true parts after at more l h later e =
      let x = then_ok (labelled_kind tokens parts at (kind_at tokens at)) (λ next. labels_put tokens (at + 2) more next) after e in
      later x.0 (kind_kept parts x.0 at (kind_at tokens at) refl l h x.1) x.2
  more_by false parts after at more l h later e = let is : parts ≡ after = cc in subst P is h

  later : (at more : ℕ) → ((k : ℕ) → k < suc more → L (at + 2 * k)) → (k : ℕ) → k < more → L (at + 2 + 2 * k)
  later at more l k h =
      let less : k + 1 < suc more = omega arith in
      let is : at + 2 * (k + 1) ≡ at + 2 + 2 * k = omega arith in
      subst L is (l (k + 1) less)

  first : (at more : ℕ) → ((k : ℕ) → k < suc more → L (at + 2 * k)) → L at
  first at more l =
      let less : 0 < suc more = omega arith in
      let is : at + 2 * 0 ≡ at = omega arith in
      subst L is (l 0 less)

  pub labels_keep : (more at : ℕ) (parts after : DraftParts) → ((k : ℕ) → k < more → L (at + 2 * k)) → P parts → labels_put tokens at more parts ≡ Ok after → P after
  unfolding labels_put
  labels_keep zero at parts after l h e = let is : parts ≡ after = cc in subst P is h
  labels_keep (suc more) at parts after l h e =
      more_by (nat_lt at (length tokens)) parts after at more (first at more l) h (λ next k f. labels_keep more (at + 2) next after (later at more l) k f) e

-- ---- what a statement is

-- what the steps of a body keep: `P` is so before it, and `Q` after it
pub record BodyKeeps (tokens : List TokenParts) (body : Body) (entry : Entry) (P Q : DraftParts → Type 0) : Type 0 where
  pub kept : (parts : DraftParts) → P parts → Q parts
  pub entered : (parts : DraftParts) (flags : Option SectionKind) (chunks : ChunksParts) → P parts
      → entered parts.chunks entry.section flags entry.named ≡ Ok chunks → Q (with_chunks parts chunks)
  pub back : (parts : DraftParts) → P parts → Q (with_chunks parts (with_previous parts.chunks))
  pub set : (parts : DraftParts) (at number : ℕ) (early : Option Value) → body ≡ bodies.Set at → is_none (parts.symbols.own (text_at tokens at)) ≡ true → P parts
      → Q (with_symbols parts (with_symbol parts.symbols (assigned_symbol parts.symbols (text_at tokens at) at number early)))
  pub common : (parts : DraftParts) (at size align : ℕ) → body ≡ bodies.Comm at → size ≤ MAX_CHUNK → align ≤ MAX_ALIGN
      → is_none (parts.symbols.own (text_at tokens at)) ≡ true → P parts
      → Q (with_symbols (with_chunks parts (with_chunk parts.chunks (with_common size align)))
      (with_symbol parts.symbols (common_symbol parts.symbols (text_at tokens at) at (length parts.chunks.chunks) size)))
  pub wanted : (parts : DraftParts) (name : List ℕ) → Q parts → Q (with_wanted parts name)
  pub grown : (parts : DraftParts) (count : ℕ) (chunks : ChunksParts) → IsWhole parts count → Q parts → grown parts.chunks count ≡ Ok chunks → Q (with_chunks parts chunks)
  pub padded : (parts : DraftParts) (unit : ℕ) (most : Option ℕ) (chunks : ChunksParts) → unit ≤ MAX_ALIGN → IsUnit unit → Q parts → padded parts.chunks unit most ≡ Ok chunks
      → Q (with_chunks parts chunks)
  pub raised : (parts : DraftParts) → Q parts → Q (with_chunks parts (raised parts.chunks 16))

module _ (tokens : List TokenParts) (s : StatementParts) (entry : Entry) (P Q : DraftParts → Type 0) (keeps : BodyKeeps tokens s.body entry P Q) where
  same : (parts after : DraftParts) → Q parts → (r : Result DraftParts AsmFault) → Ok parts ≡ r → r ≡ Ok after → Q after
  same parts after h r o e = let is : parts ≡ after = cc in subst Q is h

  chunks_kept : (parts after : DraftParts) (at : ℕ) (r : Result ChunksParts ChunkFault) → ((chunks : ChunksParts) → r ≡ Ok chunks → Q (with_chunks parts chunks))
      → after_chunks tokens at parts r ≡ Ok after → Q after
  chunks_kept parts after at (Ok chunks) h e = let is : with_chunks parts chunks ≡ after = cc in subst Q is (h chunks refl)
  chunks_kept parts after at (Err fault) h e = absurd (cc)

  grown_kept : (parts after : DraftParts) → Q parts → (at count : ℕ) → IsWhole parts count → grown_at tokens at count parts ≡ Ok after → Q after
  unfolding grown_at
  grown_kept parts after h at count whole e = chunks_kept parts after at (grown parts.chunks count) (λ chunks f. keeps.grown parts count chunks whole h f) e

  -- in data
  abbrev IsOther : DraftParts → Type 0
  IsOther parts = Q parts × (is_here parts Code ≡ false)

  other_whole : (parts : DraftParts) (count : ℕ) → is_here parts Code ≡ false → IsWhole parts count
  other_whole parts count other code = absurd (cc)

  other_kept : (parts after : DraftParts) (at count : ℕ) → IsOther parts → grown_at tokens at count parts ≡ Ok after → IsOther after
  other_kept parts after at count h e =
      (grown_kept parts after h.0 at count (other_whole parts count h.1) e, grown_same tokens at count parts after e ∙ h.1)

  defined_ok : (parts after : DraftParts) (at : ℕ) (d : DefinitionParts) → (is_none (parts.symbols.own d.name) ≡ true → Q (with_symbols parts (with_symbol parts.symbols d)))
      → defined_at tokens parts at d ≡ Ok after → Q after
  defined_ok parts after at d h e =
      let x = test_true (is_none (parts.symbols.own d.name)) (Ok (with_symbols parts (with_symbol parts.symbols d))) (fault_at tokens faults.Twice at) after e in
      let is : with_symbols parts (with_symbol parts.symbols d) ≡ after = (let k = x.1 in cc) in
      subst Q is (h x.0)

  each_kept : (R : DraftParts → Type 0) (step : Operand → DraftParts → Result DraftParts AsmFault)
      → ((operand : Operand) (parts after : DraftParts) → R parts → step operand parts ≡ Ok after → R after)
      → (operands : List Operand) (parts after : DraftParts) → R parts → each_put step operands parts ≡ Ok after → R after
  unfolding each_put
  each_kept R step kept [] parts after h e = let is : parts ≡ after = cc in subst R is h
  each_kept R step kept (operand ∷ operands) parts after h e =
      let x = then_ok (step operand parts) (λ next. each_put step operands next) after e in
      each_kept R step kept operands x.0 after (kept operand parts x.0 h x.1) x.2

  dropped_or : (test : Bool) (parts after : DraftParts) (r : Result DraftParts AsmFault) → Q parts → (r ≡ Ok after → Q after)
      → cond test (Ok parts) r ≡ Ok after → Q after
  dropped_or true parts after r h kept e = same parts after h (Ok parts) refl e
  dropped_or false parts after r h kept e = kept e

  module _ (parts after : DraftParts) (first : P parts) where
    h : Q parts
    h = keeps.kept parts first

    ended_kept : (parts after : DraftParts) → Q parts → only_ended parts s ≡ Ok after → Q after
    ended_kept parts after h e =
        let x = then_ok (ended s.fault) (λ u. Ok parts) after e in same parts after h (Ok parts) refl x.2

    after_ended : (next : DraftParts) → Q next → (ended s.fault >>= λ u. Ok next) ≡ Ok after → Q after
    after_ended next k e = let x = then_ok (ended s.fault) (λ u. Ok next) after e in same next after k (Ok next) refl x.2

    refused_kept : (judged : Result (Unit {0}) AsmFault) → only_refused parts judged ≡ Ok after → Q after
    refused_kept judged e = let x = then_ok judged (λ u. Ok parts) after e in same parts after h (Ok parts) refl x.2

    code_by : (test : Bool) (at : ℕ) (operation : Option Operation) (fault : AsmFault)
        → cond test (constant_of tokens parts s >>= λ constant. ended s.fault >>= λ u. grown_at tokens at (4 * count_of operation constant) parts) (Err fault) ≡ Ok after
        → Q after
    code_by true at operation fault e =
        let x = then_ok (constant_of tokens parts s) (λ constant. ended s.fault >>= λ u. grown_at tokens at (4 * count_of operation constant) parts) after e in
        let y = then_ok (ended s.fault) (λ u. grown_at tokens at (4 * count_of operation x.0) parts) after x.2 in
        grown_kept parts after h at (4 * count_of operation x.0) (λ code. omega arith) y.2
    code_by false at operation fault e = absurd (cc)

    instruction_kept : (at : ℕ) (operation : Option Operation) → instruction_put tokens parts s at operation ≡ Ok after → Q after
    unfolding instruction_put
    instruction_kept at operation e =
        dropped_or (is_here parts Dropped) parts after
        (cond (is_here parts Code) (constant_of tokens parts s >>= λ constant. ended s.fault >>= λ u. grown_at tokens at (4 * count_of operation constant) parts) (Err (fault_at tokens faults.Section at)))
        h (λ f. code_by (is_here parts Code) at operation (fault_at tokens faults.Section at) f) e

    section_kept : (at : ℕ) (flags : Option SectionKind) → section_put tokens parts s at entry flags ≡ Ok after → Q after
    unfolding section_put entered_at
    section_kept at flags e =
        let x = then_ok (ended s.fault) (λ u. after_chunks tokens at parts (entered parts.chunks entry.section flags entry.named)) after e in
        chunks_kept parts after at (entered parts.chunks entry.section flags entry.named) (λ chunks f. keeps.entered parts flags chunks first f) x.2

    back_kept : went_back parts s ≡ Ok after → Q after
    unfolding went_back
    back_kept e =
        let x = then_ok (ended s.fault) (λ u. Ok (with_chunks parts (with_previous parts.chunks))) after e in
        let is : with_chunks parts (with_previous parts.chunks) ≡ after = (let k = x.2 in cc) in
        subst Q is (keeps.back parts first)

    want_kept : (operand : Operand) (parts after : DraftParts) → Q parts → want_put tokens operand parts ≡ Ok after → Q after
    unfolding want_put
    want_kept operand parts after h e =
        let is : with_wanted parts (text_at tokens operand.first) ≡ after = cc in subst Q is (keeps.wanted parts (text_at tokens operand.first) h)

    global_kept : (each_put (want_put tokens) s.operands parts >>= λ next. only_ended next s) ≡ Ok after → Q after
    global_kept e =
        let x = then_ok (each_put (want_put tokens) s.operands parts) (λ next. only_ended next s) after e in
        ended_kept x.0 after (each_kept Q (want_put tokens) (λ operand p q k f. want_kept operand p q k f) s.operands parts x.0 h x.1) x.2

    set_kept : (number at : ℕ) → s.body ≡ bodies.Set at → set_put tokens parts number s at ≡ Ok after → Q after
    unfolding set_put
    set_kept number at b e =
        let x = then_ok (unless_named tokens parts at) (λ free. ended s.fault >>= λ u. defined_at tokens parts at (set_symbol tokens parts number s at)) after e in
        let y = then_ok (ended s.fault) (λ u. defined_at tokens parts at (set_symbol tokens parts number s at)) after x.2 in
        defined_ok parts after at (set_symbol tokens parts number s at) (λ free. keeps.set parts at number _ b free first) y.2

    common_kept : (at : ℕ) → s.body ≡ bodies.Comm at → common_put tokens parts s at ≡ Ok after → Q after
    unfolding common_put common_added
    common_kept at b e =
        let x = then_ok (unless_named tokens parts at)
        (λ free. early_if_said tokens parts s 0 (up_to MAX_CHUNK) >>= λ size. common_align_of tokens parts s (size_of size) >>= λ align. ended s.fault >>= λ u. common_added tokens parts at (size_of size) align) after e in
        let y = then_ok (early_if_said tokens parts s 0 (up_to MAX_CHUNK))
        (λ size. common_align_of tokens parts s (size_of size) >>= λ align. ended s.fault >>= λ u. common_added tokens parts at (size_of size) align) after x.2 in
        let z = then_ok (common_align_of tokens parts s (size_of y.0)) (λ align. ended s.fault >>= λ u. common_added tokens parts at (size_of y.0) align) after y.2 in
        let w = then_ok (ended s.fault) (λ u. common_added tokens parts at (size_of y.0) z.0) after z.2 in
        let more : DraftParts = with_chunks parts (with_chunk parts.chunks (with_common (size_of y.0) z.0)) in
        let few : size_of y.0 ≤ MAX_CHUNK = omega arith in
        defined_ok more after at (common_symbol parts.symbols (text_at tokens at) at (length parts.chunks.chunks) (size_of y.0))
        (λ free. keeps.common parts at (size_of y.0) z.0 b few (align_small tokens parts s (size_of y.0) z.0 z.1) free first) w.2

    padding_kept : (at unit : ℕ) → unit ≤ MAX_ALIGN → IsUnit unit → padding_put tokens parts s at unit ≡ Ok after → Q after
    unfolding padding_put padded_at
    padding_kept at unit small is e =
        let x = then_ok (fill_judged tokens parts s 1) (λ fill. early_if_said tokens parts s 2 (up_to MAX_ALIGN) >>= λ most. ended s.fault >>= λ u. padded_at tokens at unit (narrowed most) parts) after e in
        let y = then_ok (early_if_said tokens parts s 2 (up_to MAX_ALIGN)) (λ most. ended s.fault >>= λ u. padded_at tokens at unit (narrowed most) parts) after x.2 in
        let z = then_ok (ended s.fault) (λ u. padded_at tokens at unit (narrowed y.0) parts) after y.2 in
        chunks_kept parts after at (padded parts.chunks unit (narrowed y.0)) (λ chunks f. keeps.padded parts unit (narrowed y.0) chunks small is h f) z.2

    align_kept : (at : ℕ) → align_put tokens parts s at ≡ Ok after → Q after
    unfolding align_put
    align_kept at e =
        dropped_or (is_here parts Dropped) parts after (exponent_unit tokens parts s >>= λ unit. padding_put tokens parts s at unit) h
        (λ f. (let x = then_ok (exponent_unit tokens parts s) (λ unit. padding_put tokens parts s at unit) after f in padding_kept at x.0 (exponent_small tokens parts s x.0 x.1) (exponent_is tokens parts s x.0 x.1) x.2)) e

    balign_kept : (at : ℕ) → balign_put tokens parts s at ≡ Ok after → Q after
    unfolding balign_put
    balign_kept at e =
        dropped_or (is_here parts Dropped) parts after (byte_unit tokens parts s >>= λ unit. padding_put tokens parts s at unit) h
        (λ f. (let x = then_ok (byte_unit tokens parts s) (λ unit. padding_put tokens parts s at unit) after f in padding_kept at x.0 (byte_small tokens parts s x.0 x.1) (byte_is tokens parts s x.0 x.1) x.2)) e

    -- a step for each operand, where data may be
    data_by : (at : ℕ) (step : Operand → DraftParts → Result DraftParts AsmFault)
        → ((operand : Operand) (p q : DraftParts) → IsOther p → step operand p ≡ Ok q → IsOther q)
        → cond (is_here parts Dropped) (Ok parts) (unless_code tokens parts at >>= λ code. each_put step s.operands parts >>= λ next. ended s.fault >>= λ u. Ok next) ≡ Ok after
        → Q after
    data_by at step kept e =
        dropped_or (is_here parts Dropped) parts after (unless_code tokens parts at >>= λ code. each_put step s.operands parts >>= λ next. ended s.fault >>= λ u. Ok next) h
        (λ f. (let x = then_ok (unless_code tokens parts at) (λ code. each_put step s.operands parts >>= λ next. ended s.fault >>= λ u. Ok next) after f in
        let y = then_ok (each_put step s.operands parts) (λ next. ended s.fault >>= λ u. Ok next) after x.2 in
        after_ended y.0 (each_kept IsOther step kept s.operands parts y.0 (h, code_refused tokens parts at x.0 x.1) y.1).0 y.2)) e

    data_kept : (at width : ℕ) → data_put tokens parts s at width ≡ Ok after → Q after
    unfolding data_put
    data_kept at width e = data_by at (number_at tokens at width) (λ operand p q k f. other_kept p q at width k f) e

    aligned_kept : (first : ℕ) (p q : DraftParts) → IsOther p → if_aligned tokens first p ≡ Ok q → IsOther q
    aligned_kept first p q k f =
        let x = test_true ((here_of p.chunks).size % 16 == 0) (Ok (with_chunks p (raised p.chunks 16))) (fault_at tokens faults.Range first) q f in
        let is : with_chunks p (raised p.chunks 16) ≡ q = (let g = x.1 in cc) in
        subst IsOther is (keeps.raised p k.0, raised_same p 16 ∙ k.1)

    capability_kept : (at : ℕ) (operand : Operand) (p q : DraftParts) → IsOther p → capability_at tokens at operand p ≡ Ok q → IsOther q
    unfolding capability_at
    capability_kept at operand p q k f =
        let x = then_ok (grown_at tokens at 16 p) (λ next. if_aligned tokens operand.first next) q f in
        aligned_kept operand.first x.0 q (other_kept p x.0 at 16 k x.1) x.2

    chericap_kept : (at : ℕ) → chericap_put tokens parts s at ≡ Ok after → Q after
    unfolding chericap_put
    chericap_kept at e = data_by at (capability_at tokens at) (λ operand p q k f. capability_kept at operand p q k f) e

    zeros_kept : (at : ℕ) → zeros_put tokens parts s at ≡ Ok after → Q after
    unfolding zeros_put
    zeros_kept at e =
        let rest = unless_code tokens parts at >>= λ code. early_if_said tokens parts s 0 (up_to MAX_CHUNK) >>= λ count. fill_judged tokens parts s 1 >>= λ fill. ended s.fault >>= λ u. grown_at tokens at (or_zero count) parts in
        dropped_or (is_here parts Dropped) parts after rest h
        (λ f. (let x = then_ok (unless_code tokens parts at) (λ code. early_if_said tokens parts s 0 (up_to MAX_CHUNK) >>= λ count. fill_judged tokens parts s 1 >>= λ fill. ended s.fault >>= λ u. grown_at tokens at (or_zero count) parts) after f in
        let y = then_ok (early_if_said tokens parts s 0 (up_to MAX_CHUNK)) (λ count. fill_judged tokens parts s 1 >>= λ fill. ended s.fault >>= λ u. grown_at tokens at (or_zero count) parts) after x.2 in
        let z = then_ok (fill_judged tokens parts s 1) (λ fill. ended s.fault >>= λ u. grown_at tokens at (or_zero y.0) parts) after y.2 in
        let w = then_ok (ended s.fault) (λ u. grown_at tokens at (or_zero y.0) parts) after z.2 in
        grown_kept parts after h at (or_zero y.0) (other_whole parts (or_zero y.0) (code_refused tokens parts at x.0 x.1)) w.2)) e

    string_kept : (at count : ℕ) (operand : Operand) (p q : DraftParts) → IsOther p → string_at tokens at count operand p ≡ Ok q → IsOther q
    unfolding string_at
    string_kept at count operand p q k f =
        let x = test_false _ (grown_at tokens at _ p) (fault_at tokens faults.Section operand.first) q f in
        other_kept p q at _ k x.1

    strings_kept : (at zeros : ℕ) → strings_put tokens parts s at zeros ≡ Ok after → Q after
    unfolding strings_put
    strings_kept at zeros e = data_by at (string_at tokens at zeros) (λ operand p q k f. string_kept at zeros operand p q k f) e

    of_kept : (number : ℕ) (body : Body) → s.body ≡ body → body_of tokens parts number s entry body ≡ Ok after → Q after
    of_kept number bodies.Nothing b e = ended_kept parts after h e
    of_kept number (bodies.Instruction at operation) b e = instruction_kept at operation e
    of_kept number (bodies.OutsideInstruction at) b e = refused_kept (refused_where_kept tokens parts faults.Profile at) e
    of_kept number (bodies.UnknownInstruction at) b e = refused_kept (refused_where_kept tokens parts faults.Statement at) e
    of_kept number (bodies.PlainSection at) b e = section_kept at (Some entry.named) e
    of_kept number (bodies.Section at end flags) b e = section_kept at flags e
    of_kept number bodies.Previous b e = back_kept e
    of_kept number bodies.Global b e = global_kept e
    of_kept number (bodies.Set at) b e = set_kept number at b e
    of_kept number (bodies.Size at) b e = ended_kept parts after h e
    of_kept number (bodies.Comm at) b e = common_kept at b e
    of_kept number (bodies.Align at) b e = align_kept at e
    of_kept number (bodies.Balign at) b e = balign_kept at e
    of_kept number (bodies.Data at width) b e = data_kept at width e
    of_kept number (bodies.Chericap at) b e = chericap_kept at e
    of_kept number (bodies.Zero at) b e = zeros_kept at e
    of_kept number (bodies.Ascii at) b e = strings_kept at 0 e
    of_kept number (bodies.Asciz at) b e = strings_kept at 1 e
    of_kept number (bodies.OutsideDirective at) b e = refused_kept (refused_where_kept tokens parts faults.Profile at) e
    of_kept number (bodies.UnknownDirective at) b e = absurd (cc)

    pub body_keeps : (number : ℕ) → body_put tokens parts number s entry ≡ Ok after → Q after
    unfolding body_put
    body_keeps number e = of_kept number s.body refl e

-- ---- a statement

-- what a statement keeps that its labels and its body keep
pub stood_keeps : (tokens : List TokenParts) (s : StatementParts) (entry : Entry) (L : ℕ → Type 0) (P Q : DraftParts → Type 0) → LabelsKeep tokens L P → BodyKeeps tokens s.body entry P Q
    → ((k : ℕ) → k < s.labels → L (s.first + 2 * k)) → (parts : DraftParts) (number : ℕ) (next : DraftParts × Stand) → P parts
    → statement_stood tokens parts number s entry ≡ Ok next → Q next.0
unfolding statement_stood
stood_keeps tokens s entry L P Q labels body l parts number next h e =
    let x = then_ok (labels_put tokens s.first s.labels parts)
    (λ labelled. body_put tokens labelled number s entry >>= λ made. Ok (made, closing_of made (opening_of labelled (kept_number tokens labelled s)))) next e in
    let y = then_ok (body_put tokens x.0 number s entry) (λ made. Ok (made, closing_of made (opening_of x.0 (kept_number tokens x.0 s)))) next x.2 in
    let is : (y.0, closing_of y.0 (opening_of x.0 (kept_number tokens x.0 s))) ≡ next = (let k = y.2 in cc) in
    let labelled : P x.0 = labels_keep tokens L P labels s.labels s.first parts x.0 l h x.1 in
    subst (λ (n : DraftParts × Stand). Q n.0) is (body_keeps tokens s entry P Q body x.0 y.0 labelled number y.1)
