-- Which statement marks an instruction: one that it is among the instructions of.
use Rattle.std.proofs.Common.{◌≡◌, ℕ, zero, suc, ◌+◌, ◌<◌, ◌≤◌, ◌==◌, ◌⊎◌, inl, inr, Bool, true, false, cond, List, [], ◌∷◌, length, replicate, slice_get, slice_index_or, slice_set, Option, Some, None, refl, sym, ap, ◌∙◌, subst, arith}
use Rattle.std.specs.Option.{unwrap_or}
use Rattle.std.proofs.Math.ListN.{length-set}
use Rattle.std.proofs.lemmas.Bool.{cases_lt}
use Rattle.std.proofs.lemmas.List.{length-replicate, get_or-set_same}
use Rattle.asm_layout.specs.declared.chunk.ChunkKind.TheVariants.{Code}
use Rattle.asm_layout.specs.Placement.{rank}
use Rattle.asm_statements.specs.Statements.{StatementParts}
use Rattle.asm_files.specs.Programs.{FileParts, statements_or_none, statement_at}
use Rattle.asm_late.specs.Late.{LateParts}
use Rattle.asm_instructions.specs.declared.origin.Origin.{Origin}
use Rattle.asm_instructions.specs.Overwriting.{overwritten}
use Rattle.asm_instructions.specs.Origins.{marked, before_first, filled}
use Rattle.asm_code.specs.Standing.{stand_of, kind_of, index_of}
use Rattle.asm_code.specs.Beginning.{steps_from, origin_of, count_of, statement_marked, file_marked, all_marked, room_of, code_begun}
use Rattle.asm_promises.proofs.Reading.{none_more}
use Rattle.asm_promises.proofs.Sizes.{set_or, repeated}
use Rattle.asm_promises.proofs.Origins.{steps_length, statement_length, file_length}

-- ---- items in the place of others

over_or : {A : Type 0} (items : List A) (at count : ℕ) (x d : A) (n : ℕ)
    → (slice_index_or (overwritten items at (replicate count x)) n d ≡ slice_index_or items n d)
    ⊎ ((at ≤ n) × (n < at + count) × (slice_index_or (overwritten items at (replicate count x)) n d ≡ x))
unfolding overwritten
over_or items at zero x d n = inl refl
over_or items at (suc count) x d n =
    elim (over_or (slice_set items at x) (at + 1) count x d n) [
      | inl same ↦ (elim (set_or items at x n d) [
        | inl kept ↦ inl (same ∙ kept)
        | inr put ↦ (let is = put.0 in inr (omega arith, omega arith, same ∙ put.1))
      ])
      | inr there ↦ (let from = there.0 in let to = there.1 in inr (omega arith, omega arith, there.2))
    ]

over_in : {A : Type 0} (items : List A) (at count : ℕ) (x d : A) (n : ℕ) → at ≤ n → n < at + count → n < length items
    → slice_index_or (overwritten items at (replicate count x)) n d ≡ x
unfolding overwritten
over_in items at zero x d n from to less = absurd (omega arith)
over_in items at (suc count) x d n from to less =
    let same : length (slice_set items at x) ≡ length items = length-set items at x in
    elim (cases_lt at n) [
      | inl later ↦ over_in (slice_set items at x) (at + 1) count x d n (omega arith) (omega arith) (omega arith)
      | inr here ↦
          (let is : n ≡ at = omega arith in
          elim (over_or (slice_set items at x) (at + 1) count x d n) [
            | inl kept ↦ kept ∙ (ap (λ (k : ℕ). slice_index_or (slice_set items at x) k d) is ∙ get_or-set_same items at x d (omega arith))
            | inr there ↦ there.2
          ])
    ]

-- ---- steps

steps_so : {X S : Type 0} (P : S → Type 0) (step : ℕ → X → S → S) (n : ℕ) (xs : List X) (s : S)
    → ((k : ℕ) (x : X) (t : S) → slice_get xs k ≡ Some x → P t → P (step (n + k) x t)) → P s → P (steps_from step n xs s)
unfolding steps_from
steps_so P step n [] s kept h = h
steps_so P step n (x ∷ xs) s kept h =
    let none : n + 0 ≡ n = omega arith in
    steps_so P step (n + 1) xs (step n x s)
    (λ k y t g q. (let same : n + suc k ≡ n + 1 + k = omega arith in subst (λ (m : ℕ). P (step m y t)) same (kept (suc k) y t g q)))
    (subst (λ (m : ℕ). P (step m x s)) none (kept 0 x s refl h))

-- what a step makes so, and the others keep
steps_reach : {X S : Type 0} (P : S → Type 0) (step : ℕ → X → S → S) → ((m : ℕ) (x : X) (s : S) → P s → P (step m x s))
    → (n : ℕ) (xs : List X) (s : S) (k : ℕ) (x : X) → slice_get xs k ≡ Some x → ((t : S) → P (step (n + k) x t)) → P (steps_from step n xs s)
unfolding steps_from
steps_reach P step kept n [] s k x g made = absurd (cc)
steps_reach P step kept n (y ∷ xs) s zero x g made =
    let is : x ≡ y = cc in
    let none : n + 0 ≡ n = omega arith in
    let here : P (step n y s) = subst (λ (z : _). P (step n z s)) is (subst (λ (m : ℕ). P (step m x s)) none (made s)) in
    steps_so P step (n + 1) xs (step n y s) (λ k z t f q. kept (n + 1 + k) z t q) here
steps_reach P step kept n (y ∷ xs) s (suc k) x g made =
    let same : n + suc k ≡ n + 1 + k = omega arith in
    steps_reach P step kept (n + 1) xs (step n y s) k x g (λ t. subst (λ (m : ℕ). P (step m x t)) same (made t))

-- ---- instructions without a mark

abbrev mark_at : List (Option Origin) → ℕ → Option Origin
mark_at marks n = slice_index_or marks n None

filled_at : (marks : List (Option Origin)) (n : ℕ) (o : Origin) → mark_at marks n ≡ Some o → slice_get (filled marks) n ≡ Some o
unfolding filled
filled_at [] n o e = absurd (cc)
filled_at (mark ∷ rest) zero o e = ap (λ (m : Option Origin). Some (unwrap_or m (before_first (filled rest)))) e
filled_at (mark ∷ rest) (suc n) o e = filled_at rest n o e

gap_none : (origins : List Origin) → (before_first origins).statement ≡ None
gap_none [] = refl
gap_none (origin ∷ rest) = refl

first_back : (mark : Option Origin) (rest : List Origin) (o : Origin) → unwrap_or mark (before_first rest) ≡ o → (mark ≡ Some o) ⊎ (o.statement ≡ None)
first_back (Some one) rest o e = inl (ap (λ (x : Origin). Some x) e)
first_back None rest o e = inr (ap (λ (x : Origin). x.statement) (sym e) ∙ gap_none rest)

filled_back : (marks : List (Option Origin)) (n : ℕ) (o : Origin) → slice_get (filled marks) n ≡ Some o → (mark_at marks n ≡ Some o) ⊎ (o.statement ≡ None)
unfolding filled
filled_back [] n o e = absurd (cc)
filled_back (mark ∷ rest) zero o e = let is : unwrap_or mark (before_first (filled rest)) ≡ o = cc in first_back mark (filled rest) o is
filled_back (mark ∷ rest) (suc n) o e = filled_back rest n o e

-- ---- marks

module _ (late : LateParts) where
  -- a statement of code, and an instruction that is one of its own
  pub record IsAmong (file number : ℕ) (s : StatementParts) (n : ℕ) : Type 0 where
    pub there : statement_at late.program file number ≡ Some s
    pub code : (rank (kind_of late file number) == rank Code) ≡ true
    pub from : index_of late file number ≤ n
    pub to : n < index_of late file number + count_of (stand_of late file number)

  pub record IsFrom (n : ℕ) (o : Origin) : Type 0 where
    pub file : ℕ
    pub number : ℕ
    pub statement : StatementParts
    pub among : IsAmong file number statement n
    pub is : origin_of late file number statement ≡ o

  -- each mark is of a statement that has the instruction
  abbrev AllFrom : List (Option Origin) → Type 0
  AllFrom marks = (n : ℕ) (o : Origin) → mark_at marks n ≡ Some o → IsFrom n o

  from_by : (test : Bool) (file number : ℕ) (s : StatementParts) (marks : List (Option Origin)) → statement_at late.program file number ≡ Some s
      → (rank (kind_of late file number) == rank Code) ≡ test → AllFrom marks
      → AllFrom (cond test (marked marks (index_of late file number) (count_of (stand_of late file number)) (origin_of late file number s)) marks)
  unfolding marked
  from_by true file number s marks there code h n o e =
      let origin : Origin = origin_of late file number s in
      elim (over_or marks (index_of late file number) (count_of (stand_of late file number)) (Some origin) None n) [
        | inl same ↦ h n o (sym same ∙ e)
        | inr here ↦
            (let both : Some origin ≡ Some o = sym here.2 ∙ e in
            let is : origin ≡ o = cc in
            record { file = file; number = number; statement = s; among = record { there = there; code = code; from = here.0; to = here.1 }; is = is })
      ]
  from_by false file number s marks there code h n o e = h n o e

  statement_from : (file number : ℕ) (s : StatementParts) (marks : List (Option Origin)) → statement_at late.program file number ≡ Some s → AllFrom marks
      → AllFrom (statement_marked late file number s marks)
  unfolding statement_marked
  statement_from file number s marks there h = from_by (rank (kind_of late file number) == rank Code) file number s marks there refl h

  stated : (file number : ℕ) (f : FileParts) (s : StatementParts) → slice_get late.program.files file ≡ Some f → slice_get f.statements number ≡ Some s
      → statement_at late.program file number ≡ Some s
  unfolding statement_at
  stated file number f s g e = ap (λ (o : Option FileParts). slice_get (statements_or_none o) number) g ∙ e

  file_from : (file : ℕ) (f : FileParts) (marks : List (Option Origin)) → slice_get late.program.files file ≡ Some f → AllFrom marks → AllFrom (file_marked late file f marks)
  unfolding file_marked
  file_from file f marks g h =
      steps_so AllFrom (statement_marked late file) 0 f.statements marks
      (λ k s t e q. subst (λ (m : ℕ). AllFrom (statement_marked late file m s t)) (sym (none_more k)) (statement_from file k s t (stated file k f s g e) q)) h

  all_from : (marks : List (Option Origin)) → AllFrom marks → AllFrom (all_marked late marks)
  unfolding all_marked
  all_from marks h =
      steps_so AllFrom (file_marked late) 0 late.program.files marks
      (λ k f t e q. subst (λ (m : ℕ). AllFrom (file_marked late m f t)) (sym (none_more k)) (file_from k f t e q)) h

  -- ---- an instruction that has a mark

  abbrev IsMarked : ℕ → List (Option Origin) → Type 0
  IsMarked n marks = n < length marks → (o : Origin) × (mark_at marks n ≡ Some o)

  kept_by : (test : Bool) (file number : ℕ) (s : StatementParts) (n : ℕ) (marks : List (Option Origin)) → (o : Origin) × (mark_at marks n ≡ Some o)
      → (p : Origin) × (mark_at (cond test (marked marks (index_of late file number) (count_of (stand_of late file number)) (origin_of late file number s)) marks) n ≡ Some p)
  unfolding marked
  kept_by true file number s n marks h =
      elim (over_or marks (index_of late file number) (count_of (stand_of late file number)) (Some (origin_of late file number s)) None n) [
        | inl same ↦ (h.0, same ∙ h.1)
        | inr here ↦ (origin_of late file number s, here.2)
      ]
  kept_by false file number s n marks h = h

  statement_kept : (n file number : ℕ) (s : StatementParts) (marks : List (Option Origin)) → IsMarked n marks → IsMarked n (statement_marked late file number s marks)
  unfolding statement_marked
  statement_kept n file number s marks h less =
      let same : length (statement_marked late file number s marks) ≡ length marks = statement_length late file number s marks in
      kept_by (rank (kind_of late file number) == rank Code) file number s n marks (h (omega arith))

  made_by : (test : Bool) (n file number : ℕ) (s : StatementParts) (marks : List (Option Origin)) → test ≡ true → IsAmong file number s n → n < length marks
      → mark_at (cond test (marked marks (index_of late file number) (count_of (stand_of late file number)) (origin_of late file number s)) marks) n ≡ Some (origin_of late file number s)
  unfolding marked
  made_by true n file number s marks t h less =
      over_in marks (index_of late file number) (count_of (stand_of late file number)) (Some (origin_of late file number s)) None n h.from h.to less
  made_by false n file number s marks t h less = absurd (cc)

  statement_made : (n file number : ℕ) (s : StatementParts) (marks : List (Option Origin)) → IsAmong file number s n → IsMarked n (statement_marked late file number s marks)
  unfolding statement_marked
  statement_made n file number s marks h less =
      let same : length (statement_marked late file number s marks) ≡ length marks = statement_length late file number s marks in
      (origin_of late file number s, made_by (rank (kind_of late file number) == rank Code) n file number s marks h.code h (omega arith))

  file_kept : (n file : ℕ) (f : FileParts) (marks : List (Option Origin)) → IsMarked n marks → IsMarked n (file_marked late file f marks)
  unfolding file_marked
  file_kept n file f marks h = steps_so (IsMarked n) (statement_marked late file) 0 f.statements marks (λ k s t e q. statement_kept n file (0 + k) s t q) h

  file_made : (n file number : ℕ) (f : FileParts) (s : StatementParts) (marks : List (Option Origin)) → slice_get f.statements number ≡ Some s → IsAmong file number s n
      → IsMarked n (file_marked late file f marks)
  unfolding file_marked
  file_made n file number f s marks e h =
      steps_reach (IsMarked n) (statement_marked late file) (λ m u t q. statement_kept n file m u t q) 0 f.statements marks number s e
      (λ t. subst (λ (m : ℕ). IsMarked n (statement_marked late file m s t)) (sym (none_more number)) (statement_made n file number s t h))

  all_made : (n file number : ℕ) (s : StatementParts) (marks : List (Option Origin)) (o : Option FileParts) → slice_get late.program.files file ≡ o
      → slice_get (statements_or_none o) number ≡ Some s → IsAmong file number s n → IsMarked n (all_marked late marks)
  unfolding all_marked
  all_made n file number s marks (Some f) g e h =
      steps_reach (IsMarked n) (file_marked late) (λ m u t q. file_kept n m u t q) 0 late.program.files marks file f g
      (λ t. subst (λ (m : ℕ). IsMarked n (file_marked late m f t)) (sym (none_more file)) (file_made n file number f s t e h))
  all_made n file number s marks None g e h = absurd (cc)

  opening : AllFrom (replicate (room_of late) None)
  opening n o e = let clash : None ≡ Some o = sym (repeated (room_of late) n None) ∙ e in absurd (cc)

  all_length : (marks : List (Option Origin)) → length (all_marked late marks) ≡ length marks
  unfolding all_marked
  all_length marks = steps_length (file_marked late) (λ n f ms. file_length late n f ms) 0 late.program.files marks

  -- an instruction of one statement alone has that statement's origin
  pub origin_told : (n file number : ℕ) (s : StatementParts) → IsAmong file number s n → n < room_of late
      → ((other_file other : ℕ) (t : StatementParts) → IsAmong other_file other t n → (other_file ≡ file) × (other ≡ number))
      → slice_get (code_begun late).origins n ≡ Some (origin_of late file number s)
  unfolding code_begun statement_at
  origin_told n file number s h less one =
      let fresh : List (Option Origin) = replicate (room_of late) None in
      let count : length fresh ≡ room_of late = length-replicate (room_of late) None in
      let same : length (all_marked late fresh) ≡ length fresh = all_length fresh in
      let mark = all_made n file number s fresh (slice_get late.program.files file) refl h.there h (omega arith) in
      let from = all_from fresh opening n mark.0 mark.1 in
      let is = one from.file from.number from.statement from.among in
      let there : statement_at late.program file number ≡ Some from.statement =
      ap (λ (k : ℕ). statement_at late.program k number) (sym is.0) ∙ (ap (λ (k : ℕ). statement_at late.program from.file k) (sym is.1) ∙ from.among.there) in
      let both : Some s ≡ Some from.statement = sym h.there ∙ there in
      let statement_is : from.statement ≡ s = cc in
      let origin : origin_of late file number s ≡ mark.0 =
      ap (λ (k : ℕ). origin_of late k number s) (sym is.0) ∙ (ap (λ (k : ℕ). origin_of late from.file k s) (sym is.1)
      ∙ (ap (λ (t : StatementParts). origin_of late from.file from.number t) (sym statement_is) ∙ from.is)) in
      filled_at (all_marked late fresh) n (origin_of late file number s) (mark.1 ∙ ap (λ (x : Origin). Some x) (sym origin))

  -- and an origin that names a statement is of one that has the instruction
  pub origin_from : (n : ℕ) (o : Origin) → slice_get (code_begun late).origins n ≡ Some o → IsFrom n o ⊎ (o.statement ≡ None)
  unfolding code_begun
  origin_from n o e =
      let fresh : List (Option Origin) = replicate (room_of late) None in
      elim (filled_back (all_marked late fresh) n o e) [
        | inl mark ↦ inl (all_from fresh opening n o mark)
        | inr none ↦ inr none
      ]
