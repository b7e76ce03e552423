-- The instructions of a program can be written as a listing.
use Rattle.std.proofs.Common.{◌≡◌, ℕ, ◌+◌, ◌-◌, ◌/◌, ◌%◌, ◌^◌, ◌<◌, ◌≤◌, ◌==◌, nat_lt, nat_le, not, Bool, true, false, cond, List, [], ◌∷◌, length, Option, Some, None, Result, Ok, Err, All, refl, sym, ap, ◌∙◌, subst, arith}
use Rattle.std.specs.Prelude.{ℤ, pos, slice_get, slice_set, ◌||◌}
use Rattle.std.specs.Int.{w64, cast_signed}
use Rattle.std.proofs.Math.ListN.{length-set}
use Rattle.std.proofs.lemmas.Bool.Decides.{nat_tests}
use Rattle.std.proofs.lemmas.Int.{to_z_pos}
use Rattle.std.proofs.lemmas.List.{length-replicate}
use Rattle.std.proofs.lemmas.List.Elements.{All-head, All-tail, All-set, All-replicate}
use Rattle.cheri_model.specs.declared.instr.Instr.{Instr}
use Rattle.cheri_model.specs.declared.code.TheConstants.{CODE_BASE, INSTRUCTION_BYTES}
use Rattle.asm_names.specs.declared.relocations.Relocation.{Relocation}
use Rattle.asm_tokens.specs.declared.fault.AsmFaultKind.{AsmFaultKind}
use Rattle.asm_tokens.specs.declared.fault.AsmFaultKind.TheVariants as faults
use Rattle.asm_tokens.specs.Faults.{◌>>=◌}
use Rattle.asm_values.specs.declared.values.Location.{Location}
use Rattle.asm_values.specs.declared.values.Value.{Value}
use Rattle.asm_values.specs.declared.values.Value.TheVariants.{Number, At}
use Rattle.asm_layout.specs.declared.chunk.ChunkKind.TheVariants.{Code, Dropped}
use Rattle.asm_layout.specs.Placement.{rank}
use Rattle.asm_expansions.specs.declared.operation.Operation.{Operation}
use Rattle.asm_expansions.specs.declared.operation.Operation.TheVariants as does
use Rattle.asm_expansions.specs.Immediates.{up_to}
use Rattle.asm_expansions.specs.Expansions.{target, expansion_of}
use Rattle.asm_immediates.specs.Immediates.{immediate_of, immediate_value}
use Rattle.asm_statements.specs.declared.statement.Body.{Body}
use Rattle.asm_statements.specs.declared.statement.Body.TheVariants as bodies
use Rattle.asm_statements.specs.declared.statement.Operand.{Operand}
use Rattle.asm_statements.specs.declared.statement.Role.{Role}
use Rattle.asm_statements.specs.declared.statement.Role.TheVariants as roles
use Rattle.asm_statements.specs.Statements.{StatementParts}
use Rattle.asm_places.specs.Places.{PlacesParts, behind, kind_of as kind_in, address_of as place_address, instruction_at, target_at, target_of}
use Rattle.asm_files.specs.declared.fault.AssemblyFault.{AssemblyFault}
use Rattle.asm_files.specs.Programs.{FileParts}
use Rattle.asm_files.specs.Steps.{each_from}
use Rattle.asm_late.specs.Late.{LateParts, places_of, set_judged, size_judged}
use Rattle.asm_instructions.specs.declared.origin.Origin.{Origin}
use Rattle.asm_instructions.specs.declared.source.Source.{Source}
use Rattle.asm_instructions.specs.declared.source.Source.TheVariants as sources
use Rattle.asm_instructions.specs.Sources.{role_source, source_of, or_range, expansion_for}
use Rattle.asm_instructions.specs.Overwriting.{overwritten}
use Rattle.asm_code.specs.Beginning.{nop, room_of, code_begun}
use Rattle.asm_code.specs.Standing.{kind_of, index_of, at_operand}
use Rattle.asm_code.specs.Numbers.{value_at, number_of}
use Rattle.asm_code.specs.Code.{CodeParts, instructions_with, instructions_by, instructions_of, instructions_placed, operation_put}
use Rattle.asm_data.specs.Data.{numbers_stored, capabilities_stored}
use Rattle.asm_data.specs.Strings.{strings_stored, fill_stored}
use Rattle.asm_data.specs.Table.{table_stored}
use Rattle.cap_model.specs.values.CapValue.{CapValue}
use Rattle.asm_data.specs.Contents.{ContentsParts, with_code, with_memory, kept_put, unless_dropped, body_judged, statement_put, file_put, files_put, contents_begun, contents_of}
use Rattle.asm_listable.proofs.Starts.{then_ok}
use Rattle.asm_promises.proofs.Memory.{at_ok}
use Rattle.asm_promises.proofs.Operations.{IsLowOperation, AreAimed, IsSound}
use Rattle.asm_promises.proofs.Sound.{IsSoundBody, IsSoundStatement, IsSoundFile}
use Rattle.asm_promises.proofs.Readable.{IsOk, Aims, nop_ok, expansion_ok}

-- a step for each item of a list in which each is so
each_so : {X S E : Type 0} (Q : X → Type 0) (P : S → Type 0) (step : ℕ → X → S → Result S E) → ((n : ℕ) (x : X) (s t : S) → Q x → P s → step n x s ≡ Ok t → P t)
    → (n : ℕ) (xs : List X) (s t : S) → All Q xs → P s → each_from step n xs s ≡ Ok t → P t
unfolding each_from
each_so Q P step kept n [] s t q h e = let is : s ≡ t = cc in subst P is h
each_so Q P step kept n (x ∷ xs) s t q h e =
    let y = then_ok (step n x s) (λ next. each_from step (n + 1) xs next) t e in
    each_so Q P step kept (n + 1) xs y.0 t (All-tail Q x xs q) (kept n x s y.0 (All-head Q x xs q) h y.1) y.2

-- ---- where a branch goes

within_by : (test : Bool) (most n m : ℕ) → nat_lt most n ≡ test → (uneven : Bool) → cond (uneven || test) (Err faults.Range) (Ok n) ≡ Ok m → m ≤ most
within_by true most n m t true e = absurd (cc)
within_by true most n m t false e = absurd (cc)
within_by false most n m t true e = absurd (cc)
within_by false most n m t false e = let is : n ≡ m = cc in let h : n ≤ most = grind (arith, nat_tests) in subst (λ (k : ℕ). k ≤ most) is h

instruction_within : (offset most n : ℕ) → instruction_at offset most ≡ Ok n → n ≤ most
instruction_within offset most n e =
    within_by (nat_lt most (offset / INSTRUCTION_BYTES)) most (offset / INSTRUCTION_BYTES) n refl (not (offset % INSTRUCTION_BYTES == 0)) e

code_by : (test : Bool) (offset most n : ℕ) → cond test (instruction_at offset most) (Err faults.Range) ≡ Ok n → n ≤ most
code_by true offset most n e = instruction_within offset most n e
code_by false offset most n e = absurd (cc)

at_within : (parts : PlacesParts) (location : Location) (most n : ℕ) (address : Result ℕ AsmFaultKind) → target_at parts location most address ≡ Ok n → n ≤ most
at_within parts location most n (Ok address) e = code_by (rank (kind_in parts location.chunk) == rank Code) (behind address CODE_BASE) most n e
at_within parts location most n (Err fault) e = absurd (cc)

target_within : (parts : PlacesParts) (value : Value) (most n : ℕ) → target_of parts value most ≡ Ok n → n ≤ most
unfolding target_of
target_within parts (Number k) most n e = absurd (cc)
target_within parts (At location) most n e = at_within parts location most n (place_address parts (At location)) e

module _ (late : LateParts) (count : ℕ) (few : late.linked.instructions ≤ count) (small : count < 2 ^ 63) where
  target_number : (origins : List Origin) (file number : ℕ) (s : StatementParts) (source : Source) (n : ℕ) → sources.Target ≡ source
      → number_of late origins file number s source ≡ Ok n → n ≤ count
  unfolding number_of
  target_number origins file number s sources.Target n o e =
      let x = then_ok (value_at late file number) (λ value. at_operand late file number 0 (target_of (places_of late) value late.linked.instructions)) n e in
      let most = target_within (places_of late) x.0 late.linked.instructions n
      (at_ok late file number 0 (target_of (places_of late) x.0 late.linked.instructions) n x.2) in
      omega arith
  target_number origins file number s _ n o e = absurd (cc)

  role_number : (operation : Operation) (relocation : Option Relocation) (role : Role) (origins : List Origin) (file number : ℕ) (s : StatementParts) (source : Source) (n : ℕ)
      → role ≡ roles.Target → role_source operation relocation role ≡ Ok source → number_of late origins file number s source ≡ Ok n → n ≤ count
  role_number operation relocation roles.Target origins file number s source n r o e =
      let is : sources.Target ≡ source = cc in target_number origins file number s source n is e
  role_number operation relocation _ origins file number s source n r o e = absurd (cc)

  -- the number of what goes somewhere
  abbrev Bound : Operation → ℕ → Type 0
  Bound (does.Branch op a b) n = n ≤ count
  Bound (does.Jump a) n = n ≤ count
  Bound (does.PseudoBranch op a b) n = n ≤ count
  Bound (does.ZeroBranch op a) n = n ≤ count
  Bound _ n = Unit {0}

  first_target : (operands : List Operand) (operand : Operand) → slice_get operands 0 ≡ Some operand → All (λ o. o.role ≡ roles.Target) operands → operand.role ≡ roles.Target
  first_target [] operand g h = absurd (cc)
  first_target (one ∷ rest) operand g h =
      let is : one ≡ operand = cc in subst (λ (o : Operand). o.role ≡ roles.Target) is (All-head (λ o. o.role ≡ roles.Target) one rest h)

  bound_of : (operation : Operation) (operands : List Operand) (operand : Operand) (n : ℕ) → slice_get operands 0 ≡ Some operand → AreAimed operation operands
      → (operand.role ≡ roles.Target → n ≤ count) → Bound operation n
  bound_of (does.Branch op a b) operands operand n g h k = k (first_target operands operand g h)
  bound_of (does.Jump a) operands operand n g h k = k (first_target operands operand g h)
  bound_of (does.PseudoBranch op a b) operands operand n g h k = k (first_target operands operand g h)
  bound_of (does.ZeroBranch op a) operands operand n g h k = k (first_target operands operand g h)
  bound_of _ operands operand n g h k = tt

  none_bound : (operation : Operation) → Bound operation 0
  none_bound (does.Branch op a b) = omega arith
  none_bound (does.Jump a) = omega arith
  none_bound (does.PseudoBranch op a b) = omega arith
  none_bound (does.ZeroBranch op a) = omega arith
  none_bound _ = tt

  up_by : (test : Bool) (n m : ℕ) → cond test (Some n) None ≡ Some m → n ≡ m
  up_by true n m e = cc
  up_by false n m e = absurd (cc)

  pos_up : (n m : ℕ) → target (pos n) ≡ Some m → n ≡ m
  unfolding up_to
  pos_up n m e = up_by (nat_le n (2 ^ 32 - 1)) n m e

  aim : (n : ℕ) (value : ℤ) → n ≤ count → cast_signed w64 n ≡ value → (m : ℕ) → target value ≡ Some m → m ≤ count
  aim n value h v m e =
      let low : n < 2 ^ 63 = omega arith in
      let whole : pos n ≡ value = sym (to_z_pos w64 n low) ∙ v in
      let is : n ≡ m = pos_up n m (subst (λ (z : ℤ). target z ≡ Some m) (sym whole) e) in
      subst (λ (k : ℕ). k ≤ count) is h

  same_value : (n : ℕ) (value : ℤ) (r : Result ℤ AsmFaultKind) → Ok (cast_signed w64 n) ≡ r → r ≡ Ok value → cast_signed w64 n ≡ value
  same_value n value r o e = cc

  aims_of : (operation : Operation) (relocation : Option Relocation) (n : ℕ) (value : ℤ) → Bound operation n
      → immediate_value (immediate_of operation) relocation (cast_signed w64 n) ≡ Ok value → Aims count operation value
  unfolding immediate_value
  aims_of (does.Branch op a b) None n value h e = λ m f. aim n value h (same_value n value (Ok (cast_signed w64 n)) refl e) m f
  aims_of (does.Jump a) None n value h e = λ m f. aim n value h (same_value n value (Ok (cast_signed w64 n)) refl e) m f
  aims_of (does.PseudoBranch op a b) None n value h e = λ m f. aim n value h (same_value n value (Ok (cast_signed w64 n)) refl e) m f
  aims_of (does.ZeroBranch op a) None n value h e = λ m f. aim n value h (same_value n value (Ok (cast_signed w64 n)) refl e) m f
  aims_of (does.Branch op a b) (Some r) n value h e = absurd (cc)
  aims_of (does.Jump a) (Some r) n value h e = absurd (cc)
  aims_of (does.PseudoBranch op a b) (Some r) n value h e = absurd (cc)
  aims_of (does.ZeroBranch op a) (Some r) n value h e = absurd (cc)
  aims_of _ relocation n value h e = tt

  -- ---- an instruction

  range_ok : (o : Option (List Instr)) (instrs : List Instr) → or_range o ≡ Ok instrs → o ≡ Some instrs
  range_ok (Some one) instrs e = let is : one ≡ instrs = cc in ap (λ x. Some x) is
  range_ok None instrs e = absurd (cc)

  expanded : (operation : Operation) (relocation : Option Relocation) (n : ℕ) (instrs : List Instr) → IsLowOperation operation → Bound operation n
      → expansion_for operation relocation n ≡ Ok instrs → All (IsOk count) instrs
  unfolding expansion_for
  expanded operation relocation n instrs low bound e =
      let x = then_ok (immediate_value (immediate_of operation) relocation (cast_signed w64 n)) (λ value. or_range (expansion_of operation value)) instrs e in
      expansion_ok count operation x.0 instrs low (aims_of operation relocation n x.0 bound x.1) (range_ok (expansion_of operation x.0) instrs x.2)

  by_ok : (origins : List Origin) (file number : ℕ) (s : StatementParts) (operation : Operation) (o : Option Operand) (instrs : List Instr) → slice_get s.operands 0 ≡ o
      → IsSound operation s.operands → instructions_by late origins file number s operation o ≡ Ok instrs → All (IsOk count) instrs
  unfolding instructions_with source_of
  by_ok origins file number s operation (Some operand) instrs g h e =
      let x = then_ok (at_operand late file number 0 (source_of operation operand))
      (λ source. number_of late origins file number s source >>= λ value. at_operand late file number 0 (expansion_for operation operand.relocation value)) instrs e in
      let y = then_ok (number_of late origins file number s x.0) (λ value. at_operand late file number 0 (expansion_for operation operand.relocation value)) instrs x.2 in
      let source = at_ok late file number 0 (source_of operation operand) x.0 x.1 in
      let bound : Bound operation y.0 =
      bound_of operation s.operands operand y.0 g h.aimed (λ r. role_number operation operand.relocation operand.role origins file number s x.0 y.0 r source y.1) in
      expanded operation operand.relocation y.0 instrs h.low bound (at_ok late file number 0 (expansion_for operation operand.relocation y.0) instrs y.2)
  by_ok origins file number s operation None instrs g h e =
      expanded operation None 0 instrs h.low (none_bound operation) (at_ok late file number 0 (expansion_for operation None 0) instrs e)

  -- ---- code

  record IsCode (code : CodeParts) : Type 0 where
    counted : length code.instructions ≡ room_of late
    ok : All (IsOk count) code.instructions
    origins : code.origins ≡ (code_begun late).origins

  over_ok : (instrs : List Instr) (code : List Instr) (at : ℕ) → All (IsOk count) instrs → All (IsOk count) code → All (IsOk count) (overwritten code at instrs)
  unfolding overwritten
  over_ok [] code at h k = k
  over_ok (i ∷ instrs) code at h k =
      over_ok instrs (slice_set code at i) (at + 1) (All-tail (IsOk count) i instrs h) (All-set (IsOk count) code at i (All-head (IsOk count) i instrs h) k)

  over_length : (instrs : List Instr) (code : List Instr) (at : ℕ) → length (overwritten code at instrs) ≡ length code
  unfolding overwritten
  over_length [] code at = refl
  over_length (i ∷ instrs) code at = over_length instrs (slice_set code at i) (at + 1) ∙ length-set code at i

  put_ok : (file number : ℕ) (s : StatementParts) (operation : Operation) (code after : CodeParts) → IsSound operation s.operands → IsCode code
      → operation_put late file number s operation code ≡ Ok after → IsCode after
  unfolding operation_put instructions_of
  put_ok file number s operation code after h k e =
      let x = then_ok (instructions_by late code.origins file number s operation (slice_get s.operands 0)) (λ instrs. Ok (instructions_placed late file number code instrs)) after e in
      let ok = by_ok code.origins file number s operation (slice_get s.operands 0) x.0 refl h x.1 in
      let is : instructions_placed late file number code x.0 ≡ after = (let f = x.2 in cc) in
      subst IsCode is (record {
        counted = over_length x.0 code.instructions (index_of late file number) ∙ k.counted;
        ok = over_ok x.0 code.instructions (index_of late file number) ok k.ok;
        origins = k.origins;
      })

  abbrev Kept : ContentsParts → Type 0
  Kept contents = IsCode contents.code

  code_new : (contents after : ContentsParts) (r : Result CodeParts AssemblyFault) → ((code : CodeParts) → r ≡ Ok code → IsCode code) → with_code contents r ≡ Ok after → Kept after
  code_new contents after (Ok code) h e = let is : record contents { code = code } ≡ after = cc in subst Kept is (h code refl)
  code_new contents after (Err fault) h e = absurd (cc)

  code_same : (contents after : ContentsParts) (r : Result (List CapValue) AssemblyFault) → Kept contents → with_memory contents r ≡ Ok after → Kept after
  code_same contents after (Ok memory) h e = let is : record contents { memory = memory } ≡ after = cc in subst Kept is h
  code_same contents after (Err fault) h e = absurd (cc)

  same_by : (contents after : ContentsParts) (r : Result ContentsParts AssemblyFault) → Ok contents ≡ r → Kept contents → r ≡ Ok after → Kept after
  same_by contents after r o h e = let is : contents ≡ after = cc in subst Kept is h

  body_kept : (file number : ℕ) (s : StatementParts) (contents after : ContentsParts) (body : Body) → IsSoundBody body s.operands → Kept contents
      → kept_put late file number s contents body ≡ Ok after → Kept after
  body_kept file number s contents after (bodies.Instruction at (Some operation)) sound h e =
      code_new contents after (operation_put late file number s operation contents.code) (λ code f. put_ok file number s operation contents.code code sound h f) e
  body_kept file number s contents after (bodies.Data at width) sound h e = code_same contents after (numbers_stored late file number width s contents.memory) h e
  body_kept file number s contents after (bodies.Chericap at) sound h e = code_same contents after (capabilities_stored late file number s contents.memory) h e
  body_kept file number s contents after (bodies.Ascii at) sound h e = code_same contents after (Ok (strings_stored late file number s false contents.memory)) h e
  body_kept file number s contents after (bodies.Asciz at) sound h e = code_same contents after (Ok (strings_stored late file number s true contents.memory)) h e
  body_kept file number s contents after (bodies.Align at) sound h e = code_same contents after (Ok (fill_stored late file number contents.memory)) h e
  body_kept file number s contents after (bodies.Balign at) sound h e = code_same contents after (Ok (fill_stored late file number contents.memory)) h e
  body_kept file number s contents after (bodies.Zero at) sound h e = code_same contents after (Ok (fill_stored late file number contents.memory)) h e
  body_kept file number s contents after (bodies.Instruction at None) sound h e = same_by contents after (Ok contents) refl h e
  body_kept file number s contents after _ sound h e = same_by contents after (Ok contents) refl h e

  dropped_by : (dropped : Bool) (file number : ℕ) (s : StatementParts) (contents after : ContentsParts) → IsSoundStatement s → Kept contents
      → cond dropped (Ok contents) (kept_put late file number s contents s.body) ≡ Ok after → Kept after
  dropped_by true file number s contents after sound h e = same_by contents after (Ok contents) refl h e
  dropped_by false file number s contents after sound h e = body_kept file number s contents after s.body sound.body h e

  kept_or_dropped : (file number : ℕ) (s : StatementParts) (contents after : ContentsParts) → IsSoundStatement s → Kept contents
      → unless_dropped late file number s contents ≡ Ok after → Kept after
  unfolding unless_dropped
  kept_or_dropped file number s contents after sound h e = dropped_by (rank (kind_of late file number) == rank Dropped) file number s contents after sound h e

  judged_kept : (file number : ℕ) (s : StatementParts) (contents after : ContentsParts) (body : Body) → IsSoundStatement s → Kept contents
      → body_judged late file number s contents body ≡ Ok after → Kept after
  judged_kept file number s contents after (bodies.Set at) sound h e =
      let x = then_ok (set_judged late file number) (λ judged. Ok contents) after e in same_by contents after (Ok contents) refl h x.2
  judged_kept file number s contents after (bodies.Size at) sound h e =
      let x = then_ok (size_judged late file number) (λ judged. Ok contents) after e in same_by contents after (Ok contents) refl h x.2
  judged_kept file number s contents after _ sound h e = kept_or_dropped file number s contents after sound h e

  statement_kept : (file number : ℕ) (s : StatementParts) (contents after : ContentsParts) → IsSoundStatement s → Kept contents
      → statement_put late file number s contents ≡ Ok after → Kept after
  unfolding statement_put
  statement_kept file number s contents after sound h e = judged_kept file number s contents after s.body sound h e

  file_kept : (file : ℕ) (parts : FileParts) (contents after : ContentsParts) → IsSoundFile parts → Kept contents → file_put late file parts contents ≡ Ok after → Kept after
  unfolding file_put
  file_kept file parts contents after sound h e =
      each_so IsSoundStatement Kept (statement_put late file) (λ n s c d q p f. statement_kept file n s c d q p f) 0 parts.statements contents after sound.statements h e

  begun_ok : Kept (contents_begun late)
  unfolding code_begun
  begun_ok = record { counted = length-replicate (room_of late) nop; ok = All-replicate (IsOk count) (room_of late) nop (nop_ok count); origins = refl }

  contents_kept : (after : ContentsParts) → All IsSoundFile late.program.files → contents_of late ≡ Ok after → Kept after
  unfolding contents_of files_put
  contents_kept after sound e =
      let x = then_ok (each_from (file_put late) 0 late.program.files (contents_begun late)) (λ contents. with_memory contents (table_stored late contents.memory)) after e in
      code_same x.0 after (table_stored late x.0.memory)
      (each_so IsSoundFile Kept (file_put late) (λ n f c d q p g. file_kept n f c d q p g) 0 late.program.files (contents_begun late) x.0 sound begun_ok x.1) x.2

  pub code_ok : (after : ContentsParts) → All IsSoundFile late.program.files → contents_of late ≡ Ok after → All (IsOk count) after.code.instructions
  code_ok after sound e = (contents_kept after sound e).ok

  pub code_length : (after : ContentsParts) → All IsSoundFile late.program.files → contents_of late ≡ Ok after → length after.code.instructions ≡ room_of late
  code_length after sound e = (contents_kept after sound e).counted

  pub code_origins : (after : ContentsParts) → All IsSoundFile late.program.files → contents_of late ≡ Ok after → after.code.origins ≡ (code_begun late).origins
  code_origins after sound e = (contents_kept after sound e).origins
