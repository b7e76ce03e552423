-- What statements and the table keep of memory: each value is of one kind, and there are as many.
use Rattle.std.proofs.Common.{◌≡◌, ℕ, ◌+◌, ◌==◌, Bool, true, false, cond, List, [], ◌∷◌, length, Some, None, Result, Ok, Err, All, refl, ap, ◌∙◌, subst}
use Rattle.std.proofs.Math.ListN.{length-set}
use Rattle.std.proofs.lemmas.List.Elements.{All-set}
use Rattle.cap_model.specs.values.CapValue.{CapValue, raw}
use Rattle.cheri_model.specs.declared.memory.TheConstants.{GRANULE_BYTES}
use Rattle.cheri_model.specs.steps.Memory.{is_in_ram, fits, granule_number, store_data, store_capability}
use Rattle.listings.specs.Draft.{stored_bytes}
use Rattle.asm_tokens.specs.declared.fault.AsmFaultKind.{AsmFaultKind}
use Rattle.asm_tokens.specs.Faults.{◌>>=◌}
use Rattle.asm_values.specs.declared.values.Location.{Location}
use Rattle.asm_values.specs.declared.values.Value.{Value}
use Rattle.asm_layout.specs.declared.chunk.ChunkKind.{ChunkKind}
use Rattle.asm_layout.specs.declared.chunk.ChunkKind.TheVariants.{Dropped}
use Rattle.asm_layout.specs.Placement.{rank}
use Rattle.asm_statements.specs.declared.statement.Body.{Body}
use Rattle.asm_statements.specs.declared.statement.Body.TheVariants as bodies
use Rattle.asm_statements.specs.declared.statement.Operand.{Operand}
use Rattle.asm_statements.specs.Statements.{StatementParts}
use Rattle.asm_files.specs.declared.fault.AssemblyFault.{AssemblyFault}
use Rattle.asm_files.specs.Programs.{FileParts}
use Rattle.asm_files.specs.Steps.{each_from}
use Rattle.asm_late.specs.Late.{LateParts, operand_value, symbol_value, places_of, objects_of, set_judged, size_judged}
use Rattle.asm_places.specs.Capabilities.{capability_of}
use Rattle.asm_code.specs.Standing.{kind_of, place_of, address_of, at_operand}
use Rattle.asm_code.specs.Code.{CodeParts, operation_put}
use Rattle.asm_code.specs.Heads.{entry_address}
use Rattle.asm_memory.specs.Memory.{bytes_put, fill_put, capability_put}
use Rattle.asm_memory.specs.Numbers.{number_bytes, number_put}
use Rattle.asm_data.specs.Data.{number_for, number_stored, numbers_stored, capability_width, capability_for, capability_stored, capabilities_stored}
use Rattle.asm_data.specs.Strings.{strings_stored, fill_stored}
use Rattle.asm_data.specs.Table.{or_nowhere, entry_stored, table_stored}
use Rattle.asm_data.specs.Contents.{ContentsParts, with_code, with_memory, kept_put, unless_dropped, body_judged, statement_put, file_put, files_put, contents_begun, contents_of}
use Rattle.asm_listable.proofs.Starts.{then_ok}

-- a step for each item keeps what each step keeps
pub each_kept : {X S E : Type 0} (P : S → Type 0) (step : ℕ → X → S → Result S E) → ((n : ℕ) (x : X) (s t : S) → P s → step n x s ≡ Ok t → P t)
    → (n : ℕ) (xs : List X) (s t : S) → P s → each_from step n xs s ≡ Ok t → P t
unfolding each_from
each_kept P step kept n [] s t h e = let is : s ≡ t = cc in subst P is h
each_kept P step kept n (x ∷ xs) s t h e =
    let y = then_ok (step n x s) (λ next. each_from step (n + 1) xs next) t e in
    each_kept P step kept (n + 1) xs y.0 t (kept n x s y.0 h y.1) y.2

pub at_ok : {A : Type 0} (late : LateParts) (file number operand : ℕ) (r : Result A AsmFaultKind) (a : A) → at_operand late file number operand r ≡ Ok a → r ≡ Ok a
at_ok late file number operand (Ok b) a e = let is : b ≡ a = cc in ap (λ x. Ok x) is
at_ok late file number operand (Err kind) a e = absurd (cc)

nowhere_ok : {A : Type 0} (r : Result A AsmFaultKind) (a : A) → or_nowhere r ≡ Ok a → r ≡ Ok a
nowhere_ok (Ok b) a e = let is : b ≡ a = cc in ap (λ x. Ok x) is
nowhere_ok (Err kind) a e = absurd (cc)

-- a memory of so many values of one kind
pub record IsOf (P : CapValue → Type 0) (count : ℕ) (memory : List CapValue) : Type 0 where
  pub values : All P memory
  pub counted : length memory ≡ count

-- values of this kind stay so where bytes are stored; operands and symbols are worth what `Q` says,
-- and what is put into memory for such a value is of the kind
pub record Keeps (late : LateParts) (P : CapValue → Type 0) (Q : Value → Type 0) : Type 0 where
  pub null : P (raw 0)
  pub byte : (memory : List CapValue) (addr byte : ℕ) → All P memory → All P (store_data memory addr 1 byte)
  pub operand : (file number item : ℕ) (dot : Location) (value : Value) → operand_value late file number item dot ≡ Ok value → Q value
  pub symbol : (symbol : ℕ) (value : Value) → symbol_value late symbol ≡ Ok value → Q value
  pub made : (kind : ChunkKind) (value : Value) (v : CapValue) → Q value → capability_for (objects_of late) kind value ≡ Ok v → P v
  pub entry : (value : Value) (v : CapValue) → Q value → capability_of (objects_of late) value ≡ Ok v → P v

module _ (late : LateParts) (P : CapValue → Type 0) (Q : Value → Type 0) (k : Keeps late P Q) (count : ℕ) where
  byte_length : (memory : List CapValue) (addr byte : ℕ) → length (store_data memory addr 1 byte) ≡ length memory
  unfolding store_data
  byte_length memory addr byte = length-set memory (granule_number addr) _

  stored_kept : (bytes : List ℕ) (memory : List CapValue) (addr : ℕ) → IsOf P count memory → IsOf P count (stored_bytes memory addr bytes)
  unfolding stored_bytes
  stored_kept [] memory addr h = h
  stored_kept (byte ∷ bytes) memory addr h =
      stored_kept bytes (store_data memory addr 1 byte) (addr + 1)
      (record { values = k.byte memory addr byte h.values; counted = byte_length memory addr byte ∙ h.counted })

  bytes_by : (there : Bool) (memory : List CapValue) (addr : ℕ) (bytes : List ℕ) → IsOf P count memory → IsOf P count (cond there (stored_bytes memory addr bytes) memory)
  bytes_by true memory addr bytes h = stored_kept bytes memory addr h
  bytes_by false memory addr bytes h = h

  bytes_kept : (memory : List CapValue) (addr : ℕ) (bytes : List ℕ) → IsOf P count memory → IsOf P count (bytes_put memory addr bytes)
  unfolding bytes_put
  bytes_kept memory addr bytes h = bytes_by (is_in_ram memory addr (length bytes)) memory addr bytes h

  fill_by : (none : Bool) (memory : List CapValue) (addr : ℕ) (bytes : List ℕ) → IsOf P count memory → IsOf P count (cond none memory (bytes_put memory addr bytes))
  fill_by true memory addr bytes h = h
  fill_by false memory addr bytes h = bytes_kept memory addr bytes h

  fill_kept : (memory : List CapValue) (addr length byte : ℕ) → IsOf P count memory → IsOf P count (fill_put memory addr length byte)
  unfolding fill_put
  fill_kept memory addr length byte h = fill_by (byte == 0) memory addr _ h

  value_by : (there : Bool) (memory : List CapValue) (addr : ℕ) (v : CapValue) → P v → IsOf P count memory → IsOf P count (cond there (store_capability memory addr v) memory)
  unfolding store_capability
  value_by true memory addr v p h =
      record { values = All-set P memory (granule_number addr) v p h.values; counted = length-set memory (granule_number addr) v ∙ h.counted }
  value_by false memory addr v p h = h

  value_kept : (memory : List CapValue) (addr : ℕ) (v : CapValue) → P v → IsOf P count memory → IsOf P count (capability_put memory addr v)
  unfolding capability_put
  value_kept memory addr v p h = value_by (fits memory addr GRANULE_BYTES) memory addr v p h

  -- ---- statements

  number_kept : (file number width item : ℕ) (operand : Operand) (memory after : List CapValue) → IsOf P count memory
      → number_stored late file number width item operand memory ≡ Ok after → IsOf P count after
  unfolding number_stored number_put
  number_kept file number width item operand memory after h e =
      let one = then_ok (operand_value late file number item (place_of late file number width item))
      (λ value. at_operand late file number item (number_for (places_of late) (kind_of late file number) width value)
      >>= λ n. Ok (number_put memory (address_of late file number width item) width n)) after e in
      let two = then_ok (at_operand late file number item (number_for (places_of late) (kind_of late file number) width one.0))
      (λ n. Ok (number_put memory (address_of late file number width item) width n)) after one.2 in
      let is : number_put memory (address_of late file number width item) width two.0 ≡ after = (let h = two.2 in cc) in
      subst (IsOf P count) is (bytes_kept memory (address_of late file number width item) (number_bytes width two.0) h)

  numbers_kept : (file number width : ℕ) (s : StatementParts) (memory after : List CapValue) → IsOf P count memory
      → numbers_stored late file number width s memory ≡ Ok after → IsOf P count after
  unfolding numbers_stored
  numbers_kept file number width s memory after h e =
      each_kept (IsOf P count) (number_stored late file number width) (λ n x s t p q. number_kept file number width n x s t p q) 0 s.operands memory after h e

  capability_kept : (file number item : ℕ) (operand : Operand) (memory after : List CapValue) → IsOf P count memory
      → capability_stored late file number item operand memory ≡ Ok after → IsOf P count after
  unfolding capability_stored
  capability_kept file number item operand memory after h e =
      let one = then_ok (operand_value late file number item (place_of late file number capability_width item))
      (λ value. at_operand late file number item (capability_for (objects_of late) (kind_of late file number) value)
      >>= λ capability. Ok (capability_put memory (address_of late file number capability_width item) capability)) after e in
      let two = then_ok (at_operand late file number item (capability_for (objects_of late) (kind_of late file number) one.0))
      (λ capability. Ok (capability_put memory (address_of late file number capability_width item) capability)) after one.2 in
      let good : P two.0 =
      k.made (kind_of late file number) one.0 two.0 (k.operand file number item (place_of late file number capability_width item) one.0 one.1)
      (at_ok late file number item (capability_for (objects_of late) (kind_of late file number) one.0) two.0 two.1) in
      let is : capability_put memory (address_of late file number capability_width item) two.0 ≡ after = (let h = two.2 in cc) in
      subst (IsOf P count) is (value_kept memory (address_of late file number capability_width item) two.0 good h)

  capabilities_kept : (file number : ℕ) (s : StatementParts) (memory after : List CapValue) → IsOf P count memory
      → capabilities_stored late file number s memory ≡ Ok after → IsOf P count after
  unfolding capabilities_stored
  capabilities_kept file number s memory after h e =
      each_kept (IsOf P count) (capability_stored late file number) (λ n x s t p q. capability_kept file number n x s t p q) 0 s.operands memory after h e

  -- what is kept of code and memory, of which this speaks of memory
  abbrev Kept : ContentsParts → Type 0
  Kept contents = IsOf P count contents.memory

  code_same : (contents after : ContentsParts) (r : Result CodeParts AssemblyFault) → Kept contents → with_code contents r ≡ Ok after → Kept after
  code_same contents after (Ok code) h e = let is : record contents { code = code } ≡ after = cc in subst Kept is h
  code_same contents after (Err fault) h e = absurd (cc)

  memory_new : (contents after : ContentsParts) (r : Result (List CapValue) AssemblyFault) → ((memory : List CapValue) → r ≡ Ok memory → IsOf P count memory)
      → with_memory contents r ≡ Ok after → Kept after
  memory_new contents after (Ok memory) h e = let is : record contents { memory = memory } ≡ after = cc in subst Kept is (h memory refl)
  memory_new contents after (Err fault) h e = absurd (cc)

  same_of : (memory other : List CapValue) (r : Result (List CapValue) AssemblyFault) → Ok memory ≡ r → IsOf P count memory → r ≡ Ok other → IsOf P count other
  same_of memory other r o h e = let is : memory ≡ other = cc in subst (IsOf P count) is h

  same_by : (contents after : ContentsParts) (r : Result ContentsParts AssemblyFault) → Ok contents ≡ r → Kept contents → r ≡ Ok after → Kept after
  same_by contents after r o h e = let is : contents ≡ after = cc in subst Kept is h

  strings_kept : (file number : ℕ) (s : StatementParts) (ended : Bool) (memory : List CapValue) → IsOf P count memory
      → IsOf P count (strings_stored late file number s ended memory)
  unfolding strings_stored
  strings_kept file number s ended memory h = bytes_kept memory (address_of late file number 0 0) _ h

  filled_kept : (file number : ℕ) (memory : List CapValue) → IsOf P count memory → IsOf P count (fill_stored late file number memory)
  unfolding fill_stored
  filled_kept file number memory h = fill_kept memory (address_of late file number 0 0) _ _ h

  body_kept : (file number : ℕ) (s : StatementParts) (contents after : ContentsParts) (body : Body) → Kept contents
      → kept_put late file number s contents body ≡ Ok after → Kept after
  body_kept file number s contents after (bodies.Instruction at (Some operation)) h e =
      code_same contents after (operation_put late file number s operation contents.code) h e
  body_kept file number s contents after (bodies.Data at width) h e =
      memory_new contents after (numbers_stored late file number width s contents.memory) (λ memory q. numbers_kept file number width s contents.memory memory h q) e
  body_kept file number s contents after (bodies.Chericap at) h e =
      memory_new contents after (capabilities_stored late file number s contents.memory) (λ memory q. capabilities_kept file number s contents.memory memory h q) e
  body_kept file number s contents after (bodies.Ascii at) h e =
      memory_new contents after (Ok (strings_stored late file number s false contents.memory))
      (λ memory q. same_of (strings_stored late file number s false contents.memory) memory (Ok (strings_stored late file number s false contents.memory)) refl (strings_kept file number s false contents.memory h) q) e
  body_kept file number s contents after (bodies.Asciz at) h e =
      memory_new contents after (Ok (strings_stored late file number s true contents.memory))
      (λ memory q. same_of (strings_stored late file number s true contents.memory) memory (Ok (strings_stored late file number s true contents.memory)) refl (strings_kept file number s true contents.memory h) q) e
  body_kept file number s contents after (bodies.Align at) h e =
      memory_new contents after (Ok (fill_stored late file number contents.memory))
      (λ memory q. same_of (fill_stored late file number contents.memory) memory (Ok (fill_stored late file number contents.memory)) refl (filled_kept file number contents.memory h) q) e
  body_kept file number s contents after (bodies.Balign at) h e =
      memory_new contents after (Ok (fill_stored late file number contents.memory))
      (λ memory q. same_of (fill_stored late file number contents.memory) memory (Ok (fill_stored late file number contents.memory)) refl (filled_kept file number contents.memory h) q) e
  body_kept file number s contents after (bodies.Zero at) h e =
      memory_new contents after (Ok (fill_stored late file number contents.memory))
      (λ memory q. same_of (fill_stored late file number contents.memory) memory (Ok (fill_stored late file number contents.memory)) refl (filled_kept file number contents.memory h) q) e
  body_kept file number s contents after (bodies.Instruction at None) h e = same_by contents after (Ok contents) refl h e
  body_kept file number s contents after _ h e = same_by contents after (Ok contents) refl h e

  dropped_by : (dropped : Bool) (file number : ℕ) (s : StatementParts) (contents after : ContentsParts) → Kept contents
      → cond dropped (Ok contents) (kept_put late file number s contents s.body) ≡ Ok after → Kept after
  dropped_by true file number s contents after h e = same_by contents after (Ok contents) refl h e
  dropped_by false file number s contents after h e = body_kept file number s contents after s.body h e

  kept_or_dropped : (file number : ℕ) (s : StatementParts) (contents after : ContentsParts) → Kept contents
      → unless_dropped late file number s contents ≡ Ok after → Kept after
  unfolding unless_dropped
  kept_or_dropped file number s contents after h e = dropped_by (rank (kind_of late file number) == rank Dropped) file number s contents after h e

  judged_kept : (file number : ℕ) (s : StatementParts) (contents after : ContentsParts) (body : Body) → Kept contents
      → body_judged late file number s contents body ≡ Ok after → Kept after
  judged_kept file number s contents after (bodies.Set at) h e =
      let x = then_ok (set_judged late file number) (λ judged. Ok contents) after e in same_by contents after (Ok contents) refl h x.2
  judged_kept file number s contents after (bodies.Size at) h e =
      let x = then_ok (size_judged late file number) (λ judged. Ok contents) after e in same_by contents after (Ok contents) refl h x.2
  judged_kept file number s contents after _ h e = kept_or_dropped file number s contents after h e

  statement_kept : (file number : ℕ) (s : StatementParts) (contents after : ContentsParts) → Kept contents
      → statement_put late file number s contents ≡ Ok after → Kept after
  unfolding statement_put
  statement_kept file number s contents after h e = judged_kept file number s contents after s.body h e

  file_kept : (file : ℕ) (parts : FileParts) (contents after : ContentsParts) → Kept contents → file_put late file parts contents ≡ Ok after → Kept after
  unfolding file_put
  file_kept file parts contents after h e =
      each_kept Kept (statement_put late file) (λ n s c d p q. statement_kept file n s c d p q) 0 parts.statements contents after h e

  files_kept : (contents after : ContentsParts) → Kept contents → files_put late contents ≡ Ok after → Kept after
  unfolding files_put
  files_kept contents after h e = each_kept Kept (file_put late) (λ n f c d p q. file_kept n f c d p q) 0 late.program.files contents after h e

  -- ---- the table

  entry_kept : (entry symbol : ℕ) (memory after : List CapValue) → IsOf P count memory → entry_stored late entry symbol memory ≡ Ok after → IsOf P count after
  unfolding entry_stored
  entry_kept entry symbol memory after h e =
      let one = then_ok (symbol_value late symbol)
      (λ value. or_nowhere (capability_of (objects_of late) value) >>= λ capability. Ok (capability_put memory (entry_address entry) capability)) after e in
      let two = then_ok (or_nowhere (capability_of (objects_of late) one.0)) (λ capability. Ok (capability_put memory (entry_address entry) capability)) after one.2 in
      let good : P two.0 = k.entry one.0 two.0 (k.symbol symbol one.0 one.1) (nowhere_ok (capability_of (objects_of late) one.0) two.0 two.1) in
      let is : capability_put memory (entry_address entry) two.0 ≡ after = (let h = two.2 in cc) in
      subst (IsOf P count) is (value_kept memory (entry_address entry) two.0 good h)

  table_kept : (memory after : List CapValue) → IsOf P count memory → table_stored late memory ≡ Ok after → IsOf P count after
  unfolding table_stored
  table_kept memory after h e = each_kept (IsOf P count) (entry_stored late) (λ n x s t p q. entry_kept n x s t p q) 0 late.linked.table.symbols memory after h e

  pub contents_kept : (after : ContentsParts) → Kept (contents_begun late) → contents_of late ≡ Ok after → Kept after
  unfolding contents_of
  contents_kept after h e =
      let one = then_ok (files_put late (contents_begun late)) (λ contents. with_memory contents (table_stored late contents.memory)) after e in
      memory_new one.0 after (table_stored late one.0.memory) (λ memory q. table_kept one.0.memory memory (files_kept (contents_begun late) one.0 h one.1) q) one.2
