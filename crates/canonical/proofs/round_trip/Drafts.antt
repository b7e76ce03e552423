-- What each line that reads without a fault keeps of a draft.
use Rattle.std.proofs.Common.{◌≡◌, ℕ, ◌+◌, ◌-◌, ◌*◌, ◌/◌, ◌%◌, ◌^◌, ◌<◌, ◌≤◌, ◌==◌, ◌&&◌, nat_lt, nat_le, Bool, true, false, not, cond, List, [], ◌∷◌, ◌++◌, length, Option, Some, None, Result, Ok, Err, All, refl, sym, ap, ◌∙◌, subst, length-append, inl, inr, lit<, arith}
use Rattle.std.specs.Prelude.{replicate, slice_set}
use Rattle.std.specs.List.{AllByRecursion}
use Rattle.std.proofs.Math.ListN.{length-set}
use Rattle.std.proofs.lemmas.Bool.Decides.{nat_tests}
use Rattle.std.proofs.lemmas.Bool.{cases_lt}
use Rattle.std.proofs.lemmas.List.{length-replicate, get_or_past}
use Rattle.std.proofs.lemmas.List.Elements.{All-replicate, All-push, All-set, All-get_or, recursion_from_All, All-from_recursion}
use Rattle.cheri_model.specs.declared.instr.Instr.{Instr}
use Rattle.cheri_model.specs.declared.image.HartImage.{HartImage}
use Rattle.cheri_model.specs.instructions.Form.{form_of}
use Rattle.cap_model.specs.words.PermissionNames.{known_permissions}
use Rattle.cap_model.specs.bounds.Window.{is_in_window}
use Rattle.cap_model.specs.results.EditedWords.{with_rounded_fields}
use Rattle.cap_model.specs.results.Addresses.{is_exact}
use Rattle.cap_model.specs.values.Capability as capability
use Rattle.cap_model.specs.values.Capability.{IsLawful, IsLawfulType, unsealed_type}
use Rattle.cap_model.specs.values.CapValue.{CapValue, valid, raw, bits_of}
use Rattle.cheri_model.specs.steps.Memory.{is_ram_size, cleared_memory, granule_at, granule_number, granule_offset, store_data, store_capability, fits, is_in_ram}
use Rattle.cap_model.proofs.Results.PermissionSets.{dropped_bits_leave_set}
use Rattle.cap_model.proofs.Results.Values.{result_is_lawful}
use Rattle.cap_model.proofs.Results.AddressResults.{window_test}
use Rattle.cap_model.proofs.Words.WordsBack.{word_lt}
use Rattle.cheri_model.proofs.Runs.Granted.{with_bytes_below}
use Rattle.cap_ops.specs.Making.{made, capability_with}
use Rattle.cap_ops.specs.declared.making.MakeFault.{MakeFault}
use Rattle.cap_ops.specs.declared.making.MakeFault.TheVariants as refusal
use Rattle.cap_ops.proofs.Makings.{makeable, made_result, unbounded}
use Rattle.grammar.specs.declared.fault.ListingFaultKind.{ListingFaultKind}
use Rattle.grammar.specs.declared.fault.ListingFaultKind.TheVariants as kind
use Rattle.grammar.specs.declared.operands.TypeOperand.{TypeOperand}
use Rattle.grammar.specs.declared.operands.TypeOperand.TheVariants.{Unsealed}
use Rattle.grammar.specs.declared.capability.CapOperands.{CapOperands}
use Rattle.grammar.specs.declared.capability.CapParts.{CapParts}
use Rattle.grammar.specs.Faults.{◌>>=◌}
use Rattle.grammar.specs.Numerals.{at_most}
use Rattle.grammar.specs.Operands.{type_in_range}
use Rattle.grammar.specs.Capability.{cap_parts_of, unless_refused, capability_of}
use Rattle.listings.specs.Draft.{DraftParts, legal_size, with_ram, hart_from, add_hart, with_hart, latest, with_latest, with_register, set_register, stored_bytes, with_bytes, with_capability, with_instruction, no_registers}
use Rattle.canonical.specs.Listable.{IsWritable, IsWritablePcc, IsWritableHart, IsReadable}
use Rattle.grammar.proofs.PermissionTexts.{second}
use Rattle.canonical.proofs.round_trip.Ranges.{then_ok, test_true, test_false, at_most_ok, type_ok}

not_false : (a : Bool) → not a ≡ false → a ≡ true
not_false true e = refl
not_false false e = absurd (cc)

-- a value that was made of parts of this object type
abbrev pub IsMadeOf : CapValue → ℕ → Type 0
IsMadeOf (valid c) otype = IsLawful c × (c.flag ≡ 0) × (c.otype ≡ otype)
IsMadeOf (raw word) otype = ⊥

abbrev OnMade : ℕ → Result CapValue MakeFault → Type 0
OnMade otype (Ok v) = IsMadeOf v otype
OnMade otype (Err f) = Unit {0}

ends_where : (n : ℕ) → nat_lt (2 ^ 64) n ≡ false → n ≤ 2 ^ 64
ends_where n e = grind (arith, nat_tests)

made_ok : (base len addr perms otype : ℕ) (v : CapValue) → base < 2 ^ 64 → addr < 2 ^ 64 → IsLawfulType otype → made base len addr perms otype ≡ Ok v → IsMadeOf v otype
unfolding made
made_ok base len addr perms otype v base_low addr_low lawful_type e =
    let c : capability.Capability = capability_with base len addr (known_permissions perms) otype in
    let one = test_false (nat_lt (2 ^ 64) (base + len)) (cond (not (is_exact base len)) (Err refusal.Inexact) (cond (not (is_in_window base len addr)) (Err refusal.Unrepresentable) (Ok (valid c)))) refusal.PastEnd v e in
    let two = test_false (not (is_exact base len)) (cond (not (is_in_window base len addr)) (Err refusal.Unrepresentable) (Ok (valid c))) refusal.Inexact v one.1 in
    let three = test_false (not (is_in_window base len addr)) (Ok (valid c)) refusal.Unrepresentable v two.1 in
    let makes = makeable base len (known_permissions perms) otype (dropped_bits_leave_set perms) lawful_type base_low (ends_where (base + len) one.0) (not_false _ two.0) in
    let lawful : IsLawful c = result_is_lawful (made_result base len (known_permissions perms) otype makes (with_rounded_fields (unbounded (known_permissions perms) otype) base len) addr refl addr_low (window_test base len addr (not_false _ three.0))) in
    subst (OnMade otype) three.1 (lawful, refl, refl)

-- parts in their ranges
pub record ArePartsOf (operand : TypeOperand) (parts : CapParts) : Type 0 where
  pub base_low : parts.base ≤ 2 ^ 64 - 1
  pub addr_low : parts.addr ≤ 2 ^ 64 - 1
  pub typed : type_in_range operand ≡ Ok parts.otype

unsealed_typed : (otype : ℕ) → type_in_range Unsealed ≡ Ok otype → otype ≡ unsealed_type
unfolding type_in_range
unsealed_typed otype e = cc

abbrev OnParts : TypeOperand → Result CapParts ListingFaultKind → Type 0
OnParts operand (Ok parts) = ArePartsOf operand parts
OnParts operand (Err f) = Unit {0}

pub parts_ok : (operands : CapOperands) (parts : CapParts) → cap_parts_of operands ≡ Ok parts → ArePartsOf operands.otype parts
unfolding cap_parts_of
parts_ok operands parts e =
    let perms = operands.perms in
    let s1 = then_ok (at_most (2 ^ 64 - 1) operands.base) (λ base. at_most (2 ^ 64) operands.len >>= (λ len. at_most (2 ^ 64 - 1) operands.addr >>= (λ addr. type_in_range operands.otype >>= (λ otype. Ok (record { base = base; len = len; addr = addr; perms = operands.perms; otype = otype }))))) parts e in
    let s2 = then_ok (at_most (2 ^ 64) operands.len) (λ len. at_most (2 ^ 64 - 1) operands.addr >>= (λ addr. type_in_range operands.otype >>= (λ otype. Ok (record { base = s1.0; len = len; addr = addr; perms = operands.perms; otype = otype })))) parts s1.2 in
    let s3 = then_ok (at_most (2 ^ 64 - 1) operands.addr) (λ addr. type_in_range operands.otype >>= (λ otype. Ok (record { base = s1.0; len = s2.0; addr = addr; perms = operands.perms; otype = otype }))) parts s2.2 in
    let s4 = then_ok (type_in_range operands.otype) (λ otype. Ok (record { base = s1.0; len = s2.0; addr = s3.0; perms = operands.perms; otype = otype })) parts s3.2 in
    subst (OnParts operands.otype) s4.2 (record { base_low = at_most_ok (2 ^ 64 - 1) operands.base s1.0 s1.1; addr_low = at_most_ok (2 ^ 64 - 1) operands.addr s3.0 s3.1; typed = s4.1 })

unrefused : (r : Result CapValue MakeFault) (v : CapValue) → unless_refused r ≡ Ok v → r ≡ Ok v
unrefused (Ok w) v e = let same : w ≡ v = cc in ap (λ x. Ok x) same
unrefused (Err f) v e = absurd (cc)

pub capability_ok : (operand : TypeOperand) (parts : CapParts) (v : CapValue) → ArePartsOf operand parts → capability_of parts ≡ Ok v → IsMadeOf v parts.otype
unfolding capability_of
capability_ok operand parts v h e =
    let base = h.base_low in
    let addr = h.addr_low in
    made_ok parts.base parts.len parts.addr parts.perms.0 parts.otype v (omega arith) (omega arith) (type_ok operand parts.otype h.typed) (unrefused _ v e)

pub writable : (v : CapValue) (otype : ℕ) → IsMadeOf v otype → IsWritable v
writable (valid c) otype h = (h.0, h.1)
writable (raw word) otype h = absurd h

program_counter : (v : CapValue) (otype : ℕ) → otype ≡ unsealed_type → IsMadeOf v otype → IsWritablePcc v
program_counter (valid c) otype e h = (h.0, h.1, h.2 ∙ e)
program_counter (raw word) otype e h = absurd h

-- a draft of what listings can write
pub record IsDraft (count : ℕ) (draft : DraftParts) : Type 0 where
  pub legal : is_ram_size (16 * length draft.memory) ≡ true
  pub values : All IsWritable draft.memory
  pub all_harts : All IsWritableHart draft.harts
  pub most_harts : length draft.harts ≤ 8
  pub instructions : All (λ i. IsReadable count (form_of i)) draft.program
  pub most_instructions : length draft.program ≤ 16384

-- a line led to another such draft, with so many more instructions
pub record Goes (count : ℕ) (before after : DraftParts) (more : ℕ) : Type 0 where
  pub good : IsDraft count after
  pub counted : length after.program ≡ length before.program + more

abbrev pub OnDraft : ℕ → DraftParts → ℕ → Result DraftParts ListingFaultKind → Type 0
OnDraft count before more (Ok after) = Goes count before after more
OnDraft count before more (Err f) = Unit {0}

legal_ok : (size : Option ℕ) (bytes : ℕ) → legal_size size ≡ Ok bytes → is_ram_size bytes ≡ true
legal_ok (Some n) bytes e =
    let passed = test_true (is_ram_size n) (Ok n) kind.Size bytes e in
    let same : n ≡ bytes = (let h = passed.1 in cc) in
    subst (λ m. is_ram_size m ≡ true) same passed.0
legal_ok None bytes e = absurd (cc)

whole_granules : (bytes : ℕ) → is_ram_size bytes ≡ true → 16 * (bytes / 16) ≡ bytes
whole_granules bytes e =
    let even : (bytes % 16 == 0) ≡ true = second (nat_le 16 bytes && nat_le bytes 1048576) _ e in
    let none : bytes % 16 ≡ 0 = grind (arith, nat_tests) in
    omega (arith, none)

module _ (count : ℕ) (draft : DraftParts) (d : IsDraft count draft) where
  no_more : length draft.program ≡ length draft.program + 0
  no_more = omega arith

  pub ram_ok : (size : Option ℕ) (after : DraftParts) → with_ram draft size ≡ Ok after → Goes count draft after 0
  unfolding with_ram
  ram_ok size after e =
      let fresh = test_false draft.sized (legal_size size >>= (λ bytes. Ok (record draft { memory = cleared_memory bytes; sized = true }))) kind.Twice after e in
      let bytes = then_ok (legal_size size) (λ bytes. Ok (record draft { memory = cleared_memory bytes; sized = true })) after fresh.1 in
      let right = legal_ok size bytes.0 bytes.1 in
      let whole : 16 * length (cleared_memory bytes.0) ≡ bytes.0 = ap (λ n. 16 * n) (length-replicate (bytes.0 / 16) (raw 0)) ∙ whole_granules bytes.0 right in
      subst (OnDraft count draft 0) bytes.2 (record {
        good = record {
          legal = ap is_ram_size whole ∙ right;
          values = All-replicate IsWritable (bytes.0 / 16) (raw 0) (omega arith);
          all_harts = d.all_harts;
          most_harts = d.most_harts;
          instructions = d.instructions;
          most_instructions = d.most_instructions;
        };
        counted = no_more;
      })

  null_regs : AllByRecursion IsWritable (replicate 31 (raw 0))
  null_regs = recursion_from_All IsWritable (replicate 31 (raw 0)) (All-replicate IsWritable 31 (raw 0) (omega arith))

  room_where : (n : ℕ) → nat_lt n 8 ≡ true → n + 1 ≤ 8
  room_where n e = grind (arith, nat_tests)

  pub hart_ok : (parts : CapParts) (after : DraftParts) → ArePartsOf Unsealed parts → with_hart draft parts ≡ Ok after → Goes count draft after 0
  unfolding with_hart add_hart
  hart_ok parts after h e =
      let pcc = then_ok (capability_of parts) (λ v. add_hart draft v) after e in
      let room = test_true (nat_lt (length draft.harts) 8) (Ok (record draft { harts = draft.harts ++ hart_from pcc.0 ∷ []; set = no_registers })) kind.Size after pcc.2 in
      let unsealed : parts.otype ≡ unsealed_type = unsealed_typed parts.otype h.typed in
      let hart : IsWritableHart (hart_from pcc.0) = record { program_counter = program_counter pcc.0 parts.otype unsealed (capability_ok Unsealed parts pcc.0 h pcc.1); count = refl; values = null_regs } in
      let longer : length (draft.harts ++ hart_from pcc.0 ∷ []) ≡ length draft.harts + 1 = length-append draft.harts (hart_from pcc.0 ∷ []) in
      let fewer = room_where (length draft.harts) room.0 in
      subst (OnDraft count draft 0) room.1 (record {
        good = record {
          legal = d.legal;
          values = d.values;
          all_harts = All-push IsWritableHart draft.harts (hart_from pcc.0) d.all_harts hart;
          most_harts = omega (arith, longer, fewer);
          instructions = d.instructions;
          most_instructions = d.most_instructions;
        };
        counted = no_more;
      })

  register_ok : (hart : HartImage) (reg : ℕ) (v : CapValue) → IsWritableHart hart → IsWritable v → IsWritableHart (with_register hart reg v)
  register_ok hart reg v h w = record {
    program_counter = h.program_counter;
    count = length-set hart.regs (reg - 1) v ∙ h.count;
    values = recursion_from_All IsWritable (slice_set hart.regs (reg - 1) v) (All-set IsWritable hart.regs (reg - 1) v w (All-from_recursion IsWritable hart.regs h.values));
  }

  last_below : (n : ℕ) → (n == 0) ≡ false → n - 1 < n
  last_below n e = grind (arith, nat_tests)

  pub set_ok : (reg : ℕ) (v : CapValue) (after : DraftParts) → IsWritable v → set_register draft reg v ≡ Ok after → Goes count draft after 0
  unfolding set_register
  set_ok reg v after w e =
      let some = test_false (length draft.harts == 0) (Ok (record draft { harts = with_latest draft.harts (with_register (latest draft.harts) reg v); set = slice_set draft.set reg true })) kind.NoHart after e in
      let hart : IsWritableHart (latest draft.harts) = All-get_or IsWritableHart draft.harts (length draft.harts - 1) (hart_from (raw 0)) (last_below (length draft.harts) some.0) d.all_harts in
      let same : length (with_latest draft.harts (with_register (latest draft.harts) reg v)) ≡ length draft.harts = length-set draft.harts (length draft.harts - 1) (with_register (latest draft.harts) reg v) in
      let most = d.most_harts in
      subst (OnDraft count draft 0) some.1 (record {
        good = record {
          legal = d.legal;
          values = d.values;
          all_harts = All-set IsWritableHart draft.harts (length draft.harts - 1) (with_register (latest draft.harts) reg v) (register_ok (latest draft.harts) reg v hart w) d.all_harts;
          most_harts = omega (arith, same, most);
          instructions = d.instructions;
          most_instructions = d.most_instructions;
        };
        counted = no_more;
      })

-- memory with other writable values
bits_low : (v : CapValue) → IsWritable v → bits_of v < 2 ^ 128
bits_low (valid c) h = word_lt c h.0
bits_low (raw word) h = h

granule_writable : (memory : List CapValue) (k : ℕ) → All IsWritable memory → IsWritable (granule_at memory k)
unfolding granule_at
granule_writable memory k h =
    elim (cases_lt k (length memory)) [
      | inl within ↦ All-get_or IsWritable memory k (raw 0) within h
      | inr past ↦ subst IsWritable (sym (get_or_past memory k (raw 0) past)) (lit< tt)
    ]

byte_kept : (memory : List CapValue) (addr byte : ℕ) → All IsWritable memory → All IsWritable (store_data memory addr 1 byte)
unfolding store_data
byte_kept memory addr byte h =
    All-set IsWritable memory (granule_number addr) _ (with_bytes_below (bits_of (granule_at memory (granule_number addr))) (granule_offset addr) 1 byte (bits_low _ (granule_writable memory (granule_number addr) h)) (offset_low addr)) h
  where
    offset_low : (addr : ℕ) → granule_offset addr + 1 ≤ 16
    offset_low addr = omega arith

bytes_kept : (bytes : List ℕ) (memory : List CapValue) (addr : ℕ) → All IsWritable memory → All IsWritable (stored_bytes memory addr bytes)
unfolding stored_bytes
bytes_kept [] memory addr h = h
bytes_kept (byte ∷ bytes) memory addr h = bytes_kept bytes (store_data memory addr 1 byte) (addr + 1) (byte_kept memory addr byte h)

byte_length : (memory : List CapValue) (addr byte : ℕ) → length (store_data memory addr 1 byte) ≡ length memory
unfolding store_data
byte_length memory addr byte = length-set memory (granule_number addr) _

bytes_length : (bytes : List ℕ) (memory : List CapValue) (addr : ℕ) → length (stored_bytes memory addr bytes) ≡ length memory
unfolding stored_bytes
bytes_length [] memory addr = refl
bytes_length (byte ∷ bytes) memory addr = bytes_length bytes (store_data memory addr 1 byte) (addr + 1) ∙ byte_length memory addr byte

module _ (count : ℕ) (draft : DraftParts) (d : IsDraft count draft) where
  memory_ok : (memory : List CapValue) → All IsWritable memory → length memory ≡ length draft.memory → Goes count draft (record draft { memory = memory; sized = true }) 0
  memory_ok memory h same = record {
    good = record {
      legal = ap (λ n. is_ram_size (16 * n)) same ∙ d.legal;
      values = h;
      all_harts = d.all_harts;
      most_harts = d.most_harts;
      instructions = d.instructions;
      most_instructions = d.most_instructions;
    };
    counted = omega arith;
  }

  pub bytes_ok : (addr : ℕ) (bytes : List ℕ) (after : DraftParts) → with_bytes draft addr bytes ≡ Ok after → Goes count draft after 0
  unfolding with_bytes
  bytes_ok addr bytes after e =
      let short = test_false (nat_lt 4096 (length bytes)) (cond (is_in_ram draft.memory addr (length bytes)) (Ok (record draft { memory = stored_bytes draft.memory addr bytes; sized = true })) (Err kind.Range)) kind.Range after e in
      let inside = test_true (is_in_ram draft.memory addr (length bytes)) (Ok (record draft { memory = stored_bytes draft.memory addr bytes; sized = true })) kind.Range after short.1 in
      subst (OnDraft count draft 0) inside.1 (memory_ok (stored_bytes draft.memory addr bytes) (bytes_kept bytes draft.memory addr d.values) (bytes_length bytes draft.memory addr))

  pub granule_ok : (operand : TypeOperand) (addr : ℕ) (parts : CapParts) (after : DraftParts) → ArePartsOf operand parts → with_capability draft addr parts ≡ Ok after → Goes count draft after 0
  unfolding with_capability store_capability
  granule_ok operand addr parts after h e =
      let inside = test_true (fits draft.memory addr 16) (capability_of parts >>= (λ v. Ok (record draft { memory = store_capability draft.memory addr v; sized = true }))) kind.Range after e in
      let v = then_ok (capability_of parts) (λ v. Ok (record draft { memory = store_capability draft.memory addr v; sized = true })) after inside.1 in
      subst (OnDraft count draft 0) v.2 (memory_ok (store_capability draft.memory addr v.0)
      (All-set IsWritable draft.memory (granule_number addr) v.0 (writable v.0 parts.otype (capability_ok operand parts v.0 h v.1)) d.values) (length-set draft.memory (granule_number addr) v.0))

  program_room : (n : ℕ) → nat_lt n 16384 ≡ true → n + 1 ≤ 16384
  program_room n e = grind (arith, nat_tests)

  pub instruction_ok : (instr : Instr) (after : DraftParts) → IsReadable count (form_of instr) → with_instruction draft instr ≡ Ok after → Goes count draft after 1
  unfolding with_instruction
  instruction_ok instr after readable e =
      let room = test_true (nat_lt (length draft.program) 16384) (Ok (record draft { program = draft.program ++ instr ∷ [] })) kind.Size after e in
      let longer : length (draft.program ++ instr ∷ []) ≡ length draft.program + 1 = length-append draft.program (instr ∷ []) in
      let fewer = program_room (length draft.program) room.0 in
      subst (OnDraft count draft 1) room.1 (record {
        good = record {
          legal = d.legal;
          values = d.values;
          all_harts = d.all_harts;
          most_harts = d.most_harts;
          instructions = All-push (λ i. IsReadable count (form_of i)) draft.program instr d.instructions readable;
          most_instructions = omega (arith, longer, fewer);
        };
        counted = longer;
      })

  pub same_ok : (after : DraftParts) → draft ≡ after → Goes count draft after 0
  same_ok after e = subst (λ next. Goes count draft next 0) e (record { good = d; counted = omega arith })
