-- Every image that files mean can be written as a listing.
use Rattle.std.proofs.Common.{◌≡◌, ◌⊎◌, inl, inr, ℕ, ◌+◌, ◌*◌, ◌/◌, ◌%◌, ◌^◌, ◌<◌, ◌≤◌, ◌==◌, ◌&&◌, nat_lt, nat_le, min, Bool, true, false, cond, List, [], ◌∷◌, length, take, Some, Result, Ok, Err, All, refl, sym, ap, ◌∙◌, subst, length-append, lit<, arith}
use Rattle.std.specs.Prelude.{◌||◌, pos}
use Rattle.std.proofs.Math.ListN.{length-take}
use Rattle.std.proofs.lemmas.Bool.Decides.{nat_tests}
use Rattle.std.proofs.lemmas.Bool.{cases_lt}
use Rattle.std.proofs.lemmas.List.{length-replicate, get_or_past}
use Rattle.std.proofs.lemmas.List.Elements.{All-nil, All-cons, All-set, All-replicate, All-take, All-append, All-push, All-get_or, All-weaker, recursion_from_All}
use Rattle.cap_model.specs.values.CapValue.{CapValue, valid, raw, bits_of}
use Rattle.cap_model.proofs.Words.WordsBack.{word_lt}
use Rattle.cheri_model.specs.declared.instr.Instr.{Instr}
use Rattle.cheri_model.specs.declared.instr.Instr.TheVariants as instr
use Rattle.cheri_model.specs.declared.image.HartImage.{HartImage}
use Rattle.cheri_model.specs.declared.code.TheConstants.{CODE_BASE, INSTRUCTION_BYTES}
use Rattle.cheri_model.specs.declared.memory.TheConstants.{MAX_RAM_BYTES, GRANULE_BYTES}
use Rattle.cheri_model.specs.instructions.Form.{form_of}
use Rattle.cheri_model.specs.runs.Image.{ImageParts}
use Rattle.cheri_model.specs.runs.ImageRules.{is_image}
use Rattle.cheri_model.specs.steps.Memory.{granule_at, granule_number, granule_offset, store_data}
use Rattle.cheri_model.proofs.Runs.Granted.{with_bytes_below}
use Rattle.listings.specs.Meaning.{listing_limit, listing_meaning}
use Rattle.canonical.specs.Canon.{canon}
use Rattle.canonical.specs.Listable.{IsWritable, IsWritableHart, IsReadable, IsListable}
use Rattle.canonical.proofs.round_trip.Ranges.{test_false}
use Rattle.canonical.proofs.round_trip.Whole.{canon_reads}
use Rattle.asm_tokens.specs.declared.fault.AsmFault.{AsmFault}
use Rattle.asm_tokens.specs.declared.fault.AsmFaultKind.{AsmFaultKind}
use Rattle.asm_tokens.specs.declared.fault.AsmFaultKind.TheVariants as faults
use Rattle.asm_tokens.specs.Faults.{◌>>=◌}
use Rattle.asm_values.specs.declared.values.Value.{Value}
use Rattle.asm_values.specs.declared.values.Value.TheVariants.{Number, At}
use Rattle.asm_layout.specs.declared.chunk.ChunkKind.{ChunkKind}
use Rattle.asm_layout.specs.declared.chunk.ChunkKind.TheVariants as kinds
use Rattle.asm_layout.specs.Placement.{rank}
use Rattle.asm_places.specs.Capabilities.{ObjectsParts, capability_of}
use Rattle.asm_files.specs.Requests.{HartRequestParts}
use Rattle.asm_late.specs.Late.{LateParts, objects_of}
use Rattle.asm_memory.specs.Memory.{listed_below}
use Rattle.asm_instructions.specs.Exits.{exit}
use Rattle.asm_code.specs.Beginning.{room_of}
use Rattle.asm_data.specs.Data.{zero_or_section, raw_zero, capability_for}
use Rattle.asm_data.specs.Contents.{ContentsParts, contents_of}
use Rattle.asm_starts.specs.Ram.{taken}
use Rattle.asm_starts.specs.Values.{SceneParts}
use Rattle.asm_starts.specs.Words.{each_put}
use Rattle.asm_starts.specs.Starts.{start_of}
use Rattle.asm_listable.specs.Places.{IsSoundScene}
use Rattle.asm_listable.proofs.Starts.{then_ok, place_writable, start_writable}
use Rattle.asm_pictures.specs.Asked.{HartsParts}
use Rattle.asm_pictures.specs.Harts.{OpenedParts, hart_number, with_start, asked_in, hart_put, harts_of}
use Rattle.asm_pictures.specs.Image.{whole, total, sizes_judged, exit_address, program_with}
use Rattle.asm_image.specs.Whole.{AssembledParts, scene_of, assembly_meaning}
use Rattle.asm_promises.specs.Given.{requests_in}
use Rattle.asm_promises.specs.Origins.{late_in}
use Rattle.asm_promises.proofs.Steps.{steps_of}
use Rattle.asm_promises.proofs.Memory.{Keeps, IsOf, contents_kept}
use Rattle.asm_promises.proofs.Given.{made_of}
use Rattle.asm_promises.proofs.Values.{IsLowValue}
use Rattle.asm_promises.proofs.Late.{IsRead, program_read, IsLinked, linked_low, operand_low, symbol_low_late}
use Rattle.asm_promises.proofs.Readable.{IsOk, ecall_ok, unimp_ok}
use Rattle.asm_promises.proofs.Instructions.{code_ok, code_length}

-- ---- memory

small_raw : (n : ℕ) → n < 2 ^ 64 → IsWritable (raw n)
small_raw n h = let low : n < 2 ^ 128 = omega arith in low

value_writable : (o : ObjectsParts) (value : Value) (v : CapValue) → IsLowValue value → capability_of o value ≡ Ok v → IsWritable v
unfolding capability_of
value_writable o (Number n) v low e = let is : raw n ≡ v = cc in subst IsWritable is (small_raw n low.low)
value_writable o (At location) v low e = place_writable o location v e

zero_writable : (r : Result ℕ AsmFaultKind) (v : CapValue) → ((n : ℕ) → r ≡ Ok n → n < 2 ^ 64) → raw_zero r ≡ Ok v → IsWritable v
zero_writable (Ok n) v h e = let is : raw n ≡ v = cc in subst IsWritable is (small_raw n (h n refl))
zero_writable (Err kind) v h e = absurd (cc)

zero_by : (test : Bool) (n : ℕ) → cond test (Ok 0) (Err faults.Section) ≡ Ok n → n < 2 ^ 64
zero_by true n e = let is : 0 ≡ n = cc in subst (λ (k : ℕ). k < 2 ^ 64) is (lit< tt)
zero_by false n e = absurd (cc)

zero_low : (value : Value) (n : ℕ) → zero_or_section value ≡ Ok n → n < 2 ^ 64
zero_low (Number k) n e = zero_by (k == 0) n e
zero_low (At location) n e = absurd (cc)

zeros_or : (zeros : Bool) (o : ObjectsParts) (value : Value) (v : CapValue) → IsLowValue value
    → cond zeros (raw_zero (zero_or_section value)) (capability_of o value) ≡ Ok v → IsWritable v
zeros_or true o value v low e = zero_writable (zero_or_section value) v (λ n f. zero_low value n f) e
zeros_or false o value v low e = value_writable o value v low e

put_writable : (o : ObjectsParts) (kind : ChunkKind) (value : Value) (v : CapValue) → IsLowValue value → capability_for o kind value ≡ Ok v → IsWritable v
unfolding capability_for
put_writable o kind value v low e = zeros_or (rank kind == rank kinds.Zeros) o value v low e

bits_low : (v : CapValue) → IsWritable v → bits_of v < 2 ^ 128
bits_low (valid c) h = word_lt c h.0
bits_low (raw word) h = h

null_writable : IsWritable (raw 0)
null_writable = lit< tt

granule_by : (memory : List CapValue) (k : ℕ) → (k < length memory) ⊎ (length memory ≤ k) → All IsWritable memory → IsWritable (granule_at memory k)
unfolding granule_at
granule_by memory k (inl within) h = All-get_or IsWritable memory k (raw 0) within h
granule_by memory k (inr past) h = subst IsWritable (sym (get_or_past memory k (raw 0) past)) null_writable

offset_low : (addr : ℕ) → granule_offset addr + 1 ≤ 16
offset_low addr = omega arith

byte_writable : (memory : List CapValue) (addr byte : ℕ) → All IsWritable memory → All IsWritable (store_data memory addr 1 byte)
unfolding store_data
byte_writable memory addr byte h =
    All-set IsWritable memory (granule_number addr) _
    (with_bytes_below (bits_of (granule_at memory (granule_number addr))) (granule_offset addr) 1 byte
    (bits_low _ (granule_by memory (granule_number addr) (cases_lt (granule_number addr) (length memory)) h)) (offset_low addr)) h

keeps : (late : LateParts) → IsLinked late → Keeps late IsWritable IsLowValue
keeps late h =
    record {
      null = null_writable;
      byte = λ memory addr byte k. byte_writable memory addr byte k;
      operand = λ file number item dot value e. operand_low late h file number item dot value e;
      symbol = λ symbol value e. symbol_low_late late h symbol value e;
      made = λ kind value v q e. put_writable (objects_of late) kind value v q e;
      entry = λ value v q e. value_writable (objects_of late) value v q e;
    }

memory_is : (late : LateParts) (contents : ContentsParts) → IsLinked late → contents_of late ≡ Ok contents → IsOf IsWritable (MAX_RAM_BYTES / GRANULE_BYTES) contents.memory
memory_is late contents h e =
    contents_kept late IsWritable IsLowValue (keeps late h) (MAX_RAM_BYTES / GRANULE_BYTES) contents
    (record {
      values = All-replicate IsWritable (MAX_RAM_BYTES / GRANULE_BYTES) (raw 0) null_writable;
      counted = length-replicate (MAX_RAM_BYTES / GRANULE_BYTES) (raw 0);
    }) e

-- ---- harts

module _ (scene : SceneParts) (sound : IsSoundScene scene) where
  abbrev AreWritable : OpenedParts → Type 0
  AreWritable opened = All IsWritableHart opened.images

  asked_ok : (file : ℕ) (r : Result OpenedParts AsmFault) (after : OpenedParts) → asked_in file r ≡ Ok after → r ≡ Ok after
  asked_ok file (Ok opened) after e = let is : opened ≡ after = cc in ap (λ x. Ok x) is
  asked_ok file (Err fault) after e = absurd (cc)

  number_low : (n : ℕ) → hart_number n < 2 ^ 8
  number_low n = omega arith

  put_writable_hart : (request : HartRequestParts) (opened after : OpenedParts) → AreWritable opened → hart_put scene request opened ≡ Ok after → AreWritable after
  unfolding hart_put
  put_writable_hart request opened after h e =
      let start_is = start_of scene (hart_number (length opened.images)) opened.memory_end request.line request.words in
      let x = then_ok start_is (λ start. Ok (with_start opened start)) after (asked_ok request.file (start_is >>= λ start. Ok (with_start opened start)) after e) in
      let is : with_start opened x.0 ≡ after = (let k = x.2 in cc) in
      subst AreWritable is
      (All-push IsWritableHart opened.images x.0.hart.image h
      (start_writable scene (hart_number (length opened.images)) opened.memory_end request.line request.words x.0 sound (number_low (length opened.images)) x.1))

  walk : (left : List HartRequestParts) (opened after : OpenedParts) → AreWritable opened → each_put (hart_put scene) left opened ≡ Ok after → AreWritable after
  unfolding each_put
  walk [] opened after h e = let is : opened ≡ after = cc in subst AreWritable is h
  walk (request ∷ left) opened after h e =
      let x = then_ok (hart_put scene request opened) (λ next. each_put (hart_put scene) left next) after e in
      walk left x.0 after (put_writable_hart request opened x.0 h x.1) x.2

  harts_writable : (memory_end : ℕ) (requests : List HartRequestParts) (opened : OpenedParts) → harts_of scene memory_end requests ≡ Ok opened → AreWritable opened
  unfolding harts_of
  harts_writable memory_end requests opened e =
      walk requests (record { images = []; notes = []; memory_end = memory_end }) opened (All-nil IsWritableHart) e

exit_by : (there : Bool) (instructions addr : ℕ) → instructions ≤ 16384 → exit_address instructions there ≡ Some addr → addr < 2 ^ 64
exit_by true instructions addr h e =
    let is : CODE_BASE + INSTRUCTION_BYTES * (instructions + 1) ≡ addr = cc in
    let low : CODE_BASE + INSTRUCTION_BYTES * (instructions + 1) < 2 ^ 64 = omega arith in
    subst (λ (n : ℕ). n < 2 ^ 64) is low
exit_by false instructions addr h e = absurd (cc)

scene_sound : (late : LateParts) (there : Bool) → late.linked.instructions ≤ 16384 → IsSoundScene (scene_of late (exit_address late.linked.instructions there))
unfolding scene_of
scene_sound late there h = λ addr e. exit_by there late.linked.instructions addr h e

-- ---- sizes

and_first : (a b : Bool) → (a && b) ≡ true → a ≡ true
and_first true b e = refl
and_first false b e = absurd (cc)

and_second : (a b : Bool) → (a && b) ≡ true → b ≡ true
and_second true b e = e
and_second false b e = absurd (cc)

pub or_false : (a b : Bool) → (a || b) ≡ false → (a ≡ false) × (b ≡ false)
or_false true b e = absurd (cc)
or_false false b e = (refl, e)

most : (a b : ℕ) → nat_le a b ≡ true → a ≤ b
most a b e = grind (arith, nat_tests)

pub below : (a b : ℕ) → nat_lt a b ≡ false → b ≤ a
below a b e = grind (arith, nat_tests)

pub total_by : (there : Bool) (n : ℕ) → total n there ≤ 16384 → n ≤ 16384
total_by true n h = omega arith
total_by false n h = h

-- no more instructions than there can be
pub few : (n : ℕ) (there : Bool) (memory_end : ℕ) → sizes_judged n there memory_end ≡ Ok tt → total n there ≤ 16384
unfolding sizes_judged
few n there memory_end e =
    let x = test_false ((n == 0) || nat_lt 16384 (total n there) || nat_lt MAX_RAM_BYTES (taken memory_end)) (Ok tt) (whole faults.Size) tt e in
    let y = or_false ((n == 0) || nat_lt 16384 (total n there)) (nat_lt MAX_RAM_BYTES (taken memory_end)) x.0 in
    let z = or_false (n == 0) (nat_lt 16384 (total n there)) y.0 in
    below 16384 (total n there) z.1

exit_ok : (count : ℕ) → All (IsOk count) exit
unfolding exit
exit_ok count =
    All-cons (IsOk count) (instr.CJalr 0 0 (pos 0)) (instr.Ecall ∷ []) (unimp_ok count) (All-cons (IsOk count) instr.Ecall [] (ecall_ok count) (All-nil (IsOk count)))

exit_length : length exit ≡ 2
unfolding exit
exit_length = refl

with_ok : (count : ℕ) (program : List Instr) (there : Bool) → All (IsOk count) program → All (IsOk count) (program_with program there)
with_ok count program true h = All-append (IsOk count) program exit h (exit_ok count)
with_ok count program false h = h

pub with_length : (program : List Instr) (there : Bool) → length (program_with program there) ≡ total (length program) there
with_length program true = length-append program exit ∙ ap (λ n. length program + n) exit_length
with_length program false = refl

pub total_least : (n : ℕ) (there : Bool) → n ≤ total n there
total_least n true = omega arith
total_least n false = omega arith

sized : (ram : ℕ) → nat_le 16 ram ≡ true → nat_le ram 1048576 ≡ true → (ram % 16 == 0) ≡ true → (ram / 16 ≤ 65536) × (16 * (ram / 16) ≡ ram)
sized ram least greatest even =
    let small = most ram 1048576 greatest in
    let none : ram % 16 ≡ 0 = grind (arith, nat_tests) in
    (omega arith, omega arith)

and_both : (a b : Bool) → a ≡ true → b ≡ true → (a && b) ≡ true
and_both true b p q = q
and_both false b p q = absurd (cc)

-- what makes an image of these parts one that listings can write
listable_of : (program : List Instr) (ram : ℕ) (memory : List CapValue) (harts : List HartImage) (count : ℕ)
    → is_image (record { program = program; ram = ram; granules = listed_below ram memory; harts = harts }) ≡ true
    → IsOf IsWritable (MAX_RAM_BYTES / GRANULE_BYTES) memory → All IsWritableHart harts → length program ≡ count → All (IsOk count) program
    → IsListable (record { program = program; ram = ram; granules = listed_below ram memory; harts = harts })
unfolding is_image listed_below
listable_of program ram memory harts count e of_memory all_harts counted ok =
    let n = length program in
    let h = length harts in
    let sizes = and_first ((nat_le 1 n && nat_le n 16384) && (nat_le 16 ram && nat_le ram 1048576) && (ram % 16 == 0) && (nat_le 1 h && nat_le h 8)) _ e in
    let three = and_first ((nat_le 1 n && nat_le n 16384) && (nat_le 16 ram && nat_le ram 1048576) && (ram % 16 == 0)) (nat_le 1 h && nat_le h 8) sizes in
    let some = and_second ((nat_le 1 n && nat_le n 16384) && (nat_le 16 ram && nat_le ram 1048576) && (ram % 16 == 0)) (nat_le 1 h && nat_le h 8) sizes in
    let two = and_first ((nat_le 1 n && nat_le n 16384) && (nat_le 16 ram && nat_le ram 1048576)) (ram % 16 == 0) three in
    let even = and_second ((nat_le 1 n && nat_le n 16384) && (nat_le 16 ram && nat_le ram 1048576)) (ram % 16 == 0) three in
    let instructions = and_first (nat_le 1 n && nat_le n 16384) (nat_le 16 ram && nat_le ram 1048576) two in
    let bytes = and_second (nat_le 1 n && nat_le n 16384) (nat_le 16 ram && nat_le ram 1048576) two in
    let size = sized ram (and_first (nat_le 16 ram) (nat_le ram 1048576) bytes) (and_second (nat_le 16 ram) (nat_le ram 1048576) bytes) even in
    let whole_memory : length memory ≡ 65536 = of_memory.counted in
    let taken_length : length (take (ram / 16) memory) ≡ min (ram / 16) (length memory) = length-take (ram / 16) memory in
    let room = size.0 in
    let back = size.1 in
    let length_is : length (take (ram / 16) memory) ≡ ram / 16 = omega arith in
    let least_instructions = most 1 n (and_first (nat_le 1 n) (nat_le n 16384) instructions) in
    let least_harts = most 1 h (and_first (nat_le 1 h) (nat_le h 8) some) in
    let read : All (λ i. IsReadable n (form_of i)) program =
    All-weaker (IsOk count) (λ i. IsReadable n (form_of i)) (λ i k. subst (λ (c : ℕ). IsReadable c (form_of i)) (sym counted) k.is) program ok in
    record {
      memory = take (ram / 16) memory;
      size = and_both (nat_le 16 ram && nat_le ram 1048576) (ram % 16 == 0) bytes even;
      whole = omega arith;
      listed = refl;
      values = recursion_from_All IsWritable (take (ram / 16) memory) (All-take IsWritable (ram / 16) memory of_memory.values);
      writable_harts = recursion_from_All IsWritableHart harts all_harts;
      some_harts = omega arith;
      most_harts = most h 8 (and_second (nat_le 1 h) (nat_le h 8) some);
      readable = recursion_from_All (λ i. IsReadable n (form_of i)) program read;
      some_instructions = omega arith;
      most_instructions = most n 16384 (and_second (nat_le 1 n) (nat_le n 16384) instructions);
    }

room_is : (late : LateParts) → late.linked.instructions ≤ 16384 → room_of late ≡ late.linked.instructions
room_is late h = omega arith

pub listable : (texts : List (List ℕ)) (harts : HartsParts) (a : AssembledParts) → assembly_meaning texts harts ≡ Ok a → IsListable a.image
listable texts harts a e =
    let s = steps_of texts harts a e in
    let read : IsRead a.program = program_read texts a.program s.read in
    let linked : IsLinked (late_in a) = linked_low a.program a.exit a.linked read s.linked in
    let low : total a.linked.instructions a.exit ≤ 16384 = few a.linked.instructions a.exit a.linked.layout.memory_end s.judged in
    let fewer : a.linked.instructions ≤ 16384 = total_by a.exit a.linked.instructions low in
    let least : a.linked.instructions ≤ total a.linked.instructions a.exit = total_least a.linked.instructions a.exit in
    let small : total a.linked.instructions a.exit < 2 ^ 63 = omega arith in
    let code = s.contents.code.instructions in
    let length_is : length s.contents.code.instructions ≡ a.linked.instructions =
    code_length (late_in a) (total a.linked.instructions a.exit) least small s.contents read.files s.contents_is ∙ room_is (late_in a) fewer in
    let counted : length (program_with s.contents.code.instructions a.exit) ≡ total a.linked.instructions a.exit =
    with_length s.contents.code.instructions a.exit ∙ ap (λ n. total n a.exit) length_is in
    let ok : All (IsOk (total a.linked.instructions a.exit)) (program_with s.contents.code.instructions a.exit) =
    with_ok (total a.linked.instructions a.exit) s.contents.code.instructions a.exit
    (code_ok (late_in a) (total a.linked.instructions a.exit) least small s.contents read.files s.contents_is) in
    let made = made_of (program_with s.contents.code.instructions a.exit) s.ram (listed_below s.ram s.contents.memory) s.opened.images a.image s.image in
    let is : is_image (record { program = program_with s.contents.code.instructions a.exit; ram = s.ram; granules = listed_below s.ram s.contents.memory; harts = s.opened.images }) ≡ true =
    subst (λ (i : ImageParts). is_image i ≡ true) (sym made.parts) made.is in
    let harts_ok : All IsWritableHart s.opened.images =
    harts_writable (scene_of (late_in a) (exit_address a.linked.instructions a.exit)) (scene_sound (late_in a) a.exit fewer) a.linked.layout.memory_end (requests_in harts a) s.opened s.opened_is in
    subst IsListable made.parts
    (listable_of (program_with s.contents.code.instructions a.exit) s.ram s.contents.memory s.opened.images (total a.linked.instructions a.exit) is
    (memory_is (late_in a) s.contents linked s.contents_is) harts_ok counted ok)

pub short : (texts : List (List ℕ)) (harts : HartsParts) (a : AssembledParts) → assembly_meaning texts harts ≡ Ok a → length (canon a.image) ≤ listing_limit
short texts harts a e =
    let s = steps_of texts harts a e in
    (made_of (program_with s.contents.code.instructions a.exit) s.ram (listed_below s.ram s.contents.memory) s.opened.images a.image s.image).short

pub means : (texts : List (List ℕ)) (harts : HartsParts) (a : AssembledParts) → assembly_meaning texts harts ≡ Ok a → listing_meaning (canon a.image) ≡ Ok a.image
means texts harts a e = canon_reads a.image (listable texts harts a e) (short texts harts a e)
