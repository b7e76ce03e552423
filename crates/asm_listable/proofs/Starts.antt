-- What the words of requests set is what listings can write.
use Rattle.std.proofs.Common.{◌≡◌, ℕ, ◌+◌, ◌%◌, ◌^◌, ◌==◌, ◌<◌, Bool, true, false, cond, List, [], ◌∷◌, Option, Some, None, Result, Ok, Err, refl, sym, ap, ◌∙◌, subst, lit<, arith}
use Rattle.std.specs.Prelude.{codes, replicate, length, is_some}
use Rattle.std.proofs.lemmas.List.{length-replicate}
use Rattle.std.proofs.lemmas.List.Elements.{All-replicate, recursion_from_All}
use Rattle.cap_model.specs.values.CapValue.{CapValue, raw}
use Rattle.cap_ops.specs.declared.making.MakeFault.{MakeFault}
use Rattle.grammar.specs.declared.fault.ListingFaultKind.{ListingFaultKind}
use Rattle.grammar.specs.declared.operands.TypeOperand.{TypeOperand}
use Rattle.grammar.specs.declared.capability.CapParts.{CapParts}
use Rattle.grammar.specs.Capability as listed
use Rattle.canonical.specs.Listable.{IsWritable, IsWritableHart}
use Rattle.canonical.proofs.round_trip.Drafts.{ArePartsOf, capability_ok, writable}
use Rattle.canonical.proofs.round_trip.Ranges.{test_false}
use Rattle.cheri_model.specs.declared.code.TheConstants.{CODE_BASE}
use Rattle.asm_tokens.specs.declared.fault.AsmFault.{AsmFault}
use Rattle.asm_tokens.specs.declared.fault.AsmFaultKind.{AsmFaultKind}
use Rattle.asm_tokens.specs.declared.fault.AsmFaultKind.TheVariants as faults
use Rattle.asm_tokens.specs.Faults.{◌>>=◌}
use Rattle.asm_values.specs.declared.values.Location.{Location}
use Rattle.asm_values.specs.declared.values.Value.{Value}
use Rattle.asm_values.specs.declared.values.Value.TheVariants.{Number, At}
use Rattle.asm_capabilities.specs.Capabilities.{sentry_at, data_at, table_of, pcc_at}
use Rattle.asm_layout.specs.declared.chunk.ChunkKind.TheVariants as kinds
use Rattle.asm_layout.specs.Placement.{rank}
use Rattle.asm_places.specs.Places.{PlacesParts, then_some, or_section, kind_of, chunk_address, address_in, address_of}
use Rattle.asm_places.specs.Capabilities as objects
use Rattle.asm_places.specs.Capabilities.{ObjectsParts, kept_kind, length_of, place_of, data_from, data_in, data_of, symbol_data, capability_at, capability_of}
use Rattle.asm_harts.specs.declared.registers.Registers.{Registers}
use Rattle.asm_harts.specs.declared.hart.HartPlaces.{HartPlaces}
use Rattle.asm_harts.specs.declared.hart.OpenHart.{OpenHart}
use Rattle.asm_harts.specs.Registers.{no_registers, is_set, with_register}
use Rattle.asm_harts.specs.Harts.{hart_of}
use Rattle.asm_requests.specs.Values.{HeldParts, symbol, table, written}
use Rattle.asm_requests.specs.Settings.{SettingParts, entry, stack, exit, integer, capability, setting_of}
use Rattle.asm_requests.specs.Words.{WordParts}
use Rattle.asm_starts.specs.Known.{found}
use Rattle.asm_starts.specs.Values.{SceneParts, kept_place, if_placed, code_at, code_or_none, code_named, entry_or_none, entry_named, if_made, entry_made, entry_at, first_entry, default_entry, made_or, capability_or, listed_or, moved, moved_value, symbol_value, table_value, written_or, held_value, place_named}
use Rattle.asm_harts.specs.declared.hart.TheConstants.{STACK, LINK}
use Rattle.asm_starts.specs.Words.{SetupParts, new_setup, register_claimed, with_value, entry_put, stack_put, integer_put, capability_put, setting_put, said_put, word_put, at_word, word_at, each_put}
use Rattle.asm_starts.specs.Starts as starts
use Rattle.asm_starts.specs.Starts.{StartParts, has_exit, exit_for, said_entry, named_at, entry_of, places_of, start_from, start_of}
use Rattle.asm_listable.specs.Places.{AreNumbers, AreWritable, IsSoundScene}
use Rattle.asm_listable.proofs.Capabilities.{sentry_writable, data_writable, table_writable}
use Rattle.asm_listable.proofs.Harts.{Values, put, hart_writable}
use Rattle.asm_listable.proofs.Settings.{IsReadHeld, IsReadSetting, setting_read}

-- a step that ends well
pub then_ok : {A B E : Type 0} (r : Result A E) (f : A → Result B E) (b : B) → (r >>= f) ≡ Ok b → (a : A) × (r ≡ Ok a) × (f a ≡ Ok b)
then_ok (Ok a) f b e = (a, refl, e)
then_ok (Err x) f b e = absurd (cc)

-- ---- addresses of 64 bits

low_in : (o : Option ℕ) (offset addr : ℕ) → then_some o (λ start. Some ((start + offset) % 2 ^ 64)) ≡ Some addr → addr < 2 ^ 64
low_in (Some start) offset addr e =
    let is : (start + offset) % 2 ^ 64 ≡ addr = cc in
    let low : (start + offset) % 2 ^ 64 < 2 ^ 64 = omega arith in
    subst (λ (n : ℕ). n < 2 ^ 64) is low
low_in None offset addr e = absurd (cc)

address_low : (places : PlacesParts) (chunk offset addr : ℕ) → address_in places chunk offset ≡ Some addr → addr < 2 ^ 64
unfolding address_in
address_low places chunk offset addr e = low_in (chunk_address places chunk) offset addr e

section_some : (o : Option ℕ) (addr : ℕ) → or_section o ≡ Ok addr → o ≡ Some addr
section_some (Some n) addr e = let is : n ≡ addr = cc in ap Some is
section_some None addr e = absurd (cc)

pub located_low : (places : PlacesParts) (location : Location) (addr : ℕ) → address_of places (At location) ≡ Ok addr → addr < 2 ^ 64
unfolding address_of
located_low places location addr e =
    address_low places location.chunk location.offset addr (section_some (address_in places location.chunk location.offset) addr e)

-- ---- the capabilities of symbols

made_ok : (r : Result CapValue MakeFault) (v : CapValue) → objects.made_or r ≡ Ok v → r ≡ Ok v
made_ok (Ok w) v e = let is : w ≡ v = cc in ap Ok is
made_ok (Err refusal) v e = absurd (cc)

from_writable : (o : ObjectsParts) (number chunk addr : ℕ) (base : Option ℕ) (v : CapValue) → ((b : ℕ) → base ≡ Some b → b < 2 ^ 64)
    → addr < 2 ^ 64 → data_from o number chunk addr base ≡ Ok v → IsWritable v
from_writable o number chunk addr (Some base) v base_low low e =
    data_writable (kept_kind (kind_of o.places chunk)) base (length_of o number) addr v (base_low base refl) low
    (made_ok (data_at (kept_kind (kind_of o.places chunk)) base (length_of o number) addr) v e)
from_writable o number chunk addr None v base_low low e = absurd (cc)

in_writable : (o : ObjectsParts) (number addr : ℕ) (place : Option (ℕ × ℕ)) (v : CapValue) → addr < 2 ^ 64
    → data_in o number addr place ≡ Ok v → IsWritable v
in_writable o number addr (Some place) v low e =
    from_writable o number place.0 addr (address_in o.places place.0 place.1) v (λ b h. address_low o.places place.0 place.1 b h) low e
in_writable o number addr None v low e = absurd (cc)

symbol_writable : (o : ObjectsParts) (addr : ℕ) (number : Option ℕ) (v : CapValue) → addr < 2 ^ 64 → symbol_data o addr number ≡ Ok v → IsWritable v
unfolding data_of
symbol_writable o addr (Some number) v low e = in_writable o number addr (place_of o number) v low e
symbol_writable o addr None v low e = absurd (cc)

code_or_data : (is_code : Bool) (o : ObjectsParts) (addr : ℕ) (number : Option ℕ) (v : CapValue) → addr < 2 ^ 64
    → cond is_code (objects.made_or (sentry_at o.reach addr)) (symbol_data o addr number) ≡ Ok v → IsWritable v
code_or_data true o addr number v low e = sentry_writable o.reach addr v low (made_ok (sentry_at o.reach addr) v e)
code_or_data false o addr number v low e = symbol_writable o addr number v low e

at_writable : (o : ObjectsParts) (location : Location) (addr : Result ℕ AsmFaultKind) (v : CapValue) → address_of o.places (At location) ≡ addr
    → capability_at o location addr ≡ Ok v → IsWritable v
at_writable o location (Ok addr) v a e =
    code_or_data (rank (kind_of o.places location.chunk) == rank kinds.Code) o addr location.symbol v (located_low o.places location addr a) e
at_writable o location (Err fault) v a e = absurd (cc)

pub place_writable : (o : ObjectsParts) (location : Location) (v : CapValue) → capability_of o (At location) ≡ Ok v → IsWritable v
unfolding capability_of
place_writable o location v e = at_writable o location (address_of o.places (At location)) v refl e

-- ---- what registers are to hold

capability_there : (r : Result CapValue AsmFaultKind) (v : CapValue) → capability_or r ≡ Ok v → r ≡ Ok v
capability_there (Ok w) v e = let is : w ≡ v = cc in ap Ok is
capability_there (Err fault) v e = absurd (cc)

listed_there : (r : Result CapValue ListingFaultKind) (v : CapValue) → listed_or r ≡ Ok v → r ≡ Ok v
listed_there (Ok w) v e = let is : w ≡ v = cc in ap Ok is
listed_there (Err fault) v e = absurd (cc)

made_there : (r : Result CapValue MakeFault) (v : CapValue) → made_or r ≡ Ok v → r ≡ Ok v
made_there (Ok w) v e = let is : w ≡ v = cc in ap Ok is
made_there (Err refusal) v e = absurd (cc)

moved_writable : (scene : SceneParts) (offset : ℕ) (place : Option Location) (v : CapValue) → moved_value scene offset place ≡ Ok v → IsWritable v
moved_writable scene offset (Some location) v e =
    place_writable scene.objects (moved location offset) v (capability_there (capability_of scene.objects (At (moved location offset))) v e)
moved_writable scene offset None v e = absurd (cc)

held_writable : (scene : SceneParts) (held : HeldParts) (v : CapValue) → IsReadHeld held → held_value scene held ≡ Ok v → IsWritable v
unfolding held_value symbol_value table_value
held_writable scene (symbol name offset) v read e = moved_writable scene offset (place_named scene name) v e
held_writable scene table v read e =
    table_writable scene.entries v (made_there (table_of scene.entries) v (test_false (scene.entries == 0) (made_or (table_of scene.entries)) faults.Hart v e).1)
held_writable scene (written parts) v read e =
    writable v parts.otype (capability_ok read.0 parts v read.1 (listed_there (listed.capability_of parts) v e))

-- ---- what words set

-- 31 writable registers, and an entry at an address of 64 bits
record IsSound (setup : SetupParts) : Type 0 where
  registers : Values setup.registers
  start : (addr : ℕ) → setup.start ≡ Some addr → addr < 2 ^ 64

if_low : (r : Result ℕ AsmFaultKind) (addr : ℕ) → ((n : ℕ) → r ≡ Ok n → n < 2 ^ 64) → if_placed r ≡ Some addr → addr < 2 ^ 64
if_low (Ok n) addr low e = let is : n ≡ addr = cc in subst (λ (m : ℕ). m < 2 ^ 64) is (low n refl)
if_low (Err fault) addr low e = absurd (cc)

code_by : (is_code : Bool) (places : PlacesParts) (location : Location) (addr : ℕ)
    → cond is_code (if_placed (address_of places (At location))) None ≡ Some addr → addr < 2 ^ 64
code_by true places location addr e = if_low (address_of places (At location)) addr (λ n h. located_low places location n h) e
code_by false places location addr e = absurd (cc)

code_low : (scene : SceneParts) (value : Option Value) (addr : ℕ) → code_or_none scene value ≡ Some addr → addr < 2 ^ 64
code_low scene (Some (At location)) addr e =
    code_by (rank (kind_of scene.objects.places location.chunk) == rank kinds.Code) scene.objects.places location addr e
code_low scene (Some (Number n)) addr e = absurd (cc)
code_low scene None addr e = absurd (cc)

entry_some : (name : List ℕ) (o : Option ℕ) (chosen : List ℕ × ℕ) → entry_or_none name o ≡ Some chosen → o ≡ Some chosen.1
entry_some name (Some addr) chosen e = let is : (name, addr) ≡ chosen = cc in ap (λ (s : List ℕ × ℕ). Some s.1) is
entry_some name None chosen e = absurd (cc)

named_low : (scene : SceneParts) (name : List ℕ) (chosen : List ℕ × ℕ) → entry_named scene name ≡ Some chosen → chosen.1 < 2 ^ 64
unfolding entry_named code_named
named_low scene name chosen e =
    code_low scene (found scene.known name) chosen.1 (entry_some name (code_or_none scene (found scene.known name)) chosen e)

made_entry : (one : List ℕ × ℕ) (r : Result CapValue MakeFault) (chosen : List ℕ × ℕ) → if_made one r ≡ Ok chosen → one ≡ chosen
made_entry one (Ok v) chosen e = cc
made_entry one (Err refusal) chosen e = absurd (cc)

asked_low : (scene : SceneParts) (o : Option (List ℕ × ℕ)) (chosen : List ℕ × ℕ) → ((one : List ℕ × ℕ) → o ≡ Some one → one.1 < 2 ^ 64)
    → entry_made scene o ≡ Ok chosen → chosen.1 < 2 ^ 64
asked_low scene (Some one) chosen low e =
    subst (λ (s : List ℕ × ℕ). s.1 < 2 ^ 64) (made_entry one (pcc_at scene.objects.reach one.1) chosen e) (low one refl)
asked_low scene None chosen low e = absurd (cc)

entry_low : (scene : SceneParts) (name : List ℕ) (chosen : List ℕ × ℕ) → entry_at scene name ≡ Ok chosen → chosen.1 < 2 ^ 64
unfolding entry_at
entry_low scene name chosen e = asked_low scene (entry_named scene name) chosen (λ one h. named_low scene name one h) e

claimed_by : (there : Bool) (setup after : SetupParts) (register : ℕ) → is_set setup.named register ≡ there
    → register_claimed setup register ≡ Ok after → IsSound setup → IsSound after
unfolding register_claimed
claimed_by true setup after register t e sound = absurd (let clash = rw t at e in cc)
claimed_by false setup after register t e sound =
    let is : record setup { named = with_register setup.named register (raw 0) } ≡ after = (let h = rw t at e in cc) in
    subst IsSound is (record { registers = sound.registers; start = sound.start })

claimed_sound : (setup after : SetupParts) (register : ℕ) → register_claimed setup register ≡ Ok after → IsSound setup → IsSound after
claimed_sound setup after register e sound = claimed_by (is_set setup.named register) setup after register refl e sound

setting_sound : (scene : SceneParts) (setup after : SetupParts) (setting : SettingParts) → IsReadSetting setting → IsSound setup
    → setting_put scene setup setting ≡ Ok after → IsSound after
unfolding setting_put entry_put stack_put integer_put capability_put
setting_sound scene setup after (entry name) read sound e =
    let free = test_false (is_some setup.start) (entry_at scene name >>= λ chosen. Ok (record setup { start = Some chosen.1 })) faults.Hart after e in
    let x = then_ok (entry_at scene name) (λ chosen. Ok (record setup { start = Some chosen.1 })) after free.1 in
    let is : record setup { start = Some x.0.1 } ≡ after = (let h = x.2 in cc) in
    let low : (addr : ℕ) → Some x.0.1 ≡ Some addr → addr < 2 ^ 64 =
    λ addr h. (let same : x.0.1 ≡ addr = cc in subst (λ (n : ℕ). n < 2 ^ 64) same (entry_low scene name x.0 x.1)) in
    subst IsSound is (record { registers = sound.registers; start = low })
setting_sound scene setup after (stack size) read sound e =
    let x = then_ok (register_claimed setup STACK) (λ next. Ok (record next { stack = size })) after e in
    let next = claimed_sound setup x.0 STACK x.1 sound in
    let is : record x.0 { stack = size } ≡ after = (let h = x.2 in cc) in
    subst IsSound is (record { registers = next.registers; start = next.start })
setting_sound scene setup after (exit given) read sound e = claimed_sound setup after LINK e sound
setting_sound scene setup after (integer register bits) read sound e =
    let x = then_ok (register_claimed setup register) (λ next. Ok (with_value next register (raw bits))) after e in
    let next = claimed_sound setup x.0 register x.1 sound in
    let is : with_value x.0 register (raw bits) ≡ after = (let h = x.2 in cc) in
    let small : bits < 2 ^ 128 = omega arith in
    subst IsSound is (record { registers = put x.0.registers register (raw bits) small next.registers; start = next.start })
setting_sound scene setup after (capability register held) read sound e =
    let x = then_ok (register_claimed setup register) (λ next. held_value scene held >>= λ value. Ok (with_value next register value)) after e in
    let next = claimed_sound setup x.0 register x.1 sound in
    let y = then_ok (held_value scene held) (λ value. Ok (with_value x.0 register value)) after x.2 in
    let is : with_value x.0 register y.0 ≡ after = (let h = y.2 in cc) in
    subst IsSound is
    (record { registers = put x.0.registers register y.0 (held_writable scene held y.0 read y.1) next.registers; start = next.start })

said_sound : (scene : SceneParts) (setup after : SetupParts) (setting : Option SettingParts) → ((one : SettingParts) → setting ≡ Some one → IsReadSetting one)
    → IsSound setup → said_put scene setup setting ≡ Ok after → IsSound after
said_sound scene setup after (Some setting) read sound e = setting_sound scene setup after setting (read setting refl) sound e
said_sound scene setup after None read sound e = absurd (cc)

word_sound : (scene : SceneParts) (setup after : SetupParts) (word : List ℕ) → IsSound setup → word_put scene setup word ≡ Ok after → IsSound after
unfolding word_put
word_sound scene setup after word sound e = said_sound scene setup after (setting_of word) (λ one h. setting_read word one h) sound e

pub placed_ok : (line column : ℕ) (r : Result SetupParts AsmFaultKind) (after : SetupParts) → at_word line column r ≡ Ok after → r ≡ Ok after
placed_ok line column (Ok setup) after e = let is : setup ≡ after = cc in ap Ok is
placed_ok line column (Err kind) after e = absurd (cc)

words_sound : (scene : SceneParts) (line : ℕ) (words : List WordParts) (setup after : SetupParts) → IsSound setup
    → each_put (word_at scene line) words setup ≡ Ok after → IsSound after
unfolding each_put word_at
words_sound scene line [] setup after sound e = let is : setup ≡ after = cc in subst IsSound is sound
words_sound scene line (word ∷ words) setup after sound e =
    let x = then_ok (at_word line word.column (word_put scene setup word.text)) (λ next. each_put (word_at scene line) words next) after e in
    words_sound scene line words x.0 after
    (word_sound scene setup x.0 word.text sound (placed_ok line word.column (word_put scene setup word.text) x.0 x.1)) x.2

null_writable : IsWritable (raw 0)
null_writable = let small : 0 < 2 ^ 128 = omega arith in small

new_sound : IsSound new_setup
new_sound =
    record {
      registers = record { count = length-replicate 31 (raw 0); all = All-replicate IsWritable 31 (raw 0) null_writable };
      start = λ addr h. absurd (cc);
    }

-- ---- a hart

first_low : (o later : Option (List ℕ × ℕ)) → ((s : List ℕ × ℕ) → o ≡ Some s → s.1 < 2 ^ 64)
    → ((s : List ℕ × ℕ) → later ≡ Some s → s.1 < 2 ^ 64) → (s : List ℕ × ℕ) → first_entry o later ≡ Some s → s.1 < 2 ^ 64
first_low (Some one) later first second s e = first s e
first_low None later first second s e = second s e

default_low : (scene : SceneParts) (s : List ℕ × ℕ) → default_entry scene ≡ Some s → s.1 < 2 ^ 64
unfolding default_entry
default_low scene s e =
    first_low (entry_named scene (codes "_start")) (entry_named scene (codes "main"))
    (λ one h. named_low scene (codes "_start") one h) (λ one h. named_low scene (codes "main") one h) s e

named_low_at : (addr : ℕ) (name : Option (List ℕ)) (s : List ℕ × ℕ) → addr < 2 ^ 64 → named_at addr name ≡ Some s → s.1 < 2 ^ 64
named_low_at addr (Some name) s low e =
    let is : (name, addr) ≡ s = cc in subst (λ (t : List ℕ × ℕ). t.1 < 2 ^ 64) is low
named_low_at addr None s low e = absurd (cc)

said_low : (scene : SceneParts) (words : List WordParts) (start : Option ℕ) (s : List ℕ × ℕ) → ((addr : ℕ) → start ≡ Some addr → addr < 2 ^ 64)
    → entry_of scene words start ≡ Some s → s.1 < 2 ^ 64
said_low scene words (Some addr) s low e = named_low_at addr (said_entry words) s (low addr refl) e
said_low scene words None s low e = default_low scene s e

begin_low : (o : Option (List ℕ × ℕ)) → ((s : List ℕ × ℕ) → o ≡ Some s → s.1 < 2 ^ 64) → starts.address_of o < 2 ^ 64
begin_low (Some s) low = low s refl
begin_low None low = lit< tt

exit_low : (given : Bool) (there : Option ℕ) (addr : ℕ) → ((n : ℕ) → there ≡ Some n → n < 2 ^ 64) → cond given there None ≡ Some addr → addr < 2 ^ 64
exit_low true there addr low e = low addr e
exit_low false there addr low e = absurd (cc)

pub started : (line : ℕ) (begins : Option (List ℕ × ℕ)) (r : Result OpenHart MakeFault) (start : StartParts) → start_from line begins r ≡ Ok start
    → r ≡ Ok start.hart
started line begins (Ok hart) start e = let is : record { hart = hart; entry = begins } ≡ start = cc in ap (λ (s : StartParts). Ok s.hart) is
started line begins (Err refusal) start e = absurd (cc)

pub start_writable : (scene : SceneParts) (number memory_end line : ℕ) (words : List WordParts) (start : StartParts) → IsSoundScene scene
    → number < 2 ^ 8 → start_of scene number memory_end line words ≡ Ok start → IsWritableHart start.hart.image
unfolding start_of places_of
start_writable scene number memory_end line words start scene_sound small e =
    let x = then_ok (each_put (word_at scene line) words new_setup)
    (λ setup. start_from line (entry_of scene words setup.start) (hart_of setup.registers (places_of scene number memory_end words setup))) start e in
    let sound : IsSound x.0 = words_sound scene line words new_setup x.0 new_sound x.1 in
    let places : HartPlaces = places_of scene number memory_end words x.0 in
    let begins : starts.address_of (entry_of scene words x.0.start) < 2 ^ 64 =
    begin_low (entry_of scene words x.0.start) (λ s h. said_low scene words x.0.start s sound.start h) in
    let numbers : AreNumbers places =
    record { entry = begins; exit = λ addr h. exit_low (has_exit words) scene.exit addr scene_sound h; number = small } in
    let registers : AreWritable x.0.registers =
    record { count = sound.registers.count; values = recursion_from_All IsWritable x.0.registers.values sound.registers.all } in
    hart_writable x.0.registers places start.hart registers numbers
    (started line (entry_of scene words x.0.start) (hart_of x.0.registers places) start x.2)
