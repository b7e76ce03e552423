-- The stacks of all harts are behind what was taken before.
use Rattle.std.proofs.Common.{◌≡◌, ℕ, ◌+◌, ◌*◌, ◌^◌, ◌<◌, ◌≤◌, ◌==◌, nat_lt, Bool, true, false, cond, List, [], ◌∷◌, ◌++◌, length, Option, Some, None, Result, Ok, Err, refl, sym, ap, ◌∙◌, subst, append_assoc, length-append, lit<, arith}
use Rattle.std.specs.Prelude.{◌||◌, is_some}
use Rattle.std.proofs.Math.Nat.{pow-le-pow_right}
use Rattle.cap_model.specs.bounds.Alignment.{length_at_zero, alignment_mask}
use Rattle.cap_model.specs.bounds.Lengths.{alignment}
use Rattle.cap_model.proofs.Rounding.Alignments.{length_at_zero_alignment}
use Rattle.cap_model.proofs.Rounding.Roundings.{rounding_bits, rounding_bits_at_most}
use Rattle.cap_model.specs.values.CapValue.{raw}
use Rattle.cheri_model.specs.declared.memory.TheConstants.{MAX_RAM_BYTES}
use Rattle.canonical.proofs.round_trip.Ranges.{test_false}
use Rattle.asm_listable.proofs.Settings.{IsReadSetting, setting_read}
use Rattle.asm_tokens.specs.declared.fault.AsmFault.{AsmFault}
use Rattle.asm_tokens.specs.declared.fault.AsmFaultKind.TheVariants as faults
use Rattle.asm_tokens.specs.Faults.{◌>>=◌}
use Rattle.asm_layout.specs.Placement.{next_multiple}
use Rattle.asm_capabilities.specs.Capabilities.{stack_alignment}
use Rattle.asm_harts.specs.declared.registers.Registers.{Registers}
use Rattle.asm_harts.specs.declared.hart.HartPlaces.{HartPlaces}
use Rattle.asm_harts.specs.declared.hart.OpenHart.{OpenHart}
use Rattle.asm_harts.specs.declared.hart.Stack.{Stack}
use Rattle.asm_harts.specs.declared.hart.TheConstants.{STACK, LINK}
use Rattle.asm_harts.specs.Registers.{is_set, with_register}
use Rattle.asm_harts.specs.Harts.{stack_of, end_of, hart_of}
use Rattle.asm_harts.proofs.GivenLemmas.{steps_of}
use Rattle.asm_harts.proofs.StackLemmas.{apart}
use Rattle.asm_requests.specs.Settings.{SettingParts, entry, stack, exit, integer, capability, setting_of}
use Rattle.asm_requests.specs.Words.{WordParts}
use Rattle.asm_files.specs.Requests.{HartRequestParts}
use Rattle.asm_starts.specs.Values.{SceneParts, entry_at, held_value}
use Rattle.asm_starts.specs.Words.{SetupParts, new_setup, register_claimed, with_value, entry_put, stack_put, integer_put, capability_put, setting_put, said_put, word_put, at_word, word_at, each_put}
use Rattle.asm_starts.specs.Starts.{NoteParts, note_of, StartParts, entry_of, places_of, start_from, start_of}
use Rattle.asm_listable.proofs.Starts.{then_ok, placed_ok, started}
use Rattle.asm_pictures.specs.Harts.{OpenedParts, hart_number, with_start, asked_in, hart_put, harts_of}
use Rattle.cheri_model.specs.runs.Image.{ImageParts}
use Rattle.asm_memory.specs.Memory.{listed_below}
use Rattle.asm_layout.specs.declared.chunk.Chunk.{Chunk}
use Rattle.asm_layout.specs.declared.chunk.ChunkKind.{ChunkKind}
use Rattle.asm_layout.specs.declared.chunk.ChunkKind.TheVariants as kinds
use Rattle.asm_layout.specs.Placement.{PlacementParts, placed, placed_if, all_placed}
use Rattle.asm_layout.specs.Layout.{at_memory, code_placed, memory_placed, layout_of}
use Rattle.asm_links.specs.Order.{order_of}
use Rattle.asm_links.specs.Sections.{sections_judged}
use Rattle.asm_links.specs.Seen.{seen_of}
use Rattle.asm_tables.specs.Tables.{table_of}
use Rattle.asm_files.specs.Programs.{ProgramParts}
use Rattle.asm_late.specs.Linked.{LinkedParts, linked_with, linked_of}
use Rattle.asm_starts.specs.Ram.{taken}
use Rattle.asm_pictures.specs.Asked.{HartsParts}
use Rattle.asm_pictures.specs.Image.{whole, total, sizes_judged, exit_address, program_with}
use Rattle.asm_image.specs.Whole.{AssembledParts, scene_of, assembly_meaning}
use Rattle.asm_promises.specs.Given.{requests_in}
use Rattle.asm_promises.specs.Stacks.{end_behind, IsBehind, AreBehind}
use Rattle.asm_promises.specs.Origins.{late_in}
use Rattle.asm_promises.proofs.Steps.{steps_of as phases_of}
use Rattle.asm_promises.proofs.Placed.{next_small}
use Rattle.asm_promises.proofs.Given.{made_of}
use Rattle.asm_promises.proofs.Runs.{or_false, below, listable}

-- ---- the bytes of a stack are no more than RAM can have

claimed_keeps : (there : Bool) (setup after : SetupParts) (register : ℕ) → is_set setup.named register ≡ there → register_claimed setup register ≡ Ok after
    → setup.stack ≡ after.stack
unfolding register_claimed
claimed_keeps true setup after register t e = absurd (let clash = rw t at e in cc)
claimed_keeps false setup after register t e =
    let is : record setup { named = with_register setup.named register (raw 0) } ≡ after = (let h = rw t at e in cc) in
    ap (λ (s : SetupParts). s.stack) is

claim : (setup after : SetupParts) (register : ℕ) → register_claimed setup register ≡ Ok after → setup.stack ≡ after.stack
claim setup after register e = claimed_keeps (is_set setup.named register) setup after register refl e

setting_small : (scene : SceneParts) (setup after : SetupParts) (setting : SettingParts) → IsReadSetting setting → setup.stack ≤ MAX_RAM_BYTES
    → setting_put scene setup setting ≡ Ok after → after.stack ≤ MAX_RAM_BYTES
unfolding setting_put entry_put stack_put integer_put capability_put
setting_small scene setup after (entry name) read h e =
    let free = test_false (is_some setup.start) (entry_at scene name >>= λ chosen. Ok (record setup { start = Some chosen.1 })) faults.Hart after e in
    let x = then_ok (entry_at scene name) (λ chosen. Ok (record setup { start = Some chosen.1 })) after free.1 in
    let is : record setup { start = Some x.0.1 } ≡ after = (let k = x.2 in cc) in
    subst (λ (s : SetupParts). s.stack ≤ MAX_RAM_BYTES) is h
setting_small scene setup after (stack size) read h e =
    let x = then_ok (register_claimed setup STACK) (λ next. Ok (record next { stack = size })) after e in
    let is : record x.0 { stack = size } ≡ after = (let k = x.2 in cc) in
    subst (λ (s : SetupParts). s.stack ≤ MAX_RAM_BYTES) is read
setting_small scene setup after (exit given) read h e = subst (λ (n : ℕ). n ≤ MAX_RAM_BYTES) (claim setup after LINK e) h
setting_small scene setup after (integer register bits) read h e =
    let x = then_ok (register_claimed setup register) (λ next. Ok (with_value next register (raw bits))) after e in
    let is : with_value x.0 register (raw bits) ≡ after = (let k = x.2 in cc) in
    subst (λ (s : SetupParts). s.stack ≤ MAX_RAM_BYTES) is (subst (λ (n : ℕ). n ≤ MAX_RAM_BYTES) (claim setup x.0 register x.1) h)
setting_small scene setup after (capability register held) read h e =
    let x = then_ok (register_claimed setup register) (λ next. held_value scene held >>= λ value. Ok (with_value next register value)) after e in
    let y = then_ok (held_value scene held) (λ value. Ok (with_value x.0 register value)) after x.2 in
    let is : with_value x.0 register y.0 ≡ after = (let k = y.2 in cc) in
    subst (λ (s : SetupParts). s.stack ≤ MAX_RAM_BYTES) is (subst (λ (n : ℕ). n ≤ MAX_RAM_BYTES) (claim setup x.0 register x.1) h)

said_small : (scene : SceneParts) (setup after : SetupParts) (o : Option SettingParts) → ((one : SettingParts) → o ≡ Some one → IsReadSetting one)
    → setup.stack ≤ MAX_RAM_BYTES → said_put scene setup o ≡ Ok after → after.stack ≤ MAX_RAM_BYTES
said_small scene setup after (Some setting) read h e = setting_small scene setup after setting (read setting refl) h e
said_small scene setup after None read h e = absurd (cc)

pub words_small : (scene : SceneParts) (line : ℕ) (words : List WordParts) (setup after : SetupParts) → setup.stack ≤ MAX_RAM_BYTES
    → each_put (word_at scene line) words setup ≡ Ok after → after.stack ≤ MAX_RAM_BYTES
unfolding each_put word_at word_put
words_small scene line [] setup after h e = let is : setup ≡ after = cc in subst (λ (s : SetupParts). s.stack ≤ MAX_RAM_BYTES) is h
words_small scene line (word ∷ words) setup after h e =
    let x = then_ok (at_word line word.column (said_put scene setup (setting_of word.text))) (λ next. each_put (word_at scene line) words next) after e in
    words_small scene line words x.0 after
    (said_small scene setup x.0 (setting_of word.text) (λ one k. setting_read word.text one k) h
    (placed_ok line word.column (said_put scene setup (setting_of word.text)) x.0 x.1)) x.2

-- ---- where a stack is

unit_small : (size : ℕ) → size ≤ MAX_RAM_BYTES → stack_alignment size ≤ 2 ^ 55
unfolding stack_alignment alignment_mask
unit_small size h =
    let fits : size ≤ 2 ^ 64 = omega arith in
    let power : alignment (length_at_zero size) ≡ 2 ^ rounding_bits 0 size = length_at_zero_alignment size fits in
    let most : 2 ^ rounding_bits 0 size ≤ 2 ^ 55 = pow-le-pow_right {n = 2} (lit< tt) (rounding_bits_at_most 0 size fits) in
    let least : alignment (length_at_zero size) ≤ 2 ^ 55 = subst (λ (n : ℕ). n ≤ 2 ^ 55) (sym power) most in
    omega arith

base_by : (none : Bool) (registers : Registers) (places : HartPlaces) (one : Stack) → ((places.stack == 0) || is_set registers STACK) ≡ none
    → stack_of registers places ≡ Some one → one.base ≡ next_multiple places.memory_end (stack_alignment places.stack)
unfolding stack_of
base_by true registers places one t e = absurd (let clash = rw t at e in cc)
base_by false registers places one t e =
    let this : Stack = record { base = next_multiple places.memory_end (stack_alignment places.stack); size = places.stack } in
    let is : this ≡ one = (let h = rw t at e in cc) in
    ap (λ (s : Stack). s.base) (sym is)

-- a hart behind memory that is taken
record IsNext (memory_end : ℕ) (hart : OpenHart) : Type 0 where
  behind : IsBehind memory_end hart.stack
  end : end_behind memory_end hart.stack ≡ hart.memory_end
  near : hart.memory_end ≤ memory_end + 2 ^ 56

abbrev IsNextBy : ℕ → OpenHart → Option Stack → Type 0
IsNextBy memory_end hart o = IsBehind memory_end o × (end_behind memory_end o ≡ hart.memory_end) × (hart.memory_end ≤ memory_end + 2 ^ 56)

next_by : (registers : Registers) (places : HartPlaces) (hart : OpenHart) (o : Option Stack) → hart_of registers places ≡ Ok hart → places.stack ≤ MAX_RAM_BYTES
    → places.memory_end + 2 ^ 56 < 2 ^ 64 → hart.stack ≡ o → IsNextBy places.memory_end hart o
next_by registers places hart (Some one) e small room has =
    let unit = unit_small places.stack small in
    let enough : places.memory_end + stack_alignment places.stack + places.stack < 2 ^ 64 = omega arith in
    let there = apart registers places hart one e has enough in
    let steps = steps_of registers places hart e in
    let is : stack_of registers places ≡ Some one = ap (λ (h : OpenHart). h.stack) steps.whole ∙ has in
    let base = base_by ((places.stack == 0) || is_set registers STACK) registers places one refl is in
    let near = next_small places.memory_end (stack_alignment places.stack) in
    let behind = there.0 in
    let ended = there.1 in
    let size = there.2 in
    (behind, sym ended, omega arith)
next_by registers places hart None e small room has =
    let steps = steps_of registers places hart e in
    let is : stack_of registers places ≡ None = ap (λ (h : OpenHart). h.stack) steps.whole ∙ has in
    let ended : end_of (stack_of registers places) places.memory_end ≡ hart.memory_end = ap (λ (h : OpenHart). h.memory_end) steps.whole in
    let end : places.memory_end ≡ hart.memory_end = ap (λ s. end_of s places.memory_end) (sym is) ∙ ended in
    (tt, end, omega arith)

start_next : (scene : SceneParts) (number memory_end line : ℕ) (words : List WordParts) (start : StartParts) → memory_end + 2 ^ 56 < 2 ^ 64
    → start_of scene number memory_end line words ≡ Ok start → IsNext memory_end start.hart
unfolding start_of places_of
start_next scene number memory_end line words start room e =
    let x = then_ok (each_put (word_at scene line) words new_setup)
    (λ setup. start_from line (entry_of scene words setup.start) (hart_of setup.registers (places_of scene number memory_end words setup))) start e in
    let places : HartPlaces = places_of scene number memory_end words x.0 in
    let is : hart_of x.0.registers places ≡ Ok start.hart = started line (entry_of scene words x.0.start) (hart_of x.0.registers places) start x.2 in
    let first : new_setup.stack ≤ MAX_RAM_BYTES = omega arith in
    let small = words_small scene line words new_setup x.0 first x.1 in
    let next = next_by x.0.registers places start.hart start.hart.stack is small room refl in
    record { behind = next.0; end = next.1; near = next.2 }

-- ---- all of them

append_none : {X : Type 0} (xs : List X) → xs ++ [] ≡ xs
append_none [] = refl
append_none (x ∷ xs) = ap (λ ys. x ∷ ys) (append_none xs)

module _ (scene : SceneParts) where
  pub asked_ok : (file : ℕ) (r : Result OpenedParts AsmFault) (after : OpenedParts) → asked_in file r ≡ Ok after → r ≡ Ok after
  asked_ok file (Ok opened) after e = let is : opened ≡ after = cc in ap (λ x. Ok x) is
  asked_ok file (Err fault) after e = absurd (cc)

  -- the notes that so many requests add
  record Adds (opened after : OpenedParts) : Type 0 where
    more : List NoteParts
    notes : opened.notes ++ more ≡ after.notes
    behind : AreBehind opened.memory_end more

  walk : (left : List HartRequestParts) (opened after : OpenedParts) → opened.memory_end + length left * 2 ^ 56 < 2 ^ 63 → each_put (hart_put scene) left opened ≡ Ok after
      → Adds opened after
  unfolding each_put hart_put
  walk [] opened after room e =
      let is : opened ≡ after = cc in
      record { more = []; notes = append_none opened.notes ∙ ap (λ (o : OpenedParts). o.notes) is; behind = tt }
  walk (request ∷ left) opened after room e =
      let x = then_ok (hart_put scene request opened) (λ next. each_put (hart_put scene) left next) after e in
      let start_is = start_of scene (hart_number (length opened.images)) opened.memory_end request.line request.words in
      let y = then_ok start_is (λ start. Ok (with_start opened start)) x.0 (asked_ok request.file (start_is >>= λ start. Ok (with_start opened start)) x.0 x.1) in
      let is : with_start opened y.0 ≡ x.0 = (let k = y.2 in cc) in
      let some : opened.memory_end + 2 ^ 56 < 2 ^ 64 = omega arith in
      let next = start_next scene (hart_number (length opened.images)) opened.memory_end request.line request.words y.0 some y.1 in
      let end_is : y.0.hart.memory_end ≡ x.0.memory_end = ap (λ (o : OpenedParts). o.memory_end) is in
      let near = next.near in
      let later : x.0.memory_end + length left * 2 ^ 56 < 2 ^ 63 = omega arith in
      let rest = walk left x.0 after later x.2 in
      let notes_is : opened.notes ++ note_of y.0 ∷ [] ≡ x.0.notes = ap (λ (o : OpenedParts). o.notes) is in
      let behind : AreBehind (end_behind opened.memory_end y.0.hart.stack) rest.more = subst (λ (n : ℕ). AreBehind n rest.more) (sym (next.end ∙ end_is)) rest.behind in
      record {
        more = note_of y.0 ∷ rest.more;
        notes = sym (append_assoc opened.notes (note_of y.0 ∷ []) rest.more) ∙ (ap (λ (ns : List NoteParts). ns ++ rest.more) notes_is ∙ rest.notes);
        behind = (next.behind, behind);
      }

  pub stacks_behind : (memory_end : ℕ) (requests : List HartRequestParts) (opened : OpenedParts) → memory_end + length requests * 2 ^ 56 < 2 ^ 63
      → harts_of scene memory_end requests ≡ Ok opened → AreBehind memory_end opened.notes
  unfolding harts_of
  stacks_behind memory_end requests opened room e =
      let adds = walk requests (record { images = []; notes = []; memory_end = memory_end }) opened room e in
      subst (AreBehind memory_end) adds.notes adds.behind

  counted : (left : List HartRequestParts) (opened after : OpenedParts) → each_put (hart_put scene) left opened ≡ Ok after
      → length after.images ≡ length opened.images + length left
  unfolding each_put hart_put
  counted [] opened after e =
      let is : opened ≡ after = cc in
      let none : length opened.images ≡ length opened.images + 0 = omega arith in
      sym (ap (λ (o : OpenedParts). length o.images) is) ∙ none
  counted (request ∷ left) opened after e =
      let x = then_ok (hart_put scene request opened) (λ next. each_put (hart_put scene) left next) after e in
      let start_is = start_of scene (hart_number (length opened.images)) opened.memory_end request.line request.words in
      let y = then_ok start_is (λ start. Ok (with_start opened start)) x.0 (asked_ok request.file (start_is >>= λ start. Ok (with_start opened start)) x.0 x.1) in
      let is : with_start opened y.0 ≡ x.0 = (let k = y.2 in cc) in
      let longer : length (opened.images ++ y.0.hart.image ∷ []) ≡ length opened.images + 1 = length-append opened.images (y.0.hart.image ∷ []) in
      let images_is : length (opened.images ++ y.0.hart.image ∷ []) ≡ length x.0.images = ap (λ (o : OpenedParts). length o.images) is in
      let rest = counted left x.0 after x.2 in
      omega arith

  pub harts_counted : (memory_end : ℕ) (requests : List HartRequestParts) (opened : OpenedParts) → harts_of scene memory_end requests ≡ Ok opened
      → length opened.images ≡ length requests
  unfolding harts_of
  harts_counted memory_end requests opened e =
      let all = counted requests (record { images = []; notes = []; memory_end = memory_end }) opened e in omega arith

-- ---- where memory ends that the layout takes

placed_by : (test : Bool) (p : PlacementParts) (number : ℕ) (chunk : Chunk) → p.end < 2 ^ 64 → (cond test (placed p number chunk) p).end < 2 ^ 64
unfolding placed
placed_by true p number chunk h = omega arith
placed_by false p number chunk h = h

all_low : (kind : ChunkKind) (chunks : List Chunk) (order : List ℕ) (p : PlacementParts) → p.end < 2 ^ 64 → (all_placed kind chunks p order).end < 2 ^ 64
unfolding placed_if
all_low kind chunks [] p h = h
all_low kind chunks (number ∷ order) p h =
    all_low kind chunks order (placed_if kind chunks p number) (placed_by _ p number _ h)

memory_low : (chunks : List Chunk) (order : List ℕ) (p : PlacementParts) → p.end < 2 ^ 64 → (memory_placed chunks order p).end < 2 ^ 64
unfolding memory_placed
memory_low chunks order p h =
    all_low kinds.Common chunks order _ (all_low kinds.Zeros chunks order _ (all_low kinds.ReadWrite chunks order _ (all_low kinds.ReadOnly chunks order p h)))

layout_low : (chunks : List Chunk) (order : List ℕ) (entries : ℕ) → (layout_of chunks order entries).memory_end < 2 ^ 64
unfolding layout_of
layout_low chunks order entries =
    let first : (at_memory entries (code_placed chunks order)).end < 2 ^ 64 = omega arith in
    memory_low chunks order (at_memory entries (code_placed chunks order)) first

linked_end : (program : ProgramParts) (exits : Bool) (linked : LinkedParts) → linked_of program exits ≡ Ok linked → linked.layout.memory_end < 2 ^ 64
unfolding linked_of linked_with
linked_end program exits linked e =
    let x = then_ok (seen_of program) (λ seen. sections_judged program >>= λ u. Ok (linked_with program exits seen)) linked e in
    let y = then_ok (sections_judged program) (λ u. Ok (linked_with program exits x.0)) linked x.2 in
    let is : linked_with program exits x.0 ≡ linked = (let k = y.2 in cc) in
    subst (λ (l : LinkedParts). l.layout.memory_end < 2 ^ 64) is (layout_low program.made.chunks (order_of program) (length (table_of program x.0).symbols))

taken_small : (n : ℕ) (there : Bool) (memory_end : ℕ) → sizes_judged n there memory_end ≡ Ok tt → taken memory_end ≤ MAX_RAM_BYTES
unfolding sizes_judged
taken_small n there memory_end e =
    let x = test_false ((n == 0) || nat_lt 16384 (total n there) || nat_lt MAX_RAM_BYTES (taken memory_end)) (Ok tt) (whole faults.Size) tt e in
    let y = or_false ((n == 0) || nat_lt 16384 (total n there)) (nat_lt MAX_RAM_BYTES (taken memory_end)) x.0 in
    below MAX_RAM_BYTES (taken memory_end) y.1

end_small : (memory_end : ℕ) → memory_end < 2 ^ 64 → taken memory_end ≤ MAX_RAM_BYTES → memory_end < 2 ^ 33
unfolding taken
end_small memory_end h k = omega arith

room_of_eight : (memory_end count : ℕ) → memory_end < 2 ^ 33 → count ≤ 8 → memory_end + count * 2 ^ 56 < 2 ^ 63
room_of_eight memory_end count h k = omega arith

-- no more than eight harts
pub requests_few : (texts : List (List ℕ)) (harts : HartsParts) (a : AssembledParts) → assembly_meaning texts harts ≡ Ok a → length (requests_in harts a) ≤ 8
requests_few texts harts a e =
    let s = phases_of texts harts a e in
    let scene : SceneParts = scene_of (late_in a) (exit_address a.linked.instructions a.exit) in
    let made = made_of (program_with s.contents.code.instructions a.exit) s.ram (listed_below s.ram s.contents.memory) s.opened.images a.image s.image in
    let images_is : length s.opened.images ≡ length a.image.harts = ap (λ (i : ImageParts). length i.harts) made.parts in
    let requests_is : length s.opened.images ≡ length (requests_in harts a) = harts_counted scene a.linked.layout.memory_end (requests_in harts a) s.opened s.opened_is in
    let most = (listable texts harts a e).most_harts in
    omega arith

pub stacks_apart : (texts : List (List ℕ)) (harts : HartsParts) (a : AssembledParts) → assembly_meaning texts harts ≡ Ok a → AreBehind a.linked.layout.memory_end a.harts
stacks_apart texts harts a e =
    let s = phases_of texts harts a e in
    let scene : SceneParts = scene_of (late_in a) (exit_address a.linked.instructions a.exit) in
    let low = linked_end a.program a.exit a.linked s.linked in
    let small = taken_small a.linked.instructions a.exit a.linked.layout.memory_end s.judged in
    let room = room_of_eight a.linked.layout.memory_end (length (requests_in harts a)) (end_small a.linked.layout.memory_end low small) (requests_few texts harts a e) in
    subst (AreBehind a.linked.layout.memory_end) s.notes (stacks_behind scene a.linked.layout.memory_end (requests_in harts a) s.opened room s.opened_is)
