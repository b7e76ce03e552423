-- What a map tells of harts: each begins at a symbol, and its stack is in 64 bits.
use Rattle.std.proofs.Common.{◌≡◌, ℕ, suc, ◌+◌, ◌≤◌, ◌==◌, Bool, true, false, cond, List, [], ◌∷◌, ◌++◌, length, Option, Some, None, Result, Ok, Err, All, codes, refl, ap, ◌∙◌, subst, arith}
use Rattle.std.specs.Prelude.{◌||◌, option_map}
use Rattle.std.specs.Option.{is_some}
use Rattle.std.proofs.lemmas.List.{length-append}
use Rattle.std.proofs.lemmas.List.Elements.{All-nil, All-head, All-tail, All-push}
use Rattle.canonical.proofs.round_trip.Ranges.{test_false}
use Rattle.cheri_model.specs.declared.memory.TheConstants.{MAX_RAM_BYTES}
use Rattle.asm_tokens.specs.declared.fault.AsmFaultKind.TheVariants as faults
use Rattle.asm_tokens.specs.Faults.{◌>>=◌}
use Rattle.asm_values.specs.declared.values.Value.{Value}
use Rattle.asm_layout.specs.Placement.{next_multiple}
use Rattle.asm_capabilities.specs.Capabilities.{stack_alignment}
use Rattle.cap_ops.specs.declared.making.MakeFault.{MakeFault}
use Rattle.asm_harts.specs.declared.registers.Registers.{Registers}
use Rattle.asm_harts.specs.declared.hart.HartPlaces.{HartPlaces}
use Rattle.asm_harts.specs.declared.hart.OpenHart.{OpenHart}
use Rattle.asm_harts.specs.declared.hart.TheConstants.{STACK}
use Rattle.asm_harts.specs.Registers.{is_set}
use Rattle.asm_harts.specs.Harts.{stack_of, hart_of}
use Rattle.asm_harts.proofs.GivenLemmas.{steps_of}
use Rattle.asm_requests.specs.Settings.{SettingParts, entry, stack, exit, integer, capability, setting_of}
use Rattle.asm_requests.specs.Words.{WordParts}
use Rattle.asm_files.specs.Requests.{HartRequestParts}
use Rattle.asm_symbols.specs.Names.{first_of}
use Rattle.asm_starts.specs.Known.{KnownParts, first_named, number_of, value_at, found}
use Rattle.asm_starts.specs.Values.{SceneParts, code_or_none, code_named, entry_or_none, entry_named, entry_made, entry_at, first_entry, default_entry}
use Rattle.asm_starts.specs.Words.{SetupParts, new_setup, entry_put, setting_put, said_put, word_put, at_word, word_at, each_put}
use Rattle.asm_starts.specs.Starts.{note_of, entry_name, StartParts, entry_by, entry_in, or_later, said_entry, named_at, entry_of, places_of, start_from, start_of}
use Rattle.asm_listable.proofs.Starts.{then_ok, placed_ok, started}
use Rattle.asm_pictures.specs.Harts.{OpenedParts, hart_number, with_start, hart_put, harts_of}
use Rattle.asm_promises.proofs.Reading.{none_more}
use Rattle.asm_promises.proofs.MapLines.{IsNoteEntry, IsNoteStack, IsNote}
use Rattle.asm_promises.proofs.Stacks.{words_small, asked_ok}
use Rattle.asm_promises.proofs.SymbolNames.{IsSymbolName, NamesOnly}

-- ---- stacks

stack_by : (none : Bool) (places : HartPlaces) → places.stack ≤ MAX_RAM_BYTES
    → IsNoteStack (cond none None (Some (record { base = next_multiple places.memory_end (stack_alignment places.stack); size = places.stack })))
stack_by true places h = tt
stack_by false places h = (omega arith, omega arith)

stack_low : (registers : Registers) (places : HartPlaces) → places.stack ≤ MAX_RAM_BYTES → IsNoteStack (stack_of registers places)
unfolding stack_of
stack_low registers places h = stack_by ((places.stack == 0) || is_set registers STACK) places h

-- ---- entries

-- the names by which harts' requests find symbols
pub record KnowsNames (known : KnownParts) : Type 0 where
  pub seen : NamesOnly known.seen
  pub own : All NamesOnly known.own

first_by : (o later : Option ℕ) (n : ℕ) (name : List ℕ) → ((k : ℕ) → o ≡ Some k → IsSymbolName name) → ((k : ℕ) → later ≡ Some k → IsSymbolName name) → first_of o later ≡ Some n
    → IsSymbolName name
first_by (Some k) later n name h g e = h k refl
first_by None later n name h g e = g n e

own_name : (own : List (List ℕ → Option ℕ)) (name : List ℕ) (n : ℕ) → All NamesOnly own → first_named own name ≡ Some n → IsSymbolName name
unfolding first_named
own_name [] name n h e = absurd (cc)
own_name (names ∷ own) name n h e =
    first_by (names name) (first_named own name) n name (λ k f. All-head NamesOnly names own h name k f) (λ k f. own_name own name k (All-tail NamesOnly names own h) f) e

module _ (scene : SceneParts) (names : KnowsNames scene.known) where
  number_name : (name : List ℕ) (n : ℕ) → number_of scene.known name ≡ Some n → IsSymbolName name
  unfolding number_of
  number_name name n e =
      first_by (scene.known.seen name) (first_named scene.known.own name) n name (λ k f. names.seen name k f) (λ k f. own_name scene.known.own name k names.own f) e

  value_name : (name : List ℕ) (o : Option ℕ) (value : Value) → number_of scene.known name ≡ o → value_at scene.known o ≡ Some value → IsSymbolName name
  value_name name (Some n) value g e = number_name name n g
  value_name name None value g e = absurd (cc)

  code_by : (name : List ℕ) (o : Option Value) (addr : ℕ) → found scene.known name ≡ o → code_or_none scene o ≡ Some addr → IsSymbolName name
  unfolding found
  code_by name (Some value) addr g e = value_name name (number_of scene.known name) value refl g
  code_by name None addr g e = absurd (cc)

  code_name : (name : List ℕ) (addr : ℕ) → code_named scene name ≡ Some addr → IsSymbolName name
  unfolding code_named
  code_name name addr e = code_by name (found scene.known name) addr refl e

  named_by : (name : List ℕ) (o : Option ℕ) (chosen : List ℕ × ℕ) → code_named scene name ≡ o → entry_or_none name o ≡ Some chosen → IsSymbolName chosen.0
  named_by name (Some addr) chosen g e =
      let is : (name, addr) ≡ chosen = cc in subst (λ (p : List ℕ × ℕ). IsSymbolName p.0) is (code_name name addr g)
  named_by name None chosen g e = absurd (cc)

  named_name : (name : List ℕ) (chosen : List ℕ × ℕ) → entry_named scene name ≡ Some chosen → IsSymbolName chosen.0
  unfolding entry_named
  named_name name chosen e = named_by name (code_named scene name) chosen refl e

  placed_by : (name : List ℕ) (o : Option ℕ) (chosen : List ℕ × ℕ) → code_named scene name ≡ o → entry_made scene (entry_or_none name o) ≡ Ok chosen → IsSymbolName name
  placed_by name (Some addr) chosen g e = code_name name addr g
  placed_by name None chosen g e = absurd (cc)

  at_name : (name : List ℕ) (chosen : List ℕ × ℕ) → entry_at scene name ≡ Ok chosen → IsSymbolName name
  unfolding entry_at entry_named
  at_name name chosen e = placed_by name (code_named scene name) chosen refl e

  put_name : (setup after : SetupParts) (name : List ℕ) → entry_put scene setup name ≡ Ok after → IsSymbolName name
  unfolding entry_put
  put_name setup after name e =
      let free = test_false (is_some setup.start) (entry_at scene name >>= λ chosen. Ok (record setup { start = Some chosen.1 })) faults.Hart after e in
      let x = then_ok (entry_at scene name) (λ chosen. Ok (record setup { start = Some chosen.1 })) after free.1 in
      at_name name x.0 x.1

  word_name : (setup after : SetupParts) (o : Option SettingParts) (name : List ℕ) → said_put scene setup o ≡ Ok after → entry_by o ≡ Some name → IsSymbolName name
  unfolding setting_put
  word_name setup after (Some (entry said)) name e f = let is : said ≡ name = cc in subst IsSymbolName is (put_name setup after said e)
  word_name setup after (Some (stack size)) name e f = absurd (cc)
  word_name setup after (Some (exit given)) name e f = absurd (cc)
  word_name setup after (Some (integer register bits)) name e f = absurd (cc)
  word_name setup after (Some (capability register held)) name e f = absurd (cc)
  word_name setup after None name e f = absurd (cc)

  later_by : (o later : Option (List ℕ)) (name : List ℕ) → ((n : List ℕ) → o ≡ Some n → IsSymbolName n) → ((n : List ℕ) → later ≡ Some n → IsSymbolName n) → or_later o later ≡ Some name
      → IsSymbolName name
  later_by (Some n) later name h g e = h name e
  later_by None later name h g e = g name e

  words_name : (line : ℕ) (words : List WordParts) (setup after : SetupParts) (name : List ℕ) → each_put (word_at scene line) words setup ≡ Ok after → said_entry words ≡ Some name
      → IsSymbolName name
  unfolding each_put word_at word_put said_entry entry_in
  words_name line [] setup after name e f = absurd (cc)
  words_name line (word ∷ words) setup after name e f =
      let x = then_ok (at_word line word.column (said_put scene setup (setting_of word.text))) (λ next. each_put (word_at scene line) words next) after e in
      let put = placed_ok line word.column (said_put scene setup (setting_of word.text)) x.0 x.1 in
      later_by (entry_by (setting_of word.text)) (said_entry words) name (λ n g. word_name setup x.0 (setting_of word.text) n put g)
      (λ n g. words_name line words x.0 after n x.2 g) f

  said_by : (addr : ℕ) (o : Option (List ℕ)) → ((name : List ℕ) → o ≡ Some name → IsSymbolName name) → IsNoteEntry (option_map entry_name (named_at addr o))
  said_by addr (Some name) h = h name refl
  said_by addr None h = tt

  default_by : (a b : Option (List ℕ × ℕ)) → ((chosen : List ℕ × ℕ) → a ≡ Some chosen → IsSymbolName chosen.0) → ((chosen : List ℕ × ℕ) → b ≡ Some chosen → IsSymbolName chosen.0)
      → IsNoteEntry (option_map entry_name (first_entry a b))
  default_by (Some chosen) b h g = h chosen refl
  default_by None (Some chosen) h g = g chosen refl
  default_by None None h g = tt

  entry_told : (words : List WordParts) (start : Option ℕ) → ((name : List ℕ) → said_entry words ≡ Some name → IsSymbolName name)
      → IsNoteEntry (option_map entry_name (entry_of scene words start))
  unfolding default_entry
  entry_told words (Some addr) h = said_by addr (said_entry words) h
  entry_told words None h =
      default_by (entry_named scene (codes "_start")) (entry_named scene (codes "main")) (λ chosen e. named_name (codes "_start") chosen e) (λ chosen e. named_name (codes "main") chosen e)

  -- ---- harts

  from_entry : (line : ℕ) (begins : Option (List ℕ × ℕ)) (r : Result OpenHart MakeFault) (start : StartParts) → start_from line begins r ≡ Ok start → begins ≡ start.entry
  from_entry line begins (Ok h) start e =
      let this : StartParts = record { hart = h; entry = begins } in
      let is : this ≡ start = cc in ap (λ (s : StartParts). s.entry) is
  from_entry line begins (Err fault) start e = absurd (cc)

  note_told : (number memory_end line : ℕ) (words : List WordParts) (start : StartParts) → start_of scene number memory_end line words ≡ Ok start → IsNote (note_of start)
  unfolding start_of places_of
  note_told number memory_end line words start e =
      let x = then_ok (each_put (word_at scene line) words new_setup)
      (λ setup. start_from line (entry_of scene words setup.start) (hart_of setup.registers (places_of scene number memory_end words setup))) start e in
      let places : HartPlaces = places_of scene number memory_end words x.0 in
      let is : hart_of x.0.registers places ≡ Ok start.hart = started line (entry_of scene words x.0.start) (hart_of x.0.registers places) start x.2 in
      let first : new_setup.stack ≤ MAX_RAM_BYTES = omega arith in
      let small = words_small scene line words new_setup x.0 first x.1 in
      let steps = steps_of x.0.registers places start.hart is in
      let stack_is : stack_of x.0.registers places ≡ start.hart.stack = ap (λ (h : OpenHart). h.stack) steps.whole in
      let begins = from_entry line (entry_of scene words x.0.start) (hart_of x.0.registers places) start x.2 in
      let told = entry_told words x.0.start (λ name f. words_name line words new_setup x.0 name x.1 f) in
      record {
        entry = subst (λ (o : Option (List ℕ × ℕ)). IsNoteEntry (option_map entry_name o)) begins told;
        stack = subst IsNoteStack stack_is (stack_low x.0.registers places small);
      }

  record AreNotes (count : ℕ) (opened : OpenedParts) : Type 0 where
    notes : All IsNote opened.notes
    long : length opened.notes ≡ count

  notes_walk : (left : List HartRequestParts) (count : ℕ) (opened after : OpenedParts) → AreNotes count opened → each_put (hart_put scene) left opened ≡ Ok after
      → AreNotes (count + length left) after
  unfolding each_put hart_put
  notes_walk [] count opened after h e =
      let is : opened ≡ after = cc in
      let none : count ≡ count + 0 = omega arith in
      subst (λ (n : ℕ). AreNotes n after) none (subst (AreNotes count) is h)
  notes_walk (request ∷ left) count opened after h e =
      let x = then_ok (hart_put scene request opened) (λ next. each_put (hart_put scene) left next) after e in
      let start_is = start_of scene (hart_number (length opened.images)) opened.memory_end request.line request.words in
      let y = then_ok start_is (λ start. Ok (with_start opened start)) x.0 (asked_ok scene request.file (start_is >>= λ start. Ok (with_start opened start)) x.0 x.1) in
      let is : with_start opened y.0 ≡ x.0 = (let k = y.2 in cc) in
      let told = note_told (hart_number (length opened.images)) opened.memory_end request.line request.words y.0 y.1 in
      let longer : length (opened.notes ++ note_of y.0 ∷ []) ≡ length opened.notes + 1 = length-append opened.notes (note_of y.0 ∷ []) in
      let before = h.long in
      let next : AreNotes (count + 1) x.0 = subst (AreNotes (count + 1)) is (record { notes = All-push IsNote opened.notes (note_of y.0) h.notes told; long = omega arith }) in
      let rest = notes_walk left (count + 1) x.0 after next x.2 in
      let same : count + 1 + length left ≡ count + suc (length left) = omega arith in
      subst (λ (n : ℕ). AreNotes n after) same rest

  pub notes_told : (memory_end : ℕ) (requests : List HartRequestParts) (opened : OpenedParts) → harts_of scene memory_end requests ≡ Ok opened
      → All IsNote opened.notes × (length opened.notes ≡ length requests)
  unfolding harts_of
  notes_told memory_end requests opened e =
      let h = notes_walk requests 0 (record { images = []; notes = []; memory_end = memory_end }) opened (record { notes = All-nil IsNote; long = refl }) e in
      (h.notes, h.long ∙ none_more (length requests))
