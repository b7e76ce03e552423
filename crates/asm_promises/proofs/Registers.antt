-- What harts begin with: PCC, and registers that hold only what is asked for.
use Rattle.std.proofs.Common.{◌≡◌, ◌⊎◌, inl, inr, ℕ, suc, ◌==◌, List, [], ◌∷◌, ◌++◌, length, Option, Some, None, Result, Ok, Err, All, refl, ap, subst, arith}
use Rattle.std.specs.List.{Contains}
use Rattle.std.proofs.lemmas.List.Elements.{All-from_get_or, All-weaker, All-nil, All-push, Contains-push, Contains-append_left}
use Rattle.cap_model.specs.values.Capability.{unsealed_type}
use Rattle.cap_model.specs.values.CapValue.{CapValue, raw}
use Rattle.cap_ops.specs.declared.making.MakeFault.{MakeFault}
use Rattle.cheri_model.specs.declared.image.HartImage.{HartImage}
use Rattle.grammar.specs.declared.fault.ListingFaultKind.{ListingFaultKind}
use Rattle.grammar.specs.Capability as listed
use Rattle.canonical.proofs.round_trip.Ranges.{test_false}
use Rattle.asm_tokens.specs.declared.fault.AsmFault.{AsmFault}
use Rattle.asm_tokens.specs.declared.fault.AsmFaultKind.{AsmFaultKind}
use Rattle.asm_tokens.specs.declared.fault.AsmFaultKind.TheVariants as faults
use Rattle.asm_tokens.specs.Faults.{◌>>=◌}
use Rattle.asm_values.specs.declared.values.Location.{Location}
use Rattle.asm_values.specs.declared.values.Value.TheVariants.{At}
use Rattle.asm_capabilities.specs.Capabilities.{table_of, stack_at}
use Rattle.asm_capabilities.specs.declared.permissions.TheConstants as permissions
use Rattle.asm_places.specs.Capabilities.{ObjectsParts, capability_of}
use Rattle.asm_harts.specs.declared.hart.HartPlaces.{HartPlaces}
use Rattle.asm_harts.specs.declared.hart.OpenHart.{OpenHart}
use Rattle.asm_harts.specs.Given.{register_at}
use Rattle.asm_harts.specs.Harts.{hart_of}
use Rattle.asm_harts.proofs.GivenLemmas.{steps_of}
use Rattle.asm_requests.specs.Values.{HeldParts, symbol, table, written}
use Rattle.asm_requests.specs.Settings.{capability, setting_of}
use Rattle.asm_requests.specs.Words.{WordParts}
use Rattle.asm_files.specs.Requests.{HartRequestParts}
use Rattle.asm_starts.specs.Values.{SceneParts, made_or, capability_or, listed_or, moved, moved_value, symbol_value, table_value, held_value, place_named}
use Rattle.asm_starts.specs.Words.{new_setup, word_at, each_put}
use Rattle.asm_starts.specs.Starts.{NoteParts, note_of, StartParts, entry_of, places_of, start_from, start_of}
use Rattle.asm_listable.specs.Asked.{IsWritten}
use Rattle.asm_listable.proofs.Starts.{then_ok, started}
use Rattle.asm_listable.proofs.Asked.{start_asked}
use Rattle.asm_pictures.specs.Harts.{OpenedParts, hart_number, with_start, asked_in, hart_put, harts_of}
use Rattle.asm_promises.specs.Given.{HasBounds, IsPcc, IsHeld, IsTable, IsStackOf, IsWrittenOut}
use Rattle.asm_promises.proofs.Held.{made_bounds, value_held, sentry_is, pcc_is}

-- what a register may hold, of these objects, of a table of so many entries, by these requests, beside
-- these stacks
abbrev pub InRegister : ObjectsParts → ℕ → List HartRequestParts → List NoteParts → CapValue → Type 0
InRegister objects entries requests notes v =
    IsHeld objects v ⊎ IsTable entries v ⊎ IsStackOf notes v ⊎ IsWrittenOut requests v

abbrev pub InHart : ObjectsParts → ℕ → List HartRequestParts → List NoteParts → HartImage → Type 0
InHart objects entries requests notes hart = IsPcc objects hart.pcc × All (InRegister objects entries requests notes) hart.regs

-- ---- what words write

made_there : (r : Result CapValue MakeFault) (v : CapValue) → made_or r ≡ Ok v → r ≡ Ok v
made_there (Ok w) v e = let is : w ≡ v = cc in ap (λ x. Ok x) is
made_there (Err refusal) v e = absurd (cc)

capability_there : (r : Result CapValue AsmFaultKind) (v : CapValue) → capability_or r ≡ Ok v → r ≡ Ok v
capability_there (Ok w) v e = let is : w ≡ v = cc in ap (λ x. Ok x) is
capability_there (Err fault) v e = absurd (cc)

listed_there : (r : Result CapValue ListingFaultKind) (v : CapValue) → listed_or r ≡ Ok v → r ≡ Ok v
listed_there (Ok w) v e = let is : w ≡ v = cc in ap (λ x. Ok x) is
listed_there (Err fault) v e = absurd (cc)

moved_held : (scene : SceneParts) (offset : ℕ) (place : Option Location) (v : CapValue) → moved_value scene offset place ≡ Ok v → IsHeld scene.objects v
moved_held scene offset (Some location) v e =
    value_held scene.objects (At (moved location offset)) v (capability_there (capability_of scene.objects (At (moved location offset))) v e)
moved_held scene offset None v e = absurd (cc)

module _ (scene : SceneParts) (requests : List HartRequestParts) (notes : List NoteParts) where
  abbrev In : CapValue → Type 0
  In v = InRegister scene.objects scene.entries requests notes v

  held_in : (request : HartRequestParts) (word : WordParts) (register : ℕ) (held : HeldParts) (v : CapValue) → Contains requests request
      → Contains request.words word → setting_of word.text ≡ Some (capability register held) → held_value scene held ≡ Ok v → In v
  unfolding held_value symbol_value table_value
  held_in request word register (symbol name offset) v there within says e = inl (moved_held scene offset (place_named scene name) v e)
  held_in request word register table v there within says e =
      inr (inl (made_there (table_of scene.entries) v (test_false (scene.entries == 0) (made_or (table_of scene.entries)) faults.Hart v e).1))
  held_in request word register (written parts) v there within says e =
      inr (inr (inr (request, (word, (register, (parts, (there, within, says, listed_there (listed.capability_of parts) v e)))))))

  written_in : (request : HartRequestParts) (v : CapValue) → Contains requests request → IsWritten scene request.words v → In v
  written_in request v there w = held_in request w.0 w.1.0 w.1.1.0 v there w.1.1.1.0 w.1.1.1.1 w.1.1.1.2

stack_bounds : (base size : ℕ) (v : CapValue) → stack_at base size ≡ Ok v → HasBounds base size v
unfolding stack_at
stack_bounds base size v e = made_bounds base size _ permissions.STACK unsealed_type v e

-- ---- one hart

module _ (scene : SceneParts) (requests : List HartRequestParts) (notes : List NoteParts) (request : HartRequestParts) (there : Contains requests request)
    (number memory_end line : ℕ) (start : StartParts) (e : start_of scene number memory_end line request.words ≡ Ok start) where
  abbrev Noted : List NoteParts
  Noted = notes ++ note_of start ∷ []

  register_in : (place : ℕ) → InRegister scene.objects scene.entries requests Noted (register_at start.hart place)
  register_in place =
      elim (start_asked scene number memory_end line request.words start place e) [
        | inl integer ↦ inl (inl integer)
        | inr more ↦ elim more [
          | inl writes ↦ written_in scene requests Noted request (register_at start.hart place) there writes
          | inr rest ↦ elim rest [
            | inl exit ↦ inl (inr (inl (sentry_is scene.objects exit.0 (register_at start.hart place) exit.2)))
            | inr stack ↦ inr (inr (inl (note_of start, (stack.0, (Contains-push notes (note_of start), stack.1, stack.2, stack_bounds stack.0.base stack.0.size (register_at start.hart place) stack.2)))))
          ]
        ]
      ]

  pcc_in : IsPcc scene.objects start.hart.image.pcc
  unfolding start_of places_of
  pcc_in =
      let x = then_ok (each_put (word_at scene line) request.words new_setup)
      (λ setup. start_from line (entry_of scene request.words setup.start) (hart_of setup.registers (places_of scene number memory_end request.words setup))) start e in
      let places : HartPlaces = places_of scene number memory_end request.words x.0 in
      let is : hart_of x.0.registers places ≡ Ok start.hart = started line (entry_of scene request.words x.0.start) (hart_of x.0.registers places) start x.2 in
      let steps = steps_of x.0.registers places start.hart is in
      subst (λ (o : OpenHart). IsPcc scene.objects o.image.pcc) steps.whole (pcc_is scene.objects places.entry steps.pcc steps.made_at)

  hart_in : InHart scene.objects scene.entries requests Noted start.hart.image
  hart_in = (pcc_in, All-from_get_or (InRegister scene.objects scene.entries requests Noted) start.hart.image.regs (raw 0) (λ i low. register_in i))

-- ---- one hart after another

module _ (scene : SceneParts) (requests : List HartRequestParts) where
  more_notes : (notes : List NoteParts) (note : NoteParts) (v : CapValue) → InRegister scene.objects scene.entries requests notes v
      → InRegister scene.objects scene.entries requests (notes ++ note ∷ []) v
  more_notes notes note v h =
      elim h [
        | inl held ↦ inl held
        | inr more ↦ elim more [
          | inl tabled ↦ inr (inl tabled)
          | inr rest ↦ elim rest [
            | inl stack ↦ inr (inr (inl (stack.0, (stack.1.0, (Contains-append_left notes (note ∷ []) stack.0 stack.1.1.0, stack.1.1.1, stack.1.1.2, stack.1.1.3)))))
            | inr writes ↦ inr (inr (inr writes))
          ]
        ]
      ]

  more_in_hart : (notes : List NoteParts) (note : NoteParts) (hart : HartImage) → InHart scene.objects scene.entries requests notes hart
      → InHart scene.objects scene.entries requests (notes ++ note ∷ []) hart
  more_in_hart notes note hart h = (
    h.0,
    All-weaker (InRegister scene.objects scene.entries requests notes) (InRegister scene.objects scene.entries requests (notes ++ note ∷ []))
        (λ v p. more_notes notes note v p) hart.regs h.1,
  )

  abbrev AreGiven : OpenedParts → Type 0
  AreGiven opened = All (InHart scene.objects scene.entries requests opened.notes) opened.images

  asked_ok : (file : ℕ) (r : Result OpenedParts AsmFault) (after : OpenedParts) → asked_in file r ≡ Ok after → r ≡ Ok after
  asked_ok file (Ok opened) after e = let is : opened ≡ after = cc in ap (λ x. Ok x) is
  asked_ok file (Err fault) after e = absurd (cc)

  put_given : (request : HartRequestParts) (opened after : OpenedParts) → Contains requests request → AreGiven opened
      → hart_put scene request opened ≡ Ok after → AreGiven after
  unfolding hart_put
  put_given request opened after there h e =
      let start_is = start_of scene (hart_number (length opened.images)) opened.memory_end request.line request.words in
      let x = then_ok start_is (λ start. Ok (with_start opened start)) after (asked_ok request.file (start_is >>= λ start. Ok (with_start opened start)) after e) in
      let is : with_start opened x.0 ≡ after = (let h = x.2 in cc) in
      let noted : List NoteParts = opened.notes ++ note_of x.0 ∷ [] in
      let before : All (InHart scene.objects scene.entries requests noted) opened.images =
      All-weaker (InHart scene.objects scene.entries requests opened.notes) (InHart scene.objects scene.entries requests noted)
      (λ hart p. more_in_hart opened.notes (note_of x.0) hart p) opened.images h in
      subst AreGiven is
      (All-push (InHart scene.objects scene.entries requests noted) opened.images x.0.hart.image before
      (hart_in scene requests opened.notes request there (hart_number (length opened.images)) opened.memory_end request.line x.0 x.1))

  abbrev Within : List HartRequestParts → Type 0
  Within left = (request : HartRequestParts) → Contains left request → Contains requests request

  first_in : (request : HartRequestParts) (left : List HartRequestParts) → Contains (request ∷ left) request
  first_in request left = (0, omega arith, refl)

  later_in : (request other : HartRequestParts) (left : List HartRequestParts) → Contains left other → Contains (request ∷ left) other
  later_in request other left there = let low = there.1 in (suc there.0, omega arith, there.2)

  walk : (left : List HartRequestParts) (opened after : OpenedParts) → Within left → AreGiven opened → each_put (hart_put scene) left opened ≡ Ok after → AreGiven after
  unfolding each_put
  walk [] opened after within h e = let is : opened ≡ after = cc in subst AreGiven is h
  walk (request ∷ left) opened after within h e =
      let x = then_ok (hart_put scene request opened) (λ next. each_put (hart_put scene) left next) after e in
      walk left x.0 after (λ other there. within other (later_in request other left there))
      (put_given request opened x.0 (within request (first_in request left)) h x.1) x.2

  none_given : (memory_end : ℕ) → AreGiven (record { images = []; notes = []; memory_end = memory_end })
  none_given memory_end = All-nil (InHart scene.objects scene.entries requests [])

  pub harts_given : (memory_end : ℕ) (opened : OpenedParts) → harts_of scene memory_end requests ≡ Ok opened → AreGiven opened
  unfolding harts_of
  harts_given memory_end opened e =
      walk requests (record { images = []; notes = []; memory_end = memory_end }) opened (λ request there. there) (none_given memory_end) e
