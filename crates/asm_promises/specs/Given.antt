-- What an image's values may be: nothing is given but what is written.
use Rattle.std.specs.Prelude.{◌≡◌, ◌⊎◌, ℕ, ◌+◌, List, length, Some, Ok}
use Rattle.std.specs.List.{All, Contains}
use Rattle.cap_model.specs.values.CapValue.{CapValue, valid, raw}
use Rattle.cheri_model.specs.declared.code.TheConstants.{CODE_BASE}
use Rattle.cheri_model.specs.declared.image.HartImage.{HartImage}
use Rattle.grammar.specs.declared.capability.CapParts.{CapParts}
use Rattle.grammar.specs.Capability as listed
use Rattle.asm_capabilities.specs.Capabilities.{reach_length, pcc_at, sentry_at, data_at, table_of}
use Rattle.asm_capabilities.specs.Capabilities.{stack_at}
use Rattle.asm_places.specs.Places.{kind_of, address_in}
use Rattle.asm_places.specs.Capabilities.{ObjectsParts, kept_kind, place_of, length_of}
use Rattle.asm_harts.specs.declared.hart.Stack.{Stack}
use Rattle.asm_requests.specs.Values.{written}
use Rattle.asm_requests.specs.Settings.{capability, setting_of}
use Rattle.asm_requests.specs.Words.{WordParts}
use Rattle.asm_files.specs.Requests.{HartRequestParts}
use Rattle.asm_starts.specs.Starts.{NoteParts}
use Rattle.asm_late.specs.Late.{objects_of}
use Rattle.asm_listable.specs.Asked.{IsInteger}
use Rattle.asm_listable.specs.Plain.{IsPlainCode, IsPlainData, WritesNone}
use Rattle.asm_pictures.specs.Asked.{HartsParts, asked_harts}
use Rattle.asm_image.specs.Whole.{AssembledParts}

-- the symbols, their bytes, and what code reaches, of a program that is laid out
abbrev pub objects_in : AssembledParts → ObjectsParts
objects_in a = objects_of (record { program = a.program; linked = a.linked })

-- the requests of its harts
abbrev pub requests_in : HartsParts → AssembledParts → List HartRequestParts
requests_in harts a = asked_harts harts a.program.requests.harts

-- just these bounds: from a base, so many bytes
abbrev pub HasBounds : ℕ → ℕ → CapValue → Type 0
HasBounds base length (valid c) = (c.base ≡ base) × (c.top ≡ base + length)
HasBounds base length (raw word) = ⊥

-- the bounds of PCC, which are all that code reaches
abbrev pub HasCodeBounds : ObjectsParts → CapValue → Type 0
HasCodeBounds objects value = HasBounds CODE_BASE (reach_length objects.reach) value

-- PCC at an address
abbrev pub IsPcc : ObjectsParts → CapValue → Type 0
IsPcc objects value =
    (addr : ℕ) × (pcc_at objects.reach addr ≡ Ok value) × HasCodeBounds objects value

-- a sentry, with PCC's bounds
abbrev pub IsSentry : ObjectsParts → CapValue → Type 0
IsSentry objects value =
    (addr : ℕ) × (sentry_at objects.reach addr ≡ Ok value) × HasCodeBounds objects value

-- a symbol's capability: its bounds are the bytes of the symbol, from its place on
pub record IsOfSymbol (objects : ObjectsParts) (value : CapValue) : Type 0 where
  pub symbol : ℕ
  pub place : ℕ × ℕ
  pub base : ℕ
  pub address : ℕ
  pub stands : place_of objects symbol ≡ Some place
  pub begins : address_in objects.places place.0 place.1 ≡ Some base
  pub is : data_at (kept_kind (kind_of objects.places place.0)) base (length_of objects symbol)
      address ≡ Ok value
  pub bounds : HasBounds base (length_of objects symbol) value

-- the capability table, of so many entries
abbrev pub IsTable : ℕ → CapValue → Type 0
IsTable entries value = table_of entries ≡ Ok value

-- the stack of one of these harts
abbrev pub IsStackOf : List NoteParts → CapValue → Type 0
IsStackOf notes value =
    (note : NoteParts) × ((stack : Stack) × (Contains notes note × (note.stack ≡ Some stack)
    × (stack_at stack.base stack.size ≡ Ok value) × HasBounds stack.base stack.size value))

-- what a word of a request writes out by `cap:`
abbrev pub IsWrittenOut : List HartRequestParts → CapValue → Type 0
IsWrittenOut requests value =
    (request : HartRequestParts) × ((word : WordParts) × ((register : ℕ) × ((parts : CapParts)
    × (Contains requests request × Contains request.words word
    × (setting_of word.text ≡ Some (capability register (written parts)))
    × (listed.capability_of parts ≡ Ok value)))))

-- what memory may hold: an integer, a sentry, or a symbol's capability
abbrev pub IsHeld : ObjectsParts → CapValue → Type 0
IsHeld objects value = IsInteger value ⊎ IsSentry objects value ⊎ IsOfSymbol objects value

-- what a register may hold: the same, the table, the hart's stack, and what a request writes out
abbrev pub IsHeldInRegister : HartsParts → AssembledParts → CapValue → Type 0
IsHeldInRegister harts a value =
    IsHeld (objects_in a) value ⊎ IsTable (length a.linked.table.symbols) value
    ⊎ IsStackOf a.harts value ⊎ IsWrittenOut (requests_in harts a) value

abbrev pub IsGivenHart : HartsParts → AssembledParts → HartImage → Type 0
IsGivenHart harts a hart =
    IsPcc (objects_in a) hart.pcc × All (IsHeldInRegister harts a) hart.regs

-- no hart's request writes out a capability
abbrev pub NoneIsWritten : HartsParts → AssembledParts → Type 0
NoneIsWritten harts a =
    (request : HartRequestParts) → Contains (requests_in harts a) request → WritesNone request.words

-- an integer; code, through which nothing can be written; or what can't be run; no right to seal
-- and no type that sealing gives
abbrev pub IsPlainValue : ObjectsParts → CapValue → Type 0
IsPlainValue objects value =
    IsInteger value ⊎ ((IsPcc objects value ⊎ IsSentry objects value) × IsPlainCode value)
    ⊎ IsPlainData value

abbrev pub IsPlainHart : ObjectsParts → HartImage → Type 0
IsPlainHart objects hart =
    IsPlainValue objects hart.pcc × All (IsPlainValue objects) hart.regs
