-- A hart of a request.
use Rattle.std.specs.Prelude.{ℕ, Bool, not, if◌then◌else◌, List, [], ◌∷◌, option_map}
use Rattle.std.specs.Prelude.{Option, Some, None, Result, Ok, Err}
use Rattle.std.specs.List.{list_any}
use Rattle.std.specs.Borrow.{Bor}
use Rattle.cap_ops.specs.declared.making.MakeFault.{MakeFault}
use Rattle.cheri_model.specs.declared.code.TheConstants.{CODE_BASE}
use Rattle.asm_tokens.specs.declared.fault.AsmFault.{AsmFault}
use Rattle.asm_tokens.specs.declared.fault.AsmFaultKind.TheVariants.{Capability}
use Rattle.asm_tokens.specs.Faults.{◌>>=◌}
use Rattle.asm_harts.specs.declared.hart.HartPlaces.{HartPlaces}
use Rattle.asm_harts.specs.declared.hart.OpenHart.{OpenHart}
use Rattle.asm_harts.specs.declared.hart.Stack.{Stack}
use Rattle.asm_harts.specs.Harts.{hart_of}
use Rattle.asm_requests.specs.Settings as settings
use Rattle.asm_requests.specs.Settings.{SettingParts, setting_of, drops_exit}
use Rattle.asm_requests.specs.Words.{WordParts}
use Rattle.asm_starts.specs.declared.starts.HartNote.{HartNote}
use Rattle.asm_starts.specs.declared.starts.Start.{Start}
use Rattle.asm_starts.specs.Values.{SceneParts, entry_parts, default_entry}
use Rattle.asm_starts.specs.Words.{SetupParts, new_setup, each_put, word_at}

-- a hart before its first step, and the symbol at which it begins, if that is told by one
pub record StartParts : Type 0 where
  pub hart : OpenHart
  pub entry : Option (List ℕ × ℕ)

abbrev pub start_parts : Start → StartParts
start_parts start = record { hart = start.hart; entry = option_map entry_parts start.entry }

-- what a map tells of a hart: the symbol at which it begins, and its stack
pub record NoteParts : Type 0 where
  pub entry : Option (List ℕ)
  pub stack : Option Stack

abbrev pub text_now : Bor (List ℕ) → List ℕ
text_now name = name.now

abbrev pub note_parts : HartNote → NoteParts
note_parts note = record { entry = option_map text_now note.entry; stack = note.stack }

abbrev pub entry_name : List ℕ × ℕ → List ℕ
entry_name entry = entry.0

abbrev pub note_of : StartParts → NoteParts
note_of start = record { entry = option_map entry_name start.entry; stack = start.hart.stack }

-- whether a hart with a request of these words is given the exit
unfoldable pub has_exit : List WordParts → Bool
has_exit words = not (list_any (λ word. drops_exit word.text) words)

abbrev pub exit_for : SceneParts → List WordParts → Option ℕ
exit_for scene words = if has_exit words then scene.exit else None

-- the symbol at which words let a hart begin
abbrev pub entry_by : Option SettingParts → Option (List ℕ)
entry_by (Some (settings.entry name)) = Some name
entry_by _ = None

unfoldable pub entry_in : WordParts → Option (List ℕ)
entry_in word = entry_by (setting_of word.text)

abbrev pub or_later : Option (List ℕ) → Option (List ℕ) → Option (List ℕ)
or_later (Some name) later = Some name
or_later None later = later

unfoldable pub said_entry : List WordParts → Option (List ℕ)
said_entry [] = None
said_entry (word ∷ words) = or_later (entry_in word) (said_entry words)

abbrev pub named_at : ℕ → Option (List ℕ) → Option (List ℕ × ℕ)
named_at addr (Some name) = Some (name, addr)
named_at addr None = None

abbrev pub said_at : List WordParts → ℕ → Option (List ℕ × ℕ)
said_at words addr = named_at addr (said_entry words)

-- that symbol, or else the default
abbrev pub entry_of : SceneParts → List WordParts → Option ℕ → Option (List ℕ × ℕ)
entry_of scene words (Some addr) = said_at words addr
entry_of scene words None = default_entry scene

-- where a hart begins: at the first instruction, where no symbol tells it
abbrev pub address_of : Option (List ℕ × ℕ) → ℕ
address_of (Some entry) = entry.1
address_of None = CODE_BASE

unfoldable pub places_of : SceneParts → ℕ → ℕ → List WordParts → SetupParts → HartPlaces
places_of scene number memory_end words setup =
    record {
      reach = scene.objects.reach;
      entry = address_of (entry_of scene words setup.start);
      exit = exit_for scene words;
      number = number;
      stack = setup.stack;
      memory_end = memory_end;
    }

abbrev pub start_from : ℕ → Option (List ℕ × ℕ) → Result OpenHart MakeFault
    → Result StartParts AsmFault
start_from line entry (Ok hart) = Ok (record { hart = hart; entry = entry })
start_from line entry (Err refusal) =
    Err (record { kind = Capability; place = record { line = line; column = 0 } })

-- what a hart of this number begins with whose request, in a line, has these words, behind memory
-- that is taken up to an address
unfoldable pub start_of : SceneParts → ℕ → ℕ → ℕ → List WordParts → Result StartParts AsmFault
start_of scene number memory_end line words =
    each_put (word_at scene line) words new_setup >>= λ setup.
    start_from line (entry_of scene words setup.start)
    (hart_of setup.registers (places_of scene number memory_end words setup))
