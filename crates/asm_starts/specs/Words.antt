-- What the words of a hart's request set, one after another.
use Rattle.std.specs.Prelude.{ℕ, if◌then◌else◌, List, [], ◌∷◌}
use Rattle.std.specs.Prelude.{Option, Some, None, Result, Ok, Err}
use Rattle.std.specs.Option.{is_some}
use Rattle.cap_model.specs.values.CapValue.{CapValue, raw}
use Rattle.asm_tokens.specs.declared.fault.AsmFault.{AsmFault}
use Rattle.asm_tokens.specs.declared.fault.AsmFaultKind.{AsmFaultKind}
use Rattle.asm_tokens.specs.declared.fault.AsmFaultKind.TheVariants.{Hart}
use Rattle.asm_tokens.specs.Faults.{◌>>=◌}
use Rattle.asm_harts.specs.declared.registers.Registers.{Registers}
use Rattle.asm_harts.specs.declared.hart.TheConstants.{STACK, LINK}
use Rattle.asm_harts.specs.Registers.{no_registers, is_set, with_register}
use Rattle.asm_requests.specs.Settings.{SettingParts, entry, stack, exit, integer, capability}
use Rattle.asm_requests.specs.Settings.{setting_of}
use Rattle.asm_requests.specs.Values.{HeldParts}
use Rattle.asm_requests.specs.Words.{WordParts}
use Rattle.asm_starts.specs.declared.words.Setup.{Setup}
use Rattle.asm_starts.specs.declared.words.TheConstants.{STACK_BYTES}
use Rattle.asm_starts.specs.Values.{SceneParts, entry_at, held_value}

-- what words have set so far: registers, the address at which the hart begins, the bytes of its
-- stack; and which registers words have named
pub record SetupParts : Type 0 where
  pub registers : Registers
  pub start : Option ℕ
  pub stack : ℕ
  pub named : Registers

abbrev pub setup_parts : Setup → SetupParts
setup_parts setup =
    record {
      registers = setup.registers;
      start = setup.start;
      stack = setup.stack;
      named = setup.named;
    }

-- before the first word
abbrev pub new_setup : SetupParts
new_setup =
    record {
      registers = no_registers;
      start = None;
      stack = STACK_BYTES;
      named = no_registers;
    }

-- the registers that words have named, and one more, which no word has named before
abbrev pub claimed : Registers → ℕ → Result Registers AsmFaultKind
claimed named register =
    if is_set named register then Err Hart else Ok (with_register named register (raw 0))

unfoldable pub register_claimed : SetupParts → ℕ → Result SetupParts AsmFaultKind
register_claimed setup register =
    claimed setup.named register >>= λ named. Ok (record setup { named = named })

abbrev pub with_value : SetupParts → ℕ → CapValue → SetupParts
with_value setup register value =
    record setup { registers = with_register setup.registers register value }

-- where the hart begins, which is said once
unfoldable pub entry_put : SceneParts → SetupParts → List ℕ → Result SetupParts AsmFaultKind
entry_put scene setup name =
    if is_some setup.start then Err Hart
    else entry_at scene name >>= λ entry. Ok (record setup { start = Some entry.1 })

-- the bytes of its stack, which is register 2
unfoldable pub stack_put : SetupParts → ℕ → Result SetupParts AsmFaultKind
stack_put setup size =
    register_claimed setup STACK >>= λ next. Ok (record next { stack = size })

unfoldable pub integer_put : SetupParts → ℕ → ℕ → Result SetupParts AsmFaultKind
integer_put setup register bits =
    register_claimed setup register >>= λ next. Ok (with_value next register (raw bits))

unfoldable pub capability_put : SceneParts → SetupParts → ℕ → HeldParts
    → Result SetupParts AsmFaultKind
capability_put scene setup register held = do
  next ← register_claimed setup register
  value ← held_value scene held
  Ok (with_value next register value)

-- what a word sets; whether the link, register 1, is the exit is settled by all words at once
unfoldable pub setting_put : SceneParts → SetupParts → SettingParts → Result SetupParts AsmFaultKind
setting_put scene setup (entry name) = entry_put scene setup name
setting_put scene setup (stack size) = stack_put setup size
setting_put scene setup (exit given) = register_claimed setup LINK
setting_put scene setup (integer register bits) = integer_put setup register bits
setting_put scene setup (capability register held) = capability_put scene setup register held

-- a word that says nothing
abbrev pub said_put : SceneParts → SetupParts → Option SettingParts → Result SetupParts AsmFaultKind
said_put scene setup (Some setting) = setting_put scene setup setting
said_put scene setup None = Err Hart

unfoldable pub word_put : SceneParts → SetupParts → List ℕ → Result SetupParts AsmFaultKind
word_put scene setup word = said_put scene setup (setting_of word)

abbrev pub at_word : ℕ → ℕ → Result SetupParts AsmFaultKind → Result SetupParts AsmFault
at_word line column (Ok setup) = Ok setup
at_word line column (Err kind) =
    Err (record { kind = kind; place = record { line = line; column = column } })

-- the same of a word in a line, at which the fault is told
unfoldable pub word_at : SceneParts → ℕ → WordParts → SetupParts → Result SetupParts AsmFault
word_at scene line word setup = at_word line word.column (word_put scene setup word.text)

-- a step for each item, one after another, up to the first fault
unfoldable pub each_put : {X S E : Type 0} → (X → S → Result S E) → List X → S → Result S E
each_put step [] state = Ok state
each_put step (item ∷ items) state = step item state >>= λ next. each_put step items next
