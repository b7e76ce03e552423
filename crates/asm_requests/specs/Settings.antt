-- Settings: what a word of a hart's request says.
use Rattle.std.specs.Prelude.{ℕ, ◌==◌, Bool, true, false, ◌||◌, if◌then◌else◌, List, length}
use Rattle.std.specs.Prelude.{codes, bytes_eq, Option, Some, None, option_map}
use Rattle.asm_names.specs.declared.registers.RegisterKind.{RegisterKind}
use Rattle.asm_names.specs.declared.registers.RegisterKind.TheVariants as kinds
use Rattle.asm_names.specs.declared.registers.RegisterName.{RegisterName}
use Rattle.asm_names.specs.Registers.{register_named}
use Rattle.asm_requests.specs.declared.setting.Setting.{Setting}
use Rattle.asm_requests.specs.declared.setting.Setting.TheVariants as settings
use Rattle.asm_requests.specs.Steps.{◌>>=◌}
use Rattle.text_parts.specs.Parts.{parted}
use Rattle.asm_requests.specs.Numbers.{integer_of, stack_of}
use Rattle.asm_requests.specs.Values.{HeldParts, held_parts, held_of}

-- the symbol at which a hart begins; the bytes of its stack; whether the link is the exit; a
-- register's integer, and a register's capability
pub data SettingParts : Type 0 where
  entry : List ℕ → SettingParts
  stack : ℕ → SettingParts
  exit : Bool → SettingParts
  integer : ℕ → ℕ → SettingParts
  capability : ℕ → HeldParts → SettingParts

abbrev pub setting_parts : Setting → SettingParts
setting_parts (settings.Entry name) = entry name.now
setting_parts (settings.Stack size) = stack size
setting_parts (settings.Exit given) = exit given
setting_parts (settings.Integer register bits) = integer register bits
setting_parts (settings.Capability register held) = capability register (held_parts held)

-- what is set, which is set once: a register, or 32 for the entry
abbrev pub slot_of : SettingParts → ℕ
slot_of (entry name) = 32
slot_of (stack size) = 2
slot_of (exit given) = 1
slot_of (integer register bits) = register
slot_of (capability register held) = register

unfoldable pub exit_of : List ℕ → Option Bool
exit_of text =
    if bytes_eq text (codes "yes") then Some true
    else if bytes_eq text (codes "no") then Some false
    else None

-- `entry=NAME`, `stack=S`, `exit=yes`, `exit=no`
unfoldable pub plain_setting : List ℕ → List ℕ → Option SettingParts
plain_setting name text =
    if bytes_eq name (codes "entry") then Some (entry text)
    else if bytes_eq name (codes "stack") then option_map (λ size. stack size) (stack_of text)
    else if bytes_eq name (codes "exit") then option_map (λ given. exit given) (exit_of text)
    else None

-- an x name has an integer, a c name a capability
abbrev pub value_setting : RegisterKind → ℕ → List ℕ → Option SettingParts
value_setting kinds.Integer register text =
    option_map (λ bits. integer register bits) (integer_of text)
value_setting kinds.Capability register text =
    option_map (λ held. capability register held) (held_of text)

unfoldable pub register_setting : RegisterName → List ℕ → Option SettingParts
register_setting name text =
    if name.register == 0 then None else value_setting name.kind name.register text

abbrev pub setting_by : Option RegisterName → List ℕ → List ℕ → Option SettingParts
setting_by (Some register) name text = register_setting register text
setting_by None name text = plain_setting name text

unfoldable pub named_setting : List ℕ → List ℕ → Option SettingParts
named_setting name text =
    if length text == 0 then None else setting_by (register_named name) name text

-- NAME=VALUE
unfoldable pub setting_of : List ℕ → Option SettingParts
setting_of word = do
  parts ← parted 0x3D word
  named_setting parts.0 parts.1

-- the names of the register of links
unfoldable pub is_link : List ℕ → Bool
is_link name =
    bytes_eq name (codes "cra") || bytes_eq name (codes "c1") || bytes_eq name (codes "ra")
    || bytes_eq name (codes "x1")

abbrev pub name_of : List ℕ → Option (List ℕ × List ℕ) → List ℕ
name_of word (Some parts) = parts.0
name_of word None = word

-- whether a hart whose request has this word is given no exit
unfoldable pub drops_exit : List ℕ → Bool
drops_exit word = bytes_eq word (codes "exit=no") || is_link (name_of word (parted 0x3D word))
