-- The canonical listing of an image (this project's own format).
use Rattle.std.specs.Prelude.{ℕ, ◌+◌, ◌-◌, ◌/◌, ◌%◌, ◌^◌, ◌==◌, Bool, true, false, if◌then◌else◌}
use Rattle.std.specs.Prelude.{List, [], ◌∷◌, codes, decimal, bit_and}
use Rattle.std.specs.Fmt.{digits}
use Rattle.std.specs.Int.{to_le_bytes, to_be_bytes, w64}
use Rattle.hex.specs.Hex.{encode_lower}
use Rattle.cheri_model.specs.declared.instr.Instr.{Instr}
use Rattle.cheri_model.specs.declared.image.HartImage.{HartImage}
use Rattle.cap_model.specs.words.PermissionNames.{permission_table, all_permissions}
use Rattle.cap_model.specs.values.Capability.{Capability, unsealed_type, sentry_type}
use Rattle.cap_model.specs.values.CapValue.{CapValue, bits_of, tag_of, parts_of}
use Rattle.cheri_model.specs.runs.Image.{ImageParts}
use Rattle.cheri_model.specs.runs.ImageRules.{is_listed}
use Rattle.cheri_model.specs.instructions.Form.{form_of}
use Rattle.notation.specs.Instructions.{◌+++◌, form_text}
use Rattle.notation.specs.Permissions.{joined_text}

-- the texts of items, one after another
unfoldable pub each : {X : Type 0} → (X → List ℕ) → List X → List ℕ
each text [] = []
each text (item ∷ items) = text item +++ each text items

-- a number in hexadecimal without leading zeros
abbrev pub hex_number : ℕ → List ℕ
hex_number n = codes "0x" +++ digits 16 false n

-- `all`, `none`, or the names in bit order
unfoldable pub perms_text : ℕ → List ℕ
perms_text perms =
    if perms == all_permissions then codes "all"
    else if perms == 0 then codes "none"
    else joined_text false perms permission_table

-- nothing for an unsealed capability
unfoldable pub type_text : ℕ → List ℕ
type_text otype =
    if otype == unsealed_type then []
    else if otype == sentry_type then codes " sentry"
    else codes " " +++ decimal otype

-- BASE LEN ADDR PERMS [TYPE]
unfoldable pub cap_text : Capability → List ℕ
cap_text c =
    hex_number c.base +++ codes " " +++ decimal (c.top - c.base) +++ codes " " +++ hex_number c.addr
    +++ codes " "
    +++ perms_text c.perms +++ type_text c.otype

-- the address and the upper half of a word as a granule has them in memory, the least significant
-- byte first
abbrev pub memory_text : ℕ → List ℕ
memory_text bits =
    encode_lower (to_le_bytes w64 (bits % 2 ^ 64))
    +++ encode_lower (to_le_bytes w64 (bits / 2 ^ 64))

-- a word of which the upper half is not 0: that half without leading zeros, and 16 more digits
abbrev pub word_text : ℕ → List ℕ
word_text bits = hex_number (bits / 2 ^ 64) +++ encode_lower (to_be_bytes w64 (bits % 2 ^ 64))

-- a granule's line
unfoldable pub granule_line : ℕ × CapValue → List ℕ
granule_line g =
    if tag_of g.1 then
    codes ".cap " +++ hex_number g.0 +++ codes " " +++ cap_text (parts_of g.1) +++ codes "\n"
    else
    codes ".bytes " +++ hex_number g.0 +++ codes " " +++ memory_text (bits_of g.1) +++ codes "\n"

-- what a register is set to: `int` where the upper half is 0
unfoldable pub setting_text : CapValue → List ℕ
setting_text v =
    if tag_of v then codes "cap " +++ cap_text (parts_of v)
    else if bits_of v / 2 ^ 64 == 0 then codes "int " +++ decimal (bits_of v % 2 ^ 64)
    else codes "word " +++ word_text (bits_of v)

-- a null register has no line
unfoldable pub register_line : ℕ → CapValue → List ℕ
register_line number v =
    if is_listed v then
    codes ".set c" +++ decimal number +++ codes " " +++ setting_text v +++ codes "\n"
    else []

unfoldable pub register_lines : ℕ → List CapValue → List ℕ
register_lines number [] = []
register_lines number (v ∷ values) = register_line number v +++ register_lines (number + 1) values

unfoldable pub hart_lines : HartImage → List ℕ
hart_lines hart =
    codes ".hart " +++ cap_text (parts_of hart.pcc) +++ codes "\n" +++ register_lines 1 hart.regs

-- an instruction's line
unfoldable pub program_line : Instr → List ℕ
program_line instr = form_text (form_of instr) +++ codes "\n"

-- the canonical listing
unfoldable pub canon : ImageParts → List ℕ
canon image =
    codes ".ram " +++ decimal image.ram +++ codes "\n" +++ each granule_line image.granules
    +++ each hart_lines image.harts +++ each program_line image.program
