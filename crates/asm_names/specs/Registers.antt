-- The names of registers: x names, of integers, and c names, of capabilities.
use Rattle.std.specs.Prelude.{ℕ, ◌+◌, ◌-◌, ◌*◌, ◌==◌, nat_lt, nat_le, Bool, ◌&&◌, if◌then◌else◌}
use Rattle.std.specs.Prelude.{List, [], ◌∷◌, length, drop, slice_index, codes, bytes_eq}
use Rattle.std.specs.Prelude.{Option, Some, None}
use Rattle.cheri_model.specs.instructions.Tables.{found_at}
use Rattle.asm_names.specs.declared.registers.RegisterKind.TheVariants.{Integer, Capability}
use Rattle.asm_names.specs.declared.registers.RegisterName.{RegisterName}

-- the x names that are no numbers, without `zero`
abbrev pub register_table : List (List ℕ × ℕ)
register_table =
    (codes "ra", 1) ∷ (codes "sp", 2) ∷ (codes "gp", 3) ∷ (codes "tp", 4) ∷ (codes "t0", 5) ∷
    (codes "t1", 6) ∷ (codes "t2", 7) ∷ (codes "fp", 8) ∷ (codes "s0", 8) ∷ (codes "s1", 9) ∷
    (codes "a0", 10) ∷ (codes "a1", 11) ∷ (codes "a2", 12) ∷ (codes "a3", 13) ∷
    (codes "a4", 14) ∷ (codes "a5", 15) ∷ (codes "a6", 16) ∷ (codes "a7", 17) ∷
    (codes "s2", 18) ∷ (codes "s3", 19) ∷ (codes "s4", 20) ∷ (codes "s5", 21) ∷
    (codes "s6", 22) ∷ (codes "s7", 23) ∷ (codes "s8", 24) ∷ (codes "s9", 25) ∷
    (codes "s10", 26) ∷ (codes "s11", 27) ∷ (codes "t3", 28) ∷ (codes "t4", 29) ∷
    (codes "t5", 30) ∷ (codes "t6", 31) ∷ []

-- a register's number is at most 31
abbrev pub register_numbered : ℕ → Option ℕ
register_numbered number = if nat_lt number 32 then Some number else None

abbrev pub is_decimal : ℕ → ℕ → Bool
is_decimal low b = nat_le low b && nat_le b 0x39

-- one digit, or two of which the first is not 0
unfoldable pub numbered : List ℕ → Option ℕ
numbered digits =
    if (length digits == 1) && is_decimal 0x30 (slice_index digits 0)
    then register_numbered (slice_index digits 0 - 0x30)
    else if (length digits == 2) && is_decimal 0x31 (slice_index digits 0)
    && is_decimal 0x30 (slice_index digits 1)
    then register_numbered (10 * (slice_index digits 0 - 0x30) + (slice_index digits 1 - 0x30))
    else None

abbrev pub if_numbered : Option ℕ → Option ℕ
if_numbered (Some number) = register_numbered number
if_numbered None = None

unfoldable pub table_named : List ℕ → Option ℕ
table_named name = if_numbered (found_at register_table name)

abbrev pub begins : ℕ → List ℕ → Bool
begins b name = nat_le 1 (length name) && (slice_index name 0 == b)

-- the first of two registers that there is
abbrev pub first_of : Option ℕ → Option ℕ → Option ℕ
first_of (Some register) other = Some register
first_of None other = other

-- `zero`, `x` and a number, or a name of the table
unfoldable pub integer_named : List ℕ → Option ℕ
integer_named name =
    if bytes_eq name (codes "zero") then Some 0
    else if begins 0x78 name then numbered (drop 1 name)
    else table_named name

-- `cnull`, or `c` and a number or a name of the table
unfoldable pub capability_named : List ℕ → Option ℕ
capability_named name =
    if bytes_eq name (codes "cnull") then Some 0
    else if begins 0x63 name then first_of (numbered (drop 1 name)) (table_named (drop 1 name))
    else None

abbrev pub kind_of : Option ℕ → Option ℕ → Option RegisterName
kind_of (Some register) other = Some (record { kind = Integer; register = register })
kind_of None (Some register) = Some (record { kind = Capability; register = register })
kind_of None None = None

-- the register of a name, and of which kind the name is
unfoldable pub register_named : List ℕ → Option RegisterName
register_named name = kind_of (integer_named name) (capability_named name)
