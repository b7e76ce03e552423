-- What places are in a state, and what atoms say of it.
use Rattle.std.specs.Prelude.{ℕ, ◌+◌, ◌==◌, nat_lt, nat_le, Bool, true, false, not, ◌&&◌, ◌||◌}
use Rattle.std.specs.Prelude.{zero, suc, bit_and}
use Rattle.cap_model.specs.declared.perms.Perms.{Perms}
use Rattle.cap_model.specs.values.CapValue.{CapValue, valid, raw, bits_of, tag_of}
use Rattle.cap_model.specs.results.Addresses.{address_of, length_of}
use Rattle.cap_model.specs.results.Readings.{base_of, top_of, permissions_of, is_sealed}
use Rattle.cap_model.specs.results.Readings.{object_type_of}
use Rattle.cap_model.specs.results.Readings as reading
use Rattle.cheri_model.specs.declared.trace.Status.{Status}
use Rattle.cheri_model.specs.declared.trace.Status.TheVariants as status
use Rattle.cheri_model.specs.steps.Hart.{HartState, register}
use Rattle.cheri_model.specs.steps.Memory.{bytes_of, load_data, load_capability}
use Rattle.cheri_model.specs.runs.Machine.{MachineState, hart_at}
use Rattle.conditions.specs.declared.parts.Field.{Field}
use Rattle.conditions.specs.declared.parts.Field.TheVariants as field
use Rattle.conditions.specs.declared.parts.Holder.{Holder}
use Rattle.conditions.specs.declared.parts.Holder.TheVariants as holder
use Rattle.conditions.specs.declared.parts.Place.{Place}
use Rattle.conditions.specs.declared.parts.Place.TheVariants as place
use Rattle.conditions.specs.declared.parts.Comparison.{Comparison}
use Rattle.conditions.specs.declared.parts.Comparison.TheVariants as comparison
use Rattle.conditions.specs.declared.parts.StatusTest.{StatusTest}
use Rattle.conditions.specs.declared.parts.StatusTest.TheVariants as test
use Rattle.conditions.specs.declared.parts.Subject.{Subject}
use Rattle.conditions.specs.declared.parts.Subject.TheVariants as subject
use Rattle.conditions.specs.declared.parts.Own.{Own}
use Rattle.conditions.specs.declared.parts.Own.TheVariants as own
use Rattle.conditions.specs.declared.parts.Source.{Source}
use Rattle.conditions.specs.declared.parts.Source.TheVariants as source
use Rattle.conditions.specs.declared.parts.Term.{Term}
use Rattle.conditions.specs.declared.parts.Term.TheVariants as term
use Rattle.conditions.specs.declared.parts.Atom.{Atom}
use Rattle.conditions.specs.declared.parts.Atom.TheVariants as atom

-- what instructions read of a value, its decoded top, its type's number and all its bits
unfoldable pub field_value : Field → CapValue → ℕ
field_value field.Addr v = address_of v
field_value field.Tag v = reading.number_of (tag_of v)
field_value field.Base v = base_of v
field_value field.Len v = length_of v
field_value field.Perms v = permissions_of v
field_value field.Sealed v = reading.number_of (is_sealed v)
field_value field.Top v = top_of v
field_value field.Type v = object_type_of v
field_value field.Word v = bits_of v

-- the value of a register, of PCC or of a granule
unfoldable pub value_in : Holder → MachineState → CapValue
value_in (holder.Register hart reg) state = register (hart_at state hart) reg
value_in (holder.Pcc hart) state = (hart_at state hart).pcc
value_in (holder.Granule addr) state = load_capability state.memory addr

-- the number at a place
unfoldable pub number_at : Place → MachineState → ℕ
number_at (place.Value held read) state = field_value read (value_in held state)
number_at (place.Data addr width) state = load_data state.memory addr (bytes_of width)

-- a comparison of whole numbers
unfoldable pub compares : Comparison → ℕ → ℕ → Bool
compares comparison.Equal x y = x == y
compares comparison.NotEqual x y = not (x == y)
compares comparison.Less x y = nat_lt x y
compares comparison.AtMost x y = nat_le x y
compares comparison.Greater x y = nat_lt y x
compares comparison.AtLeast x y = nat_le y x

-- a trap of this cause
abbrev pub is_trap_of : ℕ → Status → Bool
is_trap_of cause (status.Trapped trap) = trap.cause == cause
is_trap_of cause status.Running = false
is_trap_of cause status.Halted = false

abbrev pub is_trapped : Status → Bool
is_trapped (status.Trapped trap) = true
is_trapped status.Running = false
is_trapped status.Halted = false

abbrev pub is_halted : Status → Bool
is_halted status.Halted = true
is_halted status.Running = false
is_halted (status.Trapped trap) = false

abbrev pub is_running : Status → Bool
is_running status.Running = true
is_running status.Halted = false
is_running (status.Trapped trap) = false

unfoldable pub has_status : StatusTest → Status → Bool
has_status test.Running found = is_running found
has_status test.Halted found = is_halted found
has_status test.Trapped found = is_trapped found
has_status (test.TrappedBy cause) found = is_trap_of cause found

-- a tagged capability, sealed or not, with an address in its bounds and all of these permissions
unfoldable pub grants : ℕ → Perms → CapValue → Bool
grants addr perms (valid c) =
    nat_le c.base addr && nat_lt addr c.top && (bit_and c.perms perms.0 == perms.0)
grants addr perms (raw word) = false

-- one of so many registers, from this number on, holds such a capability
unfoldable pub registers_grant : ℕ → Perms → HartState → ℕ → ℕ → Bool
registers_grant addr perms hart number zero = false
registers_grant addr perms hart number (suc count) =
    grants addr perms (register hart number) || registers_grant addr perms hart (number + 1) count

-- a hart holds such a capability in PCC or one of c1 to c31
unfoldable pub reaches : ℕ → Perms → HartState → Bool
reaches addr perms hart = grants addr perms hart.pcc || registers_grant addr perms hart 1 31

-- the number of the hart that is spoken of, where `h` is the one of this number
unfoldable pub number_of : Subject → ℕ → ℕ
number_of (subject.Numbered number) each = number
number_of subject.Each each = each

abbrev pub hart_of : MachineState → ℕ → Subject → HartState
hart_of state each who = hart_at state (number_of who each)

-- a register or PCC of a hart
unfoldable pub own_value : Own → HartState → CapValue
own_value (own.Register reg) hart = register hart reg
own_value own.Pcc hart = hart.pcc

-- the number that is read, and the one that it is compared with
unfoldable pub source_number : MachineState → ℕ → Source → ℕ
source_number state each (source.Value held read) = number_at (place.Value held read) state
source_number state each (source.Data addr width) = number_at (place.Data addr width) state
source_number state each (source.Each held read) =
    field_value read (own_value held (hart_at state each))

unfoldable pub term_number : MachineState → ℕ → Term → ℕ
term_number state each (term.Number number) = number
term_number state each (term.Source from) = source_number state each from

-- an address is at least the first one and below the second
abbrev pub is_between : ℕ → ℕ → ℕ → Bool
is_between first second addr = nat_le first addr && nat_lt addr second

-- an atom holds in a state
unfoldable pub atom_holds : MachineState → ℕ → Atom → Bool
atom_holds state each (atom.Compares from comparison with) =
    compares comparison (source_number state each from) (term_number state each with)
atom_holds state each (atom.HasStatus who wanted) =
    has_status wanted (hart_of state each who).status
atom_holds state each (atom.Reaches who addr perms) = reaches addr perms (hart_of state each who)
atom_holds state each (atom.IsAt who addr) = address_of (hart_of state each who).pcc == addr
atom_holds state each (atom.IsIn who first second) =
    is_between first second (address_of (hart_of state each who).pcc)
