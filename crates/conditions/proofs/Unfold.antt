-- Names for `unfolding(..)` that open what their own line names.
use Rattle.std.specs.Prelude.{ℕ, Bool, List, Option}
use Rattle.cap_model.specs.values.CapValue.{CapValue}
use Rattle.cheri_model.specs.runs.Machine.{MachineState, hart_at}
use Rattle.cheri_model.specs.steps.Hart.{HartState, register}
use Rattle.cheri_model.specs.steps.Memory.{granule_at, bytes_at, load_data, load_capability}
use Rattle.conditions.specs.declared.entries.Entry.{Entry}
use Rattle.conditions.specs.declared.formulas.Parts.{Parts}
use Rattle.conditions.specs.declared.parts.Comparison.{Comparison}
use Rattle.conditions.specs.declared.parts.Field.{Field}
use Rattle.conditions.specs.declared.parts.Node.{Node}
use Rattle.conditions.specs.declared.parts.Subject.{Subject}
use Rattle.conditions.specs.declared.seen.Seen.{Seen}
use Rattle.conditions.specs.Formulas.{Formula}
use Rattle.conditions.specs.Values.{field_value, value_in, number_at, number_of, own_value}
use Rattle.conditions.specs.Values.{source_number, term_number}
use Rattle.conditions.specs.Values.{compares, has_status, grants, reaches, atom_holds}
use Rattle.conditions.specs.Holding.{decides, holds}
use Rattle.conditions.specs.Hiding.{alone_source, alone_both, alone_atom, left_way, moves}
use Rattle.conditions.specs.Hiding.{so_of, stays_so, source_moves, atom_keeps, hides}
use Rattle.conditions.specs.Entries.{last_alone, alone_after}
use Rattle.conditions.specs.Parts.{AreTwo, IsParted}
use Rattle.conditions.specs.Units.{has_seen}

unfoldable pub conditions : MachineState → List Node → Bool
unfolding holds
conditions state nodes = holds state nodes

unfoldable pub formulas : Formula → Option Parts → Type 0
unfolding AreTwo IsParted
formulas formula parts = IsParted formula parts

unfoldable pub values : Field → CapValue → ℕ
unfolding field_value value_in number_at granule_at bytes_at load_data load_capability hart_at register number_of own_value source_number term_number
values field value = field_value field value

unfoldable pub holding : Comparison → ℕ → ℕ → Bool
unfolding compares has_status grants reaches atom_holds decides number_of
holding comparison first second = compares comparison first second

unfoldable pub ways : Bool → Comparison → ℕ → ℕ → Bool
unfolding left_way moves
ways wanted comparison before after = moves (left_way wanted comparison) before after

unfoldable pub alone : Option Subject → Option Subject → Option Subject
unfolding alone_source alone_both alone_atom
alone first second = alone_both first second

unfoldable pub entries : List Entry → Node → Option Subject
unfolding last_alone alone_after
entries before n = alone_after before n

unfoldable pub seen : Seen → Subject → Bool
unfolding has_seen
seen looked who = has_seen looked who

unfoldable pub hiding : List Node → HartState → HartState → Bool
unfolding so_of stays_so source_moves atom_keeps hides
hiding nodes before after = hides nodes before after
