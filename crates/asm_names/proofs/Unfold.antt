-- Names for `unfolding(..)` that open what their own line names.
use Rattle.std.specs.Prelude.{ℕ, Bool, List, Option}
use Rattle.asm_names.specs.declared.registers.RegisterName.{RegisterName}
use Rattle.asm_names.specs.declared.sections.SectionKind.{SectionKind}
use Rattle.asm_names.specs.Registers.{numbered, table_named, integer_named, capability_named}
use Rattle.asm_names.specs.Registers.{register_named}
use Rattle.asm_names.specs.Sections.{is_under, section_kind, is_refused_section}
use Rattle.asm_names.specs.Outside.{is_atomic, is_outside, is_fence_set}

unfoldable pub registers : List ℕ → Option RegisterName
unfolding numbered table_named integer_named capability_named register_named
registers name = register_named name

unfoldable pub sections : List ℕ → SectionKind
unfolding is_under section_kind is_refused_section
sections name = section_kind name

unfoldable pub outside : List ℕ → Bool
unfolding is_atomic is_outside is_fence_set
outside name = is_outside name
