-- Names for `unfolding(..)` that open what their own line names.
use Rattle.std.specs.Prelude.{ℕ}
use Rattle.asm_chains.specs.declared.scene.Setting.{Setting}
use Rattle.asm_files.specs.Programs.{ProgramParts, own_in, statement_at}
use Rattle.asm_tables.specs.Entries.{is_code}
use Rattle.asm_tables.specs.Tables.{count_in}
use Rattle.asm_links.specs.Sections.{kind_of}
use Rattle.asm_late.specs.Scene.{leaf_of, setting_of, symbol_of, scene_of}
use Rattle.asm_late.specs.Values.{token_fault, operand_fault}
use Rattle.asm_late.specs.Lengths.{known_operand, length_of}
use Rattle.asm_late.specs.Reach.{use_of, leaves_code, reach_of}
use Rattle.asm_late.specs.Linked.{linked_with, linked_of}
use Rattle.asm_late.specs.Late.{places_of, objects_of, scene_in, symbol_named_in, fault_of}
use Rattle.asm_late.specs.Late.{operand_value, symbol_value, entry_of, set_judged, size_judged}

unfoldable pub scenes : ProgramParts → ℕ → ℕ → Setting
unfolding leaf_of setting_of symbol_of scene_of
scenes program file statement = setting_of program file statement

unfoldable pub values : ProgramParts → ℕ → ℕ → Setting
unfolding token_fault operand_fault
values program file statement = setting_of program file statement

unfoldable pub lengths : ProgramParts → ℕ → ℕ → Setting
unfolding known_operand length_of
lengths program file statement = setting_of program file statement

unfoldable pub uses : ProgramParts → ℕ → ℕ → Setting
unfolding use_of is_code kind_of
uses program file statement = setting_of program file statement

unfoldable pub reaches : ProgramParts → ℕ → ℕ → Setting
unfolding leaves_code reach_of count_in kind_of
reaches program file statement = setting_of program file statement

unfoldable pub linked : ProgramParts → ℕ → ℕ → Setting
unfolding linked_with linked_of
linked program file statement = setting_of program file statement

unfoldable pub late : ProgramParts → ℕ → ℕ → Setting
unfolding places_of objects_of scene_in symbol_named_in fault_of operand_value symbol_value entry_of
late program file statement = setting_of program file statement

unfoldable pub judged : ProgramParts → ℕ → ℕ → Setting
unfolding set_judged size_judged own_in
judged program file statement = setting_of program file statement
