-- Names for `unfolding(..)` that open what their own line names.
use Rattle.std.specs.Prelude.{ℕ, Option}
use Rattle.asm_files.specs.Programs.{own_in}
use Rattle.asm_expressions.specs.declared.node.Node.{Node}
use Rattle.std.specs.Prelude.{List}
use Rattle.asm_tables.specs.Names.{named, nodes_in, name_alone, named_by, alias_of, behind}
use Rattle.asm_tables.specs.Entries.{entry_symbol, asks_entry, asks_in, is_code, entry_asked}
use Rattle.asm_tables.specs.Tables.{entered, statements_entered, count_in, files_entered, table_of}

unfoldable pub names : List Node → Option ℕ
unfolding own_in named nodes_in name_alone named_by alias_of
names nodes = name_alone nodes

unfoldable pub entries : List Node → Option ℕ
unfolding entry_symbol asks_entry asks_in is_code entry_asked
entries nodes = name_alone nodes

unfoldable pub tables : List Node → Option ℕ
unfolding entered statements_entered count_in files_entered table_of
tables nodes = name_alone nodes
