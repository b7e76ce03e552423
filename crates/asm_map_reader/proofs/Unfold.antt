-- Names for `unfolding(..)` that open what their own line names.
use Rattle.std.specs.Prelude.{ℕ, List, Option}
use Rattle.asm_map_reader.specs.Words.{number_64, plain_number, address_of, text_of, symbol_of}
use Rattle.asm_map_reader.specs.Lines.{LineParts, label_of, entry_of, stack_of, file_line}
use Rattle.asm_map_reader.specs.Lines.{statement_line, code_line, data_line, table_line, hart_line}
use Rattle.asm_map_reader.specs.Lines.{line_of}
use Rattle.asm_map_reader.specs.declared.draft.Counts.{Counts}
use Rattle.asm_map_reader.specs.Reading.{DraftParts, empty_draft, file_name, with_file, with_source, with_statement}
use Rattle.asm_map_reader.specs.Reading.{with_symbol, with_entry, with_hart, with_line, with_end, with_body}
use Rattle.asm_map_reader.specs.Reading.{with_head, with_rest, with_text}
use Rattle.asm_tokens.specs.Bytes.{is_name_start, is_name_byte}

unfoldable pub words : List ℕ → Option ℕ
unfolding number_64 plain_number address_of text_of symbol_of is_name_start is_name_byte
words text = plain_number text

unfoldable pub lines : List ℕ → Option LineParts
unfolding label_of entry_of stack_of file_line statement_line code_line data_line table_line hart_line line_of
lines text = line_of text

unfoldable pub drafts : Counts → List ℕ → Option DraftParts
unfolding file_name with_file with_source with_statement with_symbol with_entry with_hart with_line with_end with_body with_head with_rest with_text
drafts counts text = with_text counts empty_draft text
