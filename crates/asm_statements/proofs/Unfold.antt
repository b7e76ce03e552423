-- Names for `unfolding(..)` that open what their own line names.
use Rattle.std.specs.Prelude.{ℕ, Bool, List, Result}
use Rattle.asm_mnemonics.specs.declared.mnemonics.Mnemonic.{Mnemonic}
use Rattle.asm_expansions.specs.declared.operation.Operation.{Operation}
use Rattle.asm_tokens.specs.declared.fault.AsmFault.{AsmFault}
use Rattle.asm_tokens.specs.declared.token.TokenKind.{TokenKind}
use Rattle.asm_tokens.specs.Tokens.{TokenParts}
use Rattle.asm_expressions.specs.Tokens.{kind_at}
use Rattle.asm_statements.specs.declared.choosing.Survey.{Survey}
use Rattle.asm_statements.specs.declared.draft.Registers.{Registers}
use Rattle.asm_statements.specs.declared.flags.Flags.{Flags}
use Rattle.asm_statements.specs.declared.statement.Role.{Role}
use Rattle.asm_statements.specs.Drafts.{Step, registers_with, with_body, with_register, with_nodes, with_operand}
use Rattle.asm_statements.specs.Marks.{is_comma, is_open, is_close, is_percent, is_equals, is_colon}
use Rattle.asm_statements.specs.Marks.{is_at, is_name, is_string, is_number, is_end}
use Rattle.asm_statements.specs.Marks.{comma_at, equals_at, open_at, close_at, name_at, string_at}
use Rattle.asm_statements.specs.Marks.{end_at, is_register, register_at, relocation_at}
use Rattle.asm_statements.specs.Operands.{expression, operand, relocated, immediate, alone}
use Rattle.asm_statements.specs.Operands.{plain_register, base, has_base_alone, memory}
use Rattle.asm_statements.specs.Operands.{wanted_operand}
use Rattle.asm_statements.specs.Fences.{fence_set_at, two_sets, fence}
use Rattle.asm_statements.specs.Lists.{name_item, string_item, item, next_item, listed, one_more}
use Rattle.asm_statements.specs.Lists.{fill, after_number, padding}
use Rattle.asm_statements.specs.Operations.{through, link, load, operation_of}
use Rattle.asm_statements.specs.Choosing.{after_comma, after_open, after_close, after_other}
use Rattle.asm_statements.specs.Choosing.{after_token, operand_count, ending_of, ends_so, fits}
use Rattle.asm_statements.specs.Choosing.{form_of, meant_form}
use Rattle.asm_statements.specs.Instructions.{next_wanted, operands as operands_of, finished}
use Rattle.asm_statements.specs.Instructions.{known, unknown, named, instruction}
use Rattle.asm_statements.specs.SectionNames.{is_part, joins, section_name}
use Rattle.asm_statements.specs.Flags.{is_flag, with_letter, kind_of, is_nobits}
use Rattle.asm_statements.specs.Sections.{name_or_fault, section_name_at, flags_at, sign_at}
use Rattle.asm_statements.specs.Sections.{type_at, word_at, next_word, typed, type_after}
use Rattle.asm_statements.specs.Sections.{kind_by_flags, kind_after, section_read, section}
use Rattle.asm_statements.specs.Directives.{alone_body, body_of, padded, zeros, options_at}
use Rattle.asm_statements.specs.Directives.{new_name_at, set_value, set, size, comm}
use Rattle.asm_statements.specs.Directives.{known_directive, directive}
use Rattle.asm_statements.specs.Statements.{is_decimal, is_plain_name, is_label, assigned}
use Rattle.asm_statements.specs.Statements.{named_body, is_nothing, body, StatementParts, statement_of}

unfoldable pub drafts : Registers → ℕ → Registers
unfolding registers_with with_body with_register with_operand
drafts rs r = registers_with rs r

unfoldable pub marks : List TokenParts → ℕ → Bool
unfolding is_comma is_open is_close is_percent is_equals is_colon is_at is_name is_string is_number is_end kind_at
marks tokens at = is_comma tokens at

unfoldable pub wanted : List TokenParts → ℕ → Result ℕ AsmFault
unfolding comma_at equals_at open_at close_at name_at string_at end_at is_register register_at relocation_at
wanted tokens at = comma_at tokens at

unfoldable pub operands : List TokenParts → ℕ → Step ℕ
unfolding expression operand relocated immediate alone plain_register base has_base_alone memory fence_set_at two_sets fence wanted_operand with_nodes
operands tokens at = expression tokens at

unfoldable pub lists : List TokenParts → Role → ℕ → Step ℕ
unfolding name_item string_item item next_item listed one_more fill after_number padding
lists tokens role at = item tokens role at

unfoldable pub operations : Mnemonic → Registers → Operation
unfolding through link load operation_of
operations mnemonic rs = operation_of mnemonic rs

unfoldable pub choosing : Survey → Survey
unfolding after_comma after_open after_close after_other after_token operand_count ending_of ends_so fits form_of meant_form
choosing s = after_comma s

unfoldable pub instructions : List TokenParts → ℕ → Step (Unit {0})
unfolding next_wanted operands_of finished known unknown named instruction
instructions tokens at = instruction tokens at

unfoldable pub section_names : TokenKind → Bool
unfolding is_part joins section_name is_string kind_at
section_names kind = is_part kind

unfoldable pub flags : Flags → ℕ → Flags
unfolding is_flag with_letter kind_of is_nobits
flags before b = with_letter before b

unfoldable pub sections : List TokenParts → ℕ → Step (Unit {0})
unfolding name_or_fault section_name_at flags_at sign_at type_at word_at next_word typed type_after kind_by_flags kind_after section_read section
sections tokens at = section tokens at

unfoldable pub directives : List TokenParts → ℕ → Step (Unit {0})
unfolding alone_body body_of padded zeros options_at new_name_at set_value set size comm known_directive directive
directives tokens at = directive tokens at

unfoldable pub bodies : List TokenParts → ℕ → Step (Unit {0})
unfolding is_decimal is_plain_name is_label assigned named_body is_nothing body
bodies tokens at = body tokens at

unfoldable pub statements : List TokenParts → ℕ → StatementParts
unfolding statement_of
statements tokens first = statement_of tokens first
