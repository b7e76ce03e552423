-- Names for `unfolding(..)` that open what their own line names.
use Rattle.std.specs.Prelude.{ℕ}
use Rattle.asm_drafts.specs.Drafts.{DraftParts}
use Rattle.asm_files.specs.declared.stand.Stand.{Stand}
use Rattle.asm_files.specs.Stands.{opening_of, closing_of, statement_stood}
use Rattle.asm_files.specs.Sections.{named_section, names_in, with_section, opening_sections}
use Rattle.asm_files.specs.Sections.{numbered, entry_named, entry_of}
use Rattle.asm_files.specs.Requests.{request_text, request_words, place_of, fault_of, hart_put}
use Rattle.asm_files.specs.Requests.{ram_put, request_put, token_put, file_requests}
use Rattle.asm_files.specs.Programs.{tokens_in, statement_at, stand_in, locals_in}
use Rattle.asm_files.specs.Files.{length_judged, lengths_judged, file_read, files_of, all_requests, all_names}
use Rattle.asm_files.specs.Files.{statement_step, statements_put, file_begun, file_ended}
use Rattle.asm_files.specs.Files.{file_put, made_of, program_of}

unfoldable pub stands : DraftParts → ℕ → Stand
unfolding opening_of closing_of statement_stood
stands parts value = opening_of parts value

unfoldable pub sections : DraftParts → ℕ → Stand
unfolding named_section names_in with_section opening_sections numbered entry_named entry_of
sections parts value = opening_of parts value

unfoldable pub requests : DraftParts → ℕ → Stand
unfolding request_text request_words place_of fault_of hart_put ram_put request_put token_put file_requests all_requests
requests parts value = opening_of parts value

unfoldable pub programs : DraftParts → ℕ → Stand
unfolding tokens_in statement_at stand_in locals_in
programs parts value = opening_of parts value

unfoldable pub texts : DraftParts → ℕ → Stand
unfolding length_judged file_read files_of lengths_judged all_names
texts parts value = opening_of parts value

unfoldable pub files : DraftParts → ℕ → Stand
unfolding statement_step statements_put file_begun file_ended file_put made_of program_of
files parts value = opening_of parts value
