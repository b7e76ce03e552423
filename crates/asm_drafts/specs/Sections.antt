-- Sections.
use Rattle.std.specs.Prelude.{ℕ, List, Option, Result}
use Rattle.asm_tokens.specs.declared.fault.AsmFault.{AsmFault}
use Rattle.asm_tokens.specs.Tokens.{TokenParts}
use Rattle.asm_names.specs.declared.sections.SectionKind.{SectionKind}
use Rattle.asm_chunks.specs.Sections.{entered}
use Rattle.asm_drafts.specs.declared.sections.Entry.{Entry}
use Rattle.asm_drafts.specs.Drafts.{DraftParts, after_chunks}

-- the file goes on in a section, or this has another kind in this file
unfoldable pub entered_at : List TokenParts → ℕ → Entry → Option SectionKind → DraftParts
    → Result DraftParts AsmFault
entered_at tokens at entry flags parts =
    after_chunks tokens at parts (entered parts.chunks entry.section flags entry.named)
