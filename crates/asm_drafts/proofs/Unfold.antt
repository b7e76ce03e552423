-- Names for `unfolding(..)` that open what their own line names.
use Rattle.std.specs.Prelude.{Bool}
use Rattle.asm_layout.specs.declared.chunk.ChunkKind.{ChunkKind}
use Rattle.asm_drafts.specs.Drafts.{DraftParts, is_here, chunk_fault, grown_at}
use Rattle.asm_drafts.specs.Early.{early_symbol, early_local, early_named, early_value}
use Rattle.asm_drafts.specs.Operands.{operand_end, first_of, nodes_of, is_said, number_in}
use Rattle.asm_drafts.specs.Operands.{early_number, early_if_said}
use Rattle.asm_drafts.specs.Labels.{named, locally_labelled, labelled}
use Rattle.asm_drafts.specs.Sections.{entered_at}
use Rattle.asm_drafts.specs.Names.{unless_named, known, set_put, common_align, power_at}
use Rattle.asm_drafts.specs.Names.{common_align_of, common_added, common_put, want_put}
use Rattle.asm_drafts.specs.Kept.{kept_operand, known_number, kept_number}
use Rattle.asm_drafts.specs.Padding.{holds_code_or_zeros, fill_judged, exponent_unit, byte_unit}
use Rattle.asm_drafts.specs.Padding.{padded_at, padding_put, align_put, balign_put}
use Rattle.asm_drafts.specs.Bytes.{unless_code, data_put, capability_at, chericap_put, zeros_put}
use Rattle.asm_drafts.specs.Bytes.{is_nonzero, string_at, strings_put}
use Rattle.asm_drafts.specs.Code.{count_of, zero_judged, constant_of, instruction_put}
use Rattle.asm_drafts.specs.Statements.{refused_where_kept, section_put, went_back, body_put}
use Rattle.asm_drafts.specs.Statements.{statement_put}

unfoldable pub drafts : DraftParts → ChunkKind → Bool
unfolding is_here chunk_fault grown_at
drafts parts kind = is_here parts kind

unfoldable pub early : DraftParts → ChunkKind → Bool
unfolding early_symbol early_local early_named early_value
early parts kind = is_here parts kind

unfoldable pub operands : DraftParts → ChunkKind → Bool
unfolding operand_end first_of nodes_of is_said number_in early_number early_if_said
operands parts kind = is_here parts kind

unfoldable pub labels : DraftParts → ChunkKind → Bool
unfolding named locally_labelled labelled
labels parts kind = is_here parts kind

unfoldable pub sections : DraftParts → ChunkKind → Bool
unfolding entered_at chunk_fault
sections parts kind = is_here parts kind

unfoldable pub names : DraftParts → ChunkKind → Bool
unfolding unless_named known set_put common_align power_at common_align_of common_added common_put want_put
names parts kind = is_here parts kind

unfoldable pub kept : DraftParts → ChunkKind → Bool
unfolding kept_operand known_number kept_number
kept parts kind = is_here parts kind

unfoldable pub padding : DraftParts → ChunkKind → Bool
unfolding holds_code_or_zeros fill_judged exponent_unit byte_unit padded_at padding_put align_put balign_put chunk_fault
padding parts kind = is_here parts kind

unfoldable pub bytes : DraftParts → ChunkKind → Bool
unfolding unless_code data_put capability_at chericap_put zeros_put is_nonzero string_at strings_put
bytes parts kind = is_here parts kind

unfoldable pub code : DraftParts → ChunkKind → Bool
unfolding count_of zero_judged constant_of instruction_put
code parts kind = is_here parts kind

unfoldable pub statements : DraftParts → ChunkKind → Bool
unfolding refused_where_kept section_put went_back body_put statement_put
statements parts kind = is_here parts kind
