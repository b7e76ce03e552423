-- Names for `unfolding(..)` that open what their own line names.
use Rattle.std.specs.Prelude.{ℕ, List}
use Rattle.cheri_model.specs.runs.Image.{ImageParts}
use Rattle.canonical.specs.Canon.{perms_text, type_text, cap_text, granule_line, setting_text}
use Rattle.canonical.specs.Canon.{register_line, hart_lines, program_line}
use Rattle.canonical.specs.Canon as definitions

unfoldable pub canon : ImageParts → List ℕ
unfolding perms_text type_text cap_text granule_line setting_text register_line hart_lines program_line definitions.canon
canon image = definitions.canon image
