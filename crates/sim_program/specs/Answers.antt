-- The line that answers what a listing means.
use Rattle.std.specs.Prelude.{List, ℕ, codes, decimal, length}
use Rattle.cheri_model.specs.runs.Image.{ImageParts}
use Rattle.report_lines.specs.Texts.{line, ◌+++◌}

-- what an image has: harts, bytes of RAM, instructions
unfoldable pub check_line : ImageParts → List ℕ
check_line image =
    line (codes "ok harts=" +++ decimal (length image.harts) +++ codes " ram=" +++ decimal image.ram
    +++ codes " code=" +++ decimal (length image.program))
