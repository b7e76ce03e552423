use Rattle.std.specs.Prelude.{string_bytes}
use Rattle.sample_slices.proofs.LineLemmas.{other_line}
use Rattle.sample_slices.proofs.reading.written_again.Goals as goal

pub returns-else-branch : goal.returns-else-branch
returns-else-branch c =
    other_line c.args.listing.now c.args.slice c.args.line.now (string_bytes c.in_ok-text.text) c.in_ok-is_line.field-0
    c.in_ok-text.ensures c.in_ok-is_line.ensures c.if-branch.false
