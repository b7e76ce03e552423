use Rattle.std.specs.Fmt.{with_newline}
use Rattle.std.proofs.lemmas.Fmt.{contents_after_writes}
use Rattle.std.proofs.lemmas.Option.{IfSome_then}
use Rattle.printing.proofs.LineLemmas.{line_written}
use Rattle.printing.proofs.line.line_of.Goals as goal

pub returns-in-Ok : goal.returns-in-Ok
returns-in-Ok g c =
    line_written (g.D.Display.output c.args.value) _
    (IfSome_then (with_newline (g.D.Display.output c.args.value)) c.in-Ok.ensures.writes
    (λ text written. rw c.new-text.ensures at (contents_after_writes _ (λ t. t.bytes) (λ w bs v wrote. wrote) _ _ _ written)))
