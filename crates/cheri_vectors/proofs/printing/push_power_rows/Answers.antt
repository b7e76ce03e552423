use Rattle.cheri_vectors.specs.Ranges.{power_row}
use Rattle.cheri_vectors.proofs.RowLemmas.{rows_none, text_more}
use Rattle.cheri_vectors.proofs.printing.push_power_rows.Goals as goal

pub loop-n-init : goal.loop-n-init
loop-n-init c = rows_none power_row _

pub loop-n-preserved : goal.loop-n-preserved
loop-n-preserved c = text_more power_row c.loop-n.n _ _ _ c.loop-n.invariant c.in_ok-push_power_row.ensures
