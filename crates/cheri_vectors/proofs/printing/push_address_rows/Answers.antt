use Rattle.cheri_vectors.specs.Addresses.{address_row}
use Rattle.cheri_vectors.proofs.RowLemmas.{rows_none, text_more}
use Rattle.cheri_vectors.proofs.printing.push_address_rows.Goals as goal

pub loop-n-init : goal.loop-n-init
loop-n-init c = rows_none address_row _

pub loop-n-preserved : goal.loop-n-preserved
loop-n-preserved c = text_more address_row c.loop-n.n _ _ _ c.loop-n.invariant c.in_ok-push_address_row.ensures
