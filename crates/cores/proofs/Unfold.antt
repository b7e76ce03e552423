-- Names for `unfolding(..)` that open what their own line names.
use Rattle.std.specs.Prelude.{ℕ}
use Rattle.cores.specs.Cores.{refused}
use Rattle.cheri_model.specs.runs.Machine.{hart_at}

unfoldable pub cores : ℕ
unfolding refused hart_at
cores = 0
