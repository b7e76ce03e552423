use Rattle.std.proofs.Common.{◌+◌, ◌*◌, ap}
use Rattle.cheri_model.specs.declared.memory.TheConstants.{RAM_BASE}
use Rattle.sample_steps.proofs.StoreLemmas.{put_at}
use Rattle.sample_steps.proofs.writes.put_granule.Goals as goal

pub returns : goal.returns
returns c =
    put_at _ _ _ c.args.granule _ c.store_cap.ensures
    (ap (λ n. RAM_BASE + n * c.args.granule) c.from.ensures)
