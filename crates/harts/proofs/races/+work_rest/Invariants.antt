-- one share fewer is left for each worker
use Rattle.std.specs.Prelude.{vec_len}
use Rattle.harts.proofs.races.+work_rest.Given as goal

abbrev pub decreases-work_rest : goal.decreases-work_rest
decreases-work_rest g l = vec_len l.shares
