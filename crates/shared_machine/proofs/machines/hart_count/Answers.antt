-- An image has at most eight harts.
use Rattle.std.proofs.Common.{◌≤◌, length, arith}
use Rattle.cores.proofs.CoreLemmas.{image_hart_limit}
use Rattle.shared_machine.proofs.machines.hart_count.Goals as goal

pub overflow_cast-result : goal.overflow_cast-result
overflow_cast-result c =
    let room : length c.harts.result.now ≤ 8 = rw c.harts.ensures (image_hart_limit c.args.image.now c.granules-granules.ensures.formed) in
    omega arith

pub returns-clause-room : goal.returns-clause-room
returns-clause-room c = rw c.harts.ensures (image_hart_limit c.args.image.now c.granules-granules.ensures.formed)
