-- there is ever less to look through
use Rattle.asm_chains.specs.Orders.{work_of}
use Rattle.asm_chains.proofs.order.Order.finish.Given as goal

abbrev pub decreases-loop-frame : goal.decreases-loop-frame
decreases-loop-frame g l = work_of l.self
