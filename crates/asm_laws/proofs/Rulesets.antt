-- Short names for `using(..)`.
use Rattle.asm_laws.proofs.Machines.{machines}
use Rattle.asm_laws.proofs.Constants.{constants}
use Rattle.asm_laws.proofs.Pseudo.{pseudo}
use Rattle.asm_laws.proofs.Calls.{calls}

pub ruleset laws = (machines, constants, pseudo, calls)
