-- A fetch that passed its check found PCC at an instruction, so its number is in the program.
use Rattle.std.proofs.Common.{length, refl, sym, arith}
use Rattle.cap_model.specs.results.Addresses.{address_of}
use Rattle.cheri_model.proofs.Runs.Fetches.{fetched_is, from_code}
use Rattle.hart_step.proofs.checks.fetch.fetch.Goals as goal

pub overflow_sub-number : goal.overflow_sub-number
overflow_sub-number c =
    let count = length c.args.program.now in
    let place = from_code count (address_of c.args.pcc) (fetched_is c.args.pcc count (sym c.in_ok-fetch_check.ensures)).placed in
    omega (arith, place, c.addr.ensures.integer)

pub instruction-requires : goal.instruction-requires
instruction-requires c =
    let count = length c.args.program.now in
    let place = from_code count (address_of c.args.pcc) (fetched_is c.args.pcc count (sym c.in_ok-fetch_check.ensures)).placed in
    omega (arith, place, c.addr.ensures.integer)

pub returns-clause-open : goal.returns-clause-open
returns-clause-open c =
    let is = fetched_is c.args.pcc (length c.args.program.now) (sym c.in_ok-fetch_check.ensures) in
    rw (is.tagged, is.unsealed) refl

pub returns-clause-within : goal.returns-clause-within
returns-clause-within c = (fetched_is c.args.pcc (length c.args.program.now) (sym c.in_ok-fetch_check.ensures)).within
