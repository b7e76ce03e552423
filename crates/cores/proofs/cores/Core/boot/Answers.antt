-- What was opened is the image's opening state, and a core begins with it.
use Rattle.std.proofs.Common.{◌≡◌, true, arith}
use Rattle.std.proofs.lemmas.Grind.{common_steps}
use Rattle.std.proofs.lemmas.Bool.Decides.{nat_tests}
use Rattle.cores.specs.Cores.{is_limit}
use Rattle.cores.proofs.CoreLemmas.{state_opened, booted}
use Rattle.cores.proofs.cores.Core.boot.Goals as goal

pub invariant_of-result : goal.invariant_of-result
invariant_of-result c =
    let harts = rw c.harts.ensures at c.in_ok-harts.ensures.same in
    let range = c.if-not-contains.false in
    let limited : is_limit c.args.limit ≡ true = grind (arith, common_steps, nat_tests) in (
      rw c.in_ok-trace.ensures.items (booted c.args.image c.args.limit c.in_ok-harts.harts.items c.in_ok-ram.ram harts c.in_ok-ram.ensures.same c.in_ok-harts.ensures.lawful c.in_ok-ram.ensures.memory limited),
      omega (arith, c.in_ok-trace.ensures.exact),
    )

pub returns-clause-opened : goal.returns-clause-opened
returns-clause-opened c =
    let harts = rw c.harts.ensures at c.in_ok-harts.ensures.same in
    let opened = state_opened c.args.image c.in_ok-harts.harts.items c.in_ok-ram.ram harts c.in_ok-ram.ensures.same in
    λ i. record { image = c.args.image; limit = c.args.limit; trace = c.in_ok-trace.ensures.items i; state = opened i }

pub returns-clause-core : goal.returns-clause-core
returns-clause-core c =
    let harts = rw c.harts.ensures at c.in_ok-harts.ensures.same in
    let range = c.if-not-contains.false in
    let limited : is_limit c.args.limit ≡ true = grind (arith, common_steps, nat_tests) in
    rw c.in_ok-trace.ensures.items (booted c.args.image c.args.limit c.in_ok-harts.harts.items c.in_ok-ram.ram harts c.in_ok-ram.ensures.same c.in_ok-harts.ensures.lawful c.in_ok-ram.ensures.memory limited)
