use Rattle.std.proofs.Common.{◌≡◌, ◌/◌, ◌≤◌, length, set, refl, ap, ◌∙◌, rules, arith}
use Rattle.std.proofs.lemmas.Grind.{common_steps}
use Rattle.std.specs.Prelude.{None}
use Rattle.cheri_model.specs.steps.Memory.{granule_number}
use Rattle.sample_steps.proofs.StoreLemmas.{stays_at, one_at, stays_past}
use Rattle.sample_steps.proofs.writes.store_place.Goals as goal

pub returns-in-None-clause-stays : goal.returns-in-None-clause-stays
returns-in-None-clause-stays c = λ memory size none.
    stays_at c.args.program.now c.args.hart.now memory None c.in-None.ensures refl

pub returns-then-number-granules-clause-one : goal.returns-then-number-granules-clause-one
returns-then-number-granules-clause-one c = λ memory size.
    let one = one_at c.args.program.now c.args.hart.now memory c.in-Some.addr c.in-Some.ensures in
    let e : granule_number c.in-Some.addr ≡ c.saturating_sub.result / c.from.result =
    first_of (search rules, grind (arith, common_steps)) in
    (one.0, one.1 ∙ ap (λ k. set memory k one.0) e)

pub returns-else-number-granules-clause-stays : goal.returns-else-number-granules-clause-stays
returns-else-number-granules-clause-stays c = λ memory size none.
    let e : granule_number c.in-Some.addr ≡ c.saturating_sub.result / c.from.result =
    first_of (search rules, grind (arith, common_steps)) in
    let past : length memory ≤ granule_number c.in-Some.addr = omega arith in
    stays_past c.args.program.now c.args.hart.now memory c.in-Some.addr c.in-Some.ensures past
