use Rattle.std.proofs.Common.{rules, arith, suc, ◌≡◌, ◌<◌, ◌≤◌, ◌+◌, ◌++◌, ◌∷◌, [], None, Some, length, ap}
use Rattle.explore_sweeps.specs.declared.TheConstants.{MAX_SWEEPS}
use Rattle.explore_line.proofs.SweepLemmas.{all_done, none_so_far, not_one, one_more}
use Rattle.explore_line.proofs.sweeps.sweeps_written.Goals as goal

pub loop-arg-init : goal.loop-arg-init
loop-arg-init c = (rw c.new-sweeps.ensures.items (none_so_far c.args.args.now), ap length c.new-sweeps.ensures.items)

pub returns-in_err-sweep-clause-usage : goal.returns-in_err-sweep-clause-usage
returns-in_err-sweep-clause-usage c =
    let lt : c.loop-arg.arg-index < length c.args.args.now = search rules in
    let none : c.sweep_written.result ≡ None = search rules in
    λ usage. not_one c.args.args.now c.loop-arg.arg-index _ c.sweep_written.result c.loop-arg.sweeps.items lt c.sweep_written.ensures none c.loop-arg.invariant.0

pub loop-arg-preserved : goal.loop-arg-preserved
loop-arg-preserved c =
    let args = c.args.args.now in
    let place = c.loop-arg.arg-index in
    let sweep = c.in_ok-sweep.sweep in
    let lt : place < length args = search rules in
    let some : c.sweep_written.result ≡ Some sweep = search rules in
    let more : c.push.new.self.items ≡ c.loop-arg.sweeps.items ++ sweep ∷ [] = search rules in
    let so_far = one_more args place _ c.sweep_written.result sweep c.loop-arg.sweeps.items lt c.sweep_written.ensures some c.loop-arg.invariant.0 in
    let count : length c.push.new.self.items ≡ place + 1 = search rules in
    let next : place + 1 ≡ suc place = omega arith in
    (rw (more, next) so_far, count)

pub returns-clause-sweeps : goal.returns-clause-sweeps
returns-clause-sweeps c =
    let few : length c.args.args.now ≤ MAX_SWEEPS = search rules in
    let past : length c.args.args.now ≤ c.loop-arg.arg-index = search rules in
    all_done c.args.args.now c.loop-arg.arg-index c.loop-arg.sweeps.items few past c.loop-arg.invariant.0
