use Rattle.std.proofs.Common.{◌≡◌, ℕ, true, arith, rules, below_more}
use Rattle.graph_loops.specs.Scans.{IsStarved}
use Rattle.graph_loops.proofs.tables.all_starved.Goals as goal

pub loop-number-preserved : goal.loop-number-preserved
loop-number-preserved c =
    let starved : c.is_starved.result ≡ true = search rules in
    below_more (λ (n : ℕ). IsStarved c.args.moves.now c.args.runs.now c.args.actors n) c.loop-number.number
    c.loop-number.invariant (c.is_starved.ensures starved)

pub returns : goal.returns
returns c leading n low = c.loop-number.invariant n (omega arith)
