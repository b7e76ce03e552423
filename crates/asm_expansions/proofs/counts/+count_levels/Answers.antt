use Rattle.std.proofs.Common.{◌≡◌, false, arith}
use Rattle.asm_expansions.specs.Constants.{is_word}
use Rattle.asm_expansions.proofs.Levels.{constant_length}
use Rattle.asm_expansions.proofs.counts.+count_levels.Goals as goal

pub returns-clause-count : goal.returns-clause-count
returns-clause-count t c =
    let long : is_word c.args.bits ≡ false = cc in
    let whole = constant_length c.args.levels c.args.rd c.args.bits c.if-levels-eq0.false long in
    let first = rw c.upper_rest.ensures at c.count_levels.ensures.count in
    let second = c.placed_count.ensures.count c.args.rd in
    omega arith
