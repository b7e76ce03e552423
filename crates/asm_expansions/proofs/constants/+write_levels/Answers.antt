use Rattle.std.proofs.Common.{◌≡◌, false}
use Rattle.asm_expansions.specs.Constants.{is_word}
use Rattle.asm_expansions.proofs.Levels.{step_written, prefix_more}
use Rattle.asm_expansions.proofs.constants.+write_levels.Goals as goal

pub returns-in_err-write_placed-clause-kept : goal.returns-in_err-write_placed-clause-kept
returns-in_err-write_placed-clause-kept t c = prefix_more _ _ _ c.write_levels.ensures.kept c.write_placed.ensures.kept

pub returns-clause-written : goal.returns-clause-written
returns-clause-written t c =
    let long : is_word c.args.bits ≡ false = cc in
    step_written c.args.levels c.args.rd c.args.bits _ _ _ c.if-levels-eq0.false long
    (rw c.upper_rest.ensures at c.in_ok-write_levels.ensures.written) c.in_ok-write_placed.ensures.written

pub returns-clause-kept : goal.returns-clause-kept
returns-clause-kept t c = prefix_more _ _ _ c.write_levels.ensures.kept c.write_placed.ensures.kept
