use Rattle.std.proofs.Common.{refl, ap}
use Rattle.asm_statements.specs.Marks.{end_kind}
use Rattle.asm_statements.specs.Statements.{next_at}
use Rattle.asm_statements.proofs.LoopLemmas.{ends_here, ends_later, ends_past, not_end}
use Rattle.asm_statements.proofs.reading.next_at.Goals as goal

pub loop-next-init : goal.loop-next-init
unfolding next_at
loop-next-init c = refl

pub returns-in-End : goal.returns-in-End
returns-in-End c = record { is = ends_here c.args.tokens.now c.loop-next.next _ _ c.loop-next-test.true (ap end_kind c.in-End.is) c.loop-next.invariant }

pub loop-next-preserved : goal.loop-next-preserved
loop-next-preserved c = ends_later c.args.tokens.now c.loop-next.next _ _ c.loop-next-test.true (not_end _ c.in_default.not-End) c.loop-next.invariant

pub returns : goal.returns
returns c = record { is = ends_past c.args.tokens.now c.loop-next.next _ c.loop-next-test.false c.loop-next.invariant }
