use Rattle.std.proofs.Common.{arith, ap, ◌∙◌}
use Rattle.explanations.specs.Pieces.{lead_text}
use Rattle.explanations.proofs.PieceLemmas.{operand_ascii, before_number}
use Rattle.explanations.proofs.pieces.OperandInteger.write.Goals as goal

pub returns-in-Space-clause-written : goal.returns-in-Space-clause-written
returns-in-Space-clause-written c =
    before_number c.args.self.lead c.args.self.register _ c.write_digits-start.result c.put_before.result _ c.args.buf.now c.write_digits-start.new.buf c.put_before.new.buf
    (ap lead_text c.in-Space.is)
    (c.from.ensures ∙ c.number.ensures.value) c.told-buf c.write_digits-start.ensures.written c.put_before.ensures.written

pub returns-in-Space-clause-ascii : goal.returns-in-Space-clause-ascii
returns-in-Space-clause-ascii c = operand_ascii c.args.self.lead c.args.self.register (omega arith)

pub returns-in-Comma-clause-written : goal.returns-in-Comma-clause-written
returns-in-Comma-clause-written c =
    before_number c.args.self.lead c.args.self.register _ c.write_digits-start.result c.put_before-in-Comma.result _ c.args.buf.now c.write_digits-start.new.buf c.put_before-in-Comma.new.buf
    (ap lead_text c.in-Comma.is)
    (c.from.ensures ∙ c.number.ensures.value) c.told-buf c.write_digits-start.ensures.written c.put_before-in-Comma.ensures.written

pub returns-in-Comma-clause-ascii : goal.returns-in-Comma-clause-ascii
returns-in-Comma-clause-ascii c = operand_ascii c.args.self.lead c.args.self.register (omega arith)

pub returns-in-Bracket-clause-written : goal.returns-in-Bracket-clause-written
returns-in-Bracket-clause-written c =
    before_number c.args.self.lead c.args.self.register _ c.write_digits-start.result c.put_before-in-Bracket.result _ c.args.buf.now c.write_digits-start.new.buf c.put_before-in-Bracket.new.buf
    (ap lead_text c.in-Bracket.is)
    (c.from.ensures ∙ c.number.ensures.value) c.told-buf c.write_digits-start.ensures.written c.put_before-in-Bracket.ensures.written

pub returns-in-Bracket-clause-ascii : goal.returns-in-Bracket-clause-ascii
returns-in-Bracket-clause-ascii c = operand_ascii c.args.self.lead c.args.self.register (omega arith)
