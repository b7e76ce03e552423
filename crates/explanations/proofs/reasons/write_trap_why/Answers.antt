-- Each reason is said by one call.
use Rattle.explanations.specs.Reasons.{trap_why_text}
use Rattle.explanations.proofs.reasons.write_trap_why.Goals as goal

pub returns-in-Sealed : goal.returns-in-Sealed
unfolding trap_why_text
returns-in-Sealed c = rw c.in-Sealed.is c.write_sealed.ensures

pub returns-in-Lacks : goal.returns-in-Lacks
unfolding trap_why_text
returns-in-Lacks c = rw c.in-Lacks.is c.write_lacks.ensures

pub returns-in-Outside : goal.returns-in-Outside
unfolding trap_why_text
returns-in-Outside c = rw c.in-Outside.is c.write_outside.ensures

pub returns-in-Misaligned : goal.returns-in-Misaligned
unfolding trap_why_text
returns-in-Misaligned c = rw c.in-Misaligned.is c.write_misaligned.ensures

pub returns-in-NotInRam : goal.returns-in-NotInRam
unfolding trap_why_text
returns-in-NotInRam c = rw c.in-NotInRam.is c.write_not_in_ram.ensures

pub returns-in-NoInstruction : goal.returns-in-NoInstruction
unfolding trap_why_text
returns-in-NoInstruction c = rw c.in-NoInstruction.is c.write_address.ensures

pub returns-in-TypesDiffer : goal.returns-in-TypesDiffer
unfolding trap_why_text
returns-in-TypesDiffer c = rw c.in-TypesDiffer.is c.write_types_differ.ensures

pub returns-in-Untagged : goal.returns-in-Untagged
unfolding trap_why_text
returns-in-Untagged c = rw c.in-Untagged.is c.write_of.ensures

pub returns-in-NotInvocable : goal.returns-in-NotInvocable
unfolding trap_why_text
returns-in-NotInvocable c = rw c.in-NotInvocable.is c.write_of-in-NotInvocable.ensures

pub returns-in-HasExecute : goal.returns-in-HasExecute
unfolding trap_why_text
returns-in-HasExecute c = rw c.in-HasExecute.is c.write_of-in-HasExecute.ensures

pub returns-in-LacksStoreCap : goal.returns-in-LacksStoreCap
unfolding trap_why_text
returns-in-LacksStoreCap c = rw c.in-LacksStoreCap.is c.write_pair.ensures

pub returns-in-LacksStoreLocal : goal.returns-in-LacksStoreLocal
unfolding trap_why_text
returns-in-LacksStoreLocal c = rw c.in-LacksStoreLocal.is c.write_pair-in-LacksStoreLocal.ensures
