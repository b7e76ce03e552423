-- a token that is refused is asked for again, and until then the queue stays as it was
use Rattle.std.proofs.Common.{◌≡◌, drop}
use Rattle.shared_machine.specs.declared.watching.shown.Ticket.TheVariants.{Tell}
use Rattle.shared_machine.proofs.watching.copies.tell.Given as goal

abbrev pub invariant-loop : goal.invariant-loop
invariant-loop g l = record {
  ticket : l.ticket ≡ Tell l.fn.token;
  desk : l.copies.desk ≡ l.initial.copies.desk;
  pending : drop l.copies.behind l.copies.log.items ≡ drop l.initial.copies.behind l.initial.copies.log.items;
}
