use Rattle.facts.proofs.names.load_reads.Goals as goal

pub returns-in-CJalr-clause-spots : goal.returns-in-CJalr-clause-spots
returns-in-CJalr-clause-spots c count = (tt, c.register.ensures.spot count)
