use Rattle.std.proofs.Common.{refl}
use Rattle.found_texts.proofs.FindLemmas.{nowhere_complete}
use Rattle.found_texts.proofs.finding.absent_told.Goals as goal

pub returns-clause-says : goal.returns-clause-says
returns-clause-says c = (rw c.new.ensures.items refl, c.in_ok-text.ensures, c.absent_ending-ending.ensures)

pub returns-clause-complete : goal.returns-clause-complete
returns-clause-complete c is = nowhere_complete c.args.complete _ c.absent_ending-ending.ensures is
