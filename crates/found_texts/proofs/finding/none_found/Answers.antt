use Rattle.found_texts.proofs.finding.none_found.Goals as goal

pub returns-clause-says : goal.returns-clause-says
returns-clause-says c =
    rw (c.is_complete-complete.ensures.complete, c.image.ensures, c.len.ensures.count) at c.absent_told.ensures.says

pub returns-clause-complete : goal.returns-clause-complete
returns-clause-complete c = rw c.is_complete-complete.ensures.complete at c.absent_told.ensures.complete
