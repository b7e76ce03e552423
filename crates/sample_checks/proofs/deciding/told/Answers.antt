use Rattle.sample_checks.proofs.deciding.told.Goals as goal

pub told_with-requires : goal.told_with-requires
told_with-requires c = c.requires c.in-Some.seen c.in-Some.is
