-- the race is that of the image that was handed in
use Rattle.harts.proofs.races.run_harts.Goals as goal

pub returns-clause-image : goal.returns-clause-image
returns-clause-image g c = c.boot_and_race.ensures.image

pub returns-clause-reports : goal.returns-clause-reports
returns-clause-reports g c = c.boot_and_race.ensures.reports
