-- A view shows what the core took.
use Rattle.simulation.proofs.simulation.ReportRunText.write.Goals as goal

pub returns-clause-whole : goal.returns-clause-whole
returns-clause-whole g c = rw (c.view.ensures.image, c.view.ensures.entries, c.view.ensures.state) at c.write_report.ensures.whole

pub returns-clause-prefix : goal.returns-clause-prefix
returns-clause-prefix g c = rw (c.view.ensures.image, c.view.ensures.entries, c.view.ensures.state) at c.write_report.ensures.prefix
