use Rattle.std.proofs.Common.{refl, inl, inr}
use Rattle.explore_program.proofs.progress.TerminalProgressProgress.report.Goals as goal

pub returns-in-None : goal.returns-in-None
returns-in-None g c = inl (refl, refl)

pub returns-in-Some : goal.returns-in-Some
returns-in-Some g c =
    inr (record {
      time = c.in-Some.now;
      due = c.in-Some.ensures;
      now_is = refl;
      told = c.write_line.ensures.prefix;
    })
