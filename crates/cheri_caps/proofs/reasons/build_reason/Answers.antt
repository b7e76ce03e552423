-- A line on what the word says is the whole table's first.
use Rattle.std.proofs.Common.{sym, ◌∙◌}
use Rattle.cheri_caps.proofs.BuildLines.{contents_first}
use Rattle.cheri_caps.proofs.reasons.build_reason.Goals as goal

pub returns-in-Some : goal.returns-in-Some
returns-in-Some c = contents_first c.args.v c.args.w c.in-Some.reason (sym c.contents_reason.ensures ∙ c.in-Some.is)
