-- what is seen of the tokens that are left, after those so far
use Rattle.std.proofs.Common.{◌≡◌, ◌≤◌, ◌-◌, drop, length}
use Rattle.asm_statements.specs.Choosing.{Counts, seen_from, survey_of}
use Rattle.asm_statements.specs.Marks.{source}
use Rattle.asm_statements.proofs.reader.Reader.survey.Given as goal

abbrev pub invariant-loop-survey : goal.invariant-loop-survey
invariant-loop-survey l = record {
  seen : seen_from l.survey (drop l.survey.at (source l.self)) ≡ survey_of (source l.self) l.at;
  counts : Counts l.survey;
  room : l.survey.at ≤ length l.self.tokens.now;
}

abbrev pub decreases-loop-survey : goal.decreases-loop-survey
decreases-loop-survey l = length l.self.tokens.now - l.survey.at
