use Rattle.std.proofs.Common.{drop, ap, ◌∙◌, arith}
use Rattle.asm_statements.specs.declared.choosing.Survey.{Survey}
use Rattle.asm_statements.specs.Choosing.{seen_from, survey_of}
use Rattle.asm_statements.specs.Marks.{source, end_kind}
use Rattle.asm_statements.proofs.LoopLemmas.{at_after, not_end, seen_at_end, seen_next, seen_past}
use Rattle.asm_statements.proofs.reader.Reader.survey.Goals as goal

pub loop-survey-init : goal.loop-survey-init
unfolding survey_of
loop-survey-init c = record {
  seen = ap (λ (s : Survey). seen_from s (drop s.at (source c.args.self.now))) c.new-survey.ensures.is;
  counts = c.new-survey.ensures.counts;
  room = omega (arith, ap (λ (s : Survey). s.at) c.new-survey.ensures.is, c.requires);
}

pub returns-in-End-clause-is : goal.returns-in-End-clause-is
returns-in-End-clause-is c =
    seen_at_end c.loop-survey.survey c.args.self.now.tokens.now c.loop-survey.survey.at _ _ c.loop-survey-test.true (ap end_kind c.in-End.is) c.loop-survey.invariant.seen

pub loop-survey-preserved : goal.loop-survey-preserved
loop-survey-preserved c =
    let next = ap (λ (s : Survey). s.at) c.after_token-survey.ensures.is ∙ at_after _ _ c.loop-survey.survey in
    record {
      seen = seen_next c.loop-survey.survey c.after_token-survey.result c.args.self.now.tokens.now c.loop-survey.survey.at c.after_token-survey.result.at _ _ c.loop-survey-test.true
          (not_end _ c.in_default.not-End) c.after_token-survey.ensures.is next c.loop-survey.invariant.seen;
      counts = c.after_token-survey.ensures.counts;
      room = omega (arith, next, c.loop-survey-test.true);
    }

pub returns-clause-is : goal.returns-clause-is
returns-clause-is c = seen_past c.loop-survey.survey c.args.self.now.tokens.now c.loop-survey.survey.at _ c.loop-survey-test.false c.loop-survey.invariant.seen
