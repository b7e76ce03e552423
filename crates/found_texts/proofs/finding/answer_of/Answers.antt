use Rattle.conditions.specs.Holding.{holds}
use Rattle.found_texts.proofs.FindLemmas.{done_somewhere, found_answers, none_answers, none_nowhere, passing_first}
use Rattle.found_texts.proofs.finding.answer_of.Goals as goal

pub led_to-requires : goal.led_to-requires
led_to-requires c =
    let first = passing_first c.args.found.now.kept (λ s. holds s c.args.condition.now) c.args.found.now.state c.in-Some.number
    c.requires.first c.in-Some.is in
    record {
      there = first.0;
      opening = c.requires.opening;
      image = c.requires.kept_of.image_is;
      sweeps = c.requires.kept_of.sweeps_are;
      passing = first.1;
    }

pub returns-in_ok-led-in-Some-clause-says : goal.returns-in_ok-led-in-Some-clause-says
returns-in_ok-led-in-Some-clause-says c =
    found_answers c.args.search.now.every_step c.args.condition.now c.args.format c.args.found.now.kept c.args.found.now.state
    c.in-Some.number _ _ _ c.found_told.result c.in-Some.is c.in_ok-led-in-Some.ensures c.image.ensures c.found_told.ensures.says
    c.found_told.ensures.done

pub returns-in_ok-led-in-Some-clause-nowhere : goal.returns-in_ok-led-in-Some-clause-nowhere
returns-in_ok-led-in-Some-clause-nowhere c = done_somewhere _ c.found_told.result c.found_told.ensures.done

pub returns-in-None-clause-says : goal.returns-in-None-clause-says
returns-in-None-clause-says c =
    none_answers c.args.search.now.every_step c.args.condition.now c.args.format c.args.found.now.kept c.args.found.now.state
    c.none_found.result c.in-None.is c.none_found.ensures.says

pub returns-in-None-clause-nowhere : goal.returns-in-None-clause-nowhere
returns-in-None-clause-nowhere c =
    none_nowhere c.args.found.now.kept c.args.found.now.state c.none_found.result c.in-None.is c.none_found.ensures.complete
