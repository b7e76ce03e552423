use Rattle.std.proofs.Common.{false, refl, ℕ, List}
use Rattle.program_io.proofs.EndingLemmas.{all_fail, all_whole}
use Rattle.condition_texts.specs.Conditions.{condition_of}
use Rattle.conditions.specs.declared.parts.Node.{Node}
use Rattle.found_texts.specs.Reduced.{IsStateAnswer}
use Rattle.grammar.specs.LabelMap.{label_parts}
use Rattle.listing_maps.specs.Names.{named}
use Rattle.shown_states.specs.declared.form.Ending.{Ending}
use Rattle.states.specs.Searches.{search_of}
use Rattle.explore_program.specs.Faults.{own_failure}
use Rattle.explore_program.specs.Listings.{listed_of}
use Rattle.explore_program.specs.Questions.{IsExplained, IsFindSaid, IsSaid}
use Rattle.explore_program.proofs.QuestionLemmas.{condition_fails, condition_fault, said_of}
use Rattle.explore_program.proofs.answers.answer_find.Goals as goal

pub returns-in-Err-clause-failed : goal.returns-in-Err-clause-failed
returns-in-Err-clause-failed g c =
    let search = search_of c.args.asking.search in
    rw c.text_fault.ensures
    (condition_fails (λ atoms. IsExplained c.args.asking.explained (listed_of c.args.asking.listed) search.image (IsStateAnswer c.args.asking.keeps search atoms c.args.asking.format)) (condition_of (named (label_parts c.args.asking.labels.now) (listed_of c.args.asking.listed).sources) search.image c.args.condition.now) c.in-Err.refused _ _ c.in-Err.ensures refl)

pub returns-clause-printed : goal.returns-clause-printed
returns-clause-printed g c =
    let search = search_of c.args.asking.search in
    let answers : List Node → List ℕ → Ending → Type 0 = λ atoms. IsExplained c.args.asking.explained (listed_of c.args.asking.listed) search.image (IsStateAnswer c.args.asking.keeps search atoms c.args.asking.format) in
    all_whole (λ ending. ending) own_failure false (IsSaid (answers c.in-Ok.condition)) (IsFindSaid (label_parts c.args.asking.labels.now) (listed_of c.args.asking.listed) search c.args.asking.format c.args.asking.explained c.args.asking.keeps c.args.condition.now)
    (said_of condition_fault answers (condition_of (named (label_parts c.args.asking.labels.now) (listed_of c.args.asking.listed).sources) search.image c.args.condition.now) c.in-Ok.condition c.in-Ok.ensures) _ _ c.ask.result c.ask.ensures.printed

pub returns-clause-failed : goal.returns-clause-failed
returns-clause-failed g c =
    let search = search_of c.args.asking.search in
    let answers : List Node → List ℕ → Ending → Type 0 = λ atoms. IsExplained c.args.asking.explained (listed_of c.args.asking.listed) search.image (IsStateAnswer c.args.asking.keeps search atoms c.args.asking.format) in
    all_fail (λ ending. ending) own_failure false (IsSaid (answers c.in-Ok.condition)) (IsFindSaid (label_parts c.args.asking.labels.now) (listed_of c.args.asking.listed) search c.args.asking.format c.args.asking.explained c.args.asking.keeps c.args.condition.now)
    (said_of condition_fault answers (condition_of (named (label_parts c.args.asking.labels.now) (listed_of c.args.asking.listed).sources) search.image c.args.condition.now) c.in-Ok.condition c.in-Ok.ensures) _ _ c.ask.result c.ask.ensures.failed
