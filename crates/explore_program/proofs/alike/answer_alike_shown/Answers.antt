use Rattle.std.proofs.Common.{false, refl, ℕ, List}
use Rattle.program_io.proofs.EndingLemmas.{all_fail, all_whole}
use Rattle.conditions.specs.Items.{ItemList, list_of}
use Rattle.condition_texts.specs.Items.{items_of}
use Rattle.alike_outcomes.specs.AlikeOutcomes.{IsAlikeShown}
use Rattle.shown_states.specs.declared.form.Ending.{Ending}
use Rattle.states.specs.Searches.{search_of}
use Rattle.explore_program.specs.Faults.{own_failure}
use Rattle.explore_program.specs.Questions.{IsAlikeShownSaid, IsSaid}
use Rattle.explore_program.proofs.QuestionLemmas.{items_fail, place_fault, said_of}
use Rattle.explore_program.proofs.alike.answer_alike_shown.Goals as goal

pub returns-in-Err-clause-failed : goal.returns-in-Err-clause-failed
returns-in-Err-clause-failed g c =
    let search = search_of c.args.asking.search in
    rw c.text_fault.ensures
    (items_fail (λ list. IsAlikeShown c.args.asking.keeps search list c.args.asking.format) (items_of search.image c.args.items.now) c.in-Err.refused _ _ c.in-Err.ensures refl)

pub returns-clause-printed : goal.returns-clause-printed
returns-clause-printed g c =
    let search = search_of c.args.asking.search in
    let answers : ItemList → List ℕ → Ending → Type 0 = λ list. IsAlikeShown c.args.asking.keeps search list c.args.asking.format in
    all_whole (λ ending. ending) own_failure false (IsSaid (answers (list_of c.in-Ok.items))) (IsAlikeShownSaid search c.args.asking.format c.args.asking.keeps c.args.items.now)
    (said_of place_fault answers (items_of search.image c.args.items.now) (list_of c.in-Ok.items) c.in-Ok.ensures) _ _ c.ask.result c.ask.ensures.printed

pub returns-clause-failed : goal.returns-clause-failed
returns-clause-failed g c =
    let search = search_of c.args.asking.search in
    let answers : ItemList → List ℕ → Ending → Type 0 = λ list. IsAlikeShown c.args.asking.keeps search list c.args.asking.format in
    all_fail (λ ending. ending) own_failure false (IsSaid (answers (list_of c.in-Ok.items))) (IsAlikeShownSaid search c.args.asking.format c.args.asking.keeps c.args.items.now)
    (said_of place_fault answers (items_of search.image c.args.items.now) (list_of c.in-Ok.items) c.in-Ok.ensures) _ _ c.ask.result c.ask.ensures.failed
