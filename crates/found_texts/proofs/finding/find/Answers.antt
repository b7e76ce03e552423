use Rattle.std.proofs.Common.{◌∙◌, ap, sym}
use Rattle.std.proofs.lemmas.Result.{IfOk-weaker}
use Rattle.cheri_model.specs.runs.Image.{ImageParts}
use Rattle.cheri_model.specs.runs.Machine.{opening_state}
use Rattle.states.specs.Searches.{search_of}
use Rattle.found_texts.proofs.FindLemmas.{answer_is, unseen_by}
use Rattle.found_texts.proofs.finding.find.Goals as goal

pub find_from-requires-clause-unseen : goal.find_from-requires-clause-unseen
find_from-requires-clause-unseen g c =
    rw c.in_ok-seen.ensures (unseen_by c.args.search.now.every_step c.args.condition.now)

pub answer_of-requires-clause-opening : goal.answer_of-requires-clause-opening
answer_of-requires-clause-opening g c =
    c.in_ok-core.ensures ∙ ap (λ (i : ImageParts). opening_state i) (sym c.in_ok-found.ensures.kept_of.image_is)

pub answer_of-requires-clause-kept_of : goal.answer_of-requires-clause-kept_of
answer_of-requires-clause-kept_of g c = rw c.in_ok-seen.ensures at c.in_ok-found.ensures.kept_of

pub returns-clause-says : goal.returns-clause-says
returns-clause-says g c =
    IfOk-weaker c.answer_of.result _ _
    (λ answer says. answer_is (search_of c.args.search.now) c.in_ok-found.found.kept c.args.condition.now c.args.format
    c.in_ok-found.found.state _ _ _ (rw c.in_ok-seen.ensures at c.in_ok-found.ensures.kept_of) c.len-count.ensures.search
    c.in_ok-found.ensures.limit c.in_ok-found.ensures.first c.in_ok-found.ensures.all says) c.answer_of.ensures.says

pub returns-clause-nowhere : goal.returns-clause-nowhere
returns-clause-nowhere g c =
    IfOk-weaker c.answer_of.result _ _
    (λ answer nowhere is. let none = nowhere is in c.in_ok-found.ensures.none none.0 none.1) c.answer_of.ensures.nowhere
