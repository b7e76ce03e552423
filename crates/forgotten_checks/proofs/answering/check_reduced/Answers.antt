use Rattle.std.proofs.Common.{sym, subst, ◌∙◌}
use Rattle.std.specs.Prelude.{ℕ, List}
use Rattle.std.proofs.lemmas.Result.{IfOk-weaker}
use Rattle.hart_order.specs.Arrangements.{IsUngrouped}
use Rattle.states.specs.Searches.{search_of}
use Rattle.forgotten_checks.proofs.AskedLemmas.{properties_forget}
use Rattle.forgotten_checks.proofs.CheckLemmas.{given_back, reduced_is, surveyed_asked, surveyed_named, surveyed_seen}
use Rattle.forgotten_checks.proofs.answering.check_reduced.Goals as goal

pub survey-requires-clause-hidden : goal.survey-requires-clause-hidden
survey-requires-clause-hidden g c =
    rw c.in_ok-watches_of.ensures
    (properties_forget c.args.search.now.image.now.program c.args.reduction.now.live c.args.properties.now c.requires.right c.requires.asked)

pub judged_if-requires : goal.judged_if-requires
judged_if-requires g c asks =
    subst (λ (groups : List ℕ). IsUngrouped groups) (sym c.in_ok-survey.ensures.groups_are)
    (c.requires.harts (sym c.one_asks.ensures ∙ asks))

pub answer_of-requires : goal.answer_of-requires
answer_of-requires g c =
    let of = given_back (search_of c.args.search.now) c.args.properties.now c.in_ok-watches_of.field-0 c.args.reduction.now.live
    c.args.reduction.now.groups c.in_ok-survey.survey c.in_ok-judged.judged.survey c.in_ok-watches_of.ensures c.in_ok-survey.ensures
    c.in_ok-judged.ensures.same in
    record {
      seen = surveyed_seen (search_of c.args.search.now) c.args.properties.now c.args.reduction.now.live c.args.reduction.now.groups
          c.in_ok-judged.judged.survey of;
      asked = surveyed_asked (search_of c.args.search.now) c.args.properties.now c.args.reduction.now.live c.args.reduction.now.groups
          c.in_ok-judged.judged.survey of c.requires.asked;
      named = surveyed_named (search_of c.args.search.now) c.args.properties.now c.args.reduction.now.live c.args.reduction.now.groups
          c.in_ok-judged.judged.survey of c.requires.named;
    }

pub returns : goal.returns
returns g c =
    let of = given_back (search_of c.args.search.now) c.args.properties.now c.in_ok-watches_of.field-0 c.args.reduction.now.live
    c.args.reduction.now.groups c.in_ok-survey.survey c.in_ok-judged.judged.survey c.in_ok-watches_of.ensures c.in_ok-survey.ensures
    c.in_ok-judged.ensures.same in
    IfOk-weaker c.answer_of.result _ _
    (λ told says. reduced_is (search_of c.args.search.now) c.args.properties.now c.args.reduction.now.live c.args.reduction.now.groups
    c.in_ok-judged.judged.survey of c.left_out-left_out.result c.in_ok-judged.judged.endless c.args.format c.one_asks.result _ _ _
    c.len-count.ensures.survey c.left_out-left_out.ensures c.one_asks.ensures c.in_ok-judged.ensures.endless says) c.answer_of.ensures
