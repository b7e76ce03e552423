use Rattle.std.proofs.Common.{List, length, ap, sym, ◌∙◌, subst}
use Rattle.std.specs.Prelude.{IfSome, slice_get, Vec}
use Rattle.std.specs.Global.{Global}
use Rattle.authority_texts.specs.declared.told.Told.{Told}
use Rattle.shown_states.specs.Endings.{ending_of}
use Rattle.states.specs.Searches.{search_of}
use Rattle.alike_authority.specs.AlikeAuthority.{IsHartList, IsMemoryList}
use Rattle.alike_authority.proofs.AnswerLemmas.{answer_is, asked_there, head_is, whole_there}
use Rattle.alike_authority.proofs.answers.found_answer.Goals as goal

pub hart_lists-requires-clause-whole : goal.hart_lists-requires-clause-whole
hart_lists-requires-clause-whole c =
    whole_there (search_of c.args.search.now) c.args.reduction.now.live c.args.reduction.now.groups c.args.survey.now
    c.requires.found (λ one other grouped. c.requires.equal one other grouped) (λ reg. c.requires.asked reg)

pub memory_list-requires-clause-asked : goal.memory_list-requires-clause-asked
memory_list-requires-clause-asked c =
    asked_there (search_of c.args.search.now) c.args.reduction.now.live c.args.reduction.now.groups c.args.survey.now
    c.requires.found (λ reg. c.requires.asked reg)

pub returns : goal.returns
returns c =
    let survey = c.args.survey.now in
    answer_is (search_of c.args.search.now) c.args.reduction.now.live c.args.reduction.now.groups survey c.requires.found
    c.len-count.ensures.survey c.args.format _ c.as_slice.result.now c.as_slice-2.result.now _ _
    (head_is (search_of c.args.search.now) c.args.reduction.now.live c.args.reduction.now.groups survey c.requires.found _ _ _ _
    c.head_of-head.ensures.left_out c.head_of-head.ensures.complete c.head_of-head.ensures.image c.head_of-head.ensures.states)
    (ap (λ (ts : List (Vec Told Global)). length ts) c.as_slice.ensures.value ∙ c.in_ok-harts.ensures.count)
    (λ hart. subst (λ (ts : List (Vec Told Global)). IfSome (slice_get ts hart) (λ told. IsHartList survey hart told.items))
    (sym c.as_slice.ensures.value) (c.in_ok-harts.ensures.lists hart))
    (subst (λ (ts : List Told). IsMemoryList survey ts) (sym c.as_slice-2.ensures.value) c.in_ok-memory.ensures)
    c.in_ok-text.ensures (c.of_search-ending.ensures ∙ ap ending_of c.is_complete.ensures)
