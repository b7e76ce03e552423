use Rattle.authority_texts.specs.Answers.{IsAuthorityAnswer}
use Rattle.shown_states.proofs.AnswerLemmas.{so_begun, so_written}
use Rattle.states.specs.Searches.{search_of}
use Rattle.alike_authority.specs.AlikeAuthority.{IsAlikeAuthority}
use Rattle.alike_authority.proofs.AnswerLemmas.{begun_as, written_as}
use Rattle.alike_authority.proofs.AskedLemmas.{by_none, by_some}
use Rattle.alike_authority.proofs.asking.authority_alike.Goals as goal

pub returns-in_default-clause-written : goal.returns-in_default-clause-written
returns-in_default-clause-written g c =
    let search = search_of c.args.search.now in
    let keeps = c.args.manner.keeps_harts in
    let format = c.args.manner.format in
    written_as (IsAuthorityAnswer search format) (IsAlikeAuthority keeps search format) c.authority.result _ _
    (λ text ending so. by_none keeps search format _ _ c.nobody.ensures text ending
    (rw c.in_default.is at c.in_ok-found.ensures) so)
    c.authority.ensures.written

pub returns-in_default-clause-begun : goal.returns-in_default-clause-begun
returns-in_default-clause-begun g c =
    let search = search_of c.args.search.now in
    let keeps = c.args.manner.keeps_harts in
    let format = c.args.manner.format in
    begun_as (IsAuthorityAnswer search format) (IsAlikeAuthority keeps search format) c.authority.result _ _
    (λ text ending so. by_none keeps search format _ _ c.nobody.ensures text ending
    (rw c.in_default.is at c.in_ok-found.ensures) so)
    c.authority.ensures.begun

pub returns-clause-written : goal.returns-clause-written
returns-clause-written g c =
    let search = search_of c.args.search.now in
    let keeps = c.args.manner.keeps_harts in
    let format = c.args.manner.format in
    so_written (IsAlikeAuthority keeps search format) _ _ c.put_answer.result _ _
    (by_some keeps search format _ _ c.nobody.ensures _ _ c.in-Some.reduction
    (rw c.in-Some.is at c.in_ok-found.ensures) c.in_ok-answer.ensures)
    c.put_answer.ensures.written

pub returns-clause-begun : goal.returns-clause-begun
returns-clause-begun g c =
    let search = search_of c.args.search.now in
    let keeps = c.args.manner.keeps_harts in
    let format = c.args.manner.format in
    so_begun (IsAlikeAuthority keeps search format) _ _ c.put_answer.result _ _
    (by_some keeps search format _ _ c.nobody.ensures _ _ c.in-Some.reduction
    (rw c.in-Some.is at c.in_ok-found.ensures) c.in_ok-answer.ensures)
    c.put_answer.ensures.begun
