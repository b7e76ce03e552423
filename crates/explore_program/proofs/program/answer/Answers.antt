use Rattle.std.proofs.Common.{◌≡◌, refl, ◌∙◌, ap, sym, map, false}
use Rattle.std.proofs.lemmas.Result.{err_from_is_err_and}
use Rattle.explore_line.specs.Requests.{explore_asked, asked_by}
use Rattle.program_io.proofs.FaultLemmas.{command_fails}
use Rattle.explore_program.specs.Faults.{own_failure}
use Rattle.explore_program.specs.Program.{IsAnswer, command_line}
use Rattle.explore_program.proofs.ProgramLemmas.{none_answers, asked_printed, asked_fails}
use Rattle.explore_program.proofs.program.answer.Goals as goal

pub returns-in_err-request-clause-failed : goal.returns-in_err-request-clause-failed
returns-in_err-request-clause-failed g c =
    let p = err_from_is_err_and c.from_residual-in_err-request.result c.from_residual-in_err-request.ensures.1 in
    let same : map (λ arg. arg.now) c.as_slice.result.now ≡ command_line c.args.args.now =
    ap (map (λ arg. arg.now)) c.as_slice.ensures.value ∙ c.in_ok-args.ensures in
    rw (p.1, p.2)
    (command_fails own_failure false (IsAnswer (g.F.Files.bytes_of c.args.files.now) (explore_asked (command_line c.args.args.now))) _ _
    c.explore_request.result c.in_err-request.field-0.0 c.in_err-request.was
    (λ usage. none_answers (g.F.Files.bytes_of c.args.files.now) _ (ap explore_asked (sym same) ∙ c.explore_request.ensures.usage usage)) refl)

pub returns-clause-printed : goal.returns-clause-printed
returns-clause-printed g c =
    let same : map (λ arg. arg.now) c.as_slice.result.now ≡ command_line c.args.args.now =
    ap (map (λ arg. arg.now)) c.as_slice.ensures.value ∙ c.in_ok-args.ensures in
    asked_printed (g.F.Files.bytes_of c.args.files.now) (explore_asked (command_line c.args.args.now))
    (asked_by c.in_ok-request.request) c.answer_at.result _ _ (ap explore_asked (sym same) ∙ c.in_ok-request.ensures.asked)
    c.answer_at.ensures.printed

pub returns-clause-failed : goal.returns-clause-failed
returns-clause-failed g c =
    let same : map (λ arg. arg.now) c.as_slice.result.now ≡ command_line c.args.args.now =
    ap (map (λ arg. arg.now)) c.as_slice.ensures.value ∙ c.in_ok-args.ensures in
    asked_fails (g.F.Files.bytes_of c.args.files.now) (explore_asked (command_line c.args.args.now))
    (asked_by c.in_ok-request.request) c.answer_at.result _ _ (ap explore_asked (sym same) ∙ c.in_ok-request.ensures.asked)
    c.answer_at.ensures.failed
