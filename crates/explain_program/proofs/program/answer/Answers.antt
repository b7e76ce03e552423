use Rattle.std.proofs.Common.{◌≡◌, refl, ◌∙◌, ap, sym, map, true}
use Rattle.std.proofs.lemmas.Result.{err_from_is_err_and}
use Rattle.explain_line.specs.Requests.{explain_asked, explain_asked_by}
use Rattle.explain_program.specs.Program.{command_line}
use Rattle.program_io.proofs.FaultLemmas.{command_fails, refused_words}
use Rattle.explain_program.specs.Faults.{own_failure}
use Rattle.explain_program.specs.Program.{IsAnswer}
use Rattle.explain_program.proofs.ProgramLemmas.{asked_printed, asked_fails, asked_something, none_answers}
use Rattle.explain_program.proofs.program.answer.Goals as goal

pub returns-in_err-request-clause-failed : goal.returns-in_err-request-clause-failed
returns-in_err-request-clause-failed g c =
    let p = err_from_is_err_and c.from_residual-in_err-request.result c.from_residual-in_err-request.ensures.1 in
    let same : map (λ arg. arg.now) c.as_slice.result.now ≡ command_line c.args.args.now =
    ap (map (λ arg. arg.now)) c.as_slice.ensures.value ∙ c.in_ok-args.ensures in
    rw (p.1, p.2)
    (command_fails own_failure true (IsAnswer (g.F.Files.bytes_of c.args.files.now) (explain_asked (command_line c.args.args.now))) _ _
    c.explain_request.result c.in_err-request.field-0.0 c.in_err-request.was
    (λ usage. none_answers (g.F.Files.bytes_of c.args.files.now) _ (ap explain_asked (sym same) ∙ c.explain_request.ensures.usage usage)) refl)

pub returns-in_err-request-clause-nothing : goal.returns-in_err-request-clause-nothing
returns-in_err-request-clause-nothing g c =
    let p = err_from_is_err_and c.from_residual-in_err-request.result c.from_residual-in_err-request.ensures.1 in
    rw (p.1, p.2) (λ none. refused_words c.in_err-request.field-0.0)

pub returns-clause-printed : goal.returns-clause-printed
returns-clause-printed g c =
    let same : map (λ arg. arg.now) c.as_slice.result.now ≡ command_line c.args.args.now =
    ap (map (λ arg. arg.now)) c.as_slice.ensures.value ∙ c.in_ok-args.ensures in
    asked_printed (g.F.Files.bytes_of c.args.files.now) (explain_asked (command_line c.args.args.now))
    (explain_asked_by c.in_ok-request.request) c.explain.result _ _ (ap explain_asked (sym same) ∙ c.in_ok-request.ensures.asked)
    c.explain.ensures.printed

pub returns-clause-failed : goal.returns-clause-failed
returns-clause-failed g c =
    let same : map (λ arg. arg.now) c.as_slice.result.now ≡ command_line c.args.args.now =
    ap (map (λ arg. arg.now)) c.as_slice.ensures.value ∙ c.in_ok-args.ensures in
    asked_fails (g.F.Files.bytes_of c.args.files.now) (explain_asked (command_line c.args.args.now))
    (explain_asked_by c.in_ok-request.request) c.explain.result _ _ (ap explain_asked (sym same) ∙ c.in_ok-request.ensures.asked)
    c.explain.ensures.failed

pub returns-clause-nothing : goal.returns-clause-nothing
returns-clause-nothing g c =
    let same : map (λ arg. arg.now) c.as_slice.result.now ≡ command_line c.args.args.now =
    ap (map (λ arg. arg.now)) c.as_slice.ensures.value ∙ c.in_ok-args.ensures in
    asked_something (explain_asked (command_line c.args.args.now)) (explain_asked_by c.in_ok-request.request)
    (ap explain_asked (sym same) ∙ c.in_ok-request.ensures.asked)
