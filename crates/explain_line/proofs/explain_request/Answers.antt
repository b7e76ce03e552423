use Rattle.std.proofs.Common.{◌∙◌, ◌≡◌, map, option_map, ap, sym}
use Rattle.clap.specs.Words.{app_of, is_simple, is_simple_and_free, matches_of}
use Rattle.explain_line.specs.Requests.{explain_asked, explain_asked_by, explain_asked_of, explain_program}
use Rattle.command_line.proofs.ReadArgs.{asked_is_met, no_request_told, request_told, usage_told}
use Rattle.explain_line.proofs.ReadArgs.{explain_is_free, explain_is_simple, explain_met, explain_reads}
use Rattle.explain_line.proofs.explain_request.Goals as goal

pub returns-in_err-matches-clause-usage : goal.returns-in_err-matches-clause-usage
returns-in_err-matches-clause-usage c =
    let app_is = c.in_ok-explain_command.ensures in
    usage_told explain_program explain_met explain_asked explain_reads (app_of c.in_ok-explain_command.field-0)
    (map (λ arg. arg.now) c.args.args.now) c.in_err-matches.field-0.0 c.from_residual-in_err-matches.result app_is
    (c.in_err-matches.ensures.kinds (ap is_simple_and_free app_is ∙ explain_is_free)) c.from_residual-in_err-matches.ensures.1

-- what was found is what the arguments ask for
found_is_asked : (c : goal.Joined-matches) → explain_asked (map (λ arg. arg.now) c.args.args.now) ≡ option_map explain_asked_by c.explain_of.result
found_is_asked c =
    let app_is = c.in_ok-explain_command.ensures in
    let args = map (λ arg. arg.now) c.args.args.now in
    let met = (c.in_ok-matches.ensures.matches (ap is_simple app_is ∙ explain_is_simple)).0 in
    asked_is_met explain_program explain_met explain_asked explain_reads (app_of c.in_ok-explain_command.field-0) args app_is
    (c.in_ok-matches.ensures.kinds (ap is_simple_and_free app_is ∙ explain_is_free))
    ∙ ap explain_asked_of (sym (met ∙ ap (λ a. matches_of a args) app_is))
    ∙ sym c.explain_of.ensures

pub returns-clause-asked : goal.returns-clause-asked
returns-clause-asked c =
    request_told explain_asked_by (explain_asked (map (λ arg. arg.now) c.args.args.now)) c.explain_of.result c.ok_or.result (found_is_asked c) c.ok_or.ensures.value

pub returns-clause-usage : goal.returns-clause-usage
returns-clause-usage c =
    no_request_told explain_asked_by (explain_asked (map (λ arg. arg.now) c.args.args.now)) c.explain_of.result c.ok_or.result (found_is_asked c) c.ok_or.ensures.value
