use Rattle.std.proofs.Common.{◌∙◌, ◌≡◌, map, option_and_then, option_map, ap, sym}
use Rattle.clap.specs.Words.{app_of, is_simple, is_simple_and_free, subcommand_of}
use Rattle.command_line.specs.Commands.{program}
use Rattle.command_line.specs.Requests.{asked, asked_by, asked_of}
use Rattle.command_line.proofs.ReadArgs.{asked_is_met, no_request_told, program_is_free, program_is_simple, request_told, sim_met, sim_reads, usage_told}
use Rattle.command_line.proofs.parse.Goals as goal

pub returns-in_err-matches-clause-usage : goal.returns-in_err-matches-clause-usage
returns-in_err-matches-clause-usage c =
    let app_is = c.in_ok-program_command.ensures in
    usage_told program sim_met asked sim_reads (app_of c.in_ok-program_command.field-0) (map (λ arg. arg.now) c.args.args.now)
    c.in_err-matches.field-0.0 c.from_residual-in_err-matches.result app_is
    (c.in_err-matches.ensures.kinds (ap is_simple_and_free app_is ∙ program_is_free)) c.from_residual-in_err-matches.ensures.1

-- what was met is what the arguments ask for
met_is_asked : (c : goal.Joined-matches) → asked (map (λ arg. arg.now) c.args.args.now) ≡ option_map asked_by c.request_met.result
met_is_asked c =
    let app_is = c.in_ok-program_command.ensures in
    let args = map (λ arg. arg.now) c.args.args.now in
    let app = app_of c.in_ok-program_command.field-0 in
    let met = (c.in_ok-matches.ensures.matches (ap is_simple app_is ∙ program_is_simple)).1 in
    asked_is_met program sim_met asked sim_reads app args app_is
    (c.in_ok-matches.ensures.kinds (ap is_simple_and_free app_is ∙ program_is_free))
    ∙ ap (option_and_then (λ found. asked_of found.0 found.1)) (sym (met ∙ ap (λ a. subcommand_of a args) app_is))
    ∙ sym c.request_met.ensures

pub returns-clause-asked : goal.returns-clause-asked
returns-clause-asked c =
    request_told asked_by (asked (map (λ arg. arg.now) c.args.args.now)) c.request_met.result c.ok_or.result (met_is_asked c) c.ok_or.ensures.value

pub returns-clause-usage : goal.returns-clause-usage
returns-clause-usage c =
    no_request_told asked_by (asked (map (λ arg. arg.now) c.args.args.now)) c.request_met.result c.ok_or.result (met_is_asked c) c.ok_or.ensures.value
