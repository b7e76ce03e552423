use Rattle.std.proofs.Common.{◌∙◌, ◌≡◌, map, option_and_then, ap, sym}
use Rattle.clap.specs.Words.{app_of, is_simple, is_simple_and_free, subcommand_of, subcommand_rows_of}
use Rattle.explore_line.specs.Commands.{explore_program}
use Rattle.explore_line.specs.Requests.{explore_asked, explore_asked_of}
use Rattle.command_line.proofs.ReadArgs.{asked_is_met, usage_told}
use Rattle.explore_line.proofs.ReadArgs.{explore_is_free, explore_is_simple, explore_met, explore_reads}
use Rattle.explore_line.proofs.explore_request.Goals as goal

pub returns-in_err-matches-clause-usage : goal.returns-in_err-matches-clause-usage
returns-in_err-matches-clause-usage c =
    let app_is = c.in_ok-explore_command.ensures in
    usage_told explore_program explore_met explore_asked explore_reads (app_of c.in_ok-explore_command.field-0)
    (map (λ arg. arg.now) c.args.args.now) c.in_err-matches.field-0.0 c.from_residual-in_err-matches.result app_is
    (c.in_err-matches.ensures.kinds (ap is_simple_and_free app_is ∙ explore_is_free)) c.from_residual-in_err-matches.ensures.1

-- what was met is what the arguments ask for
met_is_asked : (c : goal.Joined-matches) → explore_asked (map (λ arg. arg.now) c.args.args.now)
    ≡ option_and_then (λ found. explore_asked_of found.0 found.1) (subcommand_rows_of c.in_ok-matches.matches)
met_is_asked c =
    let app_is = c.in_ok-explore_command.ensures in
    let args = map (λ arg. arg.now) c.args.args.now in
    let met = (c.in_ok-matches.ensures.matches (ap is_simple app_is ∙ explore_is_simple)).1 in
    asked_is_met explore_program explore_met explore_asked explore_reads (app_of c.in_ok-explore_command.field-0) args app_is
    (c.in_ok-matches.ensures.kinds (ap is_simple_and_free app_is ∙ explore_is_free))
    ∙ ap (option_and_then (λ found. explore_asked_of found.0 found.1)) (sym (met ∙ ap (λ a. subcommand_of a args) app_is))

pub returns-clause-asked : goal.returns-clause-asked
returns-clause-asked c = rw (met_is_asked c) c.explore_met.ensures.asked

pub returns-clause-usage : goal.returns-clause-usage
returns-clause-usage c = rw (met_is_asked c) c.explore_met.ensures.usage
