use Rattle.std.proofs.Common.{◌∙◌, ◌≡◌, map, ap, sym}
use Rattle.clap.specs.Words.{app_of, found_of, is_simple, is_simple_and_free, matches_of, rows_of}
use Rattle.asm_line.specs.Requests.{asm_asked, asm_asked_of, asm_program}
use Rattle.command_line.proofs.ReadArgs.{asked_is_met, usage_told}
use Rattle.asm_line.proofs.ReadArgs.{asm_is_free, asm_is_simple, asm_met, asm_reads}
use Rattle.asm_line.proofs.asm_request.Goals as goal

pub returns-in_err-matches-clause-usage : goal.returns-in_err-matches-clause-usage
returns-in_err-matches-clause-usage c =
    let app_is = c.in_ok-asm_command.ensures in
    usage_told asm_program asm_met asm_asked asm_reads (app_of c.in_ok-asm_command.field-0)
    (map (λ arg. arg.now) c.args.args.now) c.in_err-matches.field-0.0 c.from_residual-in_err-matches.result app_is
    (c.in_err-matches.ensures.kinds (ap is_simple_and_free app_is ∙ asm_is_free)) c.from_residual-in_err-matches.ensures.1

-- what was found is what the arguments ask for
found_is_asked : (c : goal.Joined-matches) → asm_asked (map (λ arg. arg.now) c.args.args.now)
    ≡ asm_asked_of (rows_of (found_of c.in_ok-matches.matches))
found_is_asked c =
    let app_is = c.in_ok-asm_command.ensures in
    let args = map (λ arg. arg.now) c.args.args.now in
    let met = (c.in_ok-matches.ensures.matches (ap is_simple app_is ∙ asm_is_simple)).0 in
    asked_is_met asm_program asm_met asm_asked asm_reads (app_of c.in_ok-asm_command.field-0) args app_is
    (c.in_ok-matches.ensures.kinds (ap is_simple_and_free app_is ∙ asm_is_free))
    ∙ ap asm_asked_of (sym (met ∙ ap (λ a. matches_of a args) app_is))

pub returns-clause-asked : goal.returns-clause-asked
returns-clause-asked c = rw (found_is_asked c) c.asm_of.ensures.asked

pub returns-clause-usage : goal.returns-clause-usage
returns-clause-usage c = rw (found_is_asked c) c.asm_of.ensures.usage
