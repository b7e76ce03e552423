use Rattle.std.proofs.Common.{◌≡◌, ◌∙◌, ap, ap₂}
use Rattle.std.proofs.lemmas.Result.{IfOk-weaker}
use Rattle.clap.specs.Words.{App, Shape, app_of, with_subcommand}
use Rattle.clap.specs.Simple.{app_of_fields}
use Rattle.command_line.specs.Arguments.{wanting_subcommand}
use Rattle.command_line.specs.Commands.{program_alone}
use Rattle.command_line.proofs.commands.program_command.Goals as goal

pub returns : goal.returns
returns c =
    let top : App → Shape = λ a. a.top in
    let alone_is : app_of c.subcommand_required-alone.result ≡ program_alone =
    ap app_of_fields c.subcommand_required-alone.ensures ∙ ap wanting_subcommand c.new.ensures.app in
    let check_added = c.in_ok-with_check.ensures.shape c.in_ok-check_command.ensures.local
    ∙ ap₂ with_subcommand alone_is (ap top c.in_ok-check_command.ensures.app) in
    let run_added = c.in_ok-with_run.ensures.shape c.in_ok-run_command.ensures.local
    ∙ ap₂ with_subcommand check_added (ap top c.in_ok-run_command.ensures.app) in
    let race_added = c.in_ok-with_race.ensures.shape c.in_ok-race_command.ensures.local
    ∙ ap₂ with_subcommand run_added (ap top c.in_ok-race_command.ensures.app) in
    let bounds_added = c.in_ok-with_bounds.ensures.shape c.in_ok-bounds_command.ensures.local
    ∙ ap₂ with_subcommand race_added (ap top c.in_ok-bounds_command.ensures.app) in
    IfOk-weaker c.subcommand-5.result _ _
    (λ command added. added.shape c.in_ok-decode_command.ensures.local
    ∙ ap₂ with_subcommand bounds_added (ap top c.in_ok-decode_command.ensures.app))
    c.subcommand-5.ensures
