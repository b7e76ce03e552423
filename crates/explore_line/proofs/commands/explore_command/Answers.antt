use Rattle.std.proofs.Common.{◌≡◌, ◌∙◌, ap, ap₂}
use Rattle.std.proofs.lemmas.Result.{IfOk-weaker}
use Rattle.clap.specs.Words.{App, Shape, app_of, with_subcommand}
use Rattle.clap.specs.Simple.{app_of_fields}
use Rattle.command_line.specs.Arguments.{wanting_subcommand}
use Rattle.explore_line.specs.Commands.{explore_alone}
use Rattle.explore_line.proofs.commands.explore_command.Goals as goal

pub returns : goal.returns
returns c =
    let top : App → Shape = λ a. a.top in
    let alone_is : app_of c.subcommand_required-alone.result ≡ explore_alone =
    ap app_of_fields c.subcommand_required-alone.ensures ∙ ap wanting_subcommand c.new.ensures.app in
    let outcomes_added = c.in_ok-with_outcomes.ensures.shape c.in_ok-outcomes_command.ensures.local
    ∙ ap₂ with_subcommand alone_is (ap top c.in_ok-outcomes_command.ensures.app) in
    let find_added = c.in_ok-with_find.ensures.shape c.in_ok-find_command.ensures.local
    ∙ ap₂ with_subcommand outcomes_added (ap top c.in_ok-find_command.ensures.app) in
    let authority_added = c.in_ok-with_authority.ensures.shape c.in_ok-authority_command.ensures.local
    ∙ ap₂ with_subcommand find_added (ap top c.in_ok-authority_command.ensures.app) in
    let check_added = c.in_ok-with_check.ensures.shape c.in_ok-check_command.ensures.local
    ∙ ap₂ with_subcommand authority_added (ap top c.in_ok-check_command.ensures.app) in
    let sample_added = c.in_ok-with_sample.ensures.shape c.in_ok-sample_command.ensures.local
    ∙ ap₂ with_subcommand check_added (ap top c.in_ok-sample_command.ensures.app) in
    IfOk-weaker c.subcommand-6.result _ _
    (λ command added. added.shape c.in_ok-merge_command.ensures.local
    ∙ ap₂ with_subcommand sample_added (ap top c.in_ok-merge_command.ensures.app))
    c.subcommand-6.ensures
