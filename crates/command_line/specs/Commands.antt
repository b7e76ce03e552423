-- The commands of `cheri_sim`.
use Rattle.std.specs.Prelude.{codes}
use Rattle.clap.specs.Words.{App, Text, new_app, with_rule, with_subcommand}
use Rattle.command_line.specs.Arguments.{flag, required_option, required_word, wanting_subcommand}

-- `check LISTING`
abbrev pub check_command : App
check_command = with_rule (new_app (codes "check")) (required_word (codes "listing"))

-- a command that wants a listing and the option of this name, and may have the flag of that name
abbrev pub listing_command : Text → Text → Text → App
listing_command name option switch =
    with_rule (with_rule (with_rule (new_app name) (required_word (codes "listing")))
    (required_option option)) (flag switch)

-- `run LISTING --order FILE [--json]`
abbrev pub run_command : App
run_command = listing_command (codes "run") (codes "order") (codes "json")

-- `race LISTING --turns N [--watch]`
abbrev pub race_command : App
race_command = listing_command (codes "race") (codes "turns") (codes "watch")

-- `bounds BASE LEN`
abbrev pub bounds_command : App
bounds_command =
    with_rule (with_rule (new_app (codes "bounds")) (required_word (codes "base")))
    (required_word (codes "len"))

-- `decode WORD`
abbrev pub decode_command : App
decode_command = with_rule (new_app (codes "decode")) (required_word (codes "word"))

-- the program, which wants one of these
abbrev pub program_alone : App
program_alone = wanting_subcommand (new_app (codes "cheri_sim"))

abbrev pub program : App
program =
    with_subcommand (with_subcommand (with_subcommand (with_subcommand (with_subcommand
    program_alone check_command.top) run_command.top) race_command.top) bounds_command.top)
    decode_command.top
