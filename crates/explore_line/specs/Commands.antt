-- The commands of `cheri_explore`.
use Rattle.std.specs.Prelude.{Some, codes}
use Rattle.clap.specs.Words.{App, Rule, Text, new_app, new_rule, with_rule, with_subcommand}
use Rattle.clap.specs.declared.builder.action.ArgAction.TheVariants.{Append}
use Rattle.command_line.specs.Arguments.{flag, required_option, required_word}
use Rattle.command_line.specs.Arguments.{single_option, wanting_subcommand}

-- an option with a value, which a command may have many times
abbrev pub repeated_option : Text → Rule
repeated_option name = record (new_rule name) { long = Some name; action = Some Append }

-- `[--states N] [--steps] [--jobs J] [--json]`, which each search takes
abbrev pub with_options : App → App
with_options app =
    with_rule (with_rule (with_rule (with_rule app (single_option (codes "states")))
    (flag (codes "steps"))) (single_option (codes "jobs"))) (flag (codes "json"))

-- and before them `[--sweep LO,HI]..`
abbrev pub with_search_options : App → App
with_search_options app = with_options (with_rule app (repeated_option (codes "sweep")))

-- `[--explain] [--map MAP]`
abbrev pub with_explaining_options : App → App
with_explaining_options app =
    with_rule (with_rule app (flag (codes "explain"))) (single_option (codes "map"))

-- `outcomes LISTING [--show ITEM[,ITEM]..] [--keep WORD[,WORD]..] [--alike]`
abbrev pub outcomes_command : App
outcomes_command =
    with_search_options (with_rule (with_rule (with_rule (with_rule (new_app (codes "outcomes"))
    (required_word (codes "listing"))) (single_option (codes "show")))
    (single_option (codes "keep"))) (flag (codes "alike")))

-- `find LISTING CONDITION [--explain] [--map MAP] [--keep WORD[,WORD]..]`
abbrev pub find_command : App
find_command =
    with_search_options (with_rule (with_explaining_options (with_rule (with_rule
    (new_app (codes "find")) (required_word (codes "listing")))
    (required_word (codes "condition")))) (single_option (codes "keep")))

-- `authority LISTING [--keep WORD[,WORD]..]`
abbrev pub authority_command : App
authority_command =
    with_search_options (with_rule (with_rule (new_app (codes "authority"))
    (required_word (codes "listing"))) (single_option (codes "keep")))

-- `check LISTING [--explain] [--map MAP] [--keep WORD[,WORD]..]`, whose sweeps are lines of the
-- listing
abbrev pub check_command : App
check_command =
    with_options (with_rule (with_explaining_options (with_rule (new_app (codes "check"))
    (required_word (codes "listing")))) (single_option (codes "keep")))

-- `sample LISTING --orders N [--seed S] [--from I] [--length K] [--depth D] [--show ITEM[,ITEM]..]
-- [--sweep LO,HI].. [--check] [--jobs J] [--json]`
abbrev pub with_drawing_options : App → App
with_drawing_options app =
    with_rule (with_rule (with_rule (with_rule (with_rule app (required_option (codes "orders")))
    (single_option (codes "seed"))) (single_option (codes "from")))
    (single_option (codes "length"))) (single_option (codes "depth"))

abbrev pub with_sampling_options : App → App
with_sampling_options app =
    with_rule (with_rule (with_rule (with_rule (with_rule app (single_option (codes "show")))
    (repeated_option (codes "sweep"))) (flag (codes "check"))) (single_option (codes "jobs")))
    (flag (codes "json"))

abbrev pub sample_command : App
sample_command =
    with_sampling_options (with_drawing_options (with_rule (new_app (codes "sample"))
    (required_word (codes "listing"))))

-- `merge LISTING FILE [--jobs J] [--json]`
abbrev pub merge_command : App
merge_command =
    with_rule (with_rule (with_rule (with_rule (new_app (codes "merge"))
    (required_word (codes "listing"))) (required_word (codes "slices")))
    (single_option (codes "jobs"))) (flag (codes "json"))

-- the program, which wants one of these
abbrev pub explore_alone : App
explore_alone = wanting_subcommand (new_app (codes "cheri_explore"))

abbrev pub explore_program : App
explore_program =
    with_subcommand (with_subcommand (with_subcommand (with_subcommand (with_subcommand
    (with_subcommand explore_alone outcomes_command.top) find_command.top) authority_command.top)
    check_command.top) sample_command.top) merge_command.top
