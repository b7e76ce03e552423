-- What a command may have, in the terms in which the definitions of `clap` read a command line.
use Rattle.std.specs.Prelude.{Bool, true, Some}
use Rattle.clap.specs.Words.{App, Rule, Text, new_rule}
use Rattle.clap.specs.declared.builder.action.ArgAction.TheVariants.{Set, SetTrue}
use Rattle.clap.specs.declared.builder.command.Command.{Command}
use Rattle.clap.specs.declared.builder.command.Command.TheViews.{out-Command}

-- whether one of a command's arguments is also its subcommands'
abbrev pub has_globals : Command → Bool
has_globals command = (out-Command command).has_globals

-- an argument that a command must have
abbrev pub required_word : Text → Rule
required_word name = record (new_rule name) { action = Some Set; required = true }

-- an option with a value, which a command must have, or may have
abbrev pub required_option : Text → Rule
required_option name = record (required_word name) { long = Some name }

abbrev pub single_option : Text → Rule
single_option name = record (new_rule name) { long = Some name; action = Some Set }

-- a flag
abbrev pub flag : Text → Rule
flag name = record (new_rule name) { long = Some name; action = Some SetTrue }

-- a command that wants a subcommand
abbrev pub wanting_subcommand : App → App
wanting_subcommand app = record app { top = record app.top { subcommand_required = true } }
