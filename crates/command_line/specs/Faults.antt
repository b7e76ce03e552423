-- Why arguments ask for nothing.
use Rattle.clap.specs.declared.error.kind.ErrorKind.{ErrorKind}
use Rattle.clap.specs.declared.error.kind.ErrorKind.TheVariants as kinds
use Rattle.command_line.specs.declared.faults.CommandFault.{CommandFault}
use Rattle.command_line.specs.declared.faults.CommandFault.TheVariants.{Usage, NoMemory}

-- an error of `clap` as a fault of the command line: memory, or else no command
abbrev pub fault_of_kind : ErrorKind → CommandFault
fault_of_kind kinds.OutOfMemory = NoMemory
fault_of_kind _ = Usage
