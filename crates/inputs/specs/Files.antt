-- What files hold.
use Rattle.std.specs.Prelude.{◌≡◌, ℕ, List, Option, Some, None, ⊤}
use Rattle.std.specs.declared.io.ErrorKind.{ErrorKind}
use Rattle.std.specs.declared.io.ErrorKind.TheVariants as kind
use Rattle.inputs.specs.declared.files.FileFault.{FileFault}
use Rattle.inputs.specs.declared.files.FileFault.TheVariants.{CannotRead, NoMemory}

-- What the file of each name holds, where that is known.
abbrev pub KnownFiles : Type 0
KnownFiles = List ℕ → Option (List ℕ)

-- these are the bytes of a file, as far as it is known what it holds
abbrev pub AreBytesOf : Option (List ℕ) → List ℕ → Type 0
AreBytesOf None bytes = ⊤
AreBytesOf (Some known) bytes = bytes ≡ known

-- why a file was not read, where its device failed so
abbrev pub file_fault : ErrorKind → FileFault
file_fault kind.OutOfMemory = NoMemory
file_fault _ = CannotRead
