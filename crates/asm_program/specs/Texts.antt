-- The files of assembly.
use Rattle.std.specs.Prelude.{◌≡◌, ℕ, List, [], ◌∷◌, Option, None, Err, ◌⊎◌, ⊤, Vec}
use Rattle.std.specs.Global.{Global}
use Rattle.inputs.specs.Files.{AreBytesOf}
use Rattle.inputs.specs.Reading.{OfFile}
use Rattle.program_io.specs.Faults.{no_memory}
use Rattle.program_io.specs.declared.fault.Fault.TheVariants.{Own}
use Rattle.asm_program.specs.declared.faults.OwnFault.TheVariants.{CannotReadAssembly}
use Rattle.asm_program.specs.Faults.{Answer, Fault}

-- the bytes of a text that was read
abbrev pub text_items : Vec ℕ Global → List ℕ
text_items text = text.items

-- why a file was not read, whose bytes are these, where they are known
abbrev pub IsUnread : Option (List ℕ) → Fault → Type 0
IsUnread file fault = (fault ≡ no_memory) ⊎ ((fault ≡ Own CannotReadAssembly) × (file ≡ None))

-- these are the bytes of files, one after another, as far as it is known what they hold
unfoldable pub AreRead : List (Option (List ℕ)) → List (List ℕ) → Type 0
AreRead [] [] = ⊤
AreRead (file ∷ files) (text ∷ texts) = AreBytesOf file text × AreRead files texts
AreRead files texts = ⊥

-- one of these files cannot be read
unfoldable pub SomeUnread : List (Option (List ℕ)) → Type 0
SomeUnread [] = ⊥
SomeUnread (file ∷ files) = (file ≡ None) ⊎ (((bytes : List ℕ) × AreBytesOf file bytes) × SomeUnread files)

-- why files were not read
abbrev pub AreUnread : List (Option (List ℕ)) → Fault → Type 0
AreUnread files fault =
    (fault ≡ no_memory) ⊎ ((fault ≡ Own CannotReadAssembly) × SomeUnread files)

-- What is answered of files: that one cannot be read, or what is so of the bytes of all. Each is
-- read before one is judged.
unfoldable pub OfFiles : List (Option (List ℕ)) → (List (List ℕ) → Type 0) → Answer → Type 0
OfFiles [] IsSo answer = IsSo []
OfFiles (file ∷ files) IsSo answer =
    OfFile file (Err (Own CannotReadAssembly))
    (λ bytes. OfFiles files (λ texts. IsSo (bytes ∷ texts)) answer) answer
