-- What the program answers to its command line, and how it ends.
use Rattle.std.specs.Prelude.{◌≡◌, ℕ, List, codes, Option, Some, None, option_map, Result, Ok, Err}
use Rattle.std.specs.Prelude.{String}
use Rattle.std.specs.Global.{Global}
use Rattle.printing.specs.Endings.{EndsBy, FailsBy}
use Rattle.inputs.specs.Arguments.{command_args}
use Rattle.inputs.specs.Files.{KnownFiles}
use Rattle.inputs.specs.Reading.{OfFile, OfTexts}
use Rattle.explain_line.specs.Requests.{ExplainAsked}
use Rattle.cores.specs.Runs.{Stop}
use Rattle.program_io.specs.Endings.{IsTold}
use Rattle.program_io.specs.declared.fault.Fault.TheVariants.{Usage, Input, Own}
use Rattle.explain_program.specs.declared.faults.OwnFault.TheVariants.{CannotReadMap, Step}
use Rattle.explain_program.specs.Faults.{Fault, failure_of, fault_text, status_of}
use Rattle.explain_program.specs.Explaining.{Answer, IsExplained}
use Rattle.explain_program.specs.Mapped.{OfSources, shown_sources}

-- the command line of the arguments that are given after the program's name
abbrev pub command_line : List (String Global) → List (List ℕ)
command_line args = command_args (codes "cheri_explain") args

-- the answers to a request for two texts, by a map
abbrev pub IsMapped : List ℕ → ExplainAsked → List ℕ → List ℕ → Answer → Type 0
IsMapped bytes asked listing order answer =
    OfSources (λ fault. Err fault) (shown_sources listing bytes) (λ sources.
    IsExplained asked.form (Some sources) asked.first asked.last listing order answer) answer

-- by the map of a file, if one is named
abbrev pub IsMapAnswer : Option (Option (List ℕ)) → ExplainAsked → List ℕ → List ℕ → Answer → Type 0
IsMapAnswer None asked listing order answer =
    IsExplained asked.form None asked.first asked.last listing order answer
IsMapAnswer (Some file) asked listing order answer =
    OfFile file (Err (Own CannotReadMap)) (λ bytes. IsMapped bytes asked listing order answer) answer

-- the answers to a request: all files are read before one is judged
abbrev pub IsAnswer : KnownFiles → Option ExplainAsked → Answer → Type 0
IsAnswer files None answer = answer ≡ Err Usage
IsAnswer files (Some asked) answer =
    OfTexts (files asked.listing) (files asked.order) (λ fault. Err (Input fault))
    (λ listing order. IsMapAnswer (option_map files asked.map) asked listing order answer) answer

-- a request fails with this exit status; standard error got the fault's line, or a prefix of it
abbrev pub FailsWith : KnownFiles → Option ExplainAsked → ℕ → Option (List ℕ) → Option (List ℕ)
    → Option (List ℕ) → Option (List ℕ) → Type 0
FailsWith files request status old new err_old err_new =
    EndsBy status_of fault_text
    (λ fault. FailsBy (failure_of fault) (IsAnswer files request) fault old new)
    status err_old err_new

-- A command that ended so has this exit status. Standard error got the line of the fault, or of the
-- step that was refused, or a prefix of it.
abbrev pub Concludes : Result (Option Stop) Fault → ℕ → Option (List ℕ) → Option (List ℕ) → Type 0
Concludes (Ok None) status old new = (status ≡ 0) × (new ≡ old)
Concludes (Ok (Some stop)) status old new =
    IsTold status_of fault_text (Own (Step stop.0 stop.1)) status old new
Concludes (Err fault) status old new = IsTold status_of fault_text fault status old new
