-- What the program answers to its command line, and how it ends.
use Rattle.std.specs.Prelude.{◌≡◌, ℕ, List, codes, Option, Some, None, Ok, Err, Bool, true, false}
use Rattle.std.specs.Prelude.{String, Result}
use Rattle.std.specs.Global.{Global}
use Rattle.command_line.specs.Requests.{Asked, Check, Run, Race, Bounds, Decode}
use Rattle.inputs.specs.Arguments.{command_args}
use Rattle.inputs.specs.Files.{KnownFiles}
use Rattle.inputs.specs.Reading.{OfImage, OfTexts}
use Rattle.inputs.specs.declared.fault.InputFault.{InputFault}
use Rattle.number_lines.specs.Numbers.{range_answer, word_answer}
use Rattle.printing.specs.Endings.{EndsBy}
use Rattle.program_io.specs.Endings.{IsTold}
use Rattle.program_io.specs.declared.fault.Fault.TheVariants as fault
use Rattle.report_lines.specs.Texts.{line}
use Rattle.sinks.specs.Sinks.{TakesPrefix}
use Rattle.sim_program.specs.declared.ended.Ended.{Ended}
use Rattle.sim_program.specs.declared.ended.Ended.TheVariants as ended
use Rattle.sim_program.specs.declared.faults.OwnFault.TheVariants.{BadNumber, Step}
use Rattle.sim_program.specs.Answers.{check_line}
use Rattle.sim_program.specs.Endings.{Answer, Fails, IsRunEnd}
use Rattle.sim_program.specs.Faults.{Fault, fault_text, status_of}
use Rattle.sim_program.specs.Races.{HasLooks, IsRaceAnswer, TellsLooks, looks_text}
use Rattle.sim_program.specs.Runs.{IsRunAnswer}

-- the command line of the arguments that are given after the program's name
abbrev pub command_line : List (String Global) → List (List ℕ)
command_line args = command_args (codes "cheri_sim") args

-- the answer where a file was not read, or refused
abbrev pub unread : InputFault → Answer
unread input = Err (fault.Input input)

-- `bounds` and `decode`: the line that answers their numbers, where they are numbers
abbrev pub answer_of_numbers : Option (List ℕ) → Answer
answer_of_numbers (Some text) = Ok (text, None)
answer_of_numbers None = Err (fault.Own BadNumber)

abbrev pub IsNumbersAnswer : Option (List ℕ) → Answer → Type 0
IsNumbersAnswer found answer = answer ≡ answer_of_numbers found

-- the answers to a request
abbrev pub IsAnswer : KnownFiles → Option Asked → Answer → Type 0
IsAnswer files None answer = answer ≡ Err fault.Usage
IsAnswer files (Some (Check listing)) answer =
    OfImage (files listing) unread (λ image. answer ≡ Ok (check_line image, None)) answer
IsAnswer files (Some (Run listing order form)) answer =
    OfTexts (files listing) (files order) unread
    (λ first second. IsRunAnswer form first second answer) answer
IsAnswer files (Some (Race listing turns watch)) answer =
    OfImage (files listing) unread (λ image. IsRaceAnswer image turns answer) answer
IsAnswer files (Some (Bounds base len)) answer = IsNumbersAnswer (range_answer base len) answer
IsAnswer files (Some (Decode word)) answer = IsNumbersAnswer (word_answer word) answer

-- whether a request's text is printed in pieces: a report is, and a line is not
abbrev pub is_in_pieces : Option Asked → Bool
is_in_pieces (Some (Run listing order form)) = true
is_in_pieces (Some (Race listing turns watch)) = true
is_in_pieces _ = false

-- What standard error got where a request was done: nothing, or for a watched race the line of its
-- looks, or a prefix of it.
abbrev pub StderrGets : Option Asked → Option (List ℕ) → Option (List ℕ) → Type 0
StderrGets (Some (Race listing turns true)) old new = TellsLooks old new
StderrGets _ old new = new ≡ old

-- a request fails with this exit status; standard error got the fault's line, or a prefix of it
abbrev pub FailsWith : KnownFiles → Option Asked → ℕ → Option (List ℕ) → Option (List ℕ)
    → Option (List ℕ) → Option (List ℕ) → Type 0
FailsWith files request status old new err_old err_new =
    EndsBy status_of fault_text
    (λ told. Fails (IsAnswer files request) (is_in_pieces request) told old new)
    status err_old err_new

-- a watched race ends with the looks of its viewer, and no other command does
abbrev pub IsEndOf : Option Asked → Ended → Type 0
IsEndOf (Some (Race listing turns watch)) end = HasLooks watch end
IsEndOf _ end = IsRunEnd end

-- A command that ended so has this exit status. Standard error got the line of the fault, of the
-- step that was refused or of the looks, or a prefix of it.
abbrev pub Concludes : Result Ended Fault → ℕ → Option (List ℕ) → Option (List ℕ) → Type 0
Concludes (Ok ended.Done) status old new = (status ≡ 0) × (new ≡ old)
Concludes (Ok (ended.Watched looks)) status old new =
    (status ≡ 0) × TakesPrefix old new (line (looks_text looks))
Concludes (Ok (ended.Stopped place refused)) status old new =
    IsTold status_of fault_text (fault.Own (Step place refused)) status old new
Concludes (Err refused) status old new = IsTold status_of fault_text refused status old new
