-- How a command ends, and what standard output then has of its answer.
use Rattle.std.specs.Prelude.{ℕ, List, Option, Some, None, Bool, ⊤}
use Rattle.cores.specs.Runs.{Stop}
use Rattle.printing.specs.Endings.{Answer as AnswerOf, FailsBy}
use Rattle.sim_program.specs.declared.ended.Ended.{Ended}
use Rattle.sim_program.specs.declared.ended.Ended.TheVariants as ended
use Rattle.sim_program.specs.Faults.{Fault, failure_of}

-- The answer to a command: its text, and where a run stopped; or the fault that comes before
-- anything is printed.
abbrev pub Answer : Type 0
Answer = AnswerOf (Option Stop) Fault

-- each fault of a command: when it holds, and what standard output then has of the answer
abbrev pub Fails : (Answer → Type 0) → Bool → Fault → Option (List ℕ) → Option (List ℕ) → Type 0
Fails IsAnswer in_pieces fault old new = FailsBy (failure_of in_pieces fault) IsAnswer fault old new

-- where a run stopped
abbrev pub stop_of : Ended → Option Stop
stop_of ended.Done = None
stop_of (ended.Stopped place fault) = Some (place, fault)
stop_of (ended.Watched looks) = None

-- how a run ends that stopped there
abbrev pub ended_at : Option Stop → Ended
ended_at None = ended.Done
ended_at (Some (place, fault)) = ended.Stopped place fault

-- an end of a command that nobody watches
abbrev pub IsRunEnd : Ended → Type 0
IsRunEnd (ended.Watched looks) = ⊥
IsRunEnd _ = ⊤
